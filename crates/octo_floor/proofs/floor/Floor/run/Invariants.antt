use Rattle.std.proofs.Common.{◌≡◌, true, false}
use Rattle.octo_floor_bay.specs.Events.{FloorHistory}
use Rattle.octo_floor.specs.Objects.{store_state}
use Rattle.octo_floor.specs.Floor.{setting}
use Rattle.octo_floor.specs.Links.{link_states}
use Rattle.octo_floor.specs.Run.{IsOpen}
use Rattle.octo_floor.proofs.Called.{IsCalled}
use Rattle.octo_floor.proofs.Goes.{GoesWell}
use Rattle.octo_floor.proofs.Rounds.{HaveMade}
use Rattle.octo_floor.proofs.Running.{IsLeaving}
use Rattle.octo_floor.proofs.floor.Floor.run.Given as goal

-- the rounds so far, by whose events the floor went on; until it leaves its printers stay open, and then they are gone
abbrev pub invariant-loop : goal.invariant-loop
invariant-loop g l = record {
  goes : (events : FloorHistory) × GoesWell
      (setting l.initial.self (link_states (g.L.Link.state) l.initial.links)
      (store_state (g.K.Keeper.state l.initial.keeper) (g.S.Shelf.state l.initial.shelf)))
      (setting l.self (link_states (g.L.Link.state) l.links)
      (store_state (g.K.Keeper.state l.keeper) (g.S.Shelf.state l.shelf)))
      events;
  made : HaveMade l.counter
      (setting l.initial.self (link_states (g.L.Link.state) l.initial.links)
      (store_state (g.K.Keeper.state l.initial.keeper) (g.S.Shelf.state l.initial.shelf)))
      (setting l.self (link_states (g.L.Link.state) l.links)
      (store_state (g.K.Keeper.state l.keeper) (g.S.Shelf.state l.shelf)));
  still_open : l.leaves ≡ false → IsOpen l.initial.self → IsOpen l.self;
  leaving : l.leaves ≡ true → IsLeaving l.initial.self l.self;
  used : IsCalled l.counter (link_states (g.L.Link.state) l.initial.links) l.self
      (link_states (g.L.Link.state) l.links);
}
