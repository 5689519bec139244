use Rattle.std.proofs.Common.{◌≡◌, ◌*◌, ◌≤◌, length}
use Rattle.octo_floor.specs.Objects.{store_state}
use Rattle.octo_floor.specs.Floor.{setting, IsFloor, AreUp}
use Rattle.octo_floor.specs.Links.{link_states}
use Rattle.octo_floor.specs.Round.{Steps}
use Rattle.octo_floor.proofs.floor.Floor.round_into.Given as goal

-- the parts of the printers so far
abbrev pub invariant-loop-printer : goal.invariant-loop-printer
invariant-loop-printer g l = record {
  steps : Steps l.printer l.moment
      (setting l.initial.self (link_states (g.L.Link.state) l.initial.links)
      (store_state (g.K.Keeper.state l.initial.keeper) (g.S.Shelf.state l.initial.shelf)))
      (setting l.self (link_states (g.L.Link.state) l.links)
      (store_state (g.K.Keeper.state l.keeper) (g.S.Shelf.state l.shelf)))
      l.heard l.events.items;
  end : l.printer-end ≡ length l.initial.self.bays;
  moment : l.moment ≡ l.fn.moment;
  few : length l.events.items ≤ 3 * l.printer;
  up : AreUp l.self.bays (link_states (g.L.Link.state) l.links);
  floor : IsFloor l.initial.self;
}
