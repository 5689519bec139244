use Rattle.std.proofs.Common.{subst}
use Rattle.octo_floor_bay.proofs.Numbers.{numbers_differ}
use Rattle.octo_floor.specs.Objects.{store_state}
use Rattle.octo_floor.specs.Floor.{FloorData, IsFloor, setting}
use Rattle.octo_floor.specs.Links.{link_states}
use Rattle.octo_floor.proofs.Goes.{GoesWell, well_round}
use Rattle.octo_floor.proofs.Idle.{idle_round}
use Rattle.octo_floor.proofs.floor.Floor.round.Given as given
use Rattle.octo_floor.proofs.floor.Floor.round.Goals as goal

floor : (g : given.Over) (c : goal.Joined-before g) → IsFloor c.args.self.now
floor g c = subst (λ (f : FloorData). IsFloor f) c.self.view_is c.self.invariant

well : (g : given.Over) (c : goal.Joined-before g) → GoesWell
    (setting c.args.self.now (link_states (g.L.Link.state) c.args.links.now)
    (store_state (g.K.Keeper.state c.args.keeper.now) (g.S.Shelf.state c.args.shelf.now)))
    (setting c.round_into-heard.new.self (link_states (g.L.Link.state)
    c.round_into-heard.new.links)
    (store_state (g.K.Keeper.state c.round_into-heard.new.keeper) (g.S.Shelf.state c.round_into-heard.new.shelf)))
    c.round_into-heard.new.events.items
well g c = well_round c.args.moment
    (setting c.args.self.now (link_states (g.L.Link.state) c.args.links.now)
    (store_state (g.K.Keeper.state c.args.keeper.now) (g.S.Shelf.state c.args.shelf.now)))
    (setting c.round_into-heard.new.self (link_states (g.L.Link.state)
    c.round_into-heard.new.links)
    (store_state (g.K.Keeper.state c.round_into-heard.new.keeper) (g.S.Shelf.state c.round_into-heard.new.shelf)))
    c.round_into-heard.result c.round_into-heard.new.events.items c.round_into-heard.ensures.round (floor g c) c.requires.up

pub returns-clause-goes : goal.returns-clause-goes
returns-clause-goes g c = (well g c).goes

pub returns-clause-idle : goal.returns-clause-idle
returns-clause-idle g c = idle_round c.args.moment
    (setting c.args.self.now (link_states (g.L.Link.state) c.args.links.now)
    (store_state (g.K.Keeper.state c.args.keeper.now) (g.S.Shelf.state c.args.shelf.now)))
    (setting c.round_into-heard.new.self (link_states (g.L.Link.state)
    c.round_into-heard.new.links)
    (store_state (g.K.Keeper.state c.round_into-heard.new.keeper) (g.S.Shelf.state c.round_into-heard.new.shelf)))
    c.round_into-heard.result c.round_into-heard.new.events.items c.round_into-heard.ensures.round (floor g c) c.requires.up

pub returns-clause-numbers : goal.returns-clause-numbers
returns-clause-numbers g c =
    let come = (well g c).floor.came in
    numbers_differ c.round_into-heard.new.self.materials come.first c.round_into-heard.new.self.ledger.history come.came

pub returns-clause-up_after : goal.returns-clause-up_after
returns-clause-up_after g c = (well g c).up
