use Rattle.std.proofs.Common.{◌+◌, refl, sym, ◌∙◌, subst, arith}
use Rattle.std.proofs.lemmas.Bool.{false≢true}
use Rattle.octo_floor_bay.specs.Events.{FloorHistory}
use Rattle.octo_floor_bay.proofs.Numbers.{numbers_differ}
use Rattle.printer_link.specs.Calls.{LinkState}
use Rattle.octo_floor.specs.Objects.{StoreState, store_state}
use Rattle.octo_floor.specs.Fields.{floor_of}
use Rattle.octo_floor.specs.Floor.{FloorData, Setting, setting, AreUp}
use Rattle.octo_floor.specs.Links.{link_states}
use Rattle.octo_floor.specs.Points.{GoesOn}
use Rattle.octo_floor.specs.Rounds.{HasRounds}
use Rattle.octo_floor.specs.Run.{IsOpen, HaveLeft}
use Rattle.octo_floor.proofs.Called.{called_first, called_on, called_bound, goes_on}
use Rattle.octo_floor.proofs.Goes.{GoesWell}
use Rattle.octo_floor.proofs.Rounds.{HaveMade, made_first, made_on, rounds_over, rounds_used}
use Rattle.octo_floor.proofs.Running.{IsAfter, IsLeaving, ran_on, run_begins, run_first, ends_for}
use Rattle.octo_floor.proofs.floor.Floor.run.Given as given
use Rattle.octo_floor.proofs.floor.Floor.run.Goals.{else-leaves-via-then-leaves+else-have_left, else-leaves-via-else-leaves}
use Rattle.octo_floor.proofs.floor.Floor.run.Goals as goal

pub round_into-heard-requires-clause-up : goal.round_into-heard-requires-clause-up
round_into-heard-requires-clause-up g c lifetimes live = c.loop.invariant.goes.1.up

pub loop-init : goal.loop-init
loop-init g c =
    let state : _ → LinkState = g.L.Link.state in
    let up : AreUp c.self.inside.bays.items (link_states g.L.Link.state c.args.links.now) =
    subst (λ (f : FloorData). AreUp f.bays (link_states g.L.Link.state c.args.links.now)) (sym c.self.view_is) c.requires.up
    in
    let first : FloorData = record (floor_of c.self.inside) { ledger = c.begin_run.new.self } in
    record {
      goes =
          run_begins (floor_of c.self.inside) c.begin_run.new.self (link_states g.L.Link.state c.args.links.now)
          (store_state (g.K.Keeper.state c.args.keeper.now) (g.S.Shelf.state c.args.shelf.now)) c.begin_run.ensures
          c.self.invariant up;
      made = made_first (setting first (link_states g.L.Link.state c.args.links.now)
          (store_state (g.K.Keeper.state c.args.keeper.now) (g.S.Shelf.state c.args.shelf.now)));
      still_open = λ not is. is;
      leaving = λ is. absurd {A = IsLeaving first first} (false≢true is);
      used = called_first first (link_states g.L.Link.state c.args.links.now);
    }

-- some printer hasn't left yet
going : (g : given.Over) (c : goal.Joined-not-heard g) → HaveLeft c.leave-leaves.new.self → ⊥
going g c left = elim c.else-leaves.branch [
  | else-leaves-via-then-leaves+else-have_left w ↦ w.if-have_left.ensures.no refl left
  | else-leaves-via-else-leaves w ↦ goes_on c.loop.leaves c.leave-leaves.result c.round_into-heard.new.self c.leave-leaves.new.self c.leave-leaves.ensures
      w.if-leaves.false left
]

pub loop-preserved : goal.loop-preserved
loop-preserved g c =
    let state : _ → LinkState = g.L.Link.state in
    let store : _ → _ → StoreState = λ keeper shelf. store_state (g.K.Keeper.state keeper) (g.S.Shelf.state shelf) in
    let first : Setting = setting (record (floor_of c.self.inside) { ledger = c.begin_run.new.self }) (link_states g.L.Link.state c.args.links.now)
    (store c.args.keeper.now c.args.shelf.now)
    in
    let x : Setting = setting c.loop.self (link_states g.L.Link.state c.loop.links) (store c.loop.keeper c.loop.shelf) in
    let y : Setting = setting c.round_into-heard.new.self (link_states g.L.Link.state c.round_into-heard.new.links)
    (store c.round_into-heard.new.keeper c.round_into-heard.new.shelf)
    in
    let so = ran_on first x y c.max-moment.result c.round_into-heard.result c.round_into-heard.new.events.items c.loop.leaves c.leave-leaves.result
    c.leave-leaves.new.self c.round_into-heard.ensures.round c.loop.invariant.goes c.loop.invariant.still_open c.loop.invariant.leaving c.leave-leaves.ensures
    in
    record {
      goes = so.0;
      made = made_on c.loop.counter c.max-moment.result first x y c.round_into-heard.result c.round_into-heard.new.events.items c.loop.leaves
          c.leave-leaves.result c.leave-leaves.new.self c.round_into-heard.ensures.round c.loop.invariant.goes.1.floor c.loop.invariant.goes.1.up
          c.loop.invariant.made c.leave-leaves.ensures;
      still_open = so.1.still_open;
      leaving = so.1.leaving;
      used =
          called_on c.loop.counter c.max-moment.result (link_states g.L.Link.state c.args.links.now) x y c.round_into-heard.result c.round_into-heard.new.events.items
          c.loop.leaves c.leave-leaves.result c.leave-leaves.new.self c.round_into-heard.ensures.round c.loop.invariant.goes.1.floor c.loop.invariant.goes.1.up
          c.loop.invariant.used c.leave-leaves.ensures so.1.began (going g c);
    }

-- what holds after the last round
ended : (g : given.Over) (c : goal.After-end g) →
    ((es : FloorHistory) × GoesWell
    (setting (record (floor_of c.self.inside) { ledger = c.begin_run.new.self })
    (link_states (g.L.Link.state) c.args.links.now)
    (store_state (g.K.Keeper.state c.args.keeper.now) (g.S.Shelf.state c.args.shelf.now)))
    (setting c.leave-leaves.new.self
    (link_states (g.L.Link.state) c.round_into-heard.new.links)
    (store_state (g.K.Keeper.state c.round_into-heard.new.keeper) (g.S.Shelf.state c.round_into-heard.new.shelf))) es)
    × IsAfter (record (floor_of c.self.inside) { ledger = c.begin_run.new.self }) c.leave-leaves.result c.leave-leaves.new.self
ended g c =
    let state : _ → LinkState = g.L.Link.state in
    let store : _ → _ → StoreState = λ keeper shelf. store_state (g.K.Keeper.state keeper) (g.S.Shelf.state shelf) in
    let first : Setting = setting (record (floor_of c.self.inside) { ledger = c.begin_run.new.self }) (link_states g.L.Link.state c.args.links.now)
    (store c.args.keeper.now c.args.shelf.now)
    in
    let x : Setting = setting c.loop.self (link_states g.L.Link.state c.loop.links) (store c.loop.keeper c.loop.shelf) in
    let y : Setting = setting c.round_into-heard.new.self (link_states g.L.Link.state c.round_into-heard.new.links)
    (store c.round_into-heard.new.keeper c.round_into-heard.new.shelf)
    in
    ran_on first x y c.max-moment.result c.round_into-heard.result c.round_into-heard.new.events.items c.loop.leaves c.leave-leaves.result
    c.leave-leaves.new.self c.round_into-heard.ensures.round c.loop.invariant.goes c.loop.invariant.still_open c.loop.invariant.leaving c.leave-leaves.ensures

pub returns-then-have_left-clause-goes : goal.returns-then-have_left-clause-goes
returns-then-have_left-clause-goes g c =
    let state : _ → LinkState = g.L.Link.state in
    let store : _ → _ → StoreState = λ keeper shelf. store_state (g.K.Keeper.state keeper) (g.S.Shelf.state shelf) in
    let so = (ended g c).0 in
    let From : FloorData → Type 0 = λ f. GoesOn (setting f (link_states g.L.Link.state c.args.links.now) (store c.args.keeper.now c.args.shelf.now))
    (setting c.leave-leaves.new.self (link_states g.L.Link.state c.round_into-heard.new.links) (store c.round_into-heard.new.keeper c.round_into-heard.new.shelf)) so.0
    in
    (so.0, subst From (run_first (floor_of c.self.inside) c.args.self.now c.begin_run.new.self c.begin_run.ensures c.self.view_is) so.1.goes)

pub returns-then-have_left-clause-rounds : goal.returns-then-have_left-clause-rounds
returns-then-have_left-clause-rounds g c =
    let state : _ → LinkState = g.L.Link.state in
    let store : _ → _ → StoreState = λ keeper shelf. store_state (g.K.Keeper.state keeper) (g.S.Shelf.state shelf) in
    let first : Setting = setting (record (floor_of c.self.inside) { ledger = c.begin_run.new.self }) (link_states g.L.Link.state c.args.links.now)
    (store c.args.keeper.now c.args.shelf.now)
    in
    let x : Setting = setting c.loop.self (link_states g.L.Link.state c.loop.links) (store c.loop.keeper c.loop.shelf) in
    let y : Setting = setting c.round_into-heard.new.self (link_states g.L.Link.state c.round_into-heard.new.links)
    (store c.round_into-heard.new.keeper c.round_into-heard.new.shelf)
    in
    let last : Setting = setting c.leave-leaves.new.self y.links y.store in
    let made : HaveMade (c.loop.counter + 1) first last =
    made_on c.loop.counter c.max-moment.result first x y c.round_into-heard.result c.round_into-heard.new.events.items c.loop.leaves
    c.leave-leaves.result c.leave-leaves.new.self c.round_into-heard.ensures.round c.loop.invariant.goes.1.floor c.loop.invariant.goes.1.up
    c.loop.invariant.made c.leave-leaves.ensures
    in
    let within = c.loop-test.true in
    let From : FloorData → Type 0 = λ f. HasRounds c.args.turns (setting f (link_states g.L.Link.state c.args.links.now) (store c.args.keeper.now c.args.shelf.now))
    last c.end.result.why in
    subst From (run_first (floor_of c.self.inside) c.args.self.now c.begin_run.new.self c.begin_run.ensures c.self.view_is)
    (rounds_over (c.loop.counter + 1) c.args.turns first last c.end.result.why c.leave-leaves.new.self.ledger.fault (omega (arith, within))
    (c.end.ensures.why ∙ c.reason.ensures) made)

pub returns-then-have_left-clause-records : goal.returns-then-have_left-clause-records
returns-then-have_left-clause-records g c =
    let come = (ended g c).0.1.floor.came in
    numbers_differ c.leave-leaves.new.self.materials come.first c.leave-leaves.new.self.ledger.history come.came

pub returns-then-have_left-clause-ends : goal.returns-then-have_left-clause-ends
returns-then-have_left-clause-ends g c =
    ends_for c.args.self.now (record (floor_of c.self.inside) { ledger = c.begin_run.new.self }) c.leave-leaves.new.self c.end.result.why
    (c.end.ensures.why ∙ c.reason.ensures) (c.if-have_left.ensures.yes refl) ((ended g c).1.leaving c.if-leaves.true)
    (λ is. subst (λ (f : FloorData). IsOpen f) (sym c.self.view_is) is)

pub returns-then-have_left-clause-up_after : goal.returns-then-have_left-clause-up_after
returns-then-have_left-clause-up_after g c = (ended g c).0.1.up

pub returns-clause-rounds : goal.returns-clause-rounds
returns-clause-rounds g c =
    let state : _ → LinkState = g.L.Link.state in
    let store : _ → _ → StoreState = λ keeper shelf. store_state (g.K.Keeper.state keeper) (g.S.Shelf.state shelf) in
    let first : Setting = setting (record (floor_of c.self.inside) { ledger = c.begin_run.new.self }) (link_states g.L.Link.state c.args.links.now)
    (store c.args.keeper.now c.args.shelf.now)
    in
    let last : Setting = setting c.loop.self (link_states g.L.Link.state c.loop.links) (store c.loop.keeper c.loop.shelf) in
    let From : FloorData → Type 0 = λ f. HasRounds c.args.turns (setting f (link_states g.L.Link.state c.args.links.now) (store c.args.keeper.now c.args.shelf.now))
    last c.end-2.result.why in
    subst From (run_first (floor_of c.self.inside) c.args.self.now c.begin_run.new.self c.begin_run.ensures c.self.view_is)
    (rounds_used c.loop.counter c.args.turns first last c.end-2.result.why c.loop.auto.counter-end c.loop-test.false c.loop.invariant.used.going
    c.loop.invariant.made)

pub returns-clause-records : goal.returns-clause-records
returns-clause-records g c =
    let come = c.loop.invariant.goes.1.floor.came in
    numbers_differ c.loop.self.materials come.first c.loop.self.ledger.history come.came

pub returns-clause-goes : goal.returns-clause-goes
returns-clause-goes g c =
    let state : _ → LinkState = g.L.Link.state in
    let store : _ → _ → StoreState = λ keeper shelf. store_state (g.K.Keeper.state keeper) (g.S.Shelf.state shelf) in
    let so = c.loop.invariant.goes in
    let From : FloorData → Type 0 = λ f. GoesOn (setting f (link_states g.L.Link.state c.args.links.now) (store c.args.keeper.now c.args.shelf.now))
    (setting c.loop.self (link_states g.L.Link.state c.loop.links) (store c.loop.keeper c.loop.shelf)) so.0
    in
    (so.0, subst From (run_first (floor_of c.self.inside) c.args.self.now c.begin_run.new.self c.begin_run.ensures c.self.view_is) so.1.goes)

pub returns-clause-used : goal.returns-clause-used
returns-clause-used g c is =
    called_bound c.loop.counter c.args.turns
    (link_states (g.L.Link.state) c.args.links.now)
    (link_states (g.L.Link.state) c.loop.links) c.loop.self c.loop.invariant.goes.1.floor
    c.loop-test.false c.loop.invariant.used
