use Rattle.std.proofs.Common.{◌≡◌, ◌∙◌, ap, sym, subst}
use Rattle.job_desk.specs.Data.{Data}
use Rattle.job_desk.specs.declared.state.State.{State}
use Rattle.octo_floor_bay.specs.Bay.{BayData, AddsTurn, EndsBy, run_in}
use Rattle.octo_floor_bay.specs.Prints.{IsInStep}
use Rattle.octo_floor_bay.proofs.Leading.{bay_with}
use Rattle.octo_floor_bay.proofs.Turns.{turn_ends}
use Rattle.octo_floor_bay.proofs.Tying.{turn_bay, turn_ties}
use Rattle.octo_floor_bay.proofs.bay.Bay.turn.Given as given
use Rattle.octo_floor_bay.proofs.bay.Bay.turn.Goals as goal

-- the deed that was added, by the desk's state before the turn
adds : (g : given.Over) (c : goal.After-add_turn g) → AddsTurn c.args.moment c.turn-turned.new.self.sender.acked c.self.inside.session.desk.state
    c.turn-turned.new.self.desk.state c.turn-turned.result.note c.self.inside.deeds c.add_turn.new.deeds
adds g c =
    let was : c.state-was.result ≡ c.self.inside.session.desk.state = c.state-was.ensures.state ∙ ap (λ (d : Data). d.state) c.desk.ensures in
    let From : State → Type 0 =
    λ s. AddsTurn c.args.moment c.turn-turned.new.self.sender.acked s c.turn-turned.new.self.desk.state c.turn-turned.result.note c.self.inside.deeds
    c.add_turn.new.deeds
    in
    subst From was c.add_turn.ensures

pub invariant_of-self : goal.invariant_of-self
invariant_of-self g c =
    let t = c.turn-turned.ensures in
    turn_bay c.args.moment (g.L.Link.state c.args.link.now).kind (g.L.Link.state c.args.link.now).past (g.L.Link.state c.turn-turned.new.link).past
    (g.L.Link.state c.args.link.now).calls (g.L.Link.state c.turn-turned.new.link).calls c.self.inside.session c.turn-turned.new.self c.turn-turned.result t.turn t.by_note
    c.self.inside.deeds c.add_turn.new.deeds (adds g c) c.self.invariant

pub returns-clause-bay : goal.returns-clause-bay
returns-clause-bay g c = invariant_of-self g c

pub returns-clause-tied : goal.returns-clause-tied
returns-clause-tied g c front step =
    let t = c.turn-turned.ensures in
    let In : BayData → Type 0 = λ b. IsInStep (g.L.Link.state c.args.link.now).kind front (g.L.Link.state c.args.link.now).past b in
    turn_ties c.args.moment (g.L.Link.state c.args.link.now).kind (g.L.Link.state c.args.link.now).past (g.L.Link.state c.turn-turned.new.link).past
    (g.L.Link.state c.args.link.now).calls (g.L.Link.state c.turn-turned.new.link).calls c.self.inside.session c.turn-turned.new.self c.turn-turned.result t.turn t.by_note
    c.self.inside.deeds c.add_turn.new.deeds (adds g c) front (subst In (sym c.self.view_is) step)

pub returns-clause-ends : goal.returns-clause-ends
returns-clause-ends g c =
    let t = c.turn-turned.ensures in
    let Old : BayData → Type 0 =
    λ b. EndsBy c.turn-turned.result.ending (run_in b) (run_in (bay_with c.turn-turned.new.self c.add_turn.new.deeds))
    in
    subst Old c.self.view_is (turn_ends c.args.moment (g.L.Link.state c.args.link.now).kind (g.L.Link.state c.args.link.now).past (g.L.Link.state c.turn-turned.new.link).past
    (g.L.Link.state c.args.link.now).calls (g.L.Link.state c.turn-turned.new.link).calls c.self.inside.session c.turn-turned.new.self c.turn-turned.result t.turn t.by_note
    t.active c.self.inside.deeds c.add_turn.new.deeds c.self.invariant (adds g c))
