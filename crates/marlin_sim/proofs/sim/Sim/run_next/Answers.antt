use Rattle.std.proofs.Common.{refl, subst}
use Rattle.marlin_sim.specs.Sim.{SimData, HasRunOnly}
use Rattle.marlin_sim.proofs.Lost.{after_err}
use Rattle.marlin_sim.proofs.Steps.{ran_only, sim_of}
use Rattle.marlin_sim.proofs.sim.Sim.run_next.Goals as goal

pub returns-in_err-put-in-Some-clause-err : goal.returns-in_err-put-in-Some-clause-err
returns-in_err-put-in-Some-clause-err c =
    let before = c.self.inside in
    let Only : SimData → Type 0 = λ s. HasRunOnly s (sim_of c.run_one.new.self before.below before.lines c.put.new.self before.text) in
    after_err c.from_residual.result (subst Only c.self.view_is (ran_only before.printer c.run_one.new.self before.below before.lines before.replies c.put.new.self before.text before.text c.in-Some.ran c.in-Some.ensures.ran c.in-Some.ensures.after refl))

pub returns-in_err-append-in-Some-clause-err : goal.returns-in_err-append-in-Some-clause-err
returns-in_err-append-in-Some-clause-err c =
    let before = c.self.inside in
    let Only : SimData → Type 0 = λ s. HasRunOnly s (sim_of c.run_one.new.self before.below before.lines c.put.new.self c.append.new.self) in
    after_err c.from_residual-in_err-append-in-Some.result (subst Only c.self.view_is (ran_only before.printer c.run_one.new.self before.below before.lines before.replies c.put.new.self before.text c.append.new.self c.in-Some.ran c.in-Some.ensures.ran c.in-Some.ensures.after c.in_err-append-in-Some.ensures.err))
