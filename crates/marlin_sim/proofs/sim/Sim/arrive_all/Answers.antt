use Rattle.std.proofs.Common.{Bool, refl, ◌∙◌, ap, subst, arith}
use Rattle.marlin_sim.specs.Sim.{SimData, Arrived, AfterArrival, no_line, one_line}
use Rattle.marlin_sim.proofs.Lost.{after_err}
use Rattle.marlin_sim.proofs.Steps.{arrived_follows, arrived_work, keeps_then}
use Rattle.marlin_sim.proofs.sim.Sim.arrive_all.Goals as goal

pub loop-init : goal.loop-init
loop-init c = record { arrives = no_line c.args.self.now; kept = λ plan input rest wrote printed t. t; work = omega arith; text = refl; slots = refl }

pub loop-preserved : goal.loop-preserved
loop-preserved c =
    let After : Bool → Type 0 = λ did. AfterArrival did c.loop.self c.arrive_next.new.self in
    let arrived : Arrived c.loop.self c.arrive_next.new.self = subst After c.if-branch.true c.in_ok-arrive_next.ensures.ok in
    let less = arrived_work c.loop.self c.arrive_next.new.self arrived in
    record {
      arrives = one_line c.args.self.now c.loop.self c.arrive_next.new.self c.loop.invariant.arrives arrived;
      kept = keeps_then c.args.self.now c.loop.self c.arrive_next.new.self c.loop.invariant.kept (λ plan input rest wrote printed t. arrived_follows plan input rest wrote printed _ _ arrived t);
      work = omega (arith, less.0, c.loop.invariant.work);
      text = ap (λ (s : SimData). s.text) arrived.is ∙ c.loop.invariant.text;
      slots = less.1 ∙ c.loop.invariant.slots;
    }

pub returns-in_err-arrive_next-clause-err : goal.returns-in_err-arrive_next-clause-err
returns-in_err-arrive_next-clause-err c =
    let only = c.in_err-arrive_next.ensures.err in
    after_err c.from_residual.result
    (only.0, one_line c.args.self.now c.loop.self (record c.arrive_next.new.self { replies = only.0 }) c.loop.invariant.arrives only.1)

pub returns-in_err-arrive_next-clause-text : goal.returns-in_err-arrive_next-clause-text
returns-in_err-arrive_next-clause-text c = ap (λ (s : SimData). s.text) c.in_err-arrive_next.ensures.err.1.is ∙ c.loop.invariant.text
