use Rattle.std.proofs.Common.{inl, inr, ◌∙◌}
use Rattle.marlin_sim.specs.Sim.{HasRunOnly}
use Rattle.marlin_sim.proofs.Lost.{after_err, on_err}
use Rattle.marlin_sim.proofs.Steps.{run_keeps}
use Rattle.marlin_sim.proofs.sim.Sim.step.Goals as goal

pub returns-clause-kept : goal.returns-clause-kept
returns-clause-kept c =
    run_keeps c.args.self.now c.arrive_all.new.self c.run_next.new.self c.run_next.result c.in_ok-arrive_all.ensures.kept c.run_next.ensures.ok

pub returns-clause-err : goal.returns-clause-err
returns-clause-err c =
    on_err c.run_next.result
    (λ (only : HasRunOnly c.arrive_all.new.self c.run_next.new.self). (record {
      replies = only.replies;
      text = only.text;
      steps = inr (record {
        mid = c.arrive_all.new.self;
        arrives = c.in_ok-arrive_all.ensures.arrives;
        stuck = c.in_ok-arrive_all.ensures.all;
        runs = only.ran;
      });
      unprinted = only.unprinted ∙ c.arrive_all.ensures.text;
    }))
    c.run_next.ensures.err

pub returns-in_err-arrive_all-clause-err : goal.returns-in_err-arrive_all-clause-err
returns-in_err-arrive_all-clause-err c =
    let only = c.in_err-arrive_all.ensures.err in
    after_err c.from_residual.result
    (record { replies = only.0; text = c.arrive_all.new.self.text; steps = inl only.1; unprinted = c.arrive_all.ensures.text })
