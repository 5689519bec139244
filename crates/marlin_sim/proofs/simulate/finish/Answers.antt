use Rattle.std.proofs.Common.{inl, inr, refl}
use Rattle.marlin_sim.proofs.Serving.{printed_ending, lost_ending}
use Rattle.marlin_sim.proofs.simulate.finish.Goals as goal

pub returns-in-Ok : goal.returns-in-Ok
returns-in-Ok g c =
    record {
      follows = λ plan input first left wrote ending. printed_ending c.args.ending plan input first left wrote _ _ c.args.sim.now c.in_default.not-SinkFailed ending c.in-Ok.ensures.ok;
      same = inl refl;
      counted = c.print_text.ensures.counts.later;
      failed = λ failed. inl failed;
    }

pub returns-in-Err : goal.returns-in-Err
returns-in-Err g c =
    record {
      follows = λ plan input first left wrote ending. lost_ending c.args.ending plan input first left wrote _ _ c.args.sim.now c.in_default.not-SinkFailed ending c.in-Err.ensures.err;
      same = inr refl;
      counted = c.print_text.ensures.counts.later;
      failed = λ _. inr (c.in-Err.ensures.counts.rose refl);
    }
