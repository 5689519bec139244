use Rattle.std.proofs.Common.{◌∙◌, arith}
use Rattle.octo_session.proofs.Stepping.{takes_more, takes_last, takes_at}
use Rattle.octo_session.proofs.open_turn.send_all.Goals as goal

pub loop-preserved : goal.loop-preserved
loop-preserved g c =
    let i = c.loop.invariant in
    let e = c.in-Sent.ensures in
    record {
      steps = takes_more _ _ _ _ _ _ _ _ _ _ _ i.steps (takes_at _ _ _ _ _ _ _ _ _ _ i.kind e.steps);
      up = e.up;
      kind = e.kind ∙ i.kind;
      counted = omega (arith, i.counted, e.counts.later);
    }

pub returns-in-Failed-clause-steps : goal.returns-in-Failed-clause-steps
returns-in-Failed-clause-steps g c =
    let i = c.loop.invariant in
    takes_last _ _ _ _ _ _ _ _ _ _ _ i.steps (takes_at _ _ _ _ _ _ _ _ _ _ i.kind c.in-Failed.ensures.steps)
