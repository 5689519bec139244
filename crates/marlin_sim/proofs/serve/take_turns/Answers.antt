use Rattle.std.proofs.Common.{◌∙◌, refl, inl, arith}
use Rattle.marlin_sim.proofs.Serving.{used_more}
use Rattle.marlin_sim.proofs.serve.take_turns.Goals as goal

pub loop-preserved : goal.loop-preserved
loop-preserved g c =
    let i = c.loop.invariant in
    let e = c.take_turn.ensures in
    record {
      follows = λ input first going. c.in-On.ensures.follows input first (i.follows input first going);
      used = used_more c.loop.counter _ _ _ _ _ _ e.quiets_counted i.used (c.in-On.ensures.used refl);
      slots = c.in-On.ensures.slots (inl refl) ∙ i.slots;
      quiets_counted = omega (arith, i.quiets_counted, e.quiets_counted);
      conn_counted = omega (arith, i.conn_counted, e.conn.later);
      sink_counted = omega (arith, i.sink_counted, e.sink.later);
    }
