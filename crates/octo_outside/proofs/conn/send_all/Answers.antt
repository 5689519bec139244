use Rattle.std.proofs.Common.{◌≡◌, ℕ, ◌+◌, ◌-◌, List, ◌++◌, length, take, drop, arith, length-drop, ◌∙◌, ap, sym, subst}
use Rattle.std.proofs.lemmas.List.{take_rest}
use Rattle.std.proofs.Math.Seq.{take-add}
use Rattle.octo_outside.specs.Recorded.{Adds}
use Rattle.octo_outside.proofs.Recorded.{adds_then}
use Rattle.octo_outside.proofs.conn.send_all.Goals as goal

pub loop-done-preserved : goal.loop-done-preserved
loop-done-preserved g c =
    let n = c.in_ok-done.field-0 in
    let bytes = c.args.bytes.now in
    let done = c.loop-done.done in
    let rest : take (length bytes - done) (drop done bytes) ≡ drop done bytes = take_rest bytes done in
    let front : take (done + n) bytes ≡ take done bytes ++ take n (take (length bytes - done) (drop done bytes)) =
    take-add done n bytes ∙ ap (λ (w : List ℕ). take done bytes ++ take n w) (sym rest) in
    let Written : List ℕ → Type 0 = λ xs. Adds (g.C.Conn.state c.args.conn.now).written (g.C.Conn.state c.write.new.self).written xs in
    record {
      within = omega (arith, c.in_ok-done.ensures.ok.1, ap length rest, length-drop done bytes);
      left = c.write.ensures.left ∙ c.loop-done.invariant.left;
      quiets = c.write.ensures.quiets ∙ c.loop-done.invariant.quiets;
      counted = omega (arith, c.loop-done.invariant.counted, c.in_ok-done.ensures.counts.later);
      written = subst Written (sym front) (adds_then _ _ _ _ _ c.loop-done.invariant.written c.in_ok-done.ensures.ok.2);
    }
