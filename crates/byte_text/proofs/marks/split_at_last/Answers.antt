use Rattle.std.proofs.Common.{◌≡◌, ◌+◌, ◌-◌, drop, ap, arith, ◌∙◌}
use Rattle.std.proofs.lemmas.List.{take_rest}
use Rattle.byte_text.proofs.MarkLaws.{before_last_is, after_last_is, has_byte_at, has_byte_nowhere}
use Rattle.byte_text.proofs.marks.split_at_last.Goals as goal

pub returns-then-bytes-end-clause-none : goal.returns-then-bytes-end-clause-none
returns-then-bytes-end-clause-none c =
    has_byte_at c.args.byte c.args.bytes.now (c.loop-end.end - 1) (omega arith) c.if-bytes-end.true

pub returns-then-bytes-end-clause-before : goal.returns-then-bytes-end-clause-before
returns-then-bytes-end-clause-before c =
    before_last_is c.args.byte c.args.bytes.now (c.loop-end.end - 1) (omega arith) c.if-bytes-end.true
    (λ k low high. c.loop-end.invariant.1 k (omega arith) high)

pub returns-then-bytes-end-clause-after : goal.returns-then-bytes-end-clause-after
returns-then-bytes-end-clause-after c =
    let e : c.loop-end.end ≡ c.loop-end.end - 1 + 1 = omega arith in
    take_rest c.args.bytes.now c.loop-end.end
    ∙ ap (λ k. drop k c.args.bytes.now) e
    ∙ after_last_is c.args.byte c.args.bytes.now (c.loop-end.end - 1) (omega arith) c.if-bytes-end.true
    (λ k low high. c.loop-end.invariant.1 k (omega arith) high)

pub returns-clause-none : goal.returns-clause-none
returns-clause-none c = has_byte_nowhere c.args.byte c.args.bytes.now (λ k high. c.loop-end.invariant.1 k (omega arith) high)
