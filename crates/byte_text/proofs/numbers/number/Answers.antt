use Rattle.std.proofs.Common.{◌≡◌, ◌+◌, ◌≤◌, min, get_or, drop, ◌∙◌, sym, ap, arith}
use Rattle.byte_text.proofs.NumberLaws.{number_after, number_after-start, number_after_end, number_after_stop, number_after_step, next_value}
use Rattle.byte_text.proofs.numbers.number.Goals as goal

pub returns-then-not-is_ascii_digit : goal.returns-then-not-is_ascii_digit
returns-then-not-is_ascii_digit c =
    sym (c.loop-byte.invariant.1
    ∙ number_after_stop c.loop-byte.value c.args.bytes.now c.loop-byte.byte-index (omega arith) c.loop-byte.invariant.0 (sym c.is_ascii_digit.ensures.value ∙ c.if-not-is_ascii_digit.true))

pub loop-byte-init : goal.loop-byte-init
loop-byte-init c = (omega arith, number_after-start c.args.bytes.now)

pub loop-byte-preserved : goal.loop-byte-preserved
loop-byte-preserved c =
    let small : c.saturating_add-value.result ≤ 4294967295 = omega arith in
    let value : min (next_value c.loop-byte.value (get_or c.args.bytes.now c.loop-byte.byte-index 0)) 4294967295 ≡ c.saturating_add-value.result = omega arith in (
      small,
      c.loop-byte.invariant.1
          ∙ number_after_step c.loop-byte.value c.args.bytes.now c.loop-byte.byte-index (omega arith) (sym c.is_ascii_digit.ensures.value ∙ c.if-not-is_ascii_digit.false)
          ∙ ap (λ v. number_after v (drop (c.loop-byte.byte-index + 1) c.args.bytes.now)) value,
    )

pub returns : goal.returns
returns c =
    sym (c.loop-byte.invariant.1
    ∙ number_after_end c.loop-byte.value c.args.bytes.now c.loop-byte.byte-index (omega arith) c.loop-byte.invariant.0)
