-- What holds of a text in which no byte is odd.
use Rattle.std.proofs.Common.{◌≡◌, ℕ, ◌≤◌, Bool, true, false, not, ◌||◌, ◌==◌, nat_lt, List, [], ◌∷◌, length, refl, sym, ◌∙◌, arith}
use Rattle.std.specs.Prelude.{fold}
use Rattle.std.specs.Bool.{OnTrue}
use Rattle.std.specs.List.{list_any}
use Rattle.std.proofs.lemmas.Bool.{or_parts}
use Rattle.std.proofs.lemmas.Bool.Decides.{nat_tests}
use Rattle.byte_text.specs.Marks.{has_byte, has_m110}
use Rattle.byte_text.proofs.MarkLaws.{has_m110-no_m}
use Rattle.gcode_lines.specs.Text.{is_odd, is_control, is_skipped, is_too_long, has_control}
use Rattle.gcode_lines.proofs.Sendable.{kept_from_parts, list_any-weaker}

-- once a byte was odd it stays so
fold_odd-true : (text : List ℕ) → fold (λ odd byte. odd || is_odd byte) true text ≡ true
fold_odd-true [] = refl
fold_odd-true (byte ∷ text) = fold_odd-true text

fold_odd-false : (text : List ℕ) → fold (λ odd byte. odd || is_odd byte) false text ≡ list_any is_odd text
fold_odd-false [] = refl
fold_odd-false (byte ∷ text) =
    elim (is_odd byte) as (λ t. fold (λ odd byte. odd || is_odd byte) t text ≡ (t || list_any is_odd text)) [
      | true ↦ fold_odd-true text
      | false ↦ fold_odd-false text
    ]

no_m110 : (text : List ℕ) → fold (λ odd byte. odd || is_odd byte) false text ≡ false → has_m110 text ≡ false
unfolding has_byte
no_m110 text none =
    has_m110-no_m text (list_any-weaker is_odd (λ b. b == 77) (λ x h. (or_parts (x == 77) (is_control x) h).0) text (sym (fold_odd-false text) ∙ none))

-- a text of some bytes, whose bytes were looked at
pub kept_plain : (text : List ℕ) (odd : Bool) → 1 ≤ length text → odd ≡ fold (λ odd byte. odd || is_odd byte) false text → OnTrue (not odd) (is_skipped text ≡ false)
kept_plain text true some e = tt
kept_plain text false some e =
    let kept : (length text == 0) ≡ false = grind (arith, nat_tests) in
    kept_from_parts text kept (no_m110 text (sym e))

pub short_plain : (text : List ℕ) (odd : Bool) → length text ≤ 79 → OnTrue (not odd) (is_too_long text ≡ false)
unfolding is_too_long
short_plain text true short = tt
short_plain text false short = let h : nat_lt 79 (length text) ≡ false = grind (arith, nat_tests) in h

pub sound_plain : (text : List ℕ) (odd : Bool) → odd ≡ fold (λ odd byte. odd || is_odd byte) false text → OnTrue (not odd) (has_control text ≡ false)
unfolding has_control
sound_plain text true e = tt
sound_plain text false e =
    list_any-weaker is_odd is_control (λ x h. (or_parts (x == 77) (is_control x) h).1) text (sym (fold_odd-false text) ∙ sym e)
