-- Steps of the readers.
use Rattle.std.proofs.Common.{◌≡◌, ℕ, ◌≤◌, true, false, not, ◌-◌, ◌&&◌, ◌==◌, cond, eqb, nat_eq, List, [], ◌∷◌, length, drop, sym, ap, ◌∙◌, refl, arith}
use Rattle.std.specs.List.{starts_with, suffix_len}
use Rattle.std.proofs.lemmas.Bool.{and_parts, and_right, cond_both}
use Rattle.std.proofs.lemmas.Bool.Decides.{nat_tests}
use Rattle.std.proofs.lemmas.List.{length-take, length-drop}
use Rattle.byte_text.specs.Number.{leading_digits}
use Rattle.marlin_frame.specs.Frame.{begins_with_n, has_checksum, checksum_matches, fails, checked_part, after_first_digits, after_space, text_of}

same_test : (a b : ℕ) → (eqb a b && true) ≡ eqb b a
same_test a b = grind (arith, nat_tests)

pub starts_with_n : (line : List ℕ) → starts_with nat_eq line (78 ∷ []) ≡ begins_with_n line
unfolding begins_with_n
starts_with_n [] = refl
starts_with_n (byte ∷ line) = same_test 78 byte

pub after_space-some : (bytes : List ℕ) → starts_with nat_eq bytes (32 ∷ []) ≡ true → drop 1 bytes ≡ after_space bytes
unfolding after_space
after_space-some [] starts = refl
after_space-some (byte ∷ bytes) starts = ap (λ b. cond b bytes (byte ∷ bytes)) (sym (sym (same_test 32 byte) ∙ starts))

pub after_space-none : (bytes : List ℕ) → starts_with nat_eq bytes (32 ∷ []) ≡ false → bytes ≡ after_space bytes
unfolding after_space
after_space-none [] starts = refl
after_space-none (byte ∷ bytes) starts = ap (λ b. cond b bytes (byte ∷ bytes)) (sym (sym (same_test 32 byte) ∙ starts))

pub fails-whole : (line : List ℕ) → has_checksum line ≡ true → checksum_matches line ≡ true → fails line ≡ false
unfolding fails
fails-whole line has matches =
    ap (λ b. begins_with_n line && not (b && checksum_matches line)) has
    ∙ ap (λ b. begins_with_n line && not b) matches
    ∙ and_right (begins_with_n line) false refl

pub begins_with_n-fails : (line : List ℕ) → fails line ≡ true → begins_with_n line ≡ true
unfolding fails
begins_with_n-fails line failing = (and_parts (begins_with_n line) (not (has_checksum line && checksum_matches line)) failing).0

length-drop-le : (n : ℕ) (bytes : List ℕ) → length (drop n bytes) ≤ length bytes
length-drop-le n bytes = omega (arith, length-drop n bytes)

length-after_space : (bytes : List ℕ) → length (after_space bytes) ≤ length bytes
unfolding after_space
length-after_space [] = omega arith
length-after_space (byte ∷ bytes) = cond_both (byte == 32) bytes (byte ∷ bytes) (λ rest. length rest ≤ length (byte ∷ bytes)) (λ _. omega arith) (λ _. omega arith)

pub length-text_of : (line : List ℕ) → length (text_of line) ≤ length line
unfolding text_of after_first_digits checked_part
length-text_of line =
    let checked = checked_part line in
    omega (
      arith,
      length-take (length line - suffix_len (λ byte. not (byte == 42)) line - 1) line,
      length-drop-le 1 checked,
      length-drop-le (length (leading_digits (drop 1 checked))) (drop 1 checked),
      length-after_space (after_first_digits (drop 1 checked)),
    )
