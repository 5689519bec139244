-- The exclusive or of joined bytes, and that it is a byte again.
use Rattle.std.proofs.Common.{◌≡◌, ℕ, ◌<◌, ◌^◌, List, [], ◌∷◌, ◌++◌, fold, bit_xor, arith, sym, ap, ◌∙◌}
use Rattle.std.specs.List.{AllByRecursion, All}
use Rattle.std.specs.Int.Bits.{xor_assoc, xor_zero_l, xor_zero_r}
use Rattle.std.proofs.lemmas.Nat.{xor_lt}
use Rattle.std.proofs.lemmas.List.Sums.{fold-append}
use Rattle.std.proofs.lemmas.List.Elements.{recursion_from_All}
use Rattle.byte_text.specs.Xor.{xor_of}

-- a running sum is the sum so far and the rest's sum
pub fold_xor : (sum : ℕ) (bytes : List ℕ) → fold bit_xor sum bytes ≡ bit_xor sum (fold bit_xor 0 bytes)
fold_xor sum [] = sym (xor_zero_r sum)
fold_xor sum (byte ∷ bytes) =
    fold_xor (bit_xor sum byte) bytes ∙ xor_assoc sum byte (fold bit_xor 0 bytes)
    ∙ ap (bit_xor sum) (sym (ap (λ b. fold bit_xor b bytes) (xor_zero_l byte) ∙ fold_xor byte bytes))

pub xor_of-append : (front back : List ℕ) → xor_of (front ++ back) ≡ bit_xor (xor_of front) (xor_of back)
unfolding xor_of
xor_of-append front back = fold-append bit_xor 0 front back ∙ fold_xor (fold bit_xor 0 front) back

fold_xor-lt : (sum : ℕ) (bytes : List ℕ) → sum < 2 ^ 8 → AllByRecursion (λ b. b < 2 ^ 8) bytes → fold bit_xor sum bytes < 2 ^ 8
fold_xor-lt sum [] small each = small
fold_xor-lt sum (byte ∷ bytes) small each = fold_xor-lt (bit_xor sum byte) bytes (xor_lt 8 sum byte small each.0) each.1

pub xor_of-lt : (bytes : List ℕ) → All (λ b. b < 2 ^ 8) bytes → xor_of bytes < 2 ^ 8
unfolding xor_of
xor_of-lt bytes each = fold_xor-lt 0 bytes (omega arith) (recursion_from_All (λ b. b < 2 ^ 8) bytes each)
