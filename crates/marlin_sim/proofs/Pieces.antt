-- Bytes cut at a mark, and their whole lines.
use Rattle.std.proofs.Common.{◌≡◌, ℕ, true, false, List, ◌∷◌, ◌++◌, ◌∙◌, ap}
use Rattle.std.proofs.Common.{arith}
use Rattle.std.proofs.lemmas.Bool.Decides.{nat_tests}
use Rattle.std.specs.Prelude.{◌==◌}
use Rattle.std.specs.List.{All, slice_split}
use Rattle.std.proofs.lemmas.List.Splits.{slice_split_at}

-- a mark is one
pub same_mark : (mark : ℕ) → (mark == mark) ≡ true
same_mark mark = grind (arith, nat_tests)

-- the first piece, and the pieces after the mark
pub split_front : (mark : ℕ) (bytes front behind : List ℕ) → bytes ≡ front ++ mark ∷ behind → All (λ b. (b == mark) ≡ false) front → slice_split (λ b. b == mark) bytes ≡ front ∷ slice_split (λ b. b == mark) behind
split_front mark bytes front behind is none =
    ap (slice_split (λ b. b == mark)) is ∙ slice_split_at (λ b. b == mark) front mark behind none (same_mark mark)
