-- A row is found if its place is within the rows.
use Rattle.std.proofs.Common.{◌≡◌, ℕ, ◌+◌, ◌<◌, Bool, true, false, List, [], ◌∷◌, length, is_some, refl, sym, subst, arith}
use Rattle.std.specs.List.{find, position_or_len}

some-more : {X : Type 0} (p : X → Bool) (x : X) (xs : List X) (b : Bool) → p x ≡ b → position_or_len p (x ∷ xs) < length (x ∷ xs)
    → (position_or_len p xs < length xs → is_some (find p xs) ≡ true)
    → is_some (find p (x ∷ xs)) ≡ true
some-more p x xs true is within rest = rw is refl
some-more p x xs false is within rest = let less : 1 + position_or_len p xs < length (x ∷ xs) = rw is at within in rw is (rest (omega arith))

some-within : {X : Type 0} (p : X → Bool) (rows : List X) → position_or_len p rows < length rows → is_some (find p rows) ≡ true
some-within p [] within = absurd (omega arith)
some-within p (x ∷ xs) within = some-more p x xs (p x) refl within (some-within p xs)

pub some-found : {X : Type 0} (p : X → Bool) (rows : List X) (place : ℕ) → place ≡ position_or_len p rows → place < length rows → true ≡ is_some (find p rows)
some-found p rows place at within = sym (some-within p rows (subst (λ i. i < length rows) at within))
