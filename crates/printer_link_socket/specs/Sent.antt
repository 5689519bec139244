-- How lines that wait to be written leave.
use Rattle.std.specs.Prelude.{◌≡◌, ◌⊎◌, ◌≤◌, ℕ, List, ◌∷◌, [], ◌++◌, length, min, take, drop, Option, None, Some, IfSome}
use Rattle.std.specs.Io.KnownBytes.{Appends}

-- a stream wrote these bytes, if what it holds is known
abbrev pub Wrote : {S : Type 0} → (S → Option (List ℕ)) → Option S → Option S → List ℕ → Type 0
Wrote contents None after bytes = ⊥
Wrote contents (Some before) None bytes = ⊥
Wrote contents (Some before) (Some after) bytes = Appends (contents before) (contents after) bytes

-- it took as many of the bytes as it had room for, if its room is known
abbrev pub Fits : {S : Type 0} → (S → Option ℕ) → Option S → (count : ℕ) → (bytes : List ℕ) → Type 0
Fits room None count bytes = ⊥
Fits room (Some stream) count bytes = IfSome (room stream) (λ n. count ≡ min n (length bytes))

-- it is known to have room for all of the bytes
abbrev pub HasRoom : {S : Type 0} → (S → Option ℕ) → Option S → (bytes : List ℕ) → Type 0
HasRoom room None bytes = ⊥
HasRoom room (Some stream) bytes = (n : ℕ) × (room stream ≡ Some n) × (length bytes ≤ n)

-- it took the first of the unsent bytes, in order and each once, and the others are left
pub record Took {S : Type 0} (contents : S → Option (List ℕ)) (room : S → Option ℕ) (before after : Option S)
    (unsent left : List ℕ) : Type 0 where
  pub count : ℕ
  pub wrote : Wrote contents before after (take count unsent)
  pub fits : Fits room before count unsent
  pub leaves : left ≡ drop count unsent

-- it took bytes and then did something else
abbrev pub TookFirst : {S : Type 0} → (S → Option (List ℕ)) → (S → Option ℕ) → Option S → (unsent left : List ℕ) → Type 0
TookFirst {S} contents room before unsent left = (after : S) × Took contents room before (Some after) unsent left

-- a line waits after what a stream left of those that waited
abbrev pub Follows : {S : Type 0} → (S → Option (List ℕ)) → (S → Option ℕ) → (line : List ℕ) → (unsent unsent' : List ℕ)
    → (before after : Option S) → Type 0
Follows contents room line unsent unsent' before after =
    (left : List ℕ) × Took contents room before after unsent left × (unsent' ≡ left ++ line ++ 10 ∷ [])

-- a line waits after those that waited, or after what is left of them
abbrev pub Joins : {S : Type 0} → (S → Option (List ℕ)) → (S → Option ℕ) → (line : List ℕ) → (unsent unsent' : List ℕ)
    → (before after : Option S) → Type 0
Joins contents room line unsent unsent' before after =
    ((unsent' ≡ unsent ++ line ++ 10 ∷ []) × (after ≡ before))
    ⊎ Follows contents room line unsent unsent' before after
