-- How an object of the outside records what it holds or did, and how its count of faults moves.
use Rattle.std.specs.Prelude.{◌≡◌, ℕ, ◌<◌, ◌≤◌, List, ◌++◌, Option, Some, take}
use Rattle.byte_text.specs.Number.{most_u64}

-- recorded afterwards: it was recorded before, and grew by an addition of this kind
abbrev pub Became : {A : Type 0} → Option (List A) → Option (List A) → (List A → List A → Type 0) → Type 0
Became {A} old new Kind = (now : List A) → new ≡ Some now → (past : List A) × (added : List A) × (old ≡ Some past) × (now ≡ past ++ added) × Kind past added

-- the addition is this list
abbrev pub Adds : {A : Type 0} → Option (List A) → Option (List A) → List A → Type 0
Adds old new list = Became old new (λ _ added. added ≡ list)

-- the addition is the first elements of this list
abbrev pub AddsPrefix : {A : Type 0} → Option (List A) → Option (List A) → List A → Type 0
AddsPrefix old new list = Became old new (λ _ added. (n : ℕ) × (added ≡ take n list))

-- the last value of a count
abbrev pub last_count : ℕ
last_count = most_u64

-- a count of faults rose, or is at its last value
abbrev pub Rose : ℕ → ℕ → Type 0
Rose before now = before < last_count → before < now

-- the count of an object's faults after a call, which failed in this case
pub record Counts (Failed : Type 0) (old new : ℕ) : Type 0 where
  -- it didn't fall
  pub later : old ≤ new
  -- and if the call failed, it rose
  pub rose : Failed → Rose old new

-- a count of faults didn't rise, and would have shown it
pub record Steady (before now : ℕ) : Type 0 where
  pub same : now ≡ before
  pub shows : before < last_count
