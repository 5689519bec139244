-- What the calls of the outside return and take.
use Rattle.std.specs.Prelude.{◌≡◌, ℕ, ◌<◌, ◌≤◌, List, [], ◌++◌, Option, Some, None, IsSome, length, take, drop}
use Rattle.octo_outside.specs.Memory.{one_more}
use Rattle.octo_outside.specs.declared.conn.Got.{Got}
use Rattle.octo_outside.specs.declared.conn.Got.TheVariants.{Bytes, Quiet, Ended}

-- what a source holds: the bytes of each name that exists
abbrev pub Files : Type 0
Files = List ℕ → Option (List ℕ)

-- a choice in a source of these files: the name exists, and all its bytes are left
pub record Begins (files : Files) (name : List ℕ) (left : Option (List ℕ)) : Type 0 where
  pub there : IsSome (files name)
  pub all_left : left ≡ files name

-- the next n bytes were read
pub record ReadsNext (before : List ℕ) (n : ℕ) (into : List ℕ) (after : Option (List ℕ)) : Type 0 where
  pub within : n ≤ length before
  pub next : take n into ≡ take n before
  pub rest : after ≡ Some (drop n before)

-- a read of a source: the next bytes, and none only if nothing was left
pub record Reads (before : List ℕ) (n : ℕ) (into : List ℕ) (after : Option (List ℕ)) : Type 0 where
  pub reads : ReadsNext before n into after
  pub ended : (n ≡ 0) → before ≡ []

-- a read of a connection, by what it got
abbrev pub Receives : List ℕ → Got → List ℕ → Option (List ℕ) → Type 0
Receives before (Bytes n) into after = ReadsNext before n into after
Receives before Quiet into after = after ≡ Some before
Receives before Ended into after = (before ≡ []) × (after ≡ Some before)

-- bytes that were got are at least one, and not more than there was room for
abbrev pub IsWithin : Got → ℕ → Type 0
IsWithin (Bytes n) room = (0 < n) × (n ≤ room)
IsWithin Quiet room = Unit {0}
IsWithin Ended room = Unit {0}

-- how many reads found nothing yet, after one that got this
abbrev pub quiets_after : ℕ → Got → ℕ
quiets_after quiets (Bytes n) = quiets
quiets_after quiets Quiet = one_more quiets
quiets_after quiets Ended = quiets

-- a moment that isn't before another, if both are recorded
abbrev pub NotBefore : Option ℕ → Option ℕ → Type 0
NotBefore before None = Unit {0}
NotBefore None (Some now) = ⊥
NotBefore (Some before) (Some now) = before ≤ now

-- what a name holds, if anything, is over this many bytes
abbrev pub HoldsOver : Option (List ℕ) → ℕ → Type 0
HoldsOver None most = ⊥
HoldsOver (Some bytes) most = most < length bytes

-- part of what a name holds was read, and the rest is left
abbrev pub ReadSoFar : Option Files → List ℕ → List ℕ → Option (List ℕ) → Type 0
ReadSoFar None name done left = Unit {0}
ReadSoFar (Some files) name done left = (rest : List ℕ) × (left ≡ Some rest) × (files name ≡ Some (done ++ rest))
