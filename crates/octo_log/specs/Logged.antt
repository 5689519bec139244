-- What a log gets.
use Rattle.std.specs.Prelude.{ℕ, ◌≤◌, List, Option}
use Rattle.octo_outside.specs.Recorded.{Adds, Became, Steady}

-- a log has grown, if it records what it got
abbrev pub Grew : Option (List ℕ) → Option (List ℕ) → Type 0
Grew old new = Became old new (λ _ added. Unit {0})

-- a log got these lines, all of them if no write failed
pub record Logs (lines : List ℕ) (old new : Option (List ℕ)) (faults faults' : ℕ) : Type 0 where
  pub grew : Grew old new
  pub whole : Steady faults faults' → Adds old new lines
  pub counted : faults ≤ faults'
