-- Where a print lives in a history, and what its end leaves.
use Rattle.std.specs.Prelude.{◌≡◌, ◌⊎◌, ℕ, ◌≤◌, List, [], ◌∷◌}
use Rattle.job_desk.specs.Run.{Fate}
use Rattle.octo_asks.specs.History.{History}
use Rattle.octo_house_rules.specs.Sessions.{sessions}
use Rattle.octo_house_rules.specs.Lives.{LivesIn, LeavesSo}

-- a print that hasn't ended lives in the last session
pub record IsUnended (print : ℕ) (history : History) (fates : List Fate) : Type 0 where
  pub no_fate : fates ≡ []
  pub lives : LivesIn print history (sessions history)

-- one that has
pub record IsEnded (print : ℕ) (history : History) (fates : List Fate) : Type 0 where
  pub fate : Fate
  pub is : fates ≡ fate ∷ []
  pub home : ℕ
  pub within : home ≤ sessions history
  pub lives : LivesIn print history home
  pub leaves : LeavesSo print fate home history

-- a print over a history
abbrev pub Lives : ℕ → History → List Fate → Type 0
Lives print history fates = IsUnended print history fates ⊎ IsEnded print history fates
