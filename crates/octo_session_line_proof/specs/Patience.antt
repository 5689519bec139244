-- How long a session waits for an answer.
use Rattle.std.specs.Prelude.{◌≡◌, ℕ, ◌≤◌, Option, Some}
use Rattle.send_window.specs.Data.{SenderData}
use Rattle.send_window.specs.Patience.{IsPatient}

-- a clock showed a moment when turns began and shows one now, after turns up to a moment
pub record IsOnTime (began now : Option ℕ) (moment limit : ℕ) (s : SenderData) : Type 0 where
  pub patient : IsPatient 0 limit s
  pub since : (start at : ℕ) → began ≡ Some start → now ≡ Some at → IsPatient start limit s
  pub later : (start at : ℕ) → began ≡ Some start → now ≡ Some at → start ≤ at
  pub shown : (at : ℕ) → now ≡ Some at → moment ≤ at
