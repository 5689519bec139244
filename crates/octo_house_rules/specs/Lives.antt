-- Where a print lives in a history, and what its end leaves.
use Rattle.std.specs.Prelude.{◌≡◌, ◌⊎◌, ℕ, ◌<◌, false, [], drop}
use Rattle.job_desk.specs.Run.{Fate, Finished, Stopped, Left, Unplugged, Broken, print_lines}
use Rattle.octo_asks.specs.History.{History}
use Rattle.octo_house_rules.specs.Issued.{issued_of, trace}
use Rattle.octo_house_rules.specs.Sessions.{sessions, acked_in, is_open}

-- a print lives in one session: all its script lines and file commands were issued in it
pub record LivesIn (print : ℕ) (history : History) (home : ℕ) : Type 0 where
  pub alone : (session : ℕ) → (session ≡ home → ⊥) → print_lines print (issued_of session history) ≡ []
  pub all : trace print history ≡ print_lines print (issued_of home history)

-- all of them are acknowledged: none is after the acknowledged lines of its session
abbrev pub IsAcknowledged : ℕ → ℕ → History → Type 0
IsAcknowledged print home history = print_lines print (drop (acked_in home history) (issued_of home history)) ≡ []

-- the session is closed
abbrev pub IsClosed : ℕ → History → Type 0
IsClosed home history = (home < sessions history) ⊎ (is_open history ≡ false)

-- what the end of a print leaves: if it is done, or was cancelled by a request, all its lines are acknowledged; if the
-- connection ended or failed, its session is closed
abbrev pub LeavesSo : ℕ → Fate → ℕ → History → Type 0
LeavesSo print Finished home history = IsAcknowledged print home history
LeavesSo print Stopped home history = IsAcknowledged print home history
LeavesSo print Left home history = IsAcknowledged print home history
LeavesSo print Unplugged home history = IsClosed home history
LeavesSo print Broken home history = IsClosed home history
