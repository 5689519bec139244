-- How long a session waits for an answer.
use Rattle.std.specs.Prelude.{◌≡◌, ◌⊎◌, ℕ, ◌<◌, false, true}
use Rattle.send_window.specs.Data.{SenderData, IsSound, most_lines, most_silent, most_told}
use Rattle.send_window.specs.Session.{WaitsSince}
use Rattle.send_window.specs.declared.session_end.SessionEnd.{SessionEnd}
use Rattle.send_window.specs.declared.session_end.SessionEnd.TheVariants.{NoAnswer, LostOk, NumbersUsed}

-- from a moment on a sender waits five limits before it ends with no answer, and twenty before it ends for a missing `ok`
pub record IsPatient (start limit : ℕ) (s : SenderData) : Type 0 where
  pub sound : IsSound s
  pub its_limit : s.limit ≡ limit
  pub waits : WaitsSince start s

-- the hello or an issued line isn't acknowledged
abbrev pub IsUnanswered : SenderData → Type 0
IsUnanswered s = (s.ready ≡ false) ⊎ (s.acked < s.issued)

-- an issued line isn't acknowledged
abbrev pub IsMissing : SenderData → Type 0
IsMissing s = (s.ready ≡ true) × (s.acked < s.issued)

-- no answer is the end only after five limits, with the hello or a line unacknowledged, and a missing `ok` only after
-- twenty, with a line unacknowledged; used numbers are the end only once all lines are acknowledged
abbrev pub FitsEnd : SessionEnd → SenderData → Type 0
FitsEnd (NoAnswer count) s = (count ≡ most_silent) × IsUnanswered s
FitsEnd (LostOk limits) s = (limits ≡ most_told) × IsMissing s
FitsEnd (NumbersUsed all) s = (all ≡ most_lines) × (s.acked ≡ most_lines)
FitsEnd _ s = Unit {0}
