-- What a turn finds and issues, by what it received.
use Rattle.std.specs.Prelude.{◌≡◌, ◌↔◌, ℕ, true, false, [], None, Some}
use Rattle.job_desk.specs.declared.link_fact.LinkFact.TheVariants as fact
use Rattle.send_window.specs.declared.session_end.SessionEnd.{SessionEnd}
use Rattle.send_window.specs.Data.{SenderData}
use Rattle.send_window.specs.Sending.{next_of}
use Rattle.octo_session.specs.Found.{Got, lost, temps_kept, temps_in, end_by, may_issue}
use Rattle.octo_session.specs.declared.found.Found.{Found}

-- what a turn found and issued, by what it received and by the sender before and after it
pub record IsFoundBy (moment : ℕ) (got : Got) (found : Found) (old new : SenderData) : Type 0 where
  pub temps : temps_kept found.received ≡ temps_in got
  -- the session ends exactly if what was received and the moment end it
  pub ended : (end : SessionEnd) → (found.fact ≡ fact.Ended end) ↔ (end_by got moment old ≡ Some end)
  pub ready : (found.fact ≡ fact.Ready) ↔ ((old.ready ≡ false) × (new.ready ≡ true))
  -- a receiving that fails is the turn's failure
  pub broken : got ≡ lost → found.fact ≡ fact.Failed
  -- lines are issued only after a receiving that didn't fail, and not in the turn in which the hello is acknowledged
  pub none_issued : may_issue got found.fact ≡ false → found.issued.items ≡ []
  pub silent : found.fact ≡ fact.Ready → found.issued.items ≡ []
  pub sent : found.fact ≡ fact.Ready → next_of new ≡ None
