-- What a print has made of the history of its link.
use Rattle.std.specs.Prelude.{◌≡◌, ◌≢◌, ◌⊎◌, ◌<◌, ℕ, suc, Bool, false, List, [], ◌++◌, length, take, Option, Some}
use Rattle.printer_model.specs.Executed.{opens, executed, logged_from}
use Rattle.printer_model.specs.declared.event.WorldEvent.{WorldEvent}
use Rattle.printer_link.specs.Link.{LinkKind, Recorded, world_in}
use Rattle.send_window.specs.declared.session_end.SessionEnd.{SessionEnd}
use Rattle.send_window.specs.declared.session_end.SessionEnd.TheVariants.{NoAnswer, LostOk, NumbersUsed}
use Rattle.send_window.specs.Data.{SenderData, most_lines, most_silent, most_told}
use Rattle.octo_session.specs.Data.{SessionData}
use Rattle.octo_session.specs.Causes.{EndCausedAs}
use Rattle.octo_session.specs.Plan.{Weave, WeavesPart}
use Rattle.octo_session.specs.Tied.{HasIssued}
use Rattle.octo_session_line_proof.specs.AllSent.{AreAllSent}
use Rattle.send_window.specs.Patience.{FitsEnd}
use Rattle.octo_session_print.specs.Ends.{IsUnsent}
use Rattle.octo_session_print.specs.declared.end.PrintEnd.{PrintEnd}
use Rattle.octo_session_print.specs.declared.end.PrintEnd.TheVariants as end

-- the whole plan was executed, and all of it was acknowledged
pub record IsWholePrint (numbered : Bool) (kind : LinkKind) (plan issued : List (List ℕ)) (acked : ℕ) (past added : List WorldEvent) : Type 0 where
  -- the texts of what was executed: the whole plan, with polls and probes between them
  pub ran : List (List ℕ)
  pub all_executed : executed kind.slots kind.oks (past ++ added) (suc (opens past)) ≡ logged_from 1 ran
  pub woven : Weave numbered ran plan
  -- the acknowledged ones among them are the whole plan too
  pub all_acked : Weave numbered (take acked ran) plan
  -- if `ok`s are counted, these are all issued lines, and each is acknowledged
  pub all_issued : numbered ≡ false → (ran ≡ issued) × (acked ≡ length issued)

-- what a print of this plan that ended so has made of a history, by whether its sender counts by the numbers of `ok`s, and
-- its desk probes
pub record HasPrinted (numbered : Bool) (kind : LinkKind) (plan : List (List ℕ)) (how : PrintEnd) (acked : ℕ) (past added : List WorldEvent) : Type 0 where
  -- the texts of its lines: the first of the plan, with polls for temperatures between them, and probes if `ok`s have numbers
  pub issued : List (List ℕ)
  pub of_plan : WeavesPart numbered issued plan
  pub history : HasIssued numbered kind issued acked past added
  -- so are the texts of what was executed
  pub executed_of_plan : WeavesPart numbered (take (length (executed kind.slots kind.oks (past ++ added) (suc (opens past)))) issued) plan
  -- a print that is done has made the whole of it
  pub done : how ≡ end.Done → IsWholePrint numbered kind plan issued acked past added
  -- one that ended with no answer names five limits; nothing was issued, or not all issued lines are acknowledged
  pub unanswered : (count : ℕ) → how ≡ end.Ended (NoAnswer count) → (count ≡ most_silent) × ((issued ≡ []) ⊎ (acked < length issued))
  -- one that ended for a missing `ok` names twenty limits, and not all issued lines are acknowledged
  pub missing : (count : ℕ) → how ≡ end.Ended (LostOk count) → (count ≡ most_told) × (acked < length issued)
  -- one whose session used all its numbers names `most_lines`, and that many lines are acknowledged
  pub all_used : (all : ℕ) → how ≡ end.Ended (NumbersUsed all) → (all ≡ most_lines) × (acked ≡ most_lines)
  -- unless a call of the link failed, each issued line was sent or is acknowledged
  pub sent : how ≢ end.LinkFailed → AreAllSent issued acked added
  -- the session that it opened is closed
  pub shut : opens added ≡ 1 → (world_in kind (past ++ added)).linked ≡ false
  -- a session that ended is the one that the print opened
  pub opened : (why : SessionEnd) → how ≡ end.Ended why → opens added ≡ 1

-- a session ended so: its sender has, with the numbers that it names, and the history shows the cause
pub record HasEnded (kind : LinkKind) (now : Option (List WorldEvent)) (s : SenderData) (why : SessionEnd) : Type 0 where
  pub its_end : s.ended ≡ Some why
  pub fits : FitsEnd why s
  pub caused : EndCausedAs s.numbered kind now why

-- a print of this plan ended so
pub record IsOver (numbered : Bool) (kind : LinkKind) (plan : List (List ℕ)) (how : PrintEnd) (first now : Option (List WorldEvent)) (x : SessionData) : Type 0 where
  pub printed : Recorded first now (HasPrinted numbered kind plan how x.sender.acked)
  pub ended : (why : SessionEnd) → how ≡ end.Ended why → HasEnded kind now x.sender why
  -- a print that was refused or had no port added nothing
  pub unsent : IsUnsent how → now ≡ first
