-- What holds of the prints of a host over a lossy line.
use Rattle.std.specs.Prelude.{◌≡◌, ◌⊎◌, ℕ, ◌+◌, ◌<◌, ◌≤◌, Bool, true, false, List, [], ◌∷◌, ◌++◌, length, take, slice_get, Some, All}
use Rattle.job_desk.specs.Course.{Done, Course}
use Rattle.job_desk.specs.Data.{ScriptTexts, Data, Line, new_desk}
use Rattle.job_desk.specs.Run.{Fate, Finished, is_of, print_lines, of_print}
use Rattle.marlin_frame.specs.Frame.{frame_of, fails}
use Rattle.marlin_frame.specs.Numbering.{wire_number}
use Rattle.printer_model.specs.Executed.{opens, till}
use Rattle.printer_model.specs.Exchanged.{events_of_session}
use Rattle.printer_model.specs.declared.event.WorldEvent.{WorldEvent}
use Rattle.printer_model.specs.declared.event.WorldEvent.TheVariants.{Send}
use Rattle.printer_link.specs.Link.{LinkKind, world_in}
use Rattle.octo_keeper.specs.Tables.{AreNumbered}
use Rattle.octo_asks.specs.History.{History}
use Rattle.octo_asks.specs.declared.answer.Answer.TheVariants as answer
use Rattle.octo_asks.specs.declared.entry.Entry.TheVariants as entry
use Rattle.octo_asks.specs.declared.request.Ask.{Ask}
use Rattle.octo_asks.specs.declared.request.Request.TheVariants.{ListPrints}
use Rattle.octo_asks.specs.declared.shown.ShownPrint.{ShownPrint}
use Rattle.print_queue.specs.declared.ending.Outcome.TheVariants as outcome
use Rattle.print_queue.specs.declared.row.PrintRow.{PrintRow}
use Rattle.octo_house_rules.specs.Known.{Known}
use Rattle.octo_house_rules.specs.Issued.{issued_of, trace}
use Rattle.octo_house_rules.specs.Legal.{Standing, after_all}
use Rattle.octo_house_rules.specs.Scripts.{run_in}
use Rattle.octo_session.specs.Causes.{IsEndCaused}
use Rattle.octo_session.specs.Sends.{IsHello}
use Rattle.send_window.specs.declared.session_end.SessionEnd.{SessionEnd}
use Rattle.octo_house_rules.specs.Sessions.{sessions, acked_in, is_open, last_end}
use Rattle.octo_house_rules.specs.Timeline.{Entered, Timeline, history_of, events_of, past_after}
use Rattle.octo_house_rules.specs.Jobs.{jobs_from, lines_executed, jobs_executed}
use Rattle.octo_house_rules.specs.Lives.{LivesIn, LeavesSo}

-- a desk at which nothing was done yet
abbrev pub IsNewDesk : Data → Type 0
IsNewDesk d = d ≡ new_desk d.scripts d.limits d.poll_ms d.numbered

-- what a host knows as it begins: its desk is new, and its records of prints are numbered from 1 without a gap
pub record IsBeginning (k : Known) : Type 0 where
  pub new : IsNewDesk k.desk
  pub numbered : AreNumbered k.prints

-- in the one session that a print lives in the printer executed the first of the file's commands, in order and each once
pub record IsExecutedInOrder (kind : LinkKind) (front past : List WorldEvent) (print : ℕ) (commands : List (List ℕ))
    (history : History) : Type 0 where
  pub home : ℕ
  pub lives : LivesIn print history home
  pub count : ℕ
  pub executed : jobs_executed print kind front past home history ≡ jobs_from print 0 (take count commands)

-- after each entry it was so of each print, with the commands of the file with which it began
abbrev pub EachIsExecutedInOrder : LinkKind → List WorldEvent → Standing → Timeline → Type 0
EachIsExecutedInOrder kind front s timeline =
    (first later : Timeline) → timeline ≡ first ++ later → (print : ℕ) → 0 < print
    → (commands : List (List ℕ)) → of_print print (run_in (history_of first) s).begun ≡ commands ∷ []
    → IsExecutedInOrder kind front (past_after front first) print commands (history_of first)

-- all lines of a print are acknowledged and executed; they are a whole course of the scripts and its file with the end Done, and
-- the executed file commands are all of the file's, in order and each once
pub record IsExecutedWhole (kind : LinkKind) (scripts : ScriptTexts) (front past : List WorldEvent) (print : ℕ)
    (begun : List (List (List ℕ))) (history : History)
    : Type 0 where
  pub commands : List (List ℕ)
  pub began : begun ≡ commands ∷ []
  pub home : ℕ
  pub lives : LivesIn print history home
  pub course : Course scripts print commands Done (trace print history)
  pub acknowledged : print_lines print (take (acked_in home history) (issued_of home history)) ≡ trace print history
  pub executed : print_lines print (lines_executed kind front past home history) ≡ trace print history
  pub jobs : jobs_executed print kind front past home history ≡ jobs_from print 0 commands

-- so it was when a timeline had come so far
abbrev pub WasExecutedWhole : LinkKind → List WorldEvent → Standing → (first : Timeline) → ℕ → Type 0
WasExecutedWhole kind front s first print =
    IsExecutedWhole kind s.known.desk.scripts front (past_after front first) print
    (of_print print (run_in (history_of first) s).begun) (history_of first)

-- after each entry it was so of each print that is done
abbrev pub EachDoneIsExecuted : LinkKind → List WorldEvent → Standing → Timeline → Type 0
EachDoneIsExecuted kind front s timeline =
    (first later : Timeline) → timeline ≡ first ++ later → (print : ℕ) → 0 < print
    → of_print print (run_in (history_of first) s).ends ≡ Finished ∷ []
    → WasExecutedWhole kind front s first print

-- a record of a print that began in the history says Done only if that is so
abbrev pub IsDoneRecordTrue : LinkKind → List WorldEvent → Standing → Timeline → PrintRow → Type 0
IsDoneRecordTrue kind front s first row =
    length s.known.prints < row.number → row.outcome ≡ outcome.Done → WasExecutedWhole kind front s first row.number

-- after each entry so does each record
abbrev pub EachDoneRecordIsTrue : LinkKind → List WorldEvent → Standing → Timeline → Type 0
EachDoneRecordIsTrue kind front s timeline =
    (first later : Timeline) → timeline ≡ first ++ later
    → All (IsDoneRecordTrue kind front s first) (after_all (history_of first) s).known.prints

-- and a list that shows it
abbrev pub IsDoneShownTrue : LinkKind → List WorldEvent → Standing → Timeline → ShownPrint → Type 0
IsDoneShownTrue kind front s first shown =
    length s.known.prints < shown.number → shown.outcome ≡ outcome.Done → WasExecutedWhole kind front s first shown.number

-- so does each list of prints that was answered
abbrev pub EachDoneShownIsTrue : LinkKind → List WorldEvent → Standing → Timeline → Type 0
EachDoneShownIsTrue kind front s timeline =
    (first later : Timeline) (here : Entered) → timeline ≡ first ++ here ∷ later
    → (worker : ℕ) (ask : Ask) (moment : ℕ) (shown : List ShownPrint)
    → here.entry ≡ entry.Call worker ask moment (answer.Prints shown) → ask.request ≡ ListPrints
    → All (IsDoneShownTrue kind front s first) shown

-- a line that was sent is a line of these that isn't the print's
pub record IsLineOfOther (print : ℕ) (lines : List Line) (bytes : List ℕ) : Type 0 where
  pub place : ℕ
  pub line : Line
  pub its : slice_get lines place ≡ Some line
  pub framed : bytes ≡ frame_of (wire_number (place + 1)) line.text
  pub other : is_of print line.tag ≡ false

-- if an event is a line that the host sent, it is a hello, such a line, or one that failed; by whether `ok`s count by their numbers
abbrev pub IsSentOther : Bool → ℕ → List Line → WorldEvent → Type 0
IsSentOther numbered print lines (Send line) = IsHello numbered line.items
    ⊎ (IsLineOfOther print lines line.items ⊎ (fails line.items ≡ true))
IsSentOther numbered print lines _ = Unit {0}

-- each of these events is so
abbrev pub AreSentOther : Bool → ℕ → List Line → List WorldEvent → Type 0
AreSentOther numbered print lines [] = Unit {0}
AreSentOther numbered print lines (event ∷ events) = IsSentOther numbered print lines event × AreSentOther numbered print lines events

-- no line of a print that ended so was sent since the history had come so far, when the link had recorded this
pub record IsSentNoMore (numbered : Bool) (kind : LinkKind) (front : List WorldEvent) (print : ℕ) (fate : Fate) (first history : History)
    (so_far since : List WorldEvent) : Type 0 where
  pub home : ℕ
  pub within : home ≤ sessions first
  pub lives : LivesIn print history home
  -- all its lines were acknowledged; or, after a failure or a disconnect, its session was closed
  pub leaves : LeavesSo print fate home first
  -- and the link was down, if it was closed
  pub down : 1 ≤ home → is_open first ≡ false → (world_in kind so_far).linked ≡ false
  -- only other lines were sent since then in the session that was the last one
  pub none : AreSentOther numbered print (issued_of (sessions first) history) (till 0 since)
  -- and in each later one
  pub never : (session : ℕ) → sessions first < session → session ≤ sessions history
      → AreSentOther numbered print (issued_of session history) (events_of_session (opens front + session) (so_far ++ since))

-- after each entry so it is of each print that had ended then
abbrev pub EachEndedIsSentNoMore : Bool → LinkKind → List WorldEvent → Standing → Timeline → Type 0
EachEndedIsSentNoMore numbered kind front s timeline =
    (first later : Timeline) → timeline ≡ first ++ later → (print : ℕ) → 0 < print
    → (fate : Fate) → of_print print (run_in (history_of first) s).ends ≡ fate ∷ []
    → IsSentNoMore numbered kind front print fate (history_of first) (history_of timeline) (past_after front first) (events_of later)

-- the end of a session that an entry notes had a cause that the link's history showed then, for each entry: a session never ends
-- for a Resend of a line after the next one to issue, nor for an `ok` of another line; for a Resend of an acknowledged line only if
-- `ok`s count by their numbers and the printer restarted in that session; as restarted only if it did; for no answer only if the
-- printer was silent
abbrev pub EachEndIsTrue : Bool → LinkKind → List WorldEvent → Timeline → Type 0
EachEndIsTrue numbered kind front timeline =
    (first later : Timeline) → timeline ≡ first ++ later → (end : SessionEnd) → last_end (history_of first) ≡ Some end
    → IsEndCaused numbered kind end (past_after front first)
