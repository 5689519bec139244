-- How far a print is: what of its plan was issued, and what its desk holds ready.
use Rattle.std.specs.Prelude.{◌≡◌, ℕ, ◌<◌, ◌≤◌, Bool, true, false, List, [], ◌++◌, length, take, All, Option, None, Some}
use Rattle.job_desk.specs.Data.{Data, Line}
use Rattle.job_desk.specs.Table.{closing_line, is_closable_at}
use Rattle.job_desk.specs.declared.state.State.{State}
use Rattle.job_desk.specs.declared.state.State.TheVariants.{Offline, Connecting, Operational, Printing, Finishing, Closing, Fault}
use Rattle.job_desk.specs.declared.state.Point.TheVariants as point
use Rattle.job_desk.specs.declared.state.Tag.TheVariants.{Script}
use Rattle.job_desk.specs.declared.link_fact.LinkFact.{LinkFact}
use Rattle.job_desk.specs.declared.link_fact.LinkFact.TheVariants as fact
use Rattle.job_desk.specs.Pull.{last_number}
use Rattle.print_queue.specs.declared.ending.Ending.{Ending}
use Rattle.print_queue.specs.declared.ending.Outcome.{Outcome}
use Rattle.print_queue.specs.declared.ending.Outcome.TheVariants as outcome
use Rattle.octo_session_print.specs.Plan.{PrintData, print_commands, connected_lines, printed_lines, done_lines, plan_lines}
use Rattle.octo_session.specs.Plan.{plan, Weave, IsPart}
use Rattle.octo_session.specs.Turn.{texts_in}

-- what of a desk says how far its print is
pub record Standing : Type 0 where
  pub state : State
  pub ready : Bool
  -- the greatest print so far, whether it's active, and the index of its next command
  pub print : ℕ
  pub active : Bool
  pub cursor : ℕ
  -- the script lines that wait
  pub waiting : List Line

-- how far the print of a desk is
abbrev pub standing : Data → Standing
standing d = record {
  state = d.state;
  ready = d.ready;
  print = d.greatest;
  active = d.active;
  cursor = d.cursor;
  waiting = d.waiting;
}

-- the desk is in this state of a connection that became ready
pub record IsOpen (state : State) (s : Standing) : Type 0 where
  pub its_state : s.state ≡ state
  pub ready_is : s.ready ≡ true

-- no print goes on, and this number of them was started
pub record IsFree (started : ℕ) (s : Standing) : Type 0 where
  pub print_is : s.print ≡ started
  pub active_is : s.active ≡ false

-- print 1 goes on
pub record IsPrinting (s : Standing) : Type 0 where
  pub print_is : s.print ≡ 1
  pub active_is : s.active ≡ true

-- a line of the Disconnect script
abbrev pub IsLast : Line → Type 0
IsLast line = line.tag ≡ Script point.Disconnect 0

-- the phases of a print, each with the lines of the plan that were issued or wait in it
pub data Phase (p : PrintData) (s : Standing) : List Line → Type 0 where
  connecting : s.state ≡ Connecting → IsFree 0 s → Phase p s []
  connected : IsOpen Operational s → IsFree 0 s → Phase p s (connected_lines p)
  printing : IsOpen Printing s → IsPrinting s → s.cursor ≤ length (print_commands p) → Phase p s (printed_lines p s.cursor)
  finishing : IsOpen Finishing s → IsPrinting s → Phase p s (done_lines p)
  -- the print is done, and its Done script issued
  ended : IsOpen Operational s → IsFree 1 s → s.waiting ≡ [] → Phase p s (done_lines p)
  closing : IsOpen Closing s → IsFree 1 s → All IsLast s.waiting → Phase p s (plan_lines p)
  offline : s.state ≡ Offline → s.active ≡ false → s.waiting ≡ [] → Phase p s (plan_lines p)
  -- the link or the session failed at some line
  failed : s.state ≡ Fault → s.active ≡ false → (lines : List Line) → IsPart lines (plan_lines p) → Phase p s lines

-- the desk's numbers are those of these texts
pub record IsCounted (d : Data) (issued : List (List ℕ)) : Type 0 where
  pub all : d.issued ≡ length issued
  pub print : d.print_line ≤ d.issued
  pub last : d.last_line ≤ d.issued

-- the print is so far at this desk, with these texts issued over its connection
pub record IsUnderway (p : PrintData) (d : Data) (issued : List (List ℕ)) : Type 0 where
  pub numbered_is : d.numbered ≡ p.numbered
  pub scripts_are : d.scripts ≡ p.scripts
  pub limits_are : d.limits ≡ p.limits
  pub file_is : d.file ≡ Some p.file
  pub no_manual : d.manual ≡ []
  pub unstopped : d.stopped ≡ false
  -- the lines of the plan that were issued or wait, and those that were issued
  pub lines : List Line
  pub phase : Phase p (standing d) lines
  pub sent : List Line
  pub parted : sent ++ d.waiting ≡ lines
  pub woven : Weave p.numbered issued (texts_in sent)
  -- a u64 counts them, and those of the plan are among the first ones, up to the last that is no poll
  pub counted : d.issued < last_number → IsCounted d issued
  pub by_last : d.issued < last_number → Weave p.numbered (take d.last_line issued) (texts_in sent)
  -- the connection is closed only once all lines, or all but polls, were acknowledged
  pub acknowledged : d.state ≡ Offline → closing_line d ≤ d.acked

-- the whole plan was issued, and all of it was acknowledged
pub record IsWhole (p : PrintData) (d : Data) (issued : List (List ℕ)) : Type 0 where
  pub numbered_is : d.numbered ≡ p.numbered
  pub woven : Weave p.numbered issued (plan p.scripts (print_commands p))
  -- the acknowledged texts are the whole plan, and all that were issued if `ok`s have no numbers
  pub acknowledged : d.issued < last_number → Weave p.numbered (take d.acked issued) (plan p.scripts (print_commands p))
  pub all_acked : p.numbered ≡ false → d.issued ≤ d.acked
  pub all : d.issued < last_number → d.issued ≡ length issued

-- a fact that the link may report to such a desk
abbrev pub Suits : LinkFact → ℕ → Data → Type 0
Suits fact.Quiet acked d = d.acked ≤ acked
Suits fact.Opened acked d = d.state ≡ Connecting
Suits fact.Ready acked d = d.acked ≤ acked
Suits fact.Closed acked d = (is_closable_at d.state d ≡ true) × (d.acked ≤ acked)
Suits fact.NoPort acked d = d.acked ≤ acked
Suits fact.Failed acked d = d.acked ≤ acked
Suits (fact.Ended end) acked d = d.acked ≤ acked

-- the first of these texts are all lines of the print but the Disconnect script
pub record IsPrinted (p : PrintData) (issued : List (List ℕ)) : Type 0 where
  pub first : List (List ℕ)
  pub is_part : IsPart first issued
  pub woven : Weave p.numbered first (texts_in (done_lines p))

-- what each outcome says; a print that has a desk of its own isn't cancelled
abbrev pub ComesTo : PrintData → Outcome → State → List (List ℕ) → Type 0
ComesTo p outcome.Active state issued = ⊥
ComesTo p outcome.Done state issued = IsPrinted p issued
ComesTo p outcome.Cancelled state issued = ⊥
ComesTo p outcome.Failed state issued = state ≡ Fault

-- an ending is print 1's, and says what it came to
abbrev pub EndsAs : PrintData → Option Ending → State → List (List ℕ) → Type 0
EndsAs p None state issued = Unit {0}
EndsAs p (Some ending) state issued = (ending.print ≡ 1) × ComesTo p ending.outcome state issued
