-- How far a print over a prompt link is, and how many turns it still takes at most.
use Rattle.std.specs.Prelude.{◌≡◌, ◌⊎◌, ℕ, ◌+◌, ◌<◌, ◌≤◌, Bool, true, false, List, [], ◌∷◌, length, Option, None, Some, is_some}
use Rattle.job_desk.specs.Data.{Data}
use Rattle.job_desk.specs.Table.{start_at, disconnect_at}
use Rattle.job_desk.specs.declared.state.State.{State}
use Rattle.job_desk.specs.declared.state.State.TheVariants.{Connecting, Printing, Finishing, Closing}
use Rattle.job_desk.specs.declared.link_fact.LinkFact.{LinkFact}
use Rattle.job_desk.specs.declared.link_fact.LinkFact.TheVariants as fact
use Rattle.marlin_frame.specs.Numbering.{hello_frame}
use Rattle.print_queue.specs.declared.ending.Ending.{Ending}
use Rattle.printer_model.specs.World.{WorldData}
use Rattle.printer_model.specs.declared.event.WorldEvent.{WorldEvent}
use Rattle.printer_link.specs.Link.{LinkKind, world_in}
use Rattle.send_window.specs.Data.{SenderData, IsSound, most_lines}
use Rattle.octo_session.specs.Data.{SessionData, doing, port_of}
use Rattle.octo_session.specs.declared.found.Doing.TheVariants.{Dialling}
use Rattle.temp_rules.specs.Hot.{first_hot_of}
use Rattle.octo_session_print.specs.Prompt.{IsReadySession, IsGreeting}
use Rattle.octo_session_print.specs.Plan.{PrintData, print_commands}
use Rattle.octo_session.specs.Plan.{plan}
use Rattle.octo_session_print.specs.Underway.{standing, IsUnderway}
use Rattle.octo_session_print.specs.Remaining.{remaining}

-- the history is recorded, and its world is one of these
pub record IsAt (kind : LinkKind) (past : Option (List WorldEvent)) (P : WorldData → Type 0) : Type 0 where
  pub now : List WorldEvent
  pub recorded : past ≡ Some now
  pub is : P (world_in kind now)

-- the desk of a print without a hot command over a printer whose `ok`s have no numbers, which polls after this many milliseconds
pub record HasCourse (p : PrintData) (poll_ms : ℕ) (d : Data) : Type 0 where
  pub issued : List (List ℕ)
  pub course : IsUnderway p d issued
  pub cool : first_hot_of p.limits p.file.job.commands ≡ None
  pub its_ms : d.poll_ms ≡ poll_ms
  pub plain : p.numbered ≡ false

-- the number of lines of the plan
abbrev pub plan_length : PrintData → ℕ
plan_length p = length (plan p.scripts (print_commands p))

-- the states in which a print is active
abbrev pub IsInPrint : State → Type 0
IsInPrint state = (state ≡ Printing) ⊎ (state ≡ Finishing)

-- the number of turns to come that hear nothing: one after the start, one that finds the print over, one after the
-- disconnect, and the one that hangs up
pub data Silences (d : Data) (s : SenderData) : ℕ → Type 0 where
  starts : d.state ≡ Printing → Silences d s 4
  prints : IsInPrint d.state → (s.acked ≡ s.issued → (d.waiting ≡ []) × (d.state ≡ Finishing)) → Silences d s 3
  leaves : d.state ≡ Closing → Silences d s 2
  closes : d.state ≡ Closing → (s.acked ≡ s.issued → d.waiting ≡ []) → Silences d s 1

-- the next turn dials
pub record IsToDial (kind : LinkKind) (p : PrintData) (poll_ms left : ℕ) (past : Option (List WorldEvent)) (x : SessionData) : Type 0 where
  pub dials : doing x ≡ Dialling
  pub listed : kind.listed (port_of x.desk) ≡ true
  pub recorded : is_some past ≡ true
  pub desk : HasCourse p poll_ms x.desk
  pub connects : x.desk.state ≡ Connecting
  -- `ok`s are counted
  pub counts : x.sender.numbered ≡ false
  pub sound : IsSound x.sender
  pub enough : plan_length p + 12 ≤ left
  pub few : left < most_lines

-- the hello isn't acknowledged; these lines are on the wire to the printer, and `due` says whether it's still to be sent
pub record IsToGreet (kind : LinkKind) (p : PrintData) (poll_ms left more : ℕ) (wire : List (List ℕ)) (due : Bool)
    (past : Option (List WorldEvent)) (x : SessionData) : Type 0 where
  pub up : x.up ≡ true
  pub connects : x.desk.state ≡ Connecting
  pub desk : HasCourse p poll_ms x.desk
  pub greeting : IsAt kind past (IsGreeting wire due x.sender)
  pub enough : plan_length p + more ≤ left
  pub few : left < most_lines

-- the print goes on: what is unacknowledged, what remains of the plan, a poll that may be due at this moment and twice the
-- turns that hear nothing are at most the turns left
pub record IsGoing (kind : LinkKind) (p : PrintData) (poll_ms at left : ℕ) (past : Option (List WorldEvent)) (x : SessionData) : Type 0 where
  pub up : x.up ≡ true
  pub desk : HasCourse p poll_ms x.desk
  pub saying : IsAt kind past (IsReadySession x.sender)
  pub spoken : x.sender.cursor ≡ x.sender.issued + 1
  pub due : ℕ
  pub due_is : x.desk.poll_at ≤ at → 1 ≤ due
  pub silences : ℕ
  pub phase : Silences x.desk x.sender silences
  pub enough : x.sender.issued + remaining p (standing x.desk) + due + (silences + silences) ≤ x.sender.acked + left
  pub few : x.sender.acked + left < most_lines

-- a print over a prompt link is done in at most this many turns, if no call of the link fails; the clock shows this moment
pub data IsOnWay (kind : LinkKind) (p : PrintData) (poll_ms at left : ℕ) (past : Option (List WorldEvent)) (x : SessionData) : Type 0 where
  dials : IsToDial kind p poll_ms left past x → IsOnWay kind p poll_ms at left past x
  greets : IsToGreet kind p poll_ms left 11 [] true past x → IsOnWay kind p poll_ms at left past x
  waits : IsToGreet kind p poll_ms left 10 (hello_frame ∷ []) false past x → IsOnWay kind p poll_ms at left past x
  goes : IsGoing kind p poll_ms at left past x → IsOnWay kind p poll_ms at left past x

-- a turn that found this leads the print on, once the desk was asked to start or to disconnect, or it's done
abbrev pub LeadsOn : LinkFact → Option Ending → LinkKind → PrintData → ℕ → ℕ → ℕ → Option (List WorldEvent) → SessionData → Type 0
LeadsOn fact.Opened ending kind p poll_ms at left past x = IsOnWay kind p poll_ms at left past x
LeadsOn fact.Quiet None kind p poll_ms at left past x = IsOnWay kind p poll_ms at left past x
LeadsOn fact.Quiet (Some ending) kind p poll_ms at left past x =
    IsOnWay kind p poll_ms at left past (record x { desk = disconnect_at x.desk.state x.desk })
LeadsOn fact.Ready ending kind p poll_ms at left past x =
    IsOnWay kind p poll_ms at left past (record x { desk = (start_at x.desk.state 1 x.desk).1 })
LeadsOn fact.Closed ending kind p poll_ms at left past x = Unit {0}
LeadsOn fact.NoPort ending kind p poll_ms at left past x = ⊥
LeadsOn fact.Failed ending kind p poll_ms at left past x = ⊥
LeadsOn (fact.Ended why) ending kind p poll_ms at left past x = ⊥
