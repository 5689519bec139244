-- What follows of a turn.
use Rattle.std.proofs.Common.{◌≡◌, ℕ, true, false, List, refl, sym, ◌∙◌, ap}
use Rattle.std.specs.Prelude.{Option, None, Some}
use Rattle.std.proofs.lemmas.Option.{same_Some}
use Rattle.job_desk.specs.Data.{Data}
use Rattle.job_desk.specs.Table.{disconnect_at}
use Rattle.job_desk.specs.declared.state.State.{State}
use Rattle.job_desk.specs.declared.state.State.TheVariants.{Offline, Connecting, Operational, Printing, Pausing, Paused, Cancelling, Finishing, Closing, Fault}
use Rattle.job_desk.specs.declared.link_fact.LinkFact.{LinkFact}
use Rattle.job_desk.specs.declared.link_fact.LinkFact.TheVariants as fact
use Rattle.send_window.specs.declared.session_end.SessionEnd.{SessionEnd}
use Rattle.print_queue.specs.declared.ending.Ending.{Ending}
use Rattle.printer_model.specs.declared.event.WorldEvent.{WorldEvent}
use Rattle.printer_link.specs.Link.{LinkKind}
use Rattle.printer_link.proofs.Grown.{recorded_so}
use Rattle.octo_session.specs.Data.{SessionData, doing, is_calling}
use Rattle.octo_session.specs.Found.{can_find}
use Rattle.octo_session.specs.declared.found.Doing.{Doing}
use Rattle.octo_session.specs.declared.found.Doing.TheVariants.{Dialling, HangingUp, UsingLink, Resting}
use Rattle.octo_session_print.specs.Plan.{PrintData, print_commands}
use Rattle.octo_session.specs.Plan.{plan}
use Rattle.octo_session_print.specs.Underway.{IsUnderway}
use Rattle.octo_session_line_proof.proofs.Turned.{rests_down}
use Rattle.octo_session_print.specs.Ends.{end_of, desk_after, left_after}
use Rattle.octo_session_print.specs.Printed.{IsOver}
use Rattle.octo_session_line_proof.specs.History.{IsMade}
use Rattle.octo_session_print.specs.BetweenTurns.{HasSentAll, IsOnLink, GoesOn}
use Rattle.octo_session_print.specs.declared.end.PrintEnd.{PrintEnd}
use Rattle.octo_session_print.specs.declared.end.PrintEnd.TheVariants as end
use Rattle.octo_session_print.proofs.Course.{start_course, left_course}

-- which end it is
unfoldable pub why_of : SessionEnd → PrintEnd → SessionEnd
why_of other (end.Ended why) = why
why_of other _ = other

-- a print that ended with its session found so
pub fact_by : (f : LinkFact) (why : SessionEnd) → end_of f ≡ Some (end.Ended why) → f ≡ fact.Ended why
unfolding why_of
fact_by (fact.Ended other) why is = ap fact.Ended (ap (why_of other) (same_Some (end.Ended other) (end.Ended why) is))
fact_by fact.Quiet why is = absurd (cc)
fact_by fact.Opened why is = absurd (cc)
fact_by fact.Ready why is = absurd (cc)
fact_by fact.Closed why is = absurd (cc)
fact_by fact.NoPort why is = absurd (cc)
fact_by fact.Failed why is = absurd (cc)

-- a turn of a print that goes on calls the link
pub calls_of : (x : SessionData) (f : LinkFact) → (x.up ≡ false → doing x ≡ Dialling) → can_find (doing x) f ≡ true → end_of f ≡ None →
    is_calling (doing x) ≡ true
calls_of x f awake can none = by_doing (doing x) refl can
  where
    hangs : (f : LinkFact) → can_find HangingUp f ≡ true → end_of f ≡ None → ⊥
    hangs fact.Closed can none = absurd (cc)
    hangs fact.Quiet can none = absurd (cc)
    hangs fact.Opened can none = absurd (cc)
    hangs fact.Ready can none = absurd (cc)
    hangs fact.NoPort can none = absurd (cc)
    hangs fact.Failed can none = absurd (cc)
    hangs (fact.Ended why) can none = absurd (cc)

    by_doing : (d : Doing) → doing x ≡ d → can_find d f ≡ true → is_calling (doing x) ≡ true
    by_doing Dialling is can = ap is_calling is
    by_doing HangingUp is can = absurd (hangs f can none)
    by_doing UsingLink is can = ap is_calling is
    by_doing Resting is can = (let no : Dialling ≡ Resting = sym (awake (rests_down x is)) ∙ is in absurd (cc))

-- what the end of the connection leaves
greatest_left : (ending : Option Ending) (d : Data) → (left_after ending d).greatest ≡ d.greatest
greatest_left None d = refl
greatest_left (Some ending) d = by_state d.state
  where
    by_state : (s : State) → (disconnect_at s d).greatest ≡ d.greatest
    by_state Offline = refl
    by_state Connecting = refl
    by_state Operational = refl
    by_state Printing = refl
    by_state Pausing = refl
    by_state Paused = refl
    by_state Cancelling = refl
    by_state Finishing = refl
    by_state Closing = refl
    by_state Fault = refl

-- a change of the desk leaves the link made
desk_made : (kind : LinkKind) (issued : List (List ℕ)) (x : SessionData) (d : Data) (past added : List WorldEvent) →
    IsMade kind issued x past added → IsMade kind issued (record x { desk = d }) past added
desk_made kind issued x d past added made =
    let o = made.opened in
    record {
      once = made.once;
      opened = record { front = o.front; last = o.last; rest = o.rest; is = o.is; can = o.can; traced = o.traced; open_as = o.open_as; quiet = o.quiet; greets = o.greets; caused = o.caused; suits = o.suits };
    }

module _ (kind : LinkKind) (p : PrintData) (port : List ℕ) (first now : Option (List WorldEvent)) (x : SessionData) where
  desk_talks : (l : IsOnLink kind p port first now x) (d : Data) → IsUnderway p d l.issued → (x.sender.ready ≡ false → d.greatest ≡ 0) →
      IsOnLink kind p port first now (record x { desk = d })
  desk_talks l d course unstarted = record {
    issued = l.issued;
    on = record { course = course; cool = l.on.cool; its_kind = l.on.its_kind; sound = l.on.sound };
    up = l.up;
    listed = l.listed;
    history = recorded_so first now (λ past added. HasSentAll kind l.issued x past added) (λ past added. HasSentAll kind l.issued (record x { desk = d }) past added)
        l.history (λ past added so. record { made = desk_made kind l.issued x d past added so.made; sent = so.sent });
    unstarted = unstarted;
  }

  over_stays : (how : PrintEnd) → IsOver p.numbered kind (plan p.scripts (print_commands p)) how first now x →
      IsOver p.numbered kind (plan p.scripts (print_commands p)) how first now (record x { desk = x.desk })
  over_stays how over = record { printed = over.printed; ended = over.ended; unsent = over.unsent }

  -- what follows of a turn
  pub follows : (f : LinkFact) (ending : Option Ending) → (f ≡ fact.Ready → (x.sender.ready ≡ true) × (x.desk.greatest ≡ 0)) →
      (f ≡ fact.Quiet → (y : Ending) → ending ≡ Some y → (x.desk.state ≡ Operational) × (x.desk.greatest ≡ 1)) →
      GoesOn kind p port (end_of f) first now x →
      GoesOn kind p port (end_of f) first now (record x { desk = desk_after f ending x.desk })
  follows fact.Quiet ending ready free l =
      desk_talks l (left_after ending x.desk) (left_course p ending x.desk l.issued (free refl) l.on.course) (λ unready. greatest_left ending x.desk ∙ l.unstarted unready)
  follows fact.Opened ending ready free l = desk_talks l x.desk l.on.course l.unstarted
  follows fact.Ready ending ready free l =
      desk_talks l (desk_after fact.Ready ending x.desk) (start_course p x.desk l.issued l.on.cool (ready refl).1 l.on.course)
      (λ unready. (let is : x.sender.ready ≡ true = (ready refl).0 in absurd (cc)))
  follows fact.Closed ending ready free over = over_stays end.Done over
  follows fact.NoPort ending ready free over = over_stays end.NoPort over
  follows fact.Failed ending ready free over = over_stays end.LinkFailed over
  follows (fact.Ended why) ending ready free over = over_stays (end.Ended why) over
