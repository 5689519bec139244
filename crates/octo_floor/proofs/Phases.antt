-- What notes and pulls at a desk make of a printer's phase.
use Rattle.std.proofs.Common.{◌≡◌, ℕ, ◌+◌, Bool, true, false, cond, nat_eq, codes, List, [], ◌∷◌, Option, None, Some, refl, sym, ◌∙◌, ap, subst}
use Rattle.std.proofs.lemmas.Bool.{false≢true}
use Rattle.job_desk.specs.Data.{Data, Line, with_script, moment_after}
use Rattle.job_desk.specs.Pull.{Drawn, draw_in_order, nothing, next_number, keep_number, issue, from_scripts, from_manual, from_poll, poll_is_due, from_probe, put_off, probe_is_due, from_file, draw_last, draw_at, is_issued, settle_at, settled, pull_step}
use Rattle.job_desk.specs.Course.{job_line}
use Rattle.job_desk.specs.Note.{Noted, after_ending, is_over, end_at, finish, hung_up, fail, ready_at, after_open, note_fact, note_step, with_acked}
use Rattle.job_desk.specs.declared.state.State.{State}
use Rattle.job_desk.specs.declared.state.State.TheVariants.{Offline, Connecting, Operational, Printing, Pausing, Paused, Cancelling, Finishing, Closing, Fault}
use Rattle.job_desk.specs.declared.state.Point.TheVariants as point
use Rattle.job_desk.specs.declared.state.Tag.{Tag}
use Rattle.job_desk.specs.declared.state.Tag.TheVariants.{Script, Job, Manual, Poll}
use Rattle.job_desk.specs.declared.link_fact.LinkFact.{LinkFact}
use Rattle.job_desk.specs.declared.link_fact.LinkFact.TheVariants as fact
use Rattle.job_desk.proofs.Steady.{choose_pair}
use Rattle.print_queue.specs.declared.ending.Outcome.TheVariants as outcome
use Rattle.print_queue.specs.declared.ending.Ending.{Ending}
use Rattle.octo_floor.specs.Phases.{Phase, lost, phase_in, phase_after}

-- the phase, the limits and whether the printer is being stopped stay
pub record Stays (d e : Data) : Type 0 where
  pub phase : phase_in e.state ≡ phase_in d.state
  pub limits : e.limits ≡ d.limits
  pub stopped : e.stopped ≡ d.stopped

pub stays_same : (d : Data) → Stays d d
stays_same d = record { phase = refl; limits = refl; stopped = refl }

pub stays_then : (d e f : Data) → Stays d e → Stays e f → Stays d f
stays_then d e f a b = record { phase = b.phase ∙ a.phase; limits = b.limits ∙ a.limits; stopped = b.stopped ∙ a.stopped }

stays_keep : (tag : Tag) (number : ℕ) (d : Data) → Stays d (keep_number tag number d)
stays_keep (Script at print) number d = choose (nat_eq print 0)
  where
    choose : (b : Bool) → Stays d (cond b (record d { last_line = number }) (record d { print_line = number; last_line = number }))
    choose true = record { phase = refl; limits = refl; stopped = refl }
    choose false = record { phase = refl; limits = refl; stopped = refl }
stays_keep (Job print index) number d = record { phase = refl; limits = refl; stopped = refl }
stays_keep Manual number d = record { phase = refl; limits = refl; stopped = refl }
stays_keep Poll number d = record { phase = refl; limits = refl; stopped = refl }

stays_issue : (line : Line) (d e : Data) → Stays d e → Stays d (issue line e).1
stays_issue line d e stays =
    let counted : Data = record e { issued = next_number e.issued } in
    stays_then d e (issue line e).1 stays
    (stays_then e counted (issue line e).1 (record { phase = refl; limits = refl; stopped = refl }) (stays_keep line.tag (next_number e.issued) counted))

stays_scripts : (w : List Line) (d : Data) (next : Drawn) → Stays d next.1 → Stays d (from_scripts w d next).1
stays_scripts [] d next h = h
stays_scripts (line ∷ lines) d next h = stays_issue line d (record d { waiting = lines }) (record { phase = refl; limits = refl; stopped = refl })

stays_manual : (m : List (List ℕ)) (d : Data) (next : Drawn) → Stays d next.1 → Stays d (from_manual m d next).1
stays_manual [] d next h = h
stays_manual (text ∷ texts) d next h =
    stays_issue (record { text = text; tag = Manual }) d (record d { manual = texts }) (record { phase = refl; limits = refl; stopped = refl })

stays_poll : (moment : ℕ) (d : Data) (next : Drawn) → Stays d next.1 → Stays d (from_poll moment d next).1
stays_poll moment d next h =
    let asked : Data = record d { poll_at = moment_after moment d.poll_ms } in
    choose_pair {X = Option Line} (λ e. Stays d e) (poll_is_due moment d) _ next
    (stays_issue (record { text = codes "M105"; tag = Poll }) d asked (record { phase = refl; limits = refl; stopped = refl })) h

stays_probe : (awaited moment : ℕ) (d : Data) → Stays d (from_probe awaited moment d).1
stays_probe awaited moment d =
    let asked : Data = put_off moment d in
    choose_pair {X = Option Line} (λ e. Stays d e) (probe_is_due awaited moment d) _ _
    (stays_issue (record { text = codes "M400"; tag = Poll }) d asked (record { phase = refl; limits = refl; stopped = refl })) (stays_same d)

stays_file : (text : Option (List ℕ)) (d : Data) → Stays d (from_file text d).1
stays_file None d = stays_same d
stays_file (Some text) d =
    stays_issue (job_line d.greatest d.cursor text) d (record d { cursor = d.cursor + 1 }) (record { phase = refl; limits = refl; stopped = refl })

stays_talk : (moment : ℕ) (d : Data) (next : Drawn) → Stays d next.1 → Stays d (draw_in_order moment d next).1
stays_talk moment d next h = stays_scripts d.waiting d _ (stays_manual d.manual d _ (stays_poll moment d next h))

stays_last : (b : Bool) (moment : ℕ) (d : Data) → Stays d (draw_last b moment d).1
stays_last false moment d = stays_scripts d.waiting d _ (stays_probe d.last_line moment d)
stays_last true moment d = stays_manual d.manual d (nothing d) (stays_same d)

stays_draw : (s : State) (moment : ℕ) (d : Data) → Stays d (draw_at s moment d).1
stays_draw Operational moment d = stays_talk moment d _ (stays_probe d.issued moment d)
stays_draw Printing moment d = stays_talk moment d _ (stays_file _ d)
stays_draw Pausing moment d = stays_talk moment d _ (stays_probe d.issued moment d)
stays_draw Paused moment d = stays_talk moment d _ (stays_probe d.issued moment d)
stays_draw Cancelling moment d = stays_talk moment d _ (stays_probe d.issued moment d)
stays_draw Finishing moment d = stays_talk moment d _ (stays_probe d.issued moment d)
stays_draw Closing moment d = stays_last d.stopped moment d
stays_draw Offline moment d = stays_same d
stays_draw Connecting moment d = stays_same d
stays_draw Fault moment d = stays_same d

-- into a state of the same phase
into : (d e : Data) (s t : State) → d.state ≡ s → e.state ≡ t → phase_in t ≡ phase_in s → e.limits ≡ d.limits → e.stopped ≡ d.stopped → Stays d e
into d e s t is now same limits stopped = record { phase = ap phase_in now ∙ same ∙ sym (ap phase_in is); limits = limits; stopped = stopped }

stays_settle : (s : State) (d : Data) → d.state ≡ s → Stays d (settle_at s d)
stays_settle Printing d is = choose (is_issued d)
  where
    choose : (b : Bool) → Stays d (cond b (with_script point.Done d.greatest (record d { state = Finishing })) d)
    choose true = into d (with_script point.Done d.greatest (record d { state = Finishing })) Printing Finishing is refl refl refl refl
    choose false = stays_same d
stays_settle Offline d is = stays_same d
stays_settle Connecting d is = stays_same d
stays_settle Operational d is = stays_same d
stays_settle Pausing d is = stays_same d
stays_settle Paused d is = stays_same d
stays_settle Cancelling d is = stays_same d
stays_settle Finishing d is = stays_same d
stays_settle Closing d is = stays_same d
stays_settle Fault d is = stays_same d

stays_settled : (d : Data) → Stays d (settled d)
stays_settled d = stays_settle d.state d refl

pub stays_pull : (moment : ℕ) (d : Data) → Stays d (pull_step moment d).1
stays_pull moment d =
    let drawn : Data = (draw_at d.state moment d).1 in
    stays_then d drawn (settled drawn) (stays_draw d.state moment d) (stays_settled drawn)

stays_end : (s : State) (d : Data) → d.state ≡ s → Stays d (end_at s d).1
stays_end Pausing d is = choose_pair {X = Option Ending} (λ e. Stays d e) (is_over d) _ _ (into d (record d { state = Paused }) Pausing Paused is refl refl refl refl) (stays_same d)
stays_end Cancelling d is =
    choose_pair {X = Option Ending} (λ e. Stays d e) (is_over d) _ _ (into d (finish outcome.Cancelled d).1 Cancelling Operational is refl refl refl refl) (stays_same d)
stays_end Finishing d is =
    choose_pair {X = Option Ending} (λ e. Stays d e) (is_over d) _ _ (into d (finish outcome.Done d).1 Finishing Operational is refl refl refl refl) (stays_same d)
stays_end Offline d is = stays_same d
stays_end Connecting d is = stays_same d
stays_end Operational d is = stays_same d
stays_end Printing d is = stays_same d
stays_end Paused d is = stays_same d
stays_end Closing d is = stays_same d
stays_end Fault d is = stays_same d

stays_ready : (s : State) (moment : ℕ) (d : Data) → d.state ≡ s → Stays d (ready_at s moment d)
stays_ready Connecting moment d is = into d (ready_at Connecting moment d) Connecting Operational is refl refl refl refl
stays_ready Offline moment d is = stays_same d
stays_ready Operational moment d is = stays_same d
stays_ready Printing moment d is = stays_same d
stays_ready Pausing moment d is = stays_same d
stays_ready Paused moment d is = stays_same d
stays_ready Cancelling moment d is = stays_same d
stays_ready Finishing moment d is = stays_same d
stays_ready Closing moment d is = stays_same d
stays_ready Fault moment d is = stays_same d

-- a desk that settles keeps its print
active_settle : (s : State) (d : Data) → (settle_at s d).active ≡ d.active
active_settle Printing d = choose (is_issued d)
  where
    choose : (b : Bool) → (cond b (with_script point.Done d.greatest (record d { state = Finishing })) d).active ≡ d.active
    choose true = refl
    choose false = refl
active_settle Offline d = refl
active_settle Connecting d = refl
active_settle Operational d = refl
active_settle Pausing d = refl
active_settle Paused d = refl
active_settle Cancelling d = refl
active_settle Finishing d = refl
active_settle Closing d = refl
active_settle Fault d = refl

-- whether a fact ends the link
abbrev pub ends_link : LinkFact → Bool
ends_link fact.Quiet = false
ends_link fact.Opened = false
ends_link fact.Ready = false
ends_link fact.Closed = true
ends_link fact.NoPort = true
ends_link fact.Failed = true
ends_link (fact.Ended end) = true

-- what a note with this fact leaves of a desk at which no user stops the printer
pub record Phased (found : LinkFact) (d e : Data) : Type 0 where
  pub phase : phase_in e.state ≡ phase_after found (phase_in d.state)
  pub limits : e.limits ≡ d.limits
  pub stopped : e.stopped ≡ false
  pub rests : ends_link found ≡ true → e.active ≡ false

-- a desk that stays in its phase
stayed : (found : LinkFact) (d e : Data) → ((p : Phase) → phase_after found p ≡ p) → ends_link found ≡ false → d.stopped ≡ false → Stays d e → Phased found d e
stayed found d e same goes still stays = record {
  phase = stays.phase ∙ sym (same (phase_in d.state));
  limits = stays.limits;
  stopped = stays.stopped ∙ still;
  rests = λ ends. absurd (false≢true (sym goes ∙ ends));
}

failed : (noted : Noted) (found : LinkFact) (d : Data) → lost ≡ phase_after found (phase_in d.state) → noted.1.limits ≡ d.limits → Phased found d (fail noted).1
failed (None, e) found d is limits = record { phase = is; limits = limits; stopped = refl; rests = λ ends. refl }
failed (Some ending, e) found d is limits = record { phase = is; limits = limits; stopped = refl; rests = λ ends. refl }

phased_fact : (found : LinkFact) (moment : ℕ) (d : Data) → d.stopped ≡ false → Phased found d (note_fact found moment d).1
phased_fact fact.Quiet moment d still = stayed fact.Quiet d (after_ending d).1 (λ p. refl) refl still (stays_end d.state d refl)
phased_fact fact.Opened moment d still =
    stayed fact.Opened d (after_ending (after_open d)).1 (λ p. refl) refl still
    (stays_then d (after_open d) (after_ending (after_open d)).1 (record { phase = refl; limits = refl; stopped = refl }) (stays_end d.state (after_open d) refl))
phased_fact fact.Ready moment d still =
    let heard : Data = record d { ready = true } in
    let is : Data = ready_at d.state moment heard in
    stayed fact.Ready d (after_ending is).1 (λ p. refl) refl still
    (stays_then d is (after_ending is).1 (stays_then d heard is (record { phase = refl; limits = refl; stopped = refl }) (stays_ready d.state moment heard refl))
    (stays_end is.state is refl))
phased_fact fact.Closed moment d still =
    let By : Bool → Type 0 = λ b. Phased fact.Closed d (hung_up b d).1 in
    subst By (sym still) (record { phase = refl; limits = refl; stopped = refl; rests = λ ends. refl })
phased_fact fact.NoPort moment d still = record { phase = refl; limits = refl; stopped = refl; rests = λ ends. refl }
phased_fact fact.Failed moment d still = failed (after_ending d) fact.Failed d refl (stays_end d.state d refl).limits
phased_fact (fact.Ended end) moment d still = failed (after_ending d) (fact.Ended end) d refl (stays_end d.state d refl).limits

pub phased_note : (acked : ℕ) (found : LinkFact) (moment : ℕ) (d : Data) → d.stopped ≡ false → Phased found d (note_step acked found moment d).1
phased_note acked found moment d still =
    let noted : Data = (note_fact found moment (with_acked acked moment d)).1 in
    let first = phased_fact found moment (with_acked acked moment d) still in
    let then = stays_settled noted in
    record {
      phase = then.phase ∙ first.phase;
      limits = then.limits ∙ first.limits;
      stopped = then.stopped ∙ first.stopped;
      rests = λ ends. active_settle noted.state noted ∙ first.rests ends;
    }
