-- No pull and no note begins a print, and in a state with a print that print stays active.
use Rattle.std.proofs.Common.{◌≡◌, ℕ, ◌+◌, ◌≤◌, Bool, true, false, cond, nat_eq, codes, List, [], ◌∷◌, Option, None, Some, refl, sym, ◌∙◌, ap, subst}
use Rattle.std.proofs.lemmas.Bool.{false≢true}
use Rattle.job_desk.specs.Data.{Data, Line, with_script, moment_after}
use Rattle.job_desk.specs.Pull.{Drawn, draw_in_order, draw_idle, nothing, next_number, keep_number, issue, from_scripts, from_manual, from_poll, poll_is_due, from_probe, put_off, probe_is_due, from_file, draw_last, draw_at, is_issued, settle_at, settled, pull_step}
use Rattle.job_desk.specs.Course.{job_line}
use Rattle.job_desk.specs.Note.{Noted, after_ending, is_over, end_at, finish, leave, hung_up, fail, ready_at, after_open, note_fact, note_step, with_acked}
use Rattle.job_desk.specs.Endings.{has_print, IsActive}
use Rattle.job_desk.specs.declared.state.State.{State}
use Rattle.job_desk.specs.declared.state.State.TheVariants.{Offline, Connecting, Operational, Printing, Pausing, Paused, Cancelling, Finishing, Closing, Fault}
use Rattle.job_desk.specs.declared.state.Point.TheVariants as point
use Rattle.job_desk.specs.declared.state.Tag.{Tag}
use Rattle.job_desk.specs.declared.state.Tag.TheVariants.{Script, Job, Manual, Poll}
use Rattle.job_desk.specs.declared.link_fact.LinkFact.{LinkFact}
use Rattle.job_desk.specs.declared.link_fact.LinkFact.TheVariants as fact
use Rattle.print_queue.specs.declared.ending.Outcome.TheVariants as outcome
use Rattle.job_desk.proofs.Endings.{IsFree, free_settle}
use Rattle.job_desk.proofs.Steady.{choose_pair}
use Rattle.print_queue.specs.declared.ending.Ending.{Ending}

-- from one desk to another
pub record Goes (d e : Data) : Type 0 where
  pub going : IsActive d → IsActive e
  pub before : e.active ≡ true → d.active ≡ true

same : (d : Data) → Goes d d
same d = record { going = λ g. g; before = λ h. h }

pub goes_then : (d e f : Data) → Goes d e → Goes e f → Goes d f
goes_then d e f a b = record { going = λ g. b.going (a.going g); before = λ h. a.before (b.before h) }

-- so no pull and no note makes a print active
pub goes_rested : (d e : Data) → Goes d e → d.active ≡ false → e.active ≡ false
goes_rested d e goes rested = by e.active refl
  where
    by : (b : Bool) → e.active ≡ b → e.active ≡ false
    by true is = absurd (false≢true (sym rested ∙ goes.before is))
    by false is = is

-- state and activity stay
abbrev Stays : Data → Data → Type 0
Stays d e = (e.state ≡ d.state) × (e.active ≡ d.active)

goes_stays : (d e : Data) → Stays d e → Goes d e
goes_stays d e stays = record {
  going = λ g has. (stays.1 ∙ g (ap has_print (sym stays.0) ∙ has));
  before = λ h. (sym stays.1 ∙ h);
}

-- into a state without a print, with none active
stopped : (d e : Data) → has_print e.state ≡ false → e.active ≡ false → Goes d e
stopped d e free off = record {
  going = λ g has. absurd (false≢true (sym free ∙ has));
  before = λ h. absurd (false≢true (sym off ∙ h));
}

-- from one state with a print to another
moves : (d e : Data) → has_print d.state ≡ true → e.active ≡ d.active → Goes d e
moves d e has stays = record { going = λ g other. (stays ∙ g has); before = λ h. (sym stays ∙ h) }

stays_keep : (tag : Tag) (number : ℕ) (d : Data) → Stays d (keep_number tag number d)
stays_keep (Script at print) number d = choose (nat_eq print 0)
  where
    choose : (b : Bool) → Stays d (cond b (record d { last_line = number }) (record d { print_line = number; last_line = number }))
    choose true = (refl, refl)
    choose false = (refl, refl)
stays_keep (Job print index) number d = (refl, refl)
stays_keep Manual number d = (refl, refl)
stays_keep Poll number d = (refl, refl)

stays_issue : (line : Line) (d e : Data) → Stays d e → Stays d (issue line e).1
stays_issue line d e stays =
    let kept = stays_keep line.tag (next_number e.issued) (record e { issued = next_number e.issued }) in
    (kept.0 ∙ stays.0, kept.1 ∙ stays.1)

stays_scripts : (w : List Line) (d : Data) (next : Drawn) → Stays d next.1 → Stays d (from_scripts w d next).1
stays_scripts [] d next h = h
stays_scripts (line ∷ lines) d next h = stays_issue line d (record d { waiting = lines }) (refl, refl)

stays_manual : (m : List (List ℕ)) (d : Data) (next : Drawn) → Stays d next.1 → Stays d (from_manual m d next).1
stays_manual [] d next h = h
stays_manual (text ∷ texts) d next h = stays_issue (record { text = text; tag = Manual }) d (record d { manual = texts }) (refl, refl)

stays_poll : (moment : ℕ) (d : Data) (next : Drawn) → Stays d next.1 → Stays d (from_poll moment d next).1
stays_poll moment d next h =
    let asked : Data = record d { poll_at = moment_after moment d.poll_ms } in
    choose_pair {X = Option Line} (λ e. Stays d e) (poll_is_due moment d) _ next (stays_issue (record { text = codes "M105"; tag = Poll }) d asked (refl, refl)) h

stays_probe : (awaited moment : ℕ) (d : Data) → Stays d (from_probe awaited moment d).1
stays_probe awaited moment d =
    let asked : Data = put_off moment d in
    choose_pair {X = Option Line} (λ e. Stays d e) (probe_is_due awaited moment d) _ _
    (stays_issue (record { text = codes "M400"; tag = Poll }) d asked (refl, refl)) (refl, refl)

stays_file : (text : Option (List ℕ)) (d : Data) → Stays d (from_file text d).1
stays_file None d = (refl, refl)
stays_file (Some text) d = stays_issue (job_line d.greatest d.cursor text) d (record d { cursor = d.cursor + 1 }) (refl, refl)

stays_talk : (moment : ℕ) (d : Data) (next : Drawn) → Stays d next.1 → Stays d (draw_in_order moment d next).1
stays_talk moment d next h = stays_scripts d.waiting d _ (stays_manual d.manual d _ (stays_poll moment d next h))

stays_last : (b : Bool) (moment : ℕ) (d : Data) → Stays d (draw_last b moment d).1
stays_last false moment d = stays_scripts d.waiting d _ (stays_probe d.last_line moment d)
stays_last true moment d = stays_manual d.manual d (nothing d) (refl, refl)

stays_draw : (s : State) (moment : ℕ) (d : Data) → Stays d (draw_at s moment d).1
stays_draw Operational moment d = stays_talk moment d _ (stays_probe d.issued moment d)
stays_draw Printing moment d = stays_talk moment d _ (stays_file _ d)
stays_draw Pausing moment d = stays_talk moment d _ (stays_probe d.issued moment d)
stays_draw Paused moment d = stays_talk moment d _ (stays_probe d.issued moment d)
stays_draw Cancelling moment d = stays_talk moment d _ (stays_probe d.issued moment d)
stays_draw Finishing moment d = stays_talk moment d _ (stays_probe d.issued moment d)
stays_draw Closing moment d = stays_last d.stopped moment d
stays_draw _ moment d = (refl, refl)

goes_settle : (s : State) (d : Data) → d.state ≡ s → Goes d (settle_at s d)
goes_settle Printing d e = choose (is_issued d)
  where
    choose : (b : Bool) → Goes d (cond b (with_script point.Done d.greatest (record d { state = Finishing })) d)
    choose true = moves d (with_script point.Done d.greatest (record d { state = Finishing })) (ap has_print e) refl
    choose false = same d
goes_settle _ d e = same d

pub goes_pull : (moment : ℕ) (d : Data) → Goes d (pull_step moment d).1
goes_pull moment d =
    let drawn : Drawn = draw_at d.state moment d in
    goes_then d drawn.1 (settled drawn.1) (goes_stays d drawn.1 (stays_draw d.state moment d)) (goes_settle drawn.1.state drawn.1 refl)

goes_end : (s : State) (d : Data) → d.state ≡ s → Goes d (end_at s d).1
goes_end Pausing d e = choose_pair {X = Option Ending} (λ t. Goes d t) (is_over d) (None, record d { state = Paused }) (None, d)
    (moves d (record d { state = Paused }) (ap has_print e) refl) (same d)
goes_end Cancelling d e = choose_pair {X = Option Ending} (λ t. Goes d t) (is_over d) (finish outcome.Cancelled d) (None, d)
    (stopped d (record d { state = Operational; active = false }) refl refl) (same d)
goes_end Finishing d e = choose_pair {X = Option Ending} (λ t. Goes d t) (is_over d) (finish outcome.Done d) (None, d)
    (stopped d (record d { state = Operational; active = false }) refl refl) (same d)
goes_end _ d e = same d

goes_fail : (d : Data) (noted : Noted) → Goes d (fail noted).1
goes_fail d (None, t) = stopped d (leave Fault outcome.Failed t).1 refl refl
goes_fail d (Some ending, t) = stopped d (leave Fault outcome.Failed t).1 refl refl

goes_hung : (b : Bool) (d : Data) → Goes d (hung_up b d).1
goes_hung false d = stopped d (leave Offline outcome.Cancelled d).1 refl refl
goes_hung true d = stopped d (leave Fault outcome.Failed d).1 refl refl

goes_ready : (s : State) (moment : ℕ) (d : Data) → d.state ≡ s → Goes d (ready_at s moment d)
goes_ready Connecting moment d e = record { going = λ g has. absurd (false≢true has); before = λ h. h }
goes_ready _ moment d e = same d

goes_fact : (f : LinkFact) (moment : ℕ) (d : Data) → Goes d (note_fact f moment d).1
goes_fact fact.Quiet moment d = goes_end d.state d refl
goes_fact fact.Opened moment d = goes_then d (after_open d) _ (goes_stays d (after_open d) (refl, refl)) (goes_end d.state (after_open d) refl)
goes_fact fact.Ready moment d =
    let heard : Data = record d { ready = true } in
    let is : Data = ready_at heard.state moment heard in
    goes_then d is _ (goes_then d heard is (goes_stays d heard (refl, refl)) (goes_ready heard.state moment heard refl)) (goes_end is.state is refl)
goes_fact fact.Closed moment d = goes_hung d.stopped d
goes_fact fact.NoPort moment d = stopped d (leave Fault outcome.Failed d).1 refl refl
goes_fact fact.Failed moment d = goes_fail d (after_ending d)
goes_fact (fact.Ended end) moment d = goes_fail d (after_ending d)

pub goes_note : (acked : ℕ) (f : LinkFact) (moment : ℕ) (d : Data) → Goes d (note_step acked f moment d).1
goes_note acked f moment d =
    let counted : Data = with_acked acked moment d in
    let noted : Noted = note_fact f moment counted in
    goes_then d noted.1 (settled noted.1) (goes_then d counted noted.1 (goes_stays d counted (refl, refl)) (goes_fact f moment counted))
    (goes_settle noted.1.state noted.1 refl)

-- a desk without a print stays so in a pull
free_scripts : (acked : ℕ) (w : List Line) (d : Data) (next : Drawn) → w ≡ [] → IsFree acked next.1 → IsFree acked (from_scripts w d next).1
free_scripts acked [] d next none free = free
free_scripts acked (line ∷ lines) d next none free = absurd (cc none)

free_manual : (acked : ℕ) (m : List (List ℕ)) (d : Data) (next : Drawn) → IsFree acked d → IsFree acked next.1 → IsFree acked (from_manual m d next).1
free_manual acked [] d next free rest = rest
free_manual acked (text ∷ texts) d next free rest = record { no_print = free.no_print; no_script = free.no_script; last_line = free.last_line }

free_probe : (acked awaited moment : ℕ) (d : Data) → IsFree acked d → IsFree acked (from_probe awaited moment d).1
free_probe acked awaited moment d free =
    choose_pair {X = Option Line} (λ e. IsFree acked e) (probe_is_due awaited moment d) (issue (record { text = codes "M400"; tag = Poll })
    (put_off moment d)) (nothing d)
    (record { no_print = free.no_print; no_script = free.no_script; last_line = free.last_line }) free

free_talk : (acked moment : ℕ) (d : Data) → IsFree acked d → IsFree acked (draw_idle moment d).1
free_talk acked moment d free =
    free_scripts acked d.waiting d _ free.no_script
    (free_manual acked d.manual d _ free
    (choose_pair {X = Option Line} (λ e. IsFree acked e) (poll_is_due moment d) (issue (record { text = codes "M105"; tag = Poll })
    (record d { poll_at = moment_after moment d.poll_ms })) (from_probe d.issued moment d)
    (record { no_print = free.no_print; no_script = free.no_script; last_line = free.last_line }) (free_probe acked d.issued moment d free)))

has_none : (X : Type 0) (acked : ℕ) (d : Data) (s : State) → d.state ≡ s → has_print s ≡ true → IsFree acked d → X
has_none X acked d s e has free = absurd (false≢true (sym free.no_print ∙ ap has_print e ∙ has))

free_last : (acked : ℕ) (b : Bool) (moment : ℕ) (d : Data) → IsFree acked d → IsFree acked (draw_last b moment d).1
free_last acked false moment d free = free_scripts acked d.waiting d _ free.no_script (free_probe acked d.last_line moment d free)
free_last acked true moment d free = free_manual acked d.manual d (nothing d) free free

free_draw : (acked : ℕ) (s : State) (moment : ℕ) (d : Data) → d.state ≡ s → IsFree acked d → IsFree acked (draw_at s moment d).1
free_draw acked Operational moment d e free = free_talk acked moment d free
free_draw acked Printing moment d e free = has_none _ acked d Printing e refl free
free_draw acked Pausing moment d e free = has_none _ acked d Pausing e refl free
free_draw acked Paused moment d e free = has_none _ acked d Paused e refl free
free_draw acked Cancelling moment d e free = has_none _ acked d Cancelling e refl free
free_draw acked Finishing moment d e free = has_none _ acked d Finishing e refl free
free_draw acked Closing moment d e free = free_last acked d.stopped moment d free
free_draw acked _ moment d e free = free

pub free_pull : (acked moment : ℕ) (d : Data) → IsFree acked d → IsFree acked (pull_step moment d).1
free_pull acked moment d free =
    let drawn : Drawn = draw_at d.state moment d in
    free_settle acked drawn.1.state drawn.1 refl (free_draw acked d.state moment d refl free)

-- and if the link fails
end_line : (s : State) (d : Data) → (end_at s d).1.print_line ≡ d.print_line
end_line Pausing d = choose_pair {X = Option Ending} (λ t. t.print_line ≡ d.print_line) (is_over d) (None, record d { state = Paused }) (None, d) refl refl
end_line Cancelling d = choose_pair {X = Option Ending} (λ t. t.print_line ≡ d.print_line) (is_over d) (finish outcome.Cancelled d) (None, d) refl refl
end_line Finishing d = choose_pair {X = Option Ending} (λ t. t.print_line ≡ d.print_line) (is_over d) (finish outcome.Done d) (None, d) refl refl
end_line _ d = refl

free_fail : (acked : ℕ) (noted : Noted) → noted.1.print_line ≤ acked → IsFree acked (settled (fail noted).1)
free_fail acked (None, t) line = record { no_print = refl; no_script = refl; last_line = line }
free_fail acked (Some ending, t) line = record { no_print = refl; no_script = refl; last_line = line }

pub free_failed : (acked moment : ℕ) (d : Data) → IsFree acked d → IsFree acked (note_step acked fact.Failed moment d).1
free_failed acked moment d free =
    let counted : Data = with_acked acked moment d in
    let L : ℕ → Type 0 = λ n. n ≤ acked in
    let line : (after_ending counted).1.print_line ≤ acked = subst L (sym (end_line d.state counted)) free.last_line in
    free_fail acked (after_ending counted) line
