-- How each call of the desk counts issued and acknowledged lines.
use Rattle.std.proofs.Common.{◌≡◌, ℕ, ◌+◌, Bool, true, false, nat_eq, codes, List, [], ◌∷◌, Option, None, Some, refl, ap, ◌∙◌}
use Rattle.std.specs.Prelude.{◌&&◌, Result, Ok, Err, nat_lt, length, ◌++◌}
use Rattle.job_desk.specs.Data.{moment_after, Data, File, Line, with_script}
use Rattle.job_desk.specs.Table.{connect_at, disconnect_at, select_at, drop_file_step, is_named, start_at, start_file, start_checked, restart_at, pause_at, resume_at, toggle_at, cancel_at, manual_at, add_manual, take_manual, is_stop, stop_alone, stopping, may_stop_closing, wrong_state}
use Rattle.job_desk.specs.Pull.{Drawn, draw_in_order, nothing, next_number, keep_number, issue, from_scripts, from_manual, from_poll, poll_is_due, from_probe, put_off, probe_is_due, from_file, draw_last, draw_at, is_issued, settle_at, settled, pull_step}
use Rattle.job_desk.specs.Course.{job_line}
use Rattle.job_desk.specs.Note.{Noted, after_ending, is_over, end_at, hung_up, fail, ready_at, after_open, note_fact, note_step, with_acked}
use Rattle.job_desk.specs.declared.state.State.{State}
use Rattle.job_desk.specs.declared.state.Refusal.{Refusal}
use Rattle.job_desk.specs.declared.state.Refusal.TheVariants as refusal
use Rattle.job_desk.specs.declared.state.State.TheVariants.{Offline, Connecting, Operational, Printing, Pausing, Paused, Cancelling, Finishing, Closing, Fault}
use Rattle.job_desk.specs.declared.state.Point.TheVariants as point
use Rattle.job_desk.specs.declared.state.Tag.{Tag}
use Rattle.job_desk.specs.declared.state.Tag.TheVariants.{Script, Job, Manual, Poll}
use Rattle.job_desk.specs.declared.link_fact.LinkFact.{LinkFact}
use Rattle.job_desk.specs.declared.link_fact.LinkFact.TheVariants as fact
use Rattle.temp_rules.specs.declared.job.HotLine.{HotLine}
use Rattle.temp_rules.specs.Hot.{first_hot_of}
use Rattle.job_desk.proofs.Steady.{choose_pair}
use Rattle.std.proofs.lemmas.Bool.{cond_both}

-- both counts are the same
pub record Counts (d e : Data) : Type 0 where
  pub issued : e.issued ≡ d.issued
  pub acked : e.acked ≡ d.acked

pub same : (d : Data) → Counts d d
same d = record { issued = refl; acked = refl }

pub and_then : (d e f : Data) → Counts d e → Counts e f → Counts d f
and_then d e f a b = record { issued = b.issued ∙ a.issued; acked = b.acked ∙ a.acked }

pub counts_connect : (s : State) (port : List ℕ) (d : Data) → Counts d (connect_at s port d).1
counts_connect Offline port d = record { issued = refl; acked = refl }
counts_connect Fault port d = record { issued = refl; acked = refl }
counts_connect _ port d = same d

pub counts_disconnect : (s : State) (d : Data) → Counts d (disconnect_at s d)
counts_disconnect Offline d = same d
counts_disconnect Closing d = record { issued = refl; acked = refl }
counts_disconnect _ d = record { issued = refl; acked = refl }

pub counts_select : (s : State) (file : File) (d : Data) → Counts d (select_at s file d).1
counts_select Offline file d = record { issued = refl; acked = refl }
counts_select Connecting file d = record { issued = refl; acked = refl }
counts_select Operational file d = record { issued = refl; acked = refl }
counts_select Fault file d = record { issued = refl; acked = refl }
counts_select _ file d = same d

pub counts_drop_file : (name : List ℕ) (d : Data) → Counts d (drop_file_step name d).1
counts_drop_file name d =
    choose_pair (λ e. Counts d e) (is_named name d.file) _ _ (choose_pair (λ e. Counts d e) d.active _ _ (same d) (record { issued = refl; acked = refl }))
    (same d)

counts_checked : (hot : Option HotLine) (print : ℕ) (d : Data) → Counts d (start_checked hot print d).1
counts_checked None print d = record { issued = refl; acked = refl }
counts_checked (Some hot) print d = same d

counts_start_file : (file : Option File) (print : ℕ) (d : Data) → Counts d (start_file file print d).1
counts_start_file None print d = same d
counts_start_file (Some file) print d = counts_checked (first_hot_of d.limits file.job.commands) print d

pub counts_start : (s : State) (print : ℕ) (d : Data) → Counts d (start_at s print d).1
counts_start Operational print d = counts_start_file d.file print d
counts_start _ print d = same d

pub counts_restart : (s : State) (print : ℕ) (d : Data) → Counts d (restart_at s print d).1
counts_restart Paused print d = record { issued = refl; acked = refl }
counts_restart _ print d = same d

pub counts_pause : (s : State) (d : Data) → Counts d (pause_at s d).1
counts_pause Printing d = record { issued = refl; acked = refl }
counts_pause _ d = same d

pub counts_resume : (s : State) (d : Data) → Counts d (resume_at s d).1
counts_resume Paused d = record { issued = refl; acked = refl }
counts_resume _ d = same d

pub counts_toggle : (s : State) (d : Data) → Counts d (toggle_at s d).1
counts_toggle Printing d = record { issued = refl; acked = refl }
counts_toggle Paused d = record { issued = refl; acked = refl }
counts_toggle _ d = same d

pub counts_cancel : (s : State) (d : Data) → Counts d (cancel_at s d).1
counts_cancel Printing d = record { issued = refl; acked = refl }
counts_cancel Pausing d = record { issued = refl; acked = refl }
counts_cancel Paused d = record { issued = refl; acked = refl }
counts_cancel _ d = same d

counts_adds : (lines : List (List ℕ)) (d : Data) → Counts d (add_manual lines d).1
counts_adds lines d =
    choose_pair {X = Result (Unit {0}) Refusal} (λ e. Counts d e) (nat_lt 256 (length d.manual + length lines)) (Err (refusal.Full (length d.manual)), d)
    (Ok tt, record d { manual = d.manual ++ lines }) (same d) (record { issued = refl; acked = refl })

counts_stopping : (lines : List (List ℕ)) (d : Data) → Counts d (stopping lines d)
counts_stopping lines d = record { issued = refl; acked = refl }

counts_takes : (lines : List (List ℕ)) (d : Data) → Counts d (take_manual lines d).1
counts_takes lines d =
    choose_pair {X = Result (Unit {0}) Refusal} (λ e. Counts d e) (is_stop lines) (Ok tt, stopping lines d) (add_manual lines d) (counts_stopping lines d)
    (counts_adds lines d)

counts_alone : (may : Bool) (lines : List (List ℕ)) (d : Data) → Counts d (stop_alone may lines d).1
counts_alone may lines d =
    choose_pair {X = Result (Unit {0}) Refusal} (λ e. Counts d e) (is_stop lines && may) (Ok tt, stopping lines d) (wrong_state d)
    (counts_stopping lines d) (same d)

pub counts_manual : (s : State) (lines : List (List ℕ)) (d : Data) → Counts d (manual_at s lines d).1
counts_manual Operational lines d = counts_takes lines d
counts_manual Printing lines d = counts_takes lines d
counts_manual Pausing lines d = counts_takes lines d
counts_manual Paused lines d = counts_takes lines d
counts_manual Cancelling lines d = counts_takes lines d
counts_manual Finishing lines d = counts_takes lines d
counts_manual Connecting lines d = counts_alone d.linked lines d
counts_manual Closing lines d = counts_alone (may_stop_closing d) lines d
counts_manual _ lines d = same d

counts_settle : (s : State) (d : Data) → Counts d (settle_at s d)
counts_settle Printing d =
    cond_both (is_issued d) (with_script point.Done d.greatest (record d { state = Finishing })) d (λ e. Counts d e)
    (λ _. record { issued = refl; acked = refl }) (λ _. same d)
counts_settle _ d = same d

counts_end : (s : State) (d : Data) → Counts d (end_at s d).1
counts_end Pausing d = choose_pair (λ e. Counts d e) (is_over d) _ _ (record { issued = refl; acked = refl }) (same d)
counts_end Cancelling d = choose_pair (λ e. Counts d e) (is_over d) _ _ (record { issued = refl; acked = refl }) (same d)
counts_end Finishing d = choose_pair (λ e. Counts d e) (is_over d) _ _ (record { issued = refl; acked = refl }) (same d)
counts_end _ d = same d

counts_fail : (d : Data) (noted : Noted) → Counts d noted.1 → Counts d (fail noted).1
counts_fail d (None, e) h = and_then d e _ h (record { issued = refl; acked = refl })
counts_fail d (Some ending, e) h = and_then d e _ h (record { issued = refl; acked = refl })

counts_hung : (b : Bool) (d : Data) → Counts d (hung_up b d).1
counts_hung false d = record { issued = refl; acked = refl }
counts_hung true d = record { issued = refl; acked = refl }

counts_ready : (s : State) (moment : ℕ) (d : Data) → Counts d (ready_at s moment d)
counts_ready Connecting moment d = record { issued = refl; acked = refl }
counts_ready _ moment d = same d

-- whether a fact begins a session
abbrev pub begins : LinkFact → Bool
begins fact.Opened = true
begins _ = false

counts_fact : (f : LinkFact) (moment : ℕ) (d : Data) → begins f ≡ false → Counts d (note_fact f moment d).1
counts_fact fact.Quiet moment d e = counts_end d.state d
counts_fact fact.Opened moment d e = absurd (cc e)
counts_fact fact.Ready moment d e =
    let heard : Data = record d { ready = true } in
    let is : Data = ready_at heard.state moment heard in
    and_then d is _ (and_then d heard is (record { issued = refl; acked = refl }) (counts_ready heard.state moment heard)) (counts_end is.state is)
counts_fact fact.Closed moment d e = counts_hung d.stopped d
counts_fact fact.NoPort moment d e = record { issued = refl; acked = refl }
counts_fact fact.Failed moment d e = counts_fail d (after_ending d) (counts_end d.state d)
counts_fact (fact.Ended end) moment d e = counts_fail d (after_ending d) (counts_end d.state d)

-- a note sets how many lines are acknowledged
pub counts_note : (acknowledged : ℕ) (f : LinkFact) (moment : ℕ) (d : Data) → begins f ≡ false →
    Counts (with_acked acknowledged moment d) (note_step acknowledged f moment d).1
counts_note acknowledged f moment d e =
    let told : Data = with_acked acknowledged moment d in
    let noted : Noted = note_fact f moment told in
    and_then told noted.1 (settled noted.1) (counts_fact f moment told e) (counts_settle noted.1.state noted.1)

-- the same after a call whose clause says so
pub noted_issued : (acknowledged : ℕ) (f : LinkFact) (moment : ℕ) (d e : Data) → begins f ≡ false → e ≡ (note_step acknowledged f moment d).1 →
    e.issued ≡ d.issued
noted_issued acknowledged f moment d e other is = ap (λ (x : Data). x.issued) is ∙ (counts_note acknowledged f moment d other).issued

pub noted_acked : (acknowledged : ℕ) (f : LinkFact) (moment : ℕ) (d e : Data) → begins f ≡ false → e ≡ (note_step acknowledged f moment d).1 →
    e.acked ≡ acknowledged
noted_acked acknowledged f moment d e other is = ap (λ (x : Data). x.acked) is ∙ (counts_note acknowledged f moment d other).acked

-- with a new session both counts are 0
pub counts_opened : (moment : ℕ) (d : Data) → Counts (after_open (with_acked 0 moment d)) (note_step 0 fact.Opened moment d).1
counts_opened moment d =
    let told : Data = after_open (with_acked 0 moment d) in
    let noted : Noted = after_ending told in
    and_then told noted.1 (settled noted.1) (counts_end told.state told) (counts_settle noted.1.state noted.1)

-- the count after a pull
abbrev pub counted_by : Option Line → ℕ → ℕ
counted_by None n = n
counted_by (Some line) n = next_number n

-- a pull counts its line
pub record Counted (d : Data) (p : Drawn) : Type 0 where
  pub issued : p.1.issued ≡ counted_by p.0 d.issued
  pub acked : p.1.acked ≡ d.acked

counted_none : (d : Data) → Counted d (nothing d)
counted_none d = record { issued = refl; acked = refl }

counts_keep : (tag : Tag) (number : ℕ) (d : Data) → Counts d (keep_number tag number d)
counts_keep (Script point print) number d = cond_both (nat_eq print 0) (record d { last_line = number }) (record d { print_line = number; last_line = number })
    (λ e. Counts d e) (λ _. record { issued = refl; acked = refl }) (λ _. record { issued = refl; acked = refl })
counts_keep (Job print index) number d = record { issued = refl; acked = refl }
counts_keep Manual number d = record { issued = refl; acked = refl }
counts_keep Poll number d = record { issued = refl; acked = refl }

counted_issue : (line : Line) (d e : Data) → e.issued ≡ d.issued → e.acked ≡ d.acked → Counted d (issue line e)
counted_issue line d e i a =
    let counted : Data = record e { issued = next_number e.issued } in
    let kept = counts_keep line.tag (next_number e.issued) counted in
    record { issued = kept.issued ∙ (rw i refl); acked = kept.acked ∙ a }

counted_scripts : (w : List Line) (d : Data) (next : Drawn) → Counted d next → Counted d (from_scripts w d next)
counted_scripts [] d next h = h
counted_scripts (line ∷ lines) d next h = counted_issue line d (record d { waiting = lines }) refl refl

counted_from_manual : (m : List (List ℕ)) (d : Data) (next : Drawn) → Counted d next → Counted d (from_manual m d next)
counted_from_manual [] d next h = h
counted_from_manual (text ∷ texts) d next h = counted_issue (record { text = text; tag = Manual }) d (record d { manual = texts }) refl refl

counted_poll : (moment : ℕ) (d : Data) (next : Drawn) → Counted d next → Counted d (from_poll moment d next)
counted_poll moment d next h =
    let asked : Data = record d { poll_at = moment_after moment d.poll_ms } in
    cond_both (poll_is_due moment d) _ next (λ p. Counted d p) (λ _. counted_issue (record { text = codes "M105"; tag = Poll }) d asked refl refl) (λ _. h)

counted_probe : (awaited moment : ℕ) (d : Data) → Counted d (from_probe awaited moment d)
counted_probe awaited moment d =
    let asked : Data = put_off moment d in
    cond_both (probe_is_due awaited moment d) _ (nothing d) (λ p. Counted d p) (λ _. counted_issue (record { text = codes "M400"; tag = Poll }) d asked refl refl)
    (λ _. counted_none d)

counted_file : (text : Option (List ℕ)) (d : Data) → Counted d (from_file text d)
counted_file None d = counted_none d
counted_file (Some text) d = counted_issue (job_line d.greatest d.cursor text) d (record d { cursor = d.cursor + 1 }) refl refl

counted_talk : (moment : ℕ) (d : Data) (next : Drawn) → Counted d next → Counted d (draw_in_order moment d next)
counted_talk moment d next h = counted_scripts d.waiting d _ (counted_from_manual d.manual d _ (counted_poll moment d next h))

counted_last : (b : Bool) (moment : ℕ) (d : Data) → Counted d (draw_last b moment d)
counted_last false moment d = counted_scripts d.waiting d _ (counted_probe d.last_line moment d)
counted_last true moment d = counted_from_manual d.manual d (nothing d) (counted_none d)

counted_draw : (s : State) (moment : ℕ) (d : Data) → Counted d (draw_at s moment d)
counted_draw Operational moment d = counted_talk moment d _ (counted_probe d.issued moment d)
counted_draw Printing moment d = counted_talk moment d _ (counted_file _ d)
counted_draw Pausing moment d = counted_talk moment d _ (counted_probe d.issued moment d)
counted_draw Paused moment d = counted_talk moment d _ (counted_probe d.issued moment d)
counted_draw Cancelling moment d = counted_talk moment d _ (counted_probe d.issued moment d)
counted_draw Finishing moment d = counted_talk moment d _ (counted_probe d.issued moment d)
counted_draw Closing moment d = counted_last d.stopped moment d
counted_draw _ moment d = counted_none d

pub counted_pull : (moment : ℕ) (d : Data) → Counted d (pull_step moment d)
counted_pull moment d =
    let drawn : Drawn = draw_at d.state moment d in
    let first = counted_draw d.state moment d in
    let behind = counts_settle drawn.1.state drawn.1 in
    record { issued = behind.issued ∙ first.issued; acked = behind.acked ∙ first.acked }

-- a pull without a line counts none, one with a line counts it
pub pull_none : (moment : ℕ) (d : Data) → (pull_step moment d).0 ≡ None → (pull_step moment d).1.issued ≡ d.issued
pull_none moment d e =
    let h = (counted_pull moment d).issued in
    rw e at h

pub pull_some : (moment : ℕ) (d : Data) (line : Line) → (pull_step moment d).0 ≡ Some line → (pull_step moment d).1.issued ≡ next_number d.issued
pull_some moment d line e =
    let h = (counted_pull moment d).issued in
    rw e at h
