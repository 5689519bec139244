-- Whether a link is made, and that the line that stops the printer was issued: what the desk's calls, pulls and notes leave of it.
use Rattle.std.proofs.Common.{◌≡◌, ◌⊎◌, ◌+◌, codes, inl, inr, ℕ, nat_eq, Bool, true, false, not, ◌&&◌, cond, List, [], ◌∷◌, refl, sym, ◌∙◌, ap, subst}
use Rattle.std.specs.Prelude.{◌==◌, nat_lt, length, Option, None, Some}
use Rattle.std.proofs.lemmas.Bool.{cond_both}
use Rattle.job_desk.specs.Data.{moment_after, Data, File, Line, with_script}
use Rattle.job_desk.specs.Table.{add_manual, cancel_at, connect_at, disconnect_at, drop_file_step, is_closable, is_closable_at, is_named, is_stop, manual_at, may_stop_closing, most_manual, ok_answer, pause_at, restart_at, resume_at, select_at, start_at, start_checked, start_file, stop_alone, stopping, take_manual, toggle_at, wrong_state}
use Rattle.job_desk.specs.Pull.{Drawn, draw_in_order, nothing, next_number, keep_number, issue, from_scripts, from_manual, from_poll, poll_is_due, from_probe, put_off, probe_is_due, from_file, draw_last, draw_at, is_issued, settle_at, pull_step}
use Rattle.job_desk.specs.Course.{job_line}
use Rattle.job_desk.specs.Note.{Noted, after_ending, is_over, end_at, hung_up, fail, ready_at, after_open, note_fact, note_step, with_acked}
use Rattle.job_desk.specs.declared.state.State.{State}
use Rattle.job_desk.specs.declared.state.State.TheVariants.{Offline, Connecting, Operational, Printing, Pausing, Paused, Cancelling, Finishing, Closing, Fault}
use Rattle.job_desk.specs.declared.state.Point.TheVariants as point
use Rattle.job_desk.specs.declared.state.Refusal.TheVariants as refusal
use Rattle.job_desk.specs.declared.state.Tag.{Tag}
use Rattle.job_desk.specs.declared.state.Tag.TheVariants.{Script, Job, Manual, Poll}
use Rattle.job_desk.specs.declared.link_fact.LinkFact.{LinkFact}
use Rattle.job_desk.specs.declared.link_fact.LinkFact.TheVariants as fact
use Rattle.job_desk.proofs.Steady.{choose_pair}
use Rattle.temp_rules.specs.declared.job.HotLine.{HotLine}
use Rattle.temp_rules.specs.Hot.{first_hot_of}
use Rattle.send_window.specs.Data.{SenderData, NoneEarly}
use Rattle.octo_session.specs.Data.{IsJoined, IsStopped}
use Rattle.octo_session.specs.DeskTurn.{Pulls}
use Rattle.octo_session.specs.Found.{up_after}

-- what a call leaves of both
pub record Links (d e : Data) : Type 0 where
  pub linked : e.linked ≡ d.linked
  pub stopped : IsStopped d → IsStopped e

links_same : (d : Data) → Links d d
links_same d = record { linked = refl; stopped = λ st. st }

-- a call that changes nothing in Closing
closing_same : (call : State → Data) (d : Data) → call Closing ≡ d → IsStopped d → IsStopped (call d.state)
closing_same call d is st = subst IsStopped (sym (ap call st.closes ∙ is)) st

linked_connect : (s : State) (port : List ℕ) (d : Data) → (connect_at s port d).1.linked ≡ d.linked
linked_connect Offline port d = refl
linked_connect Fault port d = refl
linked_connect _ port d = refl

pub links_connect : (port : List ℕ) (d : Data) → Links d (connect_at d.state port d).1
links_connect port d = record { linked = linked_connect d.state port d; stopped = closing_same (λ s. (connect_at s port d).1) d refl }

linked_disconnect : (s : State) (d : Data) → (disconnect_at s d).linked ≡ d.linked
linked_disconnect Offline d = refl
linked_disconnect Connecting d = refl
linked_disconnect Closing d = refl
linked_disconnect Fault d = refl
linked_disconnect _ d = refl

pub links_disconnect : (d : Data) → Links d (disconnect_at d.state d)
links_disconnect d = record {
  linked = linked_disconnect d.state d;
  stopped = λ st. subst IsStopped (sym (ap (λ s. disconnect_at s d) st.closes)) (record { closes = st.closes; stops = st.stops; issued = st.issued });
}

linked_select : (s : State) (file : File) (d : Data) → (select_at s file d).1.linked ≡ d.linked
linked_select Offline file d = refl
linked_select Connecting file d = refl
linked_select Operational file d = refl
linked_select Fault file d = refl
linked_select _ file d = refl

pub links_select : (file : File) (d : Data) → Links d (select_at d.state file d).1
links_select file d = record { linked = linked_select d.state file d; stopped = closing_same (λ s. (select_at s file d).1) d refl }

pub links_drop_file : (name : List ℕ) (d : Data) → Links d (drop_file_step name d).1
links_drop_file name d =
    choose_pair (λ e. Links d e) (is_named name d.file) _ _ (choose_pair (λ e. Links d e) d.active _ _ (links_same d)
    (record { linked = refl; stopped = λ st. record { closes = st.closes; stops = st.stops; issued = st.issued } })) (links_same d)

linked_checked : (hot : Option HotLine) (print : ℕ) (d : Data) → (start_checked hot print d).1.linked ≡ d.linked
linked_checked None print d = refl
linked_checked (Some hot) print d = refl

linked_start_file : (file : Option File) (print : ℕ) (d : Data) → (start_file file print d).1.linked ≡ d.linked
linked_start_file None print d = refl
linked_start_file (Some file) print d = linked_checked (first_hot_of d.limits file.job.commands) print d

linked_start : (s : State) (print : ℕ) (d : Data) → (start_at s print d).1.linked ≡ d.linked
linked_start Operational print d = linked_start_file d.file print d
linked_start _ print d = refl

pub links_start : (print : ℕ) (d : Data) → Links d (start_at d.state print d).1
links_start print d = record { linked = linked_start d.state print d; stopped = closing_same (λ s. (start_at s print d).1) d refl }

linked_restart : (s : State) (print : ℕ) (d : Data) → (restart_at s print d).1.linked ≡ d.linked
linked_restart Paused print d = refl
linked_restart _ print d = refl

pub links_restart : (print : ℕ) (d : Data) → Links d (restart_at d.state print d).1
links_restart print d = record { linked = linked_restart d.state print d; stopped = closing_same (λ s. (restart_at s print d).1) d refl }

linked_pause : (s : State) (d : Data) → (pause_at s d).1.linked ≡ d.linked
linked_pause Printing d = refl
linked_pause _ d = refl

pub links_pause : (d : Data) → Links d (pause_at d.state d).1
links_pause d = record { linked = linked_pause d.state d; stopped = closing_same (λ s. (pause_at s d).1) d refl }

linked_resume : (s : State) (d : Data) → (resume_at s d).1.linked ≡ d.linked
linked_resume Paused d = refl
linked_resume _ d = refl

pub links_resume : (d : Data) → Links d (resume_at d.state d).1
links_resume d = record { linked = linked_resume d.state d; stopped = closing_same (λ s. (resume_at s d).1) d refl }

linked_toggle : (s : State) (d : Data) → (toggle_at s d).1.linked ≡ d.linked
linked_toggle Printing d = refl
linked_toggle Paused d = refl
linked_toggle _ d = refl

pub links_toggle : (d : Data) → Links d (toggle_at d.state d).1
links_toggle d = record { linked = linked_toggle d.state d; stopped = closing_same (λ s. (toggle_at s d).1) d refl }

linked_cancel : (s : State) (d : Data) → (cancel_at s d).1.linked ≡ d.linked
linked_cancel Printing d = refl
linked_cancel Pausing d = refl
linked_cancel Paused d = refl
linked_cancel _ d = refl

pub links_cancel : (d : Data) → Links d (cancel_at d.state d).1
links_cancel d = record { linked = linked_cancel d.state d; stopped = closing_same (λ s. (cancel_at s d).1) d refl }

linked_adds : (lines : List (List ℕ)) (d : Data) → (add_manual lines d).1.linked ≡ d.linked
linked_adds lines d = choose_pair (λ e. e.linked ≡ d.linked) (nat_lt most_manual (length d.manual + length lines)) _ _ refl refl

linked_takes : (lines : List (List ℕ)) (d : Data) → (take_manual lines d).1.linked ≡ d.linked
linked_takes lines d = choose_pair (λ e. e.linked ≡ d.linked) (is_stop lines) _ _ refl (linked_adds lines d)

linked_alone : (may : Bool) (lines : List (List ℕ)) (d : Data) → (stop_alone may lines d).1.linked ≡ d.linked
linked_alone may lines d = choose_pair (λ e. e.linked ≡ d.linked) (is_stop lines && may) _ _ refl refl

linked_manual : (s : State) (lines : List (List ℕ)) (d : Data) → (manual_at s lines d).1.linked ≡ d.linked
linked_manual Connecting lines d = linked_alone d.linked lines d
linked_manual Operational lines d = linked_takes lines d
linked_manual Printing lines d = linked_takes lines d
linked_manual Pausing lines d = linked_takes lines d
linked_manual Paused lines d = linked_takes lines d
linked_manual Cancelling lines d = linked_takes lines d
linked_manual Finishing lines d = linked_takes lines d
linked_manual Closing lines d = linked_alone (may_stop_closing d) lines d
linked_manual _ lines d = refl

and_false : (b : Bool) → (b && false) ≡ false
and_false true = refl
and_false false = refl

-- a second stop is refused
stopped_once : (lines : List (List ℕ)) (d : Data) → d.stopped ≡ true → (stop_alone (may_stop_closing d) lines d).1 ≡ d
stopped_once lines d stops =
    ap (λ b. (stop_alone b lines d).1) (ap (λ b. d.ready && not b) stops ∙ and_false d.ready)
    ∙ ap (λ b. (cond b (ok_answer (stopping lines d)) (wrong_state d)).1) (and_false (is_stop lines))

pub links_manual : (lines : List (List ℕ)) (d : Data) → Links d (manual_at d.state lines d).1
links_manual lines d = record {
  linked = linked_manual d.state lines d;
  stopped = λ st. subst IsStopped (sym (ap (λ s. (manual_at s lines d).1) st.closes ∙ stopped_once lines d st.stops)) st;
}

-- such a desk may close
pub stopped_closes : (d : Data) → IsStopped d → is_closable_at d.state d ≡ true
stopped_closes d st =
    ap (λ s. is_closable_at s d) st.closes ∙ ap (λ b. is_closable b d) st.stops ∙ ap (λ (m : List (List ℕ)). length m == 0) st.issued

-- so in a turn over the link no line was issued before the `ok` of the hello
pub none_early : (d : Data) (s : SenderData) → IsJoined d s true → is_closable_at d.state d ≡ false → NoneEarly s
none_early d s joined shut = by (joined.early refl)
  where
    by : NoneEarly s ⊎ IsStopped d → NoneEarly s
    by (inl early) = early
    by (inr st) = (let may : is_closable_at d.state d ≡ true = stopped_closes d st in absurd (cc))

linked_end : (s : State) (d : Data) → (end_at s d).1.linked ≡ d.linked
linked_end Pausing d = choose_pair (λ e. e.linked ≡ d.linked) (is_over d) _ _ refl refl
linked_end Cancelling d = choose_pair (λ e. e.linked ≡ d.linked) (is_over d) _ _ refl refl
linked_end Finishing d = choose_pair (λ e. e.linked ≡ d.linked) (is_over d) _ _ refl refl
linked_end _ d = refl

linked_settle : (s : State) (d : Data) → (settle_at s d).linked ≡ d.linked
linked_settle Printing d =
    cond_both (is_issued d) (with_script point.Done d.greatest (record d { state = Finishing })) d (λ e. e.linked ≡ d.linked) (λ _. refl) (λ _. refl)
linked_settle _ d = refl

linked_ready : (s : State) (moment : ℕ) (d : Data) → (ready_at s moment d).linked ≡ d.linked
linked_ready Connecting moment d = refl
linked_ready _ moment d = refl

linked_hung : (b : Bool) (d : Data) → (hung_up b d).1.linked ≡ false
linked_hung false d = refl
linked_hung true d = refl

linked_fail : (noted : Noted) → (fail noted).1.linked ≡ false
linked_fail (None, d) = refl
linked_fail (Some ending, d) = refl

linked_fact : (f : LinkFact) (moment : ℕ) (d : Data) → (f ≡ fact.Ready → d.linked ≡ true) → (note_fact f moment d).1.linked ≡ up_after f d.linked
linked_fact fact.Quiet moment d ready = linked_end d.state d
linked_fact fact.Opened moment d ready = linked_end d.state (after_open d)
linked_fact fact.Ready moment d ready =
    let heard : Data = record d { ready = true } in
    let is : Data = ready_at heard.state moment heard in
    linked_end is.state is ∙ linked_ready heard.state moment heard ∙ ready refl
linked_fact fact.Closed moment d ready = linked_hung d.stopped d
linked_fact fact.NoPort moment d ready = refl
linked_fact fact.Failed moment d ready = linked_fail (after_ending d)
linked_fact (fact.Ended end) moment d ready = linked_fail (after_ending d)

-- a note sets whether a link is made; the `ok` of the hello comes over one
pub linked_note : (acked : ℕ) (f : LinkFact) (moment : ℕ) (d e : Data) → (f ≡ fact.Ready → d.linked ≡ true) → e ≡ (note_step acked f moment d).1 → e.linked ≡ up_after f d.linked
linked_note acked f moment d e ready is =
    let told : Data = with_acked acked moment d in
    let noted : Noted = note_fact f moment told in
    ap (λ (x : Data). x.linked) is ∙ linked_settle noted.1.state noted.1 ∙ linked_fact f moment told ready

linked_keep : (tag : Tag) (number : ℕ) (d : Data) → (keep_number tag number d).linked ≡ d.linked
linked_keep (Script point print) number d = cond_both (nat_eq print 0) (record d { last_line = number }) (record d { print_line = number; last_line = number })
    (λ e. e.linked ≡ d.linked) (λ _. refl) (λ _. refl)
linked_keep (Job print index) number d = refl
linked_keep Manual number d = refl
linked_keep Poll number d = refl

linked_issue : (line : Line) (e : Data) → (issue line e).1.linked ≡ e.linked
linked_issue line e = linked_keep line.tag (next_number e.issued) (record e { issued = next_number e.issued })

linked_scripts : (w : List Line) (d : Data) (next : Drawn) → next.1.linked ≡ d.linked → (from_scripts w d next).1.linked ≡ d.linked
linked_scripts [] d next h = h
linked_scripts (line ∷ lines) d next h = linked_issue line (record d { waiting = lines })

linked_from_manual : (m : List (List ℕ)) (d : Data) (next : Drawn) → next.1.linked ≡ d.linked → (from_manual m d next).1.linked ≡ d.linked
linked_from_manual [] d next h = h
linked_from_manual (text ∷ texts) d next h = linked_issue (record { text = text; tag = Manual }) (record d { manual = texts })

linked_poll : (moment : ℕ) (d : Data) (next : Drawn) → next.1.linked ≡ d.linked → (from_poll moment d next).1.linked ≡ d.linked
linked_poll moment d next h =
    cond_both (poll_is_due moment d) _ next (λ (p : Drawn). p.1.linked ≡ d.linked)
    (λ _. linked_issue (record { text = codes "M105"; tag = Poll }) (record d { poll_at = moment_after moment d.poll_ms })) (λ _. h)

linked_probe : (awaited moment : ℕ) (d : Data) → (from_probe awaited moment d).1.linked ≡ d.linked
linked_probe awaited moment d =
    cond_both (probe_is_due awaited moment d) _ (nothing d) (λ (p : Drawn). p.1.linked ≡ d.linked)
    (λ _. linked_issue (record { text = codes "M400"; tag = Poll }) (put_off moment d)) (λ _. refl)

linked_file : (text : Option (List ℕ)) (d : Data) → (from_file text d).1.linked ≡ d.linked
linked_file None d = refl
linked_file (Some text) d = linked_issue (job_line d.greatest d.cursor text) (record d { cursor = d.cursor + 1 })

linked_talk : (moment : ℕ) (d : Data) (next : Drawn) → next.1.linked ≡ d.linked → (draw_in_order moment d next).1.linked ≡ d.linked
linked_talk moment d next h = linked_scripts d.waiting d _ (linked_from_manual d.manual d _ (linked_poll moment d next h))

linked_last : (b : Bool) (moment : ℕ) (d : Data) → (draw_last b moment d).1.linked ≡ d.linked
linked_last false moment d = linked_scripts d.waiting d _ (linked_probe d.last_line moment d)
linked_last true moment d = linked_from_manual d.manual d (nothing d) refl

linked_draw : (s : State) (moment : ℕ) (d : Data) → (draw_at s moment d).1.linked ≡ d.linked
linked_draw Operational moment d = linked_talk moment d _ (linked_probe d.issued moment d)
linked_draw Printing moment d = linked_talk moment d _ (linked_file _ d)
linked_draw Pausing moment d = linked_talk moment d _ (linked_probe d.issued moment d)
linked_draw Paused moment d = linked_talk moment d _ (linked_probe d.issued moment d)
linked_draw Cancelling moment d = linked_talk moment d _ (linked_probe d.issued moment d)
linked_draw Finishing moment d = linked_talk moment d _ (linked_probe d.issued moment d)
linked_draw Closing moment d = linked_last d.stopped moment d
linked_draw _ moment d = refl

linked_pull : (moment : ℕ) (d : Data) → (pull_step moment d).1.linked ≡ d.linked
linked_pull moment d =
    let drawn : Drawn = draw_at d.state moment d in
    linked_settle drawn.1.state drawn.1 ∙ linked_draw d.state moment d

-- no pull does
pub linked_pulls : (moment : ℕ) (lines : List Line) (old new : Data) → Pulls moment lines old new → new.linked ≡ old.linked
linked_pulls moment [] old new same = ap (λ (d : Data). d.linked) same
linked_pulls moment (line ∷ lines) old new pulls = linked_pulls moment lines (pull_step moment old).1 new pulls.1 ∙ linked_pull moment old
