-- What each call leaves alone: the scripts and, but for a start, the print; and only script lines wait.
use Rattle.std.proofs.Common.{◌≡◌, ℕ, Bool, true, false, cond, nat_eq, List, [], ◌∷◌, ◌++◌, Option, None, Some, refl, sym, ◌∙◌, subst}
use Rattle.std.proofs.Common.{◌+◌, codes}
use Rattle.std.specs.Prelude.{◌&&◌}
use Rattle.job_desk.specs.Data.{moment_after, Data, File, Line, tagged, texts_at, script_lines, with_script}
use Rattle.job_desk.specs.Table.{connect_at, disconnect_at, select_at, drop_file_step, is_named, pause_at, resume_at, toggle_at, cancel_at, manual_at, add_manual, take_manual, is_stop, stopping, may_stop_closing}
use Rattle.job_desk.specs.Pull.{Drawn, draw_in_order, nothing, next_number, keep_number, issue, from_scripts, from_manual, from_poll, poll_is_due, from_probe, put_off, probe_is_due, from_file, draw_last, draw_at, is_issued, settle_at, settled, pull_step}
use Rattle.job_desk.specs.Course.{job_line}
use Rattle.job_desk.specs.Note.{Noted, after_ending, is_over, end_at, leave, hung_up, fail, ready_at, after_open, note_fact, note_step, with_acked}
use Rattle.job_desk.specs.declared.state.State.{State}
use Rattle.job_desk.specs.declared.state.State.TheVariants.{Offline, Connecting, Operational, Printing, Pausing, Paused, Cancelling, Finishing, Closing, Fault}
use Rattle.job_desk.specs.declared.state.Point.{Point}
use Rattle.job_desk.specs.declared.state.Point.TheVariants as point
use Rattle.job_desk.specs.declared.state.Tag.{Tag}
use Rattle.job_desk.specs.declared.state.Tag.TheVariants.{Script, Job, Manual, Poll}
use Rattle.job_desk.specs.declared.link_fact.LinkFact.{LinkFact}
use Rattle.job_desk.specs.declared.link_fact.LinkFact.TheVariants as fact
use Rattle.print_queue.specs.declared.ending.Outcome.{Outcome}
use Rattle.print_queue.specs.declared.ending.Outcome.TheVariants as outcome
use Rattle.std.proofs.lemmas.Bool.{cond_both}

-- the tag of a script's line
abbrev pub IsScript : Tag → Type 0
IsScript (Script point print) = Unit {0}
IsScript (Job print index) = ⊥
IsScript Manual = ⊥
IsScript Poll = ⊥

abbrev pub AreScripts : List Line → Type 0
AreScripts [] = Unit {0}
AreScripts (line ∷ lines) = IsScript line.tag × AreScripts lines

scripts_texts : (point : Point) (print : ℕ) (texts : List (List ℕ)) → AreScripts (tagged (Script point print) texts)
scripts_texts point print [] = tt
scripts_texts point print (text ∷ texts) = (tt, scripts_texts point print texts)

scripts_append : (xs ys : List Line) → AreScripts xs → AreScripts ys → AreScripts (xs ++ ys)
scripts_append [] ys hx hy = hy
scripts_append (x ∷ xs) ys hx hy = (hx.0, scripts_append xs ys hx.1 hy)

pub record Steady (d e : Data) : Type 0 where
  pub scripts : e.scripts ≡ d.scripts
  pub greatest : e.greatest ≡ d.greatest
  pub waiting : AreScripts d.waiting → AreScripts e.waiting

same : (d : Data) → Steady d d
same d = record { scripts = refl; greatest = refl; waiting = λ h. h }

-- a call that changes other fields
abbrev pub Alike : Data → Data → Type 0
Alike d e = (e.scripts ≡ d.scripts) × (e.greatest ≡ d.greatest) × (e.waiting ≡ d.waiting)

alike : (d e : Data) → Alike d e → Steady d e
alike d e a = record { scripts = a.0; greatest = a.1; waiting = λ h. subst AreScripts (sym a.2) h }

pub joins : (point : Point) (print : ℕ) (d e : Data) → Alike d e → Steady d (with_script point print e)
joins point print d e a = record {
  scripts = a.0;
  greatest = a.1;
  waiting = λ h. scripts_append e.waiting (script_lines e.scripts point print) (subst AreScripts (sym a.2) h)
      (scripts_texts point print (texts_at point e.scripts));
}

and_then : (d e f : Data) → Steady d e → Steady e f → Steady d f
and_then d e f a b = record { scripts = b.scripts ∙ a.scripts; greatest = b.greatest ∙ a.greatest; waiting = λ h. b.waiting (a.waiting h) }

-- what holds of both cases holds of the desk of a choice
pub choose_pair : {X : Type 0} (P : Data → Type 0) (b : Bool) (x y : X × Data) → P x.1 → P y.1 → P (cond b x y).1
choose_pair P true x y hx hy = hx
choose_pair P false x y hx hy = hy

pub steady-connect : (s : State) (port : List ℕ) (d : Data) → Steady d (connect_at s port d).1
steady-connect Offline port d = alike d _ (refl, refl, refl)
steady-connect Fault port d = alike d _ (refl, refl, refl)
steady-connect _ port d = same d

pub steady-disconnect : (s : State) (d : Data) → Steady d (disconnect_at s d)
steady-disconnect Offline d = same d
steady-disconnect Closing d = alike d _ (refl, refl, refl)
steady-disconnect Connecting d = alike d _ (refl, refl, refl)
steady-disconnect Fault d = alike d _ (refl, refl, refl)
steady-disconnect _ d = joins point.Disconnect 0 d (record d { state = Closing; manual = [] }) (refl, refl, refl)

pub steady-select : (s : State) (file : File) (d : Data) → Steady d (select_at s file d).1
steady-select Offline file d = alike d _ (refl, refl, refl)
steady-select Connecting file d = alike d _ (refl, refl, refl)
steady-select Operational file d = alike d _ (refl, refl, refl)
steady-select Fault file d = alike d _ (refl, refl, refl)
steady-select _ file d = same d

pub steady-drop_file : (name : List ℕ) (d : Data) → Steady d (drop_file_step name d).1
steady-drop_file name d =
    choose_pair (λ e. Steady d e) (is_named name d.file) _ _ (choose_pair (λ e. Steady d e) d.active _ _ (same d)
    (alike d (record d { file = None }) (refl, refl, refl))) (same d)

steady-pausing : (d : Data) → Steady d (with_script point.Paused d.greatest (record d { state = Pausing }))
steady-pausing d = joins point.Paused d.greatest d (record d { state = Pausing }) (refl, refl, refl)

steady-resuming : (d : Data) → Steady d (with_script point.Resumed d.greatest (record d { state = Printing }))
steady-resuming d = joins point.Resumed d.greatest d (record d { state = Printing }) (refl, refl, refl)

steady-cancelling : (d : Data) → Steady d (with_script point.Cancelled d.greatest (record d { state = Cancelling }))
steady-cancelling d = joins point.Cancelled d.greatest d (record d { state = Cancelling }) (refl, refl, refl)

pub steady-pause : (s : State) (d : Data) → Steady d (pause_at s d).1
steady-pause Printing d = steady-pausing d
steady-pause _ d = same d

pub steady-resume : (s : State) (d : Data) → Steady d (resume_at s d).1
steady-resume Paused d = steady-resuming d
steady-resume _ d = same d

pub steady-toggle : (s : State) (d : Data) → Steady d (toggle_at s d).1
steady-toggle Printing d = steady-pausing d
steady-toggle Paused d = steady-resuming d
steady-toggle _ d = same d

pub steady-cancel : (s : State) (d : Data) → Steady d (cancel_at s d).1
steady-cancel Printing d = steady-cancelling d
steady-cancel Pausing d = steady-cancelling d
steady-cancel Paused d = steady-cancelling d
steady-cancel _ d = same d

steady-adds : (lines : List (List ℕ)) (d : Data) → Steady d (add_manual lines d).1
steady-adds lines d = choose_pair (λ e. Steady d e) _ _ _ (same d) (alike d (record d { manual = d.manual ++ lines }) (refl, refl, refl))

steady-stopping : (lines : List (List ℕ)) (d : Data) → Steady d (stopping lines d)
steady-stopping lines d = alike d (stopping lines d) (refl, refl, refl)

steady-takes : (lines : List (List ℕ)) (d : Data) → Steady d (take_manual lines d).1
steady-takes lines d = choose_pair (λ e. Steady d e) (is_stop lines) _ _ (steady-stopping lines d) (steady-adds lines d)

pub steady-manual : (s : State) (lines : List (List ℕ)) (d : Data) → Steady d (manual_at s lines d).1
steady-manual Operational lines d = steady-takes lines d
steady-manual Printing lines d = steady-takes lines d
steady-manual Pausing lines d = steady-takes lines d
steady-manual Paused lines d = steady-takes lines d
steady-manual Cancelling lines d = steady-takes lines d
steady-manual Finishing lines d = steady-takes lines d
steady-manual Connecting lines d = choose_pair (λ e. Steady d e) (is_stop lines && d.linked) _ _ (steady-stopping lines d) (same d)
steady-manual Closing lines d = choose_pair (λ e. Steady d e) (is_stop lines && may_stop_closing d) _ _ (steady-stopping lines d) (same d)
steady-manual _ lines d = same d

steady-keep : (tag : Tag) (number : ℕ) (d : Data) → Steady d (keep_number tag number d)
steady-keep (Script point print) number d =
    cond_both (nat_eq print 0) (record d { last_line = number }) (record d { print_line = number; last_line = number }) (λ e. Steady d e)
    (λ _. alike d _ (refl, refl, refl)) (λ _. alike d _ (refl, refl, refl))
steady-keep (Job print index) number d = alike d _ (refl, refl, refl)
steady-keep Manual number d = alike d _ (refl, refl, refl)
steady-keep Poll number d = alike d _ (refl, refl, refl)

steady-issue : (line : Line) (d e : Data) → Steady d e → Steady d (issue line e).1
steady-issue line d e h =
    let counted : Data = record e { issued = next_number e.issued } in
    and_then d counted (issue line e).1 (and_then d e counted h (alike e counted (refl, refl, refl))) (steady-keep line.tag (next_number e.issued) counted)

steady-scripts : (w : List Line) (d : Data) (next : Drawn) → d.waiting ≡ w → Steady d next.1 → Steady d (from_scripts w d next).1
steady-scripts [] d next e h = h
steady-scripts (line ∷ lines) d next e h =
    steady-issue line d (record d { waiting = lines }) (record {
      scripts = refl;
      greatest = refl;
      waiting = λ a. (let b : AreScripts (line ∷ lines) = subst AreScripts e a in b.1);
    })

steady-from_manual : (m : List (List ℕ)) (d : Data) (next : Drawn) → Steady d next.1 → Steady d (from_manual m d next).1
steady-from_manual [] d next h = h
steady-from_manual (text ∷ texts) d next h = steady-issue (record { text = text; tag = Manual }) d (record d { manual = texts }) (alike d _ (refl, refl, refl))

steady-poll : (moment : ℕ) (d : Data) (next : Drawn) → Steady d next.1 → Steady d (from_poll moment d next).1
steady-poll moment d next h =
    let asked : Data = record d { poll_at = moment_after moment d.poll_ms } in
    choose_pair (λ e. Steady d e) (poll_is_due moment d) _ next (steady-issue (record { text = codes "M105"; tag = Poll }) d asked
    (alike d asked (refl, refl, refl))) h

steady-probe : (awaited moment : ℕ) (d : Data) → Steady d (from_probe awaited moment d).1
steady-probe awaited moment d =
    let asked : Data = put_off moment d in
    choose_pair (λ e. Steady d e) (probe_is_due awaited moment d) _ _ (steady-issue (record { text = codes "M400"; tag = Poll }) d asked
    (alike d asked (refl, refl, refl))) (same d)

steady-file : (text : Option (List ℕ)) (d : Data) → Steady d (from_file text d).1
steady-file None d = same d
steady-file (Some text) d = steady-issue (job_line d.greatest d.cursor text) d (record d { cursor = d.cursor + 1 }) (alike d _ (refl, refl, refl))

steady-talk : (moment : ℕ) (d : Data) (next : Drawn) → Steady d next.1 → Steady d (draw_in_order moment d next).1
steady-talk moment d next h = steady-scripts d.waiting d _ refl (steady-from_manual d.manual d _ (steady-poll moment d next h))

steady-last : (b : Bool) (moment : ℕ) (d : Data) → Steady d (draw_last b moment d).1
steady-last false moment d = steady-scripts d.waiting d _ refl (steady-probe d.last_line moment d)
steady-last true moment d = steady-from_manual d.manual d (nothing d) (same d)

steady-draw : (s : State) (moment : ℕ) (d : Data) → Steady d (draw_at s moment d).1
steady-draw Operational moment d = steady-talk moment d _ (steady-probe d.issued moment d)
steady-draw Printing moment d = steady-talk moment d _ (steady-file _ d)
steady-draw Pausing moment d = steady-talk moment d _ (steady-probe d.issued moment d)
steady-draw Paused moment d = steady-talk moment d _ (steady-probe d.issued moment d)
steady-draw Cancelling moment d = steady-talk moment d _ (steady-probe d.issued moment d)
steady-draw Finishing moment d = steady-talk moment d _ (steady-probe d.issued moment d)
steady-draw Closing moment d = steady-last d.stopped moment d
steady-draw _ moment d = same d

pub steady-settle : (s : State) (d : Data) → Steady d (settle_at s d)
steady-settle Printing d =
    cond_both (is_issued d) _ d (λ e. Steady d e) (λ _. joins point.Done d.greatest d (record d { state = Finishing }) (refl, refl, refl))
    (λ _. same d)
steady-settle _ d = same d

pub steady-pull : (moment : ℕ) (d : Data) → Steady d (pull_step moment d).1
steady-pull moment d =
    let drawn : Drawn = draw_at d.state moment d in
    and_then d drawn.1 (settled drawn.1) (steady-draw d.state moment d) (steady-settle drawn.1.state drawn.1)

steady-end : (s : State) (d : Data) → Steady d (end_at s d).1
steady-end Pausing d = choose_pair (λ e. Steady d e) (is_over d) _ _ (alike d (record d { state = Paused }) (refl, refl, refl)) (same d)
steady-end Cancelling d = choose_pair (λ e. Steady d e) (is_over d) _ _ (alike d (record d { state = Operational; active = false }) (refl, refl, refl)) (same d)
steady-end Finishing d = choose_pair (λ e. Steady d e) (is_over d) _ _ (alike d (record d { state = Operational; active = false }) (refl, refl, refl)) (same d)
steady-end _ d = same d

steady-leave : (s : State) (how : Outcome) (d : Data) → Steady d (leave s how d).1
steady-leave s how d = record { scripts = refl; greatest = refl; waiting = λ h. tt }

steady-hung : (b : Bool) (d : Data) → Steady d (hung_up b d).1
steady-hung false d = steady-leave Offline outcome.Cancelled d
steady-hung true d = steady-leave Fault outcome.Failed d

steady-fail : (d : Data) (noted : Noted) → Steady d noted.1 → Steady d (fail noted).1
steady-fail d (None, e) h = and_then d e _ h (steady-leave Fault outcome.Failed e)
steady-fail d (Some ending, e) h = and_then d e _ h (steady-leave Fault outcome.Failed e)

steady-ready : (s : State) (moment : ℕ) (d : Data) → Steady d (ready_at s moment d)
steady-ready Connecting moment d = joins point.Connected 0 d
    (record d { state = Operational; poll_at = moment_after moment d.poll_ms; probe_at = moment_after moment d.poll_ms }) (refl, refl, refl)
steady-ready _ moment d = same d

steady-fact : (f : LinkFact) (moment : ℕ) (d : Data) → Steady d (note_fact f moment d).1
steady-fact fact.Quiet moment d = steady-end d.state d
steady-fact fact.Opened moment d = and_then d (after_open d) _ (alike d (after_open d) (refl, refl, refl)) (steady-end d.state (after_open d))
steady-fact fact.Ready moment d =
    let heard : Data = record d { ready = true } in
    let is : Data = ready_at heard.state moment heard in
    and_then d is _ (and_then d heard is (alike d heard (refl, refl, refl)) (steady-ready heard.state moment heard)) (steady-end is.state is)
steady-fact fact.Closed moment d = steady-hung d.stopped d
steady-fact fact.NoPort moment d = steady-leave Fault outcome.Failed d
steady-fact fact.Failed moment d = steady-fail d (after_ending d) (steady-end d.state d)
steady-fact (fact.Ended end) moment d = steady-fail d (after_ending d) (steady-end d.state d)

pub steady-note : (acked : ℕ) (f : LinkFact) (moment : ℕ) (d : Data) → Steady d (note_step acked f moment d).1
steady-note acked f moment d =
    let told : Data = with_acked acked moment d in
    let noted : Noted = note_fact f moment told in
    and_then d noted.1 (settled noted.1) (and_then d told noted.1 (alike d told (refl, refl, refl)) (steady-fact f moment told))
    (steady-settle noted.1.state noted.1)
