-- No call at a desk changes its limits, its polling interval or how it counts `ok`s.
use Rattle.std.proofs.Common.{◌≡◌, ℕ, ◌+◌, Bool, true, false, codes, nat_eq, List, [], ◌∷◌, Option, None, Some, refl, ◌∙◌}
use Rattle.std.specs.Prelude.{◌&&◌}
use Rattle.std.proofs.lemmas.Bool.{cond_both}
use Rattle.temp_rules.specs.declared.job.HotLine.{HotLine}
use Rattle.temp_rules.specs.Hot.{first_hot_of}
use Rattle.job_desk.specs.Course.{job_line}
use Rattle.job_desk.specs.Data.{Data, File, Line, with_script, moment_after}
use Rattle.job_desk.specs.Note.{Noted, after_ending, is_over, end_at, hung_up, fail, ready_at, after_open, note_fact, note_step, with_acked}
use Rattle.job_desk.specs.Pull.{Drawn, draw_in_order, nothing, next_number, keep_number, issue, from_scripts, from_manual, from_poll, poll_is_due, from_probe, put_off, probe_is_due, from_file, draw_idle, draw_last, draw_at, is_issued, settle_at, settled, pull_step}
use Rattle.job_desk.specs.Run.{DeskCall, Connect, Disconnect, Select, DropFile, Start, Restart, Pause, Resume, Toggle, Cancel, Manually, Pull, Note}
use Rattle.job_desk.specs.Table.{connect_at, disconnect_at, select_at, drop_file_step, is_named, start_checked, start_file, start_at, restart_at, pause_at, resume_at, toggle_at, cancel_at, manual_at, take_manual, is_stop, may_stop_closing}
use Rattle.job_desk.specs.declared.state.State.{State}
use Rattle.job_desk.specs.declared.state.State.TheVariants.{Offline, Connecting, Operational, Printing, Pausing, Paused, Cancelling, Finishing, Closing}
use Rattle.job_desk.specs.declared.state.Point.TheVariants as point
use Rattle.job_desk.specs.declared.state.Tag.{Tag}
use Rattle.job_desk.specs.declared.state.Tag.TheVariants.{Script, Manual, Poll}
use Rattle.job_desk.specs.declared.link_fact.LinkFact.{LinkFact}
use Rattle.job_desk.specs.declared.link_fact.LinkFact.TheVariants as fact
use Rattle.job_desk.proofs.Steady.{choose_pair}
use Rattle.octo_house_rules.specs.Desk.{desk_after, desk_after_all}

abbrev pub IsMadeAs : Data → Data → Type 0
IsMadeAs d e = (e.limits ≡ d.limits) × (e.poll_ms ≡ d.poll_ms) × (e.numbered ≡ d.numbered)

and_then : (d e f : Data) → IsMadeAs d e → IsMadeAs e f → IsMadeAs d f
and_then d e f a b = (b.0 ∙ a.0, b.1 ∙ a.1, b.2 ∙ a.2)

made-connect : (s : State) (port : List ℕ) (d : Data) → IsMadeAs d (connect_at s port d).1
made-connect Offline port d = (refl, refl, refl)
made-connect _ port d = (refl, refl, refl)

made-disconnect : (s : State) (d : Data) → IsMadeAs d (disconnect_at s d)
made-disconnect Offline d = (refl, refl, refl)
made-disconnect _ d = (refl, refl, refl)

made-select : (s : State) (file : File) (d : Data) → IsMadeAs d (select_at s file d).1
made-select Offline file d = (refl, refl, refl)
made-select _ file d = (refl, refl, refl)

made-drop : (name : List ℕ) (d : Data) → IsMadeAs d (drop_file_step name d).1
made-drop name d =
    choose_pair (λ e. IsMadeAs d e) (is_named name d.file) _ _ (choose_pair (λ e. IsMadeAs d e) d.active _ _ (refl, refl, refl) (refl, refl, refl)) (refl, refl, refl)

made-checked : (hot : Option HotLine) (print : ℕ) (d : Data) → IsMadeAs d (start_checked hot print d).1
made-checked None print d = (refl, refl, refl)
made-checked (Some hot) print d = (refl, refl, refl)

made-file : (file : Option File) (print : ℕ) (d : Data) → IsMadeAs d (start_file file print d).1
made-file None print d = (refl, refl, refl)
made-file (Some file) print d = made-checked (first_hot_of d.limits file.job.commands) print d

made-start : (s : State) (print : ℕ) (d : Data) → IsMadeAs d (start_at s print d).1
made-start Operational print d = made-file d.file print d
made-start _ print d = (refl, refl, refl)

made-restart : (s : State) (print : ℕ) (d : Data) → IsMadeAs d (restart_at s print d).1
made-restart Paused print d = (refl, refl, refl)
made-restart _ print d = (refl, refl, refl)

made-pause : (s : State) (d : Data) → IsMadeAs d (pause_at s d).1
made-pause Printing d = (refl, refl, refl)
made-pause _ d = (refl, refl, refl)

made-resume : (s : State) (d : Data) → IsMadeAs d (resume_at s d).1
made-resume Paused d = (refl, refl, refl)
made-resume _ d = (refl, refl, refl)

made-toggle : (s : State) (d : Data) → IsMadeAs d (toggle_at s d).1
made-toggle Printing d = (refl, refl, refl)
made-toggle _ d = (refl, refl, refl)

made-cancel : (s : State) (d : Data) → IsMadeAs d (cancel_at s d).1
made-cancel Printing d = (refl, refl, refl)
made-cancel _ d = (refl, refl, refl)

made-takes : (lines : List (List ℕ)) (d : Data) → IsMadeAs d (take_manual lines d).1
made-takes lines d =
    choose_pair (λ e. IsMadeAs d e) (is_stop lines) _ _ (refl, refl, refl) (choose_pair (λ e. IsMadeAs d e) _ _ _ (refl, refl, refl) (refl, refl, refl))

made-manual : (s : State) (lines : List (List ℕ)) (d : Data) → IsMadeAs d (manual_at s lines d).1
made-manual Operational lines d = made-takes lines d
made-manual Printing lines d = made-takes lines d
made-manual Pausing lines d = made-takes lines d
made-manual Paused lines d = made-takes lines d
made-manual Cancelling lines d = made-takes lines d
made-manual Finishing lines d = made-takes lines d
made-manual Connecting lines d = choose_pair (λ e. IsMadeAs d e) (is_stop lines && d.linked) _ _ (refl, refl, refl) (refl, refl, refl)
made-manual Closing lines d = choose_pair (λ e. IsMadeAs d e) (is_stop lines && may_stop_closing d) _ _ (refl, refl, refl) (refl, refl, refl)
made-manual _ lines d = (refl, refl, refl)

made-keep : (tag : Tag) (number : ℕ) (d : Data) → IsMadeAs d (keep_number tag number d)
made-keep (Script point print) number d =
    cond_both (nat_eq print 0) (record d { last_line = number }) (record d { print_line = number; last_line = number }) (λ e. IsMadeAs d e) (λ _. (refl, refl, refl)) (λ _. (refl, refl, refl))
made-keep _ number d = (refl, refl, refl)

made-issue : (line : Line) (d e : Data) → IsMadeAs d e → IsMadeAs d (issue line e).1
made-issue line d e made =
    let counted : Data = record e { issued = next_number e.issued } in
    and_then d counted (issue line e).1 made (made-keep line.tag (next_number e.issued) counted)

made-scripts : (w : List Line) (d : Data) (next : Drawn) → IsMadeAs d next.1 → IsMadeAs d (from_scripts w d next).1
made-scripts [] d next made = made
made-scripts (line ∷ lines) d next made = made-issue line d (record d { waiting = lines }) (refl, refl, refl)

made-by-hand : (m : List (List ℕ)) (d : Data) (next : Drawn) → IsMadeAs d next.1 → IsMadeAs d (from_manual m d next).1
made-by-hand [] d next made = made
made-by-hand (text ∷ texts) d next made = made-issue (record { text = text; tag = Manual }) d (record d { manual = texts }) (refl, refl, refl)

made-poll : (moment : ℕ) (d : Data) (next : Drawn) → IsMadeAs d next.1 → IsMadeAs d (from_poll moment d next).1
made-poll moment d next made =
    choose_pair (λ e. IsMadeAs d e) (poll_is_due moment d) _ next (made-issue (record { text = codes "M105"; tag = Poll }) d
    (record d { poll_at = moment_after moment d.poll_ms }) (refl, refl, refl)) made

made-probe : (awaited moment : ℕ) (d : Data) → IsMadeAs d (from_probe awaited moment d).1
made-probe awaited moment d =
    choose_pair (λ e. IsMadeAs d e) (probe_is_due awaited moment d) _ (nothing d) (made-issue (record { text = codes "M400"; tag = Poll }) d
    (put_off moment d) (refl, refl, refl)) (refl, refl, refl)

made-command : (text : Option (List ℕ)) (d : Data) → IsMadeAs d (from_file text d).1
made-command None d = (refl, refl, refl)
made-command (Some text) d = made-issue (job_line d.greatest d.cursor text) d (record d { cursor = d.cursor + 1 }) (refl, refl, refl)

made-in-order : (moment : ℕ) (d : Data) (next : Drawn) → IsMadeAs d next.1 → IsMadeAs d (draw_in_order moment d next).1
made-in-order moment d next made = made-scripts d.waiting d _ (made-by-hand d.manual d _ (made-poll moment d next made))

made-idle : (moment : ℕ) (d : Data) → IsMadeAs d (draw_idle moment d).1
made-idle moment d = made-in-order moment d _ (made-probe d.issued moment d)

made-last : (b : Bool) (moment : ℕ) (d : Data) → IsMadeAs d (draw_last b moment d).1
made-last false moment d = made-scripts d.waiting d _ (made-probe d.last_line moment d)
made-last true moment d = made-by-hand d.manual d (nothing d) (refl, refl, refl)

made-draw : (s : State) (moment : ℕ) (d : Data) → IsMadeAs d (draw_at s moment d).1
made-draw Operational moment d = made-idle moment d
made-draw Printing moment d = made-in-order moment d _ (made-command _ d)
made-draw Pausing moment d = made-idle moment d
made-draw Paused moment d = made-idle moment d
made-draw Cancelling moment d = made-idle moment d
made-draw Finishing moment d = made-idle moment d
made-draw Closing moment d = made-last d.stopped moment d
made-draw _ moment d = (refl, refl, refl)

made-settle : (s : State) (d : Data) → IsMadeAs d (settle_at s d)
made-settle Printing d =
    cond_both (is_issued d) (with_script point.Done d.greatest (record d { state = Finishing })) d (λ e. IsMadeAs d e) (λ _. (refl, refl, refl)) (λ _. (refl, refl, refl))
made-settle _ d = (refl, refl, refl)

made-pull : (moment : ℕ) (d : Data) → IsMadeAs d (pull_step moment d).1
made-pull moment d =
    let drawn : Drawn = draw_at d.state moment d in
    and_then d drawn.1 (settled drawn.1) (made-draw d.state moment d) (made-settle drawn.1.state drawn.1)

made-end : (s : State) (d : Data) → IsMadeAs d (end_at s d).1
made-end Pausing d = choose_pair (λ e. IsMadeAs d e) (is_over d) _ _ (refl, refl, refl) (refl, refl, refl)
made-end Cancelling d = choose_pair (λ e. IsMadeAs d e) (is_over d) _ _ (refl, refl, refl) (refl, refl, refl)
made-end Finishing d = choose_pair (λ e. IsMadeAs d e) (is_over d) _ _ (refl, refl, refl) (refl, refl, refl)
made-end _ d = (refl, refl, refl)

made-hung : (b : Bool) (d : Data) → IsMadeAs d (hung_up b d).1
made-hung false d = (refl, refl, refl)
made-hung true d = (refl, refl, refl)

made-fail : (d : Data) (noted : Noted) → IsMadeAs d noted.1 → IsMadeAs d (fail noted).1
made-fail d (None, e) made = made
made-fail d (Some ending, e) made = made

made-ready : (s : State) (moment : ℕ) (d : Data) → IsMadeAs d (ready_at s moment d)
made-ready Connecting moment d = (refl, refl, refl)
made-ready _ moment d = (refl, refl, refl)

made-fact : (f : LinkFact) (moment : ℕ) (d : Data) → IsMadeAs d (note_fact f moment d).1
made-fact fact.Quiet moment d = made-end d.state d
made-fact fact.Opened moment d = made-end d.state (after_open d)
made-fact fact.Ready moment d =
    let heard : Data = record d { ready = true } in
    let is : Data = ready_at heard.state moment heard in
    and_then d is (after_ending is).1 (made-ready heard.state moment heard) (made-end is.state is)
made-fact fact.Closed moment d = made-hung d.stopped d
made-fact fact.NoPort moment d = (refl, refl, refl)
made-fact fact.Failed moment d = made-fail d (after_ending d) (made-end d.state d)
made-fact (fact.Ended end) moment d = made-fail d (after_ending d) (made-end d.state d)

made-note : (acked : ℕ) (f : LinkFact) (moment : ℕ) (d : Data) → IsMadeAs d (note_step acked f moment d).1
made-note acked f moment d =
    let heard : Data = with_acked acked moment d in
    let noted : Noted = note_fact f moment heard in
    and_then d noted.1 (settled noted.1) (made-fact f moment heard) (made-settle noted.1.state noted.1)

made-call : (call : DeskCall) (d : Data) → IsMadeAs d (desk_after call d)
made-call (Connect port) d = made-connect d.state port d
made-call Disconnect d = made-disconnect d.state d
made-call (Select file) d = made-select d.state file d
made-call (DropFile name) d = made-drop name d
made-call (Start print) d = made-start d.state print d
made-call (Restart print) d = made-restart d.state print d
made-call Pause d = made-pause d.state d
made-call Resume d = made-resume d.state d
made-call Toggle d = made-toggle d.state d
made-call Cancel d = made-cancel d.state d
made-call (Manually lines) d = made-manual d.state lines d
made-call (Pull moment) d = made-pull moment d
made-call (Note acked f moment) d = made-note acked f moment d

pub made-calls : (calls : List DeskCall) (d : Data) → IsMadeAs d (desk_after_all calls d)
made-calls [] d = (refl, refl, refl)
made-calls (call ∷ calls) d =
    and_then d (desk_after call d) (desk_after_all calls (desk_after call d)) (made-call call d) (made-calls calls (desk_after call d))
