-- The selected file over calls: only a request selects another.
use Rattle.std.proofs.Common.{suc, ◌≡◌, ◌⊎◌, inl, inr, ℕ, ◌+◌, Bool, true, false, cond, nat_eq, codes, List, [], ◌∷◌, Contains, Option, None, Some, refl, sym, ◌∙◌, ap, subst, arith}
use Rattle.temp_rules.specs.Hot.{first_hot_of}
use Rattle.temp_rules.specs.declared.job.HotLine.{HotLine}
use Rattle.std.specs.Prelude.{◌&&◌}
use Rattle.job_desk.specs.Data.{Data, File, Line, with_script, moment_after}
use Rattle.job_desk.specs.Note.{Noted, after_ending, is_over, end_at, finish, fail, ready_at, after_open, note_fact, note_step, with_acked, hung_up}
use Rattle.job_desk.specs.Pull.{Drawn, draw_in_order, nothing, next_number, keep_number, issue, from_scripts, from_manual, from_poll, poll_is_due, from_probe, put_off, probe_is_due, from_file, draw_at, is_issued, settle_at, pull_step, draw_last}
use Rattle.job_desk.specs.Course.{job_line}
use Rattle.job_desk.specs.Run.{DeskCall, Connect, Disconnect, Select, DropFile, Start, Restart, Pause, Resume, Toggle, Cancel, Manually, Pull, Note}
use Rattle.job_desk.specs.Table.{connect_at, disconnect_at, select_at, is_named, drop_file_step, start_checked, start_file, start_at, restart_at, pause_at, resume_at, toggle_at, cancel_at, add_manual, manual_at, take_manual, is_stop, may_stop_closing}
use Rattle.job_desk.specs.declared.link_fact.LinkFact.{LinkFact}
use Rattle.job_desk.specs.declared.link_fact.LinkFact.TheVariants as fact
use Rattle.job_desk.specs.declared.state.Point.TheVariants as point
use Rattle.job_desk.specs.declared.state.State.{State}
use Rattle.job_desk.specs.declared.state.State.TheVariants.{Offline, Connecting, Operational, Printing, Pausing, Paused, Cancelling, Finishing, Closing, Fault}
use Rattle.job_desk.specs.declared.state.Tag.{Tag}
use Rattle.job_desk.specs.declared.state.Tag.TheVariants.{Script, Manual, Poll}
use Rattle.print_queue.specs.declared.ending.Outcome.TheVariants as outcome
use Rattle.octo_house_rules.specs.Desk.{desk_after, desk_after_all}
use Rattle.job_desk.proofs.Steady.{choose_pair}
use Rattle.std.proofs.lemmas.Option.{same_Some}

-- a pull leaves the file
abbrev pub Same : Data → Data → Type 0
Same d e = e.file ≡ d.file

file_keep : (tag : Tag) (number : ℕ) (d : Data) → Same d (keep_number tag number d)
file_keep (Script at print) number d = choose (nat_eq print 0)
  where
    choose : (b : Bool) → Same d (cond b (record d { last_line = number }) (record d { print_line = number; last_line = number }))
    choose true = refl
    choose false = refl
file_keep _ number d = refl

file_issue : (line : Line) (d e : Data) → Same d e → Same d (issue line e).1
file_issue line d e same = file_keep line.tag (next_number e.issued) (record e { issued = next_number e.issued }) ∙ same

file_scripts : (w : List Line) (d : Data) (next : Drawn) → Same d next.1 → Same d (from_scripts w d next).1
file_scripts [] d next h = h
file_scripts (line ∷ lines) d next h = file_issue line d (record d { waiting = lines }) refl

file_manual : (m : List (List ℕ)) (d : Data) (next : Drawn) → Same d next.1 → Same d (from_manual m d next).1
file_manual [] d next h = h
file_manual (text ∷ texts) d next h = file_issue (record { text = text; tag = Manual }) d (record d { manual = texts }) refl

file_poll : (moment : ℕ) (d : Data) (next : Drawn) → Same d next.1 → Same d (from_poll moment d next).1
file_poll moment d next h =
    let asked : Data = record d { poll_at = moment_after moment d.poll_ms } in
    choose_pair (λ e. Same d e) (poll_is_due moment d) _ next (file_issue (record { text = codes "M105"; tag = Poll }) d asked refl) h

file_probe : (awaited moment : ℕ) (d : Data) → Same d (from_probe awaited moment d).1
file_probe awaited moment d =
    let asked : Data = put_off moment d in
    choose_pair (λ e. Same d e) (probe_is_due awaited moment d) _ (nothing d) (file_issue (record { text = codes "M400"; tag = Poll }) d asked refl) refl

file_command : (text : Option (List ℕ)) (d : Data) → Same d (from_file text d).1
file_command None d = refl
file_command (Some text) d = file_issue (job_line d.greatest d.cursor text) d (record d { cursor = d.cursor + 1 }) refl

file_talk : (moment : ℕ) (d : Data) (next : Drawn) → Same d next.1 → Same d (draw_in_order moment d next).1
file_talk moment d next h = file_scripts d.waiting d _ (file_manual d.manual d _ (file_poll moment d next h))

file_last : (b : Bool) (moment : ℕ) (d : Data) → Same d (draw_last b moment d).1
file_last false moment d = file_scripts d.waiting d _ (file_probe d.last_line moment d)
file_last true moment d = file_manual d.manual d (nothing d) refl

file_draw : (s : State) (moment : ℕ) (d : Data) → Same d (draw_at s moment d).1
file_draw Operational moment d = file_talk moment d _ (file_probe d.issued moment d)
file_draw Printing moment d = file_talk moment d _ (file_command _ d)
file_draw Pausing moment d = file_talk moment d _ (file_probe d.issued moment d)
file_draw Paused moment d = file_talk moment d _ (file_probe d.issued moment d)
file_draw Cancelling moment d = file_talk moment d _ (file_probe d.issued moment d)
file_draw Finishing moment d = file_talk moment d _ (file_probe d.issued moment d)
file_draw Closing moment d = file_last d.stopped moment d
file_draw _ moment d = refl

file_settle : (s : State) (d : Data) → Same d (settle_at s d)
file_settle Printing d = choose (is_issued d)
  where
    choose : (b : Bool) → Same d (cond b (with_script point.Done d.greatest (record d { state = Finishing })) d)
    choose true = refl
    choose false = refl
file_settle _ d = refl

pub file_pull : (moment : ℕ) (d : Data) → Same d (pull_step moment d).1
file_pull moment d =
    let drawn : Drawn = draw_at d.state moment d in
    file_settle drawn.1.state drawn.1 ∙ file_draw d.state moment d

-- and so does a note
file_end : (s : State) (d : Data) → Same d (end_at s d).1
file_end Pausing d = choose_pair (λ e. Same d e) (is_over d) (None, record d { state = Paused }) (None, d) refl refl
file_end Cancelling d = choose_pair (λ e. Same d e) (is_over d) (finish outcome.Cancelled d) (None, d) refl refl
file_end Finishing d = choose_pair (λ e. Same d e) (is_over d) (finish outcome.Done d) (None, d) refl refl
file_end _ d = refl

file_fail : (d : Data) (noted : Noted) → Same d noted.1 → Same d (fail noted).1
file_fail d (None, t) h = h
file_fail d (Some ending, t) h = h

file_hung : (b : Bool) (d : Data) → Same d (hung_up b d).1
file_hung false d = refl
file_hung true d = refl

file_ready : (s : State) (moment : ℕ) (d : Data) → Same d (ready_at s moment d)
file_ready Connecting moment d = refl
file_ready _ moment d = refl

file_fact : (f : LinkFact) (moment : ℕ) (d : Data) → Same d (note_fact f moment d).1
file_fact fact.Quiet moment d = file_end d.state d
file_fact fact.Opened moment d = file_end d.state (after_open d)
file_fact fact.Ready moment d =
    let heard : Data = record d { ready = true } in
    let is : Data = ready_at heard.state moment heard in
    file_end is.state is ∙ file_ready heard.state moment heard
file_fact fact.Closed moment d = file_hung d.stopped d
file_fact fact.NoPort moment d = refl
file_fact fact.Failed moment d = file_fail d (after_ending d) (file_end d.state d)
file_fact (fact.Ended end) moment d = file_fail d (after_ending d) (file_end d.state d)

pub file_note : (acked : ℕ) (f : LinkFact) (moment : ℕ) (d : Data) → Same d (note_step acked f moment d).1
file_note acked f moment d =
    let counted : Data = with_acked acked moment d in
    let noted : Noted = note_fact f moment counted in
    file_settle noted.1.state noted.1 ∙ file_fact f moment counted

-- requests
file_connect : (s : State) (port : List ℕ) (d : Data) → Same d (connect_at s port d).1
file_connect Offline port d = refl
file_connect Fault port d = refl
file_connect _ port d = refl

file_disconnect : (s : State) (d : Data) → Same d (disconnect_at s d)
file_disconnect Offline d = refl
file_disconnect Connecting d = refl
file_disconnect Closing d = refl
file_disconnect Fault d = refl
file_disconnect _ d = refl

file_hot : (hot : Option HotLine) (q : ℕ) (d : Data) → Same d (start_checked hot q d).1
file_hot None q d = refl
file_hot (Some hot) q d = refl

file_started : (file : Option File) (q : ℕ) (d : Data) → Same d (start_file file q d).1
file_started None q d = refl
file_started (Some file) q d = file_hot (first_hot_of d.limits file.job.commands) q d

pub file_start : (s : State) (q : ℕ) (d : Data) → Same d (start_at s q d).1
file_start Operational q d = file_started d.file q d
file_start _ q d = refl

pub file_restart : (s : State) (q : ℕ) (d : Data) → Same d (restart_at s q d).1
file_restart Paused q d = refl
file_restart _ q d = refl

file_pause : (s : State) (d : Data) → Same d (pause_at s d).1
file_pause Printing d = refl
file_pause _ d = refl

file_resume : (s : State) (d : Data) → Same d (resume_at s d).1
file_resume Paused d = refl
file_resume _ d = refl

file_toggle : (s : State) (d : Data) → Same d (toggle_at s d).1
file_toggle Printing d = refl
file_toggle Paused d = refl
file_toggle _ d = refl

file_cancel : (s : State) (d : Data) → Same d (cancel_at s d).1
file_cancel Printing d = refl
file_cancel Pausing d = refl
file_cancel Paused d = refl
file_cancel _ d = refl

file_adds : (lines : List (List ℕ)) (d : Data) → Same d (add_manual lines d).1
file_adds lines d = choose_pair (λ e. Same d e) _ _ _ refl refl

file_takes : (lines : List (List ℕ)) (d : Data) → Same d (take_manual lines d).1
file_takes lines d = choose_pair (λ e. Same d e) (is_stop lines) _ (add_manual lines d) refl (file_adds lines d)

file_manually : (s : State) (lines : List (List ℕ)) (d : Data) → Same d (manual_at s lines d).1
file_manually Operational lines d = file_takes lines d
file_manually Printing lines d = file_takes lines d
file_manually Pausing lines d = file_takes lines d
file_manually Paused lines d = file_takes lines d
file_manually Cancelling lines d = file_takes lines d
file_manually Finishing lines d = file_takes lines d
file_manually Connecting lines d = choose_pair (λ e. Same d e) (is_stop lines && d.linked) _ _ refl refl
file_manually Closing lines d = choose_pair (λ e. Same d e) (is_stop lines && may_stop_closing d) _ _ refl refl
file_manually _ lines d = refl

file_select : (s : State) (file : File) (d : Data) (f : File) → (select_at s file d).1.file ≡ Some f → (d.file ≡ Some f) ⊎ (Select file ≡ Select f)
file_select Offline file d f is = inr (ap Select (same_Some file f is))
file_select Connecting file d f is = inr (ap Select (same_Some file f is))
file_select Operational file d f is = inr (ap Select (same_Some file f is))
file_select Fault file d f is = inr (ap Select (same_Some file f is))
file_select _ file d f is = inl is

file_drop : (name : List ℕ) (d : Data) (f : File) → (drop_file_step name d).1.file ≡ Some f → d.file ≡ Some f
file_drop name d f is =
    choose_pair (λ e. e.file ≡ Some f → d.file ≡ Some f) (is_named name d.file) _ _
    (choose_pair (λ e. e.file ≡ Some f → d.file ≡ Some f) d.active _ _ (λ same. same) (λ none. absurd (cc none))) (λ same. same) is

-- the file after a call is the one before it, or the one that the call selects
file_call : (call : DeskCall) (d : Data) (f : File) → (desk_after call d).file ≡ Some f → (d.file ≡ Some f) ⊎ (call ≡ Select f)
file_call (Connect port) d f is = inl (sym (file_connect d.state port d) ∙ is)
file_call Disconnect d f is = inl (sym (file_disconnect d.state d) ∙ is)
file_call (Select file) d f is = file_select d.state file d f is
file_call (DropFile name) d f is = inl (file_drop name d f is)
file_call (Start q) d f is = inl (sym (file_start d.state q d) ∙ is)
file_call (Restart q) d f is = inl (sym (file_restart d.state q d) ∙ is)
file_call Pause d f is = inl (sym (file_pause d.state d) ∙ is)
file_call Resume d f is = inl (sym (file_resume d.state d) ∙ is)
file_call Toggle d f is = inl (sym (file_toggle d.state d) ∙ is)
file_call Cancel d f is = inl (sym (file_cancel d.state d) ∙ is)
file_call (Manually texts) d f is = inl (sym (file_manually d.state texts d) ∙ is)
file_call (Pull moment) d f is = inl (sym (file_pull moment d) ∙ is)
file_call (Note acked found moment) d f is = inl (sym (file_note acked found moment d) ∙ is)

here : {X : Type 0} (x : X) (xs : List X) → Contains (x ∷ xs) x
here x xs = (0, omega arith, refl)

there : {X : Type 0} (x y : X) (xs : List X) → Contains xs x → Contains (y ∷ xs) x
there x y xs among = (suc among.0, omega (arith, among.1), among.2)

-- the same of calls
pub file_calls : (calls : List DeskCall) (d : Data) (f : File) → (desk_after_all calls d).file ≡ Some f → (d.file ≡ Some f) ⊎ Contains calls (Select f)
file_calls [] d f is = inl is
file_calls (call ∷ calls) d f is = by (file_calls calls (desk_after call d) f is)
  where
    first : (d.file ≡ Some f) ⊎ (call ≡ Select f) → (d.file ≡ Some f) ⊎ Contains (call ∷ calls) (Select f)
    first (inl same) = inl same
    first (inr selects) = inr (subst (λ c. Contains (c ∷ calls) (Select f)) (sym selects) (here (Select f) calls))

    by : ((desk_after call d).file ≡ Some f) ⊎ Contains calls (Select f) → (d.file ≡ Some f) ⊎ Contains (call ∷ calls) (Select f)
    by (inl before) = first (file_call call d f before)
    by (inr among) = inr (there (Select f) call calls among)
