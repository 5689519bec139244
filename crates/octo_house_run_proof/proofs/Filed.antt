-- A print that is active has its file.
use Rattle.std.proofs.Common.{◌≡◌, ℕ, Bool, true, false, cond, List, [], ◌∷◌, Option, None, Some, Err, refl, sym, ◌∙◌, ap, subst}
use Rattle.std.proofs.lemmas.Bool.{false≢true}
use Rattle.temp_rules.specs.Hot.{first_hot_of}
use Rattle.temp_rules.specs.declared.job.HotLine.{HotLine}
use Rattle.std.specs.Prelude.{◌&&◌}
use Rattle.job_desk.specs.Data.{Data, File}
use Rattle.job_desk.specs.Endings.{has_print, IsActive}
use Rattle.job_desk.specs.Run.{DeskCall, Connect, Disconnect, Select, DropFile, Start, Restart, Pause, Resume, Toggle, Cancel, Manually, Pull, Note}
use Rattle.job_desk.specs.Table.{ok_answer, connect_at, disconnect_at, select_at, is_named, drop_file_step, printing, start_checked, start_file, start_at, restart_at, pause_at, resume_at, toggle_at, cancel_at, add_manual, manual_at, take_manual, is_stop, may_stop_closing, stopping}
use Rattle.job_desk.specs.declared.state.Refusal.TheVariants as refusal
use Rattle.job_desk.specs.declared.state.State.{State}
use Rattle.job_desk.specs.declared.state.State.TheVariants.{Offline, Connecting, Operational, Printing, Pausing, Paused, Cancelling, Finishing, Closing, Fault}
use Rattle.job_desk.proofs.Going.{Goes, goes_pull, goes_note}
use Rattle.octo_house_rules.specs.Desk.{desk_after, desk_after_all}
use Rattle.octo_house_run_proof.proofs.Files.{Same, file_pull, file_note}
use Rattle.job_desk.proofs.Steady.{choose_pair}

-- in a state with a print that is active, and an active print has a file
abbrev pub IsFiled : Data → Type 0
IsFiled d = IsActive d × (d.active ≡ true → d.file ≡ None → ⊥)

filed_goes : (d e : Data) → Goes d e → Same d e → IsFiled d → IsFiled e
filed_goes d e goes same f = (goes.going f.0, λ active none. f.1 (goes.before active) (sym same ∙ none))

filed_connect : (s : State) (port : List ℕ) (d : Data) → IsFiled d → IsFiled (connect_at s port d).1
filed_connect Offline port d f = (λ has. absurd (cc has), f.1)
filed_connect Fault port d f = (λ has. absurd (cc has), f.1)
filed_connect _ port d f = f

filed_disconnect : (s : State) (d : Data) → IsFiled d → IsFiled (disconnect_at s d)
filed_disconnect Offline d f = f
filed_disconnect Closing d f = f
filed_disconnect Connecting d f = (λ has. absurd (cc has), f.1)
filed_disconnect Fault d f = (λ has. absurd (cc has), f.1)
filed_disconnect _ d f = (λ has. absurd (cc has), f.1)

filed_select : (s : State) (file : File) (d : Data) → IsFiled d → IsFiled (select_at s file d).1
filed_select Offline file d f = (f.0, λ active none. absurd (cc none))
filed_select Connecting file d f = (f.0, λ active none. absurd (cc none))
filed_select Operational file d f = (f.0, λ active none. absurd (cc none))
filed_select Fault file d f = (f.0, λ active none. absurd (cc none))
filed_select _ file d f = f

filed_drop : (name : List ℕ) (d : Data) → IsFiled d → IsFiled (drop_file_step name d).1
filed_drop name d f = choose_pair (λ e. IsFiled e) (is_named name d.file) _ _ (by d.active refl) f
  where
    by : (b : Bool) → d.active ≡ b → IsFiled (cond d.active (Err refusal.FileBusy, d) (ok_answer (record d { file = None }))).1
    by true is = subst (λ c. IsFiled (cond c (Err refusal.FileBusy, d) (ok_answer (record d { file = None }))).1) (sym is) f
    by false is =
        subst (λ c. IsFiled (cond c (Err refusal.FileBusy, d) (ok_answer (record d { file = None }))).1) (sym is)
        (f.0, λ active none. absurd (false≢true (sym is ∙ active)))

filed_printing : (q : ℕ) (d : Data) → (d.file ≡ None → ⊥) → IsFiled (printing q d)
filed_printing q d some = (λ has. refl, λ active none. some none)

filed_hot : (hot : Option HotLine) (q : ℕ) (file : File) (d : Data) → d.file ≡ Some file → IsFiled d → IsFiled (start_checked hot q d).1
filed_hot None q file d is f = filed_printing q d (λ none. absurd (let no : Some file ≡ None = sym is ∙ none in cc no))
filed_hot (Some hot) q file d is f = f

filed_started : (file : Option File) (q : ℕ) (d : Data) → d.file ≡ file → IsFiled d → IsFiled (start_file file q d).1
filed_started None q d is f = f
filed_started (Some file) q d is f = filed_hot (first_hot_of d.limits file.job.commands) q file d is f

filed_start : (s : State) (q : ℕ) (d : Data) → IsFiled d → IsFiled (start_at s q d).1
filed_start Operational q d f = filed_started d.file q d refl f
filed_start _ q d f = f

-- a paused print has its file
pub paused_file : (d : Data) → d.state ≡ Paused → IsFiled d → d.file ≡ None → ⊥
paused_file d is f none = f.1 (f.0 (ap has_print is)) none

filed_restart : (s : State) (q : ℕ) (d : Data) → d.state ≡ s → IsFiled d → IsFiled (restart_at s q d).1
filed_restart Paused q d is f = filed_printing q d (λ none. paused_file d is f none)
filed_restart _ q d is f = f

filed_pause : (s : State) (d : Data) → d.state ≡ s → IsFiled d → IsFiled (pause_at s d).1
filed_pause Printing d is f = (λ has. f.0 (ap has_print is), f.1)
filed_pause _ d is f = f

filed_resume : (s : State) (d : Data) → d.state ≡ s → IsFiled d → IsFiled (resume_at s d).1
filed_resume Paused d is f = (λ has. f.0 (ap has_print is), f.1)
filed_resume _ d is f = f

filed_toggle : (s : State) (d : Data) → d.state ≡ s → IsFiled d → IsFiled (toggle_at s d).1
filed_toggle Printing d is f = (λ has. f.0 (ap has_print is), f.1)
filed_toggle Paused d is f = (λ has. f.0 (ap has_print is), f.1)
filed_toggle _ d is f = f

filed_cancel : (s : State) (d : Data) → d.state ≡ s → IsFiled d → IsFiled (cancel_at s d).1
filed_cancel Printing d is f = (λ has. f.0 (ap has_print is), f.1)
filed_cancel Pausing d is f = (λ has. f.0 (ap has_print is), f.1)
filed_cancel Paused d is f = (λ has. f.0 (ap has_print is), f.1)
filed_cancel _ d is f = f

filed_adds : (lines : List (List ℕ)) (d : Data) → IsFiled d → IsFiled (add_manual lines d).1
filed_adds lines d f = choose_pair (λ e. IsFiled e) _ _ _ f f

filed_stopping : (lines : List (List ℕ)) (d : Data) → IsFiled d → IsFiled (stopping lines d)
filed_stopping lines d f = (λ has. absurd (cc has), f.1)

filed_takes : (lines : List (List ℕ)) (d : Data) → IsFiled d → IsFiled (take_manual lines d).1
filed_takes lines d f = choose_pair (λ e. IsFiled e) (is_stop lines) _ _ (filed_stopping lines d f) (filed_adds lines d f)

filed_manually : (s : State) (lines : List (List ℕ)) (d : Data) → IsFiled d → IsFiled (manual_at s lines d).1
filed_manually Operational lines d f = filed_takes lines d f
filed_manually Printing lines d f = filed_takes lines d f
filed_manually Pausing lines d f = filed_takes lines d f
filed_manually Paused lines d f = filed_takes lines d f
filed_manually Cancelling lines d f = filed_takes lines d f
filed_manually Finishing lines d f = filed_takes lines d f
filed_manually Connecting lines d f = choose_pair (λ e. IsFiled e) (is_stop lines && d.linked) _ _ (filed_stopping lines d f) f
filed_manually Closing lines d f = choose_pair (λ e. IsFiled e) (is_stop lines && may_stop_closing d) _ _ (filed_stopping lines d f) f
filed_manually _ lines d f = f

pub filed_call : (call : DeskCall) (d : Data) → IsFiled d → IsFiled (desk_after call d)
filed_call (Connect port) d f = filed_connect d.state port d f
filed_call Disconnect d f = filed_disconnect d.state d f
filed_call (Select file) d f = filed_select d.state file d f
filed_call (DropFile name) d f = filed_drop name d f
filed_call (Start q) d f = filed_start d.state q d f
filed_call (Restart q) d f = filed_restart d.state q d refl f
filed_call Pause d f = filed_pause d.state d refl f
filed_call Resume d f = filed_resume d.state d refl f
filed_call Toggle d f = filed_toggle d.state d refl f
filed_call Cancel d f = filed_cancel d.state d refl f
filed_call (Manually texts) d f = filed_manually d.state texts d f
filed_call (Pull moment) d f = filed_goes d _ (goes_pull moment d) (file_pull moment d) f
filed_call (Note acked found moment) d f = filed_goes d _ (goes_note acked found moment d) (file_note acked found moment d) f

pub filed_calls : (calls : List DeskCall) (d : Data) → IsFiled d → IsFiled (desk_after_all calls d)
filed_calls [] d f = f
filed_calls (call ∷ calls) d f = filed_calls calls (desk_after call d) (filed_call call d f)
