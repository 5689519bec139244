-- What is left to settle after a pull or a note.
use Rattle.std.proofs.Common.{◌≡◌, ℕ, Bool, true, false, cond, codes, List, [], ◌∷◌, Option, None, Some, refl, ◌∙◌, ap}
use Rattle.job_desk.specs.Data.{Data, Line, with_script, moment_after}
use Rattle.job_desk.specs.Pull.{Drawn, draw_in_order, nothing, issue, from_scripts, from_manual, poll_is_due, probe_is_due, put_off, from_probe, from_file, draw_last, draw_at, is_issued, settle_at, settled}
use Rattle.job_desk.specs.Note.{note_fact, with_acked}
use Rattle.job_desk.specs.Course.{job_line}
use Rattle.job_desk.specs.declared.state.State.{State}
use Rattle.job_desk.specs.declared.state.State.TheVariants.{Offline, Connecting, Operational, Printing, Pausing, Paused, Cancelling, Finishing, Closing, Fault}
use Rattle.job_desk.specs.declared.state.Point.TheVariants as point
use Rattle.job_desk.specs.declared.state.Tag.TheVariants.{Manual, Poll}
use Rattle.job_desk.specs.Settled.{IsSettledBySteps}

again : (b : Bool) (d : Data) → d.state ≡ Printing → is_issued d ≡ b → settled
    (cond b (with_script point.Done d.greatest (record d { state = Finishing })) d) ≡ cond b
    (with_script point.Done d.greatest (record d { state = Finishing })) d
again true d e t = refl
again false d e t = ap (λ s. settle_at s d) e ∙ ap (λ (c : Bool). cond c (with_script point.Done d.greatest (record d { state = Finishing })) d) t

settle_again : (s : State) (d : Data) → d.state ≡ s → settled (settle_at s d) ≡ settle_at s d
settle_again Printing d e = again (is_issued d) d e refl
settle_again Offline d e = ap (λ s. settle_at s d) e
settle_again Connecting d e = ap (λ s. settle_at s d) e
settle_again Operational d e = ap (λ s. settle_at s d) e
settle_again Pausing d e = ap (λ s. settle_at s d) e
settle_again Paused d e = ap (λ s. settle_at s d) e
settle_again Cancelling d e = ap (λ s. settle_at s d) e
settle_again Finishing d e = ap (λ s. settle_at s d) e
settle_again Closing d e = ap (λ s. settle_at s d) e
settle_again Fault d e = ap (λ s. settle_at s d) e

-- without a line the desk is as before
abbrev Idle : Data → Drawn → Type 0
Idle d drawn = drawn.0 ≡ None → drawn.1 ≡ d

some_line : (X : Type 0) (line : Line) → ◌≡◌ {A = Option Line} (Some line) None → X
some_line X line e = absurd (cc e)

idle_scripts : (w : List Line) (d : Data) (next : Drawn) → Idle d next → Idle d (from_scripts w d next)
idle_scripts [] d next h = h
idle_scripts (line ∷ lines) d next h = λ e. some_line _ line e

idle_manual : (m : List (List ℕ)) (d : Data) (next : Drawn) → Idle d next → Idle d (from_manual m d next)
idle_manual [] d next h = h
idle_manual (text ∷ texts) d next h = λ e. some_line _ (record { text = text; tag = Manual }) e

idle_choice : (b : Bool) (line : Line) (d e : Data) (next : Drawn) → Idle d next → Idle d (cond b (issue line e) next)
idle_choice true line d e next h = λ n. some_line _ line n
idle_choice false line d e next h = h

idle_file : (text : Option (List ℕ)) (d : Data) → Idle d (from_file text d)
idle_file None d = λ e. refl
idle_file (Some text) d = λ e. some_line _ (job_line d.greatest d.cursor text) e

idle_talk : (moment : ℕ) (d : Data) (next : Drawn) → Idle d next → Idle d (draw_in_order moment d next)
idle_talk moment d next h = idle_scripts d.waiting d _ (idle_manual d.manual d _
    (idle_choice (poll_is_due moment d) (record { text = codes "M105"; tag = Poll }) d (record d { poll_at = moment_after moment d.poll_ms }) next h))

idle_probe : (awaited moment : ℕ) (d : Data) → Idle d (from_probe awaited moment d)
idle_probe awaited moment d =
    idle_choice (probe_is_due awaited moment d) (record { text = codes "M400"; tag = Poll }) d (put_off moment d)
    (nothing d) (λ e. refl)

idle_last : (b : Bool) (moment : ℕ) (d : Data) → Idle d (draw_last b moment d)
idle_last false moment d = idle_scripts d.waiting d _ (idle_probe d.last_line moment d)
idle_last true moment d = idle_manual d.manual d (nothing d) (λ e. refl)

idle_draw : (s : State) (moment : ℕ) (d : Data) → Idle d (draw_at s moment d)
idle_draw Operational moment d = idle_talk moment d _ (idle_probe d.issued moment d)
idle_draw Printing moment d = idle_talk moment d _ (idle_file _ d)
idle_draw Pausing moment d = idle_talk moment d _ (idle_probe d.issued moment d)
idle_draw Paused moment d = idle_talk moment d _ (idle_probe d.issued moment d)
idle_draw Cancelling moment d = idle_talk moment d _ (idle_probe d.issued moment d)
idle_draw Finishing moment d = idle_talk moment d _ (idle_probe d.issued moment d)
idle_draw Closing moment d = idle_last d.stopped moment d
idle_draw _ moment d = λ e. refl

pub settled_by_steps : IsSettledBySteps
settled_by_steps = record {
  by_pull = λ moment d. settle_again (draw_at d.state moment d).1.state (draw_at d.state moment d).1 refl;
  by_note = λ acked f moment d. (let noted = note_fact f moment (with_acked acked moment d) in settle_again noted.1.state noted.1 refl);
  idle_pull = λ moment d s e. (ap (λ x. settled x) (idle_draw d.state moment d e) ∙ s);
}
