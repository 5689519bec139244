-- The states that pulls and notes keep or lead to.
use Rattle.std.proofs.Common.{◌≡◌, ℕ, Bool, true, false, cond, codes, List, [], ◌∷◌, Option, None, Some, refl, sym, ◌∙◌, ap}
use Rattle.job_desk.specs.declared.link_fact.LinkFact.TheVariants as fact
use Rattle.job_desk.specs.Data.{Data, Line, moment_after}
use Rattle.job_desk.specs.Pull.{Drawn, nothing, draw_at, settle_at, settled, pull_step, issue, from_scripts, from_manual, poll_is_due, from_probe, put_off, probe_is_due}
use Rattle.job_desk.specs.Note.{Noted, end_at, ready_at, fail, note_step, with_acked}
use Rattle.job_desk.specs.declared.state.State.{State}
use Rattle.job_desk.specs.declared.state.State.TheVariants.{Connecting, Operational, Fault}
use Rattle.job_desk.specs.declared.state.Tag.TheVariants.{Manual, Poll}
use Rattle.job_desk.proofs.Connecting.{none_ends}
use Rattle.octo_session.specs.DeskTurn.{Pulls}
use Rattle.octo_session.proofs.Counts.{counted_pull}
use Rattle.octo_session_print.proofs.Issues.{issue_state}

-- What pulls leave as it is.

-- a desk that returns no line stays
pub stays_silent : (s : State) (moment : ℕ) (lines : List Line) (old new : Data) → ((d : Data) → draw_at s moment d ≡ nothing d) → old.state ≡ s
    → Pulls moment lines old new → new ≡ old
stays_silent s moment [] old new none at pulls = pulls
stays_silent s moment (line ∷ lines) old new none at pulls =
    let quiet : draw_at old.state moment old ≡ nothing old = ap (λ t. draw_at t moment old) at ∙ none old in
    let no_line : ◌≡◌ {A = Option Line} None (Some line) = sym (ap (λ (drawn : Drawn). drawn.0) quiet) ∙ pulls.0 in
    absurd (cc no_line)

pub acked_pulls : (moment : ℕ) (lines : List Line) (old new : Data) → Pulls moment lines old new → new.acked ≡ old.acked
acked_pulls moment [] old new pulls = ap (λ (d : Data). d.acked) pulls
acked_pulls moment (line ∷ lines) old new pulls = acked_pulls moment lines (pull_step moment old).1 new pulls.1 ∙ (counted_pull moment old).acked

pub kept_scripts : (w : List Line) (d : Data) (next : Drawn) → next.1.state ≡ d.state → (from_scripts w d next).1.state ≡ d.state
kept_scripts [] d next same = same
kept_scripts (line ∷ lines) d next same = issue_state line (record d { waiting = lines })

pub kept_manual : (m : List (List ℕ)) (d : Data) (next : Drawn) → next.1.state ≡ d.state → (from_manual m d next).1.state ≡ d.state
kept_manual [] d next same = same
kept_manual (text ∷ texts) d next same = issue_state (record { text = text; tag = Manual }) (record d { manual = texts })

pub kept_probe : (awaited moment : ℕ) (d : Data) → (from_probe awaited moment d).1.state ≡ d.state
kept_probe awaited moment d = choose (probe_is_due awaited moment d)
  where
    asked : Data
    asked = put_off moment d

    choose : (b : Bool) → (cond b (issue (record { text = codes "M400"; tag = Poll }) asked) (nothing d)).1.state ≡ d.state
    choose true = issue_state (record { text = codes "M400"; tag = Poll }) asked
    choose false = refl

pub kept_poll : (b : Bool) (at : ℕ) (d : Data) (next : Drawn) → next.1.state ≡ d.state
    → (cond b (issue (record { text = codes "M105"; tag = Poll }) (record d { poll_at = at })) next).1.state ≡ d.state
kept_poll true at d next same = issue_state (record { text = codes "M105"; tag = Poll }) (record d { poll_at = at })
kept_poll false at d next same = same

draw_open : (moment : ℕ) (d : Data) → (draw_at Operational moment d).1.state ≡ d.state
draw_open moment d = kept_scripts d.waiting d _ (kept_manual d.manual d _ (kept_poll (poll_is_due moment d) (moment_after moment d.poll_ms) d _
    (kept_probe d.issued moment d)))

pub settled_open : (d : Data) → d.state ≡ Operational → (settled d).state ≡ Operational
settled_open d at = ap (λ s. (settle_at s d).state) at ∙ at

pull_open : (moment : ℕ) (d : Data) → d.state ≡ Operational → (pull_step moment d).1.state ≡ Operational
pull_open moment d at =
    let drawn : Drawn = draw_at d.state moment d in
    settled_open drawn.1 (ap (λ s. (draw_at s moment d).1.state) at ∙ draw_open moment d ∙ at)

-- pulls keep a state that each pull keeps
pub pulls_keep : (s : State) → ((moment : ℕ) (d : Data) → d.state ≡ s → (pull_step moment d).1.state ≡ s)
    → (moment : ℕ) (lines : List Line) (old new : Data) → old.state ≡ s → Pulls moment lines old new → new.state ≡ s
pulls_keep s keeps moment [] old new at pulls = ap (λ (d : Data). d.state) pulls ∙ at
pulls_keep s keeps moment (line ∷ lines) old new at pulls = pulls_keep s keeps moment lines (pull_step moment old).1 new (keeps moment old at) pulls.1

pub pulls_open : (moment : ℕ) (lines : List Line) (old new : Data) → old.state ≡ Operational → Pulls moment lines old new → new.state ≡ Operational
pulls_open moment lines old new at pulls = pulls_keep Operational pull_open moment lines old new at pulls

-- What notes make of the state.

pub note_connecting : (acked moment : ℕ) (d : Data) → d.state ≡ Connecting → (note_step acked fact.Quiet moment d).1.state ≡ Connecting
note_connecting acked moment d at = none_ends (with_acked acked moment d) at

pub note_ready : (acked moment : ℕ) (d : Data) → d.state ≡ Connecting → (note_step acked fact.Ready moment d).1.state ≡ Operational
note_ready acked moment d at =
    let heard : Data = record (with_acked acked moment d) { ready = true } in
    let is : ready_at d.state moment heard ≡ ready_at Connecting moment heard = ap (λ s. ready_at s moment heard) at in
    ap (λ (x : Data). (settled (end_at x.state x).1).state) is

pub failed_state : (noted : Noted) → (settled (fail noted).1).state ≡ Fault
failed_state (None, d) = refl
failed_state (Some ending, d) = refl
