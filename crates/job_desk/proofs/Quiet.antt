-- A quiet note that acknowledges nothing new and leaves the state leaves the whole desk, and ends no print.
use Rattle.std.proofs.Common.{◌≡◌, ℕ, nat_lt, arith, Bool, true, false, cond, Option, None, refl, sym, ◌∙◌, ap}
use Rattle.std.proofs.lemmas.Bool.Decides.{nat_tests}
use Rattle.job_desk.specs.Data.{Data, with_script, moment_after}
use Rattle.job_desk.specs.Pull.{is_issued, settle_at, settled}
use Rattle.job_desk.specs.Note.{Noted, is_over, end_at, finish, note_fact, note_step, with_acked}
use Rattle.job_desk.specs.declared.state.State.{State}
use Rattle.job_desk.specs.declared.state.State.TheVariants.{Offline, Connecting, Operational, Printing, Pausing, Paused, Cancelling, Finishing, Closing, Fault}
use Rattle.job_desk.specs.declared.state.Point.TheVariants as point
use Rattle.job_desk.specs.declared.link_fact.LinkFact.TheVariants as fact
use Rattle.print_queue.specs.declared.ending.Ending.{Ending}
use Rattle.print_queue.specs.declared.ending.Outcome.TheVariants as outcome

-- nothing ended and the desk stayed
abbrev pub IsSame : Data → Noted → Type 0
IsSame d noted = (noted.0 ≡ None) × (settled noted.1 ≡ d)

module _ (d : Data) where
  print_if : (b : Bool) → d.state ≡ Printing → (cond b (with_script point.Done d.greatest (record d { state = Finishing })) d).state ≡ d.state →
      cond b (with_script point.Done d.greatest (record d { state = Finishing })) d ≡ d
  print_if true is keeps = let other : Finishing ≡ Printing = keeps ∙ is in absurd (cc other)
  print_if false is keeps = refl

  end_if : (b : Bool) (x : Noted) → settled d ≡ d → ((settled x.1).state ≡ d.state → ⊥) → (settled (cond b x (None, d)).1).state ≡ d.state →
      IsSame d (cond b x (None, d))
  end_if true x idle moved keeps = absurd (moved keeps)
  end_if false x idle moved keeps = (refl, idle)

  idle_at : (s : State) → d.state ≡ s → settle_at s d ≡ d → settled d ≡ d
  idle_at s e idle = ap (λ (t : State). settle_at t d) e ∙ idle

  same_at : (s : State) → d.state ≡ s → (settled (end_at s d).1).state ≡ d.state → IsSame d (end_at s d)
  same_at Printing e keeps =
      let at : settled d ≡ settle_at Printing d = ap (λ (t : State). settle_at t d) e in
      (refl, at ∙ print_if (is_issued d) e (ap (λ (x : Data). x.state) (sym at) ∙ keeps))
  same_at Pausing e keeps =
      end_if (is_over d) (None, record d { state = Paused }) (idle_at Pausing e refl) (λ moved. (let other : Paused ≡ Pausing = moved ∙ e in absurd (cc other)))
      keeps
  same_at Cancelling e keeps =
      end_if (is_over d) (finish outcome.Cancelled d) (idle_at Cancelling e refl)
      (λ moved. (let other : Operational ≡ Cancelling = moved ∙ e in absurd (cc other))) keeps
  same_at Finishing e keeps =
      end_if (is_over d) (finish outcome.Done d) (idle_at Finishing e refl) (λ moved. (let other : Operational ≡ Finishing = moved ∙ e in absurd (cc other)))
      keeps
  same_at Offline e keeps = (refl, idle_at Offline e refl)
  same_at Connecting e keeps = (refl, idle_at Connecting e refl)
  same_at Operational e keeps = (refl, idle_at Operational e refl)
  same_at Paused e keeps = (refl, idle_at Paused e refl)
  same_at Closing e keeps = (refl, idle_at Closing e refl)
  same_at Fault e keeps = (refl, idle_at Fault e refl)

-- a count that doesn't rise leaves the desk
none_more : (n : ℕ) → nat_lt n n ≡ false
none_more n = grind (arith, nat_tests)

pub counted_again : (moment : ℕ) (d : Data) → with_acked d.acked moment d ≡ d
counted_again moment d = ap (λ (b : Bool). record d { probe_at = cond b (moment_after moment d.poll_ms) d.probe_at }) (none_more d.acked)

-- the note returns nothing and leaves the desk
pub quiet_keeps : (moment : ℕ) (d : Data) → (note_step d.acked fact.Quiet moment d).1.state ≡ d.state →
    ◌≡◌ {A = Noted} (note_step d.acked fact.Quiet moment d) (None, d)
quiet_keeps moment d goes =
    let Step : Data → Noted = λ x. (let noted = note_fact fact.Quiet moment x in (noted.0, settled noted.1)) in
    let again : note_step d.acked fact.Quiet moment d ≡ Step d = ap Step (counted_again moment d) in
    let keeps : (Step d).1.state ≡ d.state = ap (λ (n : Noted). n.1.state) (sym again) ∙ goes in
    let same = same_at d d.state refl keeps in
    let first : ◌≡◌ {A = Noted} ((end_at d.state d).0, settled (end_at d.state d).1) (None, settled (end_at d.state d).1) =
    ap (λ (gave : Option Ending). (gave, settled (end_at d.state d).1)) same.0 in
    let second : ◌≡◌ {A = Noted} (None, settled (end_at d.state d).1) (None, d) = ap (λ (e : Data). (None, e)) same.1 in
    again ∙ first ∙ second
