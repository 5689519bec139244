-- The line that stops the printer is pulled, and then none.
use Rattle.std.proofs.Common.{◌≡◌, ℕ, Bool, true, List, [], ◌∷◌, refl, sym, ◌∙◌, ap, subst, arith}
use Rattle.std.specs.Prelude.{◌&&◌, ◌==◌, length, None, Some, is_some}
use Rattle.std.proofs.lemmas.Bool.{false≢true, and_parts}
use Rattle.std.proofs.lemmas.Bool.Decides.{nat_tests}
use Rattle.job_desk.specs.Data.{Data}
use Rattle.job_desk.specs.Table.{is_stopping, is_stopping_at}
use Rattle.job_desk.specs.Pull.{Drawn, nothing, next_number, from_manual, draw_last, draw_at, settle_at, settled, pull_step}
use Rattle.job_desk.specs.Note.{end_at, note_step, with_acked}
use Rattle.job_desk.specs.declared.link_fact.LinkFact.TheVariants as fact
use Rattle.job_desk.specs.declared.state.State.{State}
use Rattle.job_desk.specs.declared.state.State.TheVariants.{Offline, Connecting, Operational, Printing, Pausing, Paused, Cancelling, Finishing, Closing, Fault}
use Rattle.job_desk.specs.declared.state.Tag.TheVariants.{Manual}
use Rattle.octo_session.specs.Data.{IsStopped}

-- a desk that stops the printer, with the line that does it
record Stops (d : Data) : Type 0 where
  at : d.state ≡ Closing
  stops : d.stopped ≡ true
  text : List ℕ
  one : d.manual ≡ text ∷ []

-- a list of one
record One (m : List (List ℕ)) : Type 0 where
  text : List ℕ
  is : m ≡ text ∷ []

one_of : (m : List (List ℕ)) → (length m == 1) ≡ true → One m
one_of [] e = absurd (cc e)
one_of (text ∷ []) e = record { text = text; is = refl }
one_of (text ∷ next ∷ more) e = (let none : length (text ∷ next ∷ more) ≡ 1 = grind (arith, nat_tests) in absurd (cc none))

stops_at : (s : State) (d : Data) → d.state ≡ s → is_stopping_at s d ≡ true → Stops d
stops_at Closing d at e =
    let parts = and_parts d.stopped (length d.manual == 1) e in
    let one : One d.manual = one_of d.manual parts.1 in
    record { at = at; stops = parts.0; text = one.text; one = one.is }
stops_at Offline d at e = absurd (false≢true e)
stops_at Connecting d at e = absurd (false≢true e)
stops_at Operational d at e = absurd (false≢true e)
stops_at Printing d at e = absurd (false≢true e)
stops_at Pausing d at e = absurd (false≢true e)
stops_at Paused d at e = absurd (false≢true e)
stops_at Cancelling d at e = absurd (false≢true e)
stops_at Finishing d at e = absurd (false≢true e)
stops_at Fault d at e = absurd (false≢true e)

-- what is pulled, and what the pull leaves
pub record StopPulled (moment : ℕ) (d : Data) : Type 0 where
  pub some : is_some (pull_step moment d).0 ≡ true
  pub then_none : (pull_step moment (pull_step moment d).1).0 ≡ None
  pub leaves : IsStopped (pull_step moment d).1

pub stop_pulled : (moment : ℕ) (d : Data) → is_stopping d ≡ true → StopPulled moment d
stop_pulled moment d e =
    let stop : Stops d = stops_at d.state d refl e in
    let left : Data = record d { manual = []; issued = next_number d.issued; last_line = next_number d.issued } in
    let drew : ◌≡◌ {A = Drawn} (draw_at d.state moment d) (Some (record { text = stop.text; tag = Manual }), left) =
    ap (λ (s : State). draw_at s moment d) stop.at ∙ ap (λ (b : Bool). draw_last b moment d) stop.stops
    ∙ ap (λ (m : List (List ℕ)). from_manual m d (nothing d)) stop.one in
    let after : (pull_step moment d).1 ≡ left = ap (λ (x : Drawn). settled x.1) drew ∙ ap (λ (s : State). settle_at s left) stop.at in
    let none : (pull_step moment left).0 ≡ None =
    ap (λ (s : State). (draw_at s moment left).0) stop.at ∙ ap (λ (b : Bool). (draw_last b moment left).0) stop.stops in
    record {
      some = ap (λ (x : Drawn). is_some x.0) drew;
      then_none = ap (λ (x : Data). (pull_step moment x).0) after ∙ none;
      leaves = subst IsStopped (sym after) (record { closes = stop.at; stops = stop.stops; issued = refl });
    }

-- a quiet note leaves such a desk
pub note_stops : (acked moment : ℕ) (d e : Data) → is_stopping d ≡ true → e ≡ (note_step acked fact.Quiet moment d).1 → is_stopping e ≡ true
note_stops acked moment d e stops after =
    let stop : Stops d = stops_at d.state d refl stops in
    let told : Data = with_acked acked moment d in
    let same : (note_step acked fact.Quiet moment d).1 ≡ told =
    ap (λ (s : State). settled (end_at s told).1) stop.at ∙ ap (λ (s : State). settle_at s told) stop.at in
    let still : is_stopping told ≡ true =
    ap (λ (s : State). is_stopping_at s told) stop.at ∙ ap (λ (b : Bool). b && (length d.manual == 1)) stop.stops
    ∙ ap (λ (m : List (List ℕ)). length m == 1) stop.one in
    ap is_stopping (after ∙ same) ∙ still
