-- Lines of a user that the desk takes or refuses.
use Rattle.std.proofs.Common.{◌≡◌, ◌⊎◌, inr, ℕ, ◌+◌, Bool, true, false, cond, ◌&&◌, nat_lt, List, [], ◌∷◌, length, Option, None, Result, Ok, Err, refl, sym, ap, ◌∙◌, subst}
use Rattle.temp_rules.specs.declared.limits.TooHot.{TooHot}
use Rattle.job_desk.specs.Data.{Data}
use Rattle.job_desk.specs.Run.{Manually}
use Rattle.job_desk.specs.Table.{Answer, ok_answer, wrong_state, most_manual, add_manual, is_stop, stopping, take_manual, stop_alone, may_stop_closing, manual_at}
use Rattle.job_desk.specs.declared.state.Refusal.{Refusal}
use Rattle.job_desk.specs.declared.state.Refusal.TheVariants as refusal
use Rattle.job_desk.specs.declared.state.State.{State}
use Rattle.job_desk.specs.declared.state.State.TheVariants.{Offline, Connecting, Operational, Printing, Pausing, Paused, Cancelling, Finishing, Closing, Fault}
use Rattle.octo_asks.specs.declared.answer.Answer.TheVariants as answer
use Rattle.octo_house_rules.specs.Known.{Known}
use Rattle.octo_house_rules.specs.Prints.{first_hot_text, manual_verdict}
use Rattle.octo_house_rules.specs.Refusals.{answer_of_refusal, if_desk_allows, unless_too_hot}
use Rattle.octo_house_rules.specs.Verdict.{Verdict, IsDone, makes, at_desk, is_fault}
use Rattle.octo_house_tables.specs.Counts.{answer_of_call}
use Rattle.byte_text.proofs.BoolLaws.{same_if}

-- what is refused leaves the desk
abbrev Leaves : Answer → Data → Refusal → Type 0
Leaves a d r = a.0 ≡ Err r → a.1 ≡ d

pick : (b : Bool) (x y : Answer) (d : Data) (r : Refusal) → Leaves x d r → Leaves y d r → Leaves (cond b x y) d r
pick true x y d r p q = p
pick false x y d r p q = q

took : (d e : Data) (r : Refusal) → Leaves (ok_answer e) d r
took d e r h = absurd (cc h)

add-leaves : (lines : List (List ℕ)) (d : Data) (r : Refusal) → Leaves (add_manual lines d) d r
add-leaves lines d r = pick (nat_lt most_manual (length d.manual + length lines)) (Err (refusal.Full (length d.manual)), d) _ d r (λ h. refl) (took d _ r)

take-leaves : (lines : List (List ℕ)) (d : Data) (r : Refusal) → Leaves (take_manual lines d) d r
take-leaves lines d r = pick (is_stop lines) (ok_answer (stopping lines d)) (add_manual lines d) d r (took d _ r) (add-leaves lines d r)

alone-leaves : (may : Bool) (lines : List (List ℕ)) (d : Data) (r : Refusal) → Leaves (stop_alone may lines d) d r
alone-leaves may lines d r = pick (is_stop lines && may) (ok_answer (stopping lines d)) (wrong_state d) d r (took d _ r) (λ h. refl)

manual-leaves : (s : State) (lines : List (List ℕ)) (d : Data) (r : Refusal) → Leaves (manual_at s lines d) d r
manual-leaves Offline lines d r = λ h. refl
manual-leaves Connecting lines d r = alone-leaves d.linked lines d r
manual-leaves Operational lines d r = take-leaves lines d r
manual-leaves Printing lines d r = take-leaves lines d r
manual-leaves Pausing lines d r = take-leaves lines d r
manual-leaves Paused lines d r = take-leaves lines d r
manual-leaves Cancelling lines d r = take-leaves lines d r
manual-leaves Finishing lines d r = take-leaves lines d r
manual-leaves Closing lines d r = alone-leaves (may_stop_closing d) lines d r
manual-leaves Fault lines d r = λ h. refl

module _ (texts : List (List ℕ)) (k k' : Known) (new : k' ≡ record k { desk = (manual_at k.desk.state texts k.desk).1 }) where
  by-answer : (a : Result (Unit {0}) Refusal) → (manual_at k.desk.state texts k.desk).0 ≡ a
      → IsDone (if_desk_allows a (makes answer.Accepted (at_desk (Manually texts ∷ []) k))) (answer_of_call a) k k'
  by-answer (Ok done) is = record { may = inr refl; leaves = new }
  by-answer (Err r) is = record {
    may = inr refl;
    leaves = new ∙ ap (λ (d : Data). record k { desk = d }) (manual-leaves k.desk.state texts k.desk r is) ∙ sym (same_if (is_fault (answer_of_refusal r)) k);
  }

  -- lines that aren't too hot
  pub manual-done : first_hot_text k.desk.limits texts ≡ None
      → IsDone (manual_verdict texts k) (answer_of_call (manual_at k.desk.state texts k.desk).0) k k'
  manual-done cool =
      subst (λ (o : Option TooHot). IsDone (unless_too_hot o (if_desk_allows (manual_at k.desk.state texts k.desk).0 (makes answer.Accepted (at_desk
      (Manually texts ∷ []) k)))) (answer_of_call (manual_at k.desk.state texts k.desk).0) k k') (sym cool)
      (by-answer (manual_at k.desk.state texts k.desk).0 refl)
