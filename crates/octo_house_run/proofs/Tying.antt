-- A host's histories and its session stay in step over a round of its run.
use Rattle.std.proofs.Common.{◌≡◌, ◌⊎◌, inl, inr, ℕ, Bool, List, [], ◌∷◌, Option, Some, None, sym, subst}
use Rattle.octo_outside.specs.Recorded.{Became, Adds}
use Rattle.octo_outside.proofs.Recorded.{became_so}
use Rattle.job_desk.specs.declared.issued.Note.{Note}
use Rattle.job_desk.specs.declared.link_fact.LinkFact.TheVariants as fact
use Rattle.job_desk.specs.declared.state.State.{State}
use Rattle.printer_model.specs.declared.event.WorldEvent.{WorldEvent}
use Rattle.printer_link.specs.Link.{LinkKind, Grows, IsHangUp}
use Rattle.octo_session.specs.Data.{SessionData}
use Rattle.octo_session.specs.Turn.{IsTurn, fact_of}
use Rattle.octo_session.specs.declared.found.Turned.{Turned}
use Rattle.octo_asks.specs.History.{History}
use Rattle.octo_asks.specs.declared.entry.Entry.TheVariants as entry
use Rattle.octo_session_line_proof.proofs.Recorded.{IsKept}
use Rattle.octo_house_run_proof.specs.Rounds.{AsksAt, IsCallAt}
use Rattle.octo_house_run_proof.specs.InStep.{AreCalls, InStep}
use Rattle.octo_house_rules.specs.Tied.{TiesLines}
use Rattle.octo_house_run_proof.proofs.LineRecorded.{calls_in_step, note_in_step, turn_in_step, turn_silent, end_ties}
use Rattle.octo_house_run.specs.Turns.{NotesChange, Notes}

-- a turn of the link
module _ (moment : ℕ) (numbered : Bool) (kind : LinkKind) (link link' : Option (List WorldEvent)) (calls calls' : Option ℕ) (x y : SessionData) (turned : Turned)
    (t : IsTurn moment kind link link' calls calls' x y turned) (k : IsKept moment x y turned) (before past past' : Option History) (front : Option (List WorldEvent))
    (was now : State) where
  ties_quietly : turned.note ≡ None → NotesChange moment y.sender.acked was now past past' → InStep numbered kind before past front link x →
      InStep numbered kind before past' front link' y
  ties_quietly none (inl same) i = turn_silent moment numbered kind link link' calls calls' x y turned t k before past front past' none same.1 i
  ties_quietly none (inr moved) i =
      let q = moved.1.1 in
      note_in_step numbered kind before past past' front link' y y moved.1.0 q.its_fact q.its_acked q.its_lines moved.1.2 (λ j. y.sender) (λ j. y.up)
      (turn_silent moment numbered kind link link' calls calls' x y turned t k before past front past none (λ j. past) i)

  ties_by : (note : Option Note) → turned.note ≡ note → (fact_of note ≡ fact.Opened → y.sender.acked ≡ 0) →
      Notes moment y.sender.acked was now note past past' → InStep numbered kind before past front link x → InStep numbered kind before past' front link' y
  ties_by None none acked notes i = ties_quietly none notes i
  ties_by (Some note) is acked adds i = turn_in_step moment numbered kind link link' calls calls' x y turned t k before past front past' note is acked adds i

  pub turn_ties : (fact_of turned.note ≡ fact.Opened → y.sender.acked ≡ 0) → Notes moment y.sender.acked was now turned.note past past' →
      InStep numbered kind before past front link x → InStep numbered kind before past' front link' y
  turn_ties acked notes i = ties_by turned.note (λ j. turned.note) acked notes i

-- what an ask adds are calls
asks_calls : (h : History) (moment : ℕ) → (h ≡ []) ⊎ IsCallAt moment h → AreCalls h
asks_calls h moment (inl none) = subst (λ (es : History). AreCalls es) (sym none) tt
asks_calls h moment (inr call) = subst (λ (es : History). AreCalls es) (sym call.3) tt

-- a round: an ask may be answered, and a turn is taken
pub round_ties : (numbered : Bool) (kind kind' : LinkKind) → kind' ≡ kind → (first before mid after : Option History) (front link link' : Option (List WorldEvent)) (x y z : SessionData)
    (moment keeper keeper' shelf shelf' : ℕ) → InStep numbered kind first before front link x → Became before mid (λ _ added. AsksAt moment keeper keeper' shelf shelf' added) →
    y.sender ≡ x.sender → y.up ≡ x.up →
    ((old : Option History) (start : Option (List WorldEvent)) → InStep numbered kind' old mid start link y → InStep numbered kind' old after start link' z) →
    InStep numbered kind first after front link' z
round_ties numbered kind kind' same first before mid after front link link' x y z moment keeper keeper' shelf shelf' i asks sender up turn =
    let asked : InStep numbered kind first mid front link y =
    calls_in_step numbered kind first before mid front link x y (became_so before mid _ _ asks (λ old added is. asks_calls added moment is.asks)) sender up i
    in
    subst (λ (k : LinkKind). InStep numbered k first after front link' z) same (turn first front (subst (λ (k : LinkKind). InStep numbered k first mid front link y) (sym same) asked))

-- the link is hung up, and the history closed
pub hung_ties : (numbered : Bool) (kind kind' : LinkKind) → kind' ≡ kind → (first after last : Option History) (front link link' : Option (List WorldEvent)) (x : SessionData) (up : Bool) →
    up ≡ x.up → Grows kind' link link' (IsHangUp up) → Adds after last (entry.Close ∷ []) → InStep numbered kind first after front link x → TiesLines numbered kind first last front link'
hung_ties numbered kind kind' same first after last front link link' x up is hung adds i =
    let K : LinkKind → Type 0 = λ k. Grows k link link' (IsHangUp x.up) in
    end_ties numbered kind first after last front link link' x (subst K same (subst (λ (b : Bool). Grows kind' link link' (IsHangUp b)) is hung)) adds i
