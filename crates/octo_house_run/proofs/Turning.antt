-- What a turn of the link adds to a history: its note, or a quiet one in its place, or nothing.
use Rattle.std.proofs.Common.{◌≡◌, inl, inr, ℕ, List, Option, None, Some, refl, sym, ap, subst, ◌∙◌}
use Rattle.std.specs.Prelude.{IfSome}
use Rattle.octo_outside.specs.Recorded.{Became}
use Rattle.octo_outside.proofs.Recorded.{became_so, became_same}
use Rattle.job_desk.specs.declared.issued.Note.{Note}
use Rattle.job_desk.specs.declared.state.State.{State}
use Rattle.octo_asks.specs.History.{History}
use Rattle.octo_session.specs.Data.{SessionData}
use Rattle.octo_session.specs.Found.{temps_in}
use Rattle.octo_session.specs.Turn.{IsTurn, IsNoteOf, fact_of}
use Rattle.octo_session.specs.declared.found.Turned.{Turned}
use Rattle.printer_link.specs.Link.{LinkKind}
use Rattle.printer_model.specs.declared.event.WorldEvent.{WorldEvent}
use Rattle.octo_house_run_proof.specs.Rounds.{TurnsAt, history_of_note}
use Rattle.octo_house_rules.specs.Temps.{NotesTemps}
use Rattle.octo_house_run_proof.proofs.Hearing.{turn_notes_temps}
use Rattle.octo_house_run_proof.proofs.Turning.{HasCalled, turn_notes}
use Rattle.octo_house_run.specs.Turns.{Notes}

module _ (moment acked : ℕ) (was now : State) (kind : LinkKind) (link link' : Option (List WorldEvent)) (calls calls' : Option ℕ) (x y : SessionData) (turned : Turned)
    (t : IsTurn moment kind link link' calls calls' x y turned) where
  -- a note that says what the turn's does, or that nothing was found if it made none
  record SaysIt (n : Option Note) : Type 0 where
    its_fact : fact_of n ≡ fact_of turned.note
    at : IfSome n (λ one. one.moment ≡ moment)
    none : n ≡ None → temps_in t.got ≡ None
    temps : IfSome n (λ one. one.temps ≡ temps_in t.got)

  abbrev AddsIt : History → Type 0
  AddsIt added = (n : Option Note) × (added ≡ history_of_note n) × SaysIt n

  its_note : (note : Note) → turned.note ≡ Some note → SaysIt (Some note)
  its_note note is =
      let Told : Option Note → Type 0 = λ n. IfSome n (λ one. IsNoteOf moment y.sender.acked t.lines t.got t.found one) in
      let told = subst Told is t.some in
      record { its_fact = ap fact_of (sym is); at = told.its_moment; none = λ e. cc; temps = told.its_temps }

  added_by : (note : Option Note) → turned.note ≡ note → (past past' : Option History) → Notes moment acked was now note past past'
      → Became past past' (λ _ added. AddsIt added)
  added_by (Some note) is past past' adds = became_so past past' _ _ adds (λ old added list. (Some note, list, its_note note is))
  added_by None is past past' (inl same) =
      let silent = (t.none.0 is).no_temps in
      subst (λ (h : Option History). Became past h (λ _ added. AddsIt added)) (sym same.1)
      (became_same past (λ _ added. AddsIt added) (λ old. (None, refl, record { its_fact = ap fact_of (sym is); at = tt; none = λ e. silent; temps = tt })))
  added_by None is past past' (inr moved) =
      let q = moved.1.1 in
      let silent = (t.none.0 is).no_temps in
      became_so past past' _ _ moved.1.2
      (λ old added list. (
        Some moved.1.0,
        list,
        record { its_fact = q.its_fact ∙ ap fact_of (sym is); at = q.its_moment; none = λ e. silent; temps = q.its_temps ∙ sym silent },
      ))

  -- it says of the link what the turn found
  pub turn_adds : (faults faults' : ℕ) → HasCalled kind x calls calls' faults faults' (fact_of turned.note) → (past past' : Option History)
      → Notes moment acked was now turned.note past past' → Became past past' (λ _ added. TurnsAt moment kind.listed x calls calls' faults faults' added)
  turn_adds faults faults' h past past' notes =
      became_so past past' _ _ (added_by turned.note refl past past' notes)
      (λ old added it. (it.0, it.1, turn_notes moment kind link link' calls calls' x y turned t faults faults' h it.0 it.2.its_fact it.2.at))

  -- it holds the temperatures that were received
  pub turn_temps : (past past' : Option History) → Notes moment acked was now turned.note past past' → Became past past' (λ _ added. NotesTemps kind link link' added)
  turn_temps past past' notes =
      became_so past past' _ _ (added_by turned.note refl past past' notes)
      (λ old added it. subst (λ (h : History). NotesTemps kind link link' h) (sym it.1)
      (turn_notes_temps moment kind link link' calls calls' x y turned t it.0 it.2.none it.2.temps))
