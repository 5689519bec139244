-- A bay stays in step with what its link recorded.
use Rattle.std.proofs.Common.{◌≡◌, inl, inr, ℕ, Bool, List, [], ◌∷◌, ◌++◌, Option, Some, None, refl, sym, ◌∙◌, ap, subst}
use Rattle.std.proofs.lemmas.Option.{same_Some}
use Rattle.octo_outside.specs.Recorded.{Adds}
use Rattle.job_desk.specs.declared.issued.Note.{Note}
use Rattle.printer_model.specs.declared.event.WorldEvent.{WorldEvent}
use Rattle.printer_link.specs.Link.{LinkKind}
use Rattle.octo_session.specs.Data.{SessionData, doing}
use Rattle.octo_session.specs.Turn.{IsTurn, IsTurnByNote, fact_of}
use Rattle.octo_session.specs.declared.found.Turned.{Turned}
use Rattle.octo_session_line_proof.proofs.Recorded.{IsKept, kept_by_note}
use Rattle.octo_session_line_proof.proofs.Unchanged.{turn_numbered}
use Rattle.octo_asks.specs.History.{History}
use Rattle.octo_house_run_proof.proofs.Quiet.{kept_still}
use Rattle.octo_house_run_proof.proofs.Quiet as quiet
use Rattle.octo_house_run_proof.specs.InStep.{AreCalls, InStep}
use Rattle.octo_house_run_proof.proofs.LineRecorded.{calls_in_step, note_in_step, turn_in_step, turn_silent}
use Rattle.octo_floor_bay.proofs.Turned.{turn_noted, turn_leads, quiet_noted, quiet_leads}
use Rattle.octo_floor_bay.specs.Bay.{BayData, IsBay, IsQuietNote, AddsChange, AddsTurn, after_deed}
use Rattle.octo_floor_bay.specs.Deeds.{entry_at, history_in}
use Rattle.octo_floor_bay.specs.Prints.{IsInStep}
use Rattle.octo_floor_bay.specs.declared.deed.Deed.{Deed}
use Rattle.octo_floor_bay.specs.declared.deed.Deed.TheVariants as deed
use Rattle.octo_floor_bay.proofs.Leading.{history-append, bay_more, bay_still}

-- the history grew by the entry of the deed
adds_entry : (old new : List Deed) (one : Deed) → new ≡ old ++ one ∷ [] → Adds (Some (history_in old)) (Some (history_in new)) (entry_at one ∷ [])
adds_entry old new one grew now is = (
  history_in old,
  entry_at one ∷ [],
  refl,
  sym (same_Some (history_in new) now is) ∙ ap history_in grew ∙ history-append old one,
  refl,
)

-- a deed that is a call leaves the sender and the link
pub called_in_step : (kind : LinkKind) (front past : Option (List WorldEvent)) (old : BayData) (one : Deed) → AreCalls (entry_at one ∷ []) →
    IsInStep kind front past old → IsInStep kind front past (after_deed one old)
called_in_step kind front past old one calls step =
    calls_in_step old.session.sender.numbered kind (Some []) (Some (history_in old.deeds)) (Some (history_in (old.deeds ++ one ∷ []))) front past old.session (after_deed one old).session
    (λ now is. (let a = adds_entry old.deeds (old.deeds ++ one ∷ []) one refl now is in
    (a.0, a.1, a.2, a.3, subst (λ (es : History). AreCalls es) (sym a.4) calls))) refl refl step

-- a quiet note, as the turns of a host have it
pub quiet_as : (moment acked : ℕ) (note : Note) → IsQuietNote moment acked note → quiet.IsQuietNote moment acked note
quiet_as moment acked note q = record {
  its_moment = q.its_moment;
  its_acked = q.its_acked;
  its_lines = q.its_lines;
  its_temps = q.its_temps;
  its_fact = q.its_fact;
}

-- a turn of the session
module _ (moment : ℕ) (kind : LinkKind) (link link' : Option (List WorldEvent)) (calls calls' : Option ℕ) (x y : SessionData) (turned : Turned)
    (t : IsTurn moment kind link link' calls calls' x y turned) (n : IsTurnByNote moment kind x y turned) (old new : List Deed) where
  k : IsKept moment x y turned
  k = kept_by_note n

  abbrev Tied : Type 0
  Tied = (front : Option (List WorldEvent)) → IsInStep kind front link (record { session = x; deeds = old }) →
      InStep x.sender.numbered kind (Some []) (Some (history_in new)) front link' y

  ties_quietly : turned.note ≡ None → AddsChange moment y.sender.acked x.desk.state y.desk.state old new → Tied
  ties_quietly none (inl same) front i =
      turn_silent moment x.sender.numbered kind link link' calls calls' x y turned t k (Some []) (Some (history_in old)) front (Some (history_in new)) none
      (ap (λ (deeds : List Deed). Some (history_in deeds)) same.1) i
  ties_quietly none (inr moved) front i =
      let note : Note = moved.1.0 in
      let q = moved.1.1 in
      note_in_step x.sender.numbered kind (Some []) (Some (history_in old)) (Some (history_in new)) front link' y y note q.its_fact q.its_acked q.its_lines
      (adds_entry old new (deed.Turned note) moved.1.2) refl refl
      (turn_silent moment x.sender.numbered kind link link' calls calls' x y turned t k (Some []) (Some (history_in old)) front (Some (history_in old)) none refl i)

  ties_by : (note : Option Note) → turned.note ≡ note → AddsTurn moment y.sender.acked x.desk.state y.desk.state note old new → Tied
  ties_by None none adds front i = ties_quietly none adds front i
  ties_by (Some note) is adds front i =
      turn_in_step moment x.sender.numbered kind link link' calls calls' x y turned t k (Some []) (Some (history_in old)) front (Some (history_in new)) note is
      (λ opened. n.none_acked (ap fact_of is ∙ opened)) (adds_entry old new (deed.Turned note) adds) i

  -- and counts `ok`s as before
  pub turn_ties : AddsTurn moment y.sender.acked x.desk.state y.desk.state turned.note old new → (front : Option (List WorldEvent)) →
      IsInStep kind front link (record { session = x; deeds = old }) → IsInStep kind front link' (record { session = y; deeds = new })
  turn_ties adds front i =
      subst (λ (b : Bool). InStep b kind (Some []) (Some (history_in new)) front link' y)
      (sym (turn_numbered moment kind link link' calls calls' x y turned t)) (ties_by turned.note refl adds front i)

  -- and its deed leads on
  same_acked : turned.note ≡ None → y.sender.acked ≡ x.sender.acked
  same_acked none = (t.none.0 none).same_acked

  bays_quietly : turned.note ≡ None → AddsChange moment y.sender.acked x.desk.state y.desk.state old new →
      IsBay (record { session = x; deeds = old }) → IsBay (record { session = y; deeds = new })
  bays_quietly none (inl same) bay =
      subst (λ (deeds : List Deed). IsBay (record { session = y; deeds = deeds })) (sym same.1)
      (bay_still (record { session = x; deeds = old }) y bay (kept_still (doing x) moment x.desk y.desk turned.ending (n.still none) same.0).1)
  bays_quietly none (inr moved) bay =
      let note : Note = moved.1.0 in
      let q = quiet_as moment y.sender.acked note moved.1.1 in
      subst (λ (deeds : List Deed). IsBay (record { session = y; deeds = deeds })) (sym moved.1.2)
      (bay_more (record { session = x; deeds = old }) y (deed.Turned note) bay
      (quiet_noted moment kind x y turned n none (same_acked none) moved.0 note q)
      (quiet_leads moment kind x y turned n none (same_acked none) moved.0 note q))

  bays_by : (note : Option Note) → turned.note ≡ note → AddsTurn moment y.sender.acked x.desk.state y.desk.state note old new →
      IsBay (record { session = x; deeds = old }) → IsBay (record { session = y; deeds = new })
  bays_by None none adds bay = bays_quietly none adds bay
  bays_by (Some note) is adds bay =
      subst (λ (deeds : List Deed). IsBay (record { session = y; deeds = deeds })) (sym adds)
      (bay_more (record { session = x; deeds = old }) y (deed.Turned note) bay (turn_noted moment kind x y turned n note is)
      (turn_leads moment kind x y turned n note is))

  pub turn_bay : AddsTurn moment y.sender.acked x.desk.state y.desk.state turned.note old new →
      IsBay (record { session = x; deeds = old }) → IsBay (record { session = y; deeds = new })
  turn_bay adds bay = bays_by turned.note refl adds bay
