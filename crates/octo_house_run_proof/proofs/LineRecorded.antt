-- A host stays in step with its histories while both are recorded.
use Rattle.std.proofs.Common.{◌≡◌, ℕ, Bool, false, List, [], ◌∷◌, ◌++◌, map, IfSome, Option, Some, None, refl, sym, ◌∙◌, ap, subst, append_assoc, append-nil}
use Rattle.octo_outside.specs.Recorded.{Became, Adds}
use Rattle.job_desk.specs.Issued.{line_of}
use Rattle.job_desk.specs.declared.issued.Note.{Note}
use Rattle.job_desk.specs.declared.link_fact.LinkFact.{LinkFact}
use Rattle.job_desk.specs.declared.link_fact.LinkFact.TheVariants as fact
use Rattle.printer_model.specs.declared.event.WorldEvent.{WorldEvent}
use Rattle.printer_link.specs.Link.{LinkKind, Grows, IsHangUp}
use Rattle.printer_link.specs.Suits.{SuitsAs}
use Rattle.send_window.specs.Data.{IsSound}
use Rattle.octo_session.specs.Data.{SessionData}
use Rattle.octo_session.specs.Turn.{IsTurn, IsNoteOf, texts_in}
use Rattle.octo_session.specs.declared.found.Turned.{Turned}
use Rattle.octo_asks.specs.History.{History}
use Rattle.octo_asks.specs.declared.entry.Entry.TheVariants as entry
use Rattle.octo_house_rules.specs.Issued.{is_opening}
use Rattle.octo_house_rules.specs.Legal.{up_after}
use Rattle.octo_session_line_proof.proofs.Recorded.{IsKept, turned_by}
use Rattle.octo_house_rules.specs.Sessions.{end_of}
use Rattle.octo_house_rules.specs.Tied.{AreTied, TiesLines}
use Rattle.octo_house_run_proof.specs.InStep.{AreCalls, AreInStep, InStep}
use Rattle.octo_house_rules.specs.Recorded.{Grown}
use Rattle.octo_house_run_proof.proofs.LineEnding.{begin_step, calls_step, end_step}
use Rattle.octo_house_run_proof.proofs.Standing.{still_step}
use Rattle.octo_house_run_proof.proofs.Noting.{noted_step, silent_step}

-- a host that begins
pub begin_in_step : (kind : LinkKind) (before : Option History) (front : Option (List WorldEvent)) (x : SessionData) → x.up ≡ false
    → IsSound x.sender → SuitsAs x.sender.numbered front kind.oks → InStep x.sender.numbered kind before before front front x
begin_in_step kind before front x down sound suits all now events there = record {
  old = all;
  added = [];
  was = now;
  grew = sym (append-nil all);
  old_events = events;
  was_link = there;
  so = begin_step x.sender.numbered kind events events x refl (record { down = down; sound = sound; numbered_is = refl; suits = suits events there });
}

-- entries more
grown_more : {before now now' : Option History} {front past past' : Option (List WorldEvent)} {So So' : List WorldEvent → History → List WorldEvent → Type 0}
    {mid all : History} {here events : List WorldEvent} → (more : History) → (g : Grown before now front past So mid here) → all ≡ mid ++ more →
    So' g.old_events (g.added ++ more) events → Grown before now' front past' So' all events
grown_more more g is so = record {
  old = g.old;
  added = g.added ++ more;
  was = g.was;
  grew = is ∙ ap (λ (h : History). h ++ more) g.grew ∙ append_assoc g.old g.added more;
  old_events = g.old_events;
  was_link = g.was_link;
  so = so;
}

module _ (numbered : Bool) (kind : LinkKind) (before now now' : Option History) (front link : Option (List WorldEvent)) (x y : SessionData) where
  -- calls are answered
  pub calls_in_step : Became now now' (λ _ added. AreCalls added) → y.sender ≡ x.sender → y.up ≡ x.up →
      InStep numbered kind before now front link x → InStep numbered kind before now' front link y
  calls_in_step calls sender up i all is events there =
      let got = calls all is in
      let g = i got.0 got.2 events there in
      grown_more got.1 g got.3 (calls_step numbered kind g.old_events got.1 g.added events x y got.4 sender up g.so)

  -- an entry that issues and acknowledges nothing
  pub note_in_step : (note : Note) → note.fact ≡ fact.Quiet → note.acked ≡ x.sender.acked → note.issued.items ≡ [] → Adds now now' (entry.Note note ∷ []) →
      y.sender ≡ x.sender → y.up ≡ x.up → InStep numbered kind before now front link x → InStep numbered kind before now' front link y
  note_in_step note quiet acked silent adds sender up i all is events there =
      let got = adds all is in
      let g = i got.0 got.2 events there in
      grown_more (entry.Note note ∷ []) g (got.3 ∙ ap (λ (es : History). got.0 ++ es) got.4)
      (still_step numbered kind g.old_events g.added events x y (entry.Note note) (opens_none note.fact quiet) (ap end_of quiet)
      (ap (map line_of) silent) (λ was same. acked ∙ same) (λ was. ap (λ (f : LinkFact). up_after f was) quiet) sender up g.so)
    where
      opens_none : (f : LinkFact) → f ≡ fact.Quiet → is_opening f ≡ false
      opens_none f q = ap is_opening q

module _ (moment : ℕ) (numbered : Bool) (kind : LinkKind) (link link' : Option (List WorldEvent)) (calls calls' : Option ℕ) (x y : SessionData) (turned : Turned)
    (t : IsTurn moment kind link link' calls calls' x y turned) (k : IsKept moment x y turned) (before now : Option History)
    (front : Option (List WorldEvent)) where
  -- a turn with a note
  pub turn_in_step : (now' : Option History) (note : Note) → turned.note ≡ Some note → (note.fact ≡ fact.Opened → y.sender.acked ≡ 0) →
      Adds now now' (entry.Note note ∷ []) → InStep numbered kind before now front link x → InStep numbered kind before now' front link' y
  turn_in_step now' note is none_acked adds i all now_is events there =
      let got = adds all now_is in
      let by = turned_by moment kind link link' calls calls' x y turned t k events there in
      let g = i got.0 got.2 by.0 by.2 in
      let of : IsNoteOf moment y.sender.acked t.lines t.got t.found note =
      subst (λ (n : Option Note). IfSome n (λ (one : Note). IsNoteOf moment y.sender.acked t.lines t.got t.found one)) is t.some
      in
      grown_more (entry.Note note ∷ []) g (got.3 ∙ ap (λ (es : History). got.0 ++ es) got.4)
      (subst (λ (es : List WorldEvent). AreInStep numbered kind g.old_events (g.added ++ entry.Note note ∷ []) es y) (sym by.3)
      (noted_step moment numbered kind x y t.got t.found (texts_in t.lines) g.old_events g.added by.0 by.1 by.4 g.so note of.its_fact (ap texts_in of.its_lines)
      (sym of.its_acked) (λ opened. of.its_acked ∙ none_acked opened)))

  -- a turn without one
  pub turn_silent : (now' : Option History) → turned.note ≡ None → now' ≡ now → InStep numbered kind before now front link x →
      InStep numbered kind before now' front link' y
  turn_silent now' is same i all now_is events there =
      let by = turned_by moment kind link link' calls calls' x y turned t k events there in
      let g = i all (sym same ∙ now_is) by.0 by.2 in
      let none = t.none.0 is in
      record {
        old = g.old;
        added = g.added;
        was = g.was;
        grew = g.grew;
        old_events = g.old_events;
        was_link = g.was_link;
        so = subst (λ (es : List WorldEvent). AreInStep numbered kind g.old_events g.added es y) (sym by.3)
            (silent_step moment numbered kind x y t.got t.found (texts_in t.lines) g.old_events g.added by.0 by.1 by.4 g.so none.quiet
            (ap texts_in none.no_line) none.same_acked);
      }

-- the link is hung up, and the history is closed
pub end_ties : (numbered : Bool) (kind : LinkKind) (before now now' : Option History) (front link link' : Option (List WorldEvent)) (x : SessionData) →
    Grows kind link link' (IsHangUp x.up) → Adds now now' (entry.Close ∷ []) → InStep numbered kind before now front link x → TiesLines numbered kind before now' front link'
end_ties numbered kind before now now' front link link' x hung adds i all now_is events there =
    let got = adds all now_is in
    let grew = hung.grew events there in
    let g = i got.0 got.2 grew.0 grew.2 in
    grown_more (entry.Close ∷ []) g (got.3 ∙ ap (λ (es : History). got.0 ++ es) got.4)
    (subst (λ (es : List WorldEvent). AreTied numbered kind g.old_events (g.added ++ entry.Close ∷ []) es) (sym grew.3)
    (end_step numbered kind g.old_events g.added grew.0 grew.1 x grew.4 g.so))
