-- A turn ends in a bay's run the print that it returns.
use Rattle.std.proofs.Common.{◌≡◌, inl, inr, ℕ, List, [], ◌∷◌, ◌++◌, map, Option, Some, None, refl, sym, ◌∙◌, ap, subst}
use Rattle.std.specs.Prelude.{IfSome}
use Rattle.print_queue.specs.declared.ending.Ending.{Ending}
use Rattle.job_desk.specs.Data.{Data, Line, new_desk}
use Rattle.job_desk.specs.Endings.{IsActive}
use Rattle.job_desk.specs.Issued.{line_of}
use Rattle.job_desk.specs.Note.{Noted}
use Rattle.job_desk.specs.Run.{Run}
use Rattle.job_desk.specs.declared.issued.Issued.{Issued}
use Rattle.job_desk.specs.declared.issued.Note.{Note}
use Rattle.job_desk.specs.declared.link_fact.LinkFact.{LinkFact}
use Rattle.job_desk.specs.declared.link_fact.LinkFact.TheVariants as fact
use Rattle.printer_model.specs.declared.event.WorldEvent.{WorldEvent}
use Rattle.printer_link.specs.Link.{LinkKind}
use Rattle.octo_session.specs.Data.{SessionData, doing}
use Rattle.octo_session.specs.DeskTurn.{IsNoted}
use Rattle.octo_session.specs.Turn.{IsTurn, IsTurnByNote, IsNoteOn}
use Rattle.octo_session.specs.declared.found.Turned.{Turned}
use Rattle.octo_house_rules.specs.Desk.{desk_after_all}
use Rattle.octo_house_rules.specs.Noted.{calls_of}
use Rattle.octo_house_run_proof.proofs.Quiet.{kept_still, talked}
use Rattle.octo_floor_bay.specs.Desk.{run_over}
use Rattle.octo_floor_bay.proofs.Turned.{turn_leads, quiet_leads}
use Rattle.octo_floor_bay.specs.Bay.{IsBay, IsQuietNote, AddsChange, AddsTurn, EndsBy, run_in}
use Rattle.octo_floor_bay.specs.Deeds.{desk_entries}
use Rattle.octo_floor_bay.specs.declared.deed.Deed.{Deed}
use Rattle.octo_floor_bay.specs.declared.deed.Deed.TheVariants as deed
use Rattle.octo_floor_bay.proofs.Leading.{bay_with}
use Rattle.octo_floor_bay.proofs.Running.{run_more, run_desk, runs_same, noted_run}
use Rattle.octo_floor_bay.proofs.Tying.{quiet_as}

module _ (moment : ℕ) (kind : LinkKind) (link link' : Option (List WorldEvent)) (calls calls' : Option ℕ) (x y : SessionData) (turned : Turned)
    (t : IsTurn moment kind link link' calls calls' x y turned) (n : IsTurnByNote moment kind x y turned) (going : IsActive x.desk) (old new : List Deed)
    (bay : IsBay (bay_with x old)) where
  abbrev run : Run
  run = run_in (bay_with x old)

  at : run.desk ≡ x.desk
  at = run_desk (bay_with x old) bay

  active : IsActive run.desk
  active = subst (λ (d : Data). IsActive d) (sym at) going

  -- a note that leads on
  by_note : (note : Note) → IsNoted note.moment note.acked note.fact (map line_of note.issued.items) x.desk turned.ending y.desk →
      desk_after_all (calls_of note) x.desk ≡ y.desk → new ≡ old ++ deed.Turned note ∷ [] → EndsBy turned.ending run (run_in (bay_with y new))
  by_note note noted leads grew =
      let so = noted_run note.moment note.acked note.issued.items run y.desk turned.ending active note.fact
      (subst (λ (d : Data). IsNoted note.moment note.acked note.fact (map line_of note.issued.items) d turned.ending y.desk) (sym at) noted)
      in
      let Led : Run → Type 0 = λ r. EndsBy turned.ending run r in
      let Deeds : List Deed → Type 0 = λ deeds. EndsBy turned.ending run (run_in (bay_with y deeds)) in
      subst Deeds (sym grew) (subst Led (sym (run_more (bay_with x old) y (deed.Turned note) leads)) so)

  still : turned.ending ≡ None → y.desk ≡ x.desk → new ≡ old → EndsBy turned.ending run (run_in (bay_with y new))
  still none same grew =
      let Gave : Option Ending → Type 0 = λ o. EndsBy o run (run_in (bay_with y new)) in
      let Deeds : List Deed → Type 0 = λ deeds. EndsBy None run (run_in (bay_with y deeds)) in
      let At : Data → Type 0 = λ d. EndsBy None run (run_over (desk_entries old) (new_desk d.scripts d.limits d.poll_ms d.numbered)) in
      subst Gave (sym none) (subst Deeds (sym grew) (subst At (sym same) ([], refl, runs_same run run refl refl)))

  quietly : turned.note ≡ None → AddsChange moment y.sender.acked x.desk.state y.desk.state old new → EndsBy turned.ending run (run_in (bay_with y new))
  quietly none (inl same) =
      let kept = kept_still (doing x) moment x.desk y.desk turned.ending (n.still none) same.0 in
      still kept.0 kept.1 same.1
  quietly none (inr moved) =
      let note : Note = moved.1.0 in
      let q : IsQuietNote moment y.sender.acked note = moved.1.1 in
      let acked_same : y.sender.acked ≡ x.sender.acked = (t.none.0 none).same_acked in
      let acked : x.desk.acked ≡ note.acked = n.before.acked ∙ sym acked_same ∙ sym q.its_acked in
      let took = talked (doing x) moment x.desk y.desk turned.ending (n.still none) moved.0 in
      let pair : Option Ending → Noted = λ o. (o, y.desk) in
      let noted : IsNoted moment x.desk.acked fact.Quiet [] x.desk turned.ending y.desk = record { pulled = y.desk; pulls = took.2; is = ap pair took.1 } in
      let At : ℕ → Type 0 = λ m. IsNoted m x.desk.acked fact.Quiet [] x.desk turned.ending y.desk in
      let Acked : ℕ → Type 0 = λ a. IsNoted note.moment a fact.Quiet [] x.desk turned.ending y.desk in
      let Fact : LinkFact → Type 0 = λ f. IsNoted note.moment note.acked f [] x.desk turned.ending y.desk in
      let Lines : List Line → Type 0 = λ lines. IsNoted note.moment note.acked note.fact lines x.desk turned.ending y.desk in
      by_note note
      (subst Lines (sym (ap (λ (items : List Issued). map line_of items) q.its_lines)) (subst Fact (sym q.its_fact) (subst Acked acked
      (subst At (sym q.its_moment) noted))))
      (quiet_leads moment kind x y turned n none acked_same moved.0 note (quiet_as moment y.sender.acked note q)) moved.1.2

  by_turn : (note : Option Note) → turned.note ≡ note → AddsTurn moment y.sender.acked x.desk.state y.desk.state note old new →
      EndsBy turned.ending run (run_in (bay_with y new))
  by_turn None none adds = quietly none adds
  by_turn (Some note) is adds =
      let on : IsNoteOn moment y.sender.acked x.desk y.desk turned.ending note =
      subst (λ (o : Option Note). IfSome o (λ one. IsNoteOn moment y.sender.acked x.desk y.desk turned.ending one)) is n.noted
      in
      let At : ℕ → Type 0 = λ m. IsNoted m note.acked note.fact (map line_of note.issued.items) x.desk turned.ending y.desk in
      let Acked : ℕ → Type 0 = λ a. IsNoted moment a note.fact (map line_of note.issued.items) x.desk turned.ending y.desk in
      by_note note (subst At (sym on.its_moment) (subst Acked (sym on.its_acked) on.noted)) (turn_leads moment kind x y turned n note is) adds

  pub turn_ends : AddsTurn moment y.sender.acked x.desk.state y.desk.state turned.note old new → EndsBy turned.ending run (run_in (bay_with y new))
  turn_ends adds = by_turn turned.note refl adds
