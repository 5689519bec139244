-- A turn of a session is an entry that may be made at its desk.
use Rattle.std.proofs.Common.{◌≡◌, ◌⊎◌, inl, inr, ℕ, ◌≤◌, true, List, [], ◌∷◌, ◌++◌, map, Option, None, Some, refl, sym, ◌∙◌, ap, subst, arith}
use Rattle.std.specs.Prelude.{IfSome}
use Rattle.print_queue.specs.declared.ending.Ending.{Ending}
use Rattle.job_desk.specs.Data.{Data}
use Rattle.job_desk.specs.Issued.{line_of}
use Rattle.job_desk.specs.Note.{Noted, note_step, first_fact}
use Rattle.job_desk.specs.Pull.{pull_step}
use Rattle.job_desk.specs.Run.{DeskCall, Pull, Note}
use Rattle.job_desk.specs.declared.issued.Issued.{Issued}
use Rattle.job_desk.specs.declared.issued.Note as declared_note
use Rattle.job_desk.specs.declared.link_fact.LinkFact.{LinkFact}
use Rattle.job_desk.specs.declared.link_fact.LinkFact.TheVariants as fact
use Rattle.job_desk.specs.declared.state.State.TheVariants.{Connecting}
use Rattle.printer_link.specs.Link.{LinkKind}
use Rattle.octo_session.specs.Data.{SessionData, doing}
use Rattle.octo_session.specs.DeskTurn.{Pulls, IsNoted, last_noted}
use Rattle.octo_session.specs.Found.{can_find}
use Rattle.octo_session.specs.Turn.{IsTurnByNote, IsNoteOn, fact_of}
use Rattle.octo_session.specs.declared.found.Turned.{Turned}
use Rattle.octo_session.proofs.Choosing.{dials_at}
use Rattle.octo_session_line_proof.proofs.Turned.{opens_dialling}
use Rattle.octo_house_rules.specs.Desk.{desk_after_all, lines_pulled}
use Rattle.octo_house_rules.specs.Legal.{IsAckedWell}
use Rattle.octo_house_rules.specs.Noted.{calls_of, lines_in, last_call}
use Rattle.octo_house_rules.proofs.Runs.{desk_append}
use Rattle.octo_house_run_proof.proofs.Noted.{acked_at_desk, lines_legal}
use Rattle.octo_house_run_proof.proofs.Quiet.{IsQuietNote, talked}
use Rattle.octo_floor_bay.specs.Desk.{IsTurnAt}

-- the desk after the pulls of issued lines
pulls_lead : (moment : ℕ) (issued : List Issued) (d e : Data) → Pulls moment (map line_of issued) d e →
    desk_after_all (map (λ (one : Issued). Pull moment) issued) d ≡ e
pulls_lead moment [] d e pulls = sym pulls
pulls_lead moment (one ∷ issued) d e pulls = pulls_lead moment issued (pull_step moment d).1 e pulls.1

-- and after a failure that is noted last
last_leads : (found : LinkFact) (acked moment : ℕ) (first : Option Ending) (d : Data) →
    desk_after_all (last_call found acked moment) d ≡ (last_noted found acked moment (first, d)).1
last_leads fact.Quiet acked moment first d = refl
last_leads fact.Opened acked moment first d = refl
last_leads fact.Ready acked moment first d = refl
last_leads fact.Closed acked moment first d = refl
last_leads fact.NoPort acked moment first d = refl
last_leads fact.Failed acked moment first d = refl
last_leads (fact.Ended end) acked moment first d = refl

-- the calls of a note lead from one desk of a turn to the other
noted_leads : (moment acked : ℕ) (found : LinkFact) (issued : List Issued) (old new : Data) (ending : Option Ending) →
    IsNoted moment acked found (map line_of issued) old ending new →
    desk_after_all (Note acked (first_fact found) moment ∷ (map (λ (one : Issued). Pull moment) issued ++ last_call found acked moment)) old ≡ new
noted_leads moment acked found issued old new ending n =
    let first : Noted = note_step acked (first_fact found) moment old in
    let pulls : List DeskCall = map (λ (one : Issued). Pull moment) issued in
    desk_append pulls (last_call found acked moment) first.1
    ∙ ap (λ (d : Data). desk_after_all (last_call found acked moment) d) (pulls_lead moment issued first.1 n.pulled n.pulls)
    ∙ last_leads found acked moment first.0 n.pulled
    ∙ sym (ap (λ (noted : Noted). noted.1) n.is)

-- a turn with a note
module _ (moment : ℕ) (kind : LinkKind) (x y : SessionData) (turned : Turned) (t : IsTurnByNote moment kind x y turned)
    (note : declared_note.Note) (is : turned.note ≡ Some note) where
  on : IsNoteOn moment y.sender.acked x.desk y.desk turned.ending note
  on = subst (λ (n : Option declared_note.Note). IfSome n (λ one. IsNoteOn moment y.sender.acked x.desk y.desk turned.ending one)) is t.noted

  fact_is : fact_of turned.note ≡ note.fact
  fact_is = ap fact_of is

  acked : IsAckedWell note.fact note.acked x.desk
  acked =
      subst (λ (n : ℕ). IsAckedWell note.fact n x.desk) (sym on.its_acked)
      (acked_at_desk x note.fact y.sender.acked t.before (λ opened. t.none_acked (fact_is ∙ opened)) (kept t.not_fallen) t.within)
    where
      kept : (fact_of turned.note ≡ fact.Opened) ⊎ (x.sender.acked ≤ y.sender.acked) → (note.fact ≡ fact.Opened) ⊎ (x.sender.acked ≤ y.sender.acked)
      kept (inl opened) = inl (sym fact_is ∙ opened)
      kept (inr more) = inr more

  dialled : note.fact ≡ fact.Opened → x.desk.state ≡ Connecting
  dialled opened =
      dials_at x (opens_dialling (doing x) (subst (λ (f : LinkFact). can_find (doing x) f ≡ true) (fact_is ∙ opened) t.finds))

  pub turn_noted : IsTurnAt note (calls_of note) x.desk
  turn_noted = record {
    calls_are = refl;
    acked = acked;
    dialled = dialled;
    issued = lines_legal moment y.sender.acked x.desk y.desk turned.ending note on;
  }

  pub turn_leads : desk_after_all (calls_of note) x.desk ≡ y.desk
  turn_leads =
      noted_leads note.moment note.acked note.fact note.issued.items x.desk y.desk turned.ending
      (subst (λ (m : ℕ). IsNoted m note.acked note.fact (map line_of note.issued.items) x.desk turned.ending y.desk) (sym on.its_moment)
      (subst (λ (n : ℕ). IsNoted moment n note.fact (map line_of note.issued.items) x.desk turned.ending y.desk) (sym on.its_acked) on.noted))

-- a turn without a note that left the desk in another state, and a note that says no more
module _ (moment : ℕ) (kind : LinkKind) (x y : SessionData) (turned : Turned) (t : IsTurnByNote moment kind x y turned)
    (none : turned.note ≡ None) (same : y.sender.acked ≡ x.sender.acked) (moved : y.desk.state ≡ x.desk.state → ⊥)
    (note : declared_note.Note) (q : IsQuietNote moment y.sender.acked note) where
  acked_is : x.desk.acked ≡ note.acked
  acked_is = t.before.acked ∙ sym same ∙ sym q.its_acked

  quiet_calls : Note x.desk.acked fact.Quiet moment ∷ [] ≡ calls_of note
  quiet_calls =
      ap (λ (n : ℕ). Note n fact.Quiet moment ∷ []) acked_is
      ∙ ap (λ (m : ℕ). Note note.acked fact.Quiet m ∷ []) (sym q.its_moment)
      ∙ ap (λ (f : LinkFact). Note note.acked (first_fact f) note.moment ∷ last_call f note.acked note.moment) (sym q.its_fact)
      ∙ ap (λ (issued : List Issued). Note note.acked (first_fact note.fact) note.moment
      ∷ (map (λ (one : Issued). Pull note.moment) issued ++ last_call note.fact note.acked note.moment)) (sym q.its_lines)

  pub quiet_leads : desk_after_all (calls_of note) x.desk ≡ y.desk
  quiet_leads =
      let took = talked (doing x) moment x.desk y.desk turned.ending (t.still none) moved in
      subst (λ (calls : List DeskCall). desk_after_all calls x.desk ≡ y.desk) quiet_calls (sym took.2)

  pub quiet_noted : IsTurnAt note (calls_of note) x.desk
  quiet_noted = record {
    calls_are = refl;
    acked = subst (λ (f : LinkFact). IsAckedWell f note.acked x.desk) (sym q.its_fact)
        (subst (λ (n : ℕ). IsAckedWell fact.Quiet n x.desk) (sym q.its_acked)
        (acked_at_desk x fact.Quiet y.sender.acked t.before (λ e. absurd (cc e)) (inr (omega (arith, same))) t.within));
    dialled = λ opened. absurd (cc (sym q.its_fact ∙ opened));
    issued = subst (λ (calls : List DeskCall). lines_pulled calls x.desk ≡ lines_in note) quiet_calls (ap (map line_of) (sym q.its_lines));
  }
