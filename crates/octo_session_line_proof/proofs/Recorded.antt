-- A turn over a link that records its history, or doesn't.
use Rattle.std.proofs.Common.{◌≡◌, ◌⊎◌, inl, inr, ℕ, ◌-◌, true, List, ◌++◌, refl, sym, ◌∙◌, ap, subst}
use Rattle.std.specs.Prelude.{Option, None, Some}
use Rattle.job_desk.specs.Data.{Line}
use Rattle.job_desk.specs.declared.link_fact.LinkFact.{LinkFact}
use Rattle.job_desk.specs.declared.link_fact.LinkFact.TheVariants as fact
use Rattle.printer_model.specs.declared.event.WorldEvent.{WorldEvent}
use Rattle.printer_link.specs.Link.{LinkKind, world_in}
use Rattle.send_window.specs.Sending.{next_of}
use Rattle.octo_session.specs.Data.{SessionData, IsSession, doing}
use Rattle.octo_session.specs.Found.{can_find, up_after}
use Rattle.octo_session.specs.Turn.{IsTurn, IsTurnByNote, IsSpent, fact_of, note_lines, texts_in}
use Rattle.octo_session.specs.declared.found.Turned.{Turned}
use Rattle.octo_session.proofs.Noting.{noted_fact, noted_lines}
use Rattle.octo_session_line_proof.specs.Issuing.{issued_in}
use Rattle.octo_session_line_proof.specs.Linked.{IsUnopened, IsOpened, IsLinked, LinkedAs, OpenedAs, IsOpening}
use Rattle.octo_session_line_proof.specs.Tied.{TiedAs, WasUnopened, FormerTiedAs}
use Rattle.octo_session.specs.Tied.{IsTied}
use Rattle.octo_session.specs.Causes.{IsEndCaused, EndCausedAs}
use Rattle.octo_session_line_proof.proofs.Promised.{turn_former, turn_caused}
use Rattle.octo_session_line_proof.proofs.Tying.{opened_tied}
use Rattle.send_window.specs.declared.session_end.SessionEnd.{SessionEnd}
use Rattle.printer_model.specs.Executed.{opens}
use Rattle.octo_session_line_proof.proofs.Quiet.{StaysUp}
use Rattle.octo_session_line_proof.proofs.Turned.{IsTurned}
use Rattle.octo_session_line_proof.proofs.Turning.{turn_links, turn_keeps, opening}

-- what else a turn promises that this needs
pub record IsKept (moment : ℕ) (old new : SessionData) (turned : Turned) : Type 0 where
  pub before : IsSession old
  pub finds : can_find (doing old) (fact_of turned.note) ≡ true
  pub up : new.up ≡ up_after (fact_of turned.note) old.up
  pub sent : fact_of turned.note ≡ fact.Ready → next_of new.sender ≡ None
  pub spent : new.up ≡ true → fact_of turned.note ≡ fact.Quiet → IsSpent moment old.desk new.desk new.sender

pub kept_by_note : {moment : ℕ} {kind : LinkKind} {old new : SessionData} {turned : Turned} → IsTurnByNote moment kind old new turned → IsKept moment old new turned
kept_by_note n = record { before = n.before; finds = n.finds; up = n.up; sent = n.sent; spent = n.spent }

module _ (moment : ℕ) (kind : LinkKind) (old_past new_past : Option (List WorldEvent)) (old_calls new_calls : Option ℕ) (old new : SessionData) (turned : Turned) where
  unsent : (t : IsTurn moment kind old_past new_past old_calls new_calls old new turned) → fact_of turned.note ≡ t.found →
      IsKept moment old new turned → (f : LinkFact) → t.found ≡ f → new.up ≡ true → StaysUp f → next_of new.sender ≡ None
  unsent t is k fact.Quiet found up stays = (k.spent up (is ∙ found)).sent
  unsent t is k fact.Ready found up stays = k.sent (is ∙ found)
  unsent t is k fact.Opened found up stays = absurd stays
  unsent t is k fact.Closed found up stays = absurd stays
  unsent t is k fact.NoPort found up stays = absurd stays
  unsent t is k fact.Failed found up stays = absurd stays
  unsent t is k (fact.Ended end) found up stays = absurd stays

  -- the turn by its steps, over a recorded history
  pub turned_by : (t : IsTurn moment kind old_past new_past old_calls new_calls old new turned) → IsKept moment old new turned →
      (now : List WorldEvent) → new_past ≡ Some now →
      (past : List WorldEvent) × (added : List WorldEvent) × (old_past ≡ Some past) × (now ≡ past ++ added) × IsTurned moment kind old new t.got t.found (texts_in t.lines)
      (world_in kind past) added
  turned_by t k now is =
      let takes = t.steps.takes in
      let grew = takes.past.grew now is in
      let found : fact_of turned.note ≡ t.found = noted_fact turned.note moment old.sender.acked new.sender.acked t.lines t.got t.found t.none t.some in
      let F : LinkFact → Type 0 = λ f. can_find (doing old) f ≡ true in (
        grew.0,
        grew.1,
        grew.2,
        grew.3,
        record {
          count = t.steps.count;
          joined = k.before;
          can = subst F found k.finds;
          asked = t.asked;
          ended = t.ended;
          broken = t.broken;
          none_issued = λ none. ap texts_in (t.none_issued none);
          up = k.up ∙ ap (λ (f : LinkFact). up_after f old.up) found;
          unsent = λ up stays. unsent t found k t.found refl up stays;
          sender = takes.sender;
          allowed = takes.allowed;
          steps = grew.4;
        },
      )

  pub turn_linked : IsTurn moment kind old_past new_past old_calls new_calls old new turned → IsKept moment old new turned →
      (issued : List (List ℕ)) → LinkedAs kind old_past issued old →
      LinkedAs kind new_past (issued_in (fact_of turned.note) (texts_in (note_lines turned.note)) issued) new
  turn_linked t k issued linked now is =
      let by = turned_by t k now is in
      let L : List WorldEvent → Type 0 = λ es. IsLinked kind (issued_in t.found (texts_in t.lines) issued) new es in
      let F : LinkFact → Type 0 = λ f. IsLinked kind (issued_in f (texts_in t.lines) issued) new now in
      let X : List Line → Type 0 = λ l. IsLinked kind (issued_in (fact_of turned.note) (texts_in l) issued) new now in
      let found : fact_of turned.note ≡ t.found = noted_fact turned.note moment old.sender.acked new.sender.acked t.lines t.got t.found t.none t.some in
      let lines : note_lines turned.note ≡ t.lines = noted_lines turned.note moment old.sender.acked new.sender.acked t.lines t.got t.found t.none t.some in
      subst X (sym lines) (subst F (sym found) (subst L (sym by.3) (turn_links moment kind old new t.got t.found (texts_in t.lines) issued by.0 by.1 by.4 (linked by.0 by.2))))

  -- a link was made before, or is made
  pub turn_opened : IsTurn moment kind old_past new_past old_calls new_calls old new turned → IsKept moment old new turned →
      (issued : List (List ℕ)) → IsOpening kind old_past issued old (fact_of turned.note) →
      OpenedAs kind new_past (issued_in (fact_of turned.note) (texts_in (note_lines turned.note)) issued) new
  turn_opened t k issued opening_so now is =
      let by = turned_by t k now is in
      let L : List WorldEvent → Type 0 = λ es. IsOpened kind (issued_in t.found (texts_in t.lines) issued) new es in
      let F : LinkFact → Type 0 = λ f. IsOpened kind (issued_in f (texts_in t.lines) issued) new now in
      let X : List Line → Type 0 = λ l. IsOpened kind (issued_in (fact_of turned.note) (texts_in l) issued) new now in
      let found : fact_of turned.note ≡ t.found = noted_fact turned.note moment old.sender.acked new.sender.acked t.lines t.got t.found t.none t.some in
      let lines : note_lines turned.note ≡ t.lines = noted_lines turned.note moment old.sender.acked new.sender.acked t.lines t.got t.found t.none t.some in
      subst X (sym lines) (subst F (sym found) (subst L (sym by.3) (opened_or by.0 by.1 by.2 t found by.4 opening_so)))
    where
      opened_or : (past added : List WorldEvent) → old_past ≡ Some past → (t : IsTurn moment kind old_past new_past old_calls new_calls old new turned) →
          fact_of turned.note ≡ t.found → IsTurned moment kind old new t.got t.found (texts_in t.lines) (world_in kind past) added →
          IsOpening kind old_past issued old (fact_of turned.note) → IsOpened kind (issued_in t.found (texts_in t.lines) issued) new (past ++ added)
      opened_or past added e t found so (inl was) = turn_keeps moment kind old new t.got t.found (texts_in t.lines) issued past added so (was past e)
      opened_or past added e t found so (inr makes) = opening moment kind old new t.got t.found (texts_in t.lines) issued past added (sym found ∙ makes.0) so (makes.1 past e)

  -- then the last session is tied
  pub turn_tied : IsTurn moment kind old_past new_past old_calls new_calls old new turned → IsKept moment old new turned →
      (issued : List (List ℕ)) → IsOpening kind old_past issued old (fact_of turned.note) →
      TiedAs kind new_past (issued_in (fact_of turned.note) (texts_in (note_lines turned.note)) issued) new
  turn_tied t k issued opening_so now is =
      opened_tied kind (issued_in (fact_of turned.note) (texts_in (note_lines turned.note)) issued) new now (turn_opened t k issued opening_so now is)

  pub turn_former_tied : IsTurn moment kind old_past new_past old_calls new_calls old new turned → IsKept moment old new turned →
      fact_of turned.note ≡ fact.Opened → (issued : List (List ℕ)) → LinkedAs kind old_past issued old →
      FormerTiedAs kind old_past new_past issued old
  turn_former_tied t k opens_now issued linked now is =
      let by = turned_by t k now is in
      let found : fact_of turned.note ≡ t.found = noted_fact turned.note moment old.sender.acked new.sender.acked t.lines t.got t.found t.none t.some in
      let P : List WorldEvent → Type 0 = λ es. WasUnopened kind old_past issued old ⊎ IsTied old.sender.numbered kind issued old.sender.acked es (opens es - 1) in
      subst P (sym by.3) (former_or by.0 by.1 by.2 (turn_former moment kind old new t.got t.found (texts_in t.lines) issued by.0 by.1 (sym found ∙ opens_now) by.4 (linked by.0 by.2)))
    where
      former_or : (past added : List WorldEvent) → old_past ≡ Some past →
          IsUnopened kind issued old past ⊎ IsTied old.sender.numbered kind issued old.sender.acked (past ++ added) (opens (past ++ added) - 1) →
          WasUnopened kind old_past issued old ⊎ IsTied old.sender.numbered kind issued old.sender.acked (past ++ added) (opens (past ++ added) - 1)
      former_or past added e (inl u) = inl (record { past = past; is = e; unopened = u })
      former_or past added e (inr tied) = inr tied

  pub turn_end_caused : IsTurn moment kind old_past new_past old_calls new_calls old new turned → IsKept moment old new turned →
      (end : SessionEnd) → fact_of turned.note ≡ fact.Ended end → (issued : List (List ℕ)) → LinkedAs kind old_past issued old →
      EndCausedAs old.sender.numbered kind new_past end
  turn_end_caused t k end ends issued linked now is =
      let by = turned_by t k now is in
      let found : fact_of turned.note ≡ t.found = noted_fact turned.note moment old.sender.acked new.sender.acked t.lines t.got t.found t.none t.some in
      let P : List WorldEvent → Type 0 = λ es. IsEndCaused old.sender.numbered kind end es in
      subst P (sym by.3) (turn_caused moment kind old new t.got t.found (texts_in t.lines) issued by.0 by.1 end (sym found ∙ ends) by.4 (linked by.0 by.2))
