-- What a turn makes of a print.
use Rattle.std.proofs.Common.{◌≡◌, ℕ, suc, Bool, true, false, List, [], ◌∷◌, ◌++◌, refl, sym, ◌∙◌, ap, subst, append_assoc, append-nil, arith}
use Rattle.std.specs.Prelude.{Option, None, not, ◌&&◌}
use Rattle.job_desk.specs.declared.link_fact.LinkFact.{LinkFact}
use Rattle.job_desk.specs.declared.link_fact.LinkFact.TheVariants as fact
use Rattle.printer_model.specs.World.{WorldData, is_restart, apply, world_from}
use Rattle.printer_model.specs.Executed.{opens}
use Rattle.printer_model.specs.declared.event.WorldEvent.{WorldEvent}
use Rattle.printer_model.specs.declared.event.WorldEvent.TheVariants.{Opened}
use Rattle.printer_model.proofs.Laws.{world_from-append, world_from-linked}
use Rattle.printer_model.proofs.Sessions.{opens-append}
use Rattle.printer_model.proofs.Starts.{opens-free, runs-free}
use Rattle.printer_link.specs.Link.{LinkKind, Recorded, IsDial, IsHangUp, world_in}
use Rattle.send_window.specs.Data.{IsSound, NoneEarly}
use Rattle.printer_link.specs.Suits.{Suits}
use Rattle.octo_session.specs.Data.{SessionData, doing}
use Rattle.octo_session.specs.Found.{Got, can_find}
use Rattle.octo_session.specs.Steps.{opens as makes_link, finds_no_port, hangs_up, after_steps, AreAdded, dial_steps, turn_steps}
use Rattle.octo_session.specs.Turn.{IsTurn, texts_in}
use Rattle.octo_session.specs.declared.found.Doing.{Doing}
use Rattle.octo_session.specs.declared.found.Doing.TheVariants.{Dialling, HangingUp, UsingLink, Resting}
use Rattle.octo_session.specs.declared.found.Turned.{Turned}
use Rattle.octo_session_line_proof.specs.Pieces.{Each}
use Rattle.std.specs.List.{list_any}
use Rattle.std.proofs.lemmas.Bool.{or_left, or_right}
use Rattle.std.proofs.lemmas.List.Folds.{list_any-append}
use Rattle.octo_session_line_proof.proofs.Fitting.{widen_fits}
use Rattle.octo_session_line_proof.specs.Wires.{Start}
use Rattle.octo_session_line_proof.specs.Stopped.{Fits}
use Rattle.octo_session_line_proof.specs.Traces.{HasGreeted, IsTallied, IsStartKnown, IsTraced}
use Rattle.octo_session.specs.Sends.{traffic_from}
use Rattle.octo_session_line_proof.proofs.Tracing.{fits_append}
use Rattle.octo_session_line_proof.proofs.Traffic.{traffic_from-append}
use Rattle.octo_session_line_proof.specs.History.{IsMade}
use Rattle.octo_session.specs.Tied.{HasIssued, IsTied}
use Rattle.octo_session_line_proof.specs.Issuing.{issued_in}
use Rattle.octo_session_line_proof.specs.Linked.{start_of, IsOpened, IsLinked, unopened}
use Rattle.octo_session_line_proof.proofs.Speech.{steps_lead, turn_leads}
use Rattle.octo_session_line_proof.proofs.Recorded.{IsKept, turned_by}
use Rattle.octo_session_line_proof.proofs.Turned.{IsTurned, talks_up, talks_fresh, dials_down, opens_dialling, world_since}
use Rattle.octo_session_line_proof.proofs.Turning.{opening, going_on}
use Rattle.octo_session_line_proof.proofs.Tying.{tied_at, opened_tied}
use Rattle.send_window.specs.Counting.{Traffic}

-- only a turn that dials finds no port
pub ports_dialling : (d : Doing) → can_find d fact.NoPort ≡ true → d ≡ Dialling
ports_dialling Dialling can = refl
ports_dialling HangingUp can = absurd (cc)
ports_dialling UsingLink can = absurd (cc)
ports_dialling Resting can = absurd (cc)

-- what a turn adds to a history, by its steps
pub turned_all : (moment : ℕ) (kind : LinkKind) (old_past new_past : Option (List WorldEvent)) (old_calls new_calls : Option ℕ)
    (old new : SessionData) (turned : Turned) (t : IsTurn moment kind old_past new_past old_calls new_calls old new turned) →
    IsKept moment old new turned →
    Recorded old_past new_past (λ past added. IsTurned moment kind old new t.got t.found (texts_in t.lines) (world_in kind past) added)
turned_all moment kind old_past new_past old_calls new_calls old new turned t k = record {
  stays = t.steps.takes.past.stays;
  grew = turned_by moment kind old_past new_past old_calls new_calls old new turned t k;
}

module _ (moment : ℕ) (kind : LinkKind) (old new : SessionData) (got : Got) (found : LinkFact) (texts : List (List ℕ)) where
  -- a turn that makes no link opens no session
  pub none_opened : (issued : List (List ℕ)) (past added : List WorldEvent) → (found ≡ fact.Opened → ⊥) →
      IsTurned moment kind old new got found texts (world_in kind past) added → IsOpened kind issued old past → opens added ≡ 0
  none_opened issued past added other t o =
      let base : WorldData = apply (world_in kind o.front) (Opened o.last) in
      let here : world_in kind past ≡ world_from base o.rest = world_since kind past o.front o.last o.rest o.is in
      let W : WorldData → Type 0 = λ w. AreAdded moment kind.prompt (turn_steps (doing old) old.up got found texts t.count) old.sender w added in
      let running : doing old ≡ UsingLink → old.sender.ended ≡ None = λ talks. t.joined.running (talks_up old talks) in
      let start : Start = record { log = (world_in kind o.front).log; numbered = old.sender.numbered; restarted = true } in
      let fresh : doing old ≡ UsingLink → NoneEarly old.sender = talks_fresh old t.joined in
      let greets : doing old ≡ UsingLink → HasGreeted old.sender.numbered (traffic_from base o.rest) old.sender = λ talks. o.greets (talks_up old talks) (fresh talks) in
      (turn_leads start moment kind.prompt issued old.sender (world_from base o.rest) (traffic_from base o.rest) added (doing old) old.up got found texts t.count other running fresh greets t.allowed (subst W here t.steps) (λ _. refl)
      (widen_fits (start_of kind o.front old.sender.numbered o.rest) true issued old.sender (world_from base o.rest) (λ _. refl) o.traced.meets) o.traced.tallied).same_session

  -- a turn over the link
  pub made_on : (issued : List (List ℕ)) (past added more : List WorldEvent) → (found ≡ fact.Opened → ⊥) →
      IsMade kind issued old past added → IsTurned moment kind old new got found texts (world_in kind (past ++ added)) more →
      IsMade kind (issued_in found texts issued) new past (added ++ more)
  made_on issued past added more other made t =
      let O : List WorldEvent → Type 0 = λ es. IsOpened kind (issued_in found texts issued) new es in
      record {
        once = omega (arith, opens-append added more, made.once, none_opened issued (past ++ added) more other t made.opened);
        opened = subst O (append_assoc past added more) (going_on moment kind old new got found texts issued (past ++ added) more other t made.opened);
      }

  -- the step of a turn that makes the link
  pub dial_of : (past added : List WorldEvent) → found ≡ fact.Opened → IsTurned moment kind old new got found texts (world_in kind past) added →
      IsDial (world_in kind past) added
  dial_of past added is t =
      let F : LinkFact → Type 0 = λ f. can_find (doing old) f ≡ true in
      let dials : doing old ≡ Dialling = opens_dialling (doing old) (subst F is t.can) in
      let S : Doing → Type 0 = λ d. AreAdded moment kind.prompt (turn_steps d old.up got found texts t.count) old.sender (world_in kind past) added in
      let T : LinkFact → Type 0 = λ f. AreAdded moment kind.prompt (dial_steps f) old.sender (world_in kind past) added in
      let step : AreAdded moment kind.prompt (makes_link ∷ []) old.sender (world_in kind past) added = subst T is (subst S dials t.steps) in
      let same : step.0 ≡ added = sym (append-nil step.0) ∙ ap (λ (es : List WorldEvent). step.0 ++ es) (sym step.4) ∙ sym step.2 in
      let D : List WorldEvent → Type 0 = λ es. IsDial (world_in kind past) es in
      subst D same step.3.0.0

  -- a link is made only if none was
  shut_before : (w : WorldData) (added : List WorldEvent) → IsDial w added → w.linked ≡ false
  shut_before w added d =
      let shut : (world_from w d.runs).linked ≡ false = not_linked (world_from w d.runs).linked _ d.opens in
      sym (world_from-linked w d.runs (runs-free d.runs d.only_runs)) ∙ shut
    where
      not_linked : (linked other : Bool) → (not linked && other) ≡ true → linked ≡ false
      not_linked false other is = refl
      not_linked true other is = absurd (cc)

  -- the turn that makes the link
  pub made_now : (past added : List WorldEvent) → found ≡ fact.Opened → IsSound old.sender → Suits old.sender.numbered kind.oks → doing old ≡ Dialling →
      IsTurned moment kind old new got found texts (world_in kind past) added → IsMade kind [] new past added
  made_now past added is sound suits dials t =
      let dial = dial_of past added is t in
      let linked : IsLinked kind [] old past =
      unopened (record { none_issued = refl; down = dials_down old dials; closed = shut_before (world_in kind past) added dial; sound = sound; suits = suits })
      in
      let I : LinkFact → Type 0 = λ f. IsOpened kind (issued_in f texts []) new (past ++ added) in
      record {
        once = ap opens dial.is ∙ omega (arith, opens-append dial.runs (Opened dial.last ∷ []), opens-free dial.runs (runs-free dial.runs dial.only_runs));
        opened = subst I is (opening moment kind old new got found texts [] past added is t linked);
      }

  -- a turn that dials and makes no link
  pub none_made : (past added : List WorldEvent) → (found ≡ fact.Opened → ⊥) → doing old ≡ Dialling →
      IsTurned moment kind old new got found texts (world_in kind past) added → (opens added ≡ 0) × (new.sender ≡ old.sender)
  none_made past added other dials t =
      let S : Doing → Type 0 = λ d. AreAdded moment kind.prompt (turn_steps d old.up got found texts t.count) old.sender (world_in kind past) added in
      let A : Doing → Type 0 = λ d. new.sender ≡ after_steps moment (turn_steps d old.up got found texts t.count) old.sender in
      let C : Doing → Type 0 = λ d. can_find d found ≡ true in
      by_fact found other (subst C dials t.can) (subst S dials t.steps) (subst A dials t.sender)
    where
      by_fact : (f : LinkFact) → (f ≡ fact.Opened → ⊥) → can_find Dialling f ≡ true →
          AreAdded moment kind.prompt (dial_steps f) old.sender (world_in kind past) added →
          new.sender ≡ after_steps moment (dial_steps f) old.sender → (opens added ≡ 0) × (new.sender ≡ old.sender)
      by_fact fact.NoPort other can steps sender = (ap opens (steps.2 ∙ ap (λ (es : List WorldEvent). es ++ steps.1) steps.3.0 ∙ steps.4), sender)
      by_fact fact.Failed other can steps sender =
          let all : added ≡ steps.0 = steps.2 ∙ ap (λ (es : List WorldEvent). steps.0 ++ es) steps.4 ∙ append-nil steps.0 in
          (ap opens all ∙ opens-free steps.0 (runs-free steps.0 steps.3.0), sender)
      by_fact fact.Opened other can steps sender = absurd (other refl)
      by_fact fact.Quiet other can steps sender = absurd (cc)
      by_fact fact.Ready other can steps sender = absurd (cc)
      by_fact fact.Closed other can steps sender = absurd (cc)
      by_fact (fact.Ended why) other can steps sender = absurd (cc)

  -- a turn that finds no port dials, and adds nothing
  pub none_added : (past added : List WorldEvent) → found ≡ fact.NoPort →
      IsTurned moment kind old new got found texts (world_in kind past) added → added ≡ []
  none_added past added is t =
      let F : LinkFact → Type 0 = λ f. can_find (doing old) f ≡ true in
      let dials : doing old ≡ Dialling = ports_dialling (doing old) (subst F is t.can) in
      let S : Doing → Type 0 = λ d. AreAdded moment kind.prompt (turn_steps d old.up got found texts t.count) old.sender (world_in kind past) added in
      let T : LinkFact → Type 0 = λ f. AreAdded moment kind.prompt (dial_steps f) old.sender (world_in kind past) added in
      let steps : AreAdded moment kind.prompt (finds_no_port ∷ []) old.sender (world_in kind past) added = subst T is (subst S dials t.steps) in
      steps.2 ∙ ap (λ (es : List WorldEvent). es ++ steps.1) steps.3.0 ∙ steps.4

-- what was made is what a print leaves
pub made_printed : (kind : LinkKind) (issued : List (List ℕ)) (x : SessionData) (past added : List WorldEvent) →
    IsMade kind issued x past added → HasIssued x.sender.numbered kind issued x.sender.acked past added
made_printed kind issued x past added made =
    let number : opens (past ++ added) ≡ suc (opens past) = omega (arith, opens-append past added, made.once) in
    let N : ℕ → Type 0 = λ n. IsTied x.sender.numbered kind issued x.sender.acked (past ++ added) n in
    record { once = omega (arith, made.once); tied = subst N number (opened_tied kind issued x (past ++ added) made.opened) }

-- the link of a print is hung up
pub hung_printed : (kind : LinkKind) (issued : List (List ℕ)) (x : SessionData) (past added more : List WorldEvent) →
    IsMade kind issued x past added → IsHangUp true (world_in kind (past ++ added)) more →
    HasIssued x.sender.numbered kind issued x.sender.acked past (added ++ more)
hung_printed kind issued x past added more made hung =
    let o = made.opened in
    let start : Start = start_of kind o.front x.sender.numbered (o.rest ++ more) in
    let older : list_any is_restart o.rest ≡ true → list_any is_restart (o.rest ++ more) ≡ true =
    λ r. list_any-append is_restart o.rest more ∙ or_left (list_any is_restart o.rest) (list_any is_restart more) r in
    let newer : list_any is_restart more ≡ true → list_any is_restart (o.rest ++ more) ≡ true =
    λ r. list_any-append is_restart o.rest more ∙ or_right (list_any is_restart o.rest) (list_any is_restart more) r in
    let base : WorldData = apply (world_in kind o.front) (Opened o.last) in
    let w : WorldData = world_from base o.rest in
    let traffic : List Traffic = traffic_from base o.rest in
    let here : world_in kind (past ++ added) ≡ w = world_since kind (past ++ added) o.front o.last o.rest o.is in
    let H : WorldData → Type 0 = λ v. IsHangUp true v more in
    let steps : AreAdded 0 false (hangs_up true ∷ []) x.sender w more = (more, [], sym (append-nil more), (subst H here hung, λ _. tt), refl) in
    let led = steps_lead start 0 false (hangs_up true ∷ []) issued x.sender w traffic more (tt, tt) (tt, tt) steps newer
    (widen_fits (start_of kind o.front x.sender.numbered o.rest) (list_any is_restart (o.rest ++ more)) issued x.sender w older o.traced.meets) o.traced.tallied in
    let rest : List WorldEvent = o.rest ++ more in
    let M : WorldData → Type 0 = λ v. Fits start issued x.sender v in
    let E : WorldData → Type 0 = λ v. Each (IsStartKnown rest) v.down in
    let R : List Traffic → Type 0 = λ l. IsTallied l x.sender in
    let traced : IsTraced start base issued x.sender rest = record {
      same_session = omega (arith, opens-append o.rest more, o.traced.same_session, led.same_session);
      meets = subst M (sym (world_from-append base o.rest more)) led.meets;
      tallied = subst R (sym (traffic_from-append base o.rest more)) led.tallied;
      sends = fits_append start.numbered issued issued [] base o.rest more led.extends o.traced.sends led.sends;
      starts = subst E (sym (world_from-append base o.rest more)) (led.starts o.rest o.traced.starts);
    }
    in
    let tied : IsTied x.sender.numbered kind issued x.sender.acked (o.front ++ Opened o.last ∷ rest) (suc (opens o.front)) = tied_at kind issued x.sender o.front o.last rest traced in
    let all : o.front ++ Opened o.last ∷ rest ≡ past ++ (added ++ more) =
    sym (append_assoc o.front (Opened o.last ∷ o.rest) more) ∙ ap (λ (es : List WorldEvent). es ++ more) (sym o.is) ∙ append_assoc past added more
    in
    let number : opens o.front ≡ opens past =
    omega (arith, opens-append past added, made.once, ap opens o.is, opens-append o.front (Opened o.last ∷ o.rest), o.traced.same_session)
    in
    let P : List WorldEvent → Type 0 = λ es. IsTied x.sender.numbered kind issued x.sender.acked es (suc (opens o.front)) in
    let N : ℕ → Type 0 = λ n. IsTied x.sender.numbered kind issued x.sender.acked (past ++ (added ++ more)) (suc n) in
    record {
      once = omega (arith, opens-append added more, made.once, led.same_session);
      tied = subst N number (subst P all tied);
    }
