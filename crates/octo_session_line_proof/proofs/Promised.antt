-- What a turn promises of each session of a recorded history, and of its end.
use Rattle.std.proofs.Common.{◌≡◌, ◌⊎◌, inl, inr, ℕ, suc, ◌-◌, Bool, true, false, List, [], ◌∷◌, ◌++◌, refl, sym, ◌∙◌, ap, subst, append_assoc, append-nil, arith}
use Rattle.std.specs.Prelude.{Option, Some}
use Rattle.std.specs.List.{list_all, list_any}
use Rattle.std.proofs.lemmas.Bool.{or_left, or_right}
use Rattle.std.proofs.lemmas.List.Folds.{list_any-append}
use Rattle.job_desk.specs.declared.link_fact.LinkFact.{LinkFact}
use Rattle.job_desk.specs.declared.link_fact.LinkFact.TheVariants as fact
use Rattle.send_window.specs.declared.session_end.SessionEnd.{SessionEnd}
use Rattle.printer_model.specs.World.{WorldData, is_free, is_restart, apply, world_from}
use Rattle.printer_model.specs.Executed.{opens}
use Rattle.printer_model.specs.declared.event.WorldEvent.{WorldEvent}
use Rattle.printer_model.specs.declared.event.WorldEvent.TheVariants.{Opened}
use Rattle.printer_model.proofs.Laws.{world_from-append}
use Rattle.printer_model.proofs.Sessions.{opens-append}
use Rattle.printer_model.proofs.Starts.{runs-free}
use Rattle.printer_link.specs.Link.{LinkKind, IsOpenAs, world_in}
use Rattle.printer_model.specs.Exchanged.{sends_since}
use Rattle.send_window.specs.Counting.{IsQuiet, Traffic}
use Rattle.send_window.specs.Data.{SenderData, IsSound, NoneEarly}
use Rattle.printer_link.specs.Suits.{Suits, SuitsAs}
use Rattle.octo_session.specs.Data.{SessionData, doing}
use Rattle.octo_session.specs.Found.{Got, unasked, lost, nothing, whole, end_by, can_find}
use Rattle.octo_session.specs.declared.found.Doing.{Doing}
use Rattle.octo_session.specs.declared.found.Doing.TheVariants.{Dialling, HangingUp, UsingLink, Resting}
use Rattle.octo_session.specs.Steps.{opens as makes_link, after_steps, AreAdded, dial_steps, steps_over_link, turn_steps}
use Rattle.octo_session_line_proof.specs.Pieces.{Each}
use Rattle.octo_session_line_proof.specs.Wires.{Start}
use Rattle.octo_session_line_proof.specs.Stopped.{Fits}
use Rattle.octo_session_line_proof.specs.Traces.{HasGreeted, IsTallied, IsStartKnown, IsTraced}
use Rattle.octo_session_line_proof.proofs.Fitting.{widen_fits}
use Rattle.octo_session_line_proof.proofs.Tracing.{leads_free, fits_append}
use Rattle.octo_session_line_proof.proofs.Traffic.{traffic_from-append}
use Rattle.octo_session.specs.Sends.{traffic_from}
use Rattle.octo_session_line_proof.specs.Linked.{start_of, IsUnopened, IsOpened, IsLinked, LinkedAs, unopened, opened}
use Rattle.octo_session.specs.Causes.{IsCaused, IsEndCaused}
use Rattle.octo_session.specs.Tied.{IsTied}
use Rattle.octo_session_line_proof.proofs.Former.{former_tied}
use Rattle.octo_session_line_proof.proofs.Turned.{IsTurned, opens_dialling, talks_up}
use Rattle.octo_session_line_proof.proofs.Turning.{going_on, turn_kind}
use Rattle.octo_session_line_proof.specs.Issuing.{issued_in}
use Rattle.octo_session_line_proof.proofs.Tying.{tied_at}

-- what the line and the printer do leaves a session traced
traced_free : (start : Start) (made : WorldData) (issued : List (List ℕ)) (s : SenderData) (rest events : List WorldEvent) →
    list_all is_free events ≡ true → (start.restarted ≡ true → list_any is_restart rest ≡ true) → IsTraced start made issued s rest →
    IsTraced (record start { restarted = list_any is_restart (rest ++ events) }) made issued s (rest ++ events)
traced_free start made issued s rest events free restarts t =
    let all : List WorldEvent = rest ++ events in
    let from : Start = record start { restarted = list_any is_restart all } in
    let old : list_any is_restart rest ≡ true → list_any is_restart all ≡ true =
    λ r. list_any-append is_restart rest events ∙ or_left (list_any is_restart rest) (list_any is_restart events) r in
    let new : list_any is_restart events ≡ true → list_any is_restart all ≡ true =
    λ r. list_any-append is_restart rest events ∙ or_right (list_any is_restart rest) (list_any is_restart events) r in
    let led = leads_free from issued s (world_from made rest) (traffic_from made rest) events free new
    (widen_fits start (list_any is_restart all) issued s (world_from made rest) (λ r. old (restarts r)) t.meets) t.tallied in
    let M : WorldData → Type 0 = λ w. Fits from issued s w in
    let R = λ (l : List Traffic). IsTallied l s in
    let E : WorldData → Type 0 = λ w. Each (IsStartKnown (rest ++ events)) w.down in
    record {
      same_session = omega (arith, opens-append rest events, t.same_session, led.same_session);
      meets = subst M (sym (world_from-append made rest events)) led.meets;
      tallied = subst R (sym (traffic_from-append made rest events)) led.tallied;
      sends = fits_append start.numbered issued issued [] made rest events led.extends t.sends led.sends;
      starts = subst E (sym (world_from-append made rest events)) (led.starts rest t.starts);
    }

-- the session before a later link, with what ran in the dial
former_by : (kind : LinkKind) (issued : List (List ℕ)) (x : SessionData) (past added runs : List WorldEvent) (last : ℕ) →
    list_all is_free runs ≡ true → added ≡ runs ++ Opened last ∷ [] → IsOpened kind issued x past →
    IsTied x.sender.numbered kind issued x.sender.acked (past ++ added) (opens (past ++ added) - 1)
former_by kind issued x past added runs last free is o =
    let rest : List WorldEvent = o.rest ++ runs in
    let longer : List WorldEvent = past ++ runs in
    let here : longer ≡ o.front ++ Opened o.last ∷ rest = ap (λ (es : List WorldEvent). es ++ runs) o.is ∙ append_assoc o.front (Opened o.last ∷ o.rest) runs in
    let traced = traced_free (start_of kind o.front x.sender.numbered o.rest) (apply (world_in kind o.front) (Opened o.last)) issued x.sender o.rest runs free (λ is. is) o.traced in
    let tied : IsTied x.sender.numbered kind issued x.sender.acked (o.front ++ Opened o.last ∷ rest) (suc (opens o.front)) = tied_at kind issued x.sender o.front o.last rest traced in
    let number : suc (opens o.front) ≡ opens longer = omega (arith, ap opens here, opens-append o.front (Opened o.last ∷ rest), traced.same_session) in
    let P : List WorldEvent → Type 0 = λ es. IsTied x.sender.numbered kind issued x.sender.acked es (suc (opens o.front)) in
    let N : ℕ → Type 0 = λ n. IsTied x.sender.numbered kind issued x.sender.acked longer n in
    let there : IsTied x.sender.numbered kind issued x.sender.acked longer (opens longer) = subst N number (subst P (sym here) tied) in
    let whole : past ++ added ≡ longer ++ Opened last ∷ [] = ap (λ (es : List WorldEvent). past ++ es) is ∙ sym (append_assoc past runs (Opened last ∷ [])) in
    let count : opens longer ≡ opens (past ++ added) - 1 = omega (arith, ap opens whole, opens-append longer (Opened last ∷ [])) in
    let W : List WorldEvent → Type 0 = λ es. IsTied x.sender.numbered kind issued x.sender.acked es (opens longer) in
    let C : ℕ → Type 0 = λ n. IsTied x.sender.numbered kind issued x.sender.acked (past ++ added) n in
    subst C count (subst W (sym whole) (former_tied x.sender.numbered kind issued x.sender.acked longer [] last (omega (arith, number)) there))

-- only a turn over an open link ends the session
pub ends_talking : (end : SessionEnd) (d : Doing) → can_find d (fact.Ended end) ≡ true → d ≡ UsingLink
ends_talking end Dialling can = absurd (cc)
ends_talking end HangingUp can = absurd (cc)
ends_talking end UsingLink can = refl
ends_talking end Resting can = absurd (cc)

module _ (moment : ℕ) (kind : LinkKind) (old new : SessionData) (got : Got) (found : LinkFact) (texts issued : List (List ℕ)) (past added : List WorldEvent) where
  pub turn_former : found ≡ fact.Opened → IsTurned moment kind old new got found texts (world_in kind past) added →
      IsLinked kind issued old past →
      IsUnopened kind issued old past ⊎ IsTied old.sender.numbered kind issued old.sender.acked (past ++ added) (opens (past ++ added) - 1)
  turn_former is t (unopened u) = inl u
  turn_former is t (opened o) =
      let F : LinkFact → Type 0 = λ f. can_find (doing old) f ≡ true in
      let dials : doing old ≡ Dialling = opens_dialling (doing old) (subst F is t.can) in
      let S : Doing → Type 0 = λ d. AreAdded moment kind.prompt (turn_steps d old.up got found texts t.count) old.sender (world_in kind past) added in
      let T : LinkFact → Type 0 = λ f. AreAdded moment kind.prompt (dial_steps f) old.sender (world_in kind past) added in
      let step : AreAdded moment kind.prompt (makes_link ∷ []) old.sender (world_in kind past) added = subst T is (subst S dials t.steps) in
      let dial = step.3.0.0 in
      let all : added ≡ dial.runs ++ Opened dial.last ∷ [] = step.2 ∙ ap (λ (es : List WorldEvent). step.0 ++ es) step.4 ∙ append-nil step.0 ∙ dial.is in
      inr (former_by kind issued old past added dial.runs dial.last (runs-free dial.runs dial.only_runs) all o)

  -- the sender has ended so
  ended_by_talk : (end : SessionEnd) (g : Got) (count : ℕ) → end_by g moment old.sender ≡ Some end →
      (after_steps moment (steps_over_link g (fact.Ended end) texts count) old.sender).ended ≡ Some end
  ended_by_talk end unasked count is = absurd (cc)
  ended_by_talk end lost count is = absurd (cc)
  ended_by_talk end nothing count is = is
  ended_by_talk end (whole bytes) count is = is

  sender_ended : (end : SessionEnd) → found ≡ fact.Ended end → IsTurned moment kind old new got found texts (world_in kind past) added →
      new.sender.ended ≡ Some end
  sender_ended end is t =
      let F : LinkFact → Type 0 = λ f. can_find (doing old) f ≡ true in
      let talks : doing old ≡ UsingLink = ends_talking end (doing old) (subst F is t.can) in
      let sender : new.sender ≡ after_steps moment (steps_over_link got (fact.Ended end) texts t.count) old.sender =
      t.sender ∙ ap (λ (d : Doing). after_steps moment (turn_steps d old.up got found texts t.count) old.sender) talks ∙ ap (λ (f : LinkFact). after_steps moment (steps_over_link got f texts t.count) old.sender) is
      in
      ap (λ (s : SenderData). s.ended) sender ∙ ended_by_talk end got t.count ((t.ended end).0 is)

  -- an end has its cause
  pub turn_caused : (end : SessionEnd) → found ≡ fact.Ended end → IsTurned moment kind old new got found texts (world_in kind past) added →
      IsLinked kind issued old past → IsEndCaused old.sender.numbered kind end (past ++ added)
  turn_caused end is t (unopened u) =
      let F : LinkFact → Type 0 = λ f. can_find (doing old) f ≡ true in
      let up : old.up ≡ true = talks_up old (ends_talking end (doing old) (subst F is t.can)) in
      let down : old.up ≡ false = u.down in
      absurd (cc)
  turn_caused end is t (opened o) =
      let other : found ≡ fact.Opened → ⊥ = λ (e : found ≡ fact.Opened). absurd (cc) in
      let after : IsOpened kind (issued_in found texts issued) new (past ++ added) = going_on moment kind old new got found texts issued past added other t o in
      let C : Option SessionEnd → Type 0 = λ e. IsCaused new.sender.numbered e (apply (world_in kind after.front) (Opened after.last)) after.rest in
      let K : Bool → Type 0 = λ b. IsCaused b (Some end) (apply (world_in kind after.front) (Opened after.last)) after.rest in
      record {
        front = after.front;
        last = after.last;
        rest = after.rest;
        is = after.is;
        same_session = after.traced.same_session;
        caused = subst K (turn_kind moment kind old new got found texts (world_in kind past) added t) (subst C (sender_ended end is t) after.caused);
      }

-- a new session is linked over a link that is closed
pub new_linked : (kind : LinkKind) (recorded : Option (List WorldEvent)) (x : SessionData) → x.up ≡ false → IsSound x.sender →
    SuitsAs x.sender.numbered recorded kind.oks → IsOpenAs kind recorded false → LinkedAs kind recorded [] x
new_linked kind recorded x down sound suits closed past is =
    let O : Option (List WorldEvent) → Type 0 = λ r. IsOpenAs kind r false in
    unopened (record { none_issued = refl; down = down; closed = subst O is closed; sound = sound; suits = suits past is })

-- another desk leaves the session's link as it is
pub same_opened : (kind : LinkKind) (issued : List (List ℕ)) (x y : SessionData) (past : List WorldEvent) → y.sender ≡ x.sender → y.up ≡ x.up →
    IsOpened kind issued x past → IsOpened kind issued y past
same_opened kind issued x y past sender up o =
    let T : SenderData → Type 0 = λ s. IsTraced (start_of kind o.front s.numbered o.rest) (apply (world_in kind o.front) (Opened o.last)) issued s o.rest in
    let Q : SenderData → Type 0 = λ s. IsQuiet (sends_since 0 o.rest) s in
    let K : SenderData → Type 0 = λ s. Suits s.numbered kind.oks in
    let C : SenderData → Type 0 = λ s. IsCaused s.numbered s.ended (apply (world_in kind o.front) (Opened o.last)) o.rest in
    let G : SenderData → Type 0 = λ s. NoneEarly s → HasGreeted s.numbered (traffic_from (apply (world_in kind o.front) (Opened o.last)) o.rest) s in
    record {
      front = o.front;
      last = o.last;
      rest = o.rest;
      is = o.is;
      can = o.can;
      traced = subst T (sym sender) o.traced;
      open_as = o.open_as ∙ sym up;
      quiet = λ is_up. subst Q (sym sender) (o.quiet (sym up ∙ is_up));
      greets = λ is_up. subst G (sym sender) (o.greets (sym up ∙ is_up));
      caused = subst C (sym sender) o.caused;
      suits = subst K (sym sender) o.suits;
    }

same_linked : (kind : LinkKind) (issued : List (List ℕ)) (x y : SessionData) (past : List WorldEvent) → y.sender ≡ x.sender → y.up ≡ x.up →
    IsLinked kind issued x past → IsLinked kind issued y past
same_linked kind issued x y past sender up (unopened u) =
    let S : SenderData → Type 0 = λ s. IsSound s in
    let K : SenderData → Type 0 = λ s. Suits s.numbered kind.oks in
    unopened (record { none_issued = u.none_issued; down = up ∙ u.down; closed = u.closed; sound = subst S (sym sender) u.sound; suits = subst K (sym sender) u.suits })
same_linked kind issued x y past sender up (opened o) = opened (same_opened kind issued x y past sender up o)

-- a call of the desk leaves a session linked
pub desk_linked : (kind : LinkKind) (recorded : Option (List WorldEvent)) (issued : List (List ℕ)) (x y : SessionData) →
    y.sender ≡ x.sender → y.up ≡ x.up → LinkedAs kind recorded issued x → LinkedAs kind recorded issued y
desk_linked kind recorded issued x y sender up linked past is = same_linked kind issued x y past sender up (linked past is)
