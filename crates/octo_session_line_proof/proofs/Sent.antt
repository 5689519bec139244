-- A turn in which no call of the link fails leaves all issued lines sent that aren't acknowledged.
use Rattle.std.proofs.Common.{◌≡◌, ℕ, true, List, [], ◌++◌, refl, sym, ◌∙◌, ap, subst, append-nil, arith}
use Rattle.std.specs.Prelude.{Option, None, Some}
use Rattle.job_desk.specs.declared.link_fact.LinkFact.{LinkFact}
use Rattle.job_desk.specs.declared.link_fact.LinkFact.TheVariants as fact
use Rattle.printer_model.specs.World.{WorldData, apply, world_from}
use Rattle.printer_model.specs.declared.event.WorldEvent.{WorldEvent}
use Rattle.printer_model.specs.declared.event.WorldEvent.TheVariants.{Opened}
use Rattle.printer_link.specs.Link.{LinkKind, world_in}
use Rattle.send_window.specs.declared.session_end.SessionEnd.{SessionEnd}
use Rattle.send_window.specs.Data.{SenderData, IsSound}
use Rattle.send_window.specs.Sending.{next_of}
use Rattle.send_window.specs.Session.{HoldsIssued}
use Rattle.octo_session.specs.Data.{SessionData, doing}
use Rattle.octo_session.specs.Found.{Got, may_issue, end_by, up_after}
use Rattle.octo_session.specs.Steps.{Step, after_steps, AreAllowed, AreAdded, steps_over_link, turn_steps}
use Rattle.octo_session.specs.declared.found.Doing.{Doing}
use Rattle.octo_session.specs.declared.found.Doing.TheVariants.{Dialling, HangingUp, UsingLink, Resting}
use Rattle.octo_session_line_proof.specs.AllSent.{AreAllSent}
use Rattle.octo_session_line_proof.specs.History.{IsMade}
use Rattle.octo_session_line_proof.specs.Issuing.{issued_after, issued_in}
use Rattle.octo_session_line_proof.specs.Linked.{start_of}
use Rattle.octo_session_line_proof.specs.Wires.{Start}
use Rattle.octo_session_line_proof.proofs.Fitting.{fits_holds, fits_sound}
use Rattle.octo_session_line_proof.proofs.Quiet.{StaysUp}
use Rattle.octo_session_line_proof.proofs.Speech.{issued_in_other, issued_turn}
use Rattle.octo_session_line_proof.proofs.Turned.{IsTurned, talks_up, idle_steps}
use Rattle.octo_session_line_proof.proofs.AllSent.{all_sent_later, talk_sends}

-- a turn in which no call failed, and which made no link
pub turn_sends : (moment : ℕ) (kind : LinkKind) (old new : SessionData) (got : Got) (found : LinkFact) (texts issued : List (List ℕ)) (w : WorldData)
    (events added : List WorldEvent) → (found ≡ fact.Failed → ⊥) → (found ≡ fact.Opened → ⊥) → IsTurned moment kind old new got found texts w added →
    HoldsIssued issued old.sender → IsSound old.sender → AreAllSent issued old.sender.acked events →
    AreAllSent (issued_in found texts issued) new.sender.acked (events ++ added)
turn_sends moment kind old new got found texts issued w events added whole_turn other t holds sound all = by_doing (doing old) refl
  where
    no_end : (e : Option SessionEnd) → end_by got moment old.sender ≡ e → found ≡ fact.Quiet → e ≡ None
    no_end None is quiet = refl
    no_end (Some end) is quiet = (let ends : found ≡ fact.Ended end = (t.ended end).1 is in absurd (cc))

    no_frame : doing old ≡ UsingLink → found ≡ fact.Quiet → next_of (after_steps moment (steps_over_link got found texts t.count) old.sender) ≡ None
    no_frame is quiet =
        let up : new.up ≡ true = t.up ∙ ap (λ (f : LinkFact). up_after f old.up) quiet ∙ talks_up old is in
        let stays : StaysUp found = subst StaysUp (sym quiet) tt in
        let N : Doing → Type 0 = λ d. next_of (after_steps moment (turn_steps d old.up got found texts t.count) old.sender) ≡ None in
        subst N is (ap next_of (sym t.sender) ∙ t.unsent up stays)

    talking : doing old ≡ UsingLink → AreAllSent (issued_in found texts issued) new.sender.acked (events ++ added)
    talking is =
        let steps : List Step = steps_over_link got found texts t.count in
        let G : Doing → Type 0 = λ d. AreAllowed moment (turn_steps d old.up got found texts t.count) old.sender in
        let A : Doing → Type 0 = λ d. AreAdded moment kind.prompt (turn_steps d old.up got found texts t.count) old.sender w added in
        let now = talk_sends moment issued kind.prompt got found texts t.count old.sender w events added t.broken whole_turn (no_end (end_by got moment old.sender) refl) (no_frame is)
        sound holds all (subst G is t.allowed) (subst A is t.steps)
        in
        let after : new.sender ≡ after_steps moment steps old.sender =
        t.sender ∙ ap (λ (d : Doing). after_steps moment (turn_steps d old.up got found texts t.count) old.sender) is
        in
        let I : List (List ℕ) → Type 0 = λ l. AreAllSent l (after_steps moment steps old.sender).acked (events ++ added) in
        let S : SenderData → Type 0 = λ s. AreAllSent (issued_in found texts issued) s.acked (events ++ added) in
        let D : Doing → Type 0 = λ d. issued_after (turn_steps d old.up got found texts t.count) issued ≡ issued_in found texts issued in
        subst S (sym after) (subst I (subst D is (issued_turn (doing old) old.up got found texts t.count issued other t.none_issued t.asked.1)) now)

    idle : (doing old ≡ UsingLink → ⊥) → AreAllSent (issued_in found texts issued) new.sender.acked (events ++ added)
    idle not_using =
        let none : texts ≡ [] = t.none_issued (ap (λ (g : Got). may_issue g found) (t.asked.1 not_using)) in
        let same : new.sender ≡ old.sender =
        t.sender ∙ idle_steps moment (doing old) old.up got found texts t.count old.sender not_using other
        in
        let lines : issued_in found texts issued ≡ issued =
        issued_in_other found texts issued other ∙ ap (λ (l : List (List ℕ)). issued ++ l) none ∙ append-nil issued
        in
        let S : SenderData → Type 0 = λ s. AreAllSent (issued_in found texts issued) s.acked (events ++ added) in
        let I : List (List ℕ) → Type 0 = λ l. AreAllSent l old.sender.acked (events ++ added) in
        subst S (sym same) (subst I (sym lines) (all_sent_later issued old.sender.acked old.sender.acked events added (omega arith) all))

    by_doing : (d : Doing) → doing old ≡ d → AreAllSent (issued_in found texts issued) new.sender.acked (events ++ added)
    by_doing UsingLink is = talking is
    by_doing Dialling is = idle (λ (e : doing old ≡ UsingLink). absurd (cc))
    by_doing HangingUp is = idle (λ (e : doing old ≡ UsingLink). absurd (cc))
    by_doing Resting is = idle (λ (e : doing old ≡ UsingLink). absurd (cc))

-- the same of the session of a print
pub made_sends : (moment : ℕ) (kind : LinkKind) (old new : SessionData) (got : Got) (found : LinkFact) (texts issued : List (List ℕ))
    (past added more : List WorldEvent) → (found ≡ fact.Failed → ⊥) → (found ≡ fact.Opened → ⊥) → IsMade kind issued old past added →
    AreAllSent issued old.sender.acked added → IsTurned moment kind old new got found texts (world_in kind (past ++ added)) more →
    AreAllSent (issued_in found texts issued) new.sender.acked (added ++ more)
made_sends moment kind old new got found texts issued past added more whole_turn other made all t =
    let o = made.opened in
    let start : Start = start_of kind o.front old.sender.numbered o.rest in
    let w : WorldData = world_from (apply (world_in kind o.front) (Opened o.last)) o.rest in
    turn_sends moment kind old new got found texts issued (world_in kind (past ++ added)) added more whole_turn other t (fits_holds start issued old.sender w o.traced.meets) (fits_sound start issued old.sender w o.traced.meets) all
