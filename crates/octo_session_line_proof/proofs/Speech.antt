-- The steps of a whole turn lead the session on.
use Rattle.std.proofs.Common.{◌≡◌, ℕ, zero, suc, Bool, true, false, List, [], ◌∷◌, ◌++◌, replicate, refl, sym, ◌∙◌, ap, subst, append_assoc, append-nil}
use Rattle.std.specs.Prelude.{None}
use Rattle.marlin_reply.specs.Kind.{kind_of}
use Rattle.send_window.specs.Counting.{Traffic}
use Rattle.job_desk.specs.declared.link_fact.LinkFact.{LinkFact}
use Rattle.job_desk.specs.declared.link_fact.LinkFact.TheVariants as fact
use Rattle.printer_model.specs.World.{WorldData, world_from}
use Rattle.printer_model.specs.declared.event.WorldEvent.{WorldEvent}
use Rattle.send_window.specs.Data.{SenderData, NoneEarly}
use Rattle.send_window.specs.Hearing.{hear_step}
use Rattle.octo_session.specs.Found.{Got, unasked, lost, nothing, whole, may_issue}
use Rattle.octo_session.specs.declared.found.Doing.{Doing}
use Rattle.octo_session.specs.declared.found.Doing.TheVariants.{Dialling, HangingUp, UsingLink, Resting}
use Rattle.octo_session.specs.Steps.{Step, listens, fails_to_receive, gives, fails_to_send, hangs_up, after_step, after_steps, AreAllowed, AreAdded, issuing, issues_then_sends, clock_steps, steps_over_link, dial_steps, turn_steps}
use Rattle.octo_session_line_proof.specs.Pieces.{Each}
use Rattle.octo_session_line_proof.specs.Wires.{Start}
use Rattle.octo_session_line_proof.specs.Stopped.{Fits}
use Rattle.octo_session_line_proof.specs.Traces.{HasGreeted, IsTallied}
use Rattle.octo_session.specs.Sends.{traffic_from}
use Rattle.octo_session_line_proof.proofs.Free.{Allows, allows_left, allows_right}
use Rattle.octo_session_line_proof.proofs.Tracing.{extends_none, Leads, leads_then, leads_none}
use Rattle.octo_session_line_proof.specs.Issuing.{issued_by, issued_after, issued_in}
use Rattle.octo_session_line_proof.proofs.Stepping.{IsPlain, plain_leads, hears_leads}

-- plain steps, one after another
pub steps_lead : (start : Start) (moment : ℕ) (is_prompt : Bool) (steps : List Step) (issued : List (List ℕ)) (s : SenderData)
    (w : WorldData) (traffic : List Traffic) (added : List WorldEvent) → Each IsPlain steps → AreAllowed moment steps s →
    AreAdded moment is_prompt steps s w added → Allows start added → Fits start issued s w → IsTallied traffic s →
    Leads start issued (issued_after steps issued) (after_steps moment steps s) w traffic added
steps_lead start moment is_prompt [] issued s w traffic added plain allowed none allows m tallied =
    let L : List WorldEvent → Type 0 = λ es. Leads start issued issued s w traffic es in
    subst L (sym none) (leads_none start issued issued s w traffic (extends_none issued) m tallied)
steps_lead start moment is_prompt (step ∷ steps) issued s w traffic added plain allowed is allows m tallied =
    let first = is.0 in
    let rest = is.1 in
    let A : List WorldEvent → Type 0 = λ es. Allows start es in
    let both : Allows start (first ++ rest) = subst A is.2 allows in
    let all : List (List ℕ) = issued_after steps (issued_by step issued) in
    let t : SenderData = after_step moment step s in
    let u : SenderData = after_steps moment steps t in
    let L : List WorldEvent → Type 0 = λ es. Leads start issued all u w traffic es in
    let one : Leads start issued (issued_by step issued) t w traffic first = plain_leads start issued moment s w traffic step first plain.0 allowed.0 is.3.0 (allows_left start first rest both) m tallied in
    let more : Leads start (issued_by step issued) all u (world_from w first) (traffic ++ traffic_from w first) rest =
    steps_lead start moment is_prompt steps (issued_by step issued) t (world_from w first) (traffic ++ traffic_from w first) rest plain.1 allowed.1 is.4 (allows_right start first rest both) one.meets one.tallied
    in
    subst L (sym is.2) (leads_then start issued (issued_by step issued) all t u w traffic first rest one more)

plain_append : (xs ys : List Step) → Each IsPlain xs → Each IsPlain ys → Each IsPlain (xs ++ ys)
plain_append [] ys first second = second
plain_append (x ∷ xs) ys first second = (first.0, plain_append xs ys first.1 second)

plain_issuing : (texts : List (List ℕ)) → Each IsPlain (issuing texts)
plain_issuing [] = tt
plain_issuing (text ∷ texts) = (tt, plain_issuing texts)

plain_gives : (count : ℕ) → Each IsPlain (replicate count gives)
plain_gives zero = tt
plain_gives (suc count) = (tt, plain_gives count)

plain_speech : (all : Bool) (texts : List (List ℕ)) (count : ℕ) → Each IsPlain (issues_then_sends all texts count)
plain_speech true texts count = plain_append (issuing texts) (replicate count gives) (plain_issuing texts) (plain_gives count)
plain_speech false texts count =
    plain_append (issuing texts) (replicate count gives ++ fails_to_send ∷ []) (plain_issuing texts) (plain_append (replicate count gives) (fails_to_send ∷ []) (plain_gives count) (tt, tt))

pub plain_clock : (found : LinkFact) (texts : List (List ℕ)) (count : ℕ) → Each IsPlain (clock_steps found texts count)
plain_clock fact.Quiet texts count = (tt, plain_speech true texts count)
plain_clock fact.Opened texts count = tt
plain_clock fact.Ready texts count = (tt, tt)
plain_clock fact.Closed texts count = tt
plain_clock fact.NoPort texts count = tt
plain_clock fact.Failed texts count = (tt, plain_speech false texts count)
plain_clock (fact.Ended end) texts count = (tt, (tt, tt))

plain_dial : (found : LinkFact) → (found ≡ fact.Opened → ⊥) → Each IsPlain (dial_steps found)
plain_dial fact.Quiet other = tt
plain_dial fact.Opened other = absurd (other refl)
plain_dial fact.Ready other = tt
plain_dial fact.Closed other = tt
plain_dial fact.NoPort other = (tt, tt)
plain_dial fact.Failed other = (tt, tt)
plain_dial (fact.Ended end) other = tt

module _ (start : Start) (moment : ℕ) (is_prompt : Bool) (issued : List (List ℕ)) (s : SenderData) (w : WorldData) (traffic : List Traffic) (added : List WorldEvent) where
  talk_leads : (got : Got) (found : LinkFact) (texts : List (List ℕ)) (count : ℕ) → s.ended ≡ None → NoneEarly s → HasGreeted s.numbered traffic s →
      AreAllowed moment (steps_over_link got found texts count) s → AreAdded moment is_prompt (steps_over_link got found texts count) s w added →
      Allows start added → Fits start issued s w → IsTallied traffic s → Leads start issued (issued_after (steps_over_link got found texts count) issued)
      (after_steps moment (steps_over_link got found texts count) s) w traffic added
  talk_leads unasked found texts count running fresh greets allowed is allows m tallied = steps_lead start moment is_prompt [] issued s w traffic added tt allowed is allows m tallied
  talk_leads lost found texts count running fresh greets allowed is allows m tallied = steps_lead start moment is_prompt (fails_to_receive ∷ []) issued s w traffic added (tt, tt) allowed is allows m tallied
  talk_leads nothing found texts count running fresh greets allowed is allows m tallied =
      steps_lead start moment is_prompt (listens ∷ clock_steps found texts count) issued s w traffic added (tt, plain_clock found texts count) allowed is allows m tallied
  talk_leads (whole bytes) found texts count running fresh greets allowed is allows m tallied =
      let first = is.0 in
      let rest = is.1 in
      let A : List WorldEvent → Type 0 = λ es. Allows start es in
      let both : Allows start (first ++ rest) = subst A is.2 allows in
      let steps : List Step = clock_steps found texts count in
      let t : SenderData = hear_step (kind_of bytes) moment s in
      let u : SenderData = after_steps moment steps t in
      let all : List (List ℕ) = issued_after steps issued in
      let L : List WorldEvent → Type 0 = λ es. Leads start issued all u w traffic es in
      let one : Leads start issued issued t w traffic first = hears_leads start issued moment s w traffic bytes first running is.3.0 (allows_left start first rest both) m fresh greets tallied in
      let more : Leads start issued all u (world_from w first) (traffic ++ traffic_from w first) rest =
      steps_lead start moment is_prompt steps issued t (world_from w first) (traffic ++ traffic_from w first) rest (plain_clock found texts count) allowed.1 is.4 (allows_right start first rest both) one.meets one.tallied
      in
      subst L (sym is.2) (leads_then start issued issued all t u w traffic first rest one more)

  -- a turn that makes no link
  pub turn_leads : (doing_now : Doing) (was_up : Bool) (got : Got) (found : LinkFact) (texts : List (List ℕ)) (count : ℕ) →
      (found ≡ fact.Opened → ⊥) → (doing_now ≡ UsingLink → s.ended ≡ None) → (doing_now ≡ UsingLink → NoneEarly s) → (doing_now ≡ UsingLink → HasGreeted s.numbered traffic s) →
      AreAllowed moment (turn_steps doing_now was_up got found texts count) s →
      AreAdded moment is_prompt (turn_steps doing_now was_up got found texts count) s w added → Allows start added → Fits start issued s w →
      IsTallied traffic s → Leads start issued (issued_after (turn_steps doing_now was_up got found texts count) issued)
      (after_steps moment (turn_steps doing_now was_up got found texts count) s) w traffic added
  turn_leads Dialling was_up got found texts count other running fresh greets allowed is allows m tallied = steps_lead start moment is_prompt (dial_steps found) issued s w traffic added (plain_dial found other) allowed is allows m tallied
  turn_leads HangingUp was_up got found texts count other running fresh greets allowed is allows m tallied = steps_lead start moment is_prompt (hangs_up was_up ∷ []) issued s w traffic added (tt, tt) allowed is allows m tallied
  turn_leads UsingLink was_up got found texts count other running fresh greets allowed is allows m tallied = talk_leads got found texts count (running refl) (fresh refl) (greets refl) allowed is allows m tallied
  turn_leads Resting was_up got found texts count other running fresh greets allowed is allows m tallied = steps_lead start moment is_prompt [] issued s w traffic added tt allowed is allows m tallied

-- which texts the steps issue
issued_after-append : (xs ys : List Step) (issued : List (List ℕ)) → issued_after (xs ++ ys) issued ≡ issued_after ys (issued_after xs issued)
issued_after-append [] ys issued = refl
issued_after-append (x ∷ xs) ys issued = issued_after-append xs ys (issued_by x issued)

issued_issuing : (texts issued : List (List ℕ)) → issued_after (issuing texts) issued ≡ issued ++ texts
issued_issuing [] issued = sym (append-nil issued)
issued_issuing (text ∷ texts) issued = issued_issuing texts (issued ++ text ∷ []) ∙ append_assoc issued (text ∷ []) texts

issued_gives : (count : ℕ) (issued : List (List ℕ)) → issued_after (replicate count gives) issued ≡ issued
issued_gives zero issued = refl
issued_gives (suc count) issued = issued_gives count issued

issued_speech : (all : Bool) (texts : List (List ℕ)) (count : ℕ) (issued : List (List ℕ)) →
    issued_after (issues_then_sends all texts count) issued ≡ issued ++ texts
issued_speech true texts count issued =
    issued_after-append (issuing texts) (replicate count gives) issued ∙ issued_gives count (issued_after (issuing texts) issued) ∙ issued_issuing texts issued
issued_speech false texts count issued =
    issued_after-append (issuing texts) (replicate count gives ++ fails_to_send ∷ []) issued
    ∙ issued_after-append (replicate count gives) (fails_to_send ∷ []) (issued_after (issuing texts) issued)
    ∙ issued_gives count (issued_after (issuing texts) issued) ∙ issued_issuing texts issued

none_added : (texts issued : List (List ℕ)) → texts ≡ [] → issued ≡ issued ++ texts
none_added texts issued none = sym (append-nil issued) ∙ ap (λ (l : List (List ℕ)). issued ++ l) (sym none)

issued_clock : (found : LinkFact) (texts : List (List ℕ)) (count : ℕ) (issued : List (List ℕ)) →
    (may_issue nothing found ≡ false → texts ≡ []) → issued_after (clock_steps found texts count) issued ≡ issued ++ texts
issued_clock fact.Quiet texts count issued none = issued_speech true texts count issued
issued_clock fact.Opened texts count issued none = none_added texts issued (none refl)
issued_clock fact.Ready texts count issued none = none_added texts issued (none refl)
issued_clock fact.Closed texts count issued none = none_added texts issued (none refl)
issued_clock fact.NoPort texts count issued none = none_added texts issued (none refl)
issued_clock fact.Failed texts count issued none = issued_speech false texts count issued
issued_clock (fact.Ended end) texts count issued none = none_added texts issued (none refl)

issued_talk : (got : Got) (found : LinkFact) (texts : List (List ℕ)) (count : ℕ) (issued : List (List ℕ)) →
    (may_issue got found ≡ false → texts ≡ []) → issued_after (steps_over_link got found texts count) issued ≡ issued ++ texts
issued_talk unasked found texts count issued none = none_added texts issued (none refl)
issued_talk lost found texts count issued none = none_added texts issued (none refl)
issued_talk nothing found texts count issued none = issued_clock found texts count issued none
issued_talk (whole bytes) found texts count issued none = issued_clock found texts count issued none

issued_dial : (found : LinkFact) (texts issued : List (List ℕ)) → (found ≡ fact.Opened → ⊥) → texts ≡ [] →
    issued_after (dial_steps found) issued ≡ issued ++ texts
issued_dial fact.Quiet texts issued other none = none_added texts issued none
issued_dial fact.Opened texts issued other none = absurd (other refl)
issued_dial fact.Ready texts issued other none = none_added texts issued none
issued_dial fact.Closed texts issued other none = none_added texts issued none
issued_dial fact.NoPort texts issued other none = none_added texts issued none
issued_dial fact.Failed texts issued other none = none_added texts issued none
issued_dial (fact.Ended end) texts issued other none = none_added texts issued none

pub issued_in_other : (found : LinkFact) (texts issued : List (List ℕ)) → (found ≡ fact.Opened → ⊥) → issued_in found texts issued ≡ issued ++ texts
issued_in_other fact.Quiet texts issued other = refl
issued_in_other fact.Opened texts issued other = absurd (other refl)
issued_in_other fact.Ready texts issued other = refl
issued_in_other fact.Closed texts issued other = refl
issued_in_other fact.NoPort texts issued other = refl
issued_in_other fact.Failed texts issued other = refl
issued_in_other (fact.Ended end) texts issued other = refl

-- a turn that makes no link adds the texts of its lines
pub issued_turn : (doing_now : Doing) (was_up : Bool) (got : Got) (found : LinkFact) (texts : List (List ℕ)) (count : ℕ)
    (issued : List (List ℕ)) → (found ≡ fact.Opened → ⊥) → (may_issue got found ≡ false → texts ≡ []) →
    ((doing_now ≡ UsingLink → ⊥) → got ≡ unasked) →
    issued_after (turn_steps doing_now was_up got found texts count) issued ≡ issued_in found texts issued
issued_turn Dialling was_up got found texts count issued other none asks =
    let un : got ≡ unasked = asks (λ (is : Dialling ≡ UsingLink). absurd (cc)) in
    issued_dial found texts issued other (none (ap (λ (g : Got). may_issue g found) un)) ∙ sym (issued_in_other found texts issued other)
issued_turn HangingUp was_up got found texts count issued other none asks =
    let un : got ≡ unasked = asks (λ (is : HangingUp ≡ UsingLink). absurd (cc)) in
    none_added texts issued (none (ap (λ (g : Got). may_issue g found) un)) ∙ sym (issued_in_other found texts issued other)
issued_turn UsingLink was_up got found texts count issued other none asks = issued_talk got found texts count issued none ∙ sym (issued_in_other found texts issued other)
issued_turn Resting was_up got found texts count issued other none asks =
    let un : got ≡ unasked = asks (λ (is : Resting ≡ UsingLink). absurd (cc)) in
    none_added texts issued (none (ap (λ (g : Got). may_issue g found) un)) ∙ sym (issued_in_other found texts issued other)
