-- The two turns over a prompt link that begin a session: one sends the hello, the next one hears its `ok`.
use Rattle.std.proofs.Common.{◌≡◌, ℕ, true, false, List, [], ◌∷◌, ◌++◌, refl, sym, ◌∙◌, ap, subst, append-nil}
use Rattle.std.specs.Prelude.{Option, None, ◌&&◌}
use Rattle.std.specs.List.{list_all}
use Rattle.std.proofs.lemmas.List.Folds.{list_all-append}
use Rattle.job_desk.specs.declared.link_fact.LinkFact.TheVariants as fact
use Rattle.marlin_frame.specs.Numbering.{hello_frame}
use Rattle.marlin_reply.specs.Kind.{kind_of}
use Rattle.printer_model.specs.World.{WorldData, is_free, world_from}
use Rattle.printer_model.specs.declared.event.WorldEvent.{WorldEvent}
use Rattle.printer_model.specs.declared.event.WorldEvent.TheVariants.{Recv}
use Rattle.printer_link.specs.Link.{IsHeard, IsSilence, recv_events}
use Rattle.send_window.specs.Data.{SenderData}
use Rattle.send_window.specs.Hearing.{made_ready, hear_step, tick_step, is_past}
use Rattle.send_window.specs.Sending.{next_of}
use Rattle.octo_session.specs.Found.{nothing, whole, end_by}
use Rattle.octo_session.specs.Steps.{Step, opens, finds_no_port, fails_to_dial, hears, listens, fails_to_receive, ticks, issues, gives, fails_to_send, hangs_up, after_step, after_steps, AreAllowed, AreAdded, issues_then_sends, steps_over_link}
use Rattle.octo_session.proofs.Keeping.{keeps_frame}
use Rattle.octo_session_line_proof.specs.Pieces.{Each}
use Rattle.octo_session_print.specs.Prompt.{IsReadySession, IsGreeting}
use Rattle.octo_session_print.proofs.Saying.{tick_idle, IsSayStep, say_speech}
use Rattle.octo_session_print.proofs.Greeting.{none_yet, speaks, greets, greeting_heard}
use Rattle.byte_text.proofs.ListLaws.{never_empty}
use Rattle.std.proofs.lemmas.Bool.{and_right}

hello_idle : (moment : ℕ) (s : SenderData) (w : WorldData) → IsGreeting [] true s w → tick_step moment s ≡ s
hello_idle moment s w i = tick_idle moment s i.running (ap (λ (d : Option ℕ). is_past d moment) (i.sound.hello_unsent i.counts i.due_is))

-- before the hello is sent nothing is received
pub hello_unheard : (bytes : List ℕ) (s : SenderData) (w : WorldData) (first : List WorldEvent) → IsGreeting [] true s w → IsHeard bytes w first →
    first ≡ recv_events true w → ⊥
hello_unheard bytes s w first i is prompt = never_empty is.before Recv is.after (sym (prompt ∙ none_yet true s w i) ∙ is.is)

-- and the session doesn't end
pub hello_goes_on : (moment : ℕ) (s : SenderData) (w : WorldData) → IsGreeting [] true s w → end_by nothing moment s ≡ None
hello_goes_on moment s w i = ap (λ (x : SenderData). x.ended) (hello_idle moment s w i) ∙ i.running

-- nor does the printer get ready
pub hello_unready : (moment : ℕ) (s : SenderData) (w : WorldData) → IsGreeting [] true s w → (tick_step moment s).ready ≡ false
hello_unready moment s w i = ap (λ (x : SenderData). x.ready) (hello_idle moment s w i) ∙ i.unready

-- the turn that sends the hello
pub hello_talk : (moment : ℕ) (texts : List (List ℕ)) (count : ℕ) (s : SenderData) (w : WorldData) (added : List WorldEvent) → texts ≡ [] → IsGreeting [] true s w →
    AreAllowed moment (steps_over_link nothing fact.Quiet texts count) s → AreAdded moment true (steps_over_link nothing fact.Quiet texts count) s w added →
    next_of (after_steps moment (steps_over_link nothing fact.Quiet texts count) s) ≡ None →
    IsGreeting (hello_frame ∷ []) false (after_steps moment (steps_over_link nothing fact.Quiet texts count) s) (world_from w added)
hello_talk moment texts count s w added silent i can is spent =
    let still : is.0 ≡ [] = is.3.1 refl ∙ none_yet true s w i in
    let next = is.4 in
    let none : next.0 ≡ [] = next.3.0 in
    let all : added ≡ next.1 =
    is.2 ∙ ap (λ (es : List WorldEvent). es ++ is.1) still ∙ next.2 ∙ ap (λ (es : List WorldEvent). es ++ next.1) none
    in
    let u : SenderData = tick_step moment s in
    let I : SenderData → Type 0 = λ t. IsGreeting [] true t w in
    let start : IsGreeting [] true u w = subst I (sym (hello_idle moment s w i)) i in
    let place : world_from (world_from w is.0) next.0 ≡ w =
    ap (λ (es : List WorldEvent). world_from (world_from w es) next.0) still ∙ ap (world_from w) none
    in
    let A : WorldData → Type 0 = λ v. AreAdded moment true (issues_then_sends true texts count) u v next.1 in
    let said = speaks moment texts count u w next.1 silent start can.1.1 (subst A place next.4) spent in
    let V : List WorldEvent → Type 0 = λ es. IsGreeting (hello_frame ∷ []) false (after_steps moment (issues_then_sends true texts count) u) (world_from w es) in
    subst V (sym all) said

module _ (s : SenderData) (w : WorldData) (i : IsGreeting (hello_frame ∷ []) false s w) where
  -- with the hello on the wire a receiving brings its `ok`
  pub greeting_answered : IsSilence w (recv_events true w) → ⊥
  greeting_answered silence =
      let h = greets s w i in
      let split : list_all is_free (h.first ++ Recv ∷ []) ≡ (list_all is_free h.first && false) = list_all-append is_free h.first (Recv ∷ []) in
      let clash : true ≡ false = sym silence.free ∙ ap (list_all is_free) h.is ∙ split ∙ and_right (list_all is_free h.first) false refl in
      absurd (cc)

  made_idle : (moment : ℕ) → tick_step moment (made_ready s) ≡ made_ready s
  made_idle moment = tick_idle moment (made_ready s) i.running refl

  -- which doesn't end the session
  pub ok_goes_on : (moment : ℕ) (bytes : List ℕ) (first : List WorldEvent) → IsHeard bytes w first → first ≡ recv_events true w →
      end_by (whole bytes) moment s ≡ None
  ok_goes_on moment bytes first is prompt =
      let heard = greeting_heard moment bytes s w first i is prompt in
      ap (λ (x : SenderData). (tick_step moment x).ended) heard.is ∙ ap (λ (x : SenderData). x.ended) (made_idle moment) ∙ i.running

  say_ready : (moment : ℕ) (steps : List Step) (t : SenderData) → Each IsSayStep steps → (after_steps moment steps t).ready ≡ t.ready
  say_ready moment [] t say = refl
  say_ready moment (issues text ∷ steps) t say = say_ready moment steps (after_step moment (issues text) t) say.1
  say_ready moment (gives ∷ steps) t say = say_ready moment steps (after_step moment gives t) say.1 ∙ (keeps_frame moment t).ready
  say_ready moment (opens ∷ steps) t say = absurd say.0
  say_ready moment (finds_no_port ∷ steps) t say = absurd say.0
  say_ready moment (fails_to_dial ∷ steps) t say = absurd say.0
  say_ready moment (hears bytes ∷ steps) t say = absurd say.0
  say_ready moment (listens ∷ steps) t say = absurd say.0
  say_ready moment (fails_to_receive ∷ steps) t say = absurd say.0
  say_ready moment (ticks ∷ steps) t say = absurd say.0
  say_ready moment (fails_to_send ∷ steps) t say = absurd say.0
  say_ready moment (hangs_up was_up ∷ steps) t say = absurd say.0

  -- but makes it ready, whatever is said after it
  pub ok_readies : (moment : ℕ) (bytes : List ℕ) (texts : List (List ℕ)) (count : ℕ) (first : List WorldEvent) → IsHeard bytes w first →
      first ≡ recv_events true w → (after_steps moment (steps_over_link (whole bytes) fact.Quiet texts count) s).ready ≡ true
  ok_readies moment bytes texts count first is prompt =
      let heard = greeting_heard moment bytes s w first i is prompt in
      let t : SenderData = tick_step moment (hear_step (kind_of bytes) moment s) in
      let now : t ≡ made_ready s = ap (tick_step moment) heard.is ∙ made_idle moment in
      say_ready moment (issues_then_sends true texts count) t (say_speech texts count) ∙ ap (λ (x : SenderData). x.ready) now

  -- the turn that hears it
  pub ok_talk : (moment : ℕ) (bytes : List ℕ) (texts : List (List ℕ)) (count : ℕ) (added : List WorldEvent) →
      AreAdded moment true (steps_over_link (whole bytes) fact.Ready texts count) s w added →
      (after_steps moment (steps_over_link (whole bytes) fact.Ready texts count) s ≡ made_ready s) × IsReadySession (made_ready s) (world_from w added)
  ok_talk moment bytes texts count added is =
      let heard = greeting_heard moment bytes s w is.0 i is.3.0 (is.3.1 refl) in
      let next = is.4 in
      let none : next.0 ≡ [] = next.3.0 in
      let last : next.1 ≡ [] = next.4 in
      let all : added ≡ is.0 =
      is.2 ∙ ap (λ (es : List WorldEvent). is.0 ++ es) (next.2 ∙ ap (λ (es : List WorldEvent). es ++ next.1) none ∙ last) ∙ append-nil is.0
      in
      let V : List WorldEvent → Type 0 = λ es. IsReadySession (made_ready s) (world_from w es) in
      (ap (tick_step moment) heard.is ∙ made_idle moment, subst V (sym all) heard.saying)
