-- The steps of a turn over an open link leave all issued lines sent that aren't acknowledged, unless a call of the link fails.
use Rattle.std.proofs.Common.{◌≡◌, ◌⊎◌, inl, inr, ℕ, zero, suc, ◌+◌, ◌-◌, ◌<◌, ◌≤◌, Bool, true, false, List, [], ◌∷◌, ◌++◌, length, replicate, refl, sym, ◌∙◌, ap, subst, append_assoc, append-nil, arith}
use Rattle.std.specs.Prelude.{Option, None, Some, max, slice_get, is_some}
use Rattle.std.proofs.lemmas.Bool.{cases_lt}
use Rattle.std.proofs.lemmas.Grind.{common_steps}
use Rattle.std.proofs.lemmas.Option.{slice_get_within, same_Some}
use Rattle.marlin_frame.specs.Frame.{frame_of}
use Rattle.marlin_frame.specs.Numbering.{wire_number}
use Rattle.marlin_reply.specs.Kind.{kind_of}
use Rattle.marlin_reply.specs.declared.reply.Reply.{Reply}
use Rattle.job_desk.specs.declared.link_fact.LinkFact.{LinkFact}
use Rattle.job_desk.specs.declared.link_fact.LinkFact.TheVariants as fact
use Rattle.printer_model.specs.World.{WorldData, world_from}
use Rattle.printer_model.specs.declared.event.WorldEvent.{WorldEvent}
use Rattle.printer_link.specs.Link.{IsSend}
use Rattle.send_window.specs.declared.session_end.SessionEnd.{SessionEnd}
use Rattle.send_window.specs.Data.{SenderData, IsSound}
use Rattle.send_window.specs.Hearing.{hear_step, tick_step, heard_reply, unless_ended}
use Rattle.send_window.specs.Sending.{Outgoing, hello, line, next_of, frame_step, push_step}
use Rattle.send_window.specs.Session.{HoldsIssued, hears as hears_reply, ticks as ticks_at, issues as issues_text, gives as gives_at}
use Rattle.send_window.proofs.Issued.{step_holds}
use Rattle.send_window.proofs.Sending.{gives_nothing}
use Rattle.send_window.proofs.Soundness.{hears_sound, ticks_sound, issues_sound, gives_sound}
use Rattle.octo_session.specs.Found.{Got, unasked, lost, nothing, whole, end_by}
use Rattle.octo_session.specs.Sends.{IsIssued}
use Rattle.octo_session.specs.Steps.{Step, opens, finds_no_port, fails_to_dial, hears, listens, fails_to_receive, ticks, issues, gives, fails_to_send, hangs_up, after_step, after_steps, IsAllowed, AreAllowed, IsGiven, IsDone, AreAdded, issuing, issues_then_sends, clock_steps, steps_over_link}
use Rattle.octo_session_line_proof.specs.AllSent.{WasSent, AreAllSent}
use Rattle.octo_session_line_proof.specs.Issuing.{issued_by, issued_after}
use Rattle.octo_session_line_proof.specs.Pieces.{Each}
use Rattle.octo_session_line_proof.proofs.Giving.{line_held}
use Rattle.octo_session_line_proof.proofs.Quiet.{IsIssueOrSend, saying_append, saying_issuing, saying_gives}
use Rattle.octo_session_line_proof.proofs.Flags.{give_flags, give_keeps_end, tick_flags}

-- a line that was sent stays so as events join before or after
sent_before : (bytes : List ℕ) (xs ys : List WorldEvent) → WasSent bytes xs → WasSent bytes (xs ++ ys)
sent_before bytes [] ys was = absurd was
sent_before bytes (x ∷ xs) ys (inl here) = inl here
sent_before bytes (x ∷ xs) ys (inr later) = inr (sent_before bytes xs ys later)

sent_behind : (bytes : List ℕ) (xs ys : List WorldEvent) → WasSent bytes ys → WasSent bytes (xs ++ ys)
sent_behind bytes [] ys was = was
sent_behind bytes (x ∷ xs) ys was = inr (sent_behind bytes xs ys was)

-- more events, and more lines that are acknowledged
pub all_sent_later : (issued : List (List ℕ)) (acked more : ℕ) (events added : List WorldEvent) → acked ≤ more → AreAllSent issued acked events →
    AreAllSent issued more (events ++ added)
all_sent_later issued acked more events added le all place text above is =
    sent_before (frame_of (wire_number place) text) events added (all place text (omega (arith, above, le)) is)

-- without an issued line all are sent
pub none_unsent : (acked : ℕ) (events : List WorldEvent) → AreAllSent [] acked events
none_unsent acked events place text above is = (let none : slice_get [] (place - 1) ≡ Some text = is.found in absurd (cc))

-- a text is at a place of the list without the last ones
issued_before : (issued more : List (List ℕ)) (place : ℕ) (text : List ℕ) → place ≤ length issued → IsIssued (issued ++ more) place text →
    IsIssued issued place text
issued_before issued more place text within is =
    record { counted = is.counted; found = get_before issued more (place - 1) text (omega (arith, within, is.counted)) is.found }
  where
    get_before : (xs ys : List (List ℕ)) (at : ℕ) (x : List ℕ) → at < length xs → slice_get (xs ++ ys) at ≡ Some x → slice_get xs at ≡ Some x
    get_before [] ys at x less found = absurd (omega (arith, less))
    get_before (first ∷ xs) ys zero x less found = found
    get_before (first ∷ xs) ys (suc at) x less found = get_before xs ys at x (omega (arith, less)) found

-- while a turn issues and sends: which lines were sent, and that the next one to send isn't past the first unsent one
record Sends (issued : List (List ℕ)) (s : SenderData) (events : List WorldEvent) : Type 0 where
  sound : IsSound s
  holds : HoldsIssued issued s
  running : s.ended ≡ None
  upto : ℕ
  within : upto ≤ s.issued
  near : s.cursor ≤ upto + 1
  were_sent : (place : ℕ) (text : List ℕ) → s.acked < place → place ≤ upto → IsIssued issued place text → WasSent (frame_of (wire_number place) text) events

module _ (moment : ℕ) where
  -- a line is issued
  issue_sends : (issued : List (List ℕ)) (text : List ℕ) (s : SenderData) (events : List WorldEvent) → IsAllowed (issues text) s →
      Sends issued s events → Sends (issued ++ text ∷ []) (push_step text s) events
  issue_sends issued text s events allowed so = record {
    sound = issues_sound text s allowed.0 so.sound;
    holds = step_holds (issues_text text) s issued so.holds;
    running = so.running;
    upto = so.upto;
    within = omega (arith, so.within);
    near = so.near;
    were_sent = λ place other above le is. so.were_sent place other above le (issued_before issued (text ∷ []) place other (omega (arith, le, so.within, so.holds.count)) is);
  }

  -- nothing but what was sent changes
  hello_keeps : (s : SenderData) (number : ℕ) → next_of s ≡ Some (hello number) → (frame_step moment s).cursor ≡ s.cursor
  hello_keeps s number is = grind (arith, common_steps)

  line_moves : (s : SenderData) (place : ℕ) (text : List ℕ) → next_of s ≡ Some (line place text) → (frame_step moment s).cursor ≡ s.cursor + 1
  line_moves s place text is = grind (arith, common_steps)

  line_place : (s : SenderData) (place : ℕ) (text : List ℕ) → next_of s ≡ Some (line place text) → place ≡ s.cursor
  line_place s place text is = grind (arith, common_steps)

  given_holds : (issued : List (List ℕ)) (s : SenderData) → HoldsIssued issued s → HoldsIssued issued (frame_step moment s)
  given_holds issued s holds =
      let H : List (List ℕ) → Type 0 = λ texts. HoldsIssued texts (frame_step moment s) in
      subst H (append-nil issued) (step_holds (gives_at moment) s issued holds)

  sent_in : (bytes : List ℕ) (w : WorldData) (added : List WorldEvent) → IsSend bytes w added → WasSent bytes added
  sent_in bytes w added is =
      let W : List WorldEvent → Type 0 = λ es. WasSent bytes es in
      subst W (sym is.is) (sent_behind bytes is.before (is.sent ∷ is.after) (inl is.line_is))

  -- what is to be sent next is sent
  give_sends : (issued : List (List ℕ)) (s : SenderData) (w : WorldData) (events added : List WorldEvent) (next : Option Outgoing) →
      next_of s ≡ next → IsGiven next w added → Sends issued s events → Sends issued (frame_step moment s) (events ++ added)
  give_sends issued s w events added None is given so = absurd given
  give_sends issued s w events added (Some (hello number)) is given so =
      let flags = give_flags moment s in
      record {
        sound = gives_sound moment s so.sound;
        holds = given_holds issued s so.holds;
        running = give_keeps_end moment s ∙ so.running;
        upto = so.upto;
        within = omega (arith, so.within, flags.issued);
        near = omega (arith, so.near, hello_keeps s number is);
        were_sent = λ place text above le its. sent_before (frame_of (wire_number place) text) events added (so.were_sent place text (omega (arith, above, flags.acked)) le its);
      }
  give_sends issued s w events added (Some (line at sent)) is given so =
      let flags = give_flags moment s in
      let held = line_held s issued at sent so.sound so.holds is in
      let here : WasSent (frame_of (wire_number at) sent) (events ++ added) =
      sent_behind (frame_of (wire_number at) sent) events added (sent_in (frame_of (wire_number at) sent) w added given)
      in
      record {
        sound = gives_sound moment s so.sound;
        holds = given_holds issued s so.holds;
        running = give_keeps_end moment s ∙ so.running;
        upto = max so.upto at;
        within = omega (arith, so.within, flags.issued, held.was_issued);
        near = omega (arith, so.near, line_moves s at sent is, line_place s at sent is);
        were_sent = λ place text above le its. by_place place text (omega (arith, above, flags.acked)) its (older place le) here;
      }
    where
      older : (place : ℕ) → place ≤ max so.upto at → (place ≤ so.upto) ⊎ (place ≡ at)
      older place le = by_order (cases_lt so.upto place)
        where
          by_order : (so.upto < place) ⊎ (place ≤ so.upto) → (place ≤ so.upto) ⊎ (place ≡ at)
          by_order (inl above) = inr (omega (arith, above, le, so.near, line_place s at sent is))
          by_order (inr below) = inl below

      by_place : (place : ℕ) (text : List ℕ) → s.acked < place → IsIssued issued place text → (place ≤ so.upto) ⊎ (place ≡ at) →
          WasSent (frame_of (wire_number at) sent) (events ++ added) → WasSent (frame_of (wire_number place) text) (events ++ added)
      by_place place text above its (inl le) here = sent_before (frame_of (wire_number place) text) events added (so.were_sent place text above le its)
      by_place place text above its (inr same) here =
          let G : ℕ → Type 0 = λ n. slice_get issued (n - 1) ≡ Some text in
          let now : slice_get issued (at - 1) ≡ Some text = subst G same its.found in
          let held : slice_get issued (at - 1) ≡ Some sent = (line_held s issued at sent so.sound so.holds is).its_text in
          let texts : sent ≡ text = same_Some sent text (sym held ∙ now) in
          let N : ℕ → Type 0 = λ n. WasSent (frame_of (wire_number n) text) (events ++ added) in
          let T : List ℕ → Type 0 = λ t. WasSent (frame_of (wire_number at) t) (events ++ added) in
          subst N (sym same) (subst T texts here)

  step_sends : (issued : List (List ℕ)) (step : Step) (s : SenderData) (w : WorldData) (events added : List WorldEvent) → IsIssueOrSend step →
      IsAllowed step s → IsDone step s w added → Sends issued s events → Sends (issued_by step issued) (after_step moment step s) (events ++ added)
  step_sends issued (issues text) s w events added saying allowed is so =
      let S : List WorldEvent → Type 0 = λ es. Sends (issued ++ text ∷ []) (push_step text s) es in
      subst S (sym (ap (λ (es : List WorldEvent). events ++ es) is ∙ append-nil events)) (issue_sends issued text s events allowed so)
  step_sends issued gives s w events added saying allowed is so = give_sends issued s w events added (next_of s) refl is so
  step_sends issued opens s w events added saying allowed is so = absurd saying
  step_sends issued finds_no_port s w events added saying allowed is so = absurd saying
  step_sends issued fails_to_dial s w events added saying allowed is so = absurd saying
  step_sends issued (hears bytes) s w events added saying allowed is so = absurd saying
  step_sends issued listens s w events added saying allowed is so = absurd saying
  step_sends issued fails_to_receive s w events added saying allowed is so = absurd saying
  step_sends issued ticks s w events added saying allowed is so = absurd saying
  step_sends issued fails_to_send s w events added saying allowed is so = absurd saying
  step_sends issued (hangs_up was_up) s w events added saying allowed is so = absurd saying

  all_send : (issued : List (List ℕ)) (is_prompt : Bool) (steps : List Step) (s : SenderData) (w : WorldData) (events added : List WorldEvent) →
      Each IsIssueOrSend steps → AreAllowed moment steps s → AreAdded moment is_prompt steps s w added → Sends issued s events →
      Sends (issued_after steps issued) (after_steps moment steps s) (events ++ added)
  all_send issued is_prompt [] s w events added saying allowed none so =
      let S : List WorldEvent → Type 0 = λ es. Sends issued s es in
      subst S (sym (ap (λ (es : List WorldEvent). events ++ es) none ∙ append-nil events)) so
  all_send issued is_prompt (step ∷ steps) s w events added saying allowed is so =
      let t : SenderData = after_step moment step s in
      let now : List (List ℕ) = issued_by step issued in
      let S : List WorldEvent → Type 0 = λ es. Sends (issued_after steps now) (after_steps moment steps t) es in
      let one = step_sends issued step s w events is.0 saying.0 allowed.0 is.3.0 so in
      let more = all_send now is_prompt steps t (world_from w is.0) (events ++ is.0) is.1 saying.1 allowed.1 is.4 one in
      subst S (append_assoc events is.0 is.1 ∙ ap (λ (es : List WorldEvent). events ++ es) (sym is.2)) more

  -- if nothing is left to send, all was sent
  nothing_left : (issued : List (List ℕ)) (s : SenderData) (events : List WorldEvent) → next_of s ≡ None → Sends issued s events →
      AreAllSent issued s.acked events
  nothing_left issued s events none so place text above is =
      let left : s.issued < s.cursor = past_last s so.running none in
      so.were_sent place text above (omega (arith, left, so.near, so.holds.count, is.counted, slice_get_within issued (place - 1) text is.found)) is
    where
      past_last : (s : SenderData) → s.ended ≡ None → next_of s ≡ None → s.issued < s.cursor
      past_last s running none = by ((gives_nothing s).0 none)
        where
          by : (is_some s.ended ≡ true) ⊎ ((s.hello_due ≡ false) × (s.issued < s.cursor)) → s.issued < s.cursor
          by (inl ended) = (let running_still : is_some s.ended ≡ false = ap is_some running in absurd (cc))
          by (inr past) = past.1

  -- a reply and the clock acknowledge lines, and issue none
  hear_rises : (reply : Reply) (s : SenderData) → s.acked ≤ (hear_step reply moment s).acked
  hear_rises reply s = by_end s.ended
    where
      reply_rises : s.acked ≤ (heard_reply reply moment s).acked
      reply_rises = grind (arith, common_steps)

      by_end : (ended : Option SessionEnd) → s.acked ≤ (unless_ended ended (heard_reply reply moment s) s).acked
      by_end None = reply_rises
      by_end (Some why) = omega arith

  heard_holds : (issued : List (List ℕ)) (reply : Reply) (s : SenderData) → HoldsIssued issued s → HoldsIssued issued (hear_step reply moment s)
  heard_holds issued reply s holds =
      let H : List (List ℕ) → Type 0 = λ texts. HoldsIssued texts (hear_step reply moment s) in
      subst H (append-nil issued) (step_holds (hears_reply reply moment) s issued holds)

  ticked_holds : (issued : List (List ℕ)) (s : SenderData) → HoldsIssued issued s → HoldsIssued issued (tick_step moment s)
  ticked_holds issued s holds =
      let H : List (List ℕ) → Type 0 = λ texts. HoldsIssued texts (tick_step moment s) in
      subst H (append-nil issued) (step_holds (ticks_at moment) s issued holds)

  -- a turn's lines are issued and sent
  tick_sends : (issued : List (List ℕ)) (s : SenderData) (events : List WorldEvent) → (tick_step moment s).ended ≡ None → IsSound s →
      HoldsIssued issued s → AreAllSent issued s.acked events → Sends issued (tick_step moment s) events
  tick_sends issued s events running sound holds all =
      let t : SenderData = tick_step moment s in
      let now = ticked_holds issued s holds in
      let well = ticks_sound moment s sound in
      record {
        sound = well;
        holds = now;
        running = running;
        upto = t.issued;
        within = omega arith;
        near = well.not_past;
        were_sent = λ place text above le is. all place text (omega (arith, above, (tick_flags moment s).acked)) is;
      }

  -- what follows of the receiving in a turn over an open link
  clock_sends : (issued : List (List ℕ)) (is_prompt : Bool) (found : LinkFact) (texts : List (List ℕ)) (count : ℕ) (s : SenderData) (w : WorldData)
      (events added : List WorldEvent) → (found ≡ fact.Failed → ⊥) → (found ≡ fact.Quiet → (tick_step moment s).ended ≡ None) →
      (found ≡ fact.Quiet → next_of (after_steps moment (clock_steps found texts count) s) ≡ None) → IsSound s → HoldsIssued issued s →
      AreAllSent issued s.acked events → AreAllowed moment (clock_steps found texts count) s →
      AreAdded moment is_prompt (clock_steps found texts count) s w added →
      AreAllSent (issued_after (clock_steps found texts count) issued) (after_steps moment (clock_steps found texts count) s).acked (events ++ added)
  clock_sends issued is_prompt fact.Quiet texts count s w events added whole_turn running unsent sound holds all allowed is =
      let steps : List Step = issues_then_sends true texts count in
      let t : SenderData = tick_step moment s in
      let none : events ++ is.0 ≡ events = ap (λ (es : List WorldEvent). events ++ es) is.3.0 ∙ append-nil events in
      let S : List WorldEvent → Type 0 = λ es. Sends issued t es in
      let A : List WorldEvent → Type 0 = λ es. AreAllSent (issued_after steps issued) (after_steps moment steps t).acked es in
      let saying : Each IsIssueOrSend steps = saying_append (issuing texts) (replicate count gives) (saying_issuing texts) (saying_gives count) in
      let begun : Sends issued t (events ++ is.0) = subst S (sym none) (tick_sends issued s events (running refl) sound holds all) in
      let more = all_send issued is_prompt steps t (world_from w is.0) (events ++ is.0) is.1 saying allowed.1 is.4 begun in
      subst A (append_assoc events is.0 is.1 ∙ ap (λ (es : List WorldEvent). events ++ es) (sym is.2))
      (nothing_left (issued_after steps issued) (after_steps moment steps t) ((events ++ is.0) ++ is.1) (unsent refl) more)
  clock_sends issued is_prompt fact.Ready texts count s w events added whole_turn running unsent sound holds all allowed is =
      all_sent_later issued s.acked (tick_step moment s).acked events added (omega (arith, (tick_flags moment s).acked)) all
  clock_sends issued is_prompt (fact.Ended end) texts count s w events added whole_turn running unsent sound holds all allowed is =
      all_sent_later issued s.acked (tick_step moment s).acked events added (omega (arith, (tick_flags moment s).acked)) all
  clock_sends issued is_prompt fact.Failed texts count s w events added whole_turn running unsent sound holds all allowed is = absurd (whole_turn refl)
  clock_sends issued is_prompt fact.Opened texts count s w events added whole_turn running unsent sound holds all allowed is =
      all_sent_later issued s.acked s.acked events added (omega arith) all
  clock_sends issued is_prompt fact.Closed texts count s w events added whole_turn running unsent sound holds all allowed is =
      all_sent_later issued s.acked s.acked events added (omega arith) all
  clock_sends issued is_prompt fact.NoPort texts count s w events added whole_turn running unsent sound holds all allowed is =
      all_sent_later issued s.acked s.acked events added (omega arith) all

  -- a turn over an open link
  pub talk_sends : (issued : List (List ℕ)) (is_prompt : Bool) (got : Got) (found : LinkFact) (texts : List (List ℕ)) (count : ℕ) (s : SenderData)
      (w : WorldData) (events added : List WorldEvent) → (got ≡ lost → found ≡ fact.Failed) → (found ≡ fact.Failed → ⊥) →
      (found ≡ fact.Quiet → end_by got moment s ≡ None) →
      (found ≡ fact.Quiet → next_of (after_steps moment (steps_over_link got found texts count) s) ≡ None) → IsSound s → HoldsIssued issued s →
      AreAllSent issued s.acked events → AreAllowed moment (steps_over_link got found texts count) s →
      AreAdded moment is_prompt (steps_over_link got found texts count) s w added →
      AreAllSent (issued_after (steps_over_link got found texts count) issued) (after_steps moment (steps_over_link got found texts count) s).acked (events ++ added)
  talk_sends issued is_prompt unasked found texts count s w events added broken whole_turn running unsent sound holds all allowed is =
      all_sent_later issued s.acked s.acked events added (omega arith) all
  talk_sends issued is_prompt lost found texts count s w events added broken whole_turn running unsent sound holds all allowed is =
      absurd (whole_turn (broken refl))
  talk_sends issued is_prompt nothing found texts count s w events added broken whole_turn running unsent sound holds all allowed is =
      let A : List WorldEvent → Type 0 = λ es. AreAllSent (issued_after (clock_steps found texts count) issued) (after_steps moment (clock_steps found texts count) s).acked es in
      let so_far = all_sent_later issued s.acked s.acked events is.0 (omega arith) all in
      subst A (append_assoc events is.0 is.1 ∙ ap (λ (es : List WorldEvent). events ++ es) (sym is.2))
      (clock_sends issued is_prompt found texts count s (world_from w is.0) (events ++ is.0) is.1 whole_turn running unsent sound holds so_far allowed.1 is.4)
  talk_sends issued is_prompt (whole bytes) found texts count s w events added broken whole_turn running unsent sound holds all allowed is =
      let t : SenderData = hear_step (kind_of bytes) moment s in
      let A : List WorldEvent → Type 0 = λ es. AreAllSent (issued_after (clock_steps found texts count) issued) (after_steps moment (clock_steps found texts count) t).acked es in
      let so_far = all_sent_later issued s.acked t.acked events is.0 (hear_rises (kind_of bytes) s) all in
      subst A (append_assoc events is.0 is.1 ∙ ap (λ (es : List WorldEvent). events ++ es) (sym is.2))
      (clock_sends issued is_prompt found texts count t (world_from w is.0) (events ++ is.0) is.1 whole_turn running unsent
      (hears_sound (kind_of bytes) moment s sound) (heard_holds issued (kind_of bytes) s holds) so_far allowed.1 is.4)
