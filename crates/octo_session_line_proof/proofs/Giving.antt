-- What a sender returns next, and how it is sent.
use Rattle.std.proofs.Common.{◌≡◌, inl, inr, ℕ, suc, ◌+◌, ◌≤◌, Bool, true, false, ◌&&◌, List, [], ◌∷◌, ◌++◌, refl, sym, ◌∙◌, ap, subst, append-nil, append_assoc, arith}
use Rattle.std.specs.Prelude.{Some}
use Rattle.std.proofs.lemmas.Grind.{common_steps}
use Rattle.std.proofs.lemmas.Option.{gets}
use Rattle.std.proofs.lemmas.Bool.{and_from, or_right, and_parts}
use Rattle.std.specs.List.{list_all}
use Rattle.arrayvec.specs.ArrayVec.{ArrayVec}
use Rattle.marlin_frame.specs.Frame.{fails}
use Rattle.marlin_reply.specs.declared.reply.Reply.{Reply}
use Rattle.printer_model.specs.World.{WorldData, is_free, fits_wire, can_happen, happen, apply, world_from}
use Rattle.printer_model.specs.Exchanged.{is_closed, closes_next}
use Rattle.printer_model.specs.declared.event.WorldEvent.{WorldEvent}
use Rattle.printer_model.specs.declared.event.WorldEvent.TheVariants.{Send, Closed}
use Rattle.printer_model.proofs.Laws.{happens, after_event, world_from-linked}
use Rattle.send_window.specs.Data.{SenderData, IsSound, NoneEarly}
use Rattle.send_window.specs.Counting.{Traffic, sent as goes, received_of, acked_of, acked_as}
use Rattle.send_window.specs.Laws.{IsUnacknowledged}
use Rattle.send_window.specs.Sending.{Outgoing, hello, line, bytes_of_outgoing, hello_with, next_of, frame_step}
use Rattle.send_window.specs.Session.{HoldsIssued}
use Rattle.octo_session_line_proof.specs.Pieces.{Each, greeting, command, Sent, intact, corrupted, bytes_on, IsFailing}
use Rattle.octo_session.specs.Sends.{IsIssued, IsHello, IsSendFit, traffic_from}
use Rattle.octo_session_line_proof.specs.Wires.{Start}
use Rattle.octo_session_line_proof.specs.Stopped.{IsSentFirst, lines_up, Fits, met, stopped}
use Rattle.octo_session_line_proof.specs.Traces.{oks_of, CountsOks, HasCounted, IsTallied, IsStartKnown}
use Rattle.octo_session_line_proof.proofs.Free.{Allows}
use Rattle.octo_session_line_proof.proofs.Starting.{starts_more}
use Rattle.octo_session_line_proof.proofs.Flags.{MaySend, give_flags}
use Rattle.octo_session_line_proof.proofs.Sending.{sent_meets}
use Rattle.octo_session_line_proof.proofs.Fitting.{closed_fits, fits_holds, fits_kind, fits_sound, give_fits}
use Rattle.octo_session_line_proof.proofs.Stopping.{failing_moves, hello_moves, line_moves, sent_stopped}
use Rattle.octo_session_line_proof.proofs.Tracing.{Leads, extends_none, leads_then, leads_none, leads_free, tally_same, tally_sent}

-- what is returned is the hello or a line above acked
hello_unready : (s : SenderData) (number : ℕ) → IsSound s → next_of s ≡ Some (hello number) → s.ready ≡ false
hello_unready s number sound is = grind (arith, common_steps)

pub line_held : (s : SenderData) (texts : List (List ℕ)) (place : ℕ) (text : List ℕ) → IsSound s → HoldsIssued texts s → next_of s ≡ Some (line place text) →
    IsUnacknowledged texts s place text
line_held s texts place text sound holds is = grind (arith, common_steps, gets)

-- a sender that returned something doesn't owe the hello
pub given_undue : (moment : ℕ) (s : SenderData) (next : Outgoing) → IsSound s → next_of s ≡ Some next → (frame_step moment s).hello_due ≡ false
given_undue moment s (hello number) sound is = grind (arith, common_steps)
given_undue moment s (line place text) sound is = grind (arith, common_steps)

hello_is_due : (s : SenderData) (number : ℕ) → next_of s ≡ Some (hello number) → s.hello_due ≡ true
hello_is_due s number is = grind (arith, common_steps)

-- the hello has the next number, of which one was left, and 0 if `ok`s are counted
hello_is_next : (s : SenderData) (number : ℕ) → next_of s ≡ Some (hello number) → number ≡ s.hellos
hello_is_next s number is = grind (arith, common_steps)

-- while the hello is due nothing else is returned, and one more was sent then
given_next : (moment : ℕ) (s : SenderData) (next : Outgoing) → next_of s ≡ Some next → s.numbered ≡ true → s.hello_due ≡ true →
    (frame_step moment s).hellos ≡ suc s.hellos
given_next moment s next is named due = grind (arith, common_steps)

some_is_due : (s : SenderData) (texts : List (List ℕ)) (next : Outgoing) → IsSound s → NoneEarly s → HoldsIssued texts s → next_of s ≡ Some next → s.ready ≡ false → s.hello_due ≡ true
some_is_due s texts (hello number) sound fresh holds is unready = hello_is_due s number is
some_is_due s texts (line place text) sound fresh holds is unready =
    let its = line_held s texts place text sound holds is in
    absurd (omega (arith, its.above_acked, its.was_issued, fresh unready))

-- how many lines are acknowledged
counted_acked : (replies : List Reply) (s : SenderData) (ready : Bool) → s.ready ≡ ready → IsSound s → CountsOks replies s → acked_of replies ≡ s.acked
counted_acked replies s true is sound tallied =
    let count : oks_of s.ready s.acked ≡ s.acked + 1 = ap (λ (b : Bool). oks_of b s.acked) is in
    omega (arith, count, tallied.counted)
counted_acked replies s false is sound tallied =
    let count : oks_of s.ready s.acked ≡ 0 = ap (λ (b : Bool). oks_of b s.acked) is in
    omega (arith, count, tallied.counted, sound.none_acked is)

acked_by : (traffic : List Traffic) (s : SenderData) (numbered : Bool) → IsSound s → HasCounted numbered traffic s → acked_as numbered traffic ≡ s.acked
acked_by traffic s false sound counts = counted_acked (received_of traffic) s s.ready refl sound counts
acked_by traffic s true sound names = sym names.named

pub tally_acked : (traffic : List Traffic) (s : SenderData) (numbered : Bool) → s.numbered ≡ numbered → IsSound s → IsTallied traffic s → acked_as numbered traffic ≡ s.acked
tally_acked traffic s numbered kind sound tallied =
    let K : Bool → Type 0 = λ b. HasCounted b traffic s in
    acked_by traffic s numbered sound (subst K kind tallied.counts)

-- what a line that is returned is on the wire
sent_as : Outgoing → Sent
sent_as (hello number) = intact (greeting number)
sent_as (line place text) = intact (command place text)

bytes_as : (next : Outgoing) → bytes_of_outgoing next ≡ bytes_on (sent_as next)
unfolding sent_as
bytes_as (hello number) = refl
bytes_as (line place text) = refl

line_issued : (issued : List (List ℕ)) (s : SenderData) (place : ℕ) (text : List ℕ) → IsUnacknowledged issued s place text → IsIssued issued place text
line_issued issued s place text is = record { counted = omega (arith, is.above_acked); found = is.its_text }

may_send : (issued : List (List ℕ)) (s : SenderData) (next : Outgoing) → IsSound s → NoneEarly s → HoldsIssued issued s → next_of s ≡ Some next →
    MaySend issued s (sent_as next)
unfolding sent_as
may_send issued s (hello number) sound fresh holds is = record {
  early_so = λ unready. (omega (arith, hello_is_next s number is, sound.hello_left (hello_is_due s number is)), hello_is_due s number is);
  numbered_so = hello_is_next s number is;
  late_so = λ (ready : s.ready ≡ true). (let unready : s.ready ≡ false = hello_unready s number sound is in absurd (cc));
}
may_send issued s (line place text) sound fresh holds is =
    let its = line_held s issued place text sound holds is in
    record {
      early_so = λ unready. absurd (omega (arith, its.above_acked, its.was_issued, fresh unready));
      numbered_so = tt;
      late_so = λ ready. line_issued issued s place text its;
    }

may_send_failing : (issued : List (List ℕ)) (s : SenderData) (next : Outgoing) (bytes : List ℕ) → IsSound s → NoneEarly s → HoldsIssued issued s → next_of s ≡ Some next → IsFailing bytes →
    MaySend issued s (corrupted bytes)
may_send_failing issued s next bytes sound fresh holds is failing = record {
  early_so = λ unready. (failing, some_is_due s issued next sound fresh holds is unready);
  numbered_so = tt;
  late_so = λ ready. failing;
}

-- what goes out after a line was issued before the `ok` of the hello
first_sent : (issued : List (List ℕ)) (s : SenderData) (next : Outgoing) → IsSound s → HoldsIssued issued s → s.ready ≡ false → next_of s ≡ Some next →
    IsSentFirst issued (sent_as next)
unfolding sent_as
first_sent issued s (hello number) sound holds unready is = omega (arith, hello_is_next s number is, sound.hello_left (hello_is_due s number is))
first_sent issued s (line place text) sound holds unready is =
    let its = line_held s issued place text sound holds is in
    (its.only_first unready, line_issued issued s place text its)

sent_moves : (moment : ℕ) (s : SenderData) (next : Outgoing) → next_of s ≡ Some next → lines_up (sent_as next ∷ []) + s.cursor ≤ (frame_step moment s).cursor
unfolding sent_as
sent_moves moment s (hello number) is = hello_moves moment s number
sent_moves moment s (line place text) is = line_moves moment s place text is

-- a hello that is returned has a number of its own, or the number 0
its_hello : (numbered : Bool) (s : SenderData) (number : ℕ) (bytes : List ℕ) → s.numbered ≡ numbered → IsSound s → next_of s ≡ Some (hello number) →
    bytes ≡ hello_with number → IsHello numbered bytes
its_hello false s number bytes kind sound is written = written ∙ ap hello_with (hello_is_next s number is ∙ sound.one_number kind)
its_hello true s number bytes kind sound is written = (number, omega (arith, hello_is_next s number is, sound.hello_left (hello_is_due s number is)), written)

send_fits : (numbered : Bool) (issued : List (List ℕ)) (s : SenderData) (traffic : List Traffic) (next : Outgoing) (bytes : List ℕ) (behind : List WorldEvent) → s.numbered ≡ numbered → IsSound s →
    HoldsIssued issued s → IsTallied traffic s → next_of s ≡ Some next → bytes ≡ bytes_of_outgoing next → IsSendFit numbered issued (acked_as numbered traffic) bytes behind
send_fits numbered issued s traffic (hello number) bytes behind kind sound holds tallied is written = inl (its_hello numbered s number bytes kind sound is written)
send_fits numbered issued s traffic (line place text) bytes behind kind sound holds tallied is written =
    let its = line_held s issued place text sound holds is in
    let acked : acked_as numbered traffic ≡ s.acked = tally_acked traffic s numbered kind sound tallied in
    inr (inl (record {
      place = place;
      text = text;
      above = omega (arith, acked, its.above_acked);
      its = line_issued issued s place text its;
      framed = written;
    }))

-- what the line and the printer do before a link is closed
closes_free : (events : List WorldEvent) → list_all is_free events ≡ true → closes_next (events ++ Closed ∷ []) ≡ true
closes_free [] free = refl
closes_free (event ∷ events) free =
    or_right (is_closed event) (is_free event && closes_next (events ++ Closed ∷ []))
    (and_from (is_free event) (closes_next (events ++ Closed ∷ [])) (and_parts (is_free event) (list_all is_free events) free).0
    (closes_free events (and_parts (is_free event) (list_all is_free events) free).1))

sent_starts : (w : WorldData) (sent : ArrayVec ℕ) (events : List WorldEvent) → Each (IsStartKnown events) w.down →
    Each (IsStartKnown (events ++ Send sent ∷ [])) (apply w (Send sent)).down
sent_starts w sent events all =
    after_event (λ v. Each (IsStartKnown (events ++ Send sent ∷ [])) v.down) w (Send sent) (starts_more events (Send sent ∷ []) w.down all) (λ can. starts_more events (Send sent ∷ []) w.down all)

-- what is returned is sent, or a line that fails in its place
sent_fits : (start : Start) (issued : List (List ℕ)) (moment : ℕ) (s : SenderData) (w : WorldData) (next : Outgoing) (bytes : List ℕ) → w.linked ≡ true →
    next_of s ≡ Some next → bytes ≡ bytes_on (sent_as next) → Fits start issued s w → Fits start issued (frame_step moment s) (record w { up = w.up ++ bytes ∷ [] })
sent_fits start issued moment s w next bytes on is written (met m) =
    let n = m.numbers in
    met (sent_meets start issued moment s w (sent_as next) bytes on written (given_undue moment s next n.sound is) (given_next moment s next is)
    (may_send issued s next n.sound m.begun.none_early n.holds is) m)
sent_fits start issued moment s w next bytes on is written (stopped m) =
    stopped (sent_stopped start issued moment s w (sent_as next) bytes written (first_sent issued s next m.sound m.holds m.unready is) (sent_moves moment s next is) m)

failing_fits : (start : Start) (issued : List (List ℕ)) (moment : ℕ) (s : SenderData) (w : WorldData) (next : Outgoing) (bytes : List ℕ) → w.linked ≡ true →
    next_of s ≡ Some next → IsFailing bytes → Fits start issued s w → Fits start issued (frame_step moment s) (record w { up = w.up ++ bytes ∷ [] })
failing_fits start issued moment s w next bytes on is failing (met m) =
    let n = m.numbers in
    met (sent_meets start issued moment s w (corrupted bytes) bytes on refl (given_undue moment s next n.sound is) (given_next moment s next is)
    (may_send_failing issued s next bytes n.sound m.begun.none_early n.holds is failing) m)
failing_fits start issued moment s w next bytes on is failing (stopped m) =
    stopped (sent_stopped start issued moment s w (corrupted bytes) bytes refl failing (failing_moves moment s bytes) m)

module _ (start : Start) (issued : List (List ℕ)) where
  -- the link is closed
  pub leads_closed : (s : SenderData) (w : WorldData) (traffic : List Traffic) → w.linked ≡ true → Fits start issued s w → IsTallied traffic s →
      Leads start issued issued s w traffic (Closed ∷ [])
  leads_closed s w traffic on m tallied =
      let M : WorldData → Type 0 = λ v. Fits start issued s v in
      let T : List Traffic → Type 0 = λ l. IsTallied l s in
      record {
        same_session = refl;
        extends = extends_none issued;
        meets = subst M (sym (happens w Closed on)) (closed_fits start issued s w m);
        tallied = subst T (sym (append-nil traffic)) tallied;
        sends = (tt, tt);
        starts = λ events all. (let E : WorldData → Type 0 = λ v. Each (IsStartKnown (events ++ Closed ∷ [])) v.down in subst E (sym (happens w Closed on)) tt);
      }

  -- after what the line and the printer do
  pub leads_loss : (s : SenderData) (w : WorldData) (traffic : List Traffic) (events : List WorldEvent) → list_all is_free events ≡ true → Allows start events → w.linked ≡ true →
      Fits start issued s w → IsTallied traffic s → Leads start issued issued s w traffic (events ++ Closed ∷ [])
  leads_loss s w traffic events free allows on m tallied =
      let first = leads_free start issued s w traffic events free allows m tallied in
      let still : (world_from w events).linked ≡ true = world_from-linked w events free ∙ on in
      leads_then start issued issued issued s s w traffic events (Closed ∷ []) first
      (leads_closed s (world_from w events) (traffic ++ traffic_from w events) still first.meets first.tallied)

  -- a line is returned, and nothing is known of it yet
  pub leads_given : (moment : ℕ) (s : SenderData) (w : WorldData) (traffic : List Traffic) → Fits start issued s w → IsTallied traffic s →
      Leads start issued issued (frame_step moment s) w traffic []
  leads_given moment s w traffic m tallied =
      let flags = give_flags moment s in
      leads_none start issued issued (frame_step moment s) w traffic (extends_none issued) (give_fits start issued moment s w m)
      (tally_same start traffic s (frame_step moment s) flags.kind flags.swallow flags.ready flags.acked flags.asks tallied)

  -- what is returned is sent
  pub leads_sent : (moment : ℕ) (s : SenderData) (w : WorldData) (traffic : List Traffic) (next : Outgoing) (sent : ArrayVec ℕ) → next_of s ≡ Some next →
      sent.items ≡ bytes_of_outgoing next → can_happen w (Send sent) ≡ true → Fits start issued s w → IsTallied traffic s →
      Leads start issued issued (frame_step moment s) w traffic (Send sent ∷ [])
  leads_sent moment s w traffic next sent is written can m tallied =
      let on : w.linked ≡ true = (and_parts w.linked (fits_wire sent.items) can).0 in
      let t = frame_step moment s in
      let M : WorldData → Type 0 = λ v. Fits start issued t v in
      let flags = give_flags moment s in
      record {
        same_session = refl;
        extends = extends_none issued;
        meets = subst M (sym (happens w (Send sent) can))
            (sent_fits start issued moment s w next sent.items on is (written ∙ bytes_as next) m);
        tallied = tally_sent start traffic s t flags.kind flags.swallow flags.ready flags.acked flags.asks tallied;
        sends = (send_fits start.numbered issued s traffic next sent.items [] (fits_kind start issued s w m) (fits_sound start issued s w m) (fits_holds start issued s w m) tallied is written, tt);
        starts = λ events all. sent_starts w sent events all;
      }

  -- a line that fails is sent in its place, and the link is closed
  pub leads_failing : (moment : ℕ) (s : SenderData) (w : WorldData) (traffic : List Traffic) (next : Outgoing) (sent : ArrayVec ℕ) (behind : List WorldEvent) →
      next_of s ≡ Some next → fails sent.items ≡ true → can_happen w (Send sent) ≡ true → list_all is_free behind ≡ true → Allows start behind → Fits start issued s w →
      IsTallied traffic s → Leads start issued issued (frame_step moment s) w traffic (Send sent ∷ (behind ++ Closed ∷ []))
  leads_failing moment s w traffic next sent behind is failing can free allows m tallied =
      let on : w.linked ≡ true = (and_parts w.linked (fits_wire sent.items) can).0 in
      let t = frame_step moment s in
      let flags = give_flags moment s in
      let v : WorldData = happen w (Send sent) in
      let same : v ≡ apply w (Send sent) = sym (happens w (Send sent) can) in
      let fit : Fits start issued t v = failing_fits start issued moment s w next sent.items on is failing m in
      let told : IsTallied (traffic ++ goes ∷ []) t = tally_sent start traffic s t flags.kind flags.swallow flags.ready flags.acked flags.asks tallied in
      let L : WorldData → Type 0 = λ u. Leads start issued issued t u (traffic ++ goes ∷ []) (behind ++ Closed ∷ []) in
      let led : Leads start issued issued t (apply w (Send sent)) (traffic ++ goes ∷ []) (behind ++ Closed ∷ []) = subst L same (leads_loss t v (traffic ++ goes ∷ []) behind free allows on fit told) in
      let T : List Traffic → Type 0 = λ l. IsTallied l t in
      record {
        same_session = led.same_session;
        extends = led.extends;
        meets = led.meets;
        tallied = subst T (append_assoc traffic (goes ∷ []) (traffic_from (apply w (Send sent)) (behind ++ Closed ∷ []))) led.tallied;
        sends = (inr (inr (failing, closes_free behind free)), led.sends);
        starts = λ events all. (let E : List WorldEvent → Type 0 = λ es. Each (IsStartKnown es) (world_from (apply w (Send sent)) (behind ++ Closed ∷ [])).down in
            subst E (append_assoc events (Send sent ∷ []) (behind ++ Closed ∷ [])) (led.starts (events ++ Send sent ∷ []) (sent_starts w sent events all)));
      }
