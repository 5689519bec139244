-- How the events of a session join, one after another.
use Rattle.std.proofs.Common.{◌≡◌, inl, inr, ℕ, Bool, true, false, not, ◌&&◌, ◌||◌, List, [], ◌∷◌, ◌++◌, map, drop, refl, sym, ◌∙◌, ap, subst, append_assoc, append-nil, arith}
use Rattle.std.specs.Prelude.{None, if◌then◌else◌}
use Rattle.std.specs.List.{list_all, list_any}
use Rattle.marlin_reply.specs.Kind.{kind_of}
use Rattle.marlin_reply.specs.declared.reply.Reply.{Reply}
use Rattle.printer_model.specs.World.{WorldData, is_empty, is_free, can_happen, apply, world_from}
use Rattle.printer_model.specs.Executed.{opens}
use Rattle.printer_model.specs.Exchanged.{front_line, received_by, is_closed, closes_next}
use Rattle.printer_model.specs.declared.event.WorldEvent.{WorldEvent}
use Rattle.printer_model.specs.declared.event.WorldEvent.TheVariants.{Send, Recv}
use Rattle.printer_model.proofs.Laws.{happens, world_from-append}
use Rattle.printer_model.proofs.Sessions.{opens-append}
use Rattle.printer_model.proofs.Starts.{opens-free}
use Rattle.send_window.specs.Data.{SenderData, NoneEarly}
use Rattle.send_window.specs.Counting.{Traffic, sent, received, received_of, is_resend, acked_as}
use Rattle.send_window.specs.Hearing.{hear_step}
use Rattle.send_window.specs.Session.{hears as sender_hears}
use Rattle.send_window.proofs.Sending.{keeps_kind}
use Rattle.octo_session_line_proof.specs.Pieces.{Each}
use Rattle.octo_session_line_proof.specs.Wires.{Start}
use Rattle.octo_session_line_proof.specs.Stopped.{Fits}
use Rattle.octo_session_line_proof.specs.Traces.{oks_of, CountsOks, HasCounted, HasGreeted, IsTallied, IsStartKnown}
use Rattle.octo_session.specs.Sends.{traffic_by, traffic_from, IsLineAbove, IsSendFit, IsEventFit, AreSendsFit}
use Rattle.octo_session_line_proof.proofs.Lists.{issued_more}
use Rattle.octo_session_line_proof.proofs.Fitting.{all_free_fits, fits_met, hear_fits}
use Rattle.octo_session_line_proof.proofs.Free.{Allows}
use Rattle.octo_session_line_proof.proofs.Heard.{hear_tells, tally_heard}
use Rattle.octo_session_line_proof.proofs.Starting.{starts_more, each_behind, free_starts}
use Rattle.std.proofs.lemmas.Bool.{and_parts}
use Rattle.octo_session_line_proof.proofs.Traffic.{received_of-append, traffic_from-append, traffic_from-free, account_sent}

-- more texts are issued
pub record Extends (issued more : List (List ℕ)) : Type 0 where
  pub added : List (List ℕ)
  pub is : more ≡ issued ++ added

pub extends_none : (issued : List (List ℕ)) → Extends issued issued
extends_none issued = record { added = []; is = sym (append-nil issued) }

pub extends_then : (a b c : List (List ℕ)) → Extends a b → Extends b c → Extends a c
extends_then a b c first second = record {
  added = first.added ++ second.added;
  is = second.is ∙ ap (λ (l : List (List ℕ)). l ++ second.added) first.is ∙ append_assoc a first.added second.added;
}

closes_more : (xs ys : List WorldEvent) → closes_next xs ≡ true → closes_next (xs ++ ys) ≡ true
closes_more [] ys closes = absurd (cc)
closes_more (event ∷ xs) ys closes = closes_by (is_closed event) (is_free event) closes (closes_more xs ys)
  where
    closes_by : (a b : Bool) → (a || (b && closes_next xs)) ≡ true → (closes_next xs ≡ true → closes_next (xs ++ ys) ≡ true) →
        (a || (b && closes_next (xs ++ ys))) ≡ true
    closes_by true b closes later = refl
    closes_by false true closes later = later closes
    closes_by false false closes later = absurd (cc)

line_above_more : (issued more : List (List ℕ)) (acked : ℕ) (bytes : List ℕ) → Extends issued more → IsLineAbove issued acked bytes →
    IsLineAbove more acked bytes
line_above_more issued more acked bytes ext line =
    let L : List (List ℕ) → Type 0 = λ texts. IsLineAbove texts acked bytes in
    subst L (sym ext.is) (record {
      place = line.place;
      text = line.text;
      above = line.above;
      its = issued_more issued ext.added line.place line.text line.its;
      framed = line.framed;
    })

send_more : (numbered : Bool) (issued more : List (List ℕ)) (acked : ℕ) (bytes : List ℕ) (xs ys : List WorldEvent) → Extends issued more →
    IsSendFit numbered issued acked bytes xs → IsSendFit numbered more acked bytes (xs ++ ys)
send_more numbered issued more acked bytes xs ys ext (inl greets) = inl greets
send_more numbered issued more acked bytes xs ys ext (inr (inl line)) = inr (inl (line_above_more issued more acked bytes ext line))
send_more numbered issued more acked bytes xs ys ext (inr (inr failed)) = inr (inr (failed.0, closes_more xs ys failed.1))

event_more : (numbered : Bool) (issued more : List (List ℕ)) (acked : ℕ) (event : WorldEvent) (xs ys : List WorldEvent) → Extends issued more →
    IsEventFit numbered issued acked event xs → IsEventFit numbered more acked event (xs ++ ys)
event_more numbered issued more acked (Send line) xs ys ext fit = send_more numbered issued more acked line.items xs ys ext fit
event_more numbered issued more acked _ xs ys ext fit = tt

traffic_first : (traffic : List Traffic) (w : WorldData) (event : WorldEvent) (xs : List WorldEvent) →
    traffic ++ traffic_from w (event ∷ xs) ≡ (traffic ++ traffic_by w event) ++ traffic_from (apply w event) xs
traffic_first traffic w event xs = sym (append_assoc traffic (traffic_by w event) (traffic_from (apply w event) xs))

-- the lines sent in two parts
pub fits_append : (numbered : Bool) (issued more : List (List ℕ)) (traffic : List Traffic) (w : WorldData) (xs ys : List WorldEvent) → Extends issued more →
    AreSendsFit numbered issued traffic w xs → AreSendsFit numbered more (traffic ++ traffic_from w xs) (world_from w xs) ys → AreSendsFit numbered more traffic w (xs ++ ys)
fits_append numbered issued more traffic w [] ys ext first second =
    let F : List Traffic → Type 0 = λ l. AreSendsFit numbered more l w ys in
    subst F (append-nil traffic) second
fits_append numbered issued more traffic w (event ∷ xs) ys ext first second =
    let F : List Traffic → Type 0 = λ l. AreSendsFit numbered more l (world_from (apply w event) xs) ys in (
      event_more numbered issued more (acked_as numbered traffic) event xs ys ext first.0,
      fits_append numbered issued more (traffic ++ traffic_by w event) (apply w event) xs ys ext first.1 (subst F (traffic_first traffic w event xs) second),
    )

free_event_fits : (numbered : Bool) (issued : List (List ℕ)) (acked : ℕ) (event : WorldEvent) (xs : List WorldEvent) → is_free event ≡ true →
    IsEventFit numbered issued acked event xs
free_event_fits numbered issued acked (Send line) xs free = absurd (cc)
free_event_fits numbered issued acked _ xs free = tt

fits_free : (numbered : Bool) (issued : List (List ℕ)) (traffic : List Traffic) (w : WorldData) (events : List WorldEvent) → list_all is_free events ≡ true →
    AreSendsFit numbered issued traffic w events
fits_free numbered issued traffic w [] free = tt
fits_free numbered issued traffic w (event ∷ events) free = (
  free_event_fits numbered issued (acked_as numbered traffic) event events (and_parts (is_free event) (list_all is_free events) free).0,
  fits_free numbered issued (traffic ++ traffic_by w event) (apply w event) events (and_parts (is_free event) (list_all is_free events) free).1,
)

-- these events lead a session on
pub record Leads (start : Start) (issued more : List (List ℕ)) (t : SenderData) (w : WorldData) (traffic : List Traffic) (added : List WorldEvent) : Type 0 where
  pub same_session : opens added ≡ 0
  pub extends : Extends issued more
  pub meets : Fits start more t (world_from w added)
  pub tallied : IsTallied (traffic ++ traffic_from w added) t
  pub sends : AreSendsFit start.numbered more traffic w added
  pub starts : (events : List WorldEvent) → Each (IsStartKnown events) w.down → Each (IsStartKnown (events ++ added)) (world_from w added).down

module _ (start : Start) where
  pub leads_then : (a b c : List (List ℕ)) (t u : SenderData) (w : WorldData) (traffic : List Traffic) (xs ys : List WorldEvent) →
      Leads start a b t w traffic xs → Leads start b c u (world_from w xs) (traffic ++ traffic_from w xs) ys → Leads start a c u w traffic (xs ++ ys)
  leads_then a b c t u w traffic xs ys first second =
      let M : WorldData → Type 0 = λ v. Fits start c u v in
      let T : List Traffic → Type 0 = λ l. IsTallied l u in
      let joined : (traffic ++ traffic_from w xs) ++ traffic_from (world_from w xs) ys ≡ traffic ++ traffic_from w (xs ++ ys) =
      append_assoc traffic (traffic_from w xs) (traffic_from (world_from w xs) ys) ∙ ap (λ (l : List Traffic). traffic ++ l) (sym (traffic_from-append w xs ys))
      in
      record {
        same_session = omega (arith, opens-append xs ys, first.same_session, second.same_session);
        extends = extends_then a b c first.extends second.extends;
        meets = subst M (sym (world_from-append w xs ys)) second.meets;
        tallied = subst T joined second.tallied;
        sends = fits_append start.numbered b c traffic w xs ys second.extends first.sends second.sends;
        starts = λ events all. (
            let W : WorldData → Type 0 = λ v. Each (IsStartKnown (events ++ (xs ++ ys))) v.down in
            let E : List WorldEvent → Type 0 = λ es. Each (IsStartKnown es) (world_from (world_from w xs) ys).down in
            subst W (sym (world_from-append w xs ys)) (subst E (append_assoc events xs ys) (second.starts (events ++ xs) (first.starts events all))));
      }

  -- no event
  pub leads_none : (issued more : List (List ℕ)) (t : SenderData) (w : WorldData) (traffic : List Traffic) → Extends issued more → Fits start more t w →
      IsTallied traffic t → Leads start issued more t w traffic []
  leads_none issued more t w traffic ext m tallied =
      let T : List Traffic → Type 0 = λ l. IsTallied l t in
      record { same_session = refl; extends = ext; meets = m; tallied = subst T (sym (append-nil traffic)) tallied; sends = tt; starts = λ events all. starts_more events [] w.down all }

  -- what the line and the printer do
  pub leads_free : (issued : List (List ℕ)) (s : SenderData) (w : WorldData) (traffic : List Traffic) (events : List WorldEvent) →
      list_all is_free events ≡ true → Allows start events → Fits start issued s w → IsTallied traffic s → Leads start issued issued s w traffic events
  leads_free issued s w traffic events free allows m tallied =
      let T : List Traffic → Type 0 = λ l. IsTallied l s in
      let none : traffic ≡ traffic ++ traffic_from w events = sym (append-nil traffic) ∙ ap (λ (l : List Traffic). traffic ++ l) (sym (traffic_from-free w events free)) in
      record {
        same_session = opens-free events free;
        extends = extends_none issued;
        meets = all_free_fits start issued s w events free allows m;
        tallied = subst T none tallied;
        sends = fits_free start.numbered issued traffic w events free;
        starts = λ before all. free_starts start issued s w before events free allows m all;
      }

  -- a reply is received and heard
  pub leads_recv : (issued : List (List ℕ)) (moment : ℕ) (s : SenderData) (w : WorldData) (traffic : List Traffic) (line : List ℕ) (rest : List (List ℕ)) →
      w.linked ≡ true → s.ended ≡ None → w.down ≡ line ∷ rest → Fits start issued s w → NoneEarly s → HasGreeted s.numbered traffic s → IsTallied traffic s →
      Leads start issued issued (hear_step (kind_of line) moment s) w traffic (Recv ∷ [])
  leads_recv issued moment s w traffic line rest on running front m fresh greets tallied =
      let can : can_happen w Recv ≡ true = ap (λ (b : Bool). b && not (is_empty w.down)) on ∙ ap (λ (l : List (List ℕ)). not (is_empty l)) front in
      let M : WorldData → Type 0 = λ v. Fits start issued (hear_step (kind_of line) moment s) v in
      let T : List (List ℕ) → Type 0 = λ l. IsTallied (traffic ++ (map (λ x. received (kind_of x)) l ++ [])) (hear_step (kind_of line) moment s) in
      let got : received_by w Recv ≡ line ∷ [] = ap (λ (b : Bool). if b then front_line w.down else []) on ∙ ap front_line front in
      record {
        same_session = refl;
        extends = extends_none issued;
        meets = subst M (sym (happens w Recv can)) (hear_fits start issued moment s w line rest on running front fresh m);
        tallied = subst T (sym got) (tally_heard traffic (kind_of line) s (hear_step (kind_of line) moment s) (keeps_kind (sender_hears (kind_of line) moment) s) greets tallied (hear_tells start issued moment s w line rest on running front (fits_met start issued s w fresh m)));
        sends = (tt, tt);
        starts = λ events all. (let E : WorldData → Type 0 = λ v. Each (IsStartKnown (events ++ Recv ∷ [])) v.down in
            subst E (sym (happens w Recv can)) (starts_more events (Recv ∷ []) (drop 1 w.down) (each_behind (IsStartKnown events) w.down all)));
      }

  -- a sender that returned a line has counted as before
  counts_same : (traffic : List Traffic) (s t : SenderData) (numbered : Bool) → t.swallow ≡ s.swallow → t.ready ≡ s.ready → t.acked ≡ s.acked →
      HasCounted numbered traffic s → HasCounted numbered traffic t
  counts_same traffic s t false swallow ready acked old = record {
    pending = swallow ∙ old.pending;
    counted = ap (λ (b : Bool). oks_of b t.acked) ready ∙ ap (λ (n : ℕ). oks_of s.ready n) acked ∙ old.counted;
  }
  counts_same traffic s t true swallow ready acked old = record { greeted = ready ∙ old.greeted; named = acked ∙ old.named }

  pub tally_same : (traffic : List Traffic) (s t : SenderData) → t.numbered ≡ s.numbered → t.swallow ≡ s.swallow → t.ready ≡ s.ready → t.acked ≡ s.acked →
      (t.asked_anew ≡ true → s.asked_anew ≡ true) → IsTallied traffic s → IsTallied traffic t
  tally_same traffic s t kind swallow ready acked asks old =
      let K : Bool → Type 0 = λ b. HasCounted b traffic t in
      record { counts = subst K (sym kind) (counts_same traffic s t s.numbered swallow ready acked old.counts); asked = λ a. old.asked (asks a) }

  -- a line was sent
  counts_sent : (traffic : List Traffic) (s t : SenderData) (numbered : Bool) → HasCounted numbered traffic t → HasCounted numbered (traffic ++ sent ∷ []) t
  counts_sent traffic s t false old =
      let C : List Reply → Type 0 = λ l. CountsOks l t in
      subst C (sym (append-nil (received_of traffic)) ∙ sym (received_of-append traffic (sent ∷ []))) old
  counts_sent traffic s t true old =
      let keeps = account_sent traffic in
      record { greeted = old.greeted ∙ sym keeps.0; named = old.named ∙ sym keeps.1 }

  pub tally_sent : (traffic : List Traffic) (s t : SenderData) → t.numbered ≡ s.numbered → t.swallow ≡ s.swallow → t.ready ≡ s.ready → t.acked ≡ s.acked →
      (t.asked_anew ≡ true → s.asked_anew ≡ true) → IsTallied traffic s → IsTallied (traffic ++ sent ∷ []) t
  tally_sent traffic s t kind swallow ready acked asks old =
      let same : IsTallied traffic t = tally_same traffic s t kind swallow ready acked asks old in
      let replies : received_of (traffic ++ sent ∷ []) ≡ received_of traffic = received_of-append traffic (sent ∷ []) ∙ append-nil (received_of traffic) in
      record { counts = counts_sent traffic s t t.numbered same.counts; asked = λ a. ap (list_any is_resend) replies ∙ same.asked a }
