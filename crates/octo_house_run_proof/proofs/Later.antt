-- What is sent in a session after its history had come so far.
use Rattle.std.proofs.Common.{◌≡◌, inl, inr, ℕ, pred, ◌+◌, ◌≤◌, Bool, true, false, List, [], ◌∷◌, ◌++◌, length, drop, refl, sym, ◌∙◌, ap, subst, append_assoc, append-nil, arith}
use Rattle.std.specs.Prelude.{Option, None, Some}
use Rattle.std.proofs.lemmas.Grind.{common_steps}
use Rattle.std.proofs.lemmas.List.{drop-append-le, length-append}
use Rattle.marlin_reply.specs.declared.reply.Reply.{Reply}
use Rattle.printer_model.specs.World.{WorldData, apply, world_from}
use Rattle.printer_model.specs.Executed.{opens, till}
use Rattle.printer_model.specs.Exchanged.{events_of_session}
use Rattle.printer_model.specs.declared.event.WorldEvent.{WorldEvent}
use Rattle.printer_model.specs.declared.event.WorldEvent.TheVariants.{Opened, Send, Arrive, Lose, LoseReply, Garble, Run, Restart, Chatter, Recv, Closed}
use Rattle.printer_model.proofs.Sessions.{till-append, till-all, till-IsFront}
use Rattle.printer_link.specs.Link.{LinkKind, world_in}
use Rattle.send_window.specs.Counting.{Traffic, sent, received, received_of, Account, name_in, with_name, with_traffic, after_traffic, acked_of, acked_as}
use Rattle.send_window.proofs.Named.{after_traffic-append}
use Rattle.send_window.proofs.OwnOks.{counts_next}
use Rattle.octo_asks.specs.History.{History}
use Rattle.octo_session.specs.Sends.{traffic_by, traffic_from, IsSendFit, AreSendsFit}
use Rattle.octo_session.specs.Tied.{world_before, IsTied}
use Rattle.octo_house_rules.specs.Sessions.{sessions, session_texts, acked_in}
use Rattle.octo_house_run_proof.specs.Tied.{IsAbove, AreAbove}
use Rattle.octo_house_rules.specs.Tied.{Tied}
use Rattle.octo_house_run_proof.proofs.LineEntries.{sessions-append}
use Rattle.octo_session_line_proof.proofs.Former.{pred_less}
use Rattle.octo_session_line_proof.proofs.Traffic.{received_of-append}

-- the last session of a history goes on until the next one
till_past : (past more : List WorldEvent) → till (opens past) (past ++ more) ≡ past ++ till 0 more
till_past [] more = refl
till_past (Opened last ∷ past) more = ap (λ (es : List WorldEvent). Opened last ∷ es) (till_past past more)
till_past (Send line ∷ past) more = ap (λ (es : List WorldEvent). Send line ∷ es) (till_past past more)
till_past (Arrive ∷ past) more = ap (λ (es : List WorldEvent). Arrive ∷ es) (till_past past more)
till_past (Lose at ∷ past) more = ap (λ (es : List WorldEvent). Lose at ∷ es) (till_past past more)
till_past (LoseReply at ∷ past) more = ap (λ (es : List WorldEvent). LoseReply at ∷ es) (till_past past more)
till_past (Garble at line ∷ past) more = ap (λ (es : List WorldEvent). Garble at line ∷ es) (till_past past more)
till_past (Run ∷ past) more = ap (λ (es : List WorldEvent). Run ∷ es) (till_past past more)
till_past (Restart ∷ past) more = ap (λ (es : List WorldEvent). Restart ∷ es) (till_past past more)
till_past (Chatter reply ∷ past) more = ap (λ (es : List WorldEvent). Chatter reply ∷ es) (till_past past more)
till_past (Recv ∷ past) more = ap (λ (es : List WorldEvent). Recv ∷ es) (till_past past more)
till_past (Closed ∷ past) more = ap (λ (es : List WorldEvent). Closed ∷ es) (till_past past more)

-- the events of a session in two parts
session_past : (past more : List WorldEvent) (s : ℕ) → s ≡ opens past → 1 ≤ s → events_of_session s (past ++ more) ≡ events_of_session s past ++ till 0 more
session_past past more s is some =
    let before : till (pred s) (past ++ more) ≡ till (pred s) past = till-append (pred s) past more (omega (arith, pred_less s some, is)) in
    let here : till s (past ++ more) ≡ past ++ till 0 more = ap (λ (n : ℕ). till n (past ++ more)) is ∙ till_past past more in
    let whole : till s past ≡ past = till-all s past (omega (arith, is)) in
    let part = till-IsFront (pred s) past in
    let within : length (till (pred s) past) ≤ length past = omega (arith, ap length part.is, length-append (till (pred s) past) part.after) in
    ap (λ (es : List WorldEvent). drop (length es) (till s (past ++ more))) before
    ∙ ap (drop (length (till (pred s) past))) here
    ∙ drop-append-le (length (till (pred s) past)) past (till 0 more) within
    ∙ sym (ap (λ (es : List WorldEvent). drop (length (till (pred s) past)) es ++ till 0 more) whole)

-- the sendings of the second part
fits_later : (numbered : Bool) (issued : List (List ℕ)) (traffic : List Traffic) (w : WorldData) (xs ys : List WorldEvent) →
    AreSendsFit numbered issued traffic w (xs ++ ys) →
    AreSendsFit numbered issued (traffic ++ traffic_from w xs) (world_from w xs) ys
fits_later numbered issued traffic w [] ys fits = subst (λ (l : List Traffic). AreSendsFit numbered issued l w ys) (sym (append-nil traffic)) fits
fits_later numbered issued traffic w (event ∷ xs) ys fits =
    let more : List Traffic = traffic ++ traffic_by w event in
    let same : more ++ traffic_from (apply w event) xs ≡ traffic ++ traffic_from w (event ∷ xs) =
    append_assoc traffic (traffic_by w event) (traffic_from (apply w event) xs)
    in
    subst (λ (l : List Traffic). AreSendsFit numbered issued l (world_from (apply w event) xs) ys) same (fits_later numbered issued more (apply w event) xs ys fits.1)

-- the count of acknowledged lines doesn't fall
counted_more : (replies more : List Reply) → acked_of replies ≤ acked_of (replies ++ more)
counted_more replies [] = subst (λ (r : List Reply). acked_of replies ≤ acked_of r) (sym (append-nil replies)) (omega arith)
counted_more replies (next ∷ more) =
    let rest : acked_of (replies ++ next ∷ []) ≤ acked_of ((replies ++ next ∷ []) ++ more) = counted_more (replies ++ next ∷ []) more in
    let first : acked_of replies ≤ acked_of (replies ++ next ∷ []) = omega (arith, (counts_next replies next).0) in
    subst (λ (r : List Reply). acked_of replies ≤ acked_of r) (append_assoc replies (next ∷ []) more) (omega (arith, first, rest))

-- nor does that of an account
name_keeps : (number : Option ℕ) (c : Account) → c.acked ≤ (with_name number c).acked
name_keeps None c = omega arith
name_keeps (Some number) c = grind (arith, common_steps)

item_keeps : (item : Traffic) (c : Account) → c.acked ≤ (with_traffic item c).acked
item_keeps sent c = grind (arith, common_steps)
item_keeps (received reply) c = name_keeps (name_in reply) c

account_more : (more : List Traffic) (c : Account) → c.acked ≤ (after_traffic more c).acked
account_more [] c = omega arith
account_more (item ∷ more) c = omega (arith, item_keeps item c, account_more more (with_traffic item c))

acked_more : (numbered : Bool) (traffic more : List Traffic) → acked_as numbered traffic ≤ acked_as numbered (traffic ++ more)
acked_more false traffic more =
    subst (λ (r : List Reply). acked_of (received_of traffic) ≤ acked_of r) (sym (received_of-append traffic more)) (counted_more (received_of traffic) (received_of more))
acked_more true traffic more =
    let none : Account = record { hellos = 0; begun = false; acked = 0 } in
    subst (λ (c : Account). (after_traffic traffic none).acked ≤ c.acked) (sym (after_traffic-append traffic more none)) (account_more more (after_traffic traffic none))

above_by : (numbered : Bool) (issued : List (List ℕ)) (acked : ℕ) (event : WorldEvent) (behind : List WorldEvent) (traffic : List Traffic) (w : WorldData)
    → acked ≤ acked_as numbered traffic →
    AreSendsFit numbered issued traffic w (event ∷ behind) → IsAbove numbered issued acked event
above_by numbered issued acked (Send line) behind traffic w below fits = by fits.0
  where
    by : IsSendFit numbered issued (acked_as numbered traffic) line.items behind → IsAbove numbered issued acked (Send line)
    by (inl hello) = inl hello
    by (inr (inl l)) = inr (inl (record { place = l.place; text = l.text; above = omega (arith, below, l.above); its = l.its; framed = l.framed }))
    by (inr (inr failing)) = inr (inr failing.0)
above_by numbered issued acked _ behind traffic w below fits = tt

above_all : (numbered : Bool) (issued : List (List ℕ)) (acked : ℕ) (events : List WorldEvent) (traffic : List Traffic) (w : WorldData) →
    acked ≤ acked_as numbered traffic →
    AreSendsFit numbered issued traffic w events → AreAbove numbered issued acked events
above_all numbered issued acked [] traffic w below fits = tt
above_all numbered issued acked (event ∷ events) traffic w below fits = (
  above_by numbered issued acked event events traffic w below fits,
  above_all numbered issued acked events (traffic ++ traffic_by w event) (apply w event)
      (omega (arith, below, acked_more numbered traffic (traffic_by w event))) fits.1,
)

-- what is sent in the last session of a history, after this number of its lines was acknowledged, is above those
pub later_above : (numbered : Bool) (kind : LinkKind) (front : List WorldEvent) (first later : History) (so_far since : List WorldEvent) → 1 ≤ sessions first →
    Tied numbered kind front (first ++ later) (so_far ++ since) → Tied numbered kind front first so_far →
    AreAbove numbered (session_texts (sessions first) (first ++ later)) (acked_in (sessions first) first) (till 0 since)
later_above numbered kind front first later so_far since some t then_tied =
    let n : ℕ = sessions first in
    let s : ℕ = opens front + n in
    let issued : List (List ℕ) = session_texts n (first ++ later) in
    let here : IsTied numbered kind issued (acked_in n (first ++ later)) (so_far ++ since) s = t.each n some (omega (arith, sessions-append first later)) in
    let part : IsTied numbered kind (session_texts n first) (acked_in n first) so_far s = then_tied.each n some (omega arith) in
    let is : s ≡ opens so_far = sym then_tied.counted in
    let before : till (pred s) (so_far ++ since) ≡ till (pred s) so_far =
    till-append (pred s) so_far since (omega (arith, pred_less s (omega (arith, some)), is))
    in
    let world : world_before kind (so_far ++ since) s ≡ world_before kind so_far s = ap (world_in kind) before in
    let events : events_of_session s (so_far ++ since) ≡ events_of_session s so_far ++ till 0 since = session_past so_far since s is (omega (arith, some)) in
    let made : WorldData = world_before kind so_far s in
    let fits : AreSendsFit numbered issued [] made (events_of_session s so_far ++ till 0 since) =
    subst (λ (es : List WorldEvent). AreSendsFit numbered issued [] made es) events
    (subst (λ (v : WorldData). AreSendsFit numbered issued [] v (events_of_session s (so_far ++ since))) world here.sends)
    in
    above_all numbered issued (acked_in n first) (till 0 since) (traffic_from made (events_of_session s so_far)) (world_from made (events_of_session s so_far))
    (omega (arith, part.acked_is)) (fits_later numbered issued [] made (events_of_session s so_far) (till 0 since) fits)

-- what is sent in a session is a hello, a line that was issued in it, or a line that failed
pub issued_above : (numbered : Bool) (kind : LinkKind) (issued : List (List ℕ)) (acked : ℕ) (past : List WorldEvent) (s : ℕ) →
    IsTied numbered kind issued acked past s →
    AreAbove numbered issued 0 (events_of_session s past)
issued_above numbered kind issued acked past s t = above_all numbered issued 0 (events_of_session s past) [] (world_before kind past s) (omega arith) t.sends
