-- How a session begins over a prompt link: the hello is sent, and its `ok` comes in the next turn.
use Rattle.std.proofs.Common.{◌≡◌, ℕ, zero, suc, ◌+◌, ◌-◌, ◌<◌, ◌≤◌, Bool, true, false, List, [], ◌∷◌, ◌++◌, length, drop, refl, sym, ◌∙◌, ap, subst, append-nil, arith}
use Rattle.std.specs.Prelude.{Option, None, Some, Ok, not, ◌&&◌, is_some, if◌then◌else◌}
use Rattle.std.specs.List.{list_all}
use Rattle.std.proofs.lemmas.Grind.{common_steps}
use Rattle.std.proofs.lemmas.Bool.Decides.{nat_tests}
use Rattle.marlin_frame.specs.Numbering.{hello_number, hello_frame}
use Rattle.marlin_reply.specs.Kind.{kind_of}
use Rattle.printer_model.specs.Printer.{Entry, PrinterData, is_full, last_after, run_queue, take_judged}
use Rattle.printer_model.specs.Replies.{run_reply}
use Rattle.printer_model.specs.World.{WorldData, is_empty, is_free, can_happen, happen, apply, world_from, after_arrival, after_run}
use Rattle.printer_model.specs.declared.event.WorldEvent.{WorldEvent}
use Rattle.printer_model.specs.declared.event.WorldEvent.TheVariants.{Opened, Arrive, Run, Recv}
use Rattle.printer_model.proofs.Laws.{world_from-IsSameKind, world_from-push, happens, arrive_accepts, run_queue_of}
use Rattle.printer_link.specs.Link.{IsDial, IsHeard, IsSend, arrivals, due_run, due_recv, printer_events, recv_events}
use Rattle.send_window.specs.Data.{SenderData, IsSound, sender_after_dial}
use Rattle.send_window.specs.Hearing.{made_ready, hear_step}
use Rattle.send_window.specs.Sending.{Outgoing, hello, next_at, next_of, after_giving as given_out, with_deadline, frame_step}
use Rattle.send_window.specs.declared.session_end.SessionEnd.{SessionEnd}
use Rattle.send_window.proofs.Soundness.{begun_sound, hears_sound, gives_sound}
use Rattle.octo_session.specs.Steps.{after_steps, AreAllowed, AreAdded, IsGiven, IsGivenAlone, issues_then_sends}
use Rattle.octo_session_line_proof.specs.Pieces.{greeting, text_in, bytes_in, entry_in, ok_heard, named_by, Each, IsFit}
use Rattle.octo_session_line_proof.proofs.Hearing.{hear_as, ok_by}
use Rattle.octo_session_line_proof.proofs.Reading.{greeting_accepted, last_after-greeting, IsRunReply, run_heard}
use Rattle.octo_session_print.specs.Prompt.{IsInStep, IsReadySession, IsGreeting}
use Rattle.octo_session_print.proofs.Alone.{HasSent, sent_promptly, split_free, head_of}
use Rattle.std.proofs.lemmas.List.{take_all}

-- before the hello is sent a receiving finds nothing
pub none_yet : (due : Bool) (s : SenderData) (w : WorldData) → IsGreeting [] due s w → recv_events true w ≡ []
none_yet due s w i =
    let still : arrivals w w.up ≡ [] = ap (arrivals w) i.up_is in
    let idle : due_run true w ≡ [] = ap (λ (q : List Entry). if is_empty q then [] else Run ∷ []) i.queue in
    let printer : printer_events true w ≡ [] = ap (λ (es : List WorldEvent). es ++ due_run true (world_from w es)) still ∙ idle in
    ap (λ (es : List WorldEvent). es ++ due_recv (world_from w es)) printer ∙ ap (λ (d : List (List ℕ)). if is_empty d then [] else Recv ∷ []) i.down

-- before it is acknowledged a sender that holds no line has issued none
pub none_issued : (s : SenderData) → IsSound s → s.ready ≡ false → s.held ≡ [] → s.issued ≡ 0
none_issued s sound unready none = omega (arith, sound.counted, sound.none_acked unready, ap length none)

hello_next : (s : SenderData) → s.ended ≡ None → s.hello_due ≡ true → s.hellos ≡ 0 → next_of s ≡ Some (hello 0)
hello_next s running due first =
    let given : ℕ → Option Outgoing = λ number. Some (hello number) in
    ap (λ (e : Option SessionEnd). next_at e s.hello_due s) running ∙ ap (λ (b : Bool). next_at None b s) due ∙ ap given first

no_next : (s : SenderData) → s.ended ≡ None → s.hello_due ≡ false → s.issued < s.cursor → next_of s ≡ None
no_next s running undue past = grind (arith, nat_tests, common_steps)

-- the hello is sent
hello_sent : (moment : ℕ) (s : SenderData) (w : WorldData) (added : List WorldEvent) → IsGreeting [] true s w → IsGiven (next_of s) w added →
    IsGivenAlone (next_of s) added → IsGreeting (hello_frame ∷ []) false (frame_step moment s) (world_from w added)
hello_sent moment s w added i after_giving prompt =
    let next : next_of s ≡ Some (hello 0) = hello_next s i.running i.due_is (i.sound.one_number i.counts) in
    let O : Option Outgoing → Type 0 = λ o. IsGiven o w added in
    let P : Option Outgoing → Type 0 = λ o. IsGivenAlone o added in
    let sends : IsSend hello_frame w added = subst O next after_giving in
    let only = subst P next prompt in
    let went : HasSent hello_frame w (world_from w added) = sent_promptly hello_frame w added sends only.0 only.1 only.2 in
    let after : frame_step moment s ≡ with_deadline moment (record s { hello_due = false; hellos = if s.numbered then s.hellos + 1 else s.hellos }) = ap (λ (o : Option Outgoing). given_out o moment s) next in
    let Q : SenderData → Type 0 = λ t. IsSound t in
    let S : SenderData → Type 0 = λ t. IsGreeting (hello_frame ∷ []) false t (world_from w added) in
    let N : PrinterData → Type 0 = λ p. (p.queue ≡ []) × (1 ≤ p.slots) × (p.slots ≤ 16) in
    let printer = subst N (sym went.printer) (i.queue, i.some, i.few) in
    subst S (sym after) (record {
      unready = i.unready;
      counts = i.counts;
      awaiting = i.awaiting;
      running = i.running;
      sound = subst Q after (gives_sound moment s i.sound);
      none_held = i.none_held;
      cursor_is = i.cursor_is;
      due_is = refl;
      linked = went.linked ∙ i.linked;
      queue = printer.0;
      up_is = went.up ∙ ap (λ (u : List (List ℕ)). u ++ hello_frame ∷ []) i.up_is;
      down = went.down ∙ i.down;
      some = printer.1;
      few = printer.2;
    })

-- what the turn that sends the hello says, and issues nothing
pub speaks : (moment : ℕ) (texts : List (List ℕ)) (count : ℕ) (s : SenderData) (w : WorldData) (added : List WorldEvent) → texts ≡ [] → IsGreeting [] true s w →
    AreAllowed moment (issues_then_sends true texts count) s → AreAdded moment true (issues_then_sends true texts count) s w added →
    next_of (after_steps moment (issues_then_sends true texts count) s) ≡ None →
    IsGreeting (hello_frame ∷ []) false (after_steps moment (issues_then_sends true texts count) s) (world_from w added)
speaks moment (text ∷ texts) count s w added silent i can is spent = absurd (cc silent)
speaks moment [] zero s w added silent i can is spent = (let no_line : Some (hello 0) ≡ None = sym (hello_next s i.running i.due_is (i.sound.one_number i.counts)) ∙ spent in absurd (cc))
speaks moment [] (suc zero) s w added silent i can is spent =
    let V : WorldData → Type 0 = λ v. IsGreeting (hello_frame ∷ []) false (frame_step moment s) v in
    let all : world_from w added ≡ world_from w is.0 = ap (world_from w) (is.2 ∙ ap (λ (es : List WorldEvent). is.0 ++ es) is.4 ∙ append-nil is.0) in
    subst V (sym all) (hello_sent moment s w is.0 i is.3.0 (is.3.1 refl))
speaks moment [] (suc (suc count)) s w added silent i can is spent =
    let sent = hello_sent moment s w is.0 i is.3.0 (is.3.1 refl) in
    let t : SenderData = frame_step moment s in
    let none : next_of t ≡ None = no_next t sent.running sent.due_is (omega (arith, sent.cursor_is, none_issued t sent.sound sent.unready sent.none_held)) in
    let clash : true ≡ false = sym can.1.0 ∙ ap is_some none in
    absurd (cc)

-- the hello arrives, runs, and its `ok` is received
pub record HasGreeted (w : WorldData) : Type 0 where
  pub reply : List ℕ
  pub first : List WorldEvent
  pub is : recv_events true w ≡ first ++ Recv ∷ []
  pub free : list_all is_free first ≡ true
  pub front : (world_from w first).down ≡ reply ∷ []
  pub heard : IsRunReply reply 0
  pub in_step : IsInStep 1 [] [] (world_from w (recv_events true w))

pub greets : (s : SenderData) (w : WorldData) → IsGreeting (hello_frame ∷ []) false s w → HasGreeted w
greets s w i =
    let entry : Entry = entry_in (greeting 0) in
    let empty : length w.printer.queue ≡ 0 = ap length i.queue in
    let room : is_full w.printer ≡ false = room_for w.printer (omega (arith, empty, i.some)) in
    let a : WorldData = apply w Arrive in
    let came : a ≡ after_arrival w [] (take_judged w.printer (Ok entry)) = arrive_accepts w (bytes_in (greeting 0)) [] entry i.up_is room (greeting_accepted w.printer.last 0 (omega arith)) in
    let queue : a.printer.queue ≡ entry ∷ [] = ap (λ (v : WorldData). v.printer.queue) came ∙ ap (λ (q : List Entry). q ++ entry ∷ []) i.queue in
    let last : a.printer.last ≡ hello_number = ap (λ (v : WorldData). v.printer.last) came in
    let linked : a.linked ≡ true = ap (λ (v : WorldData). v.linked) came ∙ i.linked in
    let down : a.down ≡ [] = ap (λ (v : WorldData). v.down) came ∙ append-nil w.down ∙ i.down in
    let up : a.up ≡ [] = ap (λ (v : WorldData). v.up) came in
    let free : ℕ = a.printer.slots - length a.printer.queue in
    let reply : List ℕ = run_reply a.printer.oks.numbered (Some 0) (text_in (greeting 0)) free in
    let b : WorldData = apply a Run in
    let ran : b ≡ after_run a (run_queue a.printer (entry ∷ [])) = run_queue_of a entry [] queue in
    let said : b.down ≡ reply ∷ [] =
    ap (λ (v : WorldData). v.down) ran ∙ ap (λ (l : Bool). if l then a.down ++ reply ∷ [] else a.down) linked ∙ ap (λ (d : List (List ℕ)). d ++ reply ∷ []) down
    in
    let open_still : b.linked ≡ true = ap (λ (v : WorldData). v.linked) ran ∙ linked in
    let can : can_happen b Recv ≡ true = ap (λ (l : Bool). l && not (is_empty b.down)) open_still ∙ ap (λ (d : List (List ℕ)). not (is_empty d)) said in
    let got : apply b Recv ≡ record b { down = drop 1 b.down } = happens b Recv can in
    let kept : last_after a.printer.last entry ≡ hello_number = last_after-greeting a.printer.last 0 in
    let P : WorldData → Type 0 = λ v. (1 ≤ v.printer.slots) × (v.printer.slots ≤ 16) in
    let slots : P a = subst P (sym came) (i.some, i.few) in
    let slots' : P b = subst P (sym ran) slots in
    let slots'' : P (apply b Recv) = subst P (sym got) slots' in
    let arrive_can : can_happen w Arrive ≡ true =
    ap (λ (u : List (List ℕ)). not (is_empty u) && not (is_full w.printer)) i.up_is ∙ ap not room
    in
    let same : a ≡ happen w Arrive = happens w Arrive arrive_can in
    let arrived_one : arrivals w w.up ≡ Arrive ∷ [] =
    ap (arrivals w) i.up_is ∙ ap (λ (f : Bool). if f then [] else Arrive ∷ []) room
    in
    let run : due_run true (world_from w (Arrive ∷ [])) ≡ Run ∷ [] = ap (λ (q : List Entry). if is_empty q then [] else Run ∷ []) queue in
    let events : List WorldEvent = Arrive ∷ (Run ∷ []) in
    let printer : printer_events true w ≡ events =
    ap (λ (es : List WorldEvent). es ++ due_run true (world_from w es)) arrived_one ∙ ap (λ (es : List WorldEvent). Arrive ∷ es) run
    in
    let recv : due_recv (world_from w events) ≡ Recv ∷ [] = ap (λ (d : List (List ℕ)). if is_empty d then [] else Recv ∷ []) said in
    let is : recv_events true w ≡ events ++ Recv ∷ [] =
    ap (λ (es : List WorldEvent). es ++ due_recv (world_from w es)) printer ∙ ap (λ (es : List WorldEvent). events ++ es) recv
    in
    let I : List WorldEvent → Type 0 = λ es. IsInStep 1 [] [] (world_from w es) in
    record {
      reply = reply;
      first = events;
      is = is;
      free = refl;
      front = said;
      heard = run_heard a.printer.oks.numbered 0 free (text_in (greeting 0)) (omega arith) (omega (arith, slots.1));
      in_step = subst I (sym is) (record {
        linked = ap (λ (v : WorldData). v.linked) got ∙ open_still;
        queue = ap (λ (v : WorldData). v.printer.queue) got ∙ ap (λ (v : WorldData). v.printer.queue) ran;
        up = ap (λ (v : WorldData). v.up) got ∙ ap (λ (v : WorldData). v.up) ran ∙ up;
        down = ap (λ (v : WorldData). v.down) got ∙ ap (drop 1) said;
        next = ap (λ (n : ℕ). n + 1) (sym (ap (λ (v : WorldData). v.printer.last) got ∙ ap (λ (v : WorldData). v.printer.last) ran ∙ kept));
        some = slots''.0;
        few = slots''.1;
      });
    }
  where
    room_for : (p : PrinterData) → length p.queue < p.slots → is_full p ≡ false
    room_for p below = grind (arith, nat_tests)

-- the hello's `ok` is heard
pub record HasBegun (moment : ℕ) (bytes : List ℕ) (s : SenderData) (v : WorldData) : Type 0 where
  pub is : hear_step (kind_of bytes) moment s ≡ made_ready s
  pub saying : IsReadySession (made_ready s) v

pub greeting_heard : (moment : ℕ) (bytes : List ℕ) (s : SenderData) (w : WorldData) (added : List WorldEvent) → IsGreeting (hello_frame ∷ []) false s w →
    IsHeard bytes w added → added ≡ recv_events true w → HasBegun moment bytes s (world_from w added)
greeting_heard moment bytes s w added i is prompt =
    let h = greets s w i in
    let first : h.first ≡ is.before = split_free h.first [] is.before is.after h.free is.free_before (sym h.is ∙ sym prompt ∙ is.is) in
    let same : h.reply ≡ is.reply = head_of h.reply is.reply [] is.rest (sym h.front ∙ ap (λ (es : List WorldEvent). (world_from w es).down) first ∙ is.front) in
    let R : List ℕ → Type 0 = λ b. IsRunReply b 0 in
    let heard : IsRunReply bytes 0 = subst R (same ∙ sym is.whole) h.heard in
    let answer : hear_step (kind_of bytes) moment s ≡ made_ready s =
    hear_as bytes (ok_heard (named_by heard.named 0)) moment s i.running heard.heard ∙ ok_by false false (named_by heard.named 0) moment s i.counts i.awaiting i.unready
    in
    let zero_acked : s.acked ≡ 0 = i.sound.none_acked i.unready in
    let S : SenderData → Type 0 = λ t. IsSound t in
    let E : List (List ℕ) → Type 0 = λ l. Each IsFit l in
    let W : List WorldEvent → Type 0 = λ es. IsInStep 1 [] [] (world_from w es) in
    let N : ℕ → Type 0 = λ n. IsInStep n [] [] (world_from w added) in
    record {
      is = answer;
      saying = record {
        ready_is = refl;
        counts = i.counts;
        awaiting = i.awaiting;
        running = i.running;
        sound = subst S answer (hears_sound (kind_of bytes) moment s i.sound);
        fits = subst E (sym i.none_held) tt;
        queued = [];
        flying = [];
        all = sym (take_all (s.cursor - suc s.acked) s.held (omega (arith, i.cursor_is, zero_acked, ap length i.none_held)) ∙ i.none_held);
        step = subst N (omega (arith, zero_acked)) (subst W (sym prompt) h.in_step);
      };
    }

-- a link that was just made
pub dial_greeting : (s : SenderData) (w : WorldData) (added : List WorldEvent) (last : ℕ) → s.numbered ≡ false → IsSound s → IsDial w added → 1 ≤ w.printer.slots →
    w.printer.slots ≤ 16 → IsGreeting [] true (sender_after_dial s) (world_from w added)
dial_greeting s w added last counts sound dial some few =
    let before : WorldData = world_from w dial.runs in
    let idle : (before.linked ≡ false) × (before.printer.queue ≡ []) = empties before dial.opens in
    let is : world_from w added ≡ happen before (Opened dial.last) =
    ap (world_from w) dial.is ∙ world_from-push w dial.runs (Opened dial.last) ∙ happens before (Opened dial.last) dial.opens
    in
    let kept = world_from-IsSameKind w dial.runs in
    let P : WorldData → Type 0 = λ v. (1 ≤ v.printer.slots) × (v.printer.slots ≤ 16) in
    let slots : P (world_from w added) = subst P (sym is) (omega (arith, kept.slots, some), omega (arith, kept.slots, few)) in
    record {
      unready = refl;
      counts = counts;
      awaiting = refl;
      running = refl;
      sound = begun_sound s sound;
      none_held = refl;
      cursor_is = refl;
      due_is = refl;
      linked = ap (λ (v : WorldData). v.linked) is;
      queue = ap (λ (v : WorldData). v.printer.queue) is ∙ idle.1;
      up_is = ap (λ (v : WorldData). v.up) is;
      down = ap (λ (v : WorldData). v.down) is;
      some = slots.0;
      few = slots.1;
    }
  where
    empties : (v : WorldData) → can_happen v (Opened dial.last) ≡ true → (v.linked ≡ false) × (v.printer.queue ≡ [])
    empties v opens = by_both v.linked v.printer.queue opens
      where
        by_both : (l : Bool) (q : List Entry) → (not l && is_empty q) ≡ true → (l ≡ false) × (q ≡ [])
        by_both false [] can = (refl, refl)
        by_both false (e ∷ q) can = absurd (cc)
        by_both true q can = absurd (cc)
