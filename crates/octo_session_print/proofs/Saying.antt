-- How a ready session goes on over a prompt link, step by step.
use Rattle.std.proofs.Common.{◌≡◌, ℕ, zero, suc, ◌+◌, ◌-◌, ◌<◌, ◌≤◌, Bool, true, false, List, [], ◌∷◌, ◌++◌, length, map, take, drop, replicate, refl, sym, ◌∙◌, ap, subst, append_assoc, arith}
use Rattle.std.specs.Prelude.{Option, None, Some, max, nat_le, ◌==◌, if◌then◌else◌, slice_index_or, is_some}
use Rattle.std.proofs.lemmas.List.{map-append, take_all}
use Rattle.std.proofs.lemmas.Grind.{common_steps}
use Rattle.std.proofs.lemmas.Bool.Decides.{nat_tests}
use Rattle.marlin_frame.specs.Numbering.{wire_number}
use Rattle.marlin_reply.specs.Kind.{kind_of}
use Rattle.printer_model.specs.World.{WorldData, is_empty, world_from}
use Rattle.printer_model.specs.declared.event.WorldEvent.{WorldEvent}
use Rattle.printer_model.specs.declared.event.WorldEvent.TheVariants.{Run, Recv}
use Rattle.printer_model.proofs.Laws.{world_from-append}
use Rattle.printer_link.specs.Link.{IsHeard, IsSend, arrivals, due_run, due_recv, printer_events, recv_events}
use Rattle.send_window.specs.Data.{SenderData, IsSound, most_lines}
use Rattle.send_window.specs.Hearing.{later, acknowledged, hear_step, tick_step, deadline_at, end_of_numbers, is_past}
use Rattle.send_window.specs.Sending.{Outgoing, line, next_at, next_of, after_giving as given_out, with_deadline, frame_step, push_step, last_room_of}
use Rattle.send_window.specs.declared.session_end.SessionEnd.{SessionEnd}
use Rattle.octo_session.specs.Steps.{Step, opens, finds_no_port, fails_to_dial, hears, listens, fails_to_receive, ticks, issues, gives, fails_to_send, hangs_up, after_steps, AreAllowed, AreAdded, IsGiven, IsGivenAlone, issuing, issues_then_sends}
use Rattle.printer_model.specs.Printer.{Entry, PrinterData}
use Rattle.send_window.proofs.Soundness.{hears_sound, issues_sound, gives_sound}
use Rattle.octo_session_line_proof.specs.Pieces.{command, bytes_in, entry_in, ok_heard, named_by, Each, IsFit}
use Rattle.octo_session_line_proof.proofs.Reading.{IsRunReply}
use Rattle.octo_session_line_proof.proofs.Hearing.{hear_as, ok_by, named_right}
use Rattle.octo_session_print.specs.Prompt.{pieces_from, IsInStep, IsReadySession}
use Rattle.octo_session_print.proofs.Prompt.{pieces_append, append_length, prompt_heard}
use Rattle.octo_session_print.proofs.Alone.{split_free, head_of, HasSent, sent_promptly}

-- the clock does nothing before the deadline
pub tick_idle : (moment : ℕ) (s : SenderData) → s.ended ≡ None → is_past s.deadline moment ≡ false → tick_step moment s ≡ s
tick_idle moment s running early = grind (arith, common_steps)

-- after an `ok` the deadline is later than the moment
pub early_after : (moment limit acked issued : ℕ) → 1 ≤ limit → moment + limit ≤ 18446744073709551615 →
    is_past (deadline_at moment limit acked issued) moment ≡ false
unfolding later
early_after moment limit acked issued some small = by_all (acked == issued)
  where
    past : nat_le (later moment limit) moment ≡ false
    past = grind (arith, nat_tests)

    by_all : (b : Bool) → is_past (if b then None else Some (later moment limit)) moment ≡ false
    by_all true = refl
    by_all false = past

-- the `ok` of the next line is heard
ok_heard_so : (moment : ℕ) (bytes : List ℕ) (s : SenderData) → s.numbered ≡ false → s.ended ≡ None → s.swallow ≡ false → s.ready ≡ true → s.acked < s.issued →
    IsRunReply bytes (wire_number (suc s.acked)) → hear_step (kind_of bytes) moment s ≡ acknowledged moment s
ok_heard_so moment bytes s counts running awaiting ready some r =
    hear_as bytes (ok_heard (named_by r.named (wire_number (suc s.acked)))) moment s running r.heard
    ∙ ok_by false true (named_by r.named (wire_number (suc s.acked))) moment s counts awaiting ready
    ∙ named_right r.named (suc s.acked) moment s refl some

-- the reply that was heard, if something was unacknowledged
pub record HasAnswered (moment : ℕ) (bytes : List ℕ) (s : SenderData) (v : WorldData) : Type 0 where
  pub is : hear_step (kind_of bytes) moment s ≡ acknowledged moment s
  pub saying : IsReadySession (acknowledged moment s) v

unended : (acked issued : ℕ) → suc acked ≤ issued → issued < most_lines → end_of_numbers (acked + 1) issued ≡ None
unended acked issued some few = grind (arith, nat_tests)

-- a receiving with something unacknowledged
pub heard_saying : (moment : ℕ) (bytes : List ℕ) (s : SenderData) (w : WorldData) (added : List WorldEvent) → IsReadySession s w → s.cursor ≡ s.issued + 1 →
    s.acked < s.issued → s.issued < most_lines → IsHeard bytes w added → added ≡ recv_events true w → HasAnswered moment bytes s (world_from w added)
heard_saying moment bytes s w added i spoken some few is prompt = by_held s.held refl
  where
    by_held : (held : List (List ℕ)) → s.held ≡ held → HasAnswered moment bytes s (world_from w added)
    by_held [] none = absurd (omega (arith, ap length none, i.sound.counted, some))
    by_held (text ∷ texts) holds =
        let E : List (List ℕ) → Type 0 = λ l. Each IsFit l in
        let fits : Each IsFit (text ∷ texts) = subst E holds i.fits in
        let count : s.cursor - suc s.acked ≡ length s.held = omega (arith, spoken, i.sound.counted) in
        let all : i.queued ++ i.flying ≡ text ∷ texts = i.all ∙ take_all (s.cursor - suc s.acked) s.held (omega (arith, count)) ∙ holds in
        let h = prompt_heard (suc s.acked) text texts i.queued i.flying w fits (omega (arith, i.sound.counted, ap length holds, few)) all i.step in
        let first : h.first ≡ is.before = split_free h.first [] is.before is.after h.free is.free_before (sym h.is ∙ sym prompt ∙ is.is) in
        let same : h.reply ≡ is.reply = head_of h.reply is.reply [] is.rest (sym h.front ∙ ap (λ (es : List WorldEvent). (world_from w es).down) first ∙ is.front) in
        let R : List ℕ → Type 0 = λ b. IsRunReply b (wire_number (suc s.acked)) in
        let heard : IsRunReply bytes (wire_number (suc s.acked)) = subst R (same ∙ sym is.whole) h.heard in
        let answer : hear_step (kind_of bytes) moment s ≡ acknowledged moment s = ok_heard_so moment bytes s i.counts i.running i.awaiting i.ready_is some heard in
        let S : SenderData → Type 0 = λ t. IsSound t in
        let behind : drop 1 s.held ≡ texts = ap (drop 1) holds in
        let W : List WorldEvent → Type 0 = λ es. IsInStep (suc (suc s.acked)) h.there h.coming (world_from w es) in
        let N : ℕ → Type 0 = λ n. IsInStep (suc n) h.there h.coming (world_from w added) in
        let left : max s.cursor (s.acked + 2) - suc (s.acked + 1) ≡ length (drop 1 s.held) =
        omega (arith, spoken, i.sound.counted, ap length holds, ap length behind)
        in
        record {
          is = answer;
          saying = record {
            ready_is = i.ready_is;
            counts = i.counts;
            awaiting = i.awaiting;
            running = unended s.acked s.issued some few;
            sound = subst S answer (hears_sound (kind_of bytes) moment s i.sound);
            fits = subst E (sym behind) fits.1;
            queued = h.there;
            flying = h.coming;
            all = h.all ∙ sym behind ∙ sym (take_all (max s.cursor (s.acked + 2) - suc (s.acked + 1)) (drop 1 s.held) (omega (arith, left)));
            step = subst N (omega arith) (subst W (sym prompt) h.in_step);
          };
        }

take_push : (n : ℕ) (xs : List (List ℕ)) (y : List ℕ) → n ≤ length xs → take n (xs ++ y ∷ []) ≡ take n xs
take_push zero [] y within = refl
take_push zero (x ∷ xs) y within = refl
take_push (suc n) [] y within = absurd (omega (arith, within))
take_push (suc n) (x ∷ xs) y within = ap (λ (l : List (List ℕ)). x ∷ l) (take_push n xs y (omega (arith, within)))

take_more : (n : ℕ) (xs : List (List ℕ)) → n < length xs → take (suc n) xs ≡ take n xs ++ slice_index_or xs n [] ∷ []
take_more zero [] within = absurd (omega (arith, within))
take_more (suc n) [] within = absurd (omega (arith, within))
take_more zero (x ∷ []) within = refl
take_more zero (x ∷ (y ∷ xs)) within = refl
take_more (suc n) (x ∷ xs) within = ap (λ (l : List (List ℕ)). x ∷ l) (take_more n xs (omega (arith, within)))

take_length : (n : ℕ) (xs : List (List ℕ)) → n ≤ length xs → length (take n xs) ≡ n
take_length zero [] within = refl
take_length zero (x ∷ xs) within = refl
take_length (suc n) [] within = absurd (omega (arith, within))
take_length (suc n) (x ∷ xs) within = ap suc (take_length n xs (omega (arith, within)))

each_push : (xs : List (List ℕ)) (y : List ℕ) → Each IsFit xs → IsFit y → Each IsFit (xs ++ y ∷ [])
each_push [] y fits fit = (fit, tt)
each_push (x ∷ xs) y fits fit = (fits.0, each_push xs y fits.1 fit)

-- a line is issued
pub issue_saying : (text : List ℕ) (s : SenderData) (w : WorldData) → 0 < last_room_of s → IsFit text → IsReadySession s w → IsReadySession (push_step text s) w
issue_saying text s w room fit i = record {
  ready_is = i.ready_is;
  counts = i.counts;
  awaiting = i.awaiting;
  running = i.running;
  sound = issues_sound text s room i.sound;
  fits = each_push s.held text i.fits fit;
  queued = i.queued;
  flying = i.flying;
  all = i.all ∙ sym (take_push (s.cursor - suc s.acked) s.held text (omega (arith, i.sound.counted, i.sound.not_past)));
  step = i.step;
}

-- what is to be sent next, when no hello is due
pub next_in_turn : (s : SenderData) → s.ended ≡ None → s.hello_due ≡ false
    → next_of s ≡ (if nat_le s.cursor s.issued then Some (line s.cursor (slice_index_or s.held (s.cursor - s.acked - 1) [])) else None)
next_in_turn s running undue = ap (λ (e : Option SessionEnd). next_at e s.hello_due s) running ∙ ap (λ (b : Bool). next_at None b s) undue

-- what is to be sent next in a ready session
next_is : (s : SenderData) → s.ended ≡ None → s.hello_due ≡ false → is_some (next_of s) ≡ true →
    (s.cursor ≤ s.issued) × (next_of s ≡ Some (line s.cursor (slice_index_or s.held (s.cursor - s.acked - 1) [])))
next_is s running undue some = by_cursor (nat_le s.cursor s.issued) refl
  where
    by_cursor : (b : Bool) → nat_le s.cursor s.issued ≡ b →
        (s.cursor ≤ s.issued) × (next_of s ≡ Some (line s.cursor (slice_index_or s.held (s.cursor - s.acked - 1) [])))
    by_cursor true below = (
      grind (arith, nat_tests),
      next_in_turn s running undue ∙ ap (λ (b : Bool). if b then Some (line s.cursor (slice_index_or s.held (s.cursor - s.acked - 1) [])) else None) below,
    )
    by_cursor false above =
        let none : next_of s ≡ None = next_in_turn s running undue ∙ ap (λ (b : Bool). if b then Some (line s.cursor (slice_index_or s.held (s.cursor - s.acked - 1) [])) else None) above in
        let no : true ≡ false = sym some ∙ ap is_some none in
        absurd (cc)

-- a line is sent
pub give_saying : (moment : ℕ) (s : SenderData) (w : WorldData) (added : List WorldEvent) → is_some (next_of s) ≡ true → IsGiven (next_of s) w added →
    IsGivenAlone (next_of s) added → IsReadySession s w → IsReadySession (frame_step moment s) (world_from w added)
give_saying moment s w added some after_giving prompt i =
    let undue : s.hello_due ≡ false = i.sound.hello_before i.ready_is in
    let next = next_is s i.running undue some in
    let n : ℕ = s.cursor - suc s.acked in
    let text : List ℕ = slice_index_or s.held (s.cursor - s.acked - 1) [] in
    let O : Option Outgoing → Type 0 = λ o. IsGiven o w added in
    let P : Option Outgoing → Type 0 = λ o. IsGivenAlone o added in
    let sends : IsSend (bytes_in (command s.cursor text)) w added = subst O next.1 after_giving in
    let only = subst P next.1 prompt in
    let went : HasSent (bytes_in (command s.cursor text)) w (world_from w added) = sent_promptly (bytes_in (command s.cursor text)) w added sends only.0 only.1 only.2 in
    let within : n < length s.held = omega (arith, i.sound.counted, i.sound.above_acked, next.0) in
    let same : slice_index_or s.held n [] ≡ text = ap (λ (k : ℕ). slice_index_or s.held k []) (omega (arith, i.sound.above_acked)) in
    let one_more : suc n ≡ (s.cursor + 1) - suc s.acked = omega (arith, i.sound.above_acked) in
    let place : (suc s.acked + length i.queued) + length i.flying ≡ s.cursor =
    omega (arith, append_length i.queued i.flying, ap length i.all, take_length n s.held (omega (arith, within)), i.sound.above_acked)
    in
    let after : frame_step moment s ≡ with_deadline moment (record s { cursor = s.cursor + 1; sent = max s.sent s.cursor }) = ap (λ (o : Option Outgoing). given_out o moment s) next.1 in
    let S : SenderData → Type 0 = λ t. IsReadySession t (world_from w added) in
    let sound : IsSound (with_deadline moment (record s { cursor = s.cursor + 1; sent = max s.sent s.cursor })) =
    (let Q : SenderData → Type 0 = λ t. IsSound t in subst Q after (gives_sound moment s i.sound))
    in
    let st = i.step in
    let N : PrinterData → Type 0 = λ p. (p.queue ≡ map entry_in (pieces_from (suc s.acked) i.queued)) × (wire_number (suc s.acked + length i.queued) ≡ p.last + 1) × (1 ≤ p.slots) × (p.slots ≤ 16) in
    let printer = subst N (sym went.printer) (st.queue, st.next, st.some, st.few) in
    subst S (sym after) (record {
      ready_is = i.ready_is;
      counts = i.counts;
      awaiting = i.awaiting;
      running = i.running;
      sound = sound;
      fits = i.fits;
      queued = i.queued;
      flying = i.flying ++ text ∷ [];
      all = sym (append_assoc i.queued i.flying (text ∷ []))
          ∙ ap (λ (l : List (List ℕ)). l ++ text ∷ []) i.all
          ∙ ap (λ (t : List ℕ). take n s.held ++ t ∷ []) (sym same)
          ∙ sym (take_more n s.held within)
          ∙ ap (λ (k : ℕ). take k s.held) one_more;
      step = record {
        linked = went.linked ∙ st.linked;
        queue = printer.0;
        up = went.up
            ∙ ap (λ (u : List (List ℕ)). u ++ bytes_in (command s.cursor text) ∷ []) st.up
            ∙ ap (λ (k : ℕ). map bytes_in (pieces_from (suc s.acked + length i.queued) i.flying) ++ bytes_in (command k text) ∷ []) (sym place)
            ∙ sym (map-append bytes_in (pieces_from (suc s.acked + length i.queued) i.flying) (command ((suc s.acked + length i.queued) + length i.flying) text ∷ []))
            ∙ ap (map bytes_in) (sym (pieces_append (suc s.acked + length i.queued) i.flying (text ∷ [])));
        down = went.down ∙ st.down;
        next = printer.1;
        some = printer.2;
        few = printer.3;
      };
    })

-- a step of a sending, or the issue of a line
abbrev pub IsSayStep : Step → Type 0
IsSayStep (issues text) = Unit {0}
IsSayStep gives = Unit {0}
IsSayStep _ = ⊥

-- lines are issued and sent
pub say_all : (moment : ℕ) (steps : List Step) (s : SenderData) (w : WorldData) (added : List WorldEvent) → Each IsSayStep steps →
    AreAllowed moment steps s → AreAdded moment true steps s w added → IsReadySession s w → IsReadySession (after_steps moment steps s) (world_from w added)
say_all moment [] s w added say can is i =
    let W : List WorldEvent → Type 0 = λ es. IsReadySession s (world_from w es) in
    subst W (sym is) i
say_all moment (issues text ∷ steps) s w added say can is i =
    let first = is.0 in
    let rest = is.1 in
    let none : first ≡ [] = is.3.0 in
    let F : List WorldEvent → Type 0 = λ es. IsReadySession (push_step text s) (world_from w es) in
    let fit : IsFit text = record { sendable = can.0.1; bytes = can.0.2 } in
    let here : IsReadySession (push_step text s) (world_from w first) = subst F (sym none) (issue_saying text s w can.0.0 fit i) in
    let V : WorldData → Type 0 = λ v. IsReadySession (after_steps moment steps (push_step text s)) v in
    subst V (sym (ap (world_from w) is.2 ∙ world_from-append w first rest)) (say_all moment steps (push_step text s) (world_from w first) rest say.1 can.1 is.4 here)
say_all moment (gives ∷ steps) s w added say can is i =
    let first = is.0 in
    let rest = is.1 in
    let here : IsReadySession (frame_step moment s) (world_from w first) = give_saying moment s w first can.0 is.3.0 (is.3.1 refl) i in
    let V : WorldData → Type 0 = λ v. IsReadySession (after_steps moment steps (frame_step moment s)) v in
    subst V (sym (ap (world_from w) is.2 ∙ world_from-append w first rest)) (say_all moment steps (frame_step moment s) (world_from w first) rest say.1 can.1 is.4 here)
say_all moment (opens ∷ steps) s w added say can is i = absurd say.0
say_all moment (finds_no_port ∷ steps) s w added say can is i = absurd say.0
say_all moment (fails_to_dial ∷ steps) s w added say can is i = absurd say.0
say_all moment (hears bytes ∷ steps) s w added say can is i = absurd say.0
say_all moment (listens ∷ steps) s w added say can is i = absurd say.0
say_all moment (fails_to_receive ∷ steps) s w added say can is i = absurd say.0
say_all moment (ticks ∷ steps) s w added say can is i = absurd say.0
say_all moment (fails_to_send ∷ steps) s w added say can is i = absurd say.0
say_all moment (hangs_up was_up ∷ steps) s w added say can is i = absurd say.0

pub say_speech : (texts : List (List ℕ)) (count : ℕ) → Each IsSayStep (issues_then_sends true texts count)
say_speech texts count = say_append (issuing texts) (replicate count gives) (say_issuing texts) (say_gives count)
  where
    say_append : (xs ys : List Step) → Each IsSayStep xs → Each IsSayStep ys → Each IsSayStep (xs ++ ys)
    say_append [] ys first second = second
    say_append (x ∷ xs) ys first second = (first.0, say_append xs ys first.1 second)

    say_issuing : (l : List (List ℕ)) → Each IsSayStep (issuing l)
    say_issuing [] = tt
    say_issuing (text ∷ l) = (tt, say_issuing l)

    say_gives : (n : ℕ) → Each IsSayStep (replicate n gives)
    say_gives zero = tt
    say_gives (suc n) = (tt, say_gives n)

-- with nothing unacknowledged a receiving finds nothing
pub none_there : (place : ℕ) (w : WorldData) → IsInStep place [] [] w → recv_events true w ≡ []
none_there place w i =
    let still : arrivals w w.up ≡ [] = ap (arrivals w) i.up in
    let idle : due_run true w ≡ [] = ap (λ (q : List Entry). if is_empty q then [] else Run ∷ []) i.queue in
    let printer : printer_events true w ≡ [] =
    ap (λ (es : List WorldEvent). es ++ due_run true (world_from w es)) still ∙ idle
    in
    ap (λ (es : List WorldEvent). es ++ due_recv (world_from w es)) printer ∙ ap (λ (d : List (List ℕ)). if is_empty d then [] else Recv ∷ []) i.down
