-- A `start` on the wire from the printer comes of a restart in the session.
use Rattle.std.proofs.Common.{◌≡◌, ℕ, ◌-◌, ◌<◌, ◌≤◌, ◌^◌, Bool, true, false, not, List, [], ◌∷◌, ◌++◌, length, map, drop, refl, sym, ◌∙◌, ap, subst, append_assoc, append-nil, arith}
use Rattle.std.specs.Prelude.{Some, Ok, Err, Result, if◌then◌else◌}
use Rattle.std.specs.List.{list_any, list_all}
use Rattle.std.proofs.lemmas.Bool.{or_left, or_right, cond_both, and_parts}
use Rattle.std.proofs.lemmas.List.Folds.{list_any-append}
use Rattle.marlin_reply.specs.Kind.{is_chatter}
use Rattle.printer_model.specs.Printer.{Entry, PrinterData, is_full, take_judged, take_line, judged}
use Rattle.printer_model.specs.Replies.{error_line, resend_line, ok_line, run_reply, taken_replies}
use Rattle.printer_model.specs.World.{WorldData, is_empty, is_free, can_happen, apply, world_from, arrive_front, down_with_reply, is_restart}
use Rattle.printer_model.specs.declared.event.WorldEvent.{WorldEvent}
use Rattle.printer_model.specs.declared.event.WorldEvent.TheVariants.{Opened, Send, Arrive, Lose, LoseReply, Garble, Run, Restart, Chatter, Recv, Closed}
use Rattle.printer_model.specs.declared.printer.Reason.{Reason}
use Rattle.printer_model.specs.declared.printer.Taken.TheVariants.{Full}
use Rattle.printer_model.proofs.Laws.{after_event, stays, run_queue_of}
use Rattle.send_window.specs.Data.{SenderData}
use Rattle.octo_session_line_proof.specs.Pieces.{Piece, greeting, command, Each, heard_in, talk_heard, ok_heard, named_by, entry_in, front_in, text_in}
use Rattle.octo_session_line_proof.specs.Wires.{Start, Wires, Shows, Printed}
use Rattle.octo_session_line_proof.specs.Stopped.{IsHelloOrFirst, Fits, met, stopped}
use Rattle.octo_session_line_proof.specs.Traces.{IsStartKnown}
use Rattle.octo_session_line_proof.proofs.Lists.{each_remove, each_push, each_so}
use Rattle.octo_session_line_proof.proofs.Reading.{heard_error, heard_resend, heard_ok, heard_chatter, run_heard, IsRunReply}
use Rattle.octo_session_line_proof.proofs.Fitting.{free_fits}
use Rattle.octo_session_line_proof.proofs.Free.{front_small, Allows, allows_rest}

-- more events keep what is known
known_more : (events more : List WorldEvent) (line : List ℕ) → IsStartKnown events line → IsStartKnown (events ++ more) line
known_more events more line known is = list_any-append is_restart events more ∙ or_left (list_any is_restart events) (list_any is_restart more) (known is)

pub starts_more : (events more : List WorldEvent) (down : List (List ℕ)) → Each (IsStartKnown events) down → Each (IsStartKnown (events ++ more)) down
starts_more events more down all = each_so (IsStartKnown events) (IsStartKnown (events ++ more)) (known_more events more) down all

all_of : {X : Type 0} (P : X → Type 0) → ((x : X) → P x) → (xs : List X) → Each P xs
all_of P so [] = tt
all_of P so (x ∷ xs) = (so x, all_of P so xs)

each_append : {X : Type 0} (P : X → Type 0) (xs ys : List X) → Each P xs → Each P ys → Each P (xs ++ ys)
each_append P [] ys first second = second
each_append P (x ∷ xs) ys first second = (first.0, each_append P xs ys first.1 second)

pub each_behind : {X : Type 0} (P : X → Type 0) (xs : List X) → Each P xs → Each P (drop 1 xs)
each_behind P [] all = tt
each_behind P (x ∷ xs) all = all.1

not_error : (events : List WorldEvent) (reason : Reason) (last : ℕ) → IsStartKnown events (error_line reason last)
not_error events reason last is = let other : heard_in (error_line reason last) ≡ talk_heard = heard_error reason last in absurd (cc)

not_resend : (events : List WorldEvent) (last : ℕ) → IsStartKnown events (resend_line last)
not_resend events last is = let other = heard_resend last in absurd (cc)

not_ok : (events : List WorldEvent) → IsStartKnown events ok_line
not_ok events is = let other = heard_ok in absurd (cc)

judged_starts : (events : List WorldEvent) (p : PrinterData) (what : Result Entry Reason) → Each (IsStartKnown events) (taken_replies (take_judged p what).0)
judged_starts events p (Ok entry) = tt
judged_starts events p (Err reason) = (not_error events reason p.last, (not_resend events p.last, (not_ok events, tt)))

taken_starts : (events : List WorldEvent) (p : PrinterData) (line : List ℕ) → Each (IsStartKnown events) (taken_replies (take_line p line).0)
taken_starts events p line =
    cond_both (is_full p) (Full, p) (take_judged p (judged p.last line)) (λ t. Each (IsStartKnown events) (taken_replies t.0)) (λ _. tt) (λ _. judged_starts events p (judged p.last line))

arrived_starts : (events : List WorldEvent) (w : WorldData) (up : List (List ℕ)) → Each (IsStartKnown events) w.down →
    Each (IsStartKnown events) (arrive_front w up).down
arrived_starts events w [] all = all
arrived_starts events w (line ∷ behind) all = each_append (IsStartKnown events) w.down (taken_replies (take_line w.printer line).0) all (taken_starts events w.printer line)

-- a hello and the first line have numbers that fit
first_small : (issued : List (List ℕ)) (piece : Piece) → IsHelloOrFirst issued piece → front_in piece < 2 ^ 32
first_small issued (greeting number) small = omega arith
first_small issued (command place text) is = omega (arith, is.0)

module _ (start : Start) (issued : List (List ℕ)) (s : SenderData) (events : List WorldEvent) where
  replied_starts : (w : WorldData) (reply : List ℕ) (on : Bool) → w.linked ≡ on → IsStartKnown events reply → Each (IsStartKnown events) w.down →
      Each (IsStartKnown events) (down_with_reply w reply)
  replied_starts w reply true on known all =
      let E : List (List ℕ) → Type 0 = λ l. Each (IsStartKnown events) l in
      subst E (sym (ap (λ (b : Bool). if b then w.down ++ reply ∷ [] else w.down) on)) (each_push (IsStartKnown events) w.down reply all known)
  replied_starts w reply false off known all =
      let E : List (List ℕ) → Type 0 = λ l. Each (IsStartKnown events) l in
      subst E (sym (ap (λ (b : Bool). if b then w.down ++ reply ∷ [] else w.down) off)) all

  run_starts : (w : WorldData) (a : Wires) (queue : List Piece) → Shows start (record a { queue = queue }) w →
      ((piece : Piece) (rest : List Piece) → queue ≡ piece ∷ rest → front_in piece < 2 ^ 32) → Each (IsStartKnown events) w.down → Each (IsStartKnown events) (apply w Run).down
  run_starts w a [] sh small all =
      let E : WorldData → Type 0 = λ v. Each (IsStartKnown events) v.down in
      let cannot : can_happen w Run ≡ false = ap (λ (q : List Entry). not (is_empty q)) sh.queue in
      subst E (sym (stays w Run cannot)) all
  run_starts w a (piece ∷ queue) sh small all =
      let E : WorldData → Type 0 = λ v. Each (IsStartKnown events) v.down in
      let free = w.printer.slots - length w.printer.queue in
      let reply = run_reply w.printer.oks.numbered (Some (front_in piece)) (text_in piece) free in
      let its : IsRunReply reply (front_in piece) = run_heard w.printer.oks.numbered (front_in piece) free (text_in piece) (small piece queue refl) (omega (arith, sh.few)) in
      let known : IsStartKnown events reply = λ is. (let ok : heard_in reply ≡ ok_heard (named_by its.named (front_in piece)) = its.heard in absurd (cc)) in
      subst E (sym (run_queue_of w (entry_in piece) (map entry_in queue) sh.queue)) (replied_starts w reply w.linked refl known all)

  -- with or without a line before the `ok` of the hello
  fits_starts : (w : WorldData) → Fits start issued s w → Each (IsStartKnown events) w.down → Each (IsStartKnown events) (apply w Run).down
  fits_starts w (met m) all =
      let a = m.wires in
      let few : length issued ≤ 1999999999 = omega (arith, m.numbers.holds.count, m.numbers.sound.few) in
      let P : List Piece → Type 0 = λ q. Printed issued a.ran a.dropped w.printer.last q a.log in
      run_starts w a a.queue m.shows (λ piece rest is. front_small issued a.ran a.dropped w.printer.last piece rest a.log few (subst P is m.numbers.printed)) all
  fits_starts w (stopped m) all =
      run_starts w m.wires m.wires.queue m.shows (λ piece rest is. first_small issued piece (subst (Each (IsHelloOrFirst issued)) is m.queue).0) all

  -- an event of the line or the printer
  event_starts : (w : WorldData) (event : WorldEvent) → is_free event ≡ true → Fits start issued s w → Each (IsStartKnown events) w.down →
      Each (IsStartKnown (events ++ event ∷ [])) (apply w event).down
  event_starts w (Opened last) free m all = absurd (cc)
  event_starts w (Send line) free m all = absurd (cc)
  event_starts w Arrive free m all =
      after_event (λ v. Each (IsStartKnown (events ++ Arrive ∷ [])) v.down) w Arrive (starts_more events (Arrive ∷ []) w.down all)
      (λ can. arrived_starts (events ++ Arrive ∷ []) w w.up (starts_more events (Arrive ∷ []) w.down all))
  event_starts w (Lose at) free m all =
      after_event (λ v. Each (IsStartKnown (events ++ Lose at ∷ [])) v.down) w (Lose at) (starts_more events (Lose at ∷ []) w.down all) (λ can. starts_more events (Lose at ∷ []) w.down all)
  event_starts w (LoseReply at) free m all =
      let later : Each (IsStartKnown (events ++ LoseReply at ∷ [])) w.down = starts_more events (LoseReply at ∷ []) w.down all in
      after_event (λ v. Each (IsStartKnown (events ++ LoseReply at ∷ [])) v.down) w (LoseReply at) later
      (λ can. each_remove (IsStartKnown (events ++ LoseReply at ∷ [])) w.down at later)
  event_starts w (Garble at line) free m all =
      after_event (λ v. Each (IsStartKnown (events ++ Garble at line ∷ [])) v.down) w (Garble at line) (starts_more events (Garble at line ∷ []) w.down all) (λ can. starts_more events (Garble at line ∷ []) w.down all)
  event_starts w Run free m all = starts_more events (Run ∷ []) (apply w Run).down (fits_starts w m all)
  event_starts w Restart free m all =
      all_of (IsStartKnown (events ++ Restart ∷ [])) (λ line is. list_any-append is_restart events (Restart ∷ []) ∙ or_right (list_any is_restart events) (list_any is_restart (Restart ∷ [])) refl) (apply w Restart).down
  event_starts w (Chatter reply) free m all =
      after_event (λ v. Each (IsStartKnown (events ++ Chatter reply ∷ [])) v.down) w (Chatter reply) (starts_more events (Chatter reply ∷ []) w.down all)
      (λ can. (let other : heard_in reply.items ≡ talk_heard = heard_chatter reply.items (and_parts w.linked (is_chatter reply.items) can).1 in
      each_push (IsStartKnown (events ++ Chatter reply ∷ [])) w.down reply.items (starts_more events (Chatter reply ∷ []) w.down all) (λ is. absurd (cc))))
  event_starts w Recv free m all = absurd (cc)
  event_starts w Closed free m all = absurd (cc)

-- several of them
pub free_starts : (start : Start) (issued : List (List ℕ)) (s : SenderData) (w : WorldData) (events more : List WorldEvent) →
    list_all is_free more ≡ true → Allows start more → Fits start issued s w → Each (IsStartKnown events) w.down → Each (IsStartKnown (events ++ more)) (world_from w more).down
free_starts start issued s w events [] free allows m all =
    let E : List WorldEvent → Type 0 = λ es. Each (IsStartKnown es) w.down in
    subst E (sym (append-nil events)) all
free_starts start issued s w events (event ∷ more) free allows m all =
    let first : is_free event ≡ true = (and_parts (is_free event) (list_all is_free more) free).0 in
    let E : List WorldEvent → Type 0 = λ es. Each (IsStartKnown es) (world_from (apply w event) more).down in
    subst E (append_assoc events (event ∷ []) more)
    (free_starts start issued s (apply w event) (events ++ event ∷ []) more (and_parts (is_free event) (list_all is_free more) free).1 (allows_rest start event more allows)
    (free_fits start issued s w event first (λ is. allows (or_left (is_restart event) (list_any is_restart more) is)) m) (event_starts start issued s events w event first m all))
