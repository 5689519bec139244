-- What the line, the printer and the host do leaves a session that stops the printer early as it is, until the link is closed and after it.
use Rattle.std.proofs.Common.{◌≡◌, ◌≢◌, ◌⊎◌, inl, inr, ℕ, suc, ◌+◌, ◌<◌, ◌≤◌, zero, Bool, true, false, not, ◌&&◌, List, [], ◌∷◌, ◌++◌, length, map, set, refl, sym, ◌∙◌, ap, subst, append-nil, arith}
use Rattle.std.specs.Prelude.{Ok, Err, nat_lt, Some}
use Rattle.std.specs.List.{remove}
use Rattle.std.proofs.lemmas.Bool.{cases_eq, and_right, and_parts}
use Rattle.std.proofs.lemmas.Grind.{common_steps}
use Rattle.std.proofs.lemmas.List.{map-append, map-set}
use Rattle.marlin_frame.specs.Frame.{fails}
use Rattle.marlin_frame.specs.Numbering.{wire_number}
use Rattle.printer_model.specs.Printer.{Entry, IsRefusal, is_full, take_judged, run_queue}
use Rattle.printer_model.specs.World.{WorldData, is_empty, is_free, can_happen, happen, apply, fits_wire, after_arrival, after_run}
use Rattle.printer_model.specs.declared.event.WorldEvent.{WorldEvent}
use Rattle.printer_model.specs.declared.event.WorldEvent.TheVariants.{Opened, Send, Arrive, Lose, LoseReply, Garble, Run, Restart, Chatter, Recv, Closed}
use Rattle.printer_model.specs.declared.printer.Reason.{Reason}
use Rattle.printer_model.specs.declared.printer.Reason.TheVariants.{WrongNumber}
use Rattle.printer_model.proofs.Judging.{judged-failing}
use Rattle.printer_model.proofs.Laws.{after_event, stays, run_queue_of, arrive_accepts, arrive_refuses}
use Rattle.printer_model.proofs.Wires.{map_remove}
use Rattle.send_window.specs.Data.{SenderData, IsSound}
use Rattle.send_window.specs.Hearing.{tick_step}
use Rattle.send_window.specs.Sending.{line, next_of, frame_step}
use Rattle.send_window.specs.Session.{HoldsIssued, ticks, gives}
use Rattle.send_window.proofs.Issued.{step_holds}
use Rattle.send_window.proofs.Soundness.{ticks_sound, gives_sound}
use Rattle.octo_session_line_proof.specs.Pieces.{Piece, greeting, command, Sent, intact, corrupted, entry_in, bytes_in, bytes_on, Each, IsFailing}
use Rattle.octo_session_line_proof.specs.Wires.{Start, Wires, Shows, lines_run}
use Rattle.octo_session_line_proof.specs.Stopped.{IsHelloOrFirst, IsSentFirst, lines_up, Stopped}
use Rattle.octo_session_line_proof.proofs.Flags.{SameFlags, tick_flags, give_flags}
use Rattle.octo_session_line_proof.proofs.Free.{logged_more}
use Rattle.octo_session_line_proof.proofs.Lists.{each_push, each_remove, each_set, issued_fit, run_append}
use Rattle.octo_session_line_proof.proofs.Reading.{line_accepted, line_refused, greeting_accepted}

-- how many lines are on the wire after one was lost, one corrupted, or more were sent
up_removed : (up : List Sent) (at : ℕ) → lines_up (remove up at) ≤ lines_up up
up_removed [] zero = omega arith
up_removed [] (suc at) = omega arith
up_removed (intact piece ∷ up) zero = omega arith
up_removed (intact piece ∷ up) (suc at) = omega (arith, up_removed up at)
up_removed (corrupted bytes ∷ up) zero = omega arith
up_removed (corrupted bytes ∷ up) (suc at) = omega (arith, up_removed up at)

up_failed : (up : List Sent) (at : ℕ) (bytes : List ℕ) → lines_up (set up at (corrupted bytes)) ≤ lines_up up
up_failed [] at bytes = omega arith
up_failed (intact piece ∷ up) zero bytes = omega arith
up_failed (intact piece ∷ up) (suc at) bytes = omega (arith, up_failed up at bytes)
up_failed (corrupted old ∷ up) zero bytes = omega arith
up_failed (corrupted old ∷ up) (suc at) bytes = omega (arith, up_failed up at bytes)

up_append : (xs ys : List Sent) → lines_up (xs ++ ys) ≡ lines_up xs + lines_up ys
up_append [] ys = omega arith
up_append (intact piece ∷ xs) ys = omega (arith, up_append xs ys)
up_append (corrupted bytes ∷ xs) ys = up_append xs ys

module _ (start : Start) (issued : List (List ℕ)) (s : SenderData) (w : WorldData) where
  -- no line more in another world
  moved : (m : Stopped start issued s w) (v : WorldData) (a : Wires) → Shows start a v → Each (IsHelloOrFirst issued) a.log → Each (IsHelloOrFirst issued) a.queue →
      Each (IsSentFirst issued) a.up →
      lines_run a.log + lines_run a.queue + lines_up a.up ≤ lines_run m.wires.log + lines_run m.wires.queue + lines_up m.wires.up → Stopped start issued s v
  moved m v a shows log queue up fewer = record {
    wires = a;
    kind = m.kind;
    shows = shows;
    sound = m.sound;
    holds = m.holds;
    fit = m.fit;
    unready = m.unready;
    one = m.one;
    log = log;
    queue = queue;
    up = up;
    once = omega (arith, m.once, fewer);
  }

  -- the same wires
  kept : (m : Stopped start issued s w) (v : WorldData) → Shows start m.wires v → Stopped start issued s v
  kept m v shows = moved m v m.wires shows m.log m.queue m.up (omega arith)

  lose_stopped : (at : ℕ) → Stopped start issued s w → Stopped start issued s (happen w (Lose at))
  lose_stopped at m =
      let a = m.wires in
      moved m (happen w (Lose at)) (record a { up = remove a.up at })
      (record { few = m.shows.few; queue = m.shows.queue; log = m.shows.log; up = ap (λ (up : List (List ℕ)). remove up at) m.shows.up ∙ sym (map_remove bytes_on a.up at) })
      m.log m.queue (each_remove (IsSentFirst issued) a.up at m.up) (omega (arith, up_removed a.up at))

  corrupt_stopped : (at : ℕ) (bytes : List ℕ) → IsFailing bytes → Stopped start issued s w → Stopped start issued s (record w { up = set w.up at bytes })
  corrupt_stopped at bytes failing m =
      let a = m.wires in
      moved m (record w { up = set w.up at bytes }) (record a { up = set a.up at (corrupted bytes) })
      (record {
        few = m.shows.few;
        queue = m.shows.queue;
        log = m.shows.log;
        up = ap (λ (l : List (List ℕ)). set l at bytes) m.shows.up ∙ sym (map-set bytes_on a.up at (corrupted bytes));
      })
      m.log m.queue (each_set (IsSentFirst issued) a.up at (corrupted bytes) m.up failing) (omega (arith, up_failed a.up at bytes))

  restart_stopped : Stopped start issued s w → Stopped start issued s (happen w Restart)
  restart_stopped m =
      moved m (happen w Restart) (record m.wires { queue = [] }) (record { few = m.shows.few; queue = refl; log = m.shows.log; up = m.shows.up })
      m.log tt m.up (omega arith)

  pub closed_stopped : Stopped start issued s w → Stopped start issued s (happen w Closed)
  closed_stopped m =
      moved m (happen w Closed) (record m.wires { up = [] }) (record { few = m.shows.few; queue = m.shows.queue; log = m.shows.log; up = refl })
      m.log m.queue tt (omega arith)

  -- the front of the queue runs
  run_stopped : (m : Stopped start issued s w) (queue : List Piece) → m.wires.queue ≡ queue → Stopped start issued s (apply w Run)
  run_stopped m [] is =
      let S : WorldData → Type 0 = λ v. Stopped start issued s v in
      let cannot : can_happen w Run ≡ false = ap (λ (q : List Entry). not (is_empty q)) (m.shows.queue ∙ ap (map entry_in) is) in
      subst S (sym (stays w Run cannot)) m
  run_stopped m (piece ∷ queue) is =
      let S : WorldData → Type 0 = λ v. Stopped start issued s v in
      let a = m.wires in
      let all : Each (IsHelloOrFirst issued) (piece ∷ queue) = subst (Each (IsHelloOrFirst issued)) is m.queue in
      let count : lines_run a.queue ≡ lines_run (piece ∷ []) + lines_run queue = ap lines_run is ∙ run_append (piece ∷ []) queue in
      subst S (sym (run_queue_of w (entry_in piece) (map entry_in queue) (m.shows.queue ∙ ap (map entry_in) is)))
      (moved m (after_run w (run_queue w.printer (entry_in piece ∷ map entry_in queue))) (record a { queue = queue; log = a.log ++ piece ∷ [] })
      (record { few = m.shows.few; queue = refl; log = logged_more start issued s w a piece m.shows.log; up = m.shows.up })
      (each_push (IsHelloOrFirst issued) a.log piece m.log all.0) all.1 m.up (omega (arith, count, run_append a.log (piece ∷ []))))

  -- the line at the front was accepted
  taken_stopped : (m : Stopped start issued s w) (piece : Piece) (up : List Sent) → m.wires.up ≡ intact piece ∷ up →
      Stopped start issued s (after_arrival w (map bytes_on up) (take_judged w.printer (Ok (entry_in piece))))
  taken_stopped m piece up is =
      let a = m.wires in
      let all : Each (IsSentFirst issued) (intact piece ∷ up) = subst (Each (IsSentFirst issued)) is m.up in
      let count : lines_up a.up ≡ lines_run (piece ∷ []) + lines_up up = ap lines_up is in
      moved m (after_arrival w (map bytes_on up) (take_judged w.printer (Ok (entry_in piece)))) (record a { up = up; queue = a.queue ++ piece ∷ [] })
      (record {
        few = m.shows.few;
        queue = ap (λ (q : List Entry). q ++ entry_in piece ∷ []) m.shows.queue ∙ sym (map-append entry_in a.queue (piece ∷ []));
        log = m.shows.log;
        up = refl;
      })
      m.log (each_push (IsHelloOrFirst issued) a.queue piece m.queue all.0) all.1 (omega (arith, count, run_append a.queue (piece ∷ [])))

  -- it was refused
  refused_stopped : (m : Stopped start issued s w) (sent : Sent) (up : List Sent) (reason : Reason) → m.wires.up ≡ sent ∷ up →
      Stopped start issued s (after_arrival w (map bytes_on up) (take_judged w.printer (Err reason)))
  refused_stopped m sent up reason is =
      let a = m.wires in
      let all : Each (IsSentFirst issued) (sent ∷ up) = subst (Each (IsSentFirst issued)) is m.up in
      let count : lines_up a.up ≡ lines_up (sent ∷ []) + lines_up up = ap lines_up is ∙ up_append (sent ∷ []) up in
      moved m (after_arrival w (map bytes_on up) (take_judged w.printer (Err reason))) (record a { up = up })
      (record { few = m.shows.few; queue = m.shows.queue; log = m.shows.log; up = refl }) m.log m.queue all.1 (omega (arith, count))

  arrive_line : (m : Stopped start issued s w) (place : ℕ) (text : List ℕ) (up : List Sent) → m.wires.up ≡ intact (command place text) ∷ up → is_full w.printer ≡ false →
      (wire_number place ≡ w.printer.last + 1) ⊎ (wire_number place ≢ w.printer.last + 1) → Stopped start issued s (apply w Arrive)
  arrive_line m place text up is room (inl turn) =
      let S : WorldData → Type 0 = λ v. Stopped start issued s v in
      let its = (subst (Each (IsSentFirst issued)) is m.up).0 in
      let few : place ≤ 1999999999 = omega (arith, its.0) in
      subst S (sym (arrive_accepts w (bytes_in (command place text)) (map bytes_on up) (entry_in (command place text)) (m.shows.up ∙ ap (map bytes_on) is) room
      (line_accepted w.printer.last place text few (issued_fit issued place text m.fit its.1) turn)))
      (taken_stopped m (command place text) up is)
  arrive_line m place text up is room (inr other) =
      let S : WorldData → Type 0 = λ v. Stopped start issued s v in
      let its = (subst (Each (IsSentFirst issued)) is m.up).0 in
      let few : place ≤ 1999999999 = omega (arith, its.0) in
      subst S (sym (arrive_refuses w (bytes_in (command place text)) (map bytes_on up) WrongNumber (m.shows.up ∙ ap (map bytes_on) is) room
      (line_refused w.printer.last place text few (issued_fit issued place text m.fit its.1) other)))
      (refused_stopped m (intact (command place text)) up WrongNumber is)

  arrive_stopped : (m : Stopped start issued s w) (up : List Sent) (full : Bool) → m.wires.up ≡ up → is_full w.printer ≡ full → Stopped start issued s (apply w Arrive)
  arrive_stopped m [] full is room =
      let S : WorldData → Type 0 = λ v. Stopped start issued s v in
      let cannot : can_happen w Arrive ≡ false = ap (λ (l : List (List ℕ)). not (is_empty l) && not (is_full w.printer)) (m.shows.up ∙ ap (map bytes_on) is) in
      subst S (sym (stays w Arrive cannot)) m
  arrive_stopped m (sent ∷ up) true is room =
      let S : WorldData → Type 0 = λ v. Stopped start issued s v in
      let cannot : can_happen w Arrive ≡ false = and_right (not (is_empty w.up)) (not (is_full w.printer)) (ap not room) in
      subst S (sym (stays w Arrive cannot)) m
  arrive_stopped m (intact (greeting lead) ∷ up) false is room =
      let S : WorldData → Type 0 = λ v. Stopped start issued s v in
      let all : Each (IsSentFirst issued) (intact (greeting lead) ∷ up) = subst (Each (IsSentFirst issued)) is m.up in
      subst S (sym (arrive_accepts w (bytes_in (greeting lead)) (map bytes_on up) (entry_in (greeting lead)) (m.shows.up ∙ ap (map bytes_on) is) room (greeting_accepted w.printer.last lead all.0)))
      (taken_stopped m (greeting lead) up is)
  arrive_stopped m (intact (command place text) ∷ up) false is room = arrive_line m place text up is room (cases_eq (wire_number place) (w.printer.last + 1))
  arrive_stopped m (corrupted bytes ∷ up) false is room =
      let S : WorldData → Type 0 = λ v. Stopped start issued s v in
      let all : Each (IsSentFirst issued) (corrupted bytes ∷ up) = subst (Each (IsSentFirst issued)) is m.up in
      let refused : IsRefusal w.printer.last bytes = judged-failing w.printer.last bytes all.0 in
      subst S (sym (arrive_refuses w bytes (map bytes_on up) refused.reason (m.shows.up ∙ ap (map bytes_on) is) room refused.is)) (refused_stopped m (corrupted bytes) up refused.reason is)

  -- what the line and the printer do by themselves
  pub free_stopped : (event : WorldEvent) → is_free event ≡ true → Stopped start issued s w → Stopped start issued s (apply w event)
  free_stopped (Opened last) free m = absurd (cc)
  free_stopped (Send sent) free m = absurd (cc)
  free_stopped Arrive free m = arrive_stopped m m.wires.up (is_full w.printer) refl refl
  free_stopped (Lose at) free m = after_event (λ v. Stopped start issued s v) w (Lose at) m (λ can. lose_stopped at m)
  free_stopped (LoseReply at) free m =
      after_event (λ v. Stopped start issued s v) w (LoseReply at) m
      (λ can. kept m (happen w (LoseReply at)) (record { few = m.shows.few; queue = m.shows.queue; log = m.shows.log; up = m.shows.up }))
  free_stopped (Garble at bytes) free m =
      after_event (λ v. Stopped start issued s v) w (Garble at bytes) m
      (λ can. corrupt_stopped at bytes.items (and_parts (fails bytes.items) (fits_wire bytes.items) (and_parts (nat_lt at (length w.up)) (fails bytes.items && fits_wire bytes.items) can).1).0 m)
  free_stopped Run free m = run_stopped m m.wires.queue refl
  free_stopped Restart free m = after_event (λ v. Stopped start issued s v) w Restart m (λ on. restart_stopped m)
  free_stopped (Chatter reply) free m =
      after_event (λ v. Stopped start issued s v) w (Chatter reply) m
      (λ can. kept m (happen w (Chatter reply)) (record { few = m.shows.few; queue = m.shows.queue; log = m.shows.log; up = m.shows.up }))
  free_stopped Recv free m = absurd (cc)
  free_stopped Closed free m = absurd (cc)

-- a step of the sender that a printer can't see, and with which no line goes out that wasn't returned
marks_stopped : (start : Start) (issued : List (List ℕ)) (s t : SenderData) (w : WorldData) → SameFlags s t → IsSound t → HoldsIssued issued t → s.cursor ≤ t.cursor →
    Stopped start issued s w → Stopped start issued t w
marks_stopped start issued s t w same sound holds later m = record {
  wires = m.wires;
  kind = same.kind ∙ m.kind;
  shows = m.shows;
  sound = sound;
  holds = holds;
  fit = m.fit;
  unready = same.ready ∙ m.unready;
  one = same.issued ∙ m.one;
  log = m.log;
  queue = m.queue;
  up = m.up;
  once = omega (arith, m.once, later);
}

tick_cursor : (moment : ℕ) (s : SenderData) → s.ready ≡ false → (tick_step moment s).cursor ≡ s.cursor
tick_cursor moment s unready = grind (arith, common_steps)

pub tick_stopped : (start : Start) (issued : List (List ℕ)) (moment : ℕ) (s : SenderData) (w : WorldData) → Stopped start issued s w → Stopped start issued (tick_step moment s) w
tick_stopped start issued moment s w m =
    let Holds : List (List ℕ) → Type 0 = λ texts. HoldsIssued texts (tick_step moment s) in
    marks_stopped start issued s (tick_step moment s) w (tick_flags moment s) (ticks_sound moment s m.sound)
    (subst Holds (append-nil issued) (step_holds (ticks moment) s issued m.holds)) (omega (arith, tick_cursor moment s m.unready)) m

-- how far the cursor moves
give_cursor : (moment : ℕ) (s : SenderData) → s.cursor ≤ (frame_step moment s).cursor
give_cursor moment s = grind (arith, common_steps)

line_cursor : (moment : ℕ) (s : SenderData) (place : ℕ) (text : List ℕ) → next_of s ≡ Some (line place text) → (frame_step moment s).cursor ≡ s.cursor + 1
line_cursor moment s place text is = grind (arith, common_steps)

pub give_stopped : (start : Start) (issued : List (List ℕ)) (moment : ℕ) (s : SenderData) (w : WorldData) → Stopped start issued s w → Stopped start issued (frame_step moment s) w
give_stopped start issued moment s w m =
    let Holds : List (List ℕ) → Type 0 = λ texts. HoldsIssued texts (frame_step moment s) in
    marks_stopped start issued s (frame_step moment s) w (give_flags moment s) (gives_sound moment s m.sound)
    (subst Holds (append-nil issued) (step_holds (gives moment) s issued m.holds)) (give_cursor moment s) m

-- what is on the wire of it is no more than the cursor moves
pub line_moves : (moment : ℕ) (s : SenderData) (place : ℕ) (text : List ℕ) → next_of s ≡ Some (line place text) →
    lines_up (intact (command place text) ∷ []) + s.cursor ≤ (frame_step moment s).cursor
line_moves moment s place text is = omega (arith, line_cursor moment s place text is)

pub hello_moves : (moment : ℕ) (s : SenderData) (number : ℕ) → lines_up (intact (greeting number) ∷ []) + s.cursor ≤ (frame_step moment s).cursor
hello_moves moment s number = omega (arith, give_cursor moment s)

pub failing_moves : (moment : ℕ) (s : SenderData) (bytes : List ℕ) → lines_up (corrupted bytes ∷ []) + s.cursor ≤ (frame_step moment s).cursor
failing_moves moment s bytes = omega (arith, give_cursor moment s)

-- a line is returned and sent, as it is or failing
pub sent_stopped : (start : Start) (issued : List (List ℕ)) (moment : ℕ) (s : SenderData) (w : WorldData) (sent : Sent) (bytes : List ℕ) → bytes ≡ bytes_on sent →
    IsSentFirst issued sent → lines_up (sent ∷ []) + s.cursor ≤ (frame_step moment s).cursor → Stopped start issued s w →
    Stopped start issued (frame_step moment s) (record w { up = w.up ++ bytes ∷ [] })
sent_stopped start issued moment s w sent bytes is its moves m =
    let a = m.wires in
    let Holds : List (List ℕ) → Type 0 = λ texts. HoldsIssued texts (frame_step moment s) in
    record {
      wires = record a { up = a.up ++ sent ∷ [] };
      kind = (give_flags moment s).kind ∙ m.kind;
      shows = record {
        few = m.shows.few;
        queue = m.shows.queue;
        log = m.shows.log;
        up = ap (λ (l : List (List ℕ)). l ++ bytes ∷ []) m.shows.up ∙ ap (λ (b : List ℕ). map bytes_on a.up ++ b ∷ []) is ∙ sym (map-append bytes_on a.up (sent ∷ []));
      };
      sound = gives_sound moment s m.sound;
      holds = subst Holds (append-nil issued) (step_holds (gives moment) s issued m.holds);
      fit = m.fit;
      unready = (give_flags moment s).ready ∙ m.unready;
      one = (give_flags moment s).issued ∙ m.one;
      log = m.log;
      queue = m.queue;
      up = each_push (IsSentFirst issued) a.up sent m.up its;
      once = omega (arith, m.once, moves, up_append a.up (sent ∷ []));
    }
