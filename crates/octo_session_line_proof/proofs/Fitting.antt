-- A session with or without a line before the `ok` of the hello: what the line, the printer and the host do leaves it so.
use Rattle.std.proofs.Common.{◌≡◌, ℕ, ◌+◌, ◌-◌, ◌<◌, ◌≤◌, ◌^◌, Bool, true, false, List, [], ◌∷◌, ◌++◌, length, map, refl, sym, ◌∙◌, ap, subst, arith}
use Rattle.std.specs.Prelude.{None}
use Rattle.std.specs.List.{list_all, list_any}
use Rattle.std.proofs.lemmas.Bool.{and_parts, or_left}
use Rattle.std.proofs.lemmas.Grind.{common_steps}
use Rattle.marlin_reply.specs.Kind.{kind_of}
use Rattle.printer_model.specs.World.{WorldData, is_free, is_restart, happen, apply, world_from}
use Rattle.printer_model.specs.declared.event.WorldEvent.{WorldEvent}
use Rattle.printer_model.specs.declared.event.WorldEvent.TheVariants.{Closed, Recv}
use Rattle.printer_model.specs.declared.oks.Oks.{Oks}
use Rattle.send_window.specs.Data.{SenderData, IsSound, NoneEarly}
use Rattle.send_window.specs.Hearing.{hear_step, tick_step}
use Rattle.send_window.specs.Sending.{last_room_of, frame_step, push_step}
use Rattle.send_window.specs.Session.{HoldsIssued, issues}
use Rattle.send_window.proofs.Issued.{step_holds}
use Rattle.send_window.proofs.Soundness.{issues_sound}
use Rattle.octo_session_line_proof.specs.Pieces.{Piece, greeting, command, Sent, intact, corrupted, heard_in, Each, IsFit, IsGreeting, IsSentEarly}
use Rattle.octo_session_line_proof.specs.Wires.{Start, Wires, Printed, before, after, Phase, shut, early, late, NamedPhase, named_shut, named_early, named_late, Reads, counting, naming, Meets}
use Rattle.octo_session_line_proof.specs.Stopped.{IsHelloOrFirst, IsSentFirst, lines_up, Stopped, Fits, met, stopped}
use Rattle.octo_session_line_proof.proofs.Free.{Allows, allows_rest, free_meets, widen_meets}
use Rattle.octo_session_line_proof.proofs.Heard.{hear_meets}
use Rattle.octo_session_line_proof.proofs.Lists.{each_push, each_so, accepted_within, greetings_run, none_accepted, none_left}
use Rattle.octo_session_line_proof.proofs.Sending.{tick_meets, give_meets, issue_meets, closed_meets}
use Rattle.octo_session_line_proof.proofs.Stopping.{free_stopped, closed_stopped, tick_stopped, give_stopped}

-- what both have
module _ (start : Start) (issued : List (List ℕ)) (s : SenderData) (w : WorldData) where
  pub fits_sound : Fits start issued s w → IsSound s
  fits_sound (met m) = m.numbers.sound
  fits_sound (stopped m) = m.sound

  pub fits_holds : Fits start issued s w → HoldsIssued issued s
  fits_holds (met m) = m.numbers.holds
  fits_holds (stopped m) = m.holds

  pub fits_kind : Fits start issued s w → s.numbered ≡ start.numbered
  fits_kind (met m) = m.begun.kind
  fits_kind (stopped m) = m.kind

  -- without such a line
  pub fits_met : NoneEarly s → Fits start issued s w → Meets start issued s w
  fits_met fresh (met m) = m
  fits_met fresh (stopped m) = absurd (omega (arith, m.one, fresh m.unready))

-- what the line and the printer do by themselves
pub free_fits : (start : Start) (issued : List (List ℕ)) (s : SenderData) (w : WorldData) (event : WorldEvent) → is_free event ≡ true →
    (is_restart event ≡ true → start.restarted ≡ true) → Fits start issued s w → Fits start issued s (apply w event)
free_fits start issued s w event free allowed (met m) = met (free_meets start issued s w event free allowed m)
free_fits start issued s w event free allowed (stopped m) = stopped (free_stopped start issued s w event free m)

-- several of them
pub all_free_fits : (start : Start) (issued : List (List ℕ)) (s : SenderData) (w : WorldData) (events : List WorldEvent) →
    list_all is_free events ≡ true → Allows start events → Fits start issued s w → Fits start issued s (world_from w events)
all_free_fits start issued s w [] free allows m = m
all_free_fits start issued s w (event ∷ events) free allows m =
    all_free_fits start issued s (apply w event) events (and_parts (is_free event) (list_all is_free events) free).1 (allows_rest start event events allows)
    (free_fits start issued s w event (and_parts (is_free event) (list_all is_free events) free).0
    (λ is. allows (or_left (is_restart event) (list_any is_restart events) is)) m)

-- a session in which the printer may restart
pub widen_fits : (start : Start) (restarted : Bool) (issued : List (List ℕ)) (s : SenderData) (w : WorldData) → (start.restarted ≡ true → restarted ≡ true) →
    Fits start issued s w → Fits (record start { restarted = restarted }) issued s w
widen_fits start restarted issued s w more (met m) = met (widen_meets start restarted issued s w more m)
widen_fits start restarted issued s w more (stopped m) = stopped (record {
  wires = m.wires;
  kind = m.kind;
  shows = record { few = m.shows.few; queue = m.shows.queue; log = m.shows.log; up = m.shows.up };
  sound = m.sound;
  holds = m.holds;
  fit = m.fit;
  unready = m.unready;
  one = m.one;
  log = m.log;
  queue = m.queue;
  up = m.up;
  once = m.once;
})

-- the clock ticks
pub tick_fits : (start : Start) (issued : List (List ℕ)) (moment : ℕ) (s : SenderData) (w : WorldData) → Fits start issued s w → Fits start issued (tick_step moment s) w
tick_fits start issued moment s w (met m) = met (tick_meets start issued moment s w m)
tick_fits start issued moment s w (stopped m) = stopped (tick_stopped start issued moment s w m)

-- a line is returned; what becomes of it comes later
pub give_fits : (start : Start) (issued : List (List ℕ)) (moment : ℕ) (s : SenderData) (w : WorldData) → Fits start issued s w → Fits start issued (frame_step moment s) w
give_fits start issued moment s w (met m) = met (give_meets start issued moment s w m)
give_fits start issued moment s w (stopped m) = stopped (give_stopped start issued moment s w m)

-- the link is closed
pub closed_fits : (start : Start) (issued : List (List ℕ)) (s : SenderData) (w : WorldData) → Fits start issued s w → Fits start issued s (happen w Closed)
closed_fits start issued s w (met m) = met (closed_meets start issued s w m)
closed_fits start issued s w (stopped m) = stopped (closed_stopped start issued s w m)

-- a reply is received and heard
pub hear_fits : (start : Start) (issued : List (List ℕ)) (moment : ℕ) (s : SenderData) (w : WorldData) (line : List ℕ) (rest : List (List ℕ)) →
    w.linked ≡ true → s.ended ≡ None → w.down ≡ line ∷ rest → NoneEarly s → Fits start issued s w → Fits start issued (hear_step (kind_of line) moment s) (happen w Recv)
hear_fits start issued moment s w line rest on running front fresh m = met (hear_meets start issued moment s w line rest on running front (fits_met start issued s w fresh m))

-- before any line what was accepted are hellos
none_printed : (issued : List (List ℕ)) (ran d : Bool) (last : ℕ) (queue log : List Piece) → issued ≡ [] → Printed issued ran d last queue log → Each IsGreeting (log ++ queue)
none_printed issued ran d last queue log none (before b) =
    let G : List Piece → Type 0 = λ l. Each IsGreeting (l ++ queue) in
    subst G (sym b.none_run) b.greetings
none_printed issued ran d last queue log none (after p) =
    none_accepted issued (log ++ queue) p.accepted (omega (arith, accepted_within issued (log ++ queue) p.accepted, ap length none))

-- and what is on the wire to the printer, or fails
none_up : (issued : List (List ℕ)) (s : SenderData) (linked : Bool) (oks : Oks) (a : Wires) (down : List (List ℕ)) → s.ready ≡ false → Reads issued s linked oks a down →
    Each IsSentEarly a.up
none_up issued s linked oks a down unready (counting c) = by c.phase
  where
    by : Phase issued s linked a c.way → Each IsSentEarly a.up
    by (shut closed none idle) = subst (Each IsSentEarly) (sym none) tt
    by (early opened is e) = e.ups
    by (late opened ready ran ups waits) = absurd (cc)
none_up issued s linked oks a down unready (naming n) = by n.phase
  where
    by : NamedPhase issued s linked a (map heard_in down) → Each IsSentEarly a.up
    by (named_shut closed none idle) = subst (Each IsSentEarly) (sym none) tt
    by (named_early opened is e) = e.ups
    by (named_late opened ready ran ups waits) = absurd (cc)

greeting_first : (issued : List (List ℕ)) (piece : Piece) → IsGreeting piece → IsHelloOrFirst issued piece
greeting_first issued (greeting number) small = small
greeting_first issued (command place text) is = absurd is

early_first : (issued : List (List ℕ)) (sent : Sent) → IsSentEarly sent → IsSentFirst issued sent
early_first issued (intact (greeting number)) small = small
early_first issued (intact (command place text)) is = absurd is
early_first issued (corrupted bytes) failing = failing

early_lines : (up : List Sent) → Each IsSentEarly up → lines_up up ≡ 0
early_lines [] all = refl
early_lines (intact (greeting number) ∷ up) all = omega (arith, early_lines up all.1)
early_lines (intact (command place text) ∷ up) all = absurd all.0
early_lines (corrupted bytes ∷ up) all = early_lines up all.1

each_left : {X : Type 0} (P : X → Type 0) (xs ys : List X) → Each P (xs ++ ys) → Each P xs
each_left P [] ys all = tt
each_left P (x ∷ xs) ys all = (all.0, each_left P xs ys all.1)

each_right : {X : Type 0} (P : X → Type 0) (xs ys : List X) → Each P (xs ++ ys) → Each P ys
each_right P [] ys all = all
each_right P (x ∷ xs) ys all = each_right P xs ys all.1

-- a line is issued before the `ok` of the hello
issue_early : (start : Start) (issued : List (List ℕ)) (text : List ℕ) (s : SenderData) (w : WorldData) → IsFit text → 0 < last_room_of s → s.ready ≡ false →
    Meets start issued s w → Stopped start (issued ++ text ∷ []) (push_step text s) w
issue_early start issued text s w fit room unready m =
    let a = m.wires in
    let n = m.numbers in
    let more : List (List ℕ) = issued ++ text ∷ [] in
    let zero_yet : s.issued ≡ 0 = m.begun.none_early unready in
    let none : issued ≡ [] = none_left issued (omega (arith, n.holds.count, zero_yet)) in
    let all : Each IsGreeting (a.log ++ a.queue) = none_printed issued a.ran a.dropped w.printer.last a.queue a.log none n.printed in
    let logged : Each IsGreeting a.log = each_left IsGreeting a.log a.queue all in
    let waiting : Each IsGreeting a.queue = each_right IsGreeting a.log a.queue all in
    let ups : Each IsSentEarly a.up = none_up issued s w.linked w.printer.oks a w.down unready m.reads in
    record {
      wires = a;
      kind = m.begun.kind;
      shows = m.shows;
      sound = issues_sound text s room n.sound;
      holds = step_holds (issues text) s issued n.holds;
      fit = each_push IsFit issued text n.fit fit;
      unready = unready;
      one = omega (arith, zero_yet);
      log = each_so IsGreeting (IsHelloOrFirst more) (greeting_first more) a.log logged;
      queue = each_so IsGreeting (IsHelloOrFirst more) (greeting_first more) a.queue waiting;
      up = each_so IsSentEarly (IsSentFirst more) (early_first more) a.up ups;
      once = omega (arith, greetings_run a.log logged, greetings_run a.queue waiting, early_lines a.up ups, n.sound.above_acked);
    }

-- afterwards there is no room for another
no_room : (s : SenderData) → s.ready ≡ false → s.issued ≡ 1 → last_room_of s ≡ 0
no_room s unready one = grind (arith, common_steps)

-- a line is issued
pub issue_fits : (start : Start) (issued : List (List ℕ)) (text : List ℕ) (s : SenderData) (w : WorldData) → IsFit text → 0 < last_room_of s → Fits start issued s w →
    Fits start (issued ++ text ∷ []) (push_step text s) w
issue_fits start issued text s w fit room (met m) = by s.ready refl
  where
    by : (ready : Bool) → s.ready ≡ ready → Fits start (issued ++ text ∷ []) (push_step text s) w
    by true ready = met (issue_meets start issued text s w fit room ready m)
    by false unready = stopped (issue_early start issued text s w fit room unready m)
issue_fits start issued text s w fit room (stopped m) = absurd (omega (arith, room, no_room s m.unready m.one))
