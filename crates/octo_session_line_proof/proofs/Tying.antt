-- If session, issued texts and history are linked, they are tied.
use Rattle.std.proofs.Common.{◌≡◌, ℕ, zero, suc, ◌≤◌, Bool, false, not, eqb, List, [], ◌∷◌, ◌++◌, length, map, take, drop, refl, sym, ◌∙◌, ap, subst, arith}
use Rattle.std.specs.Prelude.{Some, filter, slice_get, if◌then◌else◌}
use Rattle.std.proofs.lemmas.Bool.{ne_eqb}
use Rattle.marlin_frame.specs.Numbering.{hello_number, wire_number}
use Rattle.printer_model.specs.Printer.{Logged}
use Rattle.printer_model.specs.World.{WorldData, apply, world_from}
use Rattle.printer_model.specs.Executed.{opens, is_counted, executed, logged_from}
use Rattle.printer_model.specs.Exchanged.{events_of_session}
use Rattle.printer_model.specs.declared.event.WorldEvent.{WorldEvent}
use Rattle.printer_model.specs.declared.event.WorldEvent.TheVariants.{Opened}
use Rattle.printer_model.proofs.Sessions.{opens-append}
use Rattle.printer_model.proofs.Starts.{till-stop, session_of-last, executed-from}
use Rattle.printer_model.specs.declared.oks.Oks.{Oks}
use Rattle.printer_link.specs.Link.{LinkKind, world_in}
use Rattle.send_window.specs.Counting.{acked_as}
use Rattle.send_window.specs.Data.{SenderData}
use Rattle.octo_session.specs.Data.{SessionData}
use Rattle.octo_session_line_proof.specs.Pieces.{Piece, greeting, command, Each, logged_in, AreLinesFrom, AreAccepted}
use Rattle.octo_session_line_proof.specs.Wires.{Start, Wires, Printed, before, after, lines_run, Reads, counting, naming}
use Rattle.octo_session_line_proof.specs.Stopped.{IsHelloOrFirst, Fits, met, stopped}
use Rattle.octo_session_line_proof.specs.Traces.{IsTraced}
use Rattle.octo_session.specs.Sends.{AreSendsFit, traffic_from}
use Rattle.octo_session_line_proof.proofs.Lists.{lines_all, accepted_front}
use Rattle.octo_session_line_proof.proofs.Fitting.{fits_sound}
use Rattle.octo_session_line_proof.proofs.Giving.{tally_acked}
use Rattle.octo_session_line_proof.specs.Linked.{start_of, IsOpened}
use Rattle.octo_session.specs.Tied.{world_before, IsTied}
use Rattle.octo_session_line_proof.proofs.Turned.{world_since}

-- a list from a place on begins with the item at that place
drop_at : (texts : List (List ℕ)) (place : ℕ) (text : List ℕ) → slice_get texts place ≡ Some text → drop place texts ≡ text ∷ drop (suc place) texts
drop_at [] place text found = absurd (cc)
drop_at (first ∷ texts) zero text found = let same : first ≡ text = cc in ap (λ (t : List ℕ). t ∷ texts) same
drop_at (first ∷ texts) (suc place) text found = drop_at texts place text found

-- issued lines that ran, as the log has them
logged_lines : (issued : List (List ℕ)) (place : ℕ) (lines : List Piece) → AreLinesFrom issued (suc place) lines →
    map logged_in lines ≡ logged_from (suc place) (take (length lines) (drop place issued))
logged_lines issued place [] so = refl
logged_lines issued place (greeting number ∷ lines) so = absurd so.0
logged_lines issued place (command at text ∷ lines) so =
    let is : at ≡ suc place = so.0.0 in
    let found : slice_get issued place ≡ Some text = ap (λ (n : ℕ). slice_get issued n) (omega (arith, is)) ∙ so.0.1.found in
    let rest = logged_lines issued (suc place) lines so.1 in
    ap (λ (n : ℕ). record { number = Some (wire_number n); text = text } ∷ map logged_in lines) is
    ∙ ap (λ (l : List Logged). record { number = Some (wire_number (suc place)); text = text } ∷ l) rest
    ∙ sym (ap (λ (l : List (List ℕ)). logged_from (suc place) (take (suc (length lines)) l)) (drop_at issued place text found))

-- they count, the hello doesn't
all_counted : (issued : List (List ℕ)) (place : ℕ) (lines : List Piece) → AreLinesFrom issued (suc place) lines →
    filter is_counted (map logged_in lines) ≡ map logged_in lines
all_counted issued place [] so = refl
all_counted issued place (greeting number ∷ lines) so = absurd so.0
all_counted issued place (command at text ∷ lines) so =
    let other : eqb (wire_number at) hello_number ≡ false = ne_eqb (wire_number at) hello_number (λ same. (omega (arith, same, so.0.0))) in
    ap (λ (b : Bool). if not b then logged_in (command at text) ∷ filter is_counted (map logged_in lines) else filter is_counted (map logged_in lines)) other
    ∙ ap (λ (l : List Logged). logged_in (command at text) ∷ l) (all_counted issued (suc place) lines so.1)

-- what ran and counts
pub record IsExecuted (issued : List (List ℕ)) (log : List Piece) (counted : List Logged) : Type 0 where
  pub is : counted ≡ logged_from 1 (take (length counted) issued)
  pub count : length counted ≡ lines_run log

length-map : {X Y : Type 0} (f : X → Y) (xs : List X) → length (map f xs) ≡ length xs
length-map f [] = refl
length-map f (x ∷ xs) = ap suc (length-map f xs)

lines_executed : (issued : List (List ℕ)) (lines : List Piece) → AreLinesFrom issued 1 lines → IsExecuted issued lines (filter is_counted (map logged_in lines))
lines_executed issued lines so =
    let all : filter is_counted (map logged_in lines) ≡ map logged_in lines = all_counted issued 0 lines so in
    let count : length (filter is_counted (map logged_in lines)) ≡ length lines = ap length all ∙ length-map logged_in lines in
    record {
      is = all ∙ logged_lines issued 0 lines so ∙ ap (λ (n : ℕ). logged_from 1 (take n issued)) (sym count);
      count = count ∙ sym (lines_all issued 1 lines so);
    }

-- hellos don't count
accepted_executed : (issued : List (List ℕ)) (log : List Piece) → AreAccepted issued log → IsExecuted issued log (filter is_counted (map logged_in log))
accepted_executed issued [] accepted = record { is = refl; count = refl }
accepted_executed issued (greeting number ∷ log) accepted =
    let rest = accepted_executed issued log accepted.1 in
    record { is = rest.is; count = rest.count }
accepted_executed issued (command place text ∷ log) accepted = lines_executed issued (command place text ∷ log) accepted

executed_by : (issued : List (List ℕ)) (ran d : Bool) (last : ℕ) (queue log : List Piece) → Printed issued ran d last queue log →
    IsExecuted issued log (filter is_counted (map logged_in log))
executed_by issued ran d last queue log (before b) =
    let E : List Piece → Type 0 = λ l. IsExecuted issued l (filter is_counted (map logged_in l)) in
    subst E (sym b.none_run) (record { is = refl; count = refl })
executed_by issued ran d last queue log (after p) = accepted_executed issued log (accepted_front issued log queue p.accepted)

-- the acknowledged lines have run
reads_run : (issued : List (List ℕ)) (s : SenderData) (linked : Bool) (oks : Oks) (a : Wires) (down : List (List ℕ)) → Reads issued s linked oks a down →
    s.acked ≤ lines_run a.log
reads_run issued s linked oks a down (counting c) = c.replies.acked_run
reads_run issued s linked oks a down (naming n) = n.replies.acked_run

-- one line, or none, that ran among hellos
none_counted : (issued : List (List ℕ)) (log : List Piece) → Each (IsHelloOrFirst issued) log → lines_run log ≡ 0 → filter is_counted (map logged_in log) ≡ []
none_counted issued [] all none = refl
none_counted issued (greeting number ∷ log) all none = none_counted issued log all.1 none
none_counted issued (command place text ∷ log) all none = absurd (omega (arith, none))

first_executed : (issued : List (List ℕ)) (log : List Piece) → Each (IsHelloOrFirst issued) log → lines_run log ≤ 1 →
    IsExecuted issued log (filter is_counted (map logged_in log))
first_executed issued [] all few = record { is = refl; count = refl }
first_executed issued (greeting number ∷ log) all few =
    let rest = first_executed issued log all.1 few in
    record { is = rest.is; count = rest.count }
first_executed issued (command place text ∷ log) all few =
    let none : lines_run log ≡ 0 = omega (arith, few) in
    let one : IsExecuted issued (command place text ∷ []) (filter is_counted (logged_in (command place text) ∷ [])) = lines_executed issued (command place text ∷ []) (all.0, tt) in
    let same : filter is_counted (map logged_in (command place text ∷ log)) ≡ filter is_counted (logged_in (command place text) ∷ []) =
    ap (λ (l : List Logged). if is_counted (logged_in (command place text)) then logged_in (command place text) ∷ l else l) (none_counted issued log all.1 none)
    in
    let E : List Logged → Type 0 = λ l. IsExecuted issued (command place text ∷ log) l in
    subst E (sym same) (record { is = one.is; count = omega (arith, one.count, none) })

-- what ran in a session, with or without a line before the `ok` of the hello
record HasRun (start : Start) (issued : List (List ℕ)) (s : SenderData) (w : WorldData) : Type 0 where
  log : List Piece
  gained : w.log ≡ start.log ++ map logged_in log
  executed_so : IsExecuted issued log (filter is_counted (map logged_in log))
  acked_run : s.acked ≤ lines_run log

has_run : (start : Start) (issued : List (List ℕ)) (s : SenderData) (w : WorldData) → Fits start issued s w → HasRun start issued s w
has_run start issued s w (met m) = record {
  log = m.wires.log;
  gained = m.shows.log;
  executed_so = executed_by issued m.wires.ran m.wires.dropped w.printer.last m.wires.queue m.wires.log m.numbers.printed;
  acked_run = reads_run issued s w.linked w.printer.oks m.wires w.down m.reads;
}
has_run start issued s w (stopped m) = record {
  log = m.wires.log;
  gained = m.shows.log;
  executed_so = first_executed issued m.wires.log m.log (omega (arith, m.once, m.sound.not_past, m.one));
  acked_run = omega (arith, m.sound.none_acked m.unready);
}

-- the last session is tied
pub tied_at : (kind : LinkKind) (issued : List (List ℕ)) (s : SenderData) (front : List WorldEvent) (last : ℕ) (rest : List WorldEvent) →
    IsTraced (start_of kind front s.numbered rest) (apply (world_in kind front) (Opened last)) issued s rest →
    IsTied s.numbered kind issued s.acked (front ++ Opened last ∷ rest) (suc (opens front))
tied_at kind issued s front last rest traced =
    let past : List WorldEvent = front ++ Opened last ∷ rest in
    let base : WorldData = apply (world_in kind front) (Opened last) in
    let start : Start = start_of kind front s.numbered rest in
    let run : HasRun start issued s (world_from base rest) = has_run start issued s (world_from base rest) traced.meets in
    let log : List Piece = run.log in
    let gained : (world_in kind past).log ≡ (world_in kind front).log ++ map logged_in log =
    ap (λ (w : WorldData). w.log) (world_since kind past front last rest refl) ∙ run.gained
    in
    let ran : executed kind.slots kind.oks past (suc (opens front)) ≡ filter is_counted (map logged_in log) =
    executed-from kind.slots kind.oks front rest last (map logged_in log) traced.same_session gained
    in
    let by : IsExecuted issued log (filter is_counted (map logged_in log)) = run.executed_so in
    let E : List Logged → Type 0 = λ l. IsExecuted issued log l in
    let so : IsExecuted issued log (executed kind.slots kind.oks past (suc (opens front))) = subst E (sym ran) by in
    let world : world_before kind past (suc (opens front)) ≡ world_in kind front = ap (world_in kind) (till-stop front rest last) in
    let events : events_of_session (suc (opens front)) past ≡ Opened last ∷ rest = session_of-last front rest last traced.same_session in
    let S : WorldData → Type 0 = λ w. AreSendsFit s.numbered issued [] w (events_of_session (suc (opens front)) past) in
    let V : List WorldEvent → Type 0 = λ es. AreSendsFit s.numbered issued [] (world_in kind front) es in
    record {
      executed_first = so.is;
      acked_is = sym (
          ap (λ (w : WorldData). acked_as s.numbered (traffic_from w (events_of_session (suc (opens front)) past))) world
          ∙ ap (λ (es : List WorldEvent). acked_as s.numbered (traffic_from (world_in kind front) es)) events
          ∙ tally_acked (traffic_from base rest) s s.numbered refl (fits_sound start issued s (world_from base rest) traced.meets) traced.tallied);
      acked_run = omega (arith, so.count, run.acked_run);
      sends = subst S (sym world) (subst V (sym events) (tt, traced.sends));
    }

-- once a turn has made a link, the last session is tied
pub opened_tied : (kind : LinkKind) (issued : List (List ℕ)) (x : SessionData) (past : List WorldEvent) → IsOpened kind issued x past →
    IsTied x.sender.numbered kind issued x.sender.acked past (opens past)
opened_tied kind issued x past o =
    let number : suc (opens o.front) ≡ opens past = omega (arith, ap opens o.is, opens-append o.front (Opened o.last ∷ o.rest), o.traced.same_session) in
    let P : List WorldEvent → Type 0 = λ es. IsTied x.sender.numbered kind issued x.sender.acked es (suc (opens o.front)) in
    let N : ℕ → Type 0 = λ n. IsTied x.sender.numbered kind issued x.sender.acked past n in
    subst N number (subst P (sym o.is) (tied_at kind issued x.sender o.front o.last o.rest o.traced))
