-- What the events of the line and the printer leave of the replies on the way, by what an `ok` counts.
use Rattle.std.proofs.Common.{◌≡◌, ℕ, ◌+◌, ◌≤◌, Bool, true, false, List, [], ◌∷◌, ◌++◌, length, map, refl, sym, ap, subst}
use Rattle.std.specs.List.{remove}
use Rattle.marlin_frame.specs.Numbering.{hello_number, wire_number}
use Rattle.printer_model.specs.Replies.{asked_after}
use Rattle.printer_model.specs.declared.oks.Oks.{Oks}
use Rattle.printer_model.proofs.Wires.{map_remove}
use Rattle.send_window.specs.Data.{SenderData, IsSound, NoneEarly}
use Rattle.send_window.specs.Session.{HoldsIssued}
use Rattle.octo_session_line_proof.specs.Pieces.{Piece, greeting, command, Sent, intact, Answer, refusal, chat, restart, Heard, ok_heard, start_heard, talk_heard, heard_in, named_by, front_in, replies_in, replies_on, Each, IsSentEarly, IsSentLate}
use Rattle.octo_session_line_proof.specs.Wires.{Wires, Printed, AreUpAhead, Counted, Named, Reads, counting, naming}
use Rattle.octo_session_line_proof.proofs.Arrivals.{phase_refused, replies_refused, greeting_taken, command_taken}
use Rattle.octo_session_line_proof.proofs.Moves.{phase_up, phase_chat, replies_chat, phase_restart, replies_restart, answer_to, run_open, run_shut, IsAfterStep}
use Rattle.octo_session_line_proof.proofs.NamedMoves.{IsAfterNamed, named_up, named_chat, named_restart, named_lost, named_run, named_run_shut, refused_by, named_refused, named_greeting_taken, named_command_taken}
use Rattle.octo_session_line_proof.proofs.Naming.{heard_more}
use Rattle.octo_session_line_proof.proofs.Ways.{down_push}

-- the line at the front is accepted
pub record IsTakenHere (issued : List (List ℕ)) (s : SenderData) (linked : Bool) (oks : Oks) (last : ℕ) (a : Wires) (down : List (List ℕ)) : Type 0 where
  pub printed : Printed issued a.ran a.dropped last a.queue a.log
  pub reads : Reads issued s linked oks a down

module _ (issued : List (List ℕ)) (s : SenderData) (linked : Bool) (oks : Oks) where
  pub counted_of : (a : Wires) (down : List (List ℕ)) (way : List Answer) → s.numbered ≡ false → oks.lost ≡ false → map heard_in down ≡ replies_on way →
      IsAfterStep issued s linked a way → Counted issued s linked oks a down
  counted_of a down way counts plain shown so =
      record { counts = counts; plain = plain; way = way; shown = shown; phase = so.phase; replies = so.replies }

  pub named_of : (a : Wires) (down : List (List ℕ)) (way : List Heard) → s.numbered ≡ true → oks.numbered ≡ true → map heard_in down ≡ way →
      IsAfterNamed issued s linked a way → Named issued s linked oks a down
  named_of a down way by_number numbers is so =
      let I : List Heard → Type 0 = λ l. IsAfterNamed issued s linked a l in
      let at : IsAfterNamed issued s linked a (map heard_in down) = subst I (sym is) so in
      record { by_number = by_number; numbers = numbers; phase = at.phase; replies = at.replies }

  -- fewer lines, or others of the same kind, are on the wire to the printer
  pub reads_up : (a : Wires) (down : List (List ℕ)) (up : List Sent) → length up ≤ length a.up → (Each IsSentEarly a.up → Each IsSentEarly up) →
      (Each (IsSentLate issued) a.up → Each (IsSentLate issued) up) → ((h : ℕ) → AreUpAhead h a.up → AreUpAhead h up) → Reads issued s linked oks a down →
      Reads issued s linked oks (record a { up = up }) down
  reads_up a down up le early_so late_so ahead_so (counting c) = counting (record {
    counts = c.counts;
    plain = c.plain;
    way = c.way;
    shown = c.shown;
    phase = phase_up issued s linked a c.way up le early_so late_so c.phase;
    replies = c.replies;
  })
  reads_up a down up le early_so late_so ahead_so (naming n) = naming (record {
    by_number = n.by_number;
    numbers = n.numbers;
    phase = named_up issued s linked a (map heard_in down) up le early_so late_so ahead_so n.phase;
    replies = n.replies;
  })

  -- another reply
  pub reads_chat : (a : Wires) (down : List (List ℕ)) (line : List ℕ) → linked ≡ true → heard_in line ≡ talk_heard → Reads issued s linked oks a down →
      Reads issued s linked oks a (down ++ line ∷ [])
  reads_chat a down line on talk (counting c) =
      counting (counted_of a (down ++ line ∷ []) (c.way ++ chat ∷ []) c.counts c.plain (down_push down (line ∷ []) c.way chat c.shown (ap (λ (h : Heard). h ∷ []) talk))
      (record { phase = phase_chat issued s linked a c.way on c.phase; replies = replies_chat s linked a.dropped a.log c.way c.replies }))
  reads_chat a down line on talk (naming n) =
      naming (named_of a (down ++ line ∷ []) (map heard_in down ++ talk_heard ∷ []) n.by_number n.numbers
      (heard_more down (line ∷ []) (talk_heard ∷ []) (ap (λ (h : Heard). h ∷ []) talk)) (named_chat issued s linked a (map heard_in down) on n.phase n.replies))

  -- the printer restarts
  pub reads_restart : (a : Wires) (down : List (List ℕ)) (line : List ℕ) → linked ≡ true → heard_in line ≡ start_heard → (a.dropped ≡ true → a.ran ≡ true) →
      Reads issued s linked oks a down → Reads issued s linked oks (record a { dropped = a.ran; queue = [] }) (down ++ line ∷ [])
  reads_restart a down line on begins so (counting c) =
      counting (counted_of (record a { dropped = a.ran; queue = [] }) (down ++ line ∷ []) (c.way ++ restart ∷ []) c.counts c.plain
      (down_push down (line ∷ []) c.way restart c.shown (ap (λ (h : Heard). h ∷ []) begins))
      (record { phase = phase_restart issued s linked a c.way on c.phase; replies = replies_restart s linked a.dropped a.ran a.log c.way c.replies }))
  reads_restart a down line on begins so (naming n) =
      naming (named_of (record a { dropped = a.ran; queue = [] }) (down ++ line ∷ []) (map heard_in down ++ start_heard ∷ []) n.by_number n.numbers
      (heard_more down (line ∷ []) (start_heard ∷ []) (ap (λ (h : Heard). h ∷ []) begins)) (named_restart issued s linked a (map heard_in down) on so n.phase n.replies))

  -- a reply is lost, which only a link that may lose replies does
  pub reads_lost : (a : Wires) (down : List (List ℕ)) (at : ℕ) → oks.lost ≡ true → Reads issued s linked oks a down → Reads issued s linked oks a (remove down at)
  reads_lost a down at lossy (counting c) = let plain : oks.lost ≡ false = c.plain in absurd (cc)
  reads_lost a down at lossy (naming n) =
      naming (named_of a (remove down at) (remove (map heard_in down) at) n.by_number n.numbers (map_remove heard_in down at)
      (named_lost issued s linked a (map heard_in down) at n.phase n.replies))

  -- the answer to a line that ran
  answered : (piece : Piece) (named : Bool) (reply : List ℕ) → heard_in reply ≡ ok_heard (named_by named (front_in piece)) →
      map heard_in (reply ∷ []) ≡ replies_in (answer_to piece named)
  answered (greeting number) named reply is = ap (λ (h : Heard). h ∷ []) is
  answered (command place text) named reply is = ap (λ (h : Heard). h ∷ []) is

  pub reads_run : (last : ℕ) (a : Wires) (down : List (List ℕ)) (piece : Piece) (queue : List Piece) (named : Bool) (reply : List ℕ) → linked ≡ true →
      Printed issued a.ran a.dropped last (piece ∷ queue) a.log → heard_in reply ≡ ok_heard (named_by named (front_in piece)) →
      Reads issued s linked oks (record a { queue = piece ∷ queue }) down →
      Reads issued s linked oks (record a { ran = true; queue = queue; log = a.log ++ piece ∷ [] }) (down ++ reply ∷ [])
  reads_run last a down piece queue named reply on printed is (counting c) =
      counting (counted_of (record a { ran = true; queue = queue; log = a.log ++ piece ∷ [] }) (down ++ reply ∷ []) (c.way ++ answer_to piece named ∷ []) c.counts c.plain
      (down_push down (reply ∷ []) c.way (answer_to piece named) c.shown (answered piece named reply is))
      (run_open issued s linked last a c.way piece queue named on printed c.phase c.replies))
  reads_run last a down piece queue named reply on printed is (naming n) =
      naming (named_of (record a { ran = true; queue = queue; log = a.log ++ piece ∷ [] }) (down ++ reply ∷ []) (map heard_in down ++ ok_heard (named_by named (front_in piece)) ∷ [])
      n.by_number n.numbers (heard_more down (reply ∷ []) (ok_heard (named_by named (front_in piece)) ∷ []) (ap (λ (h : Heard). h ∷ []) is))
      (named_run issued s linked last a (map heard_in down) piece queue named on printed n.phase n.replies))

  -- over a closed link nothing is said
  pub reads_run_shut : (a : Wires) (down : List (List ℕ)) (piece : Piece) (queue : List Piece) → linked ≡ false →
      Reads issued s linked oks (record a { queue = piece ∷ queue }) down →
      Reads issued s linked oks (record a { ran = true; queue = queue; log = a.log ++ piece ∷ [] }) down
  reads_run_shut a down piece queue off (counting c) =
      counting (counted_of (record a { ran = true; queue = queue; log = a.log ++ piece ∷ [] }) down c.way c.counts c.plain c.shown
      (run_shut issued s linked a c.way piece queue off c.phase c.replies))
  reads_run_shut a down piece queue off (naming n) =
      naming (named_of (record a { ran = true; queue = queue; log = a.log ++ piece ∷ [] }) down (map heard_in down) n.by_number n.numbers refl
      (named_run_shut issued s linked a (map heard_in down) piece queue off n.phase n.replies))

  -- the line at the front is refused
  pub reads_refused : (last : ℕ) (a : Wires) (down : List (List ℕ)) (sent : Sent) (up : List Sent) (lines : List (List ℕ)) → IsSound s → HoldsIssued issued s →
      Printed issued a.ran a.dropped last a.queue a.log → map heard_in lines ≡ refused_by (asked_after last) →
      Reads issued s linked oks (record a { up = sent ∷ up }) down → Reads issued s linked oks (record a { up = up }) (down ++ lines)
  reads_refused last a down sent up lines sound holds printed is (counting c) =
      counting (counted_of (record a { up = up }) (down ++ lines) (c.way ++ refusal (asked_after last) ∷ []) c.counts c.plain
      (down_push down lines c.way (refusal (asked_after last)) c.shown is) (record {
        phase = phase_refused issued s linked a c.way sent up (asked_after last) c.phase;
        replies = replies_refused issued s linked last a c.way sent up sound holds printed c.phase c.replies;
      }))
  reads_refused last a down sent up lines sound holds printed is (naming n) =
      naming (named_of (record a { up = up }) (down ++ lines) (map heard_in down ++ refused_by (asked_after last)) n.by_number n.numbers
      (heard_more down lines (refused_by (asked_after last)) is)
      (named_refused issued s linked last a (map heard_in down) sent up sound holds printed n.phase n.replies))

  -- the line at the front is accepted
  pub greeting_here : (last lead : ℕ) (a : Wires) (down : List (List ℕ)) (up : List Sent) → NoneEarly s → HoldsIssued issued s →
      Printed issued a.ran a.dropped last a.queue a.log → Reads issued s linked oks (record a { up = intact (greeting lead) ∷ up }) down →
      IsTakenHere issued s linked oks hello_number (record a { up = up; queue = a.queue ++ greeting lead ∷ []; dropped = false }) down
  greeting_here last lead a down up fresh holds printed (counting c) =
      let taken = greeting_taken issued s linked last hello_number lead a c.way up printed c.phase in
      let T : Bool → Type 0 = λ d. IsTakenHere issued s linked oks hello_number (record a { up = up; queue = a.queue ++ greeting lead ∷ []; dropped = d }) down in
      subst T taken.kept (record {
        printed = taken.printed;
        reads = counting (record { counts = c.counts; plain = c.plain; way = c.way; shown = c.shown; phase = taken.phase; replies = c.replies });
      })
  greeting_here last lead a down up fresh holds printed (naming n) =
      let taken = named_greeting_taken issued s linked last lead a (map heard_in down) up fresh holds printed n.phase n.replies in
      record {
        printed = taken.printed;
        reads = naming (record { by_number = n.by_number; numbers = n.numbers; phase = taken.phase; replies = taken.replies });
      }

  pub command_here : (last place : ℕ) (text : List ℕ) (a : Wires) (down : List (List ℕ)) (up : List Sent) → wire_number place ≡ last + 1 →
      Printed issued a.ran a.dropped last a.queue a.log → Reads issued s linked oks (record a { up = intact (command place text) ∷ up }) down →
      IsTakenHere issued s linked oks (wire_number place) (record a { up = up; queue = a.queue ++ command place text ∷ [] }) down
  command_here last place text a down up turn printed (counting c) =
      let taken = command_taken issued s linked last place text a c.way up turn printed c.phase in
      record {
        printed = taken.printed;
        reads = counting (record { counts = c.counts; plain = c.plain; way = c.way; shown = c.shown; phase = taken.phase; replies = c.replies });
      }
  command_here last place text a down up turn printed (naming n) =
      let taken = named_command_taken issued s linked last place text a (map heard_in down) up turn printed n.phase n.replies in
      record {
        printed = taken.printed;
        reads = naming (record { by_number = n.by_number; numbers = n.numbers; phase = taken.phase; replies = taken.replies });
      }
