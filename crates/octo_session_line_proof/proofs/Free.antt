-- What the line and the printer do by themselves leaves a sender and a world that fit together.
use Rattle.std.proofs.Common.{◌≡◌, ◌≢◌, ◌⊎◌, inl, inr, ℕ, ◌+◌, ◌-◌, ◌<◌, ◌≤◌, ◌^◌, Bool, true, false, not, ◌&&◌, List, [], ◌∷◌, ◌++◌, length, map, set, refl, sym, ◌∙◌, ap, subst, append_assoc, append-nil, arith}
use Rattle.std.specs.Prelude.{Ok, Err, Some, nat_lt, if◌then◌else◌}
use Rattle.std.specs.List.{remove, list_any}
use Rattle.std.proofs.lemmas.Bool.{cases_eq, and_right, and_parts, or_left, or_right}
use Rattle.std.proofs.lemmas.List.{map-append, map-set, length-set}
use Rattle.std.proofs.lemmas.List.Folds.{list_any-append}
use Rattle.marlin_frame.specs.Frame.{fails}
use Rattle.marlin_frame.specs.Numbering.{wire_number}
use Rattle.printer_model.specs.Printer.{Entry, Logged, IsRefusal, is_full, take_judged, run_queue}
use Rattle.printer_model.specs.Replies.{asked_after, error_line, resend_line, ok_line, start_line, run_reply}
use Rattle.printer_model.specs.World.{WorldData, is_empty, is_free, is_restart, can_happen, happen, apply, fits_wire, after_arrival, after_run, down_with_reply}
use Rattle.printer_model.specs.declared.event.WorldEvent.{WorldEvent}
use Rattle.printer_model.specs.declared.event.WorldEvent.TheVariants.{Opened, Send, Arrive, Lose, LoseReply, Garble, Run, Restart, Chatter, Recv, Closed}
use Rattle.printer_model.specs.declared.oks.Oks.{Oks}
use Rattle.printer_model.specs.declared.printer.Reason.{Reason}
use Rattle.printer_model.specs.declared.printer.Reason.TheVariants.{WrongNumber}
use Rattle.printer_model.proofs.Judging.{judged-failing}
use Rattle.printer_model.proofs.Laws.{after_event, stays, run_queue_of, arrive_accepts, arrive_refuses}
use Rattle.printer_model.proofs.Wires.{map_remove}
use Rattle.marlin_reply.specs.Kind.{is_chatter}
use Rattle.send_window.specs.Data.{SenderData, most_hellos}
use Rattle.octo_session_line_proof.specs.Pieces.{Piece, greeting, command, Sent, intact, corrupted, heard_in, entry_in, logged_in, number_in, front_in, text_in, bytes_in, bytes_on, IsFailing, IsSentEarly, IsSentLate, IsLineAt, Heard, resend_heard, talk_heard}
use Rattle.octo_session.specs.Sends.{IsIssued}
use Rattle.octo_session_line_proof.specs.Wires.{Start, Began, Wires, Shows, Numbers, Reads, counting, naming, Meets, Printed, before, after, lines_run, Phase, shut, early, late, NamedPhase, named_shut, named_early, named_late}
use Rattle.octo_session_line_proof.proofs.Lists.{each_remove, each_set, length-remove_le, issued_fit, issued_within, accepted_at, accepted_greeting}
use Rattle.octo_session_line_proof.proofs.Reading.{line_accepted, line_refused, greeting_accepted, heard_error, heard_resend, heard_ok, heard_start, heard_chatter, run_heard, IsRunReply}
use Rattle.octo_session_line_proof.proofs.Moves.{printed_restart, printed_run}
use Rattle.octo_session_line_proof.proofs.NamedMoves.{dropped_ran, refused_by}
use Rattle.octo_session_line_proof.proofs.Replying.{reads_up, reads_chat, reads_restart, reads_lost, reads_run, reads_run_shut, reads_refused, IsTakenHere, greeting_here, command_here}
use Rattle.octo_session_line_proof.proofs.Ahead.{up_lost, up_corrupted}

-- a line that waits has a number that fits
pub front_small : (issued : List (List ℕ)) (ran d : Bool) (last : ℕ) (piece : Piece) (queue log : List Piece) → length issued ≤ 1999999999 →
    Printed issued ran d last (piece ∷ queue) log → front_in piece < 2 ^ 32
front_small issued ran d last (greeting number) queue log few (before b) = omega (arith, b.greetings.0)
front_small issued ran d last (greeting number) queue log few (after p) = omega (arith, accepted_greeting issued log number queue p.accepted)
front_small issued ran d last (command place text) queue log few (before b) = absurd (b.greetings.0)
front_small issued ran d last (command place text) queue log few (after p) =
    let at : IsLineAt issued (1 + lines_run log) (command place text) = accepted_at issued log place text queue p.accepted in
    omega (arith, issued_within issued place text at.1)

-- the line at the front of the wire is an issued one, or fails
sent_issued : (issued : List (List ℕ)) (s : SenderData) (linked : Bool) (oks : Oks) (a : Wires) (down : List (List ℕ)) (place : ℕ) (text : List ℕ) (up : List Sent) →
    Reads issued s linked oks (record a { up = intact (command place text) ∷ up }) down → IsIssued issued place text
sent_issued issued s linked oks a down place text up (counting c) = by c.phase
  where
    by : Phase issued s linked (record a { up = intact (command place text) ∷ up }) c.way → IsIssued issued place text
    by (shut closed none idle) = absurd (cc)
    by (early opened unready e) = absurd (e.ups.0)
    by (late opened ready ran ups waits) = ups.0
sent_issued issued s linked oks a down place text up (naming n) = by n.phase
  where
    by : NamedPhase issued s linked (record a { up = intact (command place text) ∷ up }) (map heard_in down) → IsIssued issued place text
    by (named_shut closed none idle) = absurd (cc)
    by (named_early opened unready e) = absurd (e.ups.0)
    by (named_late opened ready ran ups waits) = ups.0

-- a hello at the front of the wire has one of the few numbers
sent_greeting : (issued : List (List ℕ)) (s : SenderData) (linked : Bool) (oks : Oks) (a : Wires) (down : List (List ℕ)) (lead : ℕ) (up : List Sent) →
    Reads issued s linked oks (record a { up = intact (greeting lead) ∷ up }) down → lead < most_hellos
sent_greeting issued s linked oks a down lead up (counting c) = by c.phase
  where
    by : Phase issued s linked (record a { up = intact (greeting lead) ∷ up }) c.way → lead < most_hellos
    by (shut closed none idle) = absurd (cc)
    by (early opened unready e) = e.ups.0
    by (late opened ready ran ups waits) = absurd ups.0
sent_greeting issued s linked oks a down lead up (naming n) = by n.phase
  where
    by : NamedPhase issued s linked (record a { up = intact (greeting lead) ∷ up }) (map heard_in down) → lead < most_hellos
    by (named_shut closed none idle) = absurd (cc)
    by (named_early opened unready e) = e.ups.0
    by (named_late opened ready ran ups waits) = absurd ups.0

sent_failing : (issued : List (List ℕ)) (s : SenderData) (linked : Bool) (oks : Oks) (a : Wires) (down : List (List ℕ)) (bytes : List ℕ) (up : List Sent) →
    Reads issued s linked oks (record a { up = corrupted bytes ∷ up }) down → IsFailing bytes
sent_failing issued s linked oks a down bytes up (counting c) = by c.phase
  where
    by : Phase issued s linked (record a { up = corrupted bytes ∷ up }) c.way → IsFailing bytes
    by (shut closed none idle) = absurd (cc)
    by (early opened unready e) = e.ups.0
    by (late opened ready ran ups waits) = ups.0
sent_failing issued s linked oks a down bytes up (naming n) = by n.phase
  where
    by : NamedPhase issued s linked (record a { up = corrupted bytes ∷ up }) (map heard_in down) → IsFailing bytes
    by (named_shut closed none idle) = absurd (cc)
    by (named_early opened unready e) = e.ups.0
    by (named_late opened ready ran ups waits) = ups.0

module _ (start : Start) (issued : List (List ℕ)) (s : SenderData) (w : WorldData) where
  -- a line is lost on its way to the printer
  lose_meets : (at : ℕ) → Meets start issued s w → Meets start issued s (happen w (Lose at))
  lose_meets at m =
      let a = m.wires in
      record {
        wires = record a { up = remove a.up at };
        begun = m.begun;
        shows = record { few = m.shows.few; queue = m.shows.queue; log = m.shows.log; up = ap (λ (up : List (List ℕ)). remove up at) m.shows.up ∙ sym (map_remove bytes_on a.up at) };
        numbers = record { sound = m.numbers.sound; holds = m.numbers.holds; fit = m.numbers.fit; printed = m.numbers.printed };
        reads = reads_up issued s w.linked w.printer.oks a w.down (remove a.up at) (length-remove_le a.up at) (each_remove IsSentEarly a.up at) (each_remove (IsSentLate issued) a.up at)
            (λ h ahead. up_lost h a.up at ahead) m.reads;
      }

  -- a reply is lost
  reply_meets : (at : ℕ) → w.printer.oks.lost ≡ true → Meets start issued s w → Meets start issued s (happen w (LoseReply at))
  reply_meets at lossy m =
      record {
        wires = m.wires;
        begun = m.begun;
        shows = record { few = m.shows.few; queue = m.shows.queue; log = m.shows.log; up = m.shows.up };
        numbers = m.numbers;
        reads = reads_lost issued s w.linked w.printer.oks m.wires w.down at lossy m.reads;
      }

  -- a line is corrupted
  corrupt_meets : (at : ℕ) (bytes : List ℕ) → IsFailing bytes → Meets start issued s w → Meets start issued s (record w { up = set w.up at bytes })
  corrupt_meets at bytes failing m =
      let a = m.wires in
      let sh = m.shows in
      let up : List Sent = set a.up at (corrupted bytes) in
      record {
        wires = record a { up = up };
        begun = m.begun;
        shows = record {
          few = sh.few;
          queue = sh.queue;
          log = sh.log;
          up = ap (λ (l : List (List ℕ)). set l at bytes) sh.up ∙ sym (map-set bytes_on a.up at (corrupted bytes));
        };
        numbers = record { sound = m.numbers.sound; holds = m.numbers.holds; fit = m.numbers.fit; printed = m.numbers.printed };
        reads = reads_up issued s w.linked w.printer.oks a w.down up (omega (arith, length-set a.up at (corrupted bytes)))
            (λ all. each_set IsSentEarly a.up at (corrupted bytes) all failing) (λ all. each_set (IsSentLate issued) a.up at (corrupted bytes) all failing)
            (λ h ahead. up_corrupted h bytes a.up at ahead) m.reads;
      }

  -- the printer says something else
  chat_meets : (line : List ℕ) → w.linked ≡ true → is_chatter line ≡ true → Meets start issued s w →
      Meets start issued s (record w { down = w.down ++ line ∷ [] })
  chat_meets line on talk m =
      record {
        wires = m.wires;
        begun = m.begun;
        shows = record { few = m.shows.few; queue = m.shows.queue; log = m.shows.log; up = m.shows.up };
        numbers = m.numbers;
        reads = reads_chat issued s w.linked w.printer.oks m.wires w.down line on (heard_chatter line talk) m.reads;
      }

  -- the printer restarts
  restart_meets : w.linked ≡ true → start.restarted ≡ true → Meets start issued s w → Meets start issued s (happen w Restart)
  restart_meets on may m =
      let a = m.wires in
      let sh = m.shows in
      let n = m.numbers in
      record {
        wires = record a { dropped = a.ran; queue = [] };
        begun = record { kind = m.begun.kind; known = λ _. may; none_early = m.begun.none_early };
        shows = record { few = sh.few; queue = refl; log = sh.log; up = sh.up };
        numbers = record {
          sound = n.sound;
          holds = n.holds;
          fit = n.fit;
          printed = printed_restart issued a.ran a.dropped w.printer.last a.queue a.log n.printed;
        };
        reads = reads_restart issued s w.linked w.printer.oks a w.down start_line on heard_start (dropped_ran issued a.ran a.dropped w.printer.last a.queue a.log n.printed) m.reads;
      }

  -- the log after a run
  pub logged_more : (a : Wires) (piece : Piece) → w.log ≡ start.log ++ map logged_in a.log →
      w.log ++ logged_in piece ∷ [] ≡ start.log ++ map logged_in (a.log ++ piece ∷ [])
  logged_more a piece is =
      ap (λ (l : List Logged). l ++ logged_in piece ∷ []) is
      ∙ append_assoc start.log (map logged_in a.log) (logged_in piece ∷ [])
      ∙ ap (λ (l : List Logged). start.log ++ l) (sym (map-append logged_in a.log (piece ∷ [])))

  -- the front of the queue ran, and what is on the way from the printer then
  ran_reads : (a : Wires) (piece : Piece) (queue : List Piece) (reply : List ℕ) (its : IsRunReply reply (front_in piece)) (on : Bool) → w.linked ≡ on →
      Printed issued a.ran a.dropped w.printer.last (piece ∷ queue) a.log → Reads issued s w.linked w.printer.oks (record a { queue = piece ∷ queue }) w.down →
      Reads issued s w.linked w.printer.oks (record a { ran = true; queue = queue; log = a.log ++ piece ∷ [] }) (down_with_reply w reply)
  ran_reads a piece queue reply its true on printed reads =
      let R : Bool → Type 0 = λ b. Reads issued s w.linked w.printer.oks (record a { ran = true; queue = queue; log = a.log ++ piece ∷ [] }) (if b then w.down ++ reply ∷ [] else w.down) in
      subst R (sym on) (reads_run issued s w.linked w.printer.oks w.printer.last a w.down piece queue its.named reply on printed its.heard reads)
  ran_reads a piece queue reply its false off printed reads =
      let R : Bool → Type 0 = λ b. Reads issued s w.linked w.printer.oks (record a { ran = true; queue = queue; log = a.log ++ piece ∷ [] }) (if b then w.down ++ reply ∷ [] else w.down) in
      subst R (sym off) (reads_run_shut issued s w.linked w.printer.oks a w.down piece queue off reads)

  ran_meets : (a : Wires) (piece : Piece) (queue : List Piece) → Began start s a.dropped → Shows start (record a { queue = piece ∷ queue }) w →
      Numbers issued s w.printer.last (record a { queue = piece ∷ queue }) → Reads issued s w.linked w.printer.oks (record a { queue = piece ∷ queue }) w.down →
      Meets start issued s (after_run w (run_queue w.printer (entry_in piece ∷ map entry_in queue)))
  ran_meets a piece queue begun sh n reads =
      let few : length issued ≤ 1999999999 = omega (arith, n.holds.count, n.sound.few) in
      let free = w.printer.slots - length w.printer.queue in
      let reply = run_reply w.printer.oks.numbered (Some (front_in piece)) (text_in piece) free in
      let its : IsRunReply reply (front_in piece) = run_heard w.printer.oks.numbered (front_in piece) free (text_in piece) (front_small issued a.ran a.dropped w.printer.last piece queue a.log few n.printed) (omega (arith, sh.few)) in
      record {
        wires = record a { ran = true; queue = queue; log = a.log ++ piece ∷ [] };
        begun = begun;
        shows = record { few = sh.few; queue = refl; log = logged_more a piece sh.log; up = sh.up };
        numbers = record {
          sound = n.sound;
          holds = n.holds;
          fit = n.fit;
          printed = printed_run issued a.ran a.dropped w.printer.last piece queue a.log n.fit n.printed;
        };
        reads = ran_reads a piece queue reply its w.linked refl n.printed reads;
      }

  run_meets : (a : Wires) (queue : List Piece) → Began start s a.dropped → Shows start (record a { queue = queue }) w →
      Numbers issued s w.printer.last (record a { queue = queue }) → Reads issued s w.linked w.printer.oks (record a { queue = queue }) w.down → Meets start issued s (apply w Run)
  run_meets a [] begun sh n reads =
      let M : WorldData → Type 0 = λ v. Meets start issued s v in
      let cannot : can_happen w Run ≡ false = ap (λ (q : List Entry). not (is_empty q)) sh.queue in
      subst M (sym (stays w Run cannot)) (record { wires = record a { queue = [] }; begun = begun; shows = sh; numbers = n; reads = reads })
  run_meets a (piece ∷ queue) begun sh n reads =
      let M : WorldData → Type 0 = λ v. Meets start issued s v in
      subst M (sym (run_queue_of w (entry_in piece) (map entry_in queue) sh.queue)) (ran_meets a piece queue begun sh n reads)

  -- the line at the front was accepted; a hello makes good that the printer restarted
  taken_meets : (a : Wires) (piece : Piece) (up : List Sent) (d : Bool) → (d ≡ true → a.dropped ≡ true) → Began start s a.dropped →
      Shows start (record a { up = intact piece ∷ up }) w → Numbers issued s w.printer.last (record a { up = intact piece ∷ up }) →
      IsTakenHere issued s w.linked w.printer.oks (number_in piece) (record a { up = up; queue = a.queue ++ piece ∷ []; dropped = d }) w.down →
      Meets start issued s (after_arrival w (map bytes_on up) (take_judged w.printer (Ok (entry_in piece))))
  taken_meets a piece up d so begun sh n taken =
      let R : List (List ℕ) → Type 0 = λ l. Reads issued s w.linked w.printer.oks (record a { up = up; queue = a.queue ++ piece ∷ []; dropped = d }) l in
      record {
        wires = record a { up = up; queue = a.queue ++ piece ∷ []; dropped = d };
        begun = record { kind = begun.kind; known = λ is. begun.known (so is); none_early = begun.none_early };
        shows = record {
          few = sh.few;
          queue = ap (λ (q : List Entry). q ++ entry_in piece ∷ []) sh.queue ∙ sym (map-append entry_in a.queue (piece ∷ []));
          log = sh.log;
          up = refl;
        };
        numbers = record { sound = n.sound; holds = n.holds; fit = n.fit; printed = taken.printed };
        reads = subst R (sym (append-nil w.down)) taken.reads;
      }

  -- it was refused
  refused_meets : (a : Wires) (sent : Sent) (up : List Sent) (reason : Reason) → Began start s a.dropped → Shows start (record a { up = sent ∷ up }) w →
      Numbers issued s w.printer.last (record a { up = sent ∷ up }) → Reads issued s w.linked w.printer.oks (record a { up = sent ∷ up }) w.down →
      Meets start issued s (after_arrival w (map bytes_on up) (take_judged w.printer (Err reason)))
  refused_meets a sent up reason begun sh n reads =
      let last = w.printer.last in
      let lines : List (List ℕ) = error_line reason last ∷ resend_line last ∷ ok_line ∷ [] in
      let heard : map heard_in lines ≡ refused_by (asked_after last) =
      ap (λ (h : Heard). h ∷ heard_in (resend_line last) ∷ heard_in ok_line ∷ []) (heard_error reason last)
      ∙ ap (λ (h : Heard). talk_heard ∷ h ∷ heard_in ok_line ∷ []) (heard_resend last)
      ∙ ap (λ (h : Heard). talk_heard ∷ resend_heard (asked_after last) ∷ h ∷ []) heard_ok
      in
      record {
        wires = record a { up = up };
        begun = begun;
        shows = record { few = sh.few; queue = sh.queue; log = sh.log; up = refl };
        numbers = record { sound = n.sound; holds = n.holds; fit = n.fit; printed = n.printed };
        reads = reads_refused issued s w.linked w.printer.oks last a w.down sent up lines n.sound n.holds n.printed heard reads;
      }

  arrive_command : (a : Wires) (place : ℕ) (text : List ℕ) (up : List Sent) → is_full w.printer ≡ false →
      Began start s a.dropped → Shows start (record a { up = intact (command place text) ∷ up }) w →
      Numbers issued s w.printer.last (record a { up = intact (command place text) ∷ up }) →
      Reads issued s w.linked w.printer.oks (record a { up = intact (command place text) ∷ up }) w.down →
      (wire_number place ≡ w.printer.last + 1) ⊎ (wire_number place ≢ w.printer.last + 1) → Meets start issued s (apply w Arrive)
  arrive_command a place text up room begun sh n reads (inl turn) =
      let M : WorldData → Type 0 = λ v. Meets start issued s v in
      let its : IsIssued issued place text = sent_issued issued s w.linked w.printer.oks a w.down place text up reads in
      let few : place ≤ 1999999999 = omega (arith, issued_within issued place text its, n.holds.count, n.sound.few) in
      let judged_so = line_accepted w.printer.last place text few (issued_fit issued place text n.fit its) turn in
      subst M (sym (arrive_accepts w (bytes_in (command place text)) (map bytes_on up) (entry_in (command place text)) sh.up room judged_so))
      (taken_meets a (command place text) up a.dropped (λ is. is) begun sh n (command_here issued s w.linked w.printer.oks w.printer.last place text a w.down up turn n.printed reads))
  arrive_command a place text up room begun sh n reads (inr other) =
      let M : WorldData → Type 0 = λ v. Meets start issued s v in
      let its : IsIssued issued place text = sent_issued issued s w.linked w.printer.oks a w.down place text up reads in
      let few : place ≤ 1999999999 = omega (arith, issued_within issued place text its, n.holds.count, n.sound.few) in
      let judged_so = line_refused w.printer.last place text few (issued_fit issued place text n.fit its) other in
      subst M (sym (arrive_refuses w (bytes_in (command place text)) (map bytes_on up) WrongNumber sh.up room judged_so)) (refused_meets a (intact (command place text)) up WrongNumber begun sh n reads)

  arrive_meets : (a : Wires) (up : List Sent) (full : Bool) → is_full w.printer ≡ full → Began start s a.dropped → Shows start (record a { up = up }) w →
      Numbers issued s w.printer.last (record a { up = up }) → Reads issued s w.linked w.printer.oks (record a { up = up }) w.down → Meets start issued s (apply w Arrive)
  arrive_meets a [] full is begun sh n reads =
      let M : WorldData → Type 0 = λ v. Meets start issued s v in
      let cannot : can_happen w Arrive ≡ false = ap (λ (l : List (List ℕ)). not (is_empty l) && not (is_full w.printer)) sh.up in
      subst M (sym (stays w Arrive cannot)) (record { wires = record a { up = [] }; begun = begun; shows = sh; numbers = n; reads = reads })
  arrive_meets a (sent ∷ up) true is begun sh n reads =
      let M : WorldData → Type 0 = λ v. Meets start issued s v in
      let cannot : can_happen w Arrive ≡ false = and_right (not (is_empty w.up)) (not (is_full w.printer)) (ap not is) in
      subst M (sym (stays w Arrive cannot)) (record { wires = record a { up = sent ∷ up }; begun = begun; shows = sh; numbers = n; reads = reads })
  arrive_meets a (intact (greeting lead) ∷ up) false is begun sh n reads =
      let M : WorldData → Type 0 = λ v. Meets start issued s v in
      let small : lead < most_hellos = sent_greeting issued s w.linked w.printer.oks a w.down lead up reads in
      subst M (sym (arrive_accepts w (bytes_in (greeting lead)) (map bytes_on up) (entry_in (greeting lead)) sh.up is (greeting_accepted w.printer.last lead small)))
      (taken_meets a (greeting lead) up false (λ (is : false ≡ true). absurd (cc)) begun sh n
      (greeting_here issued s w.linked w.printer.oks w.printer.last lead a w.down up begun.none_early n.holds n.printed reads))
  arrive_meets a (intact (command place text) ∷ up) false is begun sh n reads =
      arrive_command a place text up is begun sh n reads (cases_eq (wire_number place) (w.printer.last + 1))
  arrive_meets a (corrupted bytes ∷ up) false is begun sh n reads =
      let M : WorldData → Type 0 = λ v. Meets start issued s v in
      let refused : IsRefusal w.printer.last bytes = judged-failing w.printer.last bytes (sent_failing issued s w.linked w.printer.oks a w.down bytes up reads) in
      subst M (sym (arrive_refuses w bytes (map bytes_on up) refused.reason sh.up is refused.is)) (refused_meets a (corrupted bytes) up refused.reason begun sh n reads)

  -- what the line and the printer do by themselves
  pub free_meets : (event : WorldEvent) → is_free event ≡ true → (is_restart event ≡ true → start.restarted ≡ true) → Meets start issued s w →
      Meets start issued s (apply w event)
  free_meets (Opened last) free allowed m = absurd (cc)
  free_meets (Send line) free allowed m = absurd (cc)
  free_meets Arrive free allowed m = arrive_meets m.wires m.wires.up (is_full w.printer) refl m.begun m.shows m.numbers m.reads
  free_meets (Lose at) free allowed m = after_event (λ v. Meets start issued s v) w (Lose at) m (λ can. lose_meets at m)
  free_meets (LoseReply at) free allowed m =
      after_event (λ v. Meets start issued s v) w (LoseReply at) m (λ can. reply_meets at (and_parts w.printer.oks.lost (nat_lt at (length w.down)) can).0 m)
  free_meets (Garble at line) free allowed m =
      after_event (λ v. Meets start issued s v) w (Garble at line) m
      (λ can. corrupt_meets at line.items (and_parts (fails line.items) (fits_wire line.items) (and_parts (nat_lt at (length w.up)) (fails line.items && fits_wire line.items) can).1).0 m)
  free_meets Run free allowed m = run_meets m.wires m.wires.queue m.begun m.shows m.numbers m.reads
  free_meets Restart free allowed m = after_event (λ v. Meets start issued s v) w Restart m (λ on. restart_meets on (allowed refl) m)
  free_meets (Chatter reply) free allowed m =
      after_event (λ v. Meets start issued s v) w (Chatter reply) m
      (λ can. chat_meets reply.items (and_parts w.linked (is_chatter reply.items) can).0 (and_parts w.linked (is_chatter reply.items) can).1 m)
  free_meets Recv free allowed m = absurd (cc)
  free_meets Closed free allowed m = absurd (cc)

-- the printer may restart in these events
abbrev pub Allows : Start → List WorldEvent → Type 0
Allows start events = list_any is_restart events ≡ true → start.restarted ≡ true

pub allows_left : (start : Start) (xs ys : List WorldEvent) → Allows start (xs ++ ys) → Allows start xs
allows_left start xs ys allows is = allows (list_any-append is_restart xs ys ∙ or_left (list_any is_restart xs) (list_any is_restart ys) is)

pub allows_right : (start : Start) (xs ys : List WorldEvent) → Allows start (xs ++ ys) → Allows start ys
allows_right start xs ys allows is = allows (list_any-append is_restart xs ys ∙ or_right (list_any is_restart xs) (list_any is_restart ys) is)

pub allows_rest : (start : Start) (event : WorldEvent) (events : List WorldEvent) → Allows start (event ∷ events) → Allows start events
allows_rest start event events allows is = allows (or_right (is_restart event) (list_any is_restart events) is)

-- a session in which the printer may restart
pub widen_meets : (start : Start) (restarted : Bool) (issued : List (List ℕ)) (s : SenderData) (w : WorldData) → (start.restarted ≡ true → restarted ≡ true) →
    Meets start issued s w → Meets (record start { restarted = restarted }) issued s w
widen_meets start restarted issued s w more m = record {
  wires = m.wires;
  begun = record { kind = m.begun.kind; known = λ d. more (m.begun.known d); none_early = m.begun.none_early };
  shows = record { few = m.shows.few; queue = m.shows.queue; log = m.shows.log; up = m.shows.up };
  numbers = m.numbers;
  reads = m.reads;
}
