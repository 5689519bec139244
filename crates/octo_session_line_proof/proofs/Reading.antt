-- How the printer reads the lines of a session, and what its replies are to a sender.
use Rattle.std.proofs.Common.{◌≡◌, ◌≢◌, inl, inr, ℕ, ◌+◌, ◌<◌, ◌≤◌, ◌^◌, Bool, true, false, List, codes, refl, sym, ◌∙◌, ap, arith}
use Rattle.std.specs.Prelude.{Some, None, Ok, Err, Result, bytes_eq, cond}
use Rattle.byte_text.specs.Marks.{has_m110}
use Rattle.marlin_frame.specs.Frame.{frame_of, line_number_of}
use Rattle.marlin_frame.specs.Numbering.{hello_number, wire_number, hello_text}
use Rattle.marlin_frame.proofs.FrameLaws.{sum_of, sum_of-lt, numbered_line, n_parameter_of-frame, begins_with_n-frame, line_number_of-frame, has_m110-frame}
use Rattle.marlin_reply.specs.Kind.{kind_of, is_other_reply, is_chatter}
use Rattle.marlin_reply.specs.declared.reply.Reply.{Reply}
use Rattle.marlin_reply.specs.declared.reply.Reply.TheVariants as reply
use Rattle.printer_model.specs.Printer.{Entry, judged, last_after}
use Rattle.printer_model.specs.Replies.{asked_after, error_line, ok_line, resend_line, run_reply, start_line}
use Rattle.printer_model.specs.declared.printer.Reason.{Reason}
use Rattle.printer_model.specs.declared.printer.Reason.TheVariants.{WrongNumber}
use Rattle.printer_model.proofs.Judging.{judged-numbered, judged-out_of_turn, kind_of-error_line, kind_of-resend_line, kind_of-ok_line, kind_of-start_line, kind_of-temperatures_line, kind_of-named, run_reply-temperatures, run_reply-numbered, run_reply-plain}
use Rattle.send_window.specs.Data.{most_hellos}
use Rattle.send_window.specs.Sending.{hello_with}
use Rattle.octo_session_line_proof.proofs.Hellos.{hello_n_parameter, hello_line, hello_sets_number}
use Rattle.octo_session_line_proof.specs.Pieces.{greeting, command, entry_in, bytes_in, IsFit, ok_heard, resend_heard, start_heard, talk_heard, heard_of, heard_in, named_by}

-- a text's frame is read back
pub small_number : (place : ℕ) → place ≤ 1999999999 → wire_number place < 2 ^ 32
small_number place few = omega arith

frame_sum : (place : ℕ) (text : List ℕ) → place ≤ 1999999999 → IsFit text → sum_of (wire_number place) text < 2 ^ 8
frame_sum place text few fit = sum_of-lt (wire_number place) text (small_number place few) fit.bytes

-- a line in turn is accepted
pub line_accepted : (last place : ℕ) (text : List ℕ) → place ≤ 1999999999 → IsFit text → wire_number place ≡ last + 1 →
    judged last (bytes_in (command place text)) ≡ Ok (entry_in (command place text))
line_accepted last place text few fit turn =
    let n = wire_number place in
    let line = frame_of n text in
    let its : line_number_of line ≡ n = line_number_of-frame n text (small_number place few) (frame_sum place text few fit) fit.sendable.no_m110 in
    let taken : Entry → Result Entry Reason = λ entry. Ok entry in
    judged-numbered last n text line (numbered_line n text (small_number place few) (frame_sum place text few fit) fit.sendable.no_m110) (inl (its ∙ turn))
    ∙ ap (λ (n_parameter : ℕ). taken (record { number = Some n; n_parameter = Some n_parameter; text = text })) (n_parameter_of-frame n text (small_number place few))

-- another one is refused
pub line_refused : (last place : ℕ) (text : List ℕ) → place ≤ 1999999999 → IsFit text → wire_number place ≢ last + 1 →
    judged last (bytes_in (command place text)) ≡ Err WrongNumber
line_refused last place text few fit other =
    let n = wire_number place in
    let line = frame_of n text in
    let its : line_number_of line ≡ n = line_number_of-frame n text (small_number place few) (frame_sum place text few fit) fit.sendable.no_m110 in
    judged-out_of_turn last line (begins_with_n-frame n text) (λ same. other (sym its ∙ same))
    (has_m110-frame n text (small_number place few) (frame_sum place text few fit) fit.sendable.no_m110)

-- a hello is accepted at any number
pub greeting_accepted : (last number : ℕ) → number < most_hellos → judged last (bytes_in (greeting number)) ≡ Ok (entry_in (greeting number))
greeting_accepted last number small =
    let taken : Entry → Result Entry Reason = λ entry. Ok entry in
    judged-numbered last hello_number hello_text (hello_with number) (hello_line number small) (inr (hello_sets_number number small))
    ∙ ap (λ (n_parameter : ℕ). taken (record { number = Some hello_number; n_parameter = Some n_parameter; text = hello_text })) (hello_n_parameter number small)

-- the last number after a run
pub last_after-greeting : (last number : ℕ) → last_after last (entry_in (greeting number)) ≡ hello_number
unfolding last_after has_m110
last_after-greeting last number = refl

pub last_after-command : (last place : ℕ) (text : List ℕ) → IsFit text → last_after last (entry_in (command place text)) ≡ last
unfolding last_after
last_after-command last place text fit = ap (λ (b : Bool). cond b (wire_number place) last) fit.sendable.no_m110

-- the number that a refusal asks for
pub asked_after-next : (last : ℕ) → last ≤ 2000000000 → asked_after last ≡ last + 1
unfolding asked_after
asked_after-next last few = omega arith

-- the replies, by what they do to a sender
pub heard_error : (reason : Reason) (last : ℕ) → heard_in (error_line reason last) ≡ talk_heard
heard_error reason last = ap heard_of (kind_of-error_line reason last)

pub heard_resend : (last : ℕ) → heard_in (resend_line last) ≡ resend_heard (asked_after last)
heard_resend last = ap heard_of (kind_of-resend_line last)

pub heard_ok : heard_in ok_line ≡ ok_heard None
heard_ok = ap heard_of kind_of-ok_line

pub heard_start : heard_in start_line ≡ start_heard
heard_start = ap heard_of kind_of-start_line

only_talk : (r : Reply) → is_other_reply r ≡ true → heard_of r ≡ talk_heard
only_talk (reply.Ok number planner block temps) talk = absurd (cc)
only_talk (reply.Resend number) talk = absurd (cc)
only_talk reply.Start talk = absurd (cc)
only_talk reply.Busy talk = refl
only_talk (reply.Temps temps) talk = refl
only_talk reply.Error talk = refl
only_talk reply.Other talk = refl

pub heard_chatter : (line : List ℕ) → is_chatter line ≡ true → heard_in line ≡ talk_heard
unfolding is_chatter
heard_chatter line talk = only_talk (kind_of line) talk

-- the reply to a line that ran
pub record IsRunReply (bytes : List ℕ) (front : ℕ) : Type 0 where
  pub named : Bool
  pub heard : heard_in bytes ≡ ok_heard (named_by named front)

run_heard_by : (numbered asks : Bool) (front free : ℕ) (text : List ℕ) → front < 2 ^ 32 → free < 2 ^ 32 → bytes_eq text (codes "M105") ≡ asks →
    IsRunReply (run_reply numbered (Some front) text free) front
run_heard_by numbered true front free text low few asks =
    record { named = false; heard = ap heard_in (run_reply-temperatures numbered (Some front) text free asks) ∙ ap heard_of kind_of-temperatures_line }
run_heard_by true false front free text low few asks =
    record { named = true; heard = ap heard_in (run_reply-numbered (Some front) text free asks) ∙ ap heard_of (kind_of-named front free low few) }
run_heard_by false false front free text low few asks =
    record { named = false; heard = ap heard_in (run_reply-plain (Some front) text free asks) ∙ heard_ok }

pub run_heard : (numbered : Bool) (front free : ℕ) (text : List ℕ) → front < 2 ^ 32 → free < 2 ^ 32 →
    IsRunReply (run_reply numbered (Some front) text free) front
run_heard numbered front free text low few = run_heard_by numbered (bytes_eq text (codes "M105")) front free text low few refl
