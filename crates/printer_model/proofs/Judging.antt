-- What the printer makes of a line, and what its replies are.
use Rattle.std.proofs.Common.{◌≡◌, ◌≢◌, inl, inr, ℕ, ◌+◌, ◌<◌, ◌^◌, min, Bool, true, false, not, ◌&&◌, List, ◌++◌, codes, decimal, refl, ◌∙◌, ap, pos, arith}
use Rattle.std.specs.Prelude.{Option, Some, None, Ok, Err, bytes_eq, ◌==◌}
use Rattle.byte_text.specs.Marks.{has_m110}
use Rattle.marlin_frame.specs.Frame.{begins_with_n, has_checksum, fails, n_parameter_of, line_number_of, text_of, IsNumberedLine, checksum_matches}
use Rattle.marlin_frame.proofs.PartLaws.{begins_with_n-fails}
use Rattle.marlin_reply.specs.Kind.{kind_of}
use Rattle.marlin_reply.specs.declared.reply.Reply.TheVariants as reply
use Rattle.marlin_reply.proofs.Lines.{kind_of-error, kind_of-numbered_ok, kind_of-ok, kind_of-plain_ok, kind_of-resend, kind_of-start, kind_of-temps_ok}
use Rattle.printer_model.specs.Printer.{IsInTurn, IsRefusal, judged, is_out_of_turn, plain_entry}
use Rattle.printer_model.specs.Replies.{asked_after, error_line, numbered_ok, ok_line, reason_text, resend_line, run_reply, start_line, temperatures_line}
use Rattle.printer_model.specs.declared.printer.Reason.{Reason}
use Rattle.printer_model.specs.declared.printer.Reason.TheVariants.{WrongNumber, NoChecksum, Mismatch}
use Rattle.std.proofs.lemmas.Bool.{eq-eqb, ne_eqb, and_right}

-- a line without a number
pub judged-plain : (last : ℕ) (line : List ℕ) → begins_with_n line ≡ false → judged last line ≡ Ok (plain_entry line)
unfolding judged
judged-plain last line plain = rw plain refl

in_turn : (last : ℕ) (line : List ℕ) → IsInTurn last line → is_out_of_turn last line ≡ false
unfolding is_out_of_turn
in_turn last line (inl next) = ap (λ (b : Bool). not b && not (has_m110 line)) (eq-eqb (line_number_of line) (last + 1) next)
in_turn last line (inr sets) = ap (λ (b : Bool). not (line_number_of line == last + 1) && not b) sets ∙ and_right (not (line_number_of line == last + 1)) false refl

out_of_turn : (last : ℕ) (line : List ℕ) → line_number_of line ≢ last + 1 → has_m110 line ≡ false → is_out_of_turn last line ≡ true
unfolding is_out_of_turn
out_of_turn last line other sets_none =
    ap (λ (b : Bool). not b && not (has_m110 line)) (ne_eqb (line_number_of line) (last + 1) other) ∙ ap not sets_none

-- a wrong number
pub judged-out_of_turn : (last : ℕ) (line : List ℕ) → begins_with_n line ≡ true → line_number_of line ≢ last + 1 → has_m110 line ≡ false → judged last line ≡ Err WrongNumber
unfolding judged
judged-out_of_turn last line numbered other sets_none =
    let out : is_out_of_turn last line ≡ true = out_of_turn last line other sets_none in
    rw (numbered, out) refl

-- no checksum
pub judged-bare : (last : ℕ) (line : List ℕ) → begins_with_n line ≡ true → IsInTurn last line → has_checksum line ≡ false → judged last line ≡ Err NoChecksum
unfolding judged
judged-bare last line numbered turn bare =
    let on : is_out_of_turn last line ≡ false = in_turn last line turn in
    rw (numbered, on, bare) refl

-- a wrong checksum
pub judged-mismatch : (last : ℕ) (line : List ℕ) → begins_with_n line ≡ true → IsInTurn last line → has_checksum line ≡ true → fails line ≡ true → judged last line ≡ Err Mismatch
unfolding judged
judged-mismatch last line numbered turn summed wrong =
    let on : is_out_of_turn last line ≡ false = in_turn last line turn in
    rw (numbered, on, summed, wrong) refl

summed_of : (b h m : Bool) → (b && not (h && m)) ≡ false → b ≡ true → h ≡ true
summed_of true true m whole numbered = refl
summed_of true false m whole numbered = absurd (cc)
summed_of false h m whole numbered = absurd (cc)

has_checksum-whole : (line : List ℕ) → begins_with_n line ≡ true → fails line ≡ false → has_checksum line ≡ true
unfolding fails
has_checksum-whole line numbered whole = summed_of (begins_with_n line) (has_checksum line) (checksum_matches line) whole numbered

-- a command under its number, in turn
pub judged-numbered : (last n : ℕ) (text line : List ℕ) → IsNumberedLine n text line → IsInTurn last line → judged last line ≡ Ok (record { number = Some n; n_parameter = Some (n_parameter_of line); text = text })
unfolding judged
judged-numbered last n text line is turn =
    let on : is_out_of_turn last line ≡ false = in_turn last line turn in
    let numbered : begins_with_n line ≡ true = is.numbered in
    let whole : fails line ≡ false = is.whole in
    let summed : has_checksum line ≡ true = has_checksum-whole line is.numbered is.whole in
    let number : line_number_of line ≡ n = is.number in
    let command : text_of line ≡ text = is.command in
    rw (numbered, on, summed, whole, number, command) refl

refusal_by : (last : ℕ) (line : List ℕ) (out summed : Bool) → begins_with_n line ≡ true → fails line ≡ true → is_out_of_turn last line ≡ out → has_checksum line ≡ summed → IsRefusal last line
unfolding judged
refusal_by last line true summed numbered wrong out_is summed_is = record { reason = WrongNumber; is = rw (numbered, out_is) refl }
refusal_by last line false false numbered wrong out_is summed_is = record { reason = NoChecksum; is = rw (numbered, out_is, summed_is) refl }
refusal_by last line false true numbered wrong out_is summed_is = record { reason = Mismatch; is = rw (numbered, out_is, summed_is, wrong) refl }

-- a line that fails is refused
pub judged-failing : (last : ℕ) (line : List ℕ) → fails line ≡ true → IsRefusal last line
judged-failing last line wrong = refusal_by last line (is_out_of_turn last line) (has_checksum line) (begins_with_n-fails line wrong) wrong refl refl

-- the replies to a refusal
pub kind_of-error_line : (reason : Reason) (last : ℕ) → kind_of (error_line reason last) ≡ reply.Error
unfolding error_line
kind_of-error_line reason last = kind_of-error (reason_text reason ++ codes ", Last Line: " ++ decimal last)

pub kind_of-resend_line : (last : ℕ) → kind_of (resend_line last) ≡ reply.Resend (asked_after last)
unfolding resend_line asked_after
kind_of-resend_line last = kind_of-resend (min (last + 1) 4294967295) (omega arith)

pub kind_of-ok_line : kind_of ok_line ≡ reply.Ok None None None None
unfolding ok_line
kind_of-ok_line = kind_of-ok

pub kind_of-start_line : kind_of start_line ≡ reply.Start
unfolding start_line
kind_of-start_line = kind_of-start

-- the replies to a run
pub kind_of-temperatures_line : kind_of temperatures_line ≡ reply.Ok None None None (Some (record { tool = Some (record { actual = pos 21300000; target = pos 0 }); bed = Some (record { actual = pos 21220000; target = pos 0 }) }))
unfolding temperatures_line
kind_of-temperatures_line = kind_of-temps_ok

pub kind_of-named : (n_parameter free : ℕ) → n_parameter < 2 ^ 32 → free < 2 ^ 32 → kind_of (numbered_ok (Some n_parameter) free) ≡ reply.Ok (Some n_parameter) (Some 15) (Some free) None
unfolding numbered_ok
kind_of-named n_parameter free small few = kind_of-numbered_ok n_parameter free small few

pub kind_of-unnamed : (free : ℕ) → free < 2 ^ 32 → kind_of (numbered_ok None free) ≡ reply.Ok None (Some 15) (Some free) None
unfolding numbered_ok
kind_of-unnamed free few = kind_of-plain_ok free few

-- which of them it is
pub run_reply-temperatures : (numbered : Bool) (n_parameter : Option ℕ) (text : List ℕ) (free : ℕ) → bytes_eq text (codes "M105") ≡ true → run_reply numbered n_parameter text free ≡ temperatures_line
unfolding run_reply
run_reply-temperatures numbered n_parameter text free asks = rw asks refl

pub run_reply-numbered : (n_parameter : Option ℕ) (text : List ℕ) (free : ℕ) → bytes_eq text (codes "M105") ≡ false → run_reply true n_parameter text free ≡ numbered_ok n_parameter free
unfolding run_reply
run_reply-numbered n_parameter text free other = rw other refl

pub run_reply-plain : (n_parameter : Option ℕ) (text : List ℕ) (free : ℕ) → bytes_eq text (codes "M105") ≡ false → run_reply false n_parameter text free ≡ ok_line
unfolding run_reply
run_reply-plain n_parameter text free other = rw other refl
