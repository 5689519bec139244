-- The command of one line is the command of a file which is this line.
use Rattle.std.proofs.Common.{◌≡◌, ℕ, ◌≤◌, Bool, true, false, cond, nat_lt, ◌==◌, List, [], ◌∷◌, length, Result, Ok, Err, refl, ap, zero-add, arith}
use Rattle.std.specs.List.{list_any}
use Rattle.std.proofs.lemmas.Bool.{or_parts}
use Rattle.std.proofs.lemmas.Bool.Decides.{nat_tests}
use Rattle.byte_text.specs.Marks.{has_byte, has_m110}
use Rattle.gcode_lines.specs.declared.fault.NotOne.{NotOne}
use Rattle.gcode_lines.specs.declared.fault.NotOne.TheVariants.{LineEnd, Empty, HasM110, TooLong, ControlByte}
use Rattle.gcode_lines.specs.Text.{is_numbered, without_front, without_end, trimmed, without_number, has_order_mark, order_mark_len, without_order_mark, command_part, command_text, is_skipped, is_too_long, has_control}
use Rattle.gcode_lines.specs.Job.{most_bytes}
use Rattle.gcode_lines.specs.Commands.{file_line, in_front, pieces_of, numbered, lines_of, job_of}
use Rattle.gcode_lines.specs.Single.{single_of, single_job}
use Rattle.gcode_lines.proofs.Sendable.{kept_from_parts}

-- the tests of a text that is one command
record IsOne (line text : List ℕ) : Type 0 where
  whole : has_byte 10 line ≡ false
  kept : is_skipped (command_text line) ≡ false
  some : (length (command_text line) == 0) ≡ false
  short : is_too_long (command_text line) ≡ false
  clean : has_control (command_text line) ≡ false
  same : command_text line ≡ text

-- the tests of a single line over plain variables
abbrev single_by : Bool → Bool → Bool → Bool → Bool → List ℕ → Result (List ℕ) NotOne
single_by feed empty m110 long control text =
    cond feed (Err LineEnd) (cond empty (Err Empty) (cond m110 (Err HasM110) (cond long (Err TooLong) (cond control (Err ControlByte) (Ok text)))))

record AllFalse (feed empty m110 long control : Bool) (found text : List ℕ) : Type 0 where
  feed_is : feed ≡ false
  empty_is : empty ≡ false
  m110_is : m110 ≡ false
  long_is : long ≡ false
  control_is : control ≡ false
  text_is : found ≡ text

ok_text : (found text : List ℕ) → (let r : Result (List ℕ) NotOne = Ok found in r ≡ Ok text) → found ≡ text
ok_text found text e = cc

all_false : (feed empty m110 long control : Bool) (found text : List ℕ) → single_by feed empty m110 long control found ≡ Ok text → AllFalse feed empty m110 long control found text
all_false true empty m110 long control found text e = absurd cc
all_false false true m110 long control found text e = absurd cc
all_false false false true long control found text e = absurd cc
all_false false false false true control found text e = absurd cc
all_false false false false false true found text e = absurd cc
all_false false false false false false found text e =
    record { feed_is = refl; empty_is = refl; m110_is = refl; long_is = refl; control_is = refl; text_is = ok_text found text e }

is_one : (line text : List ℕ) → single_of line ≡ Ok text → IsOne line text
unfolding single_of
is_one line text e =
    let tests = all_false (has_byte 10 line) (length (command_text line) == 0) (has_m110 (command_text line)) (is_too_long (command_text line)) (has_control (command_text line)) (command_text line) text e in
    record {
      whole = tests.feed_is;
      kept = kept_from_parts (command_text line) tests.empty_is tests.m110_is;
      some = tests.empty_is;
      short = tests.long_is;
      clean = tests.control_is;
      same = tests.text_is;
    }

command_text-nil : command_text [] ≡ []
unfolding command_text command_part without_order_mark order_mark_len has_order_mark without_number trimmed without_end without_front is_numbered
command_text-nil = refl

pieces_of-whole : (byte : ℕ) (line : List ℕ) → list_any (λ b. b == 10) (byte ∷ line) ≡ false → pieces_of (byte ∷ line) ≡ (byte ∷ line) ∷ []
pieces_of-whole byte [] whole = rw (or_parts (byte == 10) false whole).0 refl
pieces_of-whole byte (next ∷ line) whole =
    let parts = or_parts (byte == 10) (list_any (λ b. b == 10) (next ∷ line)) whole in
    rw parts.0 (ap (in_front byte) (pieces_of-whole next line parts.1))

lines_of-whole : (line : List ℕ) → has_byte 10 line ≡ false → (length (command_text line) == 0) ≡ false → lines_of line ≡ file_line line 1 0 ∷ []
unfolding lines_of has_byte
lines_of-whole [] whole some = absurd (let e : true ≡ false = rw command_text-nil at some in cc)
lines_of-whole (byte ∷ line) whole some = ap (numbered 1 0) (pieces_of-whole byte line whole)

pub single_is_job : (line text : List ℕ) → length line ≤ most_bytes → single_of line ≡ Ok text → job_of line ≡ Ok (single_job line text)
unfolding job_of
single_is_job line text small e =
    let one = is_one line text e in
    let test : nat_lt most_bytes (length line) ≡ false = grind (arith, nat_tests) in
    rw (test, lines_of-whole line one.whole one.some, one.kept, one.short, one.clean, one.same, zero-add) refl
