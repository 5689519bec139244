-- Why no line of a demo's file is refused.
use Rattle.std.proofs.Common.{◌≡◌, ◌∙◌, ◌<◌, ◌≤◌, ◌+◌, ◌*◌, ◌%◌, ℕ, zero, suc, Bool, true, false, ◌==◌, ◌⊎◌, inl, inr, true≢false, nat_lt, List, [], ◌∷◌, ◌++◌, length, map, codes, decimal, cond, refl, ap, sym, subst, arith, Result, Ok, Err, Option, None, Some}
use Rattle.std.specs.List.{list_any, list_all}
use Rattle.std.specs.Char.{is_ascii_digit}
use Rattle.std.proofs.lemmas.Bool.{or_parts, or_from, le-ltb, and_parts}
use Rattle.std.proofs.lemmas.Bool.Decides.{nat_tests}
use Rattle.std.proofs.lemmas.List.{append_assoc, length-append}
use Rattle.std.proofs.lemmas.List.Folds.{list_any-append}
use Rattle.std.proofs.lemmas.Fmt.{length-decimal-le}
use Rattle.byte_text.proofs.NumberLaws.{all_digits-decimal}
use Rattle.gcode_lines.specs.Commands.{fault_at, file_line, first_fault, job_in, job_of, lines_of as file_lines, numbered, pieces_of}
use Rattle.gcode_lines.specs.Job.{JobData, most_bytes}
use Rattle.gcode_lines.specs.Text.{begin_of, has_control, is_control, is_skipped, is_too_long, command_text}
use Rattle.gcode_lines.specs.declared.fault.FileFault.{FileFault}
use Rattle.gcode_lines.specs.declared.fault.FileFault.TheVariants.{TooLong, ControlByte, NoMemory}
use Rattle.gcode_lines.proofs.TextCut.{IsPart-ends, IsPart-command_text}
use Rattle.octo_commands_print.specs.Draws.{draws, next_draw}
use Rattle.octo_commands_print.specs.File.{command_of, demo_file, draw_lines}
use Rattle.gcode_lines.proofs.Sendable.{line_feed_is_control}

-- a short line without control bytes, and so without a line feed
record IsPlain (line : List ℕ) : Type 0 where
  pub short : length line ≤ 24
  pub clean : list_any is_control line ≡ false

digit_clean : (byte : ℕ) → is_ascii_digit byte ≡ true → is_control byte ≡ false
digit_clean byte digit = grind (arith, nat_tests)

digits_clean : (bytes : List ℕ) → list_all is_ascii_digit bytes ≡ true → list_any is_control bytes ≡ false
digits_clean [] all = refl
digits_clean (byte ∷ bytes) all =
    let parts = and_parts (is_ascii_digit byte) (list_all is_ascii_digit bytes) all in
    or_from _ _ (digit_clean byte parts.0) (digits_clean bytes parts.1)

-- four bytes and a small number
named_plain : (front : List ℕ) (number : ℕ) → length front ≡ 4 → list_any is_control front ≡ false → number < 200 → IsPlain (front ++ decimal number)
named_plain front number four clean small =
    let few = length-decimal-le 3 number (omega arith) (omega arith) (omega arith) in
    let digits = digits_clean (decimal number) (all_digits-decimal number (omega arith)) in
    record {
      short = omega (arith, length-append front (decimal number), few);
      clean = list_any-append is_control front (decimal number) ∙ or_from _ _ clean digits;
    }

command_plain : (draw : ℕ) → IsPlain (command_of draw)
command_plain draw = pick (draw % 4 == 0) (draw % 4 == 1) (draw % 4 == 2)
  where
    small : draw % 200 < 200
    small = omega arith

    least : draw % 50 < 200
    least = omega arith

    pick : (x y e : Bool)
        → IsPlain (cond x (codes "G1 X" ++ decimal (draw % 200)) (cond y (codes "G1 Y" ++ decimal (draw % 200)) (cond e (codes "G1 E" ++ decimal (draw % 200)) (codes "G4 P" ++ decimal (draw % 50)))))
    pick true y e = named_plain (codes "G1 X") (draw % 200) refl refl small
    pick false true e = named_plain (codes "G1 Y") (draw % 200) refl refl small
    pick false false true = named_plain (codes "G1 E") (draw % 200) refl refl small
    pick false false false = named_plain (codes "G4 P") (draw % 50) refl refl least

-- the text of a plain line is neither too long nor has it a control byte
text_short : (line : List ℕ) → IsPlain line → is_too_long (command_text line) ≡ false
unfolding is_too_long
text_short line plain =
    let ends = IsPart-ends line (begin_of line) (command_text line) (IsPart-command_text line) in
    let few = plain.short in
    le-ltb 79 (length (command_text line)) (omega (arith, ends, few))

text_clean : (line : List ℕ) → IsPlain line → has_control (command_text line) ≡ false
unfolding has_control
text_clean line plain =
    let part = IsPart-command_text line in
    let whole : list_any is_control (part.front ++ (command_text line ++ part.back)) ≡ false = subst (λ (l : List ℕ). list_any is_control l ≡ false) part.joined plain.clean in
    let behind = (or_parts _ _ (sym (list_any-append is_control part.front (command_text line ++ part.back)) ∙ whole)).1 in
    (or_parts _ _ (sym (list_any-append is_control (command_text line) part.back) ∙ behind)).0

plain_line : (line : List ℕ) (number place : ℕ) → IsPlain line → fault_at (file_line line number place) ≡ None
plain_line line number place plain = split (is_skipped (command_text line)) (is_too_long (command_text line)) (has_control (command_text line)) (text_short line plain) (text_clean line plain)
  where
    split : (skipped long control : Bool) → long ≡ false → control ≡ false
        → ◌≡◌ {A = Option FileFault} (cond skipped None (cond long (Some (TooLong number)) (cond control (Some (ControlByte number)) None))) None
    split true long control a b = refl
    split false long control a b = rw (a, b) refl

no_fault : (drawn : List ℕ) (number place : ℕ) → first_fault (numbered number place (map command_of drawn)) ≡ None
no_fault [] number place = refl
no_fault (draw ∷ drawn) number place =
    rw (plain_line (command_of draw) number place (command_plain draw)) (no_fault drawn (number + 1) (place + length (command_of draw) + 1))

-- a line without control bytes is the first piece before its line feed
first_piece : (line rest : List ℕ) → list_any is_control line ≡ false → pieces_of (line ++ 10 ∷ rest) ≡ line ∷ pieces_of rest
first_piece [] rest clean = refl
first_piece (byte ∷ line) rest clean =
    let parts = or_parts (is_control byte) (list_any is_control line) clean in
    let other : (byte == 10) ≡ false = line_feed_is_control byte parts.0 in
    rw (other, first_piece line rest parts.1) refl

pieces_of_lines : (drawn : List ℕ) → pieces_of (draw_lines drawn) ≡ map command_of drawn
pieces_of_lines [] = refl
pieces_of_lines (draw ∷ drawn) =
    ap pieces_of (append_assoc (command_of draw) (codes "\n") (draw_lines drawn))
    ∙ first_piece (command_of draw) (draw_lines drawn) (command_plain draw).clean
    ∙ ap (λ (pieces : List (List ℕ)). command_of draw ∷ pieces) (pieces_of_lines drawn)

lines_short : (drawn : List ℕ) → length (draw_lines drawn) ≤ 25 * length drawn
lines_short [] = omega arith
lines_short (draw ∷ drawn) =
    let few = (command_plain draw).short in
    let rest = lines_short drawn in
    omega (arith, few, rest, length-append (command_of draw ++ codes "\n") (draw_lines drawn), length-append (command_of draw) (codes "\n"))

draws_many : (number count : ℕ) → length (draws number count) ≡ count
draws_many number zero = refl
draws_many number (suc count) = ap suc (draws_many (next_draw number) count)

-- the file of a demo has a job
pub job_of_demo : (seed commands : ℕ) → commands ≤ 200000 → job_of (demo_file seed commands) ≡ Ok (job_in (demo_file seed commands) (file_lines (demo_file seed commands)))
unfolding job_of file_lines
job_of_demo seed commands most =
    let file = demo_file seed commands in
    let short = lines_short (draws seed commands) in
    let fits : nat_lt most_bytes (length file) ≡ false = le-ltb most_bytes (length file) (omega (arith, short, draws_many seed commands)) in
    let sound : first_fault (file_lines file) ≡ None = ap (λ (pieces : List (List ℕ)). first_fault (numbered 1 0 pieces)) (pieces_of_lines (draws seed commands)) ∙ no_fault (draws seed commands) 1 0 in
    rw (fits, sound) refl

abbrev fault_in : Result JobData FileFault → FileFault → FileFault
fault_in (Ok job) other = other
fault_in (Err fault) other = fault

abbrev is_job : Result JobData FileFault → Bool
is_job (Ok job) = true
is_job (Err fault) = false

-- it is refused only if memory runs out
pub only_memory : (seed commands : ℕ) (file : List ℕ) (fault : FileFault) → commands ≤ 200000 → file ≡ demo_file seed commands
    → ◌≡◌ {A = Result JobData FileFault} (Err fault) (Err NoMemory) ⊎ ◌≡◌ {A = Result JobData FileFault} (Err fault) (job_of file) → fault ≡ NoMemory
only_memory seed commands file fault most its (inl same) = ap (λ (r : Result JobData FileFault). fault_in r fault) same
only_memory seed commands file fault most its (inr same) = absurd (true≢false (sym (ap is_job (same ∙ ap job_of its ∙ job_of_demo seed commands most))))
