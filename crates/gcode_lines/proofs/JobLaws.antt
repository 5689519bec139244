-- What holds of every file's commands.
use Rattle.std.proofs.Common.{◌≡◌, ℕ, zero, suc, ◌+◌, ◌<◌, ◌≤◌, Bool, true, false, cond, nat_lt, List, [], ◌∷◌, length, get_or, map, Option, Some, None, Err, IfOk, refl, sym, ap, ◌∙◌, arith}
use Rattle.std.specs.List.{All}
use Rattle.std.specs.Option.{option_or}
use Rattle.std.specs.List.Sorted.{IsStrictlyIncreasing}
use Rattle.std.proofs.lemmas.List.Elements.{All-nil, All-cons}
use Rattle.byte_text.specs.Sendable.{IsSendable}
use Rattle.gcode_lines.specs.declared.fault.FileFault.{FileFault}
use Rattle.gcode_lines.specs.declared.fault.FileFault.TheVariants.{TooLong, ControlByte, TooLarge}
use Rattle.gcode_lines.specs.Text.{command_text, is_too_long, has_control}
use Rattle.gcode_lines.specs.Job.{most_bytes, texts_of, numbers_of, AllSendable}
use Rattle.gcode_lines.specs.Commands.{FileLine, file_line, numbered, pieces_of, lines_of, is_skipped_line, fault_at, first_fault, commands_in, unless_fault, job_in, job_of}
use Rattle.gcode_lines.proofs.Sendable.{sendable_text, short_from_test}

-- the tests of `fault_at` over plain variables
abbrev pub fault_by : Bool → Bool → Bool → ℕ → Option FileFault
fault_by passed long control number =
    cond passed None (cond long (Some (TooLong number)) (cond control (Some (ControlByte number)) None))

pub sound_by : (long control : Bool) (number : ℕ) → fault_by false long control number ≡ None → (long ≡ false) × (control ≡ false)
sound_by false false number sound = (refl, refl)
sound_by true control number sound = absurd cc
sound_by false true number sound = absurd cc

-- a line that is neither skipped nor at fault says what may be sent
pub sendable_line : (line : FileLine) → is_skipped_line line ≡ false → fault_at line ≡ None → IsSendable (command_text line.bytes)
sendable_line line kept sound =
    let tests = sound_by (is_too_long (command_text line.bytes)) (has_control (command_text line.bytes)) line.number (ap (λ t. fault_by t (is_too_long (command_text line.bytes)) (has_control (command_text line.bytes)) line.number) (sym kept) ∙ sound) in
    sendable_text line.bytes kept tests.0 tests.1

-- and its text is short
pub short_line : (line : FileLine) → is_skipped_line line ≡ false → fault_at line ≡ None → length (command_text line.bytes) ≤ 79
short_line line kept sound =
    let tests = sound_by (is_too_long (command_text line.bytes)) (has_control (command_text line.bytes)) line.number (ap (λ t. fault_by t (is_too_long (command_text line.bytes)) (has_control (command_text line.bytes)) line.number) (sym kept) ∙ sound) in
    short_from_test (command_text line.bytes) tests.0

pub both_none : (first rest : Option FileFault) → option_or first rest ≡ None → (first ≡ None) × (rest ≡ None)
both_none None rest e = (refl, e)
both_none (Some fault) rest e = absurd cc

-- the texts of the commands among lines
abbrev pub texts_in : List FileLine → List (List ℕ)
texts_in lines = map (λ c. c.text) (commands_in lines)

sendable_by : (line : FileLine) (lines : List FileLine) (t : Bool) → is_skipped_line line ≡ t → fault_at line ≡ None → All IsSendable (texts_in lines) → All IsSendable (texts_in (line ∷ lines))
sendable_by line lines true e sound rest = rw e rest
sendable_by line lines false e sound rest =
    rw e (All-cons IsSendable (command_text line.bytes) (texts_in lines) (sendable_line line e sound) rest)

sendable_lines : (lines : List FileLine) → first_fault lines ≡ None → All IsSendable (texts_in lines)
sendable_lines [] sound = All-nil IsSendable
sendable_lines (line ∷ lines) sound =
    let parts = both_none (fault_at line) (first_fault lines) sound in
    sendable_by line lines (is_skipped_line line) refl parts.0 (sendable_lines lines parts.1)

-- numbers that rise, the first of which is at least this one
abbrev RisesFrom : ℕ → List ℕ → Type 0
RisesFrom from [] = Unit {0}
RisesFrom from (number ∷ numbers) = (from ≤ number) × RisesFrom (number + 1) numbers

RisesFrom-lower : (from high : ℕ) (numbers : List ℕ) → from ≤ high → RisesFrom high numbers → RisesFrom from numbers
RisesFrom-lower from high [] le rises = tt
RisesFrom-lower from high (number ∷ numbers) le rises = let first = rises.0 in (omega arith, rises.1)

abbrev numbers_in : List FileLine → List ℕ
numbers_in lines = map (λ c. c.line) (commands_in lines)

rises_by : (line : FileLine) (lines : List FileLine) (t : Bool) → is_skipped_line line ≡ t → RisesFrom (line.number + 1) (numbers_in lines) → RisesFrom line.number (numbers_in (line ∷ lines))
rises_by line lines true e rest = rw e (RisesFrom-lower line.number (line.number + 1) (numbers_in lines) (omega arith) rest)
rises_by line lines false e rest = let first : line.number ≤ line.number = omega arith in rw e (first, rest)

rises_numbered : (number place : ℕ) (pieces : List (List ℕ)) → RisesFrom number (numbers_in (numbered number place pieces))
rises_numbered number place [] = tt
rises_numbered number place (piece ∷ pieces) =
    rises_by (file_line piece number place) (numbered (number + 1) (place + length piece + 1) pieces) (is_skipped_line (file_line piece number place)) refl (rises_numbered (number + 1) (place + length piece + 1) pieces)

increasing_at : (k number next : ℕ) (numbers : List ℕ) → number < next → IsStrictlyIncreasing (next ∷ numbers) → k + 1 < length (number ∷ next ∷ numbers) → get_or (number ∷ next ∷ numbers) k 0 < get_or (number ∷ next ∷ numbers) (k + 1) 0
increasing_at zero number next numbers lt rest within = lt
increasing_at (suc k) number next numbers lt rest within =
    let step : suc k + 1 ≡ suc (k + 1) = omega arith in
    let inside : k + 1 < length (next ∷ numbers) = omega arith in
    rw step (rest k inside)

RisesFrom-increasing : (from : ℕ) (numbers : List ℕ) → RisesFrom from numbers → IsStrictlyIncreasing numbers
RisesFrom-increasing from [] rises = λ k h. absurd (omega arith)
RisesFrom-increasing from (number ∷ []) rises = λ k h. absurd (omega arith)
RisesFrom-increasing from (number ∷ next ∷ numbers) rises =
    let above = rises.1.0 in
    λ k. increasing_at k number next numbers (omega arith) (RisesFrom-increasing (number + 1) (next ∷ numbers) rises.1)

rising_lines : (bytes : List ℕ) → IsStrictlyIncreasing (numbers_in (lines_of bytes))
unfolding lines_of
rising_lines bytes = RisesFrom-increasing 1 _ (rises_numbered 1 0 (pieces_of bytes))

sendable_from : (large : Bool) (fault : Option FileFault) (bytes : List ℕ) → first_fault (lines_of bytes) ≡ fault → IfOk (cond large (Err (TooLarge (length bytes))) (unless_fault fault (job_in bytes (lines_of bytes)))) (λ job. AllSendable (texts_of job))
sendable_from true fault bytes e = tt
sendable_from false (Some fault) bytes e = tt
sendable_from false None bytes e = sendable_lines (lines_of bytes) e

-- the commands of every file may be sent
pub sendable_job : (bytes : List ℕ) → IfOk (job_of bytes) (λ job. AllSendable (texts_of job))
unfolding job_of
sendable_job bytes = sendable_from (nat_lt most_bytes (length bytes)) (first_fault (lines_of bytes)) bytes refl

rising_from : (large : Bool) (fault : Option FileFault) (bytes : List ℕ) → IfOk (cond large (Err (TooLarge (length bytes))) (unless_fault fault (job_in bytes (lines_of bytes)))) (λ job. IsStrictlyIncreasing (numbers_of job))
rising_from true fault bytes = tt
rising_from false (Some fault) bytes = tt
rising_from false None bytes = rising_lines bytes

-- the commands of every file are in the order of its lines
pub rising_job : (bytes : List ℕ) → IfOk (job_of bytes) (λ job. IsStrictlyIncreasing (numbers_of job))
unfolding job_of
rising_job bytes = rising_from (nat_lt most_bytes (length bytes)) (first_fault (lines_of bytes)) bytes
