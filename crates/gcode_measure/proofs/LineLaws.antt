-- Commands of a file as the lines of another one.
use Rattle.std.proofs.Common.{◌≡◌, ℕ, ◌+◌, ◌≤◌, Bool, true, false, cond, nat_lt, ◌==◌, List, [], ◌∷◌, ◌++◌, length, map, codes, Option, Some, None, Ok, Err, refl, sym, ap, ◌∙◌, subst, arith}
use Rattle.std.specs.List.{list_any}
use Rattle.std.specs.Option.{option_or}
use Rattle.std.proofs.lemmas.Bool.{or_parts}
use Rattle.std.proofs.lemmas.Bool.Decides.{nat_tests}
use Rattle.std.proofs.lemmas.List.{append_assoc}
use Rattle.gcode_lines.specs.declared.fault.FileFault.{FileFault}
use Rattle.gcode_lines.specs.declared.fault.FileFault.TheVariants.{TooLarge}
use Rattle.gcode_lines.specs.Job.{JobData, most_bytes, texts_of}
use Rattle.gcode_lines.specs.Commands.{FileLine, file_line, in_front, pieces_of, numbered, lines_of, is_skipped_line, fault_at, first_fault, unless_fault, job_in as lines_job, job_of}
use Rattle.gcode_lines.specs.Text.{command_text, is_skipped, is_too_long, is_control, has_control, has_order_mark, is_numbered}
use Rattle.gcode_measure.specs.Rest.{line_of, needs_number, text_of_lines}
use Rattle.gcode_measure.proofs.PlainLaws.{IsPlain, plain-command_text, command_text-plain, without_number-bare, command_text-after}
use Rattle.gcode_lines.proofs.JobLaws.{fault_by, sound_by, both_none, texts_in}
use Rattle.gcode_lines.proofs.Sendable.{list_any-weaker, line_feed_is_control, some_from_kept}

-- a fact of each text of a list
abbrev pub Each : (List ℕ → Type 0) → List (List ℕ) → Type 0
Each P [] = Unit {0}
Each P (text ∷ texts) = P text × Each P texts

-- a text that a file may have as a command
pub record IsCommand (text : List ℕ) : Type 0 where
  pub plain : IsPlain text
  pub kept : is_skipped text ≡ false
  pub short : is_too_long text ≡ false
  pub clean : has_control text ≡ false

command-of_line : (line : FileLine) → is_skipped_line line ≡ false → fault_at line ≡ None → IsCommand (command_text line.bytes)
command-of_line line kept sound =
    let tests = sound_by (is_too_long (command_text line.bytes)) (has_control (command_text line.bytes)) line.number
    (ap (λ t. fault_by t (is_too_long (command_text line.bytes)) (has_control (command_text line.bytes)) line.number) (sym kept) ∙ sound) in
    record { plain = plain-command_text line.bytes tests.1; kept = kept; short = tests.0; clean = tests.1 }

commands_by : (line : FileLine) (lines : List FileLine) (t : Bool) → is_skipped_line line ≡ t → fault_at line ≡ None → Each IsCommand (texts_in lines) →
    Each IsCommand (texts_in (line ∷ lines))
commands_by line lines true e sound rest = rw e rest
commands_by line lines false e sound rest = rw e (command-of_line line e sound, rest)

commands-of_lines : (lines : List FileLine) → first_fault lines ≡ None → Each IsCommand (texts_in lines)
commands-of_lines [] sound = tt
commands-of_lines (line ∷ lines) sound =
    let parts = both_none (fault_at line) (first_fault lines) sound in
    commands_by line lines (is_skipped_line line) refl parts.0 (commands-of_lines lines parts.1)

-- the job of a file, were there no fault
abbrev pub job_in : List ℕ → JobData
job_in bytes = lines_job bytes (lines_of bytes)

job_by : (large : Bool) (fault : Option FileFault) (bytes : List ℕ) (job : JobData) →
    cond large (Err (TooLarge (length bytes))) (unless_fault fault (job_in bytes)) ≡ Ok job → (fault ≡ None) × (job_in bytes ≡ job)
job_by true fault bytes job e = absurd cc
job_by false (Some fault) bytes job e = absurd cc
job_by false None bytes job e = (refl, cc)

-- the commands of every file are commands that a file may have
pub commands-of_file : (bytes : List ℕ) (job : JobData) → job_of bytes ≡ Ok job → Each IsCommand (texts_of job)
unfolding job_of
commands-of_file bytes job e =
    let parts = job_by (nat_lt most_bytes (length bytes)) (first_fault (lines_of bytes)) bytes job e in
    let P : JobData → Type 0 = λ j. Each IsCommand (texts_of j) in
    subst P parts.1 (commands-of_lines (lines_of bytes) parts.0)

pieces_of-line : (line rest : List ℕ) → list_any (λ b. b == 10) line ≡ false → pieces_of (line ++ 10 ∷ rest) ≡ line ∷ pieces_of rest
pieces_of-line [] rest h = refl
pieces_of-line (byte ∷ line) rest h =
    let parts = or_parts (byte == 10) (list_any (λ b. b == 10) line) h in
    ap (λ t. cond t ([] ∷ pieces_of (line ++ 10 ∷ rest)) (in_front byte (pieces_of (line ++ 10 ∷ rest)))) parts.0
    ∙ ap (in_front byte) (pieces_of-line line rest parts.1)

-- a line without a line feed
abbrev IsOneLine : List ℕ → Type 0
IsOneLine line = list_any (λ b. b == 10) line ≡ false

pieces_of-lines : (lines : List (List ℕ)) → Each IsOneLine lines → pieces_of (text_of_lines lines) ≡ lines
pieces_of-lines [] each = refl
pieces_of-lines (line ∷ lines) each =
    ap pieces_of (append_assoc line (10 ∷ []) (text_of_lines lines))
    ∙ pieces_of-line line (text_of_lines lines) each.0
    ∙ ap (λ pieces. line ∷ pieces) (pieces_of-lines lines each.1)

one_line-text : (text : List ℕ) → has_control text ≡ false → IsOneLine text
unfolding has_control
one_line-text text clean = list_any-weaker is_control (λ b. b == 10) line_feed_is_control text clean

one_line-by : (text : List ℕ) (t : Bool) → IsOneLine text → IsOneLine (cond t (codes "N0 " ++ text) text)
one_line-by text true h = h
one_line-by text false h = h

one_lines : (texts : List (List ℕ)) → Each IsCommand texts → Each IsOneLine (map line_of texts)
one_lines [] each = tt
one_lines (text ∷ texts) each =
    let first = each.0 in
    (one_line-by text (needs_number text) (one_line-text text first.clean), one_lines texts each.1)

says_by : (text : List ℕ) (t : Bool) → needs_number text ≡ t → IsCommand text → command_text (cond t (codes "N0 " ++ text) text) ≡ text
says_by text true e command = command_text-after text (some_from_kept text command.kept) command.plain
says_by text false e command =
    let parts = or_parts (is_numbered text) (has_order_mark text) e in
    command_text-plain text command.plain parts.1 ∙ without_number-bare text parts.0

-- the line of a command says that command
pub command_text-line_of : (text : List ℕ) → IsCommand text → command_text (line_of text) ≡ text
command_text-line_of text command = says_by text (needs_number text) refl command

fault-of_line : (text : List ℕ) (number place : ℕ) → IsCommand text → fault_at (file_line (line_of text) number place) ≡ None
fault-of_line text number place command =
    let says = command_text-line_of text command in
    let short = command.short in
    let clean = command.clean in
    ap (λ t. fault_by (is_skipped t) (is_too_long t) (has_control t) number) says
    ∙ ap (λ t. fault_by (is_skipped text) t (has_control text) number) short
    ∙ ap (λ t. fault_by (is_skipped text) false t number) clean
    ∙ ap (λ t. fault_by t false false number) command.kept

fault-of_lines : (number place : ℕ) (texts : List (List ℕ)) → Each IsCommand texts → first_fault (numbered number place (map line_of texts)) ≡ None
fault-of_lines number place [] each = refl
fault-of_lines number place (text ∷ texts) each =
    ap (λ f. option_or f (first_fault (numbered (number + 1) (place + length (line_of text) + 1) (map line_of texts)))) (fault-of_line text number place each.0)
    ∙ fault-of_lines (number + 1) (place + length (line_of text) + 1) texts each.1

texts-by : (line : FileLine) (lines : List FileLine) → is_skipped_line line ≡ false → texts_in (line ∷ lines) ≡ command_text line.bytes ∷ texts_in lines
texts-by line lines e = rw e refl

texts-of_lines : (number place : ℕ) (texts : List (List ℕ)) → Each IsCommand texts → texts_in (numbered number place (map line_of texts)) ≡ texts
texts-of_lines number place [] each = refl
texts-of_lines number place (text ∷ texts) each =
    let first = each.0 in
    let says = command_text-line_of text each.0 in
    let kept : is_skipped (command_text (line_of text)) ≡ false = ap is_skipped says ∙ first.kept in
    texts-by (file_line (line_of text) number place) (numbered (number + 1) (place + length (line_of text) + 1) (map line_of texts)) kept
    ∙ ap (λ t. t ∷ texts_in (numbered (number + 1) (place + length (line_of text) + 1) (map line_of texts))) says
    ∙ ap (λ rest. text ∷ rest) (texts-of_lines (number + 1) (place + length (line_of text) + 1) texts each.1)

-- the file of commands, each on a line of its own
abbrev pub file_of : List (List ℕ) → List ℕ
file_of texts = text_of_lines (map line_of texts)

lines-of_file : (texts : List (List ℕ)) → Each IsCommand texts → lines_of (file_of texts) ≡ numbered 1 0 (map line_of texts)
unfolding lines_of
lines-of_file texts each = ap (numbered 1 0) (pieces_of-lines (map line_of texts) (one_lines texts each))

-- a file of commands that is not too large has just these commands
pub job-of_file : (texts : List (List ℕ)) → Each IsCommand texts → length (file_of texts) ≤ most_bytes →
    (job_of (file_of texts) ≡ Ok (job_in (file_of texts))) × (texts_of (job_in (file_of texts)) ≡ texts)
unfolding job_of
job-of_file texts each small =
    let test : nat_lt most_bytes (length (file_of texts)) ≡ false = grind (arith, nat_tests) in
    let lines = lines-of_file texts each in
    let sound : first_fault (lines_of (file_of texts)) ≡ None = ap first_fault lines ∙ fault-of_lines 1 0 texts each in (
      ap (λ t. cond t (Err (TooLarge (length (file_of texts)))) (unless_fault (first_fault (lines_of (file_of texts))) (job_in (file_of texts)))) test
          ∙ ap (λ f. unless_fault f (job_in (file_of texts))) sound,
      ap texts_in lines ∙ texts-of_lines 1 0 texts each,
    )
