-- The entry of a line's command names that command in the file.
use Rattle.std.proofs.Common.{◌≡◌, ℕ, ◌+◌, ◌-◌, ◌^◌, ◌<◌, ◌≤◌, Bool, true, false, not, ◌==◌, List, [], ◌∷◌, length, get_or, take, map, None, refl, sym, ap, ◌∙◌, arith}
use Rattle.std.specs.List.{All}
use Rattle.std.proofs.lemmas.List.{get_or-take, length-take-le}
use Rattle.std.proofs.lemmas.List.Elements.{All-nil, All-cons}
use Rattle.std.proofs.lemmas.List.Sums.{suffix_len_is}
use Rattle.gcode_lines.specs.Text.{command_text, begin_of}
use Rattle.gcode_lines.specs.Job.{Command, most_bytes, entry_of}
use Rattle.gcode_lines.specs.Commands.{FileLine, is_skipped_line, fault_at, commands_in, command_at}
use Rattle.gcode_lines.specs.Packed.{line_start, command_in, EndsIn}
use Rattle.gcode_lines.proofs.Decoded.{command_by, command_in-entry, ends_entry}
use Rattle.gcode_lines.proofs.JobLaws.{short_line}
use Rattle.gcode_lines.proofs.TextCut.{IsPart, IsPart-cut, IsPart-ends, IsPart-part, IsPart-command_text}

-- a line of a file: its bytes are at its place, between line feeds
pub record IsLineOf (file : List ℕ) (line : FileLine) : Type 0 where
  pub there : IsPart file line.place line.bytes
  pub whole : (k : ℕ) → k < length line.bytes → (get_or file (line.place + k) 0 == 10) ≡ false
  pub starts : 0 < line.place → get_or file (line.place - 1) 0 ≡ 10
  pub small : length file ≤ most_bytes

-- back from a place in a line is the line's start
line_start-in : (file : List ℕ) (line : FileLine) (n : ℕ) → IsLineOf file line → n ≤ length line.bytes → line_start file (line.place + n) ≡ line.place
line_start-in file line n is inside =
    let ends = IsPart-ends file line.place line.bytes is.there in
    let front = take (line.place + n) file in
    let long : length front ≡ line.place + n = length-take-le (line.place + n) file (omega arith) in
    let feed = λ (byte : ℕ). not (byte == 10) in
    let passes : (k : ℕ) → line.place ≤ k → k < length front → feed (get_or front k 0) ≡ true = λ k after before.
    let at : line.place + (k - line.place) ≡ k = omega arith in
    let short : k < line.place + n = omega arith in
    ap feed (get_or-take (line.place + n) file k 0 short)
    ∙ ap not (ap (λ i. get_or file i 0 == 10) (sym at) ∙ is.whole (k - line.place) (omega arith)) in
    let stops : 0 < line.place → feed (get_or front (line.place - 1) 0) ≡ false = λ some.
    ap feed (get_or-take (line.place + n) file (line.place - 1) 0 (omega arith) ∙ is.starts some) in
    let back = suffix_len_is feed front line.place 0 (omega arith) passes stops in
    omega (arith, back, long)

-- the command of a line that is neither skipped nor at fault
command_kept : (file : List ℕ) (line : FileLine) → IsLineOf file line → is_skipped_line line ≡ false → fault_at line ≡ None → (command_in file (entry_of (command_at line)) ≡ command_at line) × EndsIn file (entry_of (command_at line))
command_kept file line is kept sound =
    let text = command_text line.bytes in
    let begin = begin_of line.bytes in
    let part = IsPart-command_text line.bytes in
    let there = IsPart-part file line.place line.bytes begin text is.there part in
    let short = short_line line kept sound in
    let small = is.small in
    let within = IsPart-ends line.bytes begin text part in
    let ends = IsPart-ends file (line.place + begin) text there in
    let inside : line.place + begin < 2 ^ 28 = omega arith in
    let brief : length text < 2 ^ 7 = omega arith in
    let named = command_in-entry file (line.place + begin) (length text) line.number inside brief in
    let cut = IsPart-cut file (line.place + begin) text there in
    let start = line_start-in file line begin is (omega arith) in
    let same : command_by file (line.place + begin) (length text) line.number ≡ command_at line =
    ap (λ t. let c : Command = record { text = t; line = line.number; place = line_start file (line.place + begin); begin = line.place + begin } in c) cut
    ∙ ap (λ p. let c : Command = record { text = text; line = line.number; place = p; begin = line.place + begin } in c) start in
    (named ∙ same, ends_entry file (line.place + begin) (length text) line.number inside brief ends)

entries_by : (file : List ℕ) (line : FileLine) (t : Bool) → is_skipped_line line ≡ t → IsLineOf file line → fault_at line ≡ None → (map (command_in file) (map entry_of (commands_in (line ∷ []))) ≡ commands_in (line ∷ [])) × All (EndsIn file) (map entry_of (commands_in (line ∷ [])))
entries_by file line true e is sound = rw e (refl, All-nil (EndsIn file))
entries_by file line false e is sound =
    let kept = command_kept file line is e sound in
    rw e (ap (λ c. c ∷ []) kept.0, All-cons (EndsIn file) (entry_of (command_at line)) [] kept.1 (All-nil (EndsIn file)))

-- the entries of a line name its commands, and what they name ends in the file
pub entries_of_line : (file : List ℕ) (line : FileLine) → IsLineOf file line → fault_at line ≡ None → (map (command_in file) (map entry_of (commands_in (line ∷ []))) ≡ commands_in (line ∷ [])) × All (EndsIn file) (map entry_of (commands_in (line ∷ [])))
entries_of_line file line is sound = entries_by file line (is_skipped_line line) refl is sound
