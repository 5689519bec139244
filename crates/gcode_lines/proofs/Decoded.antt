-- An entry decodes to what it was made of.
use Rattle.std.proofs.Common.{◌≡◌, ℕ, ◌+◌, ◌^◌, ◌<◌, ◌≤◌, List, length, take, drop, ap, ◌∙◌, arith}
use Rattle.std.proofs.lemmas.List.{length-drop, length-take-le}
use Rattle.gcode_lines.specs.Job.{Command, entry_at, entry_of, IsCutFrom}
use Rattle.gcode_lines.specs.Packed.{begin_in, length_in, line_in, line_start, command_in, EndsIn}

begin_in-entry : (begin size line : ℕ) → begin < 2 ^ 28 → begin_in (entry_at begin size line) ≡ begin
begin_in-entry begin size line inside = omega arith

length_in-entry : (begin size line : ℕ) → begin < 2 ^ 28 → size < 2 ^ 7 → length_in (entry_at begin size line) ≡ size
length_in-entry begin size line inside short = omega arith

line_in-entry : (begin size line : ℕ) → begin < 2 ^ 28 → size < 2 ^ 7 → line_in (entry_at begin size line) ≡ line
line_in-entry begin size line inside short = omega arith

entry_at-parts : (entry : ℕ) → entry_at (begin_in entry) (length_in entry) (line_in entry) ≡ entry
entry_at-parts entry = omega arith

-- the command of these in a file
abbrev pub command_by : List ℕ → ℕ → ℕ → ℕ → Command
command_by file begin size line =
    record { text = take size (drop begin file); line = line; place = line_start file begin; begin = begin }

pub command_in-entry : (file : List ℕ) (begin size line : ℕ) → begin < 2 ^ 28 → size < 2 ^ 7 → command_in file (entry_at begin size line) ≡ command_by file begin size line
command_in-entry file begin size line inside short =
    let entry = entry_at begin size line in
    ap (λ b. command_by file b (length_in entry) (line_in entry)) (begin_in-entry begin size line inside)
    ∙ ap (λ s. command_by file begin s (line_in entry)) (length_in-entry begin size line inside short)
    ∙ ap (λ l. command_by file begin size l) (line_in-entry begin size line inside short)

-- a text that ends in the file is as long as its entry says
length_cut : (file : List ℕ) (begin size : ℕ) → begin + size ≤ length file → length (take size (drop begin file)) ≡ size
length_cut file begin size ends =
    let room : size ≤ length (drop begin file) = omega (arith, length-drop begin file) in
    length-take-le size (drop begin file) room

pub entry_of-command_in : (file : List ℕ) (entry : ℕ) → EndsIn file entry → entry_of (command_in file entry) ≡ entry
entry_of-command_in file entry ends =
    ap (λ size. entry_at (begin_in entry) size (line_in entry)) (length_cut file (begin_in entry) (length_in entry) ends) ∙ entry_at-parts entry

pub cut_from : (file : List ℕ) (entry : ℕ) → EndsIn file entry → IsCutFrom file (command_in file entry)
cut_from file entry ends =
    ap (λ size. take size (drop (begin_in entry) file)) (length_cut file (begin_in entry) (length_in entry) ends)

-- what ends in the file where an entry says
pub ends_entry : (file : List ℕ) (begin size line : ℕ) → begin < 2 ^ 28 → size < 2 ^ 7 → begin + size ≤ length file → EndsIn file (entry_at begin size line)
ends_entry file begin size line inside short ends =
    omega (arith, begin_in-entry begin size line inside, length_in-entry begin size line inside short)
