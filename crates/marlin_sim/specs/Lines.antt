-- The lines that reach the printer, by the bytes that were received.
use Rattle.std.specs.Prelude.{◌≡◌, ℕ, suc, ◌-◌, Bool, ◌==◌, if◌then◌else◌, List, [], ◌∷◌, ◌++◌, length, take, slice_index}
use Rattle.std.specs.Char.{is_ascii_digit}
use Rattle.std.specs.List.{slice_split}
use Rattle.octo_outside.specs.Memory.{is_listed}
use Rattle.printer_model.specs.Corrupt.{corrupted}
use Rattle.marlin_sim.specs.declared.plan.SimPlan.{SimPlan}

-- whether a byte ends a line
abbrev pub ends_line : ℕ → Bool
ends_line byte = byte == 10

-- all but the last
abbrev pub but_last : List (List ℕ) → List (List ℕ)
but_last [] = []
but_last (line ∷ []) = []
but_last (line ∷ next ∷ lines) = line ∷ but_last (next ∷ lines)

-- the whole lines of bytes; what follows the last line feed is none
abbrev pub whole_lines : List ℕ → List (List ℕ)
whole_lines bytes = but_last (slice_split ends_line bytes)

-- of a line that is too long the first 95 bytes count
abbrev pub cut : List ℕ → List ℕ
cut line = take 95 line

-- whether a line's last byte is a digit
abbrev pub ends_with_digit : List ℕ → Bool
ends_with_digit line = is_ascii_digit (slice_index line (length line - 1))

-- what arrives of a line that is to be corrupted: the line with another last digit, if it has one
abbrev pub if_corrupted : List ℕ → List (List ℕ)
if_corrupted line = if ends_with_digit line then corrupted line ∷ [] else []

-- what arrives of the received line of that number
unfoldable pub arriving : SimPlan → ℕ → List ℕ → List (List ℕ)
arriving plan n line =
    if is_listed plan.drop n then [] else if is_listed plan.corrupt n then if_corrupted line else line ∷ []

-- what arrives of received lines, the first of which has this number
abbrev pub planned : SimPlan → ℕ → List (List ℕ) → List (List ℕ)
planned plan n [] = []
planned plan n (line ∷ lines) = arriving plan n (cut line) ++ planned plan (suc n) lines

-- lines whose first began with these bytes
abbrev pub with_begun : List ℕ → List (List ℕ) → List (List ℕ)
with_begun begun [] = []
with_begun begun (line ∷ lines) = (begun ++ line) ∷ lines

-- lines on their way: those that wait to arrive, the beginning of the next one, and how many were received
pub record LinesData : Type 0 where
  pub waiting : List (List ℕ)
  pub begun : List ℕ
  pub received : ℕ

-- all that is to arrive, if these bytes are still to be received
abbrev pub to_come : SimPlan → LinesData → List ℕ → List (List ℕ)
to_come plan l bytes = l.waiting ++ planned plan (suc l.received) (with_begun l.begun (whole_lines bytes))

-- the first of these bytes were received; what is to arrive is the same if the others are still to be received
pub record IsReceivedInPart (plan : SimPlan) (bytes : List ℕ) (old new : LinesData) : Type 0 where
  pub front : List ℕ
  pub rest : List ℕ
  pub whole : bytes ≡ front ++ rest
  pub comes : (more : List ℕ) → to_come plan new (rest ++ more) ≡ to_come plan old (bytes ++ more)
