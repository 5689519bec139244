-- The numbered lines of Marlin's serial protocol: `N`, the number, a space, the command, `*` and the checksum.
use Rattle.std.specs.Prelude.{◌≡◌, ℕ, Bool, true, false, ◌&&◌, ◌==◌, not, List, [], ◌∷◌, ◌++◌, length, drop, codes, decimal, if◌then◌else◌}
use Rattle.std.specs.List.{after_first, before_last, after_last}
use Rattle.byte_text.specs.Marks.{has_byte, has_m110}
use Rattle.byte_text.specs.Number.{leading_digits, number_of}
use Rattle.byte_text.specs.Xor.{xor_of}

-- the byte `N`, with which a numbered line begins
abbrev pub letter_n : ℕ
letter_n = 78

-- the byte `*`, after which the checksum is
abbrev pub star : ℕ
star = 42

-- the byte of a space
abbrev pub space : ℕ
space = 32

-- what the checksum of a numbered command is taken of
unfoldable pub head_of : ℕ → List ℕ → List ℕ
head_of n text = codes "N" ++ decimal n ++ codes " " ++ text

-- the line that carries a command under a number
unfoldable pub frame_of : ℕ → List ℕ → List ℕ
frame_of n text = head_of n text ++ codes "*" ++ decimal (xor_of (head_of n text))

-- whether a line is numbered
unfoldable pub begins_with_n : List ℕ → Bool
begins_with_n [] = false
begins_with_n (byte ∷ line) = byte == letter_n

-- what a checksum, if there is one, is taken of
unfoldable pub checked_part : List ℕ → List ℕ
checked_part line = before_last (λ byte. byte == star) line

-- whether a line has a checksum, a `*`
unfoldable pub has_checksum : List ℕ → Bool
has_checksum line = has_byte star line

-- whether the number after the last `*` is the exclusive or of what is before it
unfoldable pub checksum_matches : List ℕ → Bool
checksum_matches line = number_of (after_last (λ byte. byte == star) line) == xor_of (checked_part line)

-- whether a numbered line has no checksum or a wrong one
unfoldable pub fails : List ℕ → Bool
fails line = begins_with_n line && not (has_checksum line && checksum_matches line)

-- the number after the `N` that a numbered line begins with
unfoldable pub n_parameter_of : List ℕ → ℕ
n_parameter_of line = number_of (drop 1 line)

-- whether a line that sets the printer's number has it after a second `N`, at its fifth byte or later
unfoldable pub has_second_n : List ℕ → Bool
has_second_n line = has_m110 line && has_byte letter_n (drop 4 line)

-- the line number of a numbered line: the number after its second `N` if it sets the printer's number and has one, else the number at its
-- front
unfoldable pub line_number_of : List ℕ → ℕ
line_number_of line =
    if has_second_n line
    then number_of (after_first (λ byte. byte == letter_n) (drop 4 line))
    else n_parameter_of line

-- what follows the digits at the front
unfoldable pub after_first_digits : List ℕ → List ℕ
after_first_digits bytes = drop (length (leading_digits bytes)) bytes

-- without one space at the front, if there is one
unfoldable pub after_space : List ℕ → List ℕ
after_space [] = []
after_space (byte ∷ bytes) = if byte == space then bytes else byte ∷ bytes

-- the command of a numbered line: after the `N`, its digits and one space, up to the last `*`
unfoldable pub text_of : List ℕ → List ℕ
text_of line = after_space (after_first_digits (drop 1 (checked_part line)))

-- a line that carries a command under a number, with a right checksum
pub record IsNumberedLine (n : ℕ) (text line : List ℕ) : Type 0 where
  pub numbered : begins_with_n line ≡ true
  pub whole : fails line ≡ false
  pub number : line_number_of line ≡ n
  pub command : text_of line ≡ text
