-- The pieces of a reply line, which spaces separate, and the numbers in them.
use Rattle.std.specs.Prelude.{ℕ, ◌-◌, ◌==◌, ◌||◌, ◌&&◌, not, nat_eq, nat_le, Bool, if◌then◌else◌, List, [], ◌∷◌, length, take, drop, Option, None, Some}
use Rattle.std.specs.Char.{is_ascii_digit}
use Rattle.std.specs.List.{starts_with, take_while, prefix_len, suffix_len, list_all}
use Rattle.std.specs.Option.{option_or}
use Rattle.byte_text.specs.Chars.{is_space}
use Rattle.byte_text.specs.Number.{decimal_value, most_u32}

-- a space, a tab or a carriage return
abbrev pub is_line_end : ℕ → Bool
is_line_end byte = is_space byte || byte == 13

-- without the spaces and tabs at the front
unfoldable pub without_front : List ℕ → List ℕ
without_front bytes = drop (prefix_len is_space bytes) bytes

-- without the spaces, tabs and carriage returns at the end
unfoldable pub without_end : List ℕ → List ℕ
without_end bytes = take (length bytes - suffix_len is_line_end bytes) bytes

-- a line without spaces and tabs at both ends and without carriage returns at its end
unfoldable pub trimmed : List ℕ → List ℕ
trimmed line = without_end (without_front line)

-- whether a text begins with another
abbrev pub begins : List ℕ → List ℕ → Bool
begins text mark = starts_with nat_eq text mark

-- without the spaces at the front
unfoldable pub after_spaces : List ℕ → List ℕ
after_spaces bytes = drop (prefix_len (λ byte. byte == 32) bytes) bytes

-- what follows each space
abbrev pub starts_after : List ℕ → List (List ℕ)
starts_after [] = []
starts_after (byte ∷ bytes) = if byte == 32 then bytes ∷ starts_after bytes else starts_after bytes

-- the text from each of its pieces on; a space is between two pieces
abbrev pub piece_starts : List ℕ → List (List ℕ)
piece_starts text = text ∷ starts_after text

-- the same of a text or none
abbrev pub starts_left : Option (List ℕ) → List (List ℕ)
starts_left None = []
starts_left (Some text) = piece_starts text

-- the piece at the front
unfoldable pub front_piece : List ℕ → List ℕ
front_piece text = take_while (λ byte. not (byte == 32)) text

-- the number that digits write, if it is at most 4,294,967,295
unfoldable pub small_number : List ℕ → Option ℕ
small_number digits = if nat_le (decimal_value digits) most_u32 then Some (decimal_value digits) else None

-- the number that a text writes which has digits alone
unfoldable pub whole_number : List ℕ → Option ℕ
whole_number text = if nat_le 1 (length text) && list_all is_ascii_digit text then small_number text else None

-- the number of a piece that is a letter and digits alone
unfoldable pub field_at : ℕ → List ℕ → Option ℕ
field_at letter [] = None
field_at letter (byte ∷ bytes) = if byte == letter then whole_number (front_piece bytes) else None

-- the first at which a test finds something
abbrev pub first_some : (List ℕ → Option ℕ) → List (List ℕ) → Option ℕ
first_some test [] = None
first_some test (text ∷ texts) = option_or (test text) (first_some test texts)

-- the number of the first piece that is the letter and a number
unfoldable pub field_of : ℕ → List ℕ → Option ℕ
field_of letter text = first_some (field_at letter) (piece_starts text)
