-- The text of a line: what is left without byte order mark, comment, checksum, blanks and line number.
use Rattle.std.specs.Prelude.{ℕ, ◌+◌, ◌-◌, Bool, ◌||◌, ◌&&◌, not, ◌==◌, nat_eq, nat_lt, List, [], ◌∷◌, length, take, drop, slice_index, if◌then◌else◌}
use Rattle.std.specs.List.{prefix_len, suffix_len, before_first, list_any, starts_with}
use Rattle.std.specs.Char.{is_ascii_digit}
use Rattle.byte_text.specs.Chars.{is_space}
use Rattle.byte_text.specs.Marks.{has_m110}

-- `;` begins a comment, `*` a checksum
abbrev pub is_mark : ℕ → Bool
is_mark byte = byte == 59 || byte == 42

-- a byte that ends a line's command: its line feed or a mark
abbrev pub ends_command : ℕ → Bool
ends_command byte = byte == 10 || is_mark byte

-- a space, a tab or a carriage return
abbrev pub is_blank : ℕ → Bool
is_blank byte = is_space byte || byte == 13

-- a list without those at its front that pass a test
unfoldable pub without_front : (ℕ → Bool) → List ℕ → List ℕ
without_front test bytes = drop (prefix_len test bytes) bytes

-- a list without those at its end that pass a test
unfoldable pub without_end : (ℕ → Bool) → List ℕ → List ℕ
without_end test bytes = take (length bytes - suffix_len test bytes) bytes

-- a text without blanks at both ends
unfoldable pub trimmed : List ℕ → List ℕ
trimmed bytes = without_end is_blank (without_front is_blank bytes)

-- whether a text begins with a line number: `N` and a digit
unfoldable pub is_numbered : List ℕ → Bool
is_numbered text = slice_index text 0 == 78 && is_ascii_digit (slice_index text 1)

-- a text without its line number and the spaces and tabs after it
unfoldable pub without_number : List ℕ → List ℕ
without_number text =
    if is_numbered text then without_front is_space (without_front is_ascii_digit (drop 1 text)) else text

-- whether a UTF-8 byte order mark, which some editors write, is at the front
unfoldable pub has_order_mark : List ℕ → Bool
has_order_mark line = starts_with nat_eq line (239 ∷ 187 ∷ 191 ∷ [])

-- how many bytes of a line it has: 3 or none
unfoldable pub order_mark_len : List ℕ → ℕ
order_mark_len line = if has_order_mark line then 3 else 0

-- a line without a byte order mark at its front
unfoldable pub without_order_mark : List ℕ → List ℕ
without_order_mark line = drop (order_mark_len line) line

-- the part of a line that has its command: without byte order mark, comment and checksum
unfoldable pub command_part : List ℕ → List ℕ
command_part line = without_order_mark (before_first is_mark line)

-- the text of a line's command: of that part, without blanks and line number
unfoldable pub command_text : List ℕ → List ℕ
command_text line = without_number (trimmed (command_part line))

-- how many bytes of a text are its line number and the spaces and tabs after it
unfoldable pub number_len : List ℕ → ℕ
number_len text = length text - length (without_number text)

-- where in a line its text begins: after a byte order mark, the blanks in front and the line number
unfoldable pub begin_of : List ℕ → ℕ
begin_of line =
    order_mark_len (before_first is_mark line)
    + (prefix_len is_blank (command_part line) + number_len (trimmed (command_part line)))

-- whether a text is passed over: it is empty or would set the printer's line number
unfoldable pub is_skipped : List ℕ → Bool
is_skipped text = length text == 0 || has_m110 text

-- whether a text is too long to be sent in one line
unfoldable pub is_too_long : List ℕ → Bool
is_too_long text = nat_lt 79 (length text)

-- a byte that no command may hold: below 32 but for the tab, and 127
abbrev pub is_control : ℕ → Bool
is_control byte = nat_lt byte 32 && not (byte == 9) || byte == 127

-- a byte that no plain text has: an `M`, or one that no command may hold
abbrev pub is_odd : ℕ → Bool
is_odd byte = byte == 77 || is_control byte

-- whether a text holds a byte that no command may hold
unfoldable pub has_control : List ℕ → Bool
has_control text = list_any is_control text
