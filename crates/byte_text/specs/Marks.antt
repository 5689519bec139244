-- Bytes and texts that lines hold: a byte, a text, and `M110`, which sets the printer's line number.
use Rattle.std.specs.Prelude.{ℕ, Bool, ◌||◌, List, [], ◌∷◌, codes, nat_eq, ◌==◌}
use Rattle.std.specs.List.{starts_with, list_any}

-- whether the bytes of a text are in a list one after the other
abbrev pub contains_text : List ℕ → List ℕ → Bool
contains_text text [] = starts_with nat_eq [] text
contains_text text (byte ∷ bytes) = starts_with nat_eq (byte ∷ bytes) text || contains_text text bytes

-- whether a line holds the code that sets the printer's line number
unfoldable pub has_m110 : List ℕ → Bool
has_m110 line = contains_text (codes "M110") line

-- whether a byte is in a line
unfoldable pub has_byte : ℕ → List ℕ → Bool
has_byte byte line = list_any (λ b. b == byte) line
