-- The numbers that a demo draws from its seed.
use Rattle.std.specs.Prelude.{ℕ, zero, suc, ◌+◌, ◌*◌, ◌/◌, ◌%◌, List, [], ◌∷◌}

-- the number that follows another
unfoldable pub next_draw : ℕ → ℕ
next_draw number = (1103515245 * number + 12345) % 2147483648

-- what a number draws: its upper bits
abbrev pub upper_bits : ℕ → ℕ
upper_bits number = number / 65536

-- the number after a count of draws
abbrev pub number_after : (number count : ℕ) → ℕ
number_after number zero = number
number_after number (suc count) = number_after (next_draw number) count

-- a count of draws, from a number on
abbrev pub draws : (number count : ℕ) → List ℕ
draws number zero = []
draws number (suc count) = upper_bits (next_draw number) ∷ draws (next_draw number) count
