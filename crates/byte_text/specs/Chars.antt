-- Bytes as characters.
use Rattle.std.specs.Prelude.{ℕ, Bool, ◌||◌, ◌==◌}

-- a space or a tab
abbrev pub is_space : ℕ → Bool
is_space byte = byte == 32 || byte == 9
