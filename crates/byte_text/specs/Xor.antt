-- The exclusive or of bytes, which is the checksum of a numbered line.
use Rattle.std.specs.Prelude.{ℕ, List, fold, bit_xor}

-- the exclusive or of all the bytes
unfoldable pub xor_of : List ℕ → ℕ
xor_of bytes = fold bit_xor 0 bytes
