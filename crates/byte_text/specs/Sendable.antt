-- The commands that may be sent to a printer in one numbered line.
use Rattle.std.specs.Prelude.{◌≡◌, ℕ, ◌≤◌, List, length, false}
use Rattle.byte_text.specs.Marks.{has_byte, has_m110}

-- a command that may be sent: 1 to 79 bytes, no `*`, no line feed, no M110
pub record IsSendable (text : List ℕ) : Type 0 where
  pub some : 1 ≤ length text
  pub short : length text ≤ 79
  pub no_star : has_byte 42 text ≡ false
  pub no_line_feed : has_byte 10 text ≡ false
  pub no_m110 : has_m110 text ≡ false
