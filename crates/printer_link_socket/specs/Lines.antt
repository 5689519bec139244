-- What was read of a stream of reply lines and isn't returned yet.
use Rattle.std.specs.Prelude.{ℕ, Bool, ◌==◌, if◌then◌else◌, List, take, Option, Some, None}
use Rattle.printer_link_cause.specs.declared.cause.Cause.{Cause}
use Rattle.printer_link_cause.specs.declared.cause.Cause.TheVariants.{Closed}

-- the beginning of the next line, cut, the bytes after it, and by what the last reading found the end of the
-- stream, if it did
pub record LinesData : Type 0 where
  pub begun : List ℕ
  pub waiting : List ℕ
  pub end : Option Cause

-- the line feed
abbrev pub ends_line : ℕ → Bool
ends_line byte = byte == 10

-- a reply line is cut to 256 bytes
abbrev pub cut : List ℕ → List ℕ
cut line = take 256 line

-- a reading by which no byte came has found that the printer has closed
abbrev pub end_at : ℕ → Option Cause
end_at count = if count == 0 then Some Closed else None
