-- What is heard if no reply line waited.
use Rattle.std.specs.Prelude.{◌≡◌, ℕ, true, false, List, [], ◌++◌, Option, None, Some}
use Rattle.std.specs.Io.KnownBytes.{Consumes}
use Rattle.std.specs.List.{list_any, before_first, after_first}
use Rattle.printer_link.specs.declared.link.Heard.{Heard}
use Rattle.printer_link.specs.declared.link.Heard.TheVariants.{Line, Nothing}
use Rattle.printer_link_socket.specs.Lines.{LinesData, ends_line, cut}
use Rattle.printer_link_socket.specs.Sent.{Took}

-- these bytes came from a stream, if what it has left is known
abbrev pub Came : {S : Type 0} → (S → Option (List ℕ)) → Option S → Option S → List ℕ → Type 0
Came remaining None after bytes = ⊥
Came remaining (Some before) None bytes = ⊥
Came remaining (Some before) (Some after) bytes = Consumes (remaining before) (remaining after) bytes

-- of what was read and what came: the line that has ended and what is after it, or the beginning of a line; the stream
-- has not ended
abbrev pub Hears : (read came : List ℕ) → Heard → (line : List ℕ) → LinesData → Type 0
Hears read came Line line after =
    (list_any ends_line came ≡ true)
    × (line ≡ cut (read ++ before_first ends_line came))
    × (after ≡ record { begun = []; waiting = after_first ends_line came; end = None })
Hears read came Nothing line after =
    (list_any ends_line came ≡ false)
    × (after ≡ record { begun = cut (read ++ came); waiting = []; end = None })

-- a receiving that found no reply waiting: the stream took some of what was unsent, and then these bytes came from it
pub record HeardLater {S : Type 0} (contents remaining : S → Option (List ℕ)) (room : S → Option ℕ) (before after : Option S)
    (unsent left : List ℕ) (old : LinesData) (got : Heard) (line : List ℕ) (new : LinesData) : Type 0 where
  pub written : S
  pub came : List ℕ
  pub took : Took contents room before (Some written) unsent left
  pub comes : Came remaining (Some written) after came
  pub hears : Hears (old.begun ++ old.waiting) came got line new
