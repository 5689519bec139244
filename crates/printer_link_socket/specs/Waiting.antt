-- A wait for a printer that may restart when its line is opened.
use Rattle.std.specs.Prelude.{◌≡◌, ℕ, Bool, true, false, not, ◌==◌, ◌||◌, if◌then◌else◌, List, [], ◌++◌, codes, nat_eq, Option, None, Some}
use Rattle.std.specs.List.{starts_with, list_any, before_first, after_first}
use Rattle.printer_link_socket.specs.Address.{names_device}
use Rattle.printer_link_socket.specs.declared.boot.Stage.{Stage}
use Rattle.printer_link_socket.specs.declared.boot.Stage.TheVariants.{Connecting, Booting}
use Rattle.printer_link_socket.specs.Lines.{LinesData, cut, ends_line}

-- by default a socket is used at once, and a serial device after 3 seconds
abbrev pub boot_of : Option ℕ → List ℕ → ℕ
boot_of (Some boot) name = boot
boot_of None name = if names_device name then 3000 else 0

-- after a dial the link waits for the printer, except over a socket without a boot time
abbrev pub waits_for : Option ℕ → List ℕ → Bool
waits_for boot name = names_device name || not (boot_of boot name == 0)

-- nothing that was read is kept
abbrev pub no_lines : LinesData
no_lines = record { begun = []; waiting = []; end = None }

-- the line that has begun is the printer's `start`, and what was read after it is kept
abbrev pub Starts : (old new : LinesData) → Type 0
Starts old new =
    (list_any ends_line old.waiting ≡ true)
    × (starts_with nat_eq (cut (old.begun ++ before_first ends_line old.waiting)) (codes "start") ≡ true)
    × (new ≡ record old { begun = []; waiting = after_first ends_line old.waiting })

-- the peer may accept the connection yet
abbrev pub is_connecting : Option Stage → Bool
is_connecting (Some (Connecting boot_ms)) = true
is_connecting (Some (Booting boot)) = false
is_connecting None = false
