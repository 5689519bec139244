-- The world between host and printer: two wires and the printer, by events.
use Rattle.std.specs.Prelude.{◌≡◌, ℕ, Bool, true, false, ◌&&◌, not, nat_le, nat_lt, if◌then◌else◌, List, [], ◌∷◌, ◌++◌, length, drop, map, remove, slice_set, fold, Option, Some, None, Result, Ok, Err}
use Rattle.marlin_frame.specs.Frame.{fails}
use Rattle.marlin_reply.specs.Kind.{is_chatter}
use Rattle.printer_model.specs.Printer.{PrinterData, Logged, RanLine, is_full, take_line, run_front, printer_after_restart, log_line_of, waiting_as}
use Rattle.printer_model.specs.Replies.{taken_replies, start_line}
use Rattle.printer_model.specs.declared.printer.Taken.{Taken}
use Rattle.printer_model.specs.declared.oks.Oks.{Oks}
use Rattle.printer_model.specs.declared.event.WorldEvent.{WorldEvent}
use Rattle.printer_model.specs.declared.event.WorldEvent.TheVariants.{Opened, Send, Arrive, Lose, LoseReply, Garble, Run, Restart, Chatter, Recv, Closed}

-- whether a link is made, the printer, what it ran, the wire to the printer (`up`) and the wire from it (`down`). The `up` of a link or a
-- session is another thing: it is `linked` here
pub record WorldData : Type 0 where
  pub linked : Bool
  pub printer : PrinterData
  pub log : List Logged
  pub up : List (List ℕ)
  pub down : List (List ℕ)

-- before the first event: the printer has this many buffer slots, and such `ok`s
abbrev pub new_world : ℕ → Oks → WorldData
new_world slots oks =
    record {
      linked = false;
      printer = record { last = 0; slots = slots; oks = oks; queue = [] };
      log = [];
      up = [];
      down = [];
    }

-- whether a list has no item
abbrev pub is_empty : {X : Type 0} → List X → Bool
is_empty [] = true
is_empty (x ∷ xs) = false

-- whether a line may be on the wire to the printer
abbrev pub fits_wire : List ℕ → Bool
fits_wire line = nat_le (length line) 95

-- whether an event is one that the line and the printer add by themselves
abbrev pub is_free : WorldEvent → Bool
is_free Arrive = true
is_free (Lose at) = true
is_free (LoseReply at) = true
is_free (Garble at line) = true
is_free Run = true
is_free Restart = true
is_free (Chatter reply) = true
is_free _ = false

-- whether an event opens a session
abbrev pub is_opened : WorldEvent → Bool
is_opened (Opened last) = true
is_opened _ = false

-- whether an event is a line that the host sent
abbrev pub is_send : WorldEvent → Bool
is_send (Send line) = true
is_send _ = false

-- whether an event is a restart
abbrev pub is_restart : WorldEvent → Bool
is_restart Restart = true
is_restart _ = false

-- whether an event is a line lost or corrupted on its way to the printer
abbrev pub is_loss : WorldEvent → Bool
is_loss (Lose at) = true
is_loss (Garble at line) = true
is_loss _ = false

-- whether an event is the run of a line
abbrev pub is_run : WorldEvent → Bool
is_run Run = true
is_run _ = false

-- whether an event may change what the printer holds
abbrev pub moves_printer : WorldEvent → Bool
moves_printer (Opened last) = true
moves_printer Arrive = true
moves_printer Run = true
moves_printer Restart = true
moves_printer _ = false

-- whether an event may change the wire to the printer
abbrev pub moves_up : WorldEvent → Bool
moves_up (LoseReply at) = false
moves_up Run = false
moves_up Restart = false
moves_up (Chatter reply) = false
moves_up Recv = false
moves_up _ = true

-- whether an event may change the wire from the printer
abbrev pub moves_down : WorldEvent → Bool
moves_down (Send line) = false
moves_down (Lose at) = false
moves_down (Garble at line) = false
moves_down _ = true

-- whether an event can happen; what each one needs is said at `WorldEvent` (src/event.rt)
abbrev pub can_happen : WorldData → WorldEvent → Bool
can_happen w (Opened last) = not w.linked && is_empty w.printer.queue
can_happen w (Send line) = w.linked && fits_wire line.items
can_happen w Arrive = not (is_empty w.up) && not (is_full w.printer)
can_happen w (Lose at) = nat_lt at (length w.up)
can_happen w (LoseReply at) = w.printer.oks.lost && nat_lt at (length w.down)
can_happen w (Garble at line) = nat_lt at (length w.up) && (fails line.items && fits_wire line.items)
can_happen w Run = not (is_empty w.printer.queue)
can_happen w Restart = w.linked
can_happen w (Chatter reply) = w.linked && is_chatter reply.items
can_happen w Recv = w.linked && not (is_empty w.down)
can_happen w Closed = w.linked

-- the printer took the front of the wire to it
abbrev pub after_arrival : WorldData → List (List ℕ) → Taken × PrinterData → WorldData
after_arrival w rest taken = record w { printer = taken.1; up = rest; down = w.down ++ taken_replies taken.0 }

-- the front of the wire to the printer arrives
abbrev pub arrive_front : WorldData → List (List ℕ) → WorldData
arrive_front w [] = w
arrive_front w (line ∷ rest) = after_arrival w rest (take_line w.printer line)

-- a reply line on the wire from the printer, if a link is made
abbrev pub down_with_reply : WorldData → List ℕ → List (List ℕ)
down_with_reply w reply = if w.linked then w.down ++ reply ∷ [] else w.down

-- the printer ran a line
abbrev pub after_run : WorldData → Option RanLine × PrinterData → WorldData
after_run w (None, p) = w
after_run w (Some ran, p) = record w { printer = p; log = w.log ++ log_line_of ran ∷ []; down = down_with_reply w ran.reply }

-- the printer restarted; what it ran stays run
abbrev pub after_restart : WorldData → WorldData
after_restart w = record w { printer = printer_after_restart w.printer; down = w.down ++ start_line ∷ [] }

-- a reply is at the front of the wire from the printer
pub record IsFrontReply (reply : List ℕ) (down : List (List ℕ)) : Type 0 where
  pub rest : List (List ℕ)
  pub is : down ≡ reply ∷ rest

-- what an event does if it can happen
abbrev pub happen : WorldData → WorldEvent → WorldData
happen w (Opened last) = record w { linked = true; printer = record w.printer { last = last }; up = []; down = [] }
happen w (Send line) = record w { up = w.up ++ line.items ∷ [] }
happen w Arrive = arrive_front w w.up
happen w (Lose at) = record w { up = remove w.up at }
happen w (LoseReply at) = record w { down = remove w.down at }
happen w (Garble at line) = record w { up = slice_set w.up at line.items }
happen w Run = after_run w (run_front w.printer)
happen w Restart = after_restart w
happen w (Chatter reply) = record w { down = w.down ++ reply.items ∷ [] }
happen w Recv = record w { down = drop 1 w.down }
happen w Closed = record w { linked = false; up = []; down = [] }

-- the world after an event; one that can't happen changes nothing
abbrev pub apply : WorldData → WorldEvent → WorldData
apply w event = if can_happen w event then happen w event else w

-- what an attempt at an event answers and leaves; without memory nothing changes
abbrev pub IsStep : {E : Type 0} → WorldData → WorldEvent → WorldData → Result Bool E → Type 0
IsStep old event new (Ok happened) = (happened ≡ can_happen old event) × (new ≡ apply old event)
IsStep old event new (Err _) = new ≡ old

-- whether an event may take memory
abbrev pub takes_memory : WorldEvent → Bool
takes_memory (Send line) = true
takes_memory Arrive = true
takes_memory Run = true
takes_memory Restart = true
takes_memory (Chatter reply) = true
takes_memory _ = false

-- the world after events, the first of them first
abbrev pub world_from : WorldData → List WorldEvent → WorldData
world_from w events = fold apply w events

-- the world after a recorded history
abbrev pub world_of : ℕ → Oks → List WorldEvent → WorldData
world_of slots oks past = world_from (new_world slots oks) past

-- without a link nothing is on the wires
pub record IsShut (w : WorldData) : Type 0 where
  pub up : w.up ≡ []
  pub down : w.down ≡ []

-- a link is made, or nothing is on the wires
abbrev pub IsTidy : WorldData → Type 0
IsTidy w = w.linked ≡ false → IsShut w

-- what the printer ran, and then what waits in it; what a restart dropped is in neither
abbrev pub accepted_lines : WorldData → List Logged
accepted_lines w = w.log ++ map waiting_as w.printer.queue

-- new is old with more lines
pub record Grew (old new : List Logged) : Type 0 where
  pub added : List Logged
  pub is : new ≡ old ++ added
