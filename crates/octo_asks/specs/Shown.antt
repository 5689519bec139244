-- What answers show.
use Rattle.std.specs.Prelude.{ℤ, pos, int_div}
use Rattle.marlin_reply.specs.declared.reply.Heat.{Heat}
use Rattle.octo_access.specs.declared.row.UserRow.{UserRow}
use Rattle.print_queue.specs.declared.entry.QueueEntry.{QueueEntry}
use Rattle.print_queue.specs.declared.row.PrintRow.{PrintRow}
use Rattle.octo_asks.specs.declared.shown.ShownHeat.{ShownHeat}
use Rattle.octo_asks.specs.declared.shown.ShownUser.{ShownUser}
use Rattle.octo_asks.specs.declared.shown.ShownEntry.{ShownEntry}
use Rattle.octo_asks.specs.declared.shown.ShownPrint.{ShownPrint}

-- millionths of a degree in whole degrees, rounded toward zero
abbrev pub whole_degrees : ℤ → ℤ
whole_degrees micro = int_div micro (pos 1000000)

-- a heater's temperatures in whole degrees
abbrev pub shown_heat : Heat → ShownHeat
shown_heat heat = record { actual = whole_degrees heat.actual; target = whole_degrees heat.target }

-- a user without the key
abbrev pub shown_user : UserRow → ShownUser
shown_user row = record { name = row.name; groups = row.groups; active = row.active }

-- an entry of the queue without its arrival
abbrev pub shown_entry : QueueEntry → ShownEntry
shown_entry row = record {
  user = row.user;
  name = row.name;
  file = row.file;
  priority = row.priority;
  copies = row.copies;
  left = row.left;
  material = row.material;
}

-- the record of a print
abbrev pub shown_print : PrintRow → ShownPrint
shown_print row = record { number = row.number; user = row.user; file = row.file; commands = row.commands; outcome = row.outcome }
