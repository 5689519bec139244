-- An entry of the schema before, in the schema that is kept.
use Rattle.std.specs.Prelude.{codes}
use Rattle.print_queue.specs.declared.entry.QueueEntry.{QueueEntry}
use Rattle.octo_keeper_sql.specs.declared.old_queue.OldEntry.{OldEntry}

-- one copy of any material
abbrev pub upgraded : OldEntry → QueueEntry
upgraded old = record {
  user = old.user;
  name = old.name;
  file = old.file;
  priority = old.priority;
  copies = 1;
  left = 1;
  material = codes "any";
  arrival = old.arrival;
}
