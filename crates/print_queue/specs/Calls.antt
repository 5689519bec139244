-- What the calls of a queue answer, and the rows after them.
use Rattle.std.specs.Prelude.{◌≡◌, ℕ, ◌+◌, ◌-◌, ◌<◌, Bool, true, false, ◌==◌, ◌&&◌, nat_le, if◌then◌else◌, Option, Some, None, Result, Ok, Err, List, count_by, slice_set}
use Rattle.std.specs.List.{position_or_len}
use Rattle.std.specs.Str.{bytes_eq}
use Rattle.byte_text.specs.Number.{most_u32}
use Rattle.print_queue.specs.declared.entry.QueueEntry.{QueueEntry}
use Rattle.print_queue.specs.declared.refusal.Put.{Put}
use Rattle.print_queue.specs.declared.refusal.QueueRefusal.{QueueRefusal}
use Rattle.print_queue.specs.declared.refusal.QueueRefusal.TheVariants as refusal
use Rattle.print_queue.specs.Rows.{is_key, is_of, users_entry, insert_row, last_arrival}
use Rattle.print_queue.specs.Lawful.{HasPlace, IsWholeRow}

-- a queue: its rows, and how many more fit into the memory that it has
pub record QueueData : Type 0 where
  pub rows : List QueueEntry
  pub spare : ℕ

-- what a put asks for, before it has an arrival
abbrev pub new_entry : List ℕ → List ℕ → List ℕ → ℕ → ℕ → List ℕ → QueueEntry
new_entry user name file priority copies material = record {
  user = user;
  name = name;
  file = file;
  priority = priority;
  copies = copies;
  left = copies;
  material = material;
  arrival = 0;
}

-- a put asks for what is held already
abbrev pub is_same : QueueEntry → QueueEntry → Bool
is_same kept asked = bytes_eq kept.file asked.file && kept.priority == asked.priority && kept.copies == asked.copies && bytes_eq kept.material asked.material

-- the answer to a put of a name that is held
abbrev pub again_answer : QueueEntry → QueueEntry → Result Put QueueRefusal
again_answer kept asked = if is_same kept asked then Ok (record { entry = kept; fresh = false }) else Err (refusal.NameTaken kept)

-- the answer to a put of a free name
abbrev pub new_answer : List QueueEntry → QueueEntry → Result Put QueueRefusal
new_answer rows asked =
    if nat_le 64 (count_by (is_of (Some asked.user)) rows) then Err (refusal.Full 64)
    else if last_arrival rows == most_u32 then Err refusal.ArrivalsUsed
    else Ok (record { entry = record asked { arrival = last_arrival rows + 1 }; fresh = true })

-- the answer to a put, memory aside
abbrev pub put_answer : List QueueEntry → QueueEntry → Result Put QueueRefusal
put_answer rows asked = by (users_entry asked.user asked.name rows)
  where
    by : Option QueueEntry → Result Put QueueRefusal
    by (Some kept) = again_answer kept asked
    by None = new_answer rows asked

-- the rows after a put with this answer
abbrev pub rows_after_put : List QueueEntry → Result Put QueueRefusal → List QueueEntry
rows_after_put rows (Err refused) = rows
rows_after_put rows (Ok put) = if put.fresh then insert_row put.entry rows else rows

-- the queue after an entry was put back: in the place of what is left of it, or in its place in the order
abbrev pub restored : QueueEntry → QueueData → QueueData
restored row queue = by (users_entry row.user row.name queue.rows)
  where
    by : Option QueueEntry → QueueData
    by (Some left) = record queue { rows = slice_set queue.rows (position_or_len (is_key row.user row.name) queue.rows) row }
    by None = record { rows = insert_row row queue.rows; spare = queue.spare - 1 }

-- an entry can be put back without memory: it's held with one copy less, or the queue has room
abbrev pub CanRestore : QueueEntry → QueueData → Type 0
CanRestore row queue = by (users_entry row.user row.name queue.rows)
  where
    by : Option QueueEntry → Type 0
    by (Some kept) = (record kept { left = kept.left + 1 } ≡ row) × IsWholeRow row
    by None = HasPlace row queue.rows × (0 < queue.spare)
