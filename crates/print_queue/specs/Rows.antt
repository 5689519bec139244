-- The rows of a queue: which entry one is, their order, and the edits of the list.
use Rattle.std.specs.Prelude.{ℕ, Bool, true, ◌==◌, ◌-◌, ◌&&◌, ◌||◌, not, nat_lt, nat_le, if◌then◌else◌, List, Option, Some, None, codes, find, filter, insert, max, fold}
use Rattle.std.specs.List.{filter_map, prefix_len}
use Rattle.std.specs.Str.{bytes_eq}
use Rattle.std.specs.declared.cmp.Ordering.{Ordering}
use Rattle.std.specs.declared.cmp.Ordering.TheVariants.{Less, Equal, Greater}
use Rattle.print_queue.specs.declared.entry.QueueEntry.{QueueEntry}

-- one entry is printed before another: its priority is greater, or the same and it arrived earlier
abbrev pub is_before : QueueEntry → QueueEntry → Bool
is_before a b = nat_lt b.priority a.priority || (a.priority == b.priority && nat_lt a.arrival b.arrival)

-- the entry is this user's entry of this name
abbrev pub is_key : List ℕ → List ℕ → QueueEntry → Bool
is_key user name row = bytes_eq row.user user && bytes_eq row.name name

-- the entry is this user's; every entry is if no user is named
abbrev pub is_of : Option (List ℕ) → QueueEntry → Bool
is_of None row = true
is_of (Some user) row = bytes_eq row.user user

-- a printer that holds this material can print the entry
abbrev pub fits : List ℕ → QueueEntry → Bool
fits material row = bytes_eq row.material (codes "any") || bytes_eq material (codes "any") || bytes_eq row.material material

-- this user's entry of this name, if there is one
abbrev pub users_entry : List ℕ → List ℕ → List QueueEntry → Option QueueEntry
users_entry user name rows = find (is_key user name) rows

-- the rows with one more, after those that are printed before it
abbrev pub insert_row : QueueEntry → List QueueEntry → List QueueEntry
insert_row row rows = insert rows (prefix_len (λ other. is_before other row) rows) row

-- the rows but this user's entry of this name
abbrev pub without : List ℕ → List ℕ → List QueueEntry → List QueueEntry
without user name rows = filter (λ row. not (is_key user name row)) rows

-- what is left of an entry after one copy of it was started
abbrev pub after_copy : QueueEntry → Option QueueEntry
after_copy row = if nat_le row.left 1 then None else Some (record row { left = row.left - 1 })

-- the rows after one copy of this user's entry of this name was started
abbrev pub without_copy : List ℕ → List ℕ → List QueueEntry → List QueueEntry
without_copy user name rows = filter_map (λ row. if is_key user name row then after_copy row else Some row) rows

-- the greatest arrival, 0 of no rows
abbrev pub last_arrival : List QueueEntry → ℕ
last_arrival rows = fold (λ last row. max last row.arrival) 0 rows

-- how two entries compare in the order of printing
abbrev pub compared : QueueEntry → QueueEntry → Ordering
compared a b = if is_before a b then Less else if is_before b a then Greater else Equal
