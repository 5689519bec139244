-- Two orders of entries.
use Rattle.std.specs.Prelude.{◌≡◌, ℕ, ◌+◌, ◌<◌, false, List, length, Some, slice_index_or}
use Rattle.std.specs.Cmp.Lexicographic.{slice_cmp}
use Rattle.std.specs.Ordering.{nat_cmp, ordering_then}
use Rattle.std.specs.declared.cmp.Ordering.{Ordering}
use Rattle.print_queue.specs.declared.entry.QueueEntry.{QueueEntry}
use Rattle.print_queue.specs.Rows.{is_of}
use Rattle.octo_keeper.specs.declared.order.Order.{Order}
use Rattle.octo_keeper.specs.declared.order.Order.TheVariants as order

-- how two entries compare by their arrival, and by their user and then their name
abbrev pub compared : Order → QueueEntry → QueueEntry → Ordering
compared order.Arrival a b = nat_cmp a.arrival b.arrival
compared order.Key a b = ordering_then (slice_cmp nat_cmp a.user b.user) (slice_cmp nat_cmp a.name b.name)

-- no entry stands 64 places behind one of the same user
abbrev pub AreRunsShort : List QueueEntry → Type 0
AreRunsShort rows = (k : ℕ) (d : QueueEntry) → k + 64 < length rows → is_of (Some (slice_index_or rows k d).user) (slice_index_or rows (k + 64) d) ≡ false
