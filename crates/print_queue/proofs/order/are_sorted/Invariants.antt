use Rattle.std.proofs.Common.{◌≡◌, ◌<◌, ◌+◌, ℕ, false, get_or}
use Rattle.print_queue.specs.declared.entry.QueueEntry.{QueueEntry}
use Rattle.print_queue.specs.Rows.{is_before}
use Rattle.print_queue.proofs.order.are_sorted.Given as goal

-- no entry so far is before the one in front of it
abbrev pub invariant-loop-place : goal.invariant-loop-place
invariant-loop-place l = (k : ℕ) (d : QueueEntry) → k + 1 < l.place → is_before (get_or l.entries (k + 1) d) (get_or l.entries k d) ≡ false
