use Rattle.std.proofs.Common.{◌≡◌, ℕ, ◌+◌, ◌<◌, ◌≤◌, false, Some, get_or}
use Rattle.print_queue.specs.declared.entry.QueueEntry.{QueueEntry}
use Rattle.print_queue.specs.Rows.{is_of}
use Rattle.octo_keeper.proofs.checks.are_runs_short.Given as goal

-- none of the entries so far stands 64 places behind one of its user
abbrev pub invariant-loop-place : goal.invariant-loop-place
invariant-loop-place l = (64 ≤ l.place) × ((k : ℕ) (d : QueueEntry) → k + 64 < l.place → is_of (Some (get_or l.rows k d).user) (get_or l.rows (k + 64) d) ≡ false)
