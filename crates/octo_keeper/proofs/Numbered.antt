-- Records that are numbered from 1 without a gap have no number above their count.
use Rattle.std.proofs.Common.{◌≡◌, ◌+◌, ◌≤◌, List, length, All, arith}
use Rattle.std.specs.Prelude.{slice_index_or}
use Rattle.octo_keeper.specs.Tables.{AreNumbered}
use Rattle.print_queue.specs.declared.row.PrintRow.{PrintRow}

pub within_count : (rows : List PrintRow) → AreNumbered rows → All (λ (row : PrintRow). row.number ≤ length rows) rows
within_count rows numbered = λ k d lt. (let is : (slice_index_or rows k d).number ≡ k + 1 = numbered k d lt in omega arith)
