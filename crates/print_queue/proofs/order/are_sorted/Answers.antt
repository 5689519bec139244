-- An entry that is before the one in front of it isn't in order.
use Rattle.print_queue.proofs.Sorted.{not_ordered}
use Rattle.std.proofs.Common.{arith, sym}
use Rattle.print_queue.proofs.order.are_sorted.Goals as goal

pub returns-then-is_before : goal.returns-then-is_before
returns-then-is_before c =
    not_ordered c.args.entries.now c.loop-place.place c.index-entries-place.result c.index-entries-place-in-loop-place.result (omega arith) (omega arith) c.index-entries-place.is c.index-entries-place-in-loop-place.is (sym c.if-is_before.ensures)
