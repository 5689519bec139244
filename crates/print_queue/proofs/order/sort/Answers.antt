-- What is sorted and was sound is lawful.
use Rattle.std.proofs.lemmas.List.Sorted.{IsPermutation-refl}
use Rattle.print_queue.proofs.Sorted.{lawful_sorted}
use Rattle.print_queue.proofs.order.sort.Goals as goal

pub returns-then-not-are_sorted-clause-lawful : goal.returns-then-not-are_sorted-clause-lawful
returns-then-not-are_sorted-clause-lawful c = lawful_sorted c.args.entries.now c.sort_all.new.entries c.requires c.sort_all.ensures.same c.sort_all.ensures.sorted

pub returns-else-not-are_sorted-clause-lawful : goal.returns-else-not-are_sorted-clause-lawful
returns-else-not-are_sorted-clause-lawful c = lawful_sorted c.args.entries.now c.args.entries.now c.requires (IsPermutation-refl c.args.entries.now) c.if-not-are_sorted.ensures
