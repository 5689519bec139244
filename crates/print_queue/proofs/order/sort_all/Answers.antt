-- The comparison is the order's.
use Rattle.std.proofs.Common.{◌≡◌, ap, ◌∙◌, rules}
use Rattle.std.specs.Ordering.{is_lt}
use Rattle.std.proofs.lemmas.Fn.{always_returns_same}
use Rattle.print_queue.specs.Rows.{compared, is_before}
use Rattle.print_queue.proofs.Sorted.{before_weak, compared_less}
use Rattle.print_queue.proofs.order.sort_all.Goals as goal

pub returns-clause-sorted : goal.returns-clause-sorted
returns-clause-sorted c =
    c.sort_unstable_by.ensures.sorted is_before before_weak (always_returns_same _ _ _ (λ a r f' k. (
      let same : r ≡ compared a.0.now a.1.0.now = search rules in ap is_lt same ∙ compared_less a.0.now a.1.0.now,
      search rules,
    )))
