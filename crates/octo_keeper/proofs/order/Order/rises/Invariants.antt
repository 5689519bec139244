use Rattle.std.proofs.Common.{◌≡◌, true}
use Rattle.std.specs.List.{AllAdjacentBelow}
use Rattle.std.specs.Ordering.{is_lt}
use Rattle.octo_keeper.specs.Order.{compared}
use Rattle.octo_keeper.proofs.order.Order.rises.Given as goal

-- each entry so far comes before the next one
abbrev pub invariant-loop-place : goal.invariant-loop-place
invariant-loop-place l = AllAdjacentBelow (λ a b. is_lt (compared l.self a b) ≡ true) l.rows l.place
