use Rattle.std.proofs.Common.{◌≡◌, ℕ, ◌+◌, ◌<◌, false, get_or}
use Rattle.octo_access.specs.Rows.{is_before}
use Rattle.octo_access.specs.declared.row.UserRow.{UserRow}
use Rattle.octo_access.proofs.order.are_by_name.Given as goal

abbrev pub invariant-loop-place : goal.invariant-loop-place
invariant-loop-place l = (k : ℕ) (d : UserRow) → k + 1 < l.place → is_before (get_or l.rows (k + 1) d).name (get_or l.rows k d).name ≡ false
