use Rattle.std.proofs.Common.{◌≡◌, ◌&&◌, ◌==◌, drop, bytes_eq}
use Rattle.octo_access.proofs.row.are_equal.Given as goal

-- equal if no bit differed so far, and what is left is equal
abbrev pub invariant-loop-place : goal.invariant-loop-place
invariant-loop-place l = bytes_eq l.one l.other ≡ ((l.difference == 0) && bytes_eq (drop l.place l.one) (drop l.place l.other))
