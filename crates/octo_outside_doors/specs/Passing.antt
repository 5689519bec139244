-- The errors of a listener that pass.
use Rattle.std.specs.Prelude.{Bool, false, ℤ, Option, Some, None}
use Rattle.std.specs.List.{list_any}
use Rattle.std.specs.Ordering.{int_eq}
use Rattle.octo_outside_doors.specs.declared.passing.TheConstants.{PASSING}

-- the number is listed as one that passes
abbrev pub is_passing : ℤ → Bool
is_passing number = list_any (λ listed. int_eq listed number) PASSING

-- an error passes if the system gave it a number that does
abbrev pub may_pass : Option ℤ → Bool
may_pass None = false
may_pass (Some number) = is_passing number
