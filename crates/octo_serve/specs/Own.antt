-- Whose asks a house's end gives out.
use Rattle.std.specs.Prelude.{ℕ, ◌==◌, Bool, true, not, Option, Some, None}
use Rattle.octo_asks.specs.History.{own_number}
use Rattle.octo_asks.specs.declared.counter.Given.{Given}

-- an ask that is given out, if there is one, is a worker's: its number isn't that of the house's own calls
abbrev pub is_of_worker : Option Given → Bool
is_of_worker None = true
is_of_worker (Some one) = not (one.worker == own_number)
