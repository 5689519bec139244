-- The asks that wait at a counter in memory.
use Rattle.std.specs.Prelude.{ℕ}
use Rattle.octo_asks.specs.declared.request.Ask.{Ask}
use Rattle.octo_asks.specs.declared.asked.Asked.{Asked}

-- an ask with its worker
abbrev pub ask_of : Asked → ℕ × Ask
ask_of asked = (asked.worker, asked.ask)
