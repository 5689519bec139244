-- A counter in memory.
use Rattle.std.specs.Prelude.{ℕ, Bool, false, List, [], ◌∷◌, Option, Some, None}
use Rattle.octo_asks.specs.declared.request.Ask.{Ask}
use Rattle.octo_asks.specs.declared.counter.Given.{Given}
use Rattle.octo_asks.specs.declared.counter.Next.{Next}
use Rattle.octo_asks.specs.declared.counter.Next.TheVariants as next
use Rattle.octo_asks.specs.History.{History}

-- the asks that are left, with their workers, the one that is given out, the history, and whether the host has ended
pub record CounterData : Type 0 where
  pub asks : List (ℕ × Ask)
  pub given : Option Given
  pub past : Option History
  pub closed : Bool

-- a counter at which nothing was done yet
abbrev pub new_counter : List (ℕ × Ask) → CounterData
new_counter asks = record { asks = asks; given = None; past = Some []; closed = false }

-- the next of these asks, and those that are left after it
abbrev pub next_of : List (ℕ × Ask) → Next × List (ℕ × Ask)
next_of [] = (next.Nothing, [])
next_of (one ∷ asks) = (next.Asked one.0 one.1, asks)
