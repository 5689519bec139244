-- A list of events as what the seat at a table knows.
use Rattle.std.specs.Prelude.{◌≡◌, ℕ, List, [], ◌∷◌, ◌++◌}
use mathlib.Core.Option as maybe
use Rattle.atomic_table.specs.Table.{State, Me, Step}
use Rattle.atomic_table.specs.Seated.{TableId}
use Rattle.octo_floor_bay.specs.declared.table.Told.{Told}

module _ {T : Type 0} where
  -- the table may be as it likes
  abbrev pub no_rule : State T (Told T) → Type 0
  no_rule s = Unit {0}

  -- no event yet
  abbrev pub no_events : Told T
  no_events = record { events = [] }

  -- what a step says, as a list
  abbrev pub said_events : maybe.Option T → List T
  said_events maybe.none = []
  said_events (maybe.some event) = event ∷ []

  -- the event that a step says is added to what the seat knows
  abbrev pub event_added : Step T → Me T (Told T) → ℕ → Me T (Told T) → Type 0
  event_added st old found new = new ≡ (record { events = old.0.events ++ said_events st.said }, old.1)

-- a seat is one at this table, which has one word
abbrev pub IsSeated : TableId → TableId → Type 0
IsSeated seat table = (seat ≡ table) × (table.words ≡ 1)
