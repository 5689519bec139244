-- A keeper that was opened, or couldn't be, by what its kind says of itself.
use Rattle.std.specs.Prelude.{ℕ, None, Result, Ok, Err}
use Rattle.octo_keeper.specs.Calls.{KeeperState}
use Rattle.octo_keeper.specs.declared.keeper.KeeperFault.{KeeperFault}

-- the keeper's state; without one nothing is recorded, and the refused calls are its faults
abbrev pub opened_state : {K : Type 0} → (K → KeeperState) → Result K KeeperFault → ℕ → KeeperState
opened_state state (Ok keeper) refused = state keeper
opened_state state (Err fault) refused = record { tables = None; saved = None; faults = refused }
