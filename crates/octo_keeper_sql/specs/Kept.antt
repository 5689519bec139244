-- What a call leaves of the database.
use Rattle.std.specs.Prelude.{◌≡◌, true, false, IsTrue}
use Rattle.std.specs.Borrow.{MutBor}
use Rattle.sqlite_trees.specs.Tree.{Trees}
use Rattle.sqlite_trees.specs.declared.store.Store.{Ghosts}
use Rattle.sqlite.specs.Held.{Held, state}
use Rattle.sqlite.specs.State.{State, HasCleanDisk, KeepsCommit, Survives}

-- after a stop the next open finds what it would have found before
abbrev pub StoresNothing : State → State → Type 0
StoresNothing old new = Survives old new (λ _. ⊥)

-- inside a transaction: nothing is stored yet, and the last commit is the same on a disk that returned what was written
pub record KeepsLast (old new : State) : Type 0 where
  pub stores : StoresNothing old new
  pub kept : HasCleanDisk new → KeepsCommit old new

-- a call inside a transaction: its connection is the same one, whose state moved in this way
pub record Inside {S : Type 0} (g : Ghosts S) (Moved : State → State → Type 0) (old new : MutBor (Held S)) : Type 0 where
  pub same_reference : new.ghost_name ≡ old.ghost_name
  pub moved : Moved (state g old.now) (state g new.now)

-- a call inside a transaction that keeps the last commit
abbrev pub Kept : {S : Type 0} → Ghosts S → MutBor (Held S) → MutBor (Held S) → Type 0
Kept g = Inside g KeepsLast

-- a call inside a transaction that stores nothing
abbrev pub Unstored : {S : Type 0} → Ghosts S → MutBor (Held S) → MutBor (Held S) → Type 0
Unstored g = Inside g StoresNothing

-- the last commit is the same, if the disk returned what was written
abbrev pub KeepsLastCommit : {S : Type 0} → Ghosts S → Held S → Held S → Type 0
KeepsLastCommit g old new = HasCleanDisk (state g new) → KeepsCommit (state g old) (state g new)

-- the content after this work of a transaction
abbrev pub IsAfter : {S : Type 0} → Ghosts S → (Work : Held S → Held S → Type 0) → Held S → Trees → Type 0
IsAfter {S} g Work old content = (last : Held S) × Work (record old { in_transaction = true }) last × (content ≡ (state g last).now.trees)

-- after a stop the next open finds what it would have found before, or the content after this work
abbrev pub IsAtomic : {S : Type 0} → Ghosts S → (Work : Held S → Held S → Type 0) → Held S → Held S → Type 0
IsAtomic g Work old new = Survives (state g old) (state g new) (IsAfter g Work old)

-- nothing of a failed call is kept: no transaction is left open, and the last commit is the same, if the database is still
-- open and its disk returned what was written; outside a transaction the rows are those of the last commit
pub record IsUndone (old new : State) : Type 0 where
  pub ended : old.in_transaction ≡ false → new.in_transaction ≡ false
  pub committed : HasCleanDisk new → IsTrue new.is_open → new.committed ≡ old.committed
