-- Statements of a transaction one after the other.
use Rattle.std.proofs.Common.{◌≡◌, IsTrue, true, inl, inr, refl, subst, ◌∙◌, arith}
use Rattle.sqlite_trees.specs.Tree.{Trees}
use Rattle.sqlite_trees.specs.declared.store.Store.{Ghosts}
use Rattle.sqlite.specs.Held.{Held, state}
use Rattle.sqlite.specs.declared.error.Error.{Error}
use Rattle.sqlite.specs.State.{State, IsRolledBack, KeepsCommit, Survives}
use Rattle.sqlite.specs.Steps.{FailsToCommit}
use Rattle.sqlite.proofs.InsideLemmas.{keeps_then}
use Rattle.sqlite.proofs.StateLemmas.{survives_then, survives_weaker}
use Rattle.sqlite.proofs.Callers.{survives_begin}
use Rattle.std.specs.Borrow.{MutBor}
use Rattle.sqlite.specs.State.{HasCleanDisk}
use Rattle.octo_keeper_sql.specs.Kept.{KeepsLast, StoresNothing, Kept, KeepsLastCommit, Unstored, IsAfter, IsAtomic}

same_commit : (a : State) → KeepsCommit a a
same_commit a = record { was_open = λ h. h; committed = λ _. refl }

survives_same : (a : State) (P : Trees → Type 0) → Survives a a P
survives_same a P = record { clean = omega arith; shield = λ h. h; counts = omega arith; limit = refl; closes = λ _ h. inl h; crash = λ _ db h. inl h }

nothing_same : (a : State) → StoresNothing a a
nothing_same a = survives_same a (λ _. ⊥)

pub nothing_then : (a b c : State) → StoresNothing a b → StoresNothing b c → StoresNothing a c
nothing_then a b c one two = survives_then a b c _ _ (λ _. ⊥) (λ _ db none. none) (λ _ db none. none) one two

keeps_last_then : (a b c : State) → KeepsLast a b → KeepsLast b c → KeepsLast a c
keeps_last_then a b c one two = record {
  stores = nothing_then a b c one.stores two.stores;
  kept = λ clean. keeps_then a b c (one.kept (omega (arith, two.stores.clean, clean))) (two.kept clean);
}

keeps_last_same : (a : State) → KeepsLast a a
keeps_last_same a = record { stores = nothing_same a; kept = λ _. same_commit a }

-- a transaction that kept the last commit and was undone, and one whose commit failed
pub undone_after : (old last new : State) → KeepsCommit old last → IsRolledBack last new → IsTrue new.is_open → new.committed ≡ old.committed
undone_after old last new kept undone is_open = (undone.undone is_open).1 ∙ kept.committed (undone.was_open is_open)

pub lost_after : (old last new : State) (error : Error) → KeepsCommit old last → FailsToCommit last new error → IsTrue new.is_open → new.committed ≡ old.committed
lost_after old last new error kept (inl fails) is_open = undone_after old last new kept fails.3 is_open
lost_after old last new error kept (inr refused) is_open = refused.2.0.committed_is ∙ kept.committed refused.2.0.was_open

-- calls inside a transaction one after the other
module _ {S : Type 0} (g : Ghosts S) where
  pub kept_same : (a : MutBor (Held S)) → Kept g a a
  kept_same a = record { same_reference = refl; moved = keeps_last_same (state g a.now) }

  pub kept_then : (a b c : MutBor (Held S)) → Kept g a b → Kept g b c → Kept g a c
  kept_then a b c one two = record {
    same_reference = two.same_reference ∙ one.same_reference;
    moved = keeps_last_then (state g a.now) (state g b.now) (state g c.now) one.moved two.moved;
  }

  pub kept_clean : (a b : MutBor (Held S)) → Kept g a b → HasCleanDisk (state g b.now) → HasCleanDisk (state g a.now)
  kept_clean a b kept clean = omega (arith, kept.moved.stores.clean, clean)

  pub kept_unstored : (a b : MutBor (Held S)) → Kept g a b → Unstored g a b
  kept_unstored a b kept = record { same_reference = kept.same_reference; moved = kept.moved.stores }

  pub unstored_clean : (a b : MutBor (Held S)) → Unstored g a b → HasCleanDisk (state g b.now) → HasCleanDisk (state g a.now)
  unstored_clean a b unstored clean = omega (arith, unstored.moved.clean, clean)

  pub unstored_same : (a : MutBor (Held S)) → Unstored g a a
  unstored_same a = record { same_reference = refl; moved = nothing_same (state g a.now) }

  pub unstored_then : (a b c : MutBor (Held S)) → Unstored g a b → Unstored g b c → Unstored g a c
  unstored_then a b c one two = record {
    same_reference = two.same_reference ∙ one.same_reference;
    moved = nothing_then (state g a.now) (state g b.now) (state g c.now) one.moved two.moved;
  }

  -- the last commit after two calls
  pub commit_then : (a b c : MutBor (Held S)) → Unstored g b c → KeepsLastCommit g a.now b.now → KeepsLastCommit g b.now c.now → KeepsLastCommit g a.now c.now
  commit_then a b c later one two clean = keeps_then (state g a.now) (state g b.now) (state g c.now) (one (unstored_clean b c later clean)) (two clean)

  pub commit_same : (a : MutBor (Held S)) → KeepsLastCommit g a.now a.now
  commit_same a clean = same_commit (state g a.now)

-- a transaction that wasn't begun, or was undone, or committed
module _ {S : Type 0} (g : Ghosts S) (Work : Held S → Held S → Type 0) (old : Held S) where
  pub atomic_same : IsAtomic g Work old old
  atomic_same = survives_same (state g old) (IsAfter g Work old)

  module _ (begun last new : Held S) (begins : begun ≡ record old { in_transaction = true }) (inside : StoresNothing (state g begun) (state g last)) where
    pub undone_atomic : StoresNothing (state g last) (state g new) → IsAtomic g Work old new
    undone_atomic out =
        let whole = nothing_then (state g begun) (state g last) (state g new) inside out in
        survives_weaker (state g old) (state g new) (λ _. ⊥) (IsAfter g Work old) (λ _ db none. absurd none)
        (survives_begin g old (state g new) (λ _. ⊥) (rw begins at whole))

    pub committed_atomic : (HasCleanDisk (state g last) → Work begun last) → Survives (state g last) (state g new) (λ db. db ≡ (state g last).now.trees)
        → IsAtomic g Work old new
    committed_atomic work out =
        let P = λ (db : Trees). db ≡ (state g last).now.trees in
        let whole = survives_then (state g begun) (state g last) (state g new) (λ _. ⊥) P P (λ _ db none. absurd none) (λ _ db same. same) inside out in
        survives_weaker (state g old) (state g new) P (IsAfter g Work old)
        (λ clean db same. (last, subst (λ h. Work h last) begins (work (omega (arith, out.clean, clean))), same))
        (survives_begin g old (state g new) P (rw begins at whole))
