-- Why calls of a transaction fail, one after the other.
use Rattle.std.proofs.Common.{◌≡◌, ◌⊎◌, ℕ, cond, ap, List, [], ◌++◌, Option, Some, None, ok_or, MatchOption, Result, Err, ℤ, IsTrue, inl, inr, sym, ◌∙◌}
use Rattle.std.specs.Borrow.{MutBor}
use Rattle.sqlite_value.specs.Order.{Row}
use Rattle.sqlite_trees.specs.declared.store.Store.{Ghosts}
use Rattle.sqlite.specs.declared.error.Error.{Error}
use Rattle.sqlite.specs.Held.{Held, state}
use Rattle.sqlite.specs.State.{State, FailsToQuery, FailsToShow, IsNotRun, IsRolledBack, IsTooLate, IsUnchanged, KeepsCommit, Shown, ShowsRows}
use Rattle.sqlite.proofs.InsideLemmas.{unchanged_keeps}
use Rattle.octo_keeper_sql.specs.Kept.{Unstored}
use Rattle.octo_keeper_sql.specs.Loads.{Found}
use Rattle.octo_keeper_sql.specs.Statements.{Statement, Runs, FailsInTurn, InTransaction}
use Rattle.octo_keeper_sql.proofs.Kept.{unstored_clean}
use Rattle.octo_keeper_sql.proofs.Statements.{ran_inside, fails_first, fails_later}

-- a query leaves its transaction open
shows_inside : (old new : State) (sql : List ℕ) (c : _) (params : Row) (rows : List Row) (returning : _) → ShowsRows old new sql c params rows returning
    → new.in_transaction ≡ old.in_transaction
shows_inside old new sql c params rows None shown = shown.3.0.mode
shows_inside old new sql c params rows (Some what) shown = shown.1.shown.mode

shown_inside : (old new : State) (sql : List ℕ) (params : Row) (rows : List Row) → Shown sql params old new rows → new.in_transaction ≡ old.in_transaction
unfolding Shown
shown_inside old new sql params rows shown = shows_inside old new sql shown.0 _ rows shown.0.returning shown.2

-- and it keeps the last commit
shows_keeps : (old new : State) (sql : List ℕ) (c : _) (params : Row) (rows : List Row) (returning : _) → ShowsRows old new sql c params rows returning
    → IsTrue old.in_transaction → KeepsCommit old new
shows_keeps old new sql c params rows None shown inside = unchanged_keeps old new (inl shown.3)
shows_keeps old new sql c params rows (Some what) shown inside =
    let w = shown.1.shown in
    record { was_open = λ _. w.was_open; committed = λ _. w.committed_is ∙ ap (λ b. cond b old.committed new.now) inside }

pub shown_keeps : (old new : State) (sql : List ℕ) (params : Row) (rows : List Row) → Shown sql params old new rows → IsTrue old.in_transaction → KeepsCommit old new
unfolding Shown
shown_keeps old new sql params rows shown inside = shows_keeps old new sql shown.0 _ rows shown.0.returning shown.2 inside

-- a query that fails changed nothing, or ended the transaction
not_shown : (old new : State) (sql : List ℕ) (c : _) (params : Row) (error : Error) (returning : _) → FailsToShow old new sql c params error returning
    → IsUnchanged old new ⊎ IsRolledBack old new
not_shown old new sql c params error None fails = inl fails.3
not_shown old new sql c params error (Some what) (inl refused) = inl refused.1
not_shown old new sql c params error (Some what) (inr fails) = inr fails.3

pub fails_keeps : (old new : State) (sql : List ℕ) (params : Row) (error : Error) → FailsToQuery sql params old new error → KeepsCommit old new
unfolding FailsToQuery IsNotRun
fails_keeps old new sql params error (inl (inl refused)) = unchanged_keeps old new (inl refused.1)
fails_keeps old new sql params error (inl (inr fails)) = unchanged_keeps old new (inr fails.3)
fails_keeps old new sql params error (inr ran) = unchanged_keeps old new (not_shown old new sql ran.0 _ error ran.0.returning ran.2)

-- a query of an open transaction doesn't come too late
pub in_time : (sql : List ℕ) (params : Row) (old new : State) (error : Error) → FailsToQuery sql params old new error ⊎ IsTooLate sql params old new error → IsTrue old.in_transaction
    → FailsToQuery sql params old new error
in_time sql params old new error (inl fails) inside = fails
in_time sql params old new error (inr late) inside = absurd (let off = late.3 in cc)

module _ {S : Type 0} (g : Ghosts S) where
  pub found_inside : (query : List ℕ) (rows : List Row) (a b : Held S) → Found g query rows a b → IsTrue a.in_transaction → IsTrue b.in_transaction
  found_inside query rows a b found inside = shown_inside (state g a) (state g b) query [] rows found ∙ inside

  -- the first of two calls fails, and the second
  pub fails_at : (one two : List Statement) (a b : Held S) → InTransaction g (FailsInTurn g one) a b → InTransaction g (FailsInTurn g (one ++ two)) a b
  fails_at one two a b fails clean inside = fails_first g one two a b (fails clean inside)

  pub fails_then : (one two : List Statement) (a b c : MutBor (Held S)) → Unstored g b c → Runs g one a.now b.now → InTransaction g (FailsInTurn g two) b.now c.now
      → InTransaction g (FailsInTurn g (one ++ two)) a.now c.now
  fails_then one two a b c unstored first fails clean inside =
      let ran = first (unstored_clean g b c unstored clean) in
      fails_later g one two a.now b.now c.now ran (fails clean (ran_inside g one a.now b.now ran inside))

-- why no number was found
pub none_found : {E : Type 0} (N : Type 0) (o : Option ℤ) (e fault : E) (r : Result ℤ E) (P : ℤ → Type 0) → r ≡ ok_or o e → r ≡ Err fault → MatchOption o N P → N
none_found N None e fault r P is failed known = known
none_found N (Some n) e fault r P is failed known = absurd (let different = sym is ∙ failed in cc)
