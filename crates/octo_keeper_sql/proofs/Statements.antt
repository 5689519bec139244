-- Statements that ran one after the other.
use Rattle.std.proofs.Common.{◌≡◌, ℕ, ◌+◌, ◌<◌, suc, ℤ, List, [], ◌∷◌, ◌++◌, map, take, drop, length, get_or, Option, Some, None, ok_or, MatchOption, IsTrue, inl, inr, Result, Ok, Err, OnOk, IfOk, IfErr, ap, sym, subst, ◌∙◌, arith}
use Rattle.std.proofs.Math.Seq.{take-suc}
use Rattle.std.proofs.lemmas.List.{map-append, take-append-drop}
use Rattle.print_queue.specs.declared.entry.QueueEntry.{QueueEntry}
use Rattle.std.specs.Borrow.{MutBor}
use Rattle.sqlite_value.specs.Order.{Row}
use Rattle.sqlite_trees.specs.declared.store.Store.{Ghosts}
use Rattle.sqlite.specs.declared.error.Error.{Error}
use Rattle.sqlite.specs.Held.{Held, state}
use Rattle.sqlite.specs.State.{HasCleanDisk}
use Rattle.octo_keeper_sql.specs.Kept.{Kept, Unstored}
use Rattle.octo_keeper_sql.specs.Statements.{Statement, with_values, entry_put, RanInTurn, Runs, FailsInTurn, Refuses}
use Rattle.octo_keeper_sql.proofs.Kept.{kept_clean, unstored_clean}

module _ {S : Type 0} (g : Ghosts S) where
  ran_then : (one two : List Statement) (a b c : Held S) → RanInTurn g one a b → RanInTurn g two b c → RanInTurn g (one ++ two) a c
  ran_then [] two a b c same ran = subst (λ h. RanInTurn g two h c) same ran
  ran_then (it ∷ others) two a b c first ran = (first.0, first.1, ran_then others two first.0 b c first.2 ran)

  pub runs_both : (one two : List Statement) (a b c : Held S) → (HasCleanDisk (state g c) → HasCleanDisk (state g b)) → Runs g one a b → Runs g two b c → Runs g (one ++ two) a c
  runs_both one two a b c clean first second last = ran_then one two a b c (first (clean last)) (second last)

  -- after those of one call those of the next, which returns r
  runs_on : {T E : Type 0} (r : Result T E) (one two : List Statement) (a b c : Held S) → (HasCleanDisk (state g c) → HasCleanDisk (state g b)) → Runs g one a b → OnOk r (Runs g two b c) → OnOk r (Runs g (one ++ two) a c)
  runs_on (Ok x) one two a b c clean first second = runs_both one two a b c clean first second
  runs_on (Err e) one two a b c clean first second = second

  pub runs_then : {T E : Type 0} (r : Result T E) (one two : List Statement) (a b c : MutBor (Held S)) → Kept g b c → Runs g one a.now b.now → OnOk r (Runs g two b.now c.now) → OnOk r (Runs g (one ++ two) a.now c.now)
  runs_then r one two a b c kept = runs_on r one two a.now b.now c.now (kept_clean g b c kept)

  pub runs_unstored : {T E : Type 0} (r : Result T E) (one two : List Statement) (a b c : MutBor (Held S)) → Unstored g b c → Runs g one a.now b.now → OnOk r (Runs g two b.now c.now) → OnOk r (Runs g (one ++ two) a.now c.now)
  runs_unstored r one two a b c unstored = runs_on r one two a.now b.now c.now (unstored_clean g b c unstored)

  -- a transaction goes on after statements that ran
  pub ran_inside : (list : List Statement) (a b : Held S) → RanInTurn g list a b → IsTrue a.in_transaction → IsTrue b.in_transaction
  ran_inside [] a b same inside = subst (λ h. IsTrue h.in_transaction) (sym same) inside
  ran_inside (it ∷ others) a b ran inside = ran_inside others ran.0 b ran.2 ran.1.1.1.mode

  pub fails_first : (one two : List Statement) (a b : Held S) → FailsInTurn g one a b → FailsInTurn g (one ++ two) a b
  fails_first [] two a b fails = absurd fails
  fails_first (it ∷ others) two a b (inl refused) = inl refused
  fails_first (it ∷ others) two a b (inr later) = inr (later.0, later.1, fails_first others two later.0 b later.2)

  pub fails_later : (one two : List Statement) (a b c : Held S) → RanInTurn g one a b → FailsInTurn g two b c → FailsInTurn g (one ++ two) a c
  fails_later [] two a b c same fails = subst (λ h. FailsInTurn g two h c) same fails
  fails_later (it ∷ others) two a b c ran fails = inr (ran.0, ran.1, fails_later others two ran.0 b c ran.2 fails)

  -- an error of the first of two calls, and of the second
  pub refused_first : (one two : List Statement) (a b : Held S) (error : Error) → Refuses g one a b error → Refuses g (one ++ two) a b error
  refused_first one two a b error refused other clean inside = fails_first one two a b (refused other clean inside)

  pub refused_then : {T : Type 0} (r : Result T Error) (one two : List Statement) (a b c : MutBor (Held S)) → Kept g b c → Runs g one a.now b.now → IfErr r (Refuses g two b.now c.now) → IfErr r (Refuses g (one ++ two) a.now c.now)
  refused_then (Ok x) one two a b c kept first refused = refused
  refused_then (Err e) one two a b c kept first refused = λ other clean inside.
      let ran = first (kept_clean g b c kept clean) in
      fails_later one two a.now b.now c.now ran (refused other clean (ran_inside one a.now b.now ran inside))

  pub refused_with : {T : Type 0} (r : Result T Error) (text : List ℕ) (a b : Held S) (values row : Row) → values ≡ row → IfErr r (Refuses g (with_values text values ∷ []) a b) → IfErr r (Refuses g (with_values text row ∷ []) a b)
  refused_with r text a b values row same refused = subst (λ (row : Row). IfErr r (Refuses g (with_values text row ∷ []) a b)) same refused

  -- a statement with equal values
  pub runs_with : {T E : Type 0} (r : Result T E) (text : List ℕ) (a b : Held S) (values row : Row) → values ≡ row → OnOk r (Runs g (with_values text values ∷ []) a b) → OnOk r (Runs g (with_values text row ∷ []) a b)
  runs_with r text a b values row same ran = subst (λ (row : Row). OnOk r (Runs g (with_values text row ∷ []) a b)) same ran

-- a fact of a call that did well, from another one
pub on_ok : {T E : Type 0} (r : Result T E) (P Q : Type 0) → (P → Q) → OnOk r P → OnOk r Q
on_ok (Ok x) P Q then known = then known
on_ok (Err e) P Q then known = known

-- the statements of one entry more
pub put_more : (entries : List QueueEntry) (i : ℕ) (entry : QueueEntry) → i < length entries → entry ≡ get_or entries i entry
    → map entry_put (take (i + 1) entries) ≡ map entry_put (take i entries) ++ entry_put entry ∷ []
put_more entries i entry within is =
    let next : i + 1 ≡ suc i = omega arith in
    rw next (
    ap (map entry_put) (take-suc entries i entry within) ∙ map-append entry_put (take i entries) (get_or entries i entry ∷ [])
    ∙ ap (λ e. map entry_put (take i entries) ++ entry_put e ∷ []) (sym is))

-- all entries: those before one, that one, and those after it
pub put_split : (entries : List QueueEntry) (i : ℕ) (entry : QueueEntry) → i < length entries → entry ≡ get_or entries i entry
    → map entry_put entries ≡ (map entry_put (take i entries) ++ entry_put entry ∷ []) ++ map entry_put (drop (i + 1) entries)
put_split entries i entry within is =
    ap (map entry_put) (sym (take-append-drop (i + 1) entries)) ∙ map-append entry_put (take (i + 1) entries) (drop (i + 1) entries)
    ∙ ap (λ before. before ++ map entry_put (drop (i + 1) entries)) (put_more entries i entry within is)

-- what a number says, if there is one
pub if_found : {E : Type 0} (N : Type 0) (o : Option ℤ) (e : E) (r : Result ℤ E) (P Q : ℤ → Type 0) → r ≡ ok_or o e → MatchOption o N P → ((n : ℤ) → P n → Q n) → IfOk r Q
if_found N None e r P Q is none then = subst (λ r. IfOk r Q) (sym is) tt
if_found N (Some n) e r P Q is known then = subst (λ r. IfOk r Q) (sym is) (then n known)

-- the only row of a list
pub one_row : (rows : List Row) (row : Row) → length rows ≡ 1 → row ≡ get_or rows 0 row → row ∷ [] ≡ rows
one_row [] row one is = absurd (omega (arith, one))
one_row (first ∷ []) row one is = ap (λ r. r ∷ []) is
one_row (first ∷ next ∷ rows) row one is = absurd (omega (arith, one))
