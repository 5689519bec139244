-- A row that is put in the place of the one of its name, and put back.
use Rattle.std.proofs.Common.{◌≡◌, ℕ, suc, ◌+◌, ◌≤◌, Bool, true, false, cond, is_some, List, [], ◌∷◌, set, count_by, IfSome, IsSome, Option, None, Some, refl, sym, ap, ◌∙◌, subst, arith}
use Rattle.std.proofs.lemmas.List.Sums.{sum_by-cons}
use Rattle.std.specs.Cmp.Lexicographic.{bytes_decides}
use Rattle.std.specs.List.{find, position_or_len}
use Rattle.octo_access.specs.Rows.{is_named, has_digest, row_named, replaced, IsUserTable}
use Rattle.octo_access.specs.declared.row.UserRow.{UserRow}
use Rattle.octo_access.proofs.Found.{found-passes}
use Rattle.octo_keeper.specs.Tables.{with_user}

module _ {X : Type 0} (test : X → Bool) where
  count-cons : (x : X) (xs : List X) (b : Bool) → test x ≡ b → count_by test (x ∷ xs) ≡ cond b 1 0 + count_by test xs
  count-cons x xs b is = sum_by-cons (λ y. cond (test y) 1 0) x xs ∙ ap (λ c. cond c 1 0 + count_by test xs) is

  -- a row in the place of the first one that passes
  abbrev over : X → List X → List X
  over row rows = set rows (position_or_len test rows) row

  over-here : (row x : X) (xs : List X) → test x ≡ true → over row (x ∷ xs) ≡ row ∷ xs
  over-here row x xs is = rw is refl

  over-past : (row x : X) (xs : List X) → test x ≡ false → over row (x ∷ xs) ≡ x ∷ over row xs
  over-past row x xs is = let e : 1 + position_or_len test xs ≡ suc (position_or_len test xs) = omega arith in rw (is, e) refl

  find-here : (x : X) (xs : List X) → test x ≡ true → find test (x ∷ xs) ≡ Some x
  find-here x xs is = rw is refl

  find-past : (x : X) (xs : List X) → test x ≡ false → find test (x ∷ xs) ≡ find test xs
  find-past x xs is = rw is refl

  nowhere-more : (x : X) (xs : List X) (b : Bool) → test x ≡ b → count_by test (x ∷ xs) ≡ 0 → (count_by test xs ≡ 0 → find test xs ≡ None)
      → find test (x ∷ xs) ≡ None
  nowhere-more x xs true is none rest = let more : count_by test (x ∷ xs) ≡ 1 + count_by test xs = count-cons x xs true is in absurd (omega arith)
  nowhere-more x xs false is none rest =
      let left : count_by test (x ∷ xs) ≡ 0 + count_by test xs = count-cons x xs false is in
      find-past x xs is ∙ rest (omega arith)

  nowhere : (rows : List X) → count_by test rows ≡ 0 → find test rows ≡ None
  nowhere [] none = refl
  nowhere (x ∷ xs) none = nowhere-more x xs (test x) refl none (nowhere xs)

  module _ (row former : X) (own : test row ≡ true) where
    -- it is put back
    back-more : (x : X) (xs : List X) (b : Bool) → test x ≡ b → cond b (Some x) (find test xs) ≡ Some former
        → (find test xs ≡ Some former → over former (over row xs) ≡ xs)
        → over former (over row (x ∷ xs)) ≡ x ∷ xs
    back-more x xs true is at rest =
        let e : x ≡ former = cc in
        ap (over former) (over-here row x xs is) ∙ over-here former row xs own ∙ ap (λ y. y ∷ xs) (sym e)
    back-more x xs false is at rest =
        ap (over former) (over-past row x xs is) ∙ over-past former x (over row xs) is ∙ ap (λ ys. x ∷ ys) (rest at)

    back : (rows : List X) → find test rows ≡ Some former → over former (over row rows) ≡ rows
    back [] at = absurd (cc)
    back (x ∷ xs) at = back-more x xs (test x) refl at (back xs)

    -- it is found until then
    there-more : (x : X) (xs : List X) (b : Bool) → test x ≡ b → cond b (Some x) (find test xs) ≡ Some former
        → (find test xs ≡ Some former → find test (over row xs) ≡ Some row)
        → find test (over row (x ∷ xs)) ≡ Some row
    there-more x xs true is at rest = ap (find test) (over-here row x xs is) ∙ find-here row xs own
    there-more x xs false is at rest = ap (find test) (over-past row x xs is) ∙ find-past x (over row xs) is ∙ rest at

    there : (rows : List X) → find test rows ≡ Some former → find test (over row rows) ≡ Some row
    there [] at = absurd (cc)
    there (x ∷ xs) at = there-more x xs (test x) refl at (there xs)

-- if no user has a name, a row for it changes nothing
none-more : (row x : UserRow) (xs : List UserRow) (b : Bool) → is_named row.name x ≡ b → count_by (is_named row.name) (x ∷ xs) ≡ 0
    → (count_by (is_named row.name) xs ≡ 0 → with_user row xs ≡ xs) → with_user row (x ∷ xs) ≡ x ∷ xs
none-more row x xs true is none rest =
    let more : count_by (is_named row.name) (x ∷ xs) ≡ 1 + count_by (is_named row.name) xs = count-cons (is_named row.name) x xs true is in
    absurd (omega arith)
none-more row x xs false is none rest =
    let left : count_by (is_named row.name) (x ∷ xs) ≡ 0 + count_by (is_named row.name) xs = count-cons (is_named row.name) x xs false is in
    let same : with_user row xs ≡ xs = rest (omega arith) in
    rw is (ap (λ ys. x ∷ ys) same)

none-set : (row : UserRow) (rows : List UserRow) → count_by (is_named row.name) rows ≡ 0 → with_user row rows ≡ rows
none-set row [] none = refl
none-set row (x ∷ xs) none = none-more row x xs (is_named row.name x) refl none (none-set row xs)

-- each user of a name with a new row is the one user of that name with it
set-here : (row x : UserRow) (xs : List UserRow) → is_named row.name x ≡ true → with_user row (x ∷ xs) ≡ row ∷ with_user row xs
set-here row x xs is = rw is refl

set-past : (row x : UserRow) (xs : List UserRow) → is_named row.name x ≡ false → with_user row (x ∷ xs) ≡ x ∷ with_user row xs
set-past row x xs is = rw is refl

user-more : (row x : UserRow) (xs : List UserRow) (b : Bool) → is_named row.name x ≡ b → count_by (is_named row.name) (x ∷ xs) ≤ 1
    → (count_by (is_named row.name) xs ≤ 1 → with_user row xs ≡ replaced row xs) → with_user row (x ∷ xs) ≡ replaced row (x ∷ xs)
user-more row x xs true is few rest =
    let more : count_by (is_named row.name) (x ∷ xs) ≡ 1 + count_by (is_named row.name) xs = count-cons (is_named row.name) x xs true is in
    set-here row x xs is ∙ ap (λ ys. row ∷ ys) (none-set row xs (omega arith)) ∙ sym (over-here (is_named row.name) row x xs is)
user-more row x xs false is few rest =
    let left : count_by (is_named row.name) (x ∷ xs) ≡ 0 + count_by (is_named row.name) xs = count-cons (is_named row.name) x xs false is in
    set-past row x xs is ∙ ap (λ ys. x ∷ ys) (rest (omega arith)) ∙ sym (over-past (is_named row.name) row x xs is)

user-set : (row : UserRow) (rows : List UserRow) → count_by (is_named row.name) rows ≤ 1 → with_user row rows ≡ replaced row rows
user-set row [] few = refl
user-set row (x ∷ xs) few = user-more row x xs (is_named row.name x) refl few (user-set row xs)

pub with_user-replaced : (row : UserRow) (rows : List UserRow) → IsUserTable rows → with_user row rows ≡ replaced row rows
with_user-replaced row rows table = user-set row rows (table.list.names row.name)

same-name : (name : List ℕ) (former : UserRow) (rows : List UserRow) → row_named name rows ≡ Some former → former.name ≡ name
same-name name former rows at = (bytes_decides former.name name).0 (found-passes (is_named name) former rows at)

named-own : (row : UserRow) → is_named row.name row ≡ true
named-own row = (bytes_decides row.name row.name).1 refl

pub replaced-back : (row former : UserRow) (rows : List UserRow) → row_named row.name rows ≡ Some former → replaced former (replaced row rows) ≡ rows
replaced-back row former rows at =
    ap (λ n. over (is_named n) former (replaced row rows)) (same-name row.name former rows at) ∙ back (is_named row.name) row former (named-own row) rows at

pub held-replaced : (row former : UserRow) (rows : List UserRow) → row_named row.name rows ≡ Some former → IsSome (row_named former.name (replaced row rows))
held-replaced row former rows at =
    ap (λ n. is_some (row_named n (replaced row rows))) (same-name row.name former rows at)
    ∙ ap is_some (there (is_named row.name) row former (named-own row) rows at)

-- whoever has the former key then has its name
count-more : {X : Type 0} (test key : X → Bool) (former x : X) (xs : List X) (b : Bool) → test x ≡ b → cond b (Some x) (find test xs) ≡ Some former
    → key former ≡ true
    → (find test xs ≡ Some former → 1 ≤ count_by key xs) → 1 ≤ count_by key (x ∷ xs)
count-more test key former x xs true is at own rest =
    let e : x ≡ former = cc in
    let here : count_by key (x ∷ xs) ≡ 1 + count_by key xs = count-cons key x xs true (ap key e ∙ own) in
    omega arith
count-more test key former x xs false is at own rest =
    let all : count_by key (x ∷ xs) ≡ cond (key x) 1 0 + count_by key xs = count-cons key x xs (key x) refl in
    let more : 1 ≤ count_by key xs = rest at in
    omega arith

count-found : {X : Type 0} (test key : X → Bool) (former : X) (rows : List X) → find test rows ≡ Some former → key former ≡ true → 1 ≤ count_by key rows
count-found test key former [] at own = absurd (cc)
count-found test key former (x ∷ xs) at own = count-more test key former x xs (test x) refl at own (λ later. count-found test key former xs later own)

-- whoever is found has a name
abbrev Named : List ℕ → Option UserRow → Type 0
Named name found = IfSome found (λ other. other.name ≡ name)

first-named : (key : UserRow → Bool) (row : UserRow) (name : List ℕ) (xs : List UserRow) (b : Bool) → key row ≡ b → row.name ≡ name
    → find key xs ≡ None → Named name (find key (row ∷ xs))
first-named key row name xs true is own none = subst (Named name) (sym (find-here key row xs is)) own
first-named key row name xs false is own none = subst (Named name) (sym (find-past key row xs is ∙ none)) tt

module _ (test key : UserRow → Bool) (row former : UserRow) (own : key former ≡ true) (name : row.name ≡ former.name) where
  key-more : (x : UserRow) (xs : List UserRow) (t k : Bool) → test x ≡ t → key x ≡ k → cond t (Some x) (find test xs) ≡ Some former → count_by key (x ∷ xs) ≤ 1
      → (find test xs ≡ Some former → count_by key xs ≤ 1 → Named former.name (find key (over test row xs)))
      → Named former.name (find key (over test row (x ∷ xs)))
  key-more x xs true k is at found few rest =
      let e : x ≡ former = cc in
      let here : count_by key (x ∷ xs) ≡ 1 + count_by key xs = count-cons key x xs true (ap key e ∙ own) in
      subst (λ ys. Named former.name (find key ys)) (sym (over-here test row x xs is))
      (first-named key row former.name xs (key row) refl name (nowhere key xs (omega arith)))
  key-more x xs false true is at found few rest =
      let here : count_by key (x ∷ xs) ≡ 1 + count_by key xs = count-cons key x xs true at in
      let one : 1 ≤ count_by key xs = count-found test key former xs found own in
      absurd (omega arith)
  key-more x xs false false is at found few rest =
      let left : count_by key (x ∷ xs) ≡ 0 + count_by key xs = count-cons key x xs false at in
      subst (λ ys. Named former.name (find key ys)) (sym (over-past test row x xs is))
      (subst (Named former.name) (sym (find-past key x (over test row xs) at)) (rest found (omega arith)))

  key-left : (rows : List UserRow) → find test rows ≡ Some former → count_by key rows ≤ 1 → Named former.name (find key (over test row rows))
  key-left [] found few = absurd (cc)
  key-left (x ∷ xs) found few = key-more x xs (test x) (key x) refl refl found few (key-left xs)

pub key-replaced : (row former : UserRow) (rows : List UserRow) → IsUserTable rows → row_named row.name rows ≡ Some former
    → IfSome (find (has_digest former.digest) (replaced row rows)) (λ other. other.name ≡ former.name)
key-replaced row former rows table found =
    key-left (is_named row.name) (has_digest former.digest) row former ((bytes_decides former.digest former.digest).1 refl)
    (sym (same-name row.name former rows found)) rows found (table.list.keys former.digest)

-- The same for users as a call has them.
module _ (row former : UserRow) (rows new : List UserRow) (is : new ≡ replaced row rows) (at : row_named row.name rows ≡ Some former) where
  pub held-after : IsSome (row_named former.name new)
  held-after = subst (λ us. IsSome (row_named former.name us)) (sym is) (held-replaced row former rows at)

  pub key-after : IsUserTable rows → IfSome (find (has_digest former.digest) new) (λ other. other.name ≡ former.name)
  key-after table = subst (λ us. IfSome (find (has_digest former.digest) us) (λ other. other.name ≡ former.name)) (sym is)
      (key-replaced row former rows table at)

  pub back-after : replaced former new ≡ rows
  back-after = ap (replaced former) is ∙ replaced-back row former rows at
