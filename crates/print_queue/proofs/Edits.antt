-- What the edits of a queue's rows keep, and how they undo each other.
use Rattle.std.proofs.Common.{◌≡◌, ℕ, ◌+◌, ◌-◌, ◌<◌, ◌≤◌, inl, inr, true, false, nat_le, List, [], ◌∷◌, length, set, suc, Some, None, refl, sym, ap, ◌∙◌, subst, arith}
use Rattle.std.specs.List.{AllByRecursion, remove, prefix_len, position_or_len}
use Rattle.std.proofs.lemmas.Bool.{cases_Bool, le-leb, lt-leb}
use Rattle.print_queue.specs.declared.entry.QueueEntry.{QueueEntry}
use Rattle.print_queue.specs.Rows.{is_before, is_key, users_entry, insert_row, without, without_copy}
use Rattle.print_queue.specs.Lawful.{IsApart}
use Rattle.print_queue.proofs.Pairs.{Pairs, each_so, each_both}
use Rattle.print_queue.proofs.Comparisons.{before_turned, before_one_way, before_chain, key_other, apart_turned}

-- an entry that comes before another
abbrev pub Above : QueueEntry → QueueEntry → Type 0
Above a b = (is_before a b ≡ true) × IsApart a b

pub above_chain : (a b c : QueueEntry) → is_before a b ≡ true → Above b c → IsApart a c → Above a c
above_chain a b c first second apart = (before_chain a b c first second.0, apart)

-- a row goes past those that are before it
pub insert_past : (x y : QueueEntry) (xs : List QueueEntry) → is_before x y ≡ true → insert_row y (x ∷ xs) ≡ x ∷ insert_row y xs
insert_past x y xs before = rw before (let e : 1 + prefix_len (λ other. is_before other y) xs ≡ suc (prefix_len (λ other. is_before other y) xs) = omega arith in rw e refl)

-- and stops at the first that isn't
pub insert_here : (x y : QueueEntry) (xs : List QueueEntry) → is_before x y ≡ false → insert_row y (x ∷ xs) ≡ y ∷ x ∷ xs
insert_here x y xs before = rw before refl

-- what holds of each row and of a new one holds after the insertion
pub each_insert : (P : QueueEntry → Type 0) (y : QueueEntry) (xs : List QueueEntry) → P y → AllByRecursion P xs → AllByRecursion P (insert_row y xs)
each_insert P y [] here each = (here, tt)
each_insert P y (x ∷ xs) here each =
    elim (cases_Bool (is_before x y)) [
      | inl before ↦ subst (AllByRecursion P) (sym (insert_past x y xs before)) (each.0, each_insert P y xs here each.1)
      | inr other ↦ subst (AllByRecursion P) (sym (insert_here x y xs other)) (here, each)
    ]

-- the order is kept by the insertion of a row that is apart from all
pub pairs_insert : (y : QueueEntry) (xs : List QueueEntry) → Pairs Above xs → AllByRecursion (IsApart y) xs → Pairs Above (insert_row y xs)
pairs_insert y [] pairs apart = (tt, tt)
pairs_insert y (x ∷ xs) pairs apart =
    elim (cases_Bool (is_before x y)) [
      | inl before ↦ subst (Pairs Above) (sym (insert_past x y xs before)) (
        each_insert (Above x) y xs (before, apart_turned y x apart.0) pairs.0,
        pairs_insert y xs pairs.1 apart.1,
      )
      | inr other ↦
          let first : is_before y x ≡ true = before_turned x y other (λ same. apart.0.arrival (sym same)) in
          subst (Pairs Above) (sym (insert_here x y xs other)) (
            ((first, apart.0), each_both (Above x) (IsApart y) (Above y) (λ z behind free. above_chain y x z first behind free) xs pairs.0 apart.1),
            pairs,
          )
    ]

-- none of these rows has this key
abbrev pub IsFree : List ℕ → List ℕ → List QueueEntry → Type 0
IsFree user name xs = AllByRecursion (λ z. is_key user name z ≡ false) xs

-- the rows after one that has a key don't have it
pub free_after : (user name : List ℕ) (x : QueueEntry) (xs : List QueueEntry) → is_key user name x ≡ true → AllByRecursion (IsApart x) xs → IsFree user name xs
free_after user name x xs key apart = each_so (IsApart x) (λ z. is_key user name z ≡ false) (λ z free. key_other user name x z key free.key) xs apart

-- nothing is taken out by a key that no row has
pub without_free : (user name : List ℕ) (xs : List QueueEntry) → IsFree user name xs → without user name xs ≡ xs
without_free user name [] free = refl
without_free user name (x ∷ xs) free = rw free.0 (ap (λ rest. x ∷ rest) (without_free user name xs free.1))

pub without_copy_free : (user name : List ℕ) (xs : List QueueEntry) → IsFree user name xs → without_copy user name xs ≡ xs
without_copy_free user name [] free = refl
without_copy_free user name (x ∷ xs) free = rw free.0 (ap (λ rest. x ∷ rest) (without_copy_free user name xs free.1))

-- after the rows of a key were taken out none has it
pub held_without : (user name : List ℕ) (xs : List QueueEntry) → users_entry user name (without user name xs) ≡ None
held_without user name [] = refl
held_without user name (x ∷ xs) =
    elim (cases_Bool (is_key user name x)) [
      | inl key ↦ rw key (held_without user name xs)
      | inr other ↦ rw other (rw other (held_without user name xs))
    ]

-- taking the row of a key out is taking out the first one that has it
pub without_removes : (user name : List ℕ) (xs : List QueueEntry) → Pairs IsApart xs → position_or_len (is_key user name) xs < length xs → without user name xs ≡ remove xs (position_or_len (is_key user name) xs)
without_removes user name [] pairs within = refl
without_removes user name (x ∷ xs) pairs within =
    elim (cases_Bool (is_key user name x)) [
      | inl key ↦ rw key (without_free user name xs (free_after user name x xs key pairs.0))
      | inr other ↦
          let rest : position_or_len (is_key user name) xs < length xs = (let h = rw other at within in omega arith) in
          let e : 1 + position_or_len (is_key user name) xs ≡ suc (position_or_len (is_key user name) xs) = omega arith in
          rw other (rw e (ap (λ (ys : List QueueEntry). x ∷ ys) (without_removes user name xs pairs.1 rest)))
    ]

-- an entry with another number of copies left
abbrev pub with_left : ℕ → QueueEntry → QueueEntry
with_left left row = record row { left = left }

-- a row of the key is the first one, or one of the rest
pub held_first : (user name : List ℕ) (x row : QueueEntry) (xs : List QueueEntry) → users_entry user name (x ∷ xs) ≡ Some row → is_key user name x ≡ true → x ≡ row
held_first user name x row xs there key = let h = rw key at there in cc

-- starting the last copy takes the row out
pub copy_removes : (user name : List ℕ) (xs : List QueueEntry) → Pairs IsApart xs → (row : QueueEntry) → users_entry user name xs ≡ Some row → row.left ≤ 1 → without_copy user name xs ≡ without user name xs
copy_removes user name [] pairs row there last = refl
copy_removes user name (x ∷ xs) pairs row there last =
    elim (cases_Bool (is_key user name x)) [
      | inl key ↦
          let free = free_after user name x xs key pairs.0 in
          let one : nat_le x.left 1 ≡ true = le-leb x.left 1 (subst (λ (r : QueueEntry). r.left ≤ 1) (sym (held_first user name x row xs there key)) last) in
          rw key (rw one (without_copy_free user name xs free ∙ sym (without_free user name xs free)))
      | inr other ↦
          let h : users_entry user name xs ≡ Some row = rw other at there in
          rw other (ap (λ (ys : List QueueEntry). x ∷ ys) (copy_removes user name xs pairs.1 row h last))
    ]

-- starting another copy lowers what is left of the row
pub copy_lowers : (user name : List ℕ) (xs : List QueueEntry) → Pairs IsApart xs → (row : QueueEntry) → users_entry user name xs ≡ Some row → 1 < row.left → without_copy user name xs ≡ set xs (position_or_len (is_key user name) xs) (with_left (row.left - 1) row)
copy_lowers user name [] pairs row there more = refl
copy_lowers user name (x ∷ xs) pairs row there more =
    elim (cases_Bool (is_key user name x)) [
      | inl key ↦
          let same = held_first user name x row xs there key in
          let free = free_after user name x xs key pairs.0 in
          let many : nat_le x.left 1 ≡ false = lt-leb x.left 1 (subst (λ (r : QueueEntry). 1 < r.left) (sym same) more) in
          rw key (rw many (ap (λ (ys : List QueueEntry). record x { left = x.left - 1 } ∷ ys) (without_copy_free user name xs free) ∙ ap (λ (r : QueueEntry). record r { left = r.left - 1 } ∷ xs) same))
      | inr other ↦
          let h : users_entry user name xs ≡ Some row = rw other at there in
          let e : 1 + position_or_len (is_key user name) xs ≡ suc (position_or_len (is_key user name) xs) = omega arith in
          rw other (rw e (ap (λ (ys : List QueueEntry). x ∷ ys) (copy_lowers user name xs pairs.1 row h more)))
    ]

-- what holds of each row holds of a held one
pub each_held : (P : QueueEntry → Type 0) (user name : List ℕ) (xs : List QueueEntry) (row : QueueEntry) → AllByRecursion P xs → users_entry user name xs ≡ Some row → P row
each_held P user name [] row each there = (cc)
each_held P user name (x ∷ xs) row each there =
    elim (cases_Bool (is_key user name x)) [
      | inl key ↦ subst P (held_first user name x row xs there key) each.0
      | inr other ↦ each_held P user name xs row each.1 (rw other at there)
    ]

-- a row that is before all goes to the front
pub insert_first : (row : QueueEntry) (xs : List QueueEntry) → AllByRecursion (Above row) xs → insert_row row xs ≡ row ∷ xs
insert_first row [] above = refl
insert_first row (x ∷ xs) above = insert_here x row xs (before_one_way row x above.0.0)

-- a row that was taken out goes back to where it was
pub insert_restores : (user name : List ℕ) (xs : List QueueEntry) → Pairs Above xs → (row : QueueEntry) → users_entry user name xs ≡ Some row → insert_row row (without user name xs) ≡ xs
insert_restores user name [] pairs row there = absurd (let h : None ≡ Some row = there in cc)
insert_restores user name (x ∷ xs) pairs row there =
    elim (cases_Bool (is_key user name x)) [
      | inl key ↦
          let same = held_first user name x row xs there key in
          let apart : AllByRecursion (IsApart x) xs = each_so (Above x) (IsApart x) (λ z above. above.1) xs pairs.0 in
          let free = free_after user name x xs key apart in
          let out : without user name (x ∷ xs) ≡ xs = rw key (without_free user name xs free) in
          ap (λ (r : QueueEntry). insert_row r (without user name (x ∷ xs))) (sym same) ∙ ap (insert_row x) out ∙ insert_first x xs pairs.0
      | inr other ↦
          let h : users_entry user name xs ≡ Some row = rw other at there in
          let out : without user name (x ∷ xs) ≡ x ∷ without user name xs = rw other refl in
          let before : is_before x row ≡ true = (each_held (Above x) user name xs row pairs.0 h).0 in
          ap (insert_row row) out ∙ insert_past x row (without user name xs) before ∙ ap (λ (ys : List QueueEntry). x ∷ ys) (insert_restores user name xs pairs.1 row h)
    ]
