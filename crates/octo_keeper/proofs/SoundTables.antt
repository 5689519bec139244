-- Tables that pass the tests are sound.
use Rattle.std.proofs.Common.{◌≡◌, ◌⊎◌, ℕ, ◌+◌, ◌<◌, ◌≤◌, inl, inr, Bool, true, cond, List, [], ◌∷◌, length, get_or, suc, zero, Some, refl, ap, ◌∙◌, subst, arith}
use Rattle.std.specs.List.{AllPairs, AllByRecursion, list_all, count_by}
use Rattle.std.specs.Str.{bytes_eq}
use Rattle.std.proofs.lemmas.Bool.{cases_Bool, and_parts, not-true, eqb-true, eqb-false, leb-true}
use Rattle.std.proofs.lemmas.List.Elements.{All-from_recursion}
use Rattle.std.proofs.lemmas.List.Kept.{AllPairs-cons}
use Rattle.std.proofs.lemmas.List.Sums.{sum_by-cons}
use Rattle.std.proofs.lemmas.Slice.Eq.{bytes_eq-Decides}
use Rattle.octo_access.specs.declared.row.UserRow.{UserRow}
use Rattle.octo_access.specs.Rows.{is_named, has_digest, IsUserList}
use Rattle.print_queue.specs.declared.entry.QueueEntry.{QueueEntry}
use Rattle.print_queue.specs.Rows.{is_of}
use Rattle.print_queue.specs.Lawful.{IsApart, IsWholeRow, IsSound}
use Rattle.print_queue.specs.declared.row.PrintRow.{PrintRow}
use Rattle.octo_keeper.specs.declared.tables.Tables.{Tables}
use Rattle.octo_keeper.specs.Tables.{AreSound}
use Rattle.octo_keeper.specs.Sound.{is_apart, are_apart, is_whole, is_within, is_queue, is_alone, is_user_list, are_numbered_from, are_sound}

-- a test that all items pass holds of each
each_passes : {X : Type 0} (p : X → Bool) (P : X → Type 0) → ((x : X) → p x ≡ true → P x) → (xs : List X) → list_all p xs ≡ true → AllByRecursion P xs
each_passes p P tells [] passes = tt
each_passes p P tells (x ∷ xs) passes =
    let parts = and_parts (p x) (list_all p xs) passes in
    (tells x parts.0, each_passes p P tells xs parts.1)

apart_tells : (a b : QueueEntry) → is_apart a b ≡ true → IsApart a b
apart_tells a b passes =
    let parts = and_parts _ _ passes in
    record { arrival = eqb-false a.arrival b.arrival (not-true _ parts.0); key = not-true _ parts.1 }

pairs_apart : (rows : List QueueEntry) → are_apart rows ≡ true → AllPairs IsApart rows
pairs_apart [] passes = λ i j d below within. absurd (omega arith)
pairs_apart (row ∷ rows) passes =
    let parts = and_parts _ _ passes in
    AllPairs-cons IsApart row rows (All-from_recursion (IsApart row) rows (each_passes (is_apart row) (IsApart row) (apart_tells row) rows parts.0)) (pairs_apart rows parts.1)

whole_tells : (row : QueueEntry) → is_whole row ≡ true → IsWholeRow row
whole_tells row passes =
    let parts = and_parts _ _ passes in
    let most = and_parts _ _ parts.1 in
    record { some = leb-true 1 row.left parts.0; left = leb-true row.left row.copies most.0; most = leb-true row.copies 100 most.1 }

-- one of these items has a key and is within a bound, or none has it
some_or_none : {X : Type 0} (key : X → List ℕ) (k : List ℕ) (P : X → Type 0) (part : List X) → AllByRecursion P part → ((x : X) × (key x ≡ k) × P x) ⊎ (count_by (λ y. bytes_eq (key y) k) part ≡ 0)
some_or_none key k P [] each = inr refl
some_or_none key k P (x ∷ xs) each =
    elim (cases_Bool (bytes_eq (key x) k)) [
      | inl same ↦ inl (x, (bytes_eq-Decides (key x) k).0 same, each.0)
      | inr other ↦ elim (some_or_none key k P xs each.1) [
        | inl found ↦ inl found
        | inr none ↦
            let one : cond {A = ℕ} (bytes_eq (key x) k) 1 0 ≡ 0 = ap (λ (b : Bool). cond {A = ℕ} b 1 0) other in
            inr (sum_by-cons (λ y. cond (bytes_eq (key y) k) 1 0) x xs ∙ (let total : cond {A = ℕ} (bytes_eq (key x) k) 1 0 + count_by (λ y. bytes_eq (key y) k) xs ≡ 0 = omega arith in total))
      ]
    ]

-- a bound on how many share a key with each item is one on how many have any key
within_all : {X : Type 0} (key : X → List ℕ) (n : ℕ) (rows : List X) → AllByRecursion (λ x. count_by (λ y. bytes_eq (key y) (key x)) rows ≤ n) rows → (k : List ℕ) → count_by (λ y. bytes_eq (key y) k) rows ≤ n
within_all key n rows each k =
    elim (some_or_none key k (λ x. count_by (λ y. bytes_eq (key y) (key x)) rows ≤ n) rows each) [
      | inl found ↦ subst (λ (b : List ℕ). count_by (λ y. bytes_eq (key y) b) rows ≤ n) found.1 found.2
      | inr none ↦ omega arith
    ]

queue_tells : (rows : List QueueEntry) → is_queue rows ≡ true → IsSound rows
queue_tells rows passes =
    let parts = and_parts _ _ passes in
    let most = and_parts _ _ parts.1 in
    record {
      apart = pairs_apart rows parts.0;
      whole = All-from_recursion IsWholeRow rows (each_passes is_whole IsWholeRow whole_tells rows most.0);
      few =
          within_all (λ (row : QueueEntry). row.user) 64 rows
          (each_passes (is_within rows) (λ row. count_by (is_of (Some row.user)) rows ≤ 64) (λ row within. leb-true _ 64 within) rows most.1);
    }

users_tell : (rows : List UserRow) → is_user_list rows ≡ true → IsUserList rows
users_tell rows passes =
    let parts = and_parts _ _ passes in
    record {
      names =
          within_all (λ (row : UserRow). row.name) 1 rows
          (each_passes (is_alone rows) (λ row. count_by (is_named row.name) rows ≤ 1) (λ row alone. leb-true _ 1 (and_parts _ _ alone).0) rows parts.1);
      keys =
          within_all (λ (row : UserRow). row.digest) 1 rows
          (each_passes (is_alone rows) (λ row. count_by (has_digest row.digest) rows ≤ 1) (λ row alone. leb-true _ 1 (and_parts _ _ alone).1) rows parts.1);
      few = leb-true _ 1000 parts.0;
    }

numbered_from : (n : ℕ) (rows : List PrintRow) → are_numbered_from n rows ≡ true → (k : ℕ) (d : PrintRow) → k < length rows → (get_or rows k d).number ≡ k + n
numbered_from n [] passes k d within = absurd (omega arith)
numbered_from n (row ∷ rows) passes zero d within = (let first = eqb-true row.number n (and_parts _ _ passes).0 in omega arith)
numbered_from n (row ∷ rows) passes (suc k) d within = (let rest = numbered_from (n + 1) rows (and_parts _ _ passes).1 k d (omega arith) in omega arith)

pub tables_tell : (t : Tables) → are_sound t ≡ true → AreSound t
tables_tell t passes =
    let parts = and_parts _ _ passes in
    let rest = and_parts _ _ parts.1 in
    record { user_list = users_tell t.users parts.0; entries = queue_tells t.queue rest.0; numbered = numbered_from 1 t.prints rest.1 }
