-- The edits of a queue's rows keep them lawful.
use Rattle.std.proofs.Common.{◌≡◌, ℕ, ◌+◌, ◌<◌, ◌≤◌, inl, inr, Bool, true, cond, List, ◌∷◌, length, get_or, set, Some, sym, ap, ◌∙◌, subst, arith}
use Rattle.std.specs.List.{AllPairs, filter, count_by, prefix_len}
use Rattle.std.proofs.lemmas.Bool.{cases_Bool, cases_eq}
use Rattle.std.proofs.lemmas.List.{length-set, get_or-set_same, get_or-set_other, get_or_default}
use Rattle.std.proofs.lemmas.List.Elements.{All-from_recursion, recursion_from_All, All-filter, All-set}
use Rattle.std.proofs.lemmas.List.Kept.{AllPairs-filter}
use Rattle.std.proofs.lemmas.List.Sorted.{IsPermutation-insert, sum_by-IsPermutation}
use Rattle.std.proofs.lemmas.List.Sums.{sum_by-cons, sum_by-set}
use Rattle.std.proofs.lemmas.Slice.Eq.{bytes_eq-Decides}
use Rattle.print_queue.specs.declared.entry.QueueEntry.{QueueEntry}
use Rattle.print_queue.specs.Rows.{is_before, is_of, insert_row}
use Rattle.print_queue.specs.Lawful.{IsApart, IsWholeRow, IsLawful, HasPlace}
use Rattle.print_queue.proofs.Pairs.{Pairs, pairs_from, pairs_to}
use Rattle.print_queue.proofs.Edits.{Above, with_left, each_insert, pairs_insert}
use Rattle.byte_text.proofs.ListLaws.{count-filter}

-- each lawful row comes before the later ones
pub above_from : (rows : List QueueEntry) → IsLawful rows → Pairs Above rows
above_from rows lawful = pairs_from Above rows (λ i j d below within. (lawful.ordered i j d below within, lawful.sound.apart i j d below within))

pub apart_from : (rows : List QueueEntry) → IsLawful rows → Pairs IsApart rows
apart_from rows lawful = pairs_from IsApart rows lawful.sound.apart

-- how many rows pass a test
pub count_cons : (p : QueueEntry → Bool) (row : QueueEntry) (rows : List QueueEntry) → count_by p (row ∷ rows) ≡ cond (p row) 1 0 + count_by p rows
count_cons p row rows = sum_by-cons (λ x. cond (p x) 1 0) row rows

count_insert : (p : QueueEntry → Bool) (row : QueueEntry) (rows : List QueueEntry) → count_by p (insert_row row rows) ≡ cond (p row) 1 0 + count_by p rows
count_insert p row rows =
    sum_by-IsPermutation (λ x. cond (p x) 1 0) (row ∷ rows) (insert_row row rows) (IsPermutation-insert rows (prefix_len (λ other. is_before other row) rows) row)
    ∙ count_cons p row rows

few_insert : (user : List ℕ) (row : QueueEntry) (rows : List QueueEntry) → count_by (is_of (Some row.user)) rows < 64 → count_by (is_of (Some user)) rows ≤ 64 → count_by (is_of (Some user)) (insert_row row rows) ≤ 64
few_insert user row rows fewer few =
    let counted = count_insert (is_of (Some user)) row rows in
    elim (cases_Bool (is_of (Some user) row)) [
      | inl own ↦
          let same : row.user ≡ user = (bytes_eq-Decides row.user user).0 own in
          let below : count_by (is_of (Some user)) rows < 64 = subst (λ (u : List ℕ). count_by (is_of (Some u)) rows < 64) same fewer in
          let now = rw own at counted in
          omega arith
      | inr other ↦ let now = rw other at counted in omega arith
    ]

pub lawful_insert : (row : QueueEntry) (rows : List QueueEntry) → IsLawful rows → HasPlace row rows → IsLawful (insert_row row rows)
lawful_insert row rows lawful place =
    let pairs = pairs_to Above _ (pairs_insert row rows (above_from rows lawful) (recursion_from_All (IsApart row) rows place.apart)) in
    record {
      sound = record {
        apart = λ i j d below within. (pairs i j d below within).1;
        whole = All-from_recursion IsWholeRow _ (each_insert IsWholeRow row rows place.whole (recursion_from_All IsWholeRow rows lawful.sound.whole));
        few = λ user. few_insert user row rows place.few (lawful.sound.few user);
      };
      ordered = λ i j d below within. (pairs i j d below within).0;
    }

pub lawful_filter : (q : QueueEntry → Bool) (rows : List QueueEntry) → IsLawful rows → IsLawful (filter q rows)
lawful_filter q rows lawful = record {
  sound = record {
    apart = AllPairs-filter IsApart q rows lawful.sound.apart;
    whole = All-filter q IsWholeRow rows lawful.sound.whole;
    few = λ user. (let h = count-filter (is_of (Some user)) q rows in let few = lawful.sound.few user in omega arith);
  };
  ordered = AllPairs-filter (λ a b. is_before a b ≡ true) q rows lawful.ordered;
}

-- these rows are those, but for the copies that are left of each
pub record IsAlike (xs ys : List QueueEntry) : Type 0 where
  pub size : length ys ≡ length xs
  pub each : (k : ℕ) (d : QueueEntry) → k < length xs → (left : ℕ) × (get_or ys k d ≡ with_left left (get_or xs k d))

pub alike_set : (xs : List QueueEntry) (place left : ℕ) (row : QueueEntry) → place < length xs → row ≡ get_or xs place row → IsAlike xs (set xs place (with_left left row))
alike_set xs place left row within there = record {
  size = length-set xs place (with_left left row);
  each = λ k d below. elim (cases_eq k place) [
    | inl same ↦ (
      left,
      ap (λ (i : ℕ). get_or (set xs place (with_left left row)) i d) same
          ∙ get_or-set_same xs place (with_left left row) d within
          ∙ ap (with_left left) (there ∙ get_or_default xs place row d within)
          ∙ ap (λ (i : ℕ). with_left left (get_or xs i d)) (sym same),
    )
    | inr other ↦ ((get_or xs k d).left, get_or-set_other xs place k (with_left left row) d other)
  ];
}

apart_left : (m n : ℕ) (a b : QueueEntry) → IsApart a b → IsApart (with_left m a) (with_left n b)
apart_left m n a b apart = record { arrival = apart.arrival; key = apart.key }

pairs_alike : (R : QueueEntry → QueueEntry → Type 0) → ((m n : ℕ) (a b : QueueEntry) → R a b → R (with_left m a) (with_left n b)) → (xs ys : List QueueEntry) → IsAlike xs ys → AllPairs R xs → AllPairs R ys
pairs_alike R so xs ys alike pairs i j d below within =
    let inside : j < length xs = (let h = alike.size in omega arith) in
    let first = alike.each i d (omega arith) in
    let second = alike.each j d inside in
    let there = so first.0 second.0 _ _ (pairs i j d below inside) in
    subst (λ (y : QueueEntry). R (get_or ys i d) y) (sym second.1) (subst (λ (x : QueueEntry). R x (with_left second.0 (get_or xs j d))) (sym first.1) there)

-- as many rows pass a test after one was replaced that passes it alike
count_set : (p : QueueEntry → Bool) (xs : List QueueEntry) (place : ℕ) (y d : QueueEntry) → place < length xs → p y ≡ p (get_or xs place d) → count_by p (set xs place y) ≡ count_by p xs
count_set p xs place y d within same =
    let count : QueueEntry → ℕ = λ x. cond (p x) 1 0 in
    let h = sum_by-set count xs place y d within in
    let e : count y ≡ count (get_or xs place d) = ap (λ (b : Bool). cond {A = ℕ} b 1 0) same in
    omega arith

-- another number of copies left keeps the rows lawful
pub lawful_set : (xs : List QueueEntry) (place left : ℕ) (row : QueueEntry) → IsLawful xs → place < length xs → row ≡ get_or xs place row → IsWholeRow (with_left left row) → IsLawful (set xs place (with_left left row))
lawful_set xs place left row lawful within there whole =
    let alike = alike_set xs place left row within there in
    record {
      sound = record {
        apart = pairs_alike IsApart apart_left xs _ alike lawful.sound.apart;
        whole = All-set IsWholeRow xs place (with_left left row) whole lawful.sound.whole;
        few = λ user.
            subst (λ (n : ℕ). n ≤ 64) (sym (count_set (is_of (Some user)) xs place (with_left left row) row within (ap (is_of (Some user)) there))) (lawful.sound.few user);
      };
      ordered = pairs_alike (λ a b. is_before a b ≡ true) (λ m n a b before. before) xs _ alike lawful.ordered;
    }
