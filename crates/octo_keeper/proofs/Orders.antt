-- The two orders of entries, and what the neighbours in one tell of all.
use Rattle.std.proofs.Common.{◌≡◌, ◌≢◌, ◌⊎◌, ℕ, ◌+◌, ◌<◌, inl, inr, true, List, length, get_or, suc, zero, refl, sym, ap, ◌∙◌, subst, arith}
use Rattle.std.specs.Cmp.{IsTotalOrder}
use Rattle.std.specs.List.{AllPairs, AllAdjacentBelow, swap}
use Rattle.std.specs.List.Sorted.{IsPermutation}
use Rattle.std.specs.Ordering.{is_lt}
use Rattle.std.specs.declared.cmp.Ordering.{Ordering}
use Rattle.std.specs.declared.cmp.Ordering.TheVariants.{Less, Equal, Greater}
use Rattle.std.proofs.lemmas.Bool.{cases_eq, cases_order, false≢true}
use Rattle.std.proofs.lemmas.Cmp.{nat_cmp_total, nat_list_cmp_total, on_total, then_total, tied_back}
use Rattle.std.proofs.lemmas.List.Edits.{swapped_from_swap, length-swap}
use Rattle.std.proofs.lemmas.List.Sorted.{IsPermutation-keeps}
use Rattle.print_queue.specs.declared.entry.QueueEntry.{QueueEntry}
use Rattle.octo_keeper.specs.declared.order.Order.{Order}
use Rattle.octo_keeper.specs.declared.order.Order.TheVariants as order
use Rattle.octo_keeper.specs.Order.{compared}

pub order_total : (by : Order) → IsTotalOrder (compared by)
order_total order.Arrival = on_total (λ (row : QueueEntry). row.arrival) nat_cmp_total
order_total order.Key = then_total (on_total (λ (row : QueueEntry). row.user) nat_list_cmp_total) (on_total (λ (row : QueueEntry). row.name) nat_list_cmp_total)

-- if each item is less than the next one, it is less than each later one
rising_far : {X : Type 0} (R : X → X → Ordering) (total : IsTotalOrder R) (xs : List X) → AllAdjacentBelow (λ a b. R a b ≡ Less) xs (length xs) → (i j : ℕ) (d : X) → i < j → j < length xs → R (get_or xs i d) (get_or xs j d) ≡ Less
rising_far R total xs up i zero d below within = absurd (omega arith)
rising_far R total xs up i (suc j) d below within =
    let next : R (get_or xs j d) (get_or xs (suc j) d) ≡ Less =
    subst (λ (k : ℕ). R (get_or xs j d) (get_or xs k d) ≡ Less) (let e : j + 1 ≡ suc j = omega arith in e) (up j d (omega arith))
    in
    elim (cases_eq i j) [
      | inl same ↦ subst (λ (k : ℕ). R (get_or xs k d) (get_or xs (suc j) d) ≡ Less) (sym same) next
      | inr other ↦ total.trans _ _ _ (rising_far R total xs up i j d (omega arith) (omega arith)) next
    ]

less_from_test : (o : Ordering) → is_lt o ≡ true → o ≡ Less
less_from_test Less passes = refl
less_from_test Equal passes = absurd (false≢true passes)
less_from_test Greater passes = absurd (false≢true passes)

less_not_equal : (o : Ordering) → o ≡ Less → o ≢ Equal
less_not_equal o less equal = cc

-- entries each of which is less than the next one are less than each later one
pub less_from_rising : (by : Order) (rows : List QueueEntry) → AllAdjacentBelow (λ a b. is_lt (compared by a b) ≡ true) rows (length rows) → AllPairs (λ a b. compared by a b ≡ Less) rows
less_from_rising by rows up = λ i j d below within. rising_far (compared by) (order_total by) rows (λ k e inside. less_from_test _ (up k e inside)) i j d below within

-- and so apart
pub apart_from_rising : (by : Order) (rows : List QueueEntry) → AllAdjacentBelow (λ a b. is_lt (compared by a b) ≡ true) rows (length rows) → AllPairs (λ a b. compared by a b ≢ Equal) rows
apart_from_rising by rows up = λ i j d below within. less_not_equal _ (less_from_rising by rows up i j d below within)

-- each two items at different places are in this relation
abbrev AllApart : {X : Type 0} → (X → X → Type 0) → List X → Type 0
AllApart {X} R xs = (i j : ℕ) (d : X) → i ≢ j → i < length xs → j < length xs → R (get_or xs i d) (get_or xs j d)

apart_all : {X : Type 0} (R : X → X → Type 0) (turned : (a b : X) → R a b → R b a) (xs : List X) → AllPairs R xs → AllApart R xs
apart_all R turned xs pairs i j d other first second =
    elim (cases_order i j) [
      | inl same ↦ absurd (other same)
      | inr differ ↦ elim differ [
        | inl below ↦ pairs i j d below second
        | inr above ↦ turned (get_or xs j d) (get_or xs i d) (pairs j i d above first)
      ]
    ]

-- where the item at a place came from, after two items were swapped
record From {X : Type 0} (xs ys : List X) (a b k : ℕ) (d : X) : Type 0 where
  place : ℕ
  within : place < length xs
  same : get_or ys k d ≡ get_or xs place d
  which : ((k ≡ a) × (place ≡ b)) ⊎ (((k ≡ b) × (place ≡ a)) ⊎ ((k ≢ a) × (k ≢ b) × (place ≡ k)))

from_swap : {X : Type 0} (xs : List X) (a b k : ℕ) (d : X) → a < length xs → b < length xs → k < length xs → From xs (swap xs a b) a b k d
from_swap xs a b k d first second within =
    let moved = swapped_from_swap xs (swap xs a b) a b d first second refl in
    elim (cases_eq k a) [
      | inl at_a ↦ record { place = b; within = second; same = ap (λ (i : ℕ). get_or (swap xs a b) i d) at_a ∙ moved.0; which = inl (at_a, refl) }
      | inr not_a ↦ elim (cases_eq k b) [
        | inl at_b ↦ record { place = a; within = first; same = ap (λ (i : ℕ). get_or (swap xs a b) i d) at_b ∙ moved.1; which = inr (inl (at_b, refl)) }
        | inr not_b ↦ record { place = k; within = within; same = moved.2 k not_a not_b; which = inr (inr (not_a, not_b, refl)) }
      ]
    ]

from_apart : {X : Type 0} (xs ys : List X) (a b i j : ℕ) (d : X) (x : From xs ys a b i d) (y : From xs ys a b j d) → i ≢ j → x.place ≢ y.place
from_apart xs ys a b i j d x y other same = grind (arith, x.which, y.which)

swap_apart : {X : Type 0} (R : X → X → Type 0) (xs : List X) (a b : ℕ) → a < length xs → b < length xs → AllApart R xs → AllApart R (swap xs a b)
swap_apart {X} R xs a b first second apart i j d other inside inside' =
    let size = length-swap xs a b in
    let x = from_swap xs a b i d first second (omega arith) in
    let y = from_swap xs a b j d first second (omega arith) in
    let differ = from_apart xs (swap xs a b) a b i j d x y other in
    subst (λ (e : X). R e (get_or (swap xs a b) j d)) (sym x.same)
    (subst (λ (e : X). R (get_or xs x.place d) e) (sym y.same) (apart x.place y.place d differ x.within y.within))

-- what holds of each two items, either way round, holds in any order of the items
pairs_permuted : {X : Type 0} (R : X → X → Type 0) (turned : (a b : X) → R a b → R b a) (xs ys : List X) → IsPermutation xs ys → AllPairs R xs → AllPairs R ys
pairs_permuted R turned xs ys moved pairs =
    let apart = IsPermutation-keeps xs (AllApart R) (apart_all R turned xs pairs) (swap_apart R) ys moved in
    λ i j d below within. apart i j d (λ same. omega arith) (omega arith) within

-- entries of which no two are equal in one order are so in any order of the list
pub apart_permuted : (by : Order) (rows ys : List QueueEntry) → IsPermutation rows ys → AllPairs (λ a b. compared by a b ≢ Equal) rows → AllPairs (λ a b. compared by a b ≢ Equal) ys
apart_permuted by rows ys moved pairs =
    pairs_permuted (λ a b. compared by a b ≢ Equal) (λ a b apart equal. apart (tied_back (order_total by) b a equal)) rows ys moved pairs
