-- What sorted copies of a queue tell of it.
use Rattle.std.proofs.Common.{◌≡◌, ◌≢◌, ℕ, ◌==◌, true, false, not, nat_le, List, [], ◌∷◌, refl, sym, ap, subst}
use Rattle.std.specs.Cmp.Lexicographic.{slice_cmp}
use Rattle.std.specs.List.{AllPairs, AllByRecursion, list_all}
use Rattle.std.specs.List.Sorted.{IsPermutation}
use Rattle.std.specs.Ordering.{nat_cmp, ordering_then}
use Rattle.std.specs.declared.cmp.Ordering.TheVariants.{Equal}
use Rattle.std.proofs.lemmas.Bool.{and_from, false_from_ne_true, eqb-true}
use Rattle.std.proofs.lemmas.Cmp.{nat_cmp_total, tied_itself}
use Rattle.std.proofs.lemmas.List.Sorted.{IsPermutation-sym, IsPermutation-trans, All-permutation, sum_by-IsPermutation}
use Rattle.std.proofs.lemmas.List.Sums.{AllPass-from_list_all, list_all-from_AllPass}
use Rattle.print_queue.specs.declared.entry.QueueEntry.{QueueEntry}
use Rattle.print_queue.specs.Rows.{is_key}
use Rattle.print_queue.proofs.Comparisons.{key_user, key_name}
use Rattle.print_queue.proofs.Pairs.{Pairs, pairs_from}
use Rattle.octo_keeper.specs.declared.order.Order.TheVariants as order
use Rattle.octo_keeper.specs.Order.{compared}
use Rattle.octo_keeper.specs.Sound.{is_apart, are_apart, is_within}
use Rattle.octo_keeper.proofs.Orders.{order_total, apart_permuted}

-- two entries that differ in both orders are apart
apart_passes : (a b : QueueEntry) → compared order.Arrival a b ≢ Equal → compared order.Key a b ≢ Equal → is_apart a b ≡ true
apart_passes a b arrival key =
    let other : (a.arrival == b.arrival) ≡ false =
    false_from_ne_true _ (λ same. arrival (
    subst (λ (n : ℕ). nat_cmp a.arrival n ≡ Equal) (eqb-true a.arrival b.arrival same) (tied_itself nat_cmp_total a.arrival)
    ))
    in
    let unlike : is_key a.user a.name b ≡ false =
    false_from_ne_true _ (λ is. key (
    subst (λ (n : List ℕ). ordering_then (slice_cmp nat_cmp a.user b.user) (slice_cmp nat_cmp a.name n) ≡ Equal) (sym (key_name a.user a.name b is))
    (subst (λ (u : List ℕ). ordering_then (slice_cmp nat_cmp a.user u) (slice_cmp nat_cmp a.name a.name) ≡ Equal) (sym (key_user a.user a.name b is)) (tied_itself (order_total order.Key) a))
    ))
    in
    and_from _ _ (ap not other) (ap not unlike)

each_passes : (a : QueueEntry) (rows : List QueueEntry) → AllByRecursion (λ b. compared order.Arrival a b ≢ Equal) rows → AllByRecursion (λ b. compared order.Key a b ≢ Equal) rows → list_all (is_apart a) rows ≡ true
each_passes a [] first second = refl
each_passes a (b ∷ rows) first second = and_from _ _ (apart_passes a b first.0 second.0) (each_passes a rows first.1 second.1)

all_pass : (rows : List QueueEntry) → Pairs (λ a b. compared order.Arrival a b ≢ Equal) rows → Pairs (λ a b. compared order.Key a b ≢ Equal) rows → are_apart rows ≡ true
all_pass [] first second = refl
all_pass (a ∷ rows) first second = and_from _ _ (each_passes a rows first.0 second.0) (all_pass rows first.1 second.1)

-- entries are apart if a sort by arrival and then one by key showed no two that are equal
pub apart_from_sorts : (rows one two : List QueueEntry) → IsPermutation rows one → AllPairs (λ a b. compared order.Arrival a b ≢ Equal) one → IsPermutation one two → AllPairs (λ a b. compared order.Key a b ≢ Equal) two → are_apart rows ≡ true
apart_from_sorts rows one two moved first again second =
    all_pass rows
    (pairs_from _ rows (apart_permuted order.Arrival one rows (IsPermutation-sym rows one moved) first))
    (pairs_from _ rows (apart_permuted order.Key two rows (IsPermutation-sym rows two (IsPermutation-trans rows one two moved again)) second))

-- whether each user has few entries doesn't depend on their order
within_permuted : (rows ys : List QueueEntry) → IsPermutation rows ys → list_all (is_within ys) ys ≡ true → list_all (is_within rows) rows ≡ true
within_permuted rows ys moved passes =
    list_all-from_AllPass (is_within rows) rows
    (All-permutation (λ row. is_within rows row ≡ true) ys rows (IsPermutation-sym rows ys moved)
    (λ k d within. subst (λ (n : ℕ). nat_le n 64 ≡ true) (sum_by-IsPermutation _ rows ys moved) (AllPass-from_list_all (is_within ys) ys passes k d within)))

-- the same after two sorts
pub within_from_sorts : (rows one two : List QueueEntry) → IsPermutation rows one → IsPermutation one two → list_all (is_within two) two ≡ true → list_all (is_within rows) rows ≡ true
within_from_sorts rows one two moved again = within_permuted rows two (IsPermutation-trans rows one two moved again)
