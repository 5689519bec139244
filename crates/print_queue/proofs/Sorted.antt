-- A sort makes sound rows lawful.
use Rattle.std.proofs.Common.{◌≡◌, ◌≢◌, ◌⊎◌, ℕ, ◌-◌, ◌<◌, ◌≤◌, inl, inr, true, List, length, get_or, refl, sym, ap, ◌∙◌, subst, arith}
use Rattle.std.specs.Cmp.{IsStrictWeakOrder}
use Rattle.std.specs.List.{AllPairs, swap}
use Rattle.std.specs.List.Sorted.{IsPermutation, IsSortedBy}
use Rattle.std.specs.Ordering.{is_lt}
use Rattle.std.proofs.lemmas.Grind.{common_steps}
use Rattle.std.proofs.lemmas.Bool.{cases_eq, cases_order, false≢true}
use Rattle.std.proofs.lemmas.List.{get_or_default}
use Rattle.std.proofs.lemmas.List.Edits.{swapped_from_swap, length-swap}
use Rattle.std.proofs.lemmas.List.Sorted.{IsPermutation-keeps, All-permutation, sum_by-IsPermutation, sorted_far}
use Rattle.print_queue.specs.declared.entry.QueueEntry.{QueueEntry}
use Rattle.print_queue.specs.Rows.{is_before, compared}
use Rattle.print_queue.specs.Lawful.{IsApart, IsWholeRow, IsSound, IsOrdered, IsLawful}
use Rattle.print_queue.proofs.Comparisons.{before_turned, before_one_way, apart_turned}

-- each two rows at different places are apart
abbrev AllApart : List QueueEntry → Type 0
AllApart rows = (i j : ℕ) (d : QueueEntry) → i ≢ j → i < length rows → j < length rows → IsApart (get_or rows i d) (get_or rows j d)

apart_all : (rows : List QueueEntry) → AllPairs IsApart rows → AllApart rows
apart_all rows pairs i j d other first second =
    elim (cases_order i j) [
      | inl same ↦ absurd (other same)
      | inr differ ↦ elim differ [
        | inl below ↦ pairs i j d below second
        | inr above ↦ apart_turned (get_or rows j d) (get_or rows i d) (pairs j i d above first)
      ]
    ]

-- where the row at a place came from, after two rows were swapped
record From (rows ys : List QueueEntry) (a b k : ℕ) (d : QueueEntry) : Type 0 where
  place : ℕ
  within : place < length rows
  same : get_or ys k d ≡ get_or rows place d
  which : ((k ≡ a) × (place ≡ b)) ⊎ (((k ≡ b) × (place ≡ a)) ⊎ ((k ≢ a) × (k ≢ b) × (place ≡ k)))

from_swap : (rows : List QueueEntry) (a b k : ℕ) (d : QueueEntry) → a < length rows → b < length rows → k < length rows → From rows (swap rows a b) a b k d
from_swap rows a b k d first second within =
    let moved = swapped_from_swap rows (swap rows a b) a b d first second refl in
    elim (cases_eq k a) [
      | inl at_a ↦ record { place = b; within = second; same = ap (λ (i : ℕ). get_or (swap rows a b) i d) at_a ∙ moved.0; which = inl (at_a, refl) }
      | inr not_a ↦ elim (cases_eq k b) [
        | inl at_b ↦ record { place = a; within = first; same = ap (λ (i : ℕ). get_or (swap rows a b) i d) at_b ∙ moved.1; which = inr (inl (at_b, refl)) }
        | inr not_b ↦ record { place = k; within = within; same = moved.2 k not_a not_b; which = inr (inr (not_a, not_b, refl)) }
      ]
    ]

from_apart : (rows ys : List QueueEntry) (a b i j : ℕ) (d : QueueEntry) (x : From rows ys a b i d) (y : From rows ys a b j d) → i ≢ j → x.place ≢ y.place
from_apart rows ys a b i j d x y other same = grind (arith, x.which, y.which)

swap_apart : (rows : List QueueEntry) (a b : ℕ) → a < length rows → b < length rows → AllApart rows → AllApart (swap rows a b)
swap_apart rows a b first second apart i j d other inside inside' =
    let size = length-swap rows a b in
    let x = from_swap rows a b i d first second (omega arith) in
    let y = from_swap rows a b j d first second (omega arith) in
    let differ = from_apart rows (swap rows a b) a b i j d x y other in
    subst (λ (e : QueueEntry). IsApart e (get_or (swap rows a b) j d)) (sym x.same)
    (subst (λ (e : QueueEntry). IsApart (get_or rows x.place d) e) (sym y.same) (apart x.place y.place d differ x.within y.within))

pub sound_permuted : (rows ys : List QueueEntry) → IsPermutation rows ys → IsSound rows → IsSound ys
sound_permuted rows ys moved sound =
    let apart = IsPermutation-keeps rows AllApart (apart_all rows sound.apart) swap_apart ys moved in
    record {
      apart = λ i j d below within. apart i j d (λ same. omega arith) (omega arith) within;
      whole = All-permutation IsWholeRow rows ys moved sound.whole;
      few = λ user. subst (λ (n : ℕ). n ≤ 64) (sym (sum_by-IsPermutation _ rows ys moved)) (sound.few user);
    }

pub before_weak : IsStrictWeakOrder is_before
before_weak = record {
  one_way = λ a b first. grind (arith, common_steps);
  chain = λ a b c first second. grind (arith, common_steps);
}

pub compared_less : (a b : QueueEntry) → is_lt (compared a b) ≡ is_before a b
compared_less a b = grind (arith, common_steps)

-- sorted rows of which no two have the same arrival are in their order
pub lawful_sorted : (rows ys : List QueueEntry) → IsSound rows → IsPermutation rows ys → IsSortedBy is_before ys → IsLawful ys
lawful_sorted rows ys sound moved up =
    let sound' = sound_permuted rows ys moved sound in
    record {
      sound = sound';
      ordered = λ i j d below within.
          before_turned (get_or ys j d) (get_or ys i d) (sorted_far is_before before_weak ys up i j d (omega arith) within) (λ same. (sound'.apart i j d below within).arrival (sym same));
    }

-- rows of which one is before the one in front of it aren't in order
pub not_ordered : (rows : List QueueEntry) (i : ℕ) (row front : QueueEntry) → 1 ≤ i → i < length rows → row ≡ get_or rows i row → front ≡ get_or rows (i - 1) front → is_before row front ≡ true → IsOrdered rows → ⊥
not_ordered rows i row front some within here there first ordered =
    let e = ordered (i - 1) i row (omega arith) within in
    let front' : front ≡ get_or rows (i - 1) row = there ∙ get_or_default rows (i - 1) front row (omega arith) in
    let turned : is_before front row ≡ true =
    ap (is_before front) here ∙ ap (λ (f : QueueEntry). is_before f (get_or rows i row)) front' ∙ e
    in
    false≢true (sym (before_one_way front row turned) ∙ first)
