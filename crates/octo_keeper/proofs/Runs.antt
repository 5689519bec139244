-- In entries sorted by user and name those of a user stand together, so that their number shows at their ends.
use Rattle.std.proofs.Common.{◌≡◌, ◌≢◌, ℕ, ◌+◌, ◌<◌, ◌≤◌, inl, inr, true, false, Bool, cond, List, [], ◌∷◌, length, get_or, suc, zero, nat_le, Some, refl, sym, ap, ◌∙◌, subst, arith}
use Rattle.std.specs.Cmp.Lexicographic.{slice_cmp}
use Rattle.std.specs.List.{AllPairs, list_all, count_by}
use Rattle.std.specs.Ordering.{nat_cmp, ordering_then, ordering_reverse, is_lt, is_eq}
use Rattle.std.specs.declared.cmp.Ordering.{Ordering}
use Rattle.std.specs.declared.cmp.Ordering.TheVariants.{Less, Equal, Greater}
use Rattle.std.proofs.lemmas.Bool.{cases_order, false_from_ne_true, true≢false}
use Rattle.std.proofs.lemmas.Cmp.{nat_list_cmp_total}
use Rattle.std.proofs.lemmas.Map.Lookups.{exact_bytes}
use Rattle.std.proofs.lemmas.Slice.Eq.{bytes_eq-Decides}
use Rattle.std.proofs.lemmas.Bool.Decides.{nat_tests}
use Rattle.std.proofs.lemmas.List.Sums.{list_all-from_AllPass, sum_by-cons}
use Rattle.print_queue.specs.declared.entry.QueueEntry.{QueueEntry}
use Rattle.print_queue.specs.Rows.{is_of}
use Rattle.octo_keeper.specs.declared.order.Order.TheVariants as order
use Rattle.octo_keeper.specs.Order.{compared, AreRunsShort}
use Rattle.octo_keeper.specs.Sound.{is_within}

one_more : (b : Bool) (k m : ℕ) → k ≤ m → cond b 1 0 + k ≤ suc m
one_more true k m few = omega arith
one_more false k m few = omega arith

-- if none from a place on passes, at most so many pass as stand before it
few_before : {X : Type 0} (p : X → Bool) (m : ℕ) (xs : List X) → ((k : ℕ) (d : X) → m ≤ k → k < length xs → p (get_or xs k d) ≡ false) → count_by p xs ≤ m
few_before p m [] none = omega arith
few_before p zero (x ∷ xs) none =
    let first : p x ≡ false = none 0 x (omega arith) (omega arith) in
    let rest : count_by p xs ≤ 0 = few_before p 0 xs (λ k d from within. none (suc k) d (omega arith) (omega arith)) in
    rw (sum_by-cons (λ z. cond (p z) 1 0) x xs, first) (omega arith)
few_before p (suc m) (x ∷ xs) none =
    let rest : count_by p xs ≤ m = few_before p m xs (λ k d from within. none (suc k) d (omega arith) (omega arith)) in
    rw (sum_by-cons (λ z. cond (p z) 1 0) x xs) (one_more (p x) (count_by p xs) m rest)

-- no two that pass are n places apart, or more
abbrev AreNear : {X : Type 0} → (X → Bool) → ℕ → List X → Type 0
AreNear {X} p n xs = (i j : ℕ) (d : X) → i < j → j < length xs → p (get_or xs i d) ≡ true → p (get_or xs j d) ≡ true → j < i + n

few_near_at : {X : Type 0} (p : X → Bool) (n : ℕ) (x : X) (xs : List X) (b : Bool) → p x ≡ b → AreNear p (suc n) (x ∷ xs) → count_by p xs ≤ suc n → cond b 1 0 + count_by p xs ≤ suc n
few_near_at p n x xs false is near rest = omega arith
few_near_at {X} p n x xs true is near rest =
    let fails : (k : ℕ) (d : X) → n ≤ k → k < length xs → p (get_or xs k d) ≡ false =
    λ k d from within. false_from_ne_true _ (λ passes. absurd (let far : suc k < 0 + suc n = near 0 (suc k) d (omega arith) (omega arith) is passes in omega arith))
    in
    let few : count_by p xs ≤ n = few_before p n xs fails in omega arith

-- then at most n pass
few_near : {X : Type 0} (p : X → Bool) (n : ℕ) (xs : List X) → AreNear p (suc n) xs → count_by p xs ≤ suc n
few_near p n [] near = omega arith
few_near p n (x ∷ xs) near =
    rw (sum_by-cons (λ z. cond (p z) 1 0) x xs) (few_near_at p n x xs (p x) refl near
    (few_near p n xs (λ i j d below within first second. let far : suc j < suc i + suc n = near (suc i) (suc j) d (omega arith) (omega arith) first second in omega arith)))

-- a name that comes neither after a second one nor before it is that one
same_between : (u v : List ℕ) (there back : Ordering) → slice_cmp nat_cmp u v ≡ there → slice_cmp nat_cmp v u ≡ back → there ≢ Greater → back ≢ Greater → u ≡ v
same_between u v Greater back is is' low high = absurd (low refl)
same_between u v Equal back is is' low high = exact_bytes u v is
same_between u v Less back is is' low high = absurd (high (sym is' ∙ nat_list_cmp_total.antisymm v u ∙ ap ordering_reverse is))

not_greater : (o then : Ordering) → ordering_then o then ≡ Less → o ≢ Greater
not_greater Less then less = λ is. absurd (true≢false (ap is_lt is))
not_greater Equal then less = λ is. absurd (true≢false (ap is_eq is))
not_greater Greater then less = λ is. absurd (true≢false (ap is_lt (sym less)))

-- a user of two entries is that of each between them
same_inside : (rows : List QueueEntry) → AllPairs (λ a b. compared order.Key a b ≡ Less) rows → (i m j : ℕ) (d : QueueEntry) → i < m → m < j → j < length rows → (get_or rows i d).user ≡ (get_or rows j d).user → (get_or rows m d).user ≡ (get_or rows i d).user
same_inside rows up i m j d first second within same =
    let a : QueueEntry = get_or rows i d in let b : QueueEntry = get_or rows m d in let c : QueueEntry = get_or rows j d in
    let low : slice_cmp nat_cmp a.user b.user ≢ Greater = not_greater _ (slice_cmp nat_cmp a.name b.name) (up i m d first (omega arith)) in
    let high : slice_cmp nat_cmp b.user a.user ≢ Greater =
    subst (λ (u : List ℕ). slice_cmp nat_cmp b.user u ≢ Greater) (sym same) (not_greater _ (slice_cmp nat_cmp b.name c.name) (up m j d second within)) in
    sym (same_between a.user b.user _ _ refl refl low high)

-- the entries of a user are near each other if none are so many places apart
near_from_runs : (rows : List QueueEntry) → AllPairs (λ a b. compared order.Key a b ≡ Less) rows → AreRunsShort rows → (user : List ℕ) → AreNear (is_of (Some user)) 64 rows
near_from_runs rows up short user i j d below within first second =
    let one : (get_or rows i d).user ≡ user = (bytes_eq-Decides (get_or rows i d).user user).0 first in
    let two : (get_or rows j d).user ≡ user = (bytes_eq-Decides (get_or rows j d).user user).0 second in
    elim (cases_order j (i + 64)) [
      | inl at ↦ absurd (true≢false (
          sym ((bytes_eq-Decides (get_or rows (i + 64) d).user (get_or rows i d).user).1 (ap (λ (k : ℕ). (get_or rows k d).user) (sym at) ∙ two ∙ sym one))
          ∙ short i d (subst (λ (k : ℕ). k < length rows) at within)))
      | inr differ ↦ elim differ [
        | inl before ↦ before
        | inr after ↦ absurd (true≢false (
            sym ((bytes_eq-Decides (get_or rows (i + 64) d).user (get_or rows i d).user).1 (same_inside rows up i (i + 64) j d (omega arith) after within (one ∙ sym two)))
            ∙ short i d (omega arith)))
      ]
    ]

few_passes : (user : List ℕ) (rows : List QueueEntry) → count_by (is_of (Some user)) rows ≤ 64 → nat_le (count_by (is_of (Some user)) rows) 64 ≡ true
few_passes user rows few = grind (arith, nat_tests)

-- entries that rise by user and name, none of which stands 64 places behind one of its user, are at most 64 of each user
pub within_from_runs : (rows : List QueueEntry) → AllPairs (λ a b. compared order.Key a b ≡ Less) rows → AreRunsShort rows → list_all (is_within rows) rows ≡ true
within_from_runs rows up short =
    list_all-from_AllPass (is_within rows) rows
    (λ k d within. few_passes (get_or rows k d).user rows (few_near (is_of (Some (get_or rows k d).user)) 63 rows (near_from_runs rows up short (get_or rows k d).user)))
