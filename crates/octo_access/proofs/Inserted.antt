-- A list in order stays in order when an element is inserted after all that come before it.
use Rattle.std.proofs.Common.{◌≡◌, ℕ, ◌+◌, ◌<◌, ◌≤◌, suc, zero, Bool, true, false, cond, List, [], ◌∷◌, length, get_or, Option, Some, None, refl, arith, ◌∙◌, ap}
use Rattle.std.proofs.lemmas.List.Sums.{sum_by-cons}
use Rattle.std.specs.List.{insert, prefix_len, find, count_by}
use Rattle.std.specs.List.Sorted.{IsSortedBy}
use Rattle.std.specs.Cmp.{IsStrictWeakOrder}

module _ {X : Type 0} where
  -- the place is after a first element that comes before the new one, and else in front of it
  pub insert_past : (p : X → Bool) (row x : X) (xs : List X) → p x ≡ true → insert (x ∷ xs) (prefix_len p (x ∷ xs)) row ≡ x ∷ insert xs (prefix_len p xs) row
  insert_past p row x xs is = let e : 1 + prefix_len p xs ≡ suc (prefix_len p xs) = omega arith in rw (is, e) refl

  pub insert_here : (p : X → Bool) (row x : X) (xs : List X) → p x ≡ false → insert (x ∷ xs) (prefix_len p (x ∷ xs)) row ≡ row ∷ x ∷ xs
  insert_here p row x xs is = rw is refl

  sorted-tail : (lt : X → X → Bool) (x : X) (xs : List X) → IsSortedBy lt (x ∷ xs) → IsSortedBy lt xs
  sorted-tail lt x xs up = λ k d low high.
      let same : suc k + 1 ≡ suc (k + 1) = omega arith in
      rw same at (up (suc k) d (omega arith) (omega arith))

  sorted-head : (lt : X → X → Bool) (x : X) (xs : List X) → IsSortedBy lt (x ∷ xs) → (d : X) → 0 < length xs → lt (get_or xs 0 d) x ≡ false
  sorted-head lt x xs up d some = up 0 d (omega arith) (omega arith)

  sorted-cons : (lt : X → X → Bool) (x : X) (xs : List X) → ((d : X) → 0 < length xs → lt (get_or xs 0 d) x ≡ false) → IsSortedBy lt xs → IsSortedBy lt (x ∷ xs)
  sorted-cons lt x xs head tail zero d low high = head d (omega arith)
  sorted-cons lt x xs head tail (suc k) d low high =
      let same : suc k + 1 ≡ suc (k + 1) = omega arith in
      rw same (tail k d (omega arith) (omega arith))

  -- the first element after an insertion is the new one or the former first one
  first-inserted : (lt : X → X → Bool) (row x y : X) (ys : List X) (b : Bool) → lt y row ≡ b → lt row x ≡ false → lt y x ≡ false → (d : X) → lt (get_or (insert (y ∷ ys) (prefix_len (λ r. lt r row) (y ∷ ys)) row) 0 d) x ≡ false
  first-inserted lt row x y ys true is new former d = rw (insert_past (λ r. lt r row) row y ys is) former
  first-inserted lt row x y ys false is new former d = rw (insert_here (λ r. lt r row) row y ys is) new

  head-inserted : (lt : X → X → Bool) (row x : X) (xs : List X) → lt row x ≡ false → ((d : X) → 0 < length xs → lt (get_or xs 0 d) x ≡ false) → (d : X) → lt (get_or (insert xs (prefix_len (λ r. lt r row) xs) row) 0 d) x ≡ false
  head-inserted lt row x [] new former d = new
  head-inserted lt row x (y ∷ ys) new former d = first-inserted lt row x y ys (lt y row) refl new (former d (omega arith)) d

  inserted-more : (lt : X → X → Bool) (o : IsStrictWeakOrder lt) (row x : X) (xs : List X) (b : Bool) → lt x row ≡ b → IsSortedBy lt (x ∷ xs) → IsSortedBy lt (insert xs (prefix_len (λ r. lt r row) xs) row) → IsSortedBy lt (insert (x ∷ xs) (prefix_len (λ r. lt r row) (x ∷ xs)) row)
  inserted-more lt o row x xs true is up rest =
      let behind : (d : X) → 0 < length (insert xs (prefix_len (λ r. lt r row) xs) row) → lt (get_or (insert xs (prefix_len (λ r. lt r row) xs) row) 0 d) x ≡ false =
      λ d some. head-inserted lt row x xs (o.one_way x row is) (sorted-head lt x xs up) d in
      rw (insert_past (λ r. lt r row) row x xs is) (sorted-cons lt x (insert xs (prefix_len (λ r. lt r row) xs) row) behind rest)
  inserted-more lt o row x xs false is up rest =
      rw (insert_here (λ r. lt r row) row x xs is) (sorted-cons lt row (x ∷ xs) (λ d some. is) up)

  pub sorted-inserted : (lt : X → X → Bool) (o : IsStrictWeakOrder lt) (row : X) (xs : List X) → IsSortedBy lt xs → IsSortedBy lt (insert xs (prefix_len (λ r. lt r row) xs) row)
  sorted-inserted lt o row [] up = λ k d low high. absurd (omega arith)
  sorted-inserted lt o row (x ∷ xs) up = inserted-more lt o row x xs (lt x row) refl up (sorted-inserted lt o row xs (sorted-tail lt x xs up))

  -- what is nowhere found counts nothing
  count-none-more : (p : X → Bool) (x : X) (xs : List X) (b : Bool) → p x ≡ b → cond b (Some x) (find p xs) ≡ None → (find p xs ≡ None → count_by p xs ≡ 0) → count_by p (x ∷ xs) ≡ 0
  count-none-more p x xs true is h rest = absurd (cc)
  count-none-more p x xs false is h rest = sum_by-cons (λ y. cond (p y) 1 0) x xs ∙ rw (is, rest h) refl

  pub count-none : (p : X → Bool) (xs : List X) → find p xs ≡ None → count_by p xs ≡ 0
  count-none p [] h = refl
  count-none p (x ∷ xs) h = count-none-more p x xs (p x) refl h (count-none p xs)

  -- what is found counts at least one
  count-some-more : (p : X → Bool) (x y : X) (xs : List X) (b : Bool) → p x ≡ b → cond b (Some x) (find p xs) ≡ Some y → (find p xs ≡ Some y → 1 ≤ count_by p xs) → 1 ≤ count_by p (x ∷ xs)
  count-some-more p x y xs true is h rest = rw (sum_by-cons (λ z. cond (p z) 1 0) x xs, is) (omega arith)
  count-some-more p x y xs false is h rest = rw (sum_by-cons (λ z. cond (p z) 1 0) x xs, is) (let some : 1 ≤ count_by p xs = rest h in omega arith)

  pub count-some : (p : X → Bool) (y : X) (xs : List X) → find p xs ≡ Some y → 1 ≤ count_by p xs
  count-some p y [] h = absurd (cc)
  count-some p y (x ∷ xs) h = count-some-more p x y xs (p x) refl h (count-some p y xs)
