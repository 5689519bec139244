-- What is found in a list, and how often.
use Rattle.std.proofs.Common.{◌≡◌, ℕ, ◌+◌, ◌<◌, ◌≤◌, suc, zero, Bool, true, false, cond, List, [], ◌∷◌, length, get_or, Option, Some, None, IsSome, is_some, refl, arith, ◌∙◌, ap, sym}
use Rattle.std.proofs.lemmas.List.Sums.{sum_by-cons}
use Rattle.std.specs.List.{find, count_by, position_or_len}
use Rattle.octo_access.proofs.Inserted.{count-some}

module _ {X : Type 0} where
  found-place-more : (p : X → Bool) (x y : X) (xs : List X) (b : Bool) → p x ≡ b → cond b (Some x) (find p xs) ≡ Some y → (find p xs ≡ Some y → position_or_len p xs < length xs) → position_or_len p (x ∷ xs) < length (x ∷ xs)
  found-place-more p x y xs true is h rest = rw is (omega arith)
  found-place-more p x y xs false is h rest = rw is (let below : position_or_len p xs < length xs = rest h in omega arith)

  -- what is found has a place
  pub found-place : (p : X → Bool) (y : X) (xs : List X) → find p xs ≡ Some y → position_or_len p xs < length xs
  found-place p y [] h = absurd (cc)
  found-place p y (x ∷ xs) h = found-place-more p x y xs (p x) refl h (found-place p y xs)

  found-there-more : (p : X → Bool) (x y d : X) (xs : List X) (b : Bool) → p x ≡ b → cond b (Some x) (find p xs) ≡ Some y → (find p xs ≡ Some y → get_or xs (position_or_len p xs) d ≡ y) → get_or (x ∷ xs) (position_or_len p (x ∷ xs)) d ≡ y
  found-there-more p x y d xs true is h rest = rw is (cc)
  found-there-more p x y d xs false is h rest = let e : 1 + position_or_len p xs ≡ suc (position_or_len p xs) = omega arith in rw (is, e) (rest h)

  -- and is the element at that place
  pub found-there : (p : X → Bool) (y d : X) (xs : List X) → find p xs ≡ Some y → get_or xs (position_or_len p xs) d ≡ y
  found-there p y d [] h = absurd (cc)
  found-there p y d (x ∷ xs) h = found-there-more p x y d xs (p x) refl h (found-there p y d xs)

  found-passes-more : (p : X → Bool) (x y : X) (xs : List X) (b : Bool) → p x ≡ b → cond b (Some x) (find p xs) ≡ Some y → (find p xs ≡ Some y → p y ≡ true) → p y ≡ true
  found-passes-more p x y xs true is h rest = let e : x ≡ y = cc in rw (← e) is
  found-passes-more p x y xs false is h rest = rest h

  -- and passes the test
  pub found-passes : (p : X → Bool) (y : X) (xs : List X) → find p xs ≡ Some y → p y ≡ true
  found-passes p y [] h = absurd (cc)
  found-passes p y (x ∷ xs) h = found-passes-more p x y xs (p x) refl h (found-passes p y xs)

  found-counts-more : (p q : X → Bool) (x y : X) (xs : List X) (b : Bool) → p x ≡ b → q y ≡ true → cond b (Some x) (find p xs) ≡ Some y → (find p xs ≡ Some y → 1 ≤ count_by q xs) → 1 ≤ count_by q (x ∷ xs)
  found-counts-more p q x y xs true is passes h rest =
      let e : q x ≡ true = (let same : x ≡ y = cc in rw same passes) in
      rw (sum_by-cons (λ z. cond (q z) 1 0) x xs, e) (omega arith)
  found-counts-more p q x y xs false is passes h rest =
      rw (sum_by-cons (λ z. cond (q z) 1 0) x xs) (let some : 1 ≤ count_by q xs = rest h in omega arith)

  -- what is found by one test counts by another one that it passes
  found-counts : (p q : X → Bool) (y : X) (xs : List X) → q y ≡ true → find p xs ≡ Some y → 1 ≤ count_by q xs
  found-counts p q y [] passes h = absurd (cc)
  found-counts p q y (x ∷ xs) passes h = found-counts-more p q x y xs (p x) refl passes h (found-counts p q y xs passes)

  only-one-here : (p q : X → Bool) (x y : X) (xs : List X) (b e : Bool) → p x ≡ b → q x ≡ e → q y ≡ true → cond b (Some x) (find p xs) ≡ Some y → cond e 1 0 + count_by q xs ≤ 1 → (find p xs ≡ Some y → 1 ≤ count_by q xs) → (find p xs ≡ Some y → count_by q xs ≤ 1 → find q xs ≡ Some y) → find q (x ∷ xs) ≡ Some y
  only-one-here p q x y xs true true is other passes h few more rest = rw other h
  only-one-here p q x y xs true false is other passes h few more rest =
      absurd (let same : x ≡ y = cc in let e : q x ≡ true = rw same passes in cc)
  only-one-here p q x y xs false true is other passes h few more rest = absurd (let some : 1 ≤ count_by q xs = more h in omega arith)
  only-one-here p q x y xs false false is other passes h few more rest = rw other (rest h (omega arith))

  -- what passes a test that at most one element passes is found by it
  pub only-one : (p q : X → Bool) (y : X) (xs : List X) → q y ≡ true → find p xs ≡ Some y → count_by q xs ≤ 1 → find q xs ≡ Some y
  only-one p q y [] passes h few = absurd (cc)
  only-one p q y (x ∷ xs) passes h few =
      only-one-here p q x y xs (p x) (q x) refl refl passes h (rw (sum_by-cons (λ z. cond (q z) 1 0) x xs) at few) (found-counts p q y xs passes) (only-one p q y xs passes)
