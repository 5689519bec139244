-- Laws of lists, over the words of std alone.
use Rattle.std.proofs.Common.{◌≡◌, ◌≤◌, ℕ, zero, suc, Bool, true, false, cond, List, [], ◌∷◌, ◌++◌, take, refl, ap, arith}
use Rattle.std.proofs.lemmas.List.Sums.{sum_by-cons}
use Rattle.std.specs.List.{count_by, filter}

-- what is cut off once stays cut off
pub take_once : {X : Type 0} (n : ℕ) (xs ys : List X) → take n (take n xs ++ ys) ≡ take n (xs ++ ys)
take_once zero xs ys = refl
take_once (suc n) [] ys = refl
take_once (suc n) (x ∷ xs) ys = ap (λ l. x ∷ l) (take_once n xs ys)

-- lists of one element are the same only if the elements are
pub head_same : {X : Type 0} (x y : X) → x ∷ [] ≡ y ∷ [] → x ≡ y
head_same x y is = cc

-- a list with an element in it isn't empty
pub never_empty : {X : Type 0} (xs : List X) (y : X) (ys : List X) → [] ≡ xs ++ y ∷ ys → ⊥
never_empty [] y ys same = absurd (cc)
never_empty (x ∷ xs) y ys same = absurd (cc)

module _ {X : Type 0} where
  count-filter-more : (p q : X → Bool) (x : X) (xs : List X) (b : Bool) → q x ≡ b → count_by p (filter q xs) ≤ count_by p xs → count_by p (filter q (x ∷ xs)) ≤ count_by p (x ∷ xs)
  count-filter-more p q x xs true is rest = rw (is, sum_by-cons (λ z. cond (p z) 1 0) x xs, sum_by-cons (λ z. cond (p z) 1 0) x (filter q xs)) (omega arith)
  count-filter-more p q x xs false is rest = rw (is, sum_by-cons (λ z. cond (p z) 1 0) x xs) (omega arith)

  -- no more elements pass a test after a filter
  pub count-filter : (p q : X → Bool) (xs : List X) → count_by p (filter q xs) ≤ count_by p xs
  count-filter p q [] = omega arith
  count-filter p q (x ∷ xs) = count-filter-more p q x xs (q x) refl (count-filter p q xs)
