-- A list with another element at one place.
use Rattle.std.proofs.Common.{◌≡◌, ◌≢◌, ◌⊎◌, inl, inr, ℕ, zero, suc, ◌<◌, ◌≤◌, List, [], ◌∷◌, ◌++◌, length, Some, refl, sym, ◌∙◌, ap, arith}
use Rattle.std.specs.Prelude.{slice_get, slice_set}

-- no number is below another one and not
pub never : {A : Type 0} (i n : ℕ) → i < n → n ≤ i → A
never i n less more = (let no : ◌≡◌ {A = ℕ} 0 1 = omega (arith, less, more) in absurd (cc no))

module _ {X : Type 0} where
  -- there is an element at each place
  pub place : (xs : List X) (i : ℕ) → i < length xs → (x : X) × (slice_get xs i ≡ Some x)
  place [] i within = never i 0 within (omega arith)
  place (x ∷ xs) zero within = (x, refl)
  place (x ∷ xs) (suc i) within = place xs i (omega (arith, within))

  -- the element that was set
  pub get_same : (xs : List X) (i : ℕ) (x y : X) → slice_get xs i ≡ Some y → slice_get (slice_set xs i x) i ≡ Some x
  get_same [] i x y is = absurd (cc is)
  get_same (z ∷ xs) zero x y is = refl
  get_same (z ∷ xs) (suc i) x y is = get_same xs i x y is

  -- the others
  pub get_other : (xs : List X) (i j : ℕ) (x : X) → j ≢ i → slice_get (slice_set xs i x) j ≡ slice_get xs j
  get_other [] i j x not = refl
  get_other (z ∷ xs) zero zero x not = absurd (not refl)
  get_other (z ∷ xs) zero (suc j) x not = refl
  get_other (z ∷ xs) (suc i) zero x not = refl
  get_other (z ∷ xs) (suc i) (suc j) x not = get_other xs i j x (λ same. not (ap suc same))

  -- two elements at one place
  pub same_place : (xs : List X) (i : ℕ) (x y : X) → slice_get xs i ≡ Some x → slice_get xs i ≡ Some y → x ≡ y
  same_place xs i x y one other = some_same (sym one ∙ other)
    where
      some_same : {a b : X} → Some a ≡ Some b → a ≡ b
      some_same is = cc is

-- an element of a list with one more at its end
pub last_or : {X : Type 0} (xs : List X) (y : X) (i : ℕ) (b : X) → slice_get (xs ++ y ∷ []) i ≡ Some b → (slice_get xs i ≡ Some b) ⊎ (y ≡ b)
last_or [] y zero b is = inr (cc is)
last_or [] y (suc i) b is = absurd (cc is)
last_or (x ∷ xs) y zero b is = inl is
last_or (x ∷ xs) y (suc i) b is = last_or xs y i b is

-- two numbers are the same, or they aren't
pub same_or : (i j : ℕ) → (i ≡ j) ⊎ (i ≢ j)
same_or zero zero = inl refl
same_or zero (suc j) = inr (λ same. absurd (cc same))
same_or (suc i) zero = inr (λ same. absurd (cc same))
same_or (suc i) (suc j) = by (same_or i j)
  where
    by : (i ≡ j) ⊎ (i ≢ j) → (suc i ≡ suc j) ⊎ (suc i ≢ suc j)
    by (inl same) = inl (ap suc same)
    by (inr not) = inr (λ same. not (omega (arith, same)))
