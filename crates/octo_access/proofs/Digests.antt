-- Two digests are equal if the bits in which they differ, all taken together, are zero.
use Rattle.std.proofs.Common.{◌≡◌, ℕ, ◌+◌, ◌<◌, Bool, true, false, ◌&&◌, ◌==◌, eqb-true, eq-eqb, List, length, drop, get_or, bit_or, bit_xor, bytes_eq, arith, refl, sym, ap, ap₂, ◌∙◌, true≢false}
use Rattle.std.specs.Int.Bits.{xor_self, xor_add_and}
use Rattle.std.proofs.lemmas.Nat.{le_or_l, le_or_r, and_le_l, and_le_r}
use Rattle.std.proofs.lemmas.List.{drop_more}

no_difference : (x y : ℕ) → bit_xor x y ≡ 0 → x ≡ y
no_difference x y none = omega (arith, none, xor_add_and x y, and_le_l x y, and_le_r x y)

same_tests : (s t : Bool) → (s ≡ true → t ≡ true) → (t ≡ true → s ≡ true) → s ≡ t
same_tests true t there back = sym (there refl)
same_tests false true there back = back refl
same_tests false false there back = refl

both : (s t : Bool) → s ≡ true → t ≡ true → (s && t) ≡ true
both true t first second = second
both false t first second = first

left_of : (s t : Bool) → (s && t) ≡ true → s ≡ true
left_of true t h = refl
left_of false t h = h

right_of : (s t : Bool) → (s && t) ≡ true → t ≡ true
right_of true t h = h
right_of false t h = absurd (true≢false (sym h))

and_assoc : (s t u : Bool) → (s && (t && u)) ≡ ((s && t) && u)
and_assoc true t u = refl
and_assoc false t u = refl

-- no bit differs so far and in these two bytes
or_xor_zero : (d x y : ℕ) → ((d == 0) && (x == y)) ≡ (bit_or d (bit_xor x y) == 0)
or_xor_zero d x y =
    same_tests ((d == 0) && (x == y)) (bit_or d (bit_xor x y) == 0)
    (λ h. let before : d ≡ 0 = eqb-true d 0 (left_of _ _ h) in
    let here : x ≡ y = eqb-true x y (right_of _ _ h) in
    let none : bit_or d (bit_xor x y) ≡ 0 = ap₂ (λ e z. bit_or e (bit_xor x z)) before (sym here) ∙ xor_self x in
    eq-eqb _ _ none)
    (λ h. let none : bit_or d (bit_xor x y) ≡ 0 = eqb-true _ _ h in
    let before : d ≡ 0 = omega (arith, none, le_or_l d (bit_xor x y)) in
    let here : bit_xor x y ≡ 0 = omega (arith, none, le_or_r d (bit_xor x y)) in
    both _ _ (eq-eqb _ _ before) (eq-eqb _ _ (no_difference x y here)))

-- what is known of two digests after one more byte of each
pub difference_step : (a b : List ℕ) (place d x y : ℕ) → place < length a → place < length b
    → ((d == 0) && bytes_eq (drop place a) (drop place b)) ≡ ((bit_or d (bit_xor (get_or a place x) (get_or b place y)) == 0) && bytes_eq (drop (place + 1) a) (drop (place + 1) b))
difference_step a b place d x y in_a in_b =
    ap₂ (λ u v. (d == 0) && bytes_eq u v) (drop_more a place x in_a) (drop_more b place y in_b)
    ∙ and_assoc (d == 0) (get_or a place x == get_or b place y) (bytes_eq (drop (place + 1) a) (drop (place + 1) b))
    ∙ ap (λ t. t && bytes_eq (drop (place + 1) a) (drop (place + 1) b)) (or_xor_zero d (get_or a place x) (get_or b place y))
