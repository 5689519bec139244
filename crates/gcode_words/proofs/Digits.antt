-- The value of digits grows by one digit, and six decimals stay small.
use Rattle.std.proofs.Common.{◌≡◌, ℕ, zero, suc, ◌+◌, ◌-◌, ◌*◌, ◌<◌, ◌≤◌, List, [], ◌∷◌, ◌++◌, length, take, get_or, replicate, refl, ap, ◌∙◌, arith, length-append, length-take}
use Rattle.std.proofs.lemmas.List.{length-replicate, get_or-replicate}
use Rattle.std.proofs.lemmas.List.Sums.{fold_more}
use Rattle.byte_text.specs.Number.{decimal_value, leading_digits}

pub decimal_value-more : (digits : List ℕ) (i : ℕ) → i < length digits → decimal_value (take (i + 1) digits) ≡ 10 * decimal_value (take i digits) + (get_or digits i 0 - 48)
unfolding decimal_value
decimal_value-more digits i h = fold_more (λ n digit. 10 * n + (digit - 48)) 0 digits i 0 h

-- a list filled up with zeros has a zero at each place past its end
get_or-filled : (digits : List ℕ) (n i : ℕ) → i < n → get_or (digits ++ replicate n 48) i 0 ≡ get_or digits i 48
get_or-filled [] n i h = get_or-replicate n i 48 0 h
get_or-filled (digit ∷ digits) n zero h = refl
get_or-filled (digit ∷ digits) n (suc i) h = get_or-filled digits n i (omega arith)

pub decimals-more : (decimals : List ℕ) (i : ℕ) → i < 6 → decimal_value (take (i + 1) (decimals ++ replicate 6 48)) ≡ 10 * decimal_value (take i (decimals ++ replicate 6 48)) + (get_or decimals i 48 - 48)
decimals-more decimals i h =
    let filled : 6 ≤ length (decimals ++ replicate 6 48) = omega (arith, length-append decimals (replicate 6 48), length-replicate {A = ℕ} 6 48) in
    decimal_value-more (decimals ++ replicate 6 48) i (omega arith)
    ∙ ap (λ d. 10 * decimal_value (take i (decimals ++ replicate 6 48)) + (d - 48)) (get_or-filled decimals 6 i h)

-- the most that this number of decimals can say, as a byte counts at most 207
abbrev most_decimals : List ℕ
most_decimals = 0 ∷ 207 ∷ 2277 ∷ 22977 ∷ 229977 ∷ 2299977 ∷ 22999977 ∷ []

abbrev pub at_most_decimals : ℕ → ℕ
at_most_decimals place = get_or most_decimals place 0

pub decimals-grow : (place value digit : ℕ) → place < 6 → value ≤ at_most_decimals place → digit ≤ 207 → value * 10 + digit ≤ at_most_decimals (place + 1)
decimals-grow zero value digit h below small = omega arith
decimals-grow (suc zero) value digit h below small = omega arith
decimals-grow (suc (suc zero)) value digit h below small = omega arith
decimals-grow (suc (suc (suc zero))) value digit h below small = omega arith
decimals-grow (suc (suc (suc (suc zero)))) value digit h below small = omega arith
decimals-grow (suc (suc (suc (suc (suc zero))))) value digit h below small = omega arith
decimals-grow (suc (suc (suc (suc (suc (suc place)))))) value digit h below small = absurd (omega arith)

pub decimals-small : (place : ℕ) → place ≤ 6 → at_most_decimals place ≤ 22999977
decimals-small zero h = omega arith
decimals-small (suc zero) h = omega arith
decimals-small (suc (suc zero)) h = omega arith
decimals-small (suc (suc (suc zero))) h = omega arith
decimals-small (suc (suc (suc (suc zero)))) h = omega arith
decimals-small (suc (suc (suc (suc (suc zero))))) h = omega arith
decimals-small (suc (suc (suc (suc (suc (suc zero)))))) h = omega arith
decimals-small (suc (suc (suc (suc (suc (suc (suc place))))))) h = absurd (omega arith)

-- no digits have the value 0
pub decimal_value-none : 0 ≡ decimal_value []
unfolding decimal_value
decimal_value-none = refl

pub digits_fit : (bytes : List ℕ) → length (leading_digits bytes) ≤ length bytes
unfolding leading_digits
digits_fit bytes = omega (arith, length-take {A = ℕ})

pub decimals-step : (decimals : List ℕ) (place value digit : ℕ) → place < 6 → value ≡ decimal_value (take place (decimals ++ replicate 6 48)) → digit ≡ get_or decimals place 48 - 48 → value * 10 + digit ≡ decimal_value (take (place + 1) (decimals ++ replicate 6 48))
decimals-step decimals place value digit h is e = let more = decimals-more decimals place h in omega arith
