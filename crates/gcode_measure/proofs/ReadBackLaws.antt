-- A number with six decimals is read back.
use Rattle.std.proofs.Common.{◌≡◌, ℕ, suc, ◌+◌, ◌-◌, ◌*◌, ◌/◌, ◌%◌, ◌^◌, ◌<◌, ◌≤◌, Bool, true, false, cond, nat_lt, ◌==◌, ◌||◌, ◌&&◌, List, [], ◌∷◌, ◌++◌, length, drop, ℤ, pos, negsuc, neg_ℤ, unsigned_abs, decimal, Option, Some, None, refl, ap, ◌∙◌, arith}
use Rattle.std.specs.List.{list_any, list_all, take_while}
use Rattle.std.specs.Char.{is_ascii_digit, is_ascii_alphabetic}
use Rattle.std.specs.Option.{option_map}
use Rattle.std.proofs.lemmas.Bool.{or_parts, and_parts}
use Rattle.std.proofs.lemmas.Bool.Decides.{nat_tests}
use Rattle.std.proofs.lemmas.Fmt.{decimal_nonempty, length-decimal-le}
use Rattle.std.proofs.lemmas.List.{append_assoc, length-append}
use Rattle.std.proofs.lemmas.List.Folds.{list_all-append}
use Rattle.std.proofs.lemmas.List.Sums.{take_while-cons}
use Rattle.std.proofs.Math.Seq.{drop-append_seam}
use native.Mathlib.Nat.{div-div-eq-div-mul}
use Rattle.byte_text.specs.Number.{leading_digits, decimal_value, begins_with_digit}
use Rattle.byte_text.proofs.NumberLaws.{all_digits-decimal, decimal_value-decimal}
use Rattle.gcode_words.specs.Value.{NumberAt, MagnitudeAt, millionths, micro_of, after_digits, decimals_at, after_decimals, magnitude_at, with_sign, is_negative, after_sign, number_at}
use Rattle.gcode_words.specs.Words.{value_at, words_of}
use Rattle.gcode_measure.specs.Decimal.{sign_text, six_digits, micro_text}

digit_of : (n : ℕ) → is_ascii_digit (48 + n % 10) ≡ true
digit_of n = grind (arith, nat_tests)

-- six digits are digits
six_digits-digits : (n : ℕ) → list_all is_ascii_digit (six_digits n) ≡ true
six_digits-digits n =
    let a = digit_of (n / 100000) in
    let b = digit_of (n / 10000) in
    let c = digit_of (n / 1000) in
    let d = digit_of (n / 100) in
    let e = digit_of (n / 10) in
    let f = digit_of n in
    rw (a, b, c, d, e, f) refl

-- what the next digit makes of a number
abbrev grown : ℕ → ℕ → ℕ
grown n digit = 10 * n + (digit - 48)

grown-digit : (n digit : ℕ) → grown n (48 + digit) ≡ 10 * n + digit
grown-digit n digit = omega arith

-- a quotient with its next digit
quotient : (n k : ℕ) → 10 * (n / (k * 10)) + n / k % 10 ≡ n / k
quotient n k = let e = div-div-eq-div-mul n k 10 in omega arith

grown-quotient : (n k : ℕ) → grown (n / (k * 10)) (48 + n / k % 10) ≡ n / k
grown-quotient n k = grown-digit (n / (k * 10)) (n / k % 10) ∙ quotient n k

decimal_value-six : (n : ℕ) → n < 1000000 → decimal_value (six_digits n) ≡ n
unfolding decimal_value
decimal_value-six n small =
    let top : n / 100000 < 10 = omega arith in
    let first : grown 0 (48 + n / 100000 % 10) ≡ n / 100000 = grown-digit 0 (n / 100000 % 10) ∙ omega arith in
    let last : grown (n / 10) (48 + n % 10) ≡ n = grown-digit (n / 10) (n % 10) ∙ omega arith in
    ap (λ v. grown (grown (grown (grown (grown v (48 + n / 10000 % 10)) (48 + n / 1000 % 10)) (48 + n / 100 % 10)) (48 + n / 10 % 10)) (48 + n % 10)) first
    ∙ ap (λ v. grown (grown (grown (grown v (48 + n / 1000 % 10)) (48 + n / 100 % 10)) (48 + n / 10 % 10)) (48 + n % 10)) (grown-quotient n 10000)
    ∙ ap (λ v. grown (grown (grown v (48 + n / 100 % 10)) (48 + n / 10 % 10)) (48 + n % 10)) (grown-quotient n 1000)
    ∙ ap (λ v. grown (grown v (48 + n / 10 % 10)) (48 + n % 10)) (grown-quotient n 100)
    ∙ ap (λ v. grown v (48 + n % 10)) (grown-quotient n 10)
    ∙ last

-- digits are read up to what follows them
leading_digits-append : (digits rest : List ℕ) → list_all is_ascii_digit digits ≡ true → begins_with_digit rest ≡ false →
    leading_digits (digits ++ rest) ≡ digits
unfolding leading_digits begins_with_digit
leading_digits-append [] [] each other = refl
leading_digits-append [] (byte ∷ rest) each other =
    take_while-cons is_ascii_digit byte rest ∙ ap (λ t. cond t (byte ∷ take_while is_ascii_digit rest) []) other
leading_digits-append (digit ∷ digits) rest each other =
    let parts = and_parts (is_ascii_digit digit) (list_all is_ascii_digit digits) each in
    take_while-cons is_ascii_digit digit (digits ++ rest)
    ∙ ap (λ t. cond t (digit ∷ take_while is_ascii_digit (digits ++ rest)) []) parts.0
    ∙ ap (λ ds. digit ∷ ds) (leading_digits-append digits rest parts.1 other)

after_digits-append : (digits rest : List ℕ) → list_all is_ascii_digit digits ≡ true → begins_with_digit rest ≡ false → after_digits (digits ++ rest) ≡ rest
unfolding after_digits
after_digits-append digits rest each other =
    ap (λ ds. drop (length ds) (digits ++ rest)) (leading_digits-append digits rest each other) ∙ drop-append_seam digits rest

millionths-six : (n : ℕ) → n < 1000000 → millionths (six_digits n) ≡ n
unfolding millionths
millionths-six n small = decimal_value-six n small

micro_of-parts : (m n : ℕ) → m ≤ 9000000000000 → n < 1000000 → micro_of (decimal m) (six_digits n) ≡ m * 1000000 + n
unfolding micro_of
micro_of-parts m n most small =
    let whole = decimal_value-decimal m (omega arith) in
    let part = millionths-six n small in
    let test : nat_lt 9000000000000 m ≡ false = grind (arith, nat_tests) in
    rw (whole, part, test) refl

point-not_digit : (rest : List ℕ) → begins_with_digit (46 ∷ rest) ≡ false
unfolding begins_with_digit
point-not_digit rest = refl

decimals_at-point : (rest : List ℕ) → decimals_at (46 ∷ rest) ≡ leading_digits rest
unfolding decimals_at
decimals_at-point rest = refl

after_decimals-point : (rest : List ℕ) → after_decimals (46 ∷ rest) ≡ after_digits rest
unfolding after_decimals
after_decimals-point rest = refl

abbrev magnitude_by : List ℕ → List ℕ → List ℕ → Option MagnitudeAt
magnitude_by whole decimals rest =
    cond (length whole + length decimals == 0) None (Some (record { micro = micro_of whole decimals; rest = rest }))

magnitude_by-six : (m n : ℕ) (rest : List ℕ) → magnitude_by (decimal m) (six_digits n) rest ≡ Some
    (record { micro = micro_of (decimal m) (six_digits n); rest = rest })
magnitude_by-six m n rest =
    let test : (length (decimal m) + 6 == 0) ≡ false = grind (arith, nat_tests) in
    rw test refl

magnitude_at-parts : (m n : ℕ) (rest : List ℕ) → m ≤ 9000000000000 → n < 1000000 → begins_with_digit rest ≡ false →
    magnitude_at (decimal m ++ ((46 ∷ six_digits n) ++ rest)) ≡ Some (record { micro = m * 1000000 + n; rest = rest })
unfolding magnitude_at
magnitude_at-parts m n rest most small other =
    let digits = all_digits-decimal m (omega arith) in
    let behind : List ℕ = (46 ∷ six_digits n) ++ rest in
    let whole = leading_digits-append (decimal m) ((46 ∷ six_digits n) ++ rest) digits (point-not_digit (six_digits n ++ rest)) in
    let after = after_digits-append (decimal m) ((46 ∷ six_digits n) ++ rest) digits (point-not_digit (six_digits n ++ rest)) in
    let decimals : decimals_at ((46 ∷ six_digits n) ++ rest) ≡ six_digits n = decimals_at-point (six_digits n ++ rest)
    ∙ leading_digits-append (six_digits n) rest (six_digits-digits n) other in
    let left : after_decimals ((46 ∷ six_digits n) ++ rest) ≡ rest = after_decimals-point (six_digits n ++ rest)
    ∙ after_digits-append (six_digits n) rest (six_digits-digits n) other in
    ap (λ w. magnitude_by w (decimals_at (after_digits (decimal m ++ behind))) (after_decimals (after_digits (decimal m ++ behind)))) whole
    ∙ ap (λ b. magnitude_by (decimal m) (decimals_at b) (after_decimals b)) after
    ∙ ap (λ d. magnitude_by (decimal m) d (after_decimals behind)) decimals
    ∙ ap (magnitude_by (decimal m) (six_digits n)) left
    ∙ magnitude_by-six m n rest
    ∙ ap (λ k. Some (record { micro = k; rest = rest })) (micro_of-parts m n most small)

signed_by : (digit : ℕ) → is_ascii_digit digit ≡ true → ((digit == 45) ≡ false) × ((digit == 43) ≡ false)
signed_by digit h = (grind (arith, nat_tests), grind (arith, nat_tests))

unsigned : (digits rest : List ℕ) → 0 < length digits → list_all is_ascii_digit digits ≡ true →
    (is_negative (digits ++ rest) ≡ false) × (after_sign (digits ++ rest) ≡ digits ++ rest)
unsigned [] rest some each = absurd (omega arith)
unsigned (digit ∷ digits) rest some each =
    let parts = and_parts (is_ascii_digit digit) (list_all is_ascii_digit digits) each in
    let not = signed_by digit parts.0 in (
      not.0,
      ap (λ t. cond (t || digit == 43) (digits ++ rest) (digit ∷ (digits ++ rest))) not.0
          ∙ ap (λ t. cond t (digits ++ rest) (digit ∷ (digits ++ rest))) not.1,
    )

-- a size's whole and decimal parts
size-parts : (size : ℕ) → size / 1000000 * 1000000 + size % 1000000 ≡ size
size-parts size = omega arith

number_at-unsigned : (size : ℕ) (rest : List ℕ) → size ≤ 1000000000000 → begins_with_digit rest ≡ false →
    number_at (decimal (size / 1000000) ++ ((46 ∷ six_digits (size % 1000000)) ++ rest)) ≡ Some (record { micro = pos size; rest = rest })
unfolding number_at
number_at-unsigned size rest most other =
    let small : size / 1000000 ≤ 9000000000000 = omega arith in
    let low : size / 1000000 < 2 ^ 64 = omega arith in
    let behind : List ℕ = (46 ∷ six_digits (size % 1000000)) ++ rest in
    let bare = unsigned (decimal (size / 1000000)) ((46 ∷ six_digits (size % 1000000)) ++ rest) (decimal_nonempty (size / 1000000) low)
    (all_digits-decimal (size / 1000000) low) in
    ap (λ t. option_map (with_sign t) (magnitude_at (after_sign (decimal (size / 1000000) ++ behind)))) bare.0
    ∙ ap (λ bytes. option_map (with_sign false) (magnitude_at bytes)) bare.1
    ∙ ap (option_map (with_sign false)) (magnitude_at-parts (size / 1000000) (size % 1000000) rest small (omega arith) other)
    ∙ ap (λ n. Some (record { micro = pos n; rest = rest })) (size-parts size)

number_at-negative : (size : ℕ) (rest : List ℕ) → size ≤ 1000000000000 → begins_with_digit rest ≡ false →
    number_at (45 ∷ (decimal (size / 1000000) ++ ((46 ∷ six_digits (size % 1000000)) ++ rest))) ≡ Some (record { micro = neg_ℤ (pos size); rest = rest })
unfolding number_at
number_at-negative size rest most other =
    let small : size / 1000000 ≤ 9000000000000 = omega arith in
    ap (option_map (with_sign true)) (magnitude_at-parts (size / 1000000) (size % 1000000) rest small (omega arith) other)
    ∙ ap (λ n. Some (record { micro = neg_ℤ (pos n); rest = rest })) (size-parts size)

-- a number is read back, whatever follows it but a digit
pub number_at-micro_text : (micro : ℤ) (rest : List ℕ) → unsigned_abs micro ≤ 1000000000000 → begins_with_digit rest ≡ false →
    number_at (micro_text micro ++ rest) ≡ Some (record { micro = micro; rest = rest })
unfolding micro_text
number_at-micro_text (pos size) rest most other =
    ap number_at (append_assoc (decimal (size / 1000000)) (46 ∷ six_digits (size % 1000000)) rest) ∙ number_at-unsigned size rest most other
number_at-micro_text (negsuc size) rest most other =
    ap (λ bytes. number_at (45 ∷ bytes)) (append_assoc (decimal (suc size / 1000000)) (46 ∷ six_digits (suc size % 1000000)) rest)
    ∙ number_at-negative (suc size) rest most other

-- the value that a number is read as
pub value_at-micro_text : (micro : ℤ) (rest : List ℕ) → unsigned_abs micro ≤ 1000000000000 → begins_with_digit rest ≡ false →
    value_at (micro_text micro ++ rest) ≡ Some micro
unfolding value_at
value_at-micro_text micro rest most other = ap (option_map (λ (n : NumberAt). n.micro)) (number_at-micro_text micro rest most other)

-- whether a byte may be in a number
abbrev pub is_numeral : ℕ → Bool
is_numeral byte = is_ascii_digit byte || byte == 45 || byte == 46

numerals-digits : (digits : List ℕ) → list_all is_ascii_digit digits ≡ true → list_all is_numeral digits ≡ true
numerals-digits [] each = refl
numerals-digits (digit ∷ digits) each =
    let parts = and_parts (is_ascii_digit digit) (list_all is_ascii_digit digits) each in
    ap (λ t. (t || digit == 45 || digit == 46) && list_all is_numeral digits) parts.0 ∙ numerals-digits digits parts.1

sign_text-numerals : (micro : ℤ) → list_all is_numeral (sign_text micro) ≡ true
sign_text-numerals (pos n) = refl
sign_text-numerals (negsuc n) = refl

-- all bytes of a number may be in a number
pub micro_text-numerals : (micro : ℤ) → unsigned_abs micro ≤ 1000000000000 → list_all is_numeral (micro_text micro) ≡ true
unfolding micro_text
micro_text-numerals micro most =
    let whole : List ℕ = decimal (unsigned_abs micro / 1000000) in
    let part : List ℕ = six_digits (unsigned_abs micro % 1000000) in
    let sign = sign_text-numerals micro in
    let digits = numerals-digits (decimal (unsigned_abs micro / 1000000)) (all_digits-decimal (unsigned_abs micro / 1000000) (omega arith)) in
    let decimals = numerals-digits (six_digits (unsigned_abs micro % 1000000)) (six_digits-digits (unsigned_abs micro % 1000000)) in
    list_all-append is_numeral (sign_text micro ++ whole) (46 ∷ part)
    ∙ ap (λ t. t && list_all is_numeral part) (list_all-append is_numeral (sign_text micro) whole ∙ ap (λ t. t && list_all is_numeral whole) sign ∙ digits)
    ∙ decimals

sign_text-short : (micro : ℤ) → length (sign_text micro) ≤ 1
sign_text-short (pos n) = omega arith
sign_text-short (negsuc n) = omega arith

-- a number has at most 15 bytes
pub micro_text-short : (micro : ℤ) → unsigned_abs micro ≤ 1000000000000 → length (micro_text micro) ≤ 15
unfolding micro_text
micro_text-short micro most =
    let sign = sign_text-short micro in
    let whole = length-decimal-le 7 (unsigned_abs micro / 1000000) (omega arith) (omega arith) (omega arith) in
    omega (
      arith,
      length-append (sign_text micro ++ decimal (unsigned_abs micro / 1000000)) (46 ∷ six_digits (unsigned_abs micro % 1000000)),
      length-append (sign_text micro) (decimal (unsigned_abs micro / 1000000)),
    )

-- what begins no word is passed over
pub words_of-passed : (bytes rest : List ℕ) → list_any is_ascii_alphabetic bytes ≡ false → words_of (bytes ++ rest) ≡ words_of rest
words_of-passed [] rest h = refl
words_of-passed (byte ∷ bytes) rest h =
    let parts = or_parts (is_ascii_alphabetic byte) (list_any is_ascii_alphabetic bytes) h in
    let here = parts.0 in
    rw here (words_of-passed bytes rest parts.1)
