-- Numbers at the front of bytes: a step of the reader, and what is read of a number in decimal.
use Rattle.std.proofs.Common.{◌≡◌, ℕ, ◌+◌, ◌-◌, ◌*◌, ◌<◌, ◌≤◌, ◌^◌, true, false, cond, ◌==◌, List, [], ◌∷◌, ◌++◌, length, get_or, take, drop, fold, min, decimal, sym, ap, ◌∙◌, refl, arith, rules}
use Rattle.std.specs.Char.{is_ascii_digit}
use Rattle.std.specs.List.{list_all, list_any, prefix_len, take_while}
use Rattle.std.proofs.lemmas.Bool.{and_parts, or_from, ne_eqb, false≢true}
use Rattle.std.proofs.lemmas.List.Sums.{take_while-cons}
use Rattle.std.proofs.lemmas.List.{take_at, drop_all, drop_more}
use Rattle.std.proofs.lemmas.Fmt.{digits_decimal, digits_value-decimal}
use Rattle.std.proofs.lemmas.Str.Parse.{IsNumeralModel, numerals_by_fold}
use Rattle.byte_text.specs.Marks.{has_byte}
use Rattle.byte_text.specs.Number.{leading_digits, decimal_value, number_of, begins_with_digit}

-- the reader's value after one more digit
abbrev pub next_value : ℕ → ℕ → ℕ
next_value n digit = 10 * n + (digit - 48)

-- what a reader with a value in hand makes of what is left
unfoldable pub number_after : ℕ → List ℕ → ℕ
number_after n bytes = min (fold next_value n (leading_digits bytes)) 4294967295

pub number_after-start : (bytes : List ℕ) → number_of bytes ≡ number_after 0 bytes
unfolding number_of decimal_value number_after
number_after-start bytes = refl

pub number_after-end : (n : ℕ) → n ≤ 4294967295 → number_after n [] ≡ n
unfolding number_after leading_digits
number_after-end n small = omega arith

pub number_after-stop : (n byte : ℕ) (bytes : List ℕ) → n ≤ 4294967295 → is_ascii_digit byte ≡ false → number_after n (byte ∷ bytes) ≡ n
unfolding number_after leading_digits
number_after-stop n byte bytes small other =
    ap (λ digits. min (fold next_value n digits) 4294967295) (take_while-cons is_ascii_digit byte bytes ∙ ap (λ b. cond b (byte ∷ take_while is_ascii_digit bytes) []) other)
    ∙ omega arith

next_cut : (n digit : ℕ) → min (next_value (min n 4294967295) digit) 4294967295 ≡ min (next_value n digit) 4294967295
next_cut n digit = omega arith

-- a value cut at the ceiling reads on to the same number
fold_cut : (n : ℕ) (digits : List ℕ) → min (fold next_value (min n 4294967295) digits) 4294967295 ≡ min (fold next_value n digits) 4294967295
fold_cut n [] = omega arith
fold_cut n (digit ∷ digits) =
    sym (fold_cut (next_value (min n 4294967295) digit) digits)
    ∙ ap (λ m. min (fold next_value m digits) 4294967295) (next_cut n digit)
    ∙ fold_cut (next_value n digit) digits

pub number_after-step : (n byte : ℕ) (bytes : List ℕ) → is_ascii_digit byte ≡ true → number_after n (byte ∷ bytes) ≡ number_after (min (next_value n byte) 4294967295) bytes
unfolding number_after leading_digits
number_after-step n byte bytes digit =
    ap (λ digits. min (fold next_value n digits) 4294967295) (take_while-cons is_ascii_digit byte bytes ∙ ap (λ b. cond b (byte ∷ take_while is_ascii_digit bytes) []) digit)
    ∙ sym (fold_cut (next_value n byte) (take_while is_ascii_digit bytes))

-- the same at a place in the bytes
pub number_after_end : (n : ℕ) (bytes : List ℕ) (i : ℕ) → length bytes ≤ i → n ≤ 4294967295 → number_after n (drop i bytes) ≡ n
number_after_end n bytes i past small = ap (number_after n) (drop_all i bytes past) ∙ number_after-end n small

pub number_after_stop : (n : ℕ) (bytes : List ℕ) (i : ℕ) → i < length bytes → n ≤ 4294967295 → is_ascii_digit (get_or bytes i 0) ≡ false → number_after n (drop i bytes) ≡ n
number_after_stop n bytes i within small other =
    ap (number_after n) (drop_more bytes i 0 within) ∙ number_after-stop n (get_or bytes i 0) (drop (i + 1) bytes) small other

pub number_after_step : (n : ℕ) (bytes : List ℕ) (i : ℕ) → i < length bytes → is_ascii_digit (get_or bytes i 0) ≡ true → number_after n (drop i bytes) ≡ number_after (min (next_value n (get_or bytes i 0)) 4294967295) (drop (i + 1) bytes)
number_after_step n bytes i within digit =
    ap (number_after n) (drop_more bytes i 0 within) ∙ number_after-step n (get_or bytes i 0) (drop (i + 1) bytes) digit

numerals : IsNumeralModel (λ digits. list_all is_ascii_digit digits ≡ true) (fold next_value 0)
numerals = numerals_by_fold _ (search rules) (λ n digits. fold next_value n digits) (search rules)

pub all_digits-decimal : (n : ℕ) → n < 2 ^ 64 → list_all is_ascii_digit (decimal n) ≡ true
all_digits-decimal n small = digits_decimal numerals n small

pub decimal_value-decimal : (n : ℕ) → n < 2 ^ 64 → decimal_value (decimal n) ≡ n
unfolding decimal_value
decimal_value-decimal n small = digits_value-decimal numerals n small

prefix_len-digits : (digits rest : List ℕ) → list_all is_ascii_digit digits ≡ true → begins_with_digit rest ≡ false → prefix_len is_ascii_digit (digits ++ rest) ≡ length digits
unfolding begins_with_digit
prefix_len-digits [] [] each other = refl
prefix_len-digits [] (byte ∷ rest) each other = ap (λ b. cond b (1 + prefix_len is_ascii_digit rest) 0) other
prefix_len-digits (digit ∷ digits) rest each other =
    let parts = and_parts (is_ascii_digit digit) (list_all is_ascii_digit digits) each in
    ap (λ b. cond b (1 + prefix_len is_ascii_digit (digits ++ rest)) 0) parts.0
    ∙ ap (λ k. 1 + k) (prefix_len-digits digits rest parts.1 other)
    ∙ omega arith

pub prefix_len-decimal : (n : ℕ) (rest : List ℕ) → n < 2 ^ 64 → begins_with_digit rest ≡ false → prefix_len is_ascii_digit (decimal n ++ rest) ≡ length (decimal n)
prefix_len-decimal n rest small other = prefix_len-digits (decimal n) rest (all_digits-decimal n small) other

pub leading_digits-decimal : (n : ℕ) (rest : List ℕ) → n < 2 ^ 64 → begins_with_digit rest ≡ false → leading_digits (decimal n ++ rest) ≡ decimal n
unfolding leading_digits
leading_digits-decimal n rest small other =
    ap (λ k. take k (decimal n ++ rest)) (prefix_len-decimal n rest small other) ∙ take_at (decimal n) rest (length (decimal n)) refl

pub number_of-decimal : (n : ℕ) (rest : List ℕ) → n < 2 ^ 32 → begins_with_digit rest ≡ false → number_of (decimal n ++ rest) ≡ n
unfolding number_of
number_of-decimal n rest small other =
    ap (λ digits. min (decimal_value digits) 4294967295) (leading_digits-decimal n rest (omega arith) other)
    ∙ ap (λ v. min v 4294967295) (decimal_value-decimal n (omega arith)) ∙ omega arith

has_byte-digits : (byte : ℕ) (digits : List ℕ) → list_all is_ascii_digit digits ≡ true → is_ascii_digit byte ≡ false → list_any (λ b. b == byte) digits ≡ false
has_byte-digits byte [] each other = refl
has_byte-digits byte (digit ∷ digits) each other =
    let parts = and_parts (is_ascii_digit digit) (list_all is_ascii_digit digits) each in
    or_from (digit == byte) (list_any (λ b. b == byte) digits)
    (ne_eqb digit byte (λ same. false≢true (sym other ∙ ap is_ascii_digit (sym same) ∙ parts.0)))
    (has_byte-digits byte digits parts.1 other)

pub has_byte-decimal : (byte n : ℕ) → n < 2 ^ 64 → is_ascii_digit byte ≡ false → has_byte byte (decimal n) ≡ false
unfolding has_byte
has_byte-decimal byte n small other = has_byte-digits byte (decimal n) (all_digits-decimal n small) other
