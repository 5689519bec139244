use Rattle.std.proofs.Common.{◌≡◌, ◌<◌, ◌≤◌, ◌+◌, ◌-◌, ◌*◌, ◌^◌, ℕ, Bool, List, length, true, sym, ap, ◌∙◌, arith, rules}
use Rattle.std.specs.Prelude.{Some, None, fold, if◌then◌else◌, nat_le, ◌&&◌}
use Rattle.std.specs.Char.{is_ascii_digit}
use Rattle.std.specs.List.{list_all}
use Rattle.std.specs.Result.{result_ok}
use Rattle.std.proofs.lemmas.Bool.Decides.{nat_tests}
use Rattle.std.proofs.lemmas.Str.Parse.{IsNumeralModel, IsDigitsTest, numerals_by_fold, parse_gives, digits_value_short}
use Rattle.byte_text.specs.Number.{decimal_value}
use Rattle.byte_text.proofs.numbers.whole_number.Goals as goal

-- what digits write, after a number
abbrev read_on : ℕ → List ℕ → ℕ
read_on n digits = fold (λ m digit. 10 * m + (digit - 48)) n digits

tests : IsDigitsTest (λ digits. list_all is_ascii_digit digits ≡ true)
tests = search rules

own : IsNumeralModel (λ digits. list_all is_ascii_digit digits ≡ true) (read_on 0)
own = numerals_by_fold _ tests read_on (search rules)

pub returns : goal.returns
unfolding decimal_value
returns c =
    let text = c.args.text.now in
    let most = c.args.most in
    let digits : list_all is_ascii_digit text ≡ true =
    ap (list_all is_ascii_digit) (sym c.as_bytes.ensures.value) ∙ sym c.are_digits.ensures ∙ c.if-not-are_digits.false in
    let short : length text ≤ most = omega (arith, c.if-text-most.false) in
    let some : 1 ≤ length text = grind (arith, nat_tests) in
    let small : read_on 0 text < 2 ^ 64 = omega (arith, c.requires, short, digits_value_short own text 19 digits (omega (arith, c.requires, short))) in
    let read = parse_gives own 64 text c.parse.result c.parse.ensures.value.0 digits (omega (arith, some)) small in
    let is : c.ok.result ≡ Some (read_on 0 text) = c.ok.ensures.value ∙ ap result_ok read in
    let fits : (nat_le 1 (length text) && nat_le (length text) most) ≡ true = grind (arith, nat_tests) in
    is ∙ sym (ap (λ (b : Bool). if b && (nat_le 1 (length text) && nat_le (length text) most) then Some (read_on 0 text) else None) digits
    ∙ ap (λ (b : Bool). if b then Some (read_on 0 text) else None) fits)
