-- How the fields of a head say how long the body is.
use Rattle.std.proofs.Common.{◌≡◌, ℕ, zero, suc, ◌<◌, Bool, true, false, ◌&&◌, List, [], ◌∷◌, Option, Some, None, refl, ap, ◌∙◌, subst, arith}
use Rattle.std.specs.Prelude.{if◌then◌else◌, bytes_eq, option_map, IsUtf8}
use Rattle.std.specs.Char.{is_ascii_digit}
use Rattle.std.specs.List.{list_all}
use Rattle.std.specs.Str.{IsAscii}
use Rattle.std.proofs.lemmas.Bool.Decides.{nat_tests}
use Rattle.std.proofs.lemmas.Slice.Eq.{bytes_eq-Decides}
use Rattle.std.proofs.lemmas.Str.{IsUtf8-from_ascii}
use Rattle.byte_text.specs.Number.{whole_number}
use Rattle.octo_http.specs.Fields.{first_of}
use Rattle.octo_http.specs.Framing.{framing_by}
use Rattle.octo_http.specs.declared.framing.Framing.{Framing}
use Rattle.octo_http.specs.declared.framing.Framing.TheVariants.{Length}
use Rattle.std.proofs.lemmas.Bool.{and_parts}

digit_ascii : (b : ℕ) → is_ascii_digit b ≡ true → b < 128
digit_ascii b h = grind (arith, nat_tests)

-- digits are ASCII
digits_ascii : (text : List ℕ) → list_all is_ascii_digit text ≡ true → IsAscii text
digits_ascii [] digits i = omega arith
digits_ascii (b ∷ text) digits zero = digit_ascii b (and_parts (is_ascii_digit b) (list_all is_ascii_digit text) digits).0
digits_ascii (b ∷ text) digits (suc i) = digits_ascii text (and_parts (is_ascii_digit b) (list_all is_ascii_digit text) digits).1 i

-- bytes that are no text are no number
pub no_number : (text : List ℕ) → ¬ (IsUtf8 text) → None ≡ whole_number text 18
no_number text not_text = by (list_all is_ascii_digit text) refl
  where
    by : (b : Bool) → list_all is_ascii_digit text ≡ b → None ≡ whole_number text 18
    by true digits = absurd (not_text (IsUtf8-from_ascii text (digits_ascii text digits)))
    by false digits = rw digits refl

-- lengths alone
pub by_lengths : (lengths codings : List (List ℕ)) (text : List ℕ) (r : Option Framing) → Some text ≡ first_of lengths → None ≡ first_of codings
    → r ≡ (if list_all (λ v. bytes_eq v text) lengths then option_map Length (whole_number text 18) else None) → r ≡ framing_by lengths codings
by_lengths [] codings text r a b is = cc
by_lengths (first ∷ lengths) (coding ∷ codings) text r a b is = cc
by_lengths (first ∷ lengths) [] text r a b is =
    let same : text ≡ first = cc in
    let Is : List ℕ → Type 0 = λ t. r ≡ (if list_all (λ v. bytes_eq v t) (first ∷ lengths) then option_map Length (whole_number t 18) else None) in
    let here : Is first = subst Is same is in
    here ∙ ap (λ (b : Bool). if (b && list_all (λ v. bytes_eq v first) lengths) then option_map Length (whole_number first 18) else None)
    ((bytes_eq-Decides first first).1 refl)
