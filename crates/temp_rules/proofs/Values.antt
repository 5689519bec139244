-- What a limit says of asked values.
use Rattle.std.proofs.Common.{◌≡◌, ℕ, ◌+◌, ◌*◌, ◌<◌, ℤ, pos, negsuc, ◌≤ℤ◌, Bool, true, false, cond, List, [], ◌∷◌, Option, Some, None, nat_lt, ◌/◌, ◌⊎◌, inl, inr, refl, arith}
use Rattle.std.proofs.lemmas.Bool.Decides.{nat_tests}
use Rattle.std.proofs.lemmas.Int.{ints}
use Rattle.std.proofs.lemmas.List.Elements.{All-cons}
use Rattle.std.specs.List.{find}
use Rattle.std.specs.Option.{option_map, option_or}
use Rattle.temp_rules.specs.Asked.{asked_of, degrees_up}
use Rattle.temp_rules.specs.Hot.{AllWithin, is_above, too_hot, hot_of}
use Rattle.temp_rules.specs.declared.heater.Heater.TheVariants.{Tool, Bed}
use Rattle.temp_rules.specs.declared.limits.Limits.{Limits}
use Rattle.temp_rules.specs.declared.limits.TooHot.{TooHot}
use Rattle.byte_text.proofs.OptionLaws.{first-none, second-none}

below-limit : (limit : ℕ) (micro : ℤ) → is_above limit micro ≡ false → micro ≤ℤ pos (limit * 1000000)
below-limit limit micro h = grind (arith, ints)

above-nat : (limit micro : ℕ) → nat_lt (limit * 1000000) micro ≡ true → limit < (micro + 999999) / 1000000
above-nat limit micro h = let more : limit * 1000000 < micro = grind (arith, nat_tests) in omega arith

above-limit : (limit : ℕ) (micro : ℤ) → is_above limit micro ≡ true → limit < degrees_up micro
above-limit limit (pos micro) h = above-nat limit micro h
above-limit limit (negsuc micro) h = absurd (cc)

-- one more value, by whether it is above the limit
within-more : (limit : ℕ) (micro : ℤ) (values : List ℤ) (above : Bool) → is_above limit micro ≡ above → option_map (λ m. let made : TooHot = record { asked = degrees_up m; limit = limit } in made) (cond above (Some micro) (find (is_above limit) values)) ≡ None → (too_hot limit values ≡ None → AllWithin limit values) → AllWithin limit (micro ∷ values)
within-more limit micro values true is h rest = absurd (cc)
within-more limit micro values false is h rest = All-cons (λ m. m ≤ℤ pos (limit * 1000000)) micro values (below-limit limit micro is) (rest h)

pub all-within : (limit : ℕ) (values : List ℤ) → too_hot limit values ≡ None → AllWithin limit values
all-within limit [] h = λ k d within. absurd (omega arith)
all-within limit (micro ∷ values) h = within-more limit micro values (is_above limit micro) refl h (all-within limit values)

above-more : (limit : ℕ) (micro : ℤ) (values : List ℤ) (hot : TooHot) (above : Bool) → is_above limit micro ≡ above → option_map (λ m. let made : TooHot = record { asked = degrees_up m; limit = limit } in made) (cond above (Some micro) (find (is_above limit) values)) ≡ Some hot → (too_hot limit values ≡ Some hot → hot.limit < hot.asked) → hot.limit < hot.asked
above-more limit micro values hot true is h rest =
    let over : limit < degrees_up micro = above-limit limit micro is in
    let same_asked : degrees_up micro ≡ hot.asked = cc in
    let same_limit : limit ≡ hot.limit = cc in
    omega arith
above-more limit micro values hot false is h rest = rest h

names-above : (limit : ℕ) (values : List ℤ) (hot : TooHot) → too_hot limit values ≡ Some hot → hot.limit < hot.asked
names-above limit [] hot h = absurd (cc)
names-above limit (micro ∷ values) hot h = above-more limit micro values hot (is_above limit micro) refl h (names-above limit values hot)

-- what a choice of two has one of them has
of-either : (first second : Option TooHot) (hot : TooHot) → option_or first second ≡ Some hot → (first ≡ Some hot) ⊎ (second ≡ Some hot)
of-either None second hot h = inr h
of-either (Some found) second hot h = inl h

pub tool-within : (limits : Limits) (text : List ℕ) → hot_of limits text ≡ None → AllWithin limits.tool (asked_of Tool text)
unfolding hot_of
tool-within limits text h =
    all-within limits.tool (asked_of Tool text) (first-none (too_hot limits.tool (asked_of Tool text)) (too_hot limits.bed (asked_of Bed text)) h)

pub bed-within : (limits : Limits) (text : List ℕ) → hot_of limits text ≡ None → AllWithin limits.bed (asked_of Bed text)
unfolding hot_of
bed-within limits text h =
    all-within limits.bed (asked_of Bed text) (second-none (too_hot limits.tool (asked_of Tool text)) (too_hot limits.bed (asked_of Bed text)) h)

pub hot-above : (limits : Limits) (text : List ℕ) (hot : TooHot) → hot_of limits text ≡ Some hot → hot.limit < hot.asked
unfolding hot_of
hot-above limits text hot h =
    elim (of-either (too_hot limits.tool (asked_of Tool text)) (too_hot limits.bed (asked_of Bed text)) hot h) as (λ _. hot.limit < hot.asked) [
      | inl found ↦ names-above limits.tool (asked_of Tool text) hot found
      | inr found ↦ names-above limits.bed (asked_of Bed text) hot found
    ]
