-- The places that a word lists.
use Rattle.std.proofs.Common.{◌≡◌, ℕ, ◌≤◌, Bool, true, false, List, [], ◌∷◌, refl, sym, ◌∙◌, ap, subst, arith, lit≤, codes}
use Rattle.std.specs.Prelude.{◌≢◌, length, slice_get, if◌then◌else◌, nat_le, nat_lt, Option, Some, None, option_map, Result, Ok, Err, IfOk, IfSome}
use Rattle.std.specs.List.{list_all, slice_split}
use Rattle.std.specs.Str.{bytes_eq}
use Rattle.std.proofs.lemmas.Bool.{and_parts, and_from, cond_both}
use Rattle.std.proofs.lemmas.Bool.Decides.{nat_tests}
use Rattle.byte_text.specs.Number.{only_if, number_in, whole_number}
use Rattle.marlin_sim.specs.declared.plan.SimPlan.{SimPlan}
use Rattle.marlin_sim.specs.Plan.{count_in, place_in, with_place, places_above, places_in, is_comma, is_places, is_place, is_address, plan_with, plan_by, plan_of, IsPlan}

-- the places of a word that is cut at its commas
pub places_cut : {E : Type 0} (word : List ℕ) (pieces : List (List ℕ)) (result : Result (Option (List ℕ)) E) → bytes_eq word (codes "-") ≡ false
    → pieces ≡ slice_split is_comma word → IfOk result (λ places. places ≡ places_above 0 pieces) → IfOk result (λ places. places ≡ places_in word)
places_cut word pieces (Ok places) other cut is =
    is ∙ ap (λ (p : List (List ℕ)). places_above 0 p) cut
    ∙ sym (ap (λ (b : Bool). if b then Some [] else places_above 0 (slice_split is_comma word)) other)
places_cut word pieces (Err error) other cut is = tt

-- a place is small
small : Option ℕ → Type 0
small None = Unit {0}
small (Some n) = is_place n ≡ true

-- so are places
bounded : Option (List ℕ) → Type 0
bounded None = Unit {0}
bounded (Some places) = list_all is_place places ≡ true

-- a number that passes the test of words is small
number_small : (number : Option ℕ) → small (only_if (λ n. nat_le n 4294967295) number)
unfolding small
number_small None = tt
number_small (Some n) = cond_both (nat_le n 4294967295) (Some n) None small (λ is. is) (λ _. tt)

-- it is still small if it passes another test
place_small : (test : ℕ → Bool) (number : Option ℕ) → small number → small (only_if test number)
unfolding small
place_small test None is = tt
place_small test (Some n) is = cond_both (test n) (Some n) None small (λ _. is) (λ _. tt)

map_bounded : (n : ℕ) (places : Option (List ℕ)) → is_place n ≡ true → bounded places → bounded (option_map (λ more. n ∷ more) places)
unfolding bounded
map_bounded n None one all = tt
map_bounded n (Some places) one all = and_from (is_place n) (list_all is_place places) one all

with_bounded : (place : Option ℕ) (later : ℕ → Option (List ℕ)) → small place → ((n : ℕ) → bounded (later n)) → bounded (with_place place later)
unfolding small bounded
with_bounded None later one all = tt
with_bounded (Some n) later one all = map_bounded n (later n) one (all n)

places_bounded : (least : ℕ) (pieces : List (List ℕ)) → bounded (places_above least pieces)
unfolding bounded
places_bounded least [] = refl
places_bounded least (piece ∷ pieces) = with_bounded (place_in least piece) (λ n. places_above n pieces)
    (place_small (λ n. nat_lt least n) (number_in piece) (number_small (whole_number piece 10))) (λ n. places_bounded n pieces)

word_bounded : (word : List ℕ) → bounded (places_in word)
unfolding bounded
word_bounded word =
    cond_both (bytes_eq word (codes "-")) (Some []) (places_above 0 (slice_split is_comma word)) bounded (λ _. refl) (λ _. places_bounded 0 (slice_split is_comma word))

-- 1 to 16 buffer slots
fits : Option ℕ → Type 0
fits None = Unit {0}
fits (Some n) = (1 ≤ n) × (n ≤ 16)

places_fit : (n : ℕ) → is_places n ≡ true → (1 ≤ n) × (n ≤ 16)
places_fit n is =
    let parts = and_parts (nat_le 1 n) (nat_le n 16) is in
    let low : 1 ≤ n = grind (arith, nat_tests, parts.0) in
    let high : n ≤ 16 = grind (arith, nat_tests, parts.1) in
    (low, high)

count_fits : (number : Option ℕ) → fits (only_if is_places number)
unfolding fits
count_fits None = tt
count_fits (Some n) = cond_both (is_places n) (Some n) None fits (λ is. places_fit n is) (λ _. tt)

with_plan : (last slots : Option ℕ) (dropped corrupted : Option (List ℕ)) (numbered : Bool) (lost : Option (List ℕ)) → fits slots → bounded dropped → bounded corrupted →
    bounded lost → IfSome (plan_with last slots dropped corrupted numbered lost) IsPlan
unfolding fits bounded
with_plan None slots dropped corrupted numbered lost count first second third = tt
with_plan (Some last) None dropped corrupted numbered lost count first second third = tt
with_plan (Some last) (Some slots) None corrupted numbered lost count first second third = tt
with_plan (Some last) (Some slots) (Some dropped) None numbered lost count first second third = tt
with_plan (Some last) (Some slots) (Some dropped) (Some corrupted) numbered None count first second third = tt
with_plan (Some last) (Some slots) (Some dropped) (Some corrupted) numbered (Some lost) count first second third =
    record { some = count.0; few = count.1; dropped = first; corrupted = second; lost = third; turns = lit≤ tt }

-- so are no places
none_bounded : bounded (Some [])
unfolding bounded
none_bounded = refl

five_given : (numbered : Bool) (lost : Option (List ℕ)) (address last slots dropped corrupted : List ℕ) (more : List (List ℕ)) → bounded lost →
    IfSome (plan_by numbered lost (address ∷ last ∷ slots ∷ dropped ∷ corrupted ∷ more)) IsPlan
five_given numbered lost address last slots dropped corrupted more few =
    cond_both (is_address address) (plan_with (number_in last) (count_in slots) (places_in dropped) (places_in corrupted) numbered lost) None (λ plan. IfSome plan IsPlan)
    (λ _. with_plan (number_in last) (count_in slots) (places_in dropped) (places_in corrupted) numbered lost (count_fits (number_in slots)) (word_bounded dropped) (word_bounded corrupted) few)
    (λ _. tt)

-- what the arguments say is a plan
pub plan_given : (words : List (List ℕ)) → IfSome (plan_of words) IsPlan
plan_given [] = tt
plan_given (a ∷ []) = tt
plan_given (a ∷ b ∷ []) = tt
plan_given (a ∷ b ∷ c ∷ []) = tt
plan_given (a ∷ b ∷ c ∷ d ∷ []) = tt
plan_given (a ∷ b ∷ c ∷ d ∷ e ∷ []) = five_given false (Some []) a b c d e [] none_bounded
plan_given (a ∷ b ∷ c ∷ d ∷ e ∷ f ∷ []) = five_given true (places_in f) a b c d e (f ∷ []) (word_bounded f)
plan_given (a ∷ b ∷ c ∷ d ∷ e ∷ f ∷ g ∷ more) = tt

-- arguments by their number
pub of_five : (words : List (List ℕ)) → length words ≡ 5 → plan_of words ≡ plan_by false (Some []) words
of_five [] five = absurd (omega arith)
of_five (a ∷ []) five = absurd (omega arith)
of_five (a ∷ b ∷ []) five = absurd (omega arith)
of_five (a ∷ b ∷ c ∷ []) five = absurd (omega arith)
of_five (a ∷ b ∷ c ∷ d ∷ []) five = absurd (omega arith)
of_five (a ∷ b ∷ c ∷ d ∷ e ∷ []) five = refl
of_five (a ∷ b ∷ c ∷ d ∷ e ∷ f ∷ more) five = absurd (omega arith)

pub of_six : (words : List (List ℕ)) (word : List ℕ) → length words ≡ 6 → slice_get words 5 ≡ Some word → plan_of words ≡ plan_by true (places_in word) words
of_six [] word six is = absurd (omega arith)
of_six (a ∷ []) word six is = absurd (omega arith)
of_six (a ∷ b ∷ []) word six is = absurd (omega arith)
of_six (a ∷ b ∷ c ∷ []) word six is = absurd (omega arith)
of_six (a ∷ b ∷ c ∷ d ∷ []) word six is = absurd (omega arith)
of_six (a ∷ b ∷ c ∷ d ∷ e ∷ []) word six is = absurd (omega arith)
of_six (a ∷ b ∷ c ∷ d ∷ e ∷ f ∷ []) word six is =
    let same : f ≡ word = cc in
    ap (λ (w : List ℕ). plan_by true (places_in w) (a ∷ b ∷ c ∷ d ∷ e ∷ f ∷ [])) same
of_six (a ∷ b ∷ c ∷ d ∷ e ∷ f ∷ g ∷ more) word six is = absurd (omega arith)

none_by : (numbered : Bool) (words : List (List ℕ)) → plan_by numbered None words ≡ None
none_by numbered [] = refl
none_by numbered (a ∷ []) = refl
none_by numbered (a ∷ b ∷ []) = refl
none_by numbered (a ∷ b ∷ c ∷ []) = refl
none_by numbered (a ∷ b ∷ c ∷ d ∷ []) = refl
none_by numbered (a ∷ b ∷ c ∷ d ∷ e ∷ more) =
    cond_both (is_address a) (plan_with (number_in b) (count_in c) (places_in d) (places_in e) numbered None) None (λ plan. plan ≡ None)
    (λ _. none_with (number_in b) (count_in c) (places_in d) (places_in e) numbered) (λ _. refl)
  where
    none_with : (last slots : Option ℕ) (dropped corrupted : Option (List ℕ)) (numbered : Bool) → plan_with last slots dropped corrupted numbered None ≡ None
    none_with None slots dropped corrupted numbered = refl
    none_with (Some last) None dropped corrupted numbered = refl
    none_with (Some last) (Some slots) None corrupted numbered = refl
    none_with (Some last) (Some slots) (Some dropped) None numbered = refl
    none_with (Some last) (Some slots) (Some dropped) (Some corrupted) numbered = refl

pub of_six_none : (words : List (List ℕ)) (word : List ℕ) → length words ≡ 6 → slice_get words 5 ≡ Some word → places_in word ≡ None → plan_of words ≡ None
of_six_none words word six is none =
    of_six words word six is ∙ ap (λ (lost : Option (List ℕ)). plan_by true lost words) none ∙ none_by true words

pub of_others : (words : List (List ℕ)) → length words ≢ 5 → length words ≢ 6 → plan_of words ≡ None
of_others [] five six = refl
of_others (a ∷ []) five six = refl
of_others (a ∷ b ∷ []) five six = refl
of_others (a ∷ b ∷ c ∷ []) five six = refl
of_others (a ∷ b ∷ c ∷ d ∷ []) five six = refl
of_others (a ∷ b ∷ c ∷ d ∷ e ∷ []) five six = absurd (five refl)
of_others (a ∷ b ∷ c ∷ d ∷ e ∷ f ∷ []) five six = absurd (six refl)
of_others (a ∷ b ∷ c ∷ d ∷ e ∷ f ∷ g ∷ more) five six = refl

-- and so is what was read of them
pub plan_read : {E : Type 0} (words : List (List ℕ)) (result : Result (Option SimPlan) E) → IfOk result (λ plan. plan ≡ plan_of words) → IfOk result (λ plan. IfSome plan IsPlan)
plan_read words (Ok plan) is = let P : Option SimPlan → Type 0 = λ o. IfSome o IsPlan in subst P (sym is) (plan_given words)
plan_read words (Err error) is = tt
