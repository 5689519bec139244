-- A scan of a span, byte by byte.
use Rattle.std.proofs.Common.{◌≡◌, ℕ, suc, ◌+◌, ◌-◌, ◌<◌, ◌≤◌, List, [], ◌∷◌, length, take, drop, get_or, drop-cons, add-one, Some, None, refl, ap, sym, ◌∙◌, arith}
use Rattle.std.specs.Prelude.{slice_range, if◌then◌else◌}
use Rattle.std.specs.Option.{option_or}
use Rattle.octo_http_forms.specs.declared.quotes.Quoting.{Quoting}
use Rattle.octo_http_forms.specs.Texts.{begins_any_case, place_any_case}
use Rattle.octo_http_forms.specs.Values.{next_quoting, is_outside, quoted_end, value_here, value_place}

-- a span's first byte, and the span after it
pub span_cons : (bytes : List ℕ) (i to : ℕ) → i < to → to ≤ length bytes → slice_range bytes i to ≡ get_or bytes i 0 ∷ slice_range bytes (i + 1) to
span_cons bytes i to below within =
    let count : to - i ≡ suc (to - (i + 1)) = omega arith in
    ap (λ n. take n (drop i bytes)) count
    ∙ ap (take (suc (to - (i + 1)))) (drop-cons bytes i 0 (omega arith))
    ∙ ap (λ k. get_or bytes i 0 ∷ take (to - (i + 1)) (drop k bytes)) (sym (add-one i))

-- a span that has come to its end
pub span_nil : (bytes : List ℕ) (i to : ℕ) → to ≤ i → slice_range bytes i to ≡ []
span_nil bytes i to past =
    let none : to - i ≡ 0 = omega arith in
    ap (λ n. take n (drop i bytes)) none

place_of_cons : (text : List ℕ) (at : ℕ) (list : List ℕ) (byte : ℕ) (rest : List ℕ) → list ≡ byte ∷ rest
    → place_any_case text at list ≡ (if begins_any_case text list then Some at else place_any_case text (at + 1) rest)
place_of_cons text at list byte rest e = rw e refl

quoted_of_cons : (state : Quoting) (at : ℕ) (list : List ℕ) (byte : ℕ) (rest : List ℕ) → list ≡ byte ∷ rest
    → quoted_end state at list ≡ (if is_outside (next_quoting state byte) then Some at else quoted_end (next_quoting state byte) (at + 1) rest)
quoted_of_cons state at list byte rest e = rw e refl

value_of_cons : (key : List ℕ) (state : Quoting) (at : ℕ) (list : List ℕ) (byte : ℕ) (rest : List ℕ) → list ≡ byte ∷ rest
    → value_place key state at list ≡ option_or (value_here key state at byte rest) (value_place key (next_quoting state byte) (at + 1) rest)
value_of_cons key state at list byte rest e = rw e refl

-- one step of each scan
pub place_any_case_at : (text bytes : List ℕ) (i to : ℕ) → i < to → to ≤ length bytes
    → place_any_case text i (slice_range bytes i to) ≡ (if begins_any_case text (slice_range bytes i to) then Some i
    else place_any_case text (i + 1) (slice_range bytes (i + 1) to))
place_any_case_at text bytes i to below within = place_of_cons text i _ _ _ (span_cons bytes i to below within)

pub quoted_end_at : (state : Quoting) (bytes : List ℕ) (i to : ℕ) → i < to → to ≤ length bytes
    → quoted_end state i (slice_range bytes i to) ≡ (if is_outside (next_quoting state (get_or bytes i 0)) then Some i
    else quoted_end (next_quoting state (get_or bytes i 0)) (i + 1) (slice_range bytes (i + 1) to))
quoted_end_at state bytes i to below within = quoted_of_cons state i _ _ _ (span_cons bytes i to below within)

pub value_place_at : (key : List ℕ) (state : Quoting) (bytes : List ℕ) (i to : ℕ) → i < to → to ≤ length bytes
    → value_place key state i (slice_range bytes i to) ≡ option_or (value_here key state i (get_or bytes i 0) (slice_range bytes (i + 1) to))
    (value_place key (next_quoting state (get_or bytes i 0)) (i + 1) (slice_range bytes (i + 1) to))
value_place_at key state bytes i to below within = value_of_cons key state i _ _ _ (span_cons bytes i to below within)

-- and their ends
pub place_any_case_end : (text bytes : List ℕ) (i to : ℕ) → to ≤ i → place_any_case text i (slice_range bytes i to) ≡ None
place_any_case_end text bytes i to past = ap (place_any_case text i) (span_nil bytes i to past)

pub quoted_end_end : (state : Quoting) (bytes : List ℕ) (i to : ℕ) → to ≤ i → quoted_end state i (slice_range bytes i to) ≡ None
quoted_end_end state bytes i to past = ap (quoted_end state i) (span_nil bytes i to past)

pub value_place_end : (key : List ℕ) (state : Quoting) (bytes : List ℕ) (i to : ℕ) → to ≤ i → value_place key state i (slice_range bytes i to) ≡ None
value_place_end key state bytes i to past = ap (value_place key state i) (span_nil bytes i to past)

pub ruleset place_steps = (place_any_case_at, place_any_case_end)

pub ruleset quoted_steps = (quoted_end_at, quoted_end_end)

pub ruleset value_steps = (value_place_at, value_place_end)
