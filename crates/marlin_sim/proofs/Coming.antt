-- What is to arrive, before and after bytes were received.
use Rattle.std.proofs.Common.{◌≡◌, ⊎_elim, ℕ, suc, ◌+◌, ◌<◌, ◌≤◌, min, Bool, true, false, cond, List, [], ◌∷◌, ◌++◌, take, length, refl, sym, ◌∙◌, ap, append_assoc, arith}
use Rattle.std.proofs.lemmas.Bool.{cases_lt, and_parts}
use Rattle.std.proofs.lemmas.List.{take_all}
use Rattle.std.proofs.Math.Seq.{take-append-add}
use Rattle.std.specs.Prelude.{◌-◌, ◌||◌}
use Rattle.std.specs.Prelude.{◌==◌}
use Rattle.std.specs.List.{All, slice_split, onto_first, list_all}
use Rattle.std.proofs.lemmas.List.Splits.{slice_split_at, slice_split-cons_no}
use Rattle.std.proofs.lemmas.Bool.Decides.{nat_tests}
use Rattle.octo_outside.specs.Memory.{one_more, is_listed}
use Rattle.marlin_sim.specs.declared.plan.SimPlan.{SimPlan}
use Rattle.marlin_sim.specs.Plan.{is_place, IsPlan}
use Rattle.marlin_sim.specs.Lines.{ends_line, but_last, whole_lines, cut, arriving, planned, with_begun, LinesData, to_come}
use Rattle.byte_text.proofs.ListLaws.{take_once}

-- cutting makes at least one piece
split_some : (bytes : List ℕ) → (first : List ℕ) × (pieces : List (List ℕ)) × (slice_split ends_line bytes ≡ first ∷ pieces)
split_some [] = ([], [], refl)
split_some (byte ∷ bytes) =
    let more = split_some bytes in
    elim (ends_line byte) as (λ b. (first : List ℕ) × (pieces : List (List ℕ)) × (cond b ([] ∷ slice_split ends_line bytes) (onto_first byte (slice_split ends_line bytes)) ≡ first ∷ pieces)) [
      | true ↦ ([], slice_split ends_line bytes, refl)
      | false ↦ (byte ∷ more.0, more.1, ap (onto_first byte) more.2)
    ]

-- a piece before others is whole
but_last-cons : (piece : List ℕ) (bytes : List ℕ) → but_last (piece ∷ slice_split ends_line bytes) ≡ piece ∷ whole_lines bytes
but_last-cons piece bytes =
    let some = split_some bytes in
    ap (λ (p : List (List ℕ)). but_last (piece ∷ p)) some.2 ∙ ap (λ (p : List (List ℕ)). piece ∷ but_last p) (sym some.2)

-- a line feed makes a line whole
pub whole_next : (piece more : List ℕ) → All (λ b. ends_line b ≡ false) piece → whole_lines (piece ++ 10 ∷ more) ≡ piece ∷ whole_lines more
whole_next piece more none = ap but_last (slice_split_at ends_line piece 10 more none refl) ∙ but_last-cons piece more

-- what holds of all holds of the first and of the others
all_first : (x : ℕ) (xs : List ℕ) → All (λ b. ends_line b ≡ false) (x ∷ xs) → ends_line x ≡ false
all_first x xs all = all 0 x (omega arith)

all_others : (x : ℕ) (xs : List ℕ) → All (λ b. ends_line b ≡ false) (x ∷ xs) → All (λ b. ends_line b ≡ false) xs
all_others x xs all k d within = all (suc k) d (omega arith)

-- a byte before pieces
but_last-onto : (byte : ℕ) (first : List ℕ) (pieces : List (List ℕ)) → but_last (onto_first byte (first ∷ pieces)) ≡ with_begun (byte ∷ []) (but_last (first ∷ pieces))
but_last-onto byte first [] = refl
but_last-onto byte first (next ∷ pieces) = refl

-- bytes before lines, in two parts
with_begun-twice : (front more : List ℕ) (lines : List (List ℕ)) → with_begun front (with_begun more lines) ≡ with_begun (front ++ more) lines
with_begun-twice front more [] = refl
with_begun-twice front more (line ∷ lines) = ap (λ (l : List ℕ). l ∷ lines) (sym (append_assoc front more line))

-- no bytes before lines
pub with_begun-none : (lines : List (List ℕ)) → with_begun [] lines ≡ lines
with_begun-none [] = refl
with_begun-none (line ∷ lines) = refl

-- bytes without a line feed begin a line
pub whole_begun : (piece more : List ℕ) → All (λ b. ends_line b ≡ false) piece → whole_lines (piece ++ more) ≡ with_begun piece (whole_lines more)
whole_begun [] more none = sym (with_begun-none (whole_lines more))
whole_begun (byte ∷ piece) more none =
    let some = split_some (piece ++ more) in
    ap but_last (slice_split-cons_no ends_line byte (piece ++ more) (all_first byte piece none))
    ∙ ap (λ (p : List (List ℕ)). but_last (onto_first byte p)) some.2
    ∙ but_last-onto byte some.0 some.1
    ∙ ap (λ (p : List (List ℕ)). with_begun (byte ∷ []) (but_last p)) (sym some.2)
    ∙ ap (with_begun (byte ∷ [])) (whole_begun piece more (all_others byte piece none))
    ∙ with_begun-twice (byte ∷ []) piece (whole_lines more)

-- a line that was cut before more was added
cut-cut : (begun more : List ℕ) → cut (cut begun ++ more) ≡ cut (begun ++ more)
cut-cut begun more = take_once 95 begun more

-- no more than there is
take-within : (n : ℕ) (bytes : List ℕ) → take (min n (length bytes)) bytes ≡ take n bytes
take-within n bytes =
    ⊎_elim (λ (below : n < length bytes). (let same : min n (length bytes) ≡ n = omega arith in ap (λ k. take k bytes) same))
    (λ (past : length bytes ≤ n). (let same : min n (length bytes) ≡ length bytes = omega arith in ap (λ k. take k bytes) same ∙ take_all (length bytes) bytes (omega arith) ∙ sym (take_all n bytes past)))
    (cases_lt n (length bytes))

-- what fits a line with a beginning
pub cut-room : (begun bytes : List ℕ) → length begun ≤ 95 → begun ++ take (min (95 - length begun) (length bytes)) bytes ≡ cut (begun ++ bytes)
cut-room begun bytes short =
    let all : length begun + (95 - length begun) ≡ 95 = omega arith in
    ap (λ (l : List ℕ). begun ++ l) (take-within (95 - length begun) bytes)
    ∙ sym (take-append-add begun bytes (95 - length begun))
    ∙ ap (λ n. take n (begun ++ bytes)) all

planned-cut : (plan : SimPlan) (n : ℕ) (begun : List ℕ) (lines : List (List ℕ)) → planned plan n (with_begun (cut begun) lines) ≡ planned plan n (with_begun begun lines)
planned-cut plan n begun [] = refl
planned-cut plan n begun (line ∷ lines) = ap (λ (l : List ℕ). arriving plan n l ++ planned plan (suc n) lines) (cut-cut begun line)

-- the beginning of a line was received
pub begun_comes : (plan : SimPlan) (l : LinesData) (piece more : List ℕ) → All (λ b. ends_line b ≡ false) piece → to_come plan (record l { begun = cut (l.begun ++ piece) }) more ≡ to_come plan l (piece ++ more)
begun_comes plan l piece more none =
    ap (λ (p : List (List ℕ)). l.waiting ++ p)
    (planned-cut plan (suc l.received) (l.begun ++ piece) (whole_lines more)
    ∙ ap (planned plan (suc l.received)) (sym (with_begun-twice l.begun piece (whole_lines more)))
    ∙ ap (λ (w : List (List ℕ)). planned plan (suc l.received) (with_begun l.begun w)) (sym (whole_begun piece more none)))

-- a number above all places is not listed
not_listed : (places : List ℕ) (n : ℕ) → list_all is_place places ≡ true → 4294967295 < n → is_listed places n ≡ false
not_listed [] n small far = refl
not_listed (place ∷ places) n small far =
    let parts = and_parts (is_place place) (list_all is_place places) small in
    let low : place ≤ 4294967295 = grind (arith, nat_tests, parts.0) in
    let other : (place == n) ≡ false = grind (arith, nat_tests) in
    ap (λ (b : Bool). b || is_listed places n) other ∙ not_listed places n parts.1 far

-- all numbers above the places are alike
arriving-far : (plan : SimPlan) (n : ℕ) (line : List ℕ) → IsPlan plan → 4294967295 < n → arriving plan n line ≡ line ∷ []
unfolding arriving
arriving-far plan n line is far = rw (not_listed plan.drop n is.dropped far, not_listed plan.corrupt n is.corrupted far) refl

planned-far : (plan : SimPlan) (n m : ℕ) (lines : List (List ℕ)) → IsPlan plan → 4294967295 < n → 4294967295 < m → planned plan n lines ≡ planned plan m lines
planned-far plan n m [] is far far' = refl
planned-far plan n m (line ∷ lines) is far far' =
    ap (λ (p : List (List ℕ)). p ++ planned plan (suc n) lines) (arriving-far plan n (cut line) is far ∙ sym (arriving-far plan m (cut line) is far'))
    ∙ ap (λ (p : List (List ℕ)). arriving plan m (cut line) ++ p) (planned-far plan (suc n) (suc m) lines is (omega arith) (omega arith))

-- a count that stays at its last value counts as well
planned-counted : (plan : SimPlan) (r : ℕ) (lines : List (List ℕ)) → IsPlan plan → planned plan (one_more r) lines ≡ planned plan (suc r) lines
planned-counted plan r lines is =
    ⊎_elim (λ (below : r < 18446744073709551615). (let same : one_more r ≡ suc r = omega arith in ap (λ n. planned plan n lines) same))
    (λ (at : 18446744073709551615 ≤ r). planned-far plan (one_more r) (suc r) lines is (omega arith) (omega arith))
    (cases_lt r 18446744073709551615)

-- a whole line was received
pub ended_comes : (plan : SimPlan) (l : LinesData) (piece more : List ℕ) → IsPlan plan → All (λ b. ends_line b ≡ false) piece → to_come plan (record { waiting = l.waiting ++ arriving plan (one_more l.received) (cut (l.begun ++ piece)); begun = []; received = one_more l.received }) more ≡ to_come plan l (piece ++ 10 ∷ more)
ended_comes plan l piece more is none =
    let first = arriving plan (one_more l.received) (cut (l.begun ++ piece)) in
    append_assoc l.waiting first (planned plan (suc (one_more l.received)) (with_begun [] (whole_lines more)))
    ∙ ap (λ (p : List (List ℕ)). l.waiting ++ (first ++ planned plan (suc (one_more l.received)) p)) (with_begun-none (whole_lines more))
    ∙ ap (λ (p : List (List ℕ)). l.waiting ++ p) (planned-counted plan l.received ((l.begun ++ piece) ∷ whole_lines more) is)
    ∙ ap (λ (w : List (List ℕ)). l.waiting ++ planned plan (suc l.received) (with_begun l.begun w)) (sym (whole_next piece more none))
