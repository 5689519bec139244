-- Lists that grow by one at the end.
use Rattle.std.proofs.Common.{◌≡◌, ℕ, ◌+◌, ◌-◌, ◌≤◌, Bool, true, false, not, cond, List, [], ◌∷◌, ◌++◌, length, drop, ℤ, pos, ◌+ℤ◌, refl, sym, ap, ◌∙◌, arith}
use Rattle.std.specs.List.{after_last, prefix_len, suffix_len}
use Rattle.std.proofs.lemmas.List.{append-nil, append_assoc, reverse-append, length-append, drop_all, drop-append-le}
use Rattle.std.proofs.lemmas.List.Sums.{suffix_len-le-length}
use Rattle.std.proofs.Math.IntN.{+ℤ_assoc, +ℤ_comm}
use Rattle.gcode_measure.specs.Position.{steps_from, steps_of, last_or, total}

steps_from-push : (before texts : List (List ℕ)) (text : List ℕ) → steps_from before (texts ++ text ∷ []) ≡ steps_from before
    texts ++ record { before = before ++ texts; text = text } ∷ []
steps_from-push before [] text = ap (λ b. record { before = b; text = text } ∷ []) (sym (append-nil before))
steps_from-push before (first ∷ texts) text =
    ap (λ steps. record { before = before; text = first } ∷ steps) (steps_from-push (before ++ first ∷ []) texts text
    ∙ ap (λ b. steps_from (before ++ first ∷ []) texts ++ record { before = b; text = text } ∷ []) (append_assoc before (first ∷ []) texts))

-- the steps of commands with one more
pub steps_of-push : (texts : List (List ℕ)) (text : List ℕ) → steps_of (texts ++ text ∷ []) ≡ steps_of texts ++ record { before = texts; text = text } ∷ []
steps_of-push texts text = steps_from-push [] texts text

-- the last of a list is what was added last
pub last_or-push : {A : Type 0} (other : A) (items : List A) (item : A) → last_or other (items ++ item ∷ []) ≡ item
last_or-push other [] item = refl
last_or-push other (first ∷ items) item = last_or-push first items item

-- a sum with one more number
pub total-push : (values : List ℤ) (value : ℤ) → total (values ++ value ∷ []) ≡ total values +ℤ value
total-push [] value = +ℤ_comm value (pos 0)
total-push (first ∷ values) value = ap (λ t. first +ℤ t) (total-push values value) ∙ sym (+ℤ_assoc first (total values) value)

suffix_len-push : {A : Type 0} (test : A → Bool) (items : List A) (item : A) →
    suffix_len test (items ++ item ∷ []) ≡ cond (test item) (1 + suffix_len test items) 0
suffix_len-push test items item = ap (prefix_len test) (reverse-append items (item ∷ []))

after_last-by : {A : Type 0} (t : Bool) (n : ℕ) (items : List A) (item : A) → n ≤ length items →
    drop (length (items ++ item ∷ []) - cond (not t) (1 + n) 0) (items ++ item ∷ []) ≡ cond t [] (drop (length items - n) items ++ item ∷ [])
after_last-by true n items item le = drop_all (length (items ++ item ∷ []) - 0) (items ++ item ∷ []) (omega arith)
after_last-by false n items item le =
    let long : length (items ++ item ∷ []) - (1 + n) ≡ length items - n = omega (arith, length-append items (item ∷ [])) in
    ap (λ k. drop k (items ++ item ∷ [])) long ∙ drop-append-le (length items - n) items (item ∷ []) (omega arith)

-- after the last that passes, in a list with one more
pub after_last-push : {A : Type 0} (test : A → Bool) (items : List A) (item : A) →
    after_last test (items ++ item ∷ []) ≡ cond (test item) [] (after_last test items ++ item ∷ [])
after_last-push test items item =
    ap (λ n. drop (length (items ++ item ∷ []) - n) (items ++ item ∷ [])) (suffix_len-push (λ x. not (test x)) items item)
    ∙ after_last-by (test item) (suffix_len (λ x. not (test x)) items) items item (suffix_len-le-length (λ x. not (test x)) items)
