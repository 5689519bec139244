-- Names one after the other.
use Rattle.std.proofs.Common.{◌≡◌, ℕ, ◌+◌, ◌<◌, suc, List, [], ◌∷◌, ◌++◌, length, take, get_or, refl, ap, sym, ◌∙◌, arith}
use Rattle.std.proofs.Math.Seq.{take-suc}
use Rattle.std.proofs.lemmas.List.{append_assoc, append-nil}
use Rattle.octo_keeper_sql.specs.Rows.{spaced}

spaced_append : (xs ys : List (List ℕ)) → spaced (xs ++ ys) ≡ spaced xs ++ spaced ys
spaced_append [] ys = refl
spaced_append (x ∷ xs) ys = ap (λ rest. 32 ∷ (x ++ rest)) (spaced_append xs ys) ∙ ap (λ rest. 32 ∷ rest) (sym (append_assoc x (spaced xs) (spaced ys)))

spaced_more : (names : List (List ℕ)) (i : ℕ) (name : List ℕ) → i < length names → name ≡ get_or names i name → spaced (take (i + 1) names) ≡ spaced (take i names) ++ (32 ∷ name)
spaced_more names i name within is =
    let next : i + 1 ≡ suc i = omega arith in
    let split = ap spaced (take-suc names i name within) ∙ spaced_append (take i names) (get_or names i name ∷ []) in
    let last : spaced (get_or names i name ∷ []) ≡ 32 ∷ name = ap (λ rest. 32 ∷ rest) (append-nil (get_or names i name) ∙ sym is) in
    rw next (split ∙ ap (λ rest. spaced (take i names) ++ rest) last)

-- a text with one name more, after a space
pub text_more : (start before one two : List ℕ) (names : List (List ℕ)) (i : ℕ) (name : List ℕ) → i < length names → name ≡ get_or names i name
    → before ≡ start ++ spaced (take i names) → one ≡ before ++ (32 ∷ []) → two ≡ one ++ name → two ≡ start ++ spaced (take (i + 1) names)
text_more start before one two names i name within is was space added =
    added ∙ ap (λ t. t ++ name) (space ∙ ap (λ t. t ++ (32 ∷ [])) was)
    ∙ append_assoc (start ++ spaced (take i names)) (32 ∷ []) name
    ∙ append_assoc start (spaced (take i names)) (32 ∷ name)
    ∙ ap (λ t. start ++ t) (sym (spaced_more names i name within is))
