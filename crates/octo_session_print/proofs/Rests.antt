-- What is behind the whole plan in a weave is polls and probes: so a longer first part of it weaves the whole plan too.
use Rattle.std.proofs.Common.{◌≡◌, ◌⊎◌, inl, inr, ℕ, ◌+◌, ◌≤◌, Bool, true, false, cond, nat_eq, ◌&&◌, List, [], ◌∷◌, ◌++◌, length, take, drop, refl, sym, ◌∙◌, ap, subst, arith, append_assoc, length-append}
use Rattle.std.specs.Cmp.Lexicographic.{pointwise}
use Rattle.std.proofs.lemmas.Bool.{false≢true, and_parts, or_cases, eqb-true}
use Rattle.std.proofs.lemmas.List.{append-nil, take-append-drop, take-take}
use Rattle.octo_session.specs.Plan.{poll, probe, Weave}
use Rattle.octo_session_print.specs.Plan.{is_poll, without_polls}
use Rattle.octo_session_print.proofs.Weaves.{weave_polled, weave_probed, weave_others}

-- texts of the same bytes
same_text : (a b : List ℕ) → pointwise nat_eq a b ≡ true → a ≡ b
same_text [] [] e = refl
same_text [] (y ∷ b) e = absurd (false≢true e)
same_text (x ∷ a) [] e = absurd (false≢true e)
same_text (x ∷ a) (y ∷ b) e =
    let both = and_parts (nat_eq x y) (pointwise nat_eq a b) e in
    ap (λ (k : ℕ). k ∷ a) (eqb-true x y both.0) ∙ ap (λ (l : List ℕ). y ∷ l) (same_text a b both.1)

-- a poll or a probe more
weave_next : (n : Bool) (list plan : List (List ℕ)) (text : List ℕ) → is_poll n text ≡ true → Weave n list plan → Weave n (list ++ text ∷ []) plan
weave_next n list plan text is w = by (or_cases (pointwise nat_eq text poll) (n && pointwise nat_eq text probe) is)
  where
    by : (pointwise nat_eq text poll ≡ true) ⊎ ((n && pointwise nat_eq text probe) ≡ true) → Weave n (list ++ text ∷ []) plan
    by (inl e) = subst (λ (t : List ℕ). Weave n (list ++ t ∷ []) plan) (sym (same_text text poll e)) (weave_polled n list plan w)
    by (inr e) =
        let both = and_parts n (pointwise nat_eq text probe) e in
        subst (λ (t : List ℕ). Weave n (list ++ t ∷ []) plan) (sym (same_text text probe both.1)) (weave_probed n list plan both.0 w)

-- one in front, unless a test holds
choose_append : (b : Bool) (x : List ℕ) (xs ys : List (List ℕ)) → cond b (xs ++ ys) (x ∷ (xs ++ ys)) ≡ cond b xs (x ∷ xs) ++ ys
choose_append true x xs ys = refl
choose_append false x xs ys = refl

without_append : (n : Bool) (xs ys : List (List ℕ)) → without_polls n (xs ++ ys) ≡ without_polls n xs ++ without_polls n ys
without_append n [] ys = refl
without_append n (x ∷ xs) ys =
    ap (λ (l : List (List ℕ)). cond (is_poll n x) l (x ∷ l)) (without_append n xs ys) ∙ choose_append (is_poll n x) x (without_polls n xs) (without_polls n ys)

no_texts : (xs : List (List ℕ)) → length xs ≡ 0 → xs ≡ []
no_texts [] none = refl
no_texts (x ∷ xs) none = absurd (omega (arith, none))

rest_by : (n b : Bool) (xs : List (List ℕ)) (y : List ℕ) (ys plan : List (List ℕ)) → is_poll n y ≡ b → Weave n xs plan
    → cond b (without_polls n ys) (y ∷ without_polls n ys) ≡ []
    → (Weave n (xs ++ y ∷ []) plan → without_polls n ys ≡ [] → Weave n ((xs ++ y ∷ []) ++ ys) plan) → Weave n (xs ++ y ∷ ys) plan
rest_by n true xs y ys plan is w none rest =
    subst (λ (l : List (List ℕ)). Weave n l plan) (append_assoc xs (y ∷ []) ys) (rest (weave_next n xs plan y is w) none)
rest_by n false xs y ys plan is w none rest = absurd (cc none)

-- polls and probes behind a weave
rest_weaves : (n : Bool) (xs ys plan : List (List ℕ)) → Weave n xs plan → without_polls n ys ≡ [] → Weave n (xs ++ ys) plan
rest_weaves n xs [] plan w none = subst (λ (l : List (List ℕ)). Weave n l plan) (sym (append-nil xs)) w
rest_weaves n xs (y ∷ ys) plan w none =
    rest_by n (is_poll n y) xs y ys plan refl w none (λ more left. rest_weaves n (xs ++ y ∷ []) ys plan more left)

pub longer_weaves : (n : Bool) (issued plan : List (List ℕ)) (a b : ℕ) → a ≤ b → Weave n (take a issued) plan → Weave n issued plan
    → Weave n (take b issued) plan
longer_weaves n issued plan a b below first whole =
    let more : List (List ℕ) = drop a (take b issued) in
    let cut : take b issued ≡ take a issued ++ more =
    sym (take-append-drop a (take b issued)) ∙ ap (λ (l : List (List ℕ)). l ++ more) (take-take a b issued below) in
    let e1 : length (without_polls n (take b issued)) ≡ length (without_polls n (take a issued)) + length (without_polls n more) =
    ap (λ (l : List (List ℕ)). length (without_polls n l)) cut ∙ ap length (without_append n (take a issued) more)
    ∙ length-append (without_polls n (take a issued)) (without_polls n more) in
    let e2 : length (without_polls n issued) ≡ length (without_polls n (take b issued)) + length (without_polls n (drop b issued)) =
    ap (λ (l : List (List ℕ)). length (without_polls n l)) (sym (take-append-drop b issued)) ∙ ap length (without_append n (take b issued) (drop b issued))
    ∙ length-append (without_polls n (take b issued)) (without_polls n (drop b issued)) in
    let e3 : length (without_polls n issued) ≡ length (without_polls n (take a issued)) =
    ap length (weave_others n issued plan whole ∙ sym (weave_others n (take a issued) plan first)) in
    let none : length (without_polls n more) ≡ 0 = omega (arith, e1, e2, e3) in
    subst (λ (l : List (List ℕ)). Weave n l plan) (sym cut) (rest_weaves n (take a issued) more plan first (no_texts (without_polls n more) none))
