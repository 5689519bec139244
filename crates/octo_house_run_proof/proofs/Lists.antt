-- The lines of a print among the last lines of a list.
use Rattle.std.proofs.Common.{◌≡◌, ℕ, zero, suc, ◌+◌, ◌-◌, ◌≤◌, Bool, false, cond, List, [], ◌∷◌, ◌++◌, length, take, drop, refl, sym, ◌∙◌, ap, arith, append-nil}
use Rattle.std.proofs.lemmas.List.{drop-drop, drop_all, take-append-drop}
use Rattle.job_desk.specs.Data.{Line}
use Rattle.job_desk.specs.Run.{is_of, print_lines}
use Rattle.job_desk.proofs.Lines.{own, lines_of-append}

-- two lists that make none are empty
first_none : (xs ys : List Line) → xs ++ ys ≡ [] → xs ≡ []
first_none [] ys none = refl
first_none (x ∷ xs) ys none = absurd (cc none)

second_none : (xs ys : List Line) → xs ++ ys ≡ [] → ys ≡ []
second_none [] ys none = none
second_none (x ∷ xs) ys none = absurd (cc none)

module _ (p : ℕ) where
  -- if a list has none of the print's lines its parts have none
  pub none_before : (xs ys : List Line) → print_lines p (xs ++ ys) ≡ [] → print_lines p xs ≡ []
  none_before xs ys none = first_none (print_lines p xs) (print_lines p ys) (sym (lines_of-append p xs ys) ∙ none)

  pub none_after : (xs ys : List Line) → print_lines p (xs ++ ys) ≡ [] → print_lines p ys ≡ []
  none_after xs ys none = second_none (print_lines p xs) (print_lines p ys) (sym (lines_of-append p xs ys) ∙ none)

  pub none_both : (xs ys : List Line) → print_lines p xs ≡ [] → print_lines p ys ≡ [] → print_lines p (xs ++ ys) ≡ []
  none_both xs ys first second = lines_of-append p xs ys ∙ ap (λ (l : List Line). l ++ print_lines p ys) first ∙ second

  pub none_dropped : (n : ℕ) (xs : List Line) → print_lines p xs ≡ [] → print_lines p (drop n xs) ≡ []
  none_dropped n xs none = none_after (take n xs) (drop n xs) (ap (λ (l : List Line). print_lines p l) (take-append-drop n xs) ∙ none)

  -- more lines that are none of the print's
  pub none_more : (n : ℕ) (xs more : List Line) → print_lines p (drop n xs) ≡ [] → print_lines p more ≡ [] → print_lines p (drop n (xs ++ more)) ≡ []
  none_more zero xs more first second = none_both xs more first second
  none_more (suc n) [] more first second = none_dropped (suc n) more second
  none_more (suc n) (x ∷ xs) more first second = none_more n xs more first second

  -- past a later place
  pub none_later : (n m : ℕ) (xs : List Line) → n ≤ m → print_lines p (drop n xs) ≡ [] → print_lines p (drop m xs) ≡ []
  none_later n m xs below none =
      let is : n + (m - n) ≡ m = omega (arith, below) in
      ap (λ (k : ℕ). print_lines p (drop k xs)) (sym is) ∙ ap (λ (l : List Line). print_lines p l) (sym (drop-drop (m - n) n xs))
      ∙ none_dropped (m - n) (drop n xs) none

  -- past the last line
  pub none_past : (n : ℕ) (xs : List Line) → length xs ≤ n → print_lines p (drop n xs) ≡ []
  none_past n xs past = ap (λ (l : List Line). print_lines p l) (drop_all n xs past)

  -- all of the print's lines are before a place
  pub all_before : (n : ℕ) (xs : List Line) → print_lines p (drop n xs) ≡ [] → print_lines p (take n xs) ≡ print_lines p xs
  all_before n xs none =
      sym (append-nil (print_lines p (take n xs))) ∙ ap (λ (l : List Line). print_lines p (take n xs) ++ l) (sym none)
      ∙ sym (lines_of-append p (take n xs) (drop n xs))
      ∙ ap (λ (l : List Line). print_lines p l) (take-append-drop n xs)

  -- a line of something else
  pub own_none : (line : Line) → is_of p line.tag ≡ false → own p line ≡ []
  own_none line other = ap (λ (b : Bool). cond b (line ∷ []) []) other
