-- The lines of one print among others.
use Rattle.std.proofs.Common.{◌≡◌, ℕ, ◌<◌, Bool, true, false, cond, nat_eq, List, [], ◌∷◌, ◌++◌, refl, sym, ◌∙◌, ap, arith, append_assoc}
use Rattle.std.proofs.lemmas.Bool.Decides.{nat_tests}
use Rattle.std.proofs.lemmas.List.{append-nil}
use Rattle.job_desk.specs.Data.{ScriptTexts, Line, tagged, texts_at, script_lines}
use Rattle.job_desk.specs.Run.{Pulled, is_of, print_lines, pulled_of, of_print}
use Rattle.job_desk.specs.declared.state.State.{State}
use Rattle.job_desk.specs.declared.state.Point.{Point}
use Rattle.job_desk.specs.declared.state.Tag.TheVariants.{Script}

-- one more in front if a test holds
choose_append : {X : Type 0} (b : Bool) (x : X) (xs ys : List X) → cond b (x ∷ (xs ++ ys)) (xs ++ ys) ≡ cond b (x ∷ xs) xs ++ ys
choose_append true x xs ys = refl
choose_append false x xs ys = refl

pub choose_step : {X : Type 0} (b : Bool) (x : X) (xs ys zs : List X) → xs ≡ ys ++ zs → cond b (x ∷ xs) xs ≡ cond b (x ∷ ys) ys ++ zs
choose_step b x xs ys zs e = ap (λ l. cond b (x ∷ l) l) e ∙ choose_append b x ys zs

pub lines_of-append : (p : ℕ) (xs ys : List Line) → print_lines p (xs ++ ys) ≡ print_lines p xs ++ print_lines p ys
lines_of-append p [] ys = refl
lines_of-append p (x ∷ xs) ys = choose_step (is_of p x.tag) x _ _ _ (lines_of-append p xs ys)

pub pulled_of-append : (p : ℕ) (xs ys : List Pulled) → pulled_of p (xs ++ ys) ≡ pulled_of p xs ++ pulled_of p ys
pulled_of-append p [] ys = refl
pulled_of-append p (x ∷ xs) ys = choose_step (is_of p x.line.tag) x.line _ _ _ (pulled_of-append p xs ys)

pub of_print-append : {X : Type 0} (p : ℕ) (xs ys : List (ℕ × X)) → of_print p (xs ++ ys) ≡ of_print p xs ++ of_print p ys
of_print-append p [] ys = refl
of_print-append p (x ∷ xs) ys = choose_step (nat_eq x.0 p) x.1 _ _ _ (of_print-append p xs ys)

-- a list to which nothing of the print is added
pub of_print-other : {X : Type 0} (p q : ℕ) (x : X) (xs : List (ℕ × X)) → nat_eq q p ≡ false → of_print p (xs ++ (q, x) ∷ []) ≡ of_print p xs
of_print-other p q x xs e = of_print-append p xs ((q, x) ∷ []) ∙ ap (λ (b : Bool). of_print p xs ++ cond b (x ∷ []) []) e ∙ append-nil (of_print p xs)

pub of_print-own : {X : Type 0} (p q : ℕ) (x : X) (xs : List (ℕ × X)) → nat_eq q p ≡ true → of_print p (xs ++ (q, x) ∷ []) ≡ of_print p xs ++ x ∷ []
of_print-own p q x xs e = of_print-append p xs ((q, x) ∷ []) ∙ ap (λ (b : Bool). of_print p xs ++ cond b (x ∷ []) []) e

-- what a pulled line adds to the lines of a print
abbrev pub own : ℕ → Line → List Line
own p line = print_lines p (line ∷ [])

pub pulled_of-push : (p : ℕ) (line : Line) (state : State) (xs : List Pulled) →
    pulled_of p (xs ++ record { line = line; state = state } ∷ []) ≡ pulled_of p xs ++ own p line
pulled_of-push p line state xs = pulled_of-append p xs (record { line = line; state = state } ∷ [])

-- the lines of a script all belong to its print
all_own : (p q : ℕ) (point : Point) (texts : List (List ℕ)) → nat_eq q p ≡ true → print_lines p (tagged (Script point q) texts) ≡ tagged (Script point q) texts
all_own p q point [] e = refl
all_own p q point (text ∷ texts) e =
    let l : List Line = print_lines p (tagged (Script point q) texts) in
    let here : Line = record { text = text; tag = Script point q } in
    ap (λ (b : Bool). cond b (here ∷ l) l) e ∙ ap (λ (m : List Line). here ∷ m) (all_own p q point texts e)

none_own : (p q : ℕ) (point : Point) (texts : List (List ℕ)) → nat_eq q p ≡ false → print_lines p (tagged (Script point q) texts) ≡ []
none_own p q point [] e = refl
none_own p q point (text ∷ texts) e =
    let l : List Line = print_lines p (tagged (Script point q) texts) in
    let here : Line = record { text = text; tag = Script point q } in
    ap (λ (b : Bool). cond b (here ∷ l) l) e ∙ none_own p q point texts e

pub same_test : (p : ℕ) → nat_eq p p ≡ true
same_test p = grind (arith, nat_tests)

pub below_test : (p q : ℕ) → p < q → nat_eq p q ≡ false
below_test p q h = grind (arith, nat_tests)

pub above_test : (p q : ℕ) → q < p → nat_eq p q ≡ false
above_test p q h = grind (arith, nat_tests)

pub script_own : (scripts : ScriptTexts) (point : Point) (p : ℕ) → print_lines p (script_lines scripts point p) ≡ script_lines scripts point p
script_own scripts point p = all_own p p point (texts_at point scripts) (same_test p)

pub script_other : (scripts : ScriptTexts) (point : Point) (p q : ℕ) → nat_eq q p ≡ false → print_lines p (script_lines scripts point q) ≡ []
script_other scripts point p q e = none_own p q point (texts_at point scripts) e

-- a script that joins the waiting lines
pub waits_own : (out w : List Line) (scripts : ScriptTexts) (point : Point) (p q : ℕ) → q ≡ p →
    out ++ print_lines p (w ++ script_lines scripts point q) ≡ (out ++ print_lines p w) ++ script_lines scripts point p
waits_own out w scripts point p q e =
    ap (λ (k : ℕ). out ++ print_lines p (w ++ script_lines scripts point k)) e
    ∙ ap (λ (l : List Line). out ++ l) (lines_of-append p w (script_lines scripts point p)
    ∙ ap (λ (l : List Line). print_lines p w ++ l) (script_own scripts point p))
    ∙ sym (append_assoc out (print_lines p w) (script_lines scripts point p))

pub waits_other : (w : List Line) (scripts : ScriptTexts) (point : Point) (p q : ℕ) → nat_eq q p ≡ false →
    print_lines p (w ++ script_lines scripts point q) ≡ print_lines p w
waits_other w scripts point p q e =
    lines_of-append p w (script_lines scripts point q) ∙ ap (λ (l : List Line). print_lines p w ++ l) (script_other scripts point p q e)
    ∙ append-nil (print_lines p w)

-- a line that goes from the front of the waiting ones to the end of the pulled ones
pub goes_over : (p : ℕ) (out : List Line) (line : Line) (rest : List Line) → out ++ print_lines p (line ∷ rest) ≡ (out ++ own p line) ++ print_lines p rest
goes_over p out line rest =
    ap (λ (l : List Line). out ++ l) (lines_of-append p (line ∷ []) rest) ∙ sym (append_assoc out (own p line) (print_lines p rest))
