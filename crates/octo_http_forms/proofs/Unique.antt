-- A body says one thing: its delimiters, its parts and what they say are determined.
use Rattle.std.proofs.Common.{◌≡◌, ℕ, ◌<◌, List, [], ◌∷◌, ◌++◌, length, Option, Some, None, Ok, Err, refl, sym, ap, subst, ◌∙◌, arith, length-append, ⊎_elim}
use Rattle.std.specs.Prelude.{Result, MatchOption, Bool, find, filter_map, is_some}
use Rattle.std.proofs.lemmas.Bool.{cases_lt}
use Rattle.octo_http_forms.specs.declared.types.Span.{Span}
use Rattle.octo_http_forms.specs.declared.types.Parts.{Parts}
use Rattle.octo_http_forms.specs.declared.types.PartFault.{PartFault}
use Rattle.octo_http_forms.specs.declared.types.PartFault.TheVariants as fault
use Rattle.octo_http_forms.specs.declared.part.Field.{Field}
use Rattle.octo_http_forms.specs.declared.delimiters.Delimiter.{Delimiter}
use Rattle.octo_http_forms.specs.Values.{boundary_of, span_of}
use Rattle.octo_http_forms.specs.Delimiters.{IsNextDelimiter, IsFirstDelimiter, Reaches, delimiter_of, IsUnclosed, opening, first, next, without, open_part}
use Rattle.octo_http_forms.specs.Parts.{BodyReadsAs, FormReadsAs, IsForm, field_of, is_bad, unclosed, bad, form}
use Rattle.std.proofs.lemmas.Option.{same_Some, none-some}

-- at most one delimiter is the next one
next_unique : (body line : List ℕ) (from : ℕ) (a b : Option Delimiter) → IsNextDelimiter body line from a → IsNextDelimiter body line from b → a ≡ b
next_unique body line from None None none no_other = refl
next_unique body line from None (Some d) none is = absurd (none d.at is.0.low is.0.high (record { occurs = is.1; ends = ap is_some is.2 }))
next_unique body line from (Some d) None is none = absurd (none d.at is.0.low is.0.high (record { occurs = is.1; ends = ap is_some is.2 }))
next_unique body line from (Some d) (Some e) is other =
    let same : d.at ≡ e.at =
    ⊎_elim (λ before. absurd (other.0.before d.at is.0.low before (record { occurs = is.1; ends = ap is_some is.2 })))
    (λ after. ⊎_elim (λ before. absurd (is.0.before e.at other.0.low before (record { occurs = other.1; ends = ap is_some other.2 })))
    (λ below. omega arith) (cases_lt e.at d.at))
    (cases_lt d.at e.at) in
    sym is.2 ∙ ap (λ k. delimiter_of body line k) same ∙ other.2

first_unique_at : (body dashes : List ℕ) (begins a b : Option Delimiter)
    → MatchOption begins (IsNextDelimiter body (13 ∷ 10 ∷ dashes) 0 a) (λ d. a ≡ Some d)
    → MatchOption begins (IsNextDelimiter body (13 ∷ 10 ∷ dashes) 0 b) (λ d. b ≡ Some d) → a ≡ b
first_unique_at body dashes None a b is other = next_unique body (13 ∷ 10 ∷ dashes) 0 a b is other
first_unique_at body dashes (Some d) a b is other = is ∙ sym other

first_unique : (body dashes : List ℕ) (a b : Option Delimiter) → IsFirstDelimiter body dashes a → IsFirstDelimiter body dashes b → a ≡ b
first_unique body dashes a b is other = first_unique_at body dashes (opening body dashes) a b is other

module _ (body dashes : List ℕ) where
  -- as many parts reach one place
  walk_same : {xs ys : List Span} {a b : Option ℕ} → Reaches body dashes xs a → Reaches body dashes ys b → length xs ≡ length ys → (xs ≡ ys) × (a ≡ b)
  walk_same (first d is) (first e other) same = (refl, ap (λ (x : Delimiter). x.part) (same_Some d e (first_unique body dashes (Some d) (Some e) is other)))
  walk_same (first d is) (next qs q e s m) same = absurd (omega (arith, length-append qs (span_of q e.at ∷ [])))
  walk_same (next ps p d r n) (first e other) same = absurd (omega (arith, length-append ps (span_of p d.at ∷ [])))
  walk_same (next ps p d r n) (next qs q e s m) same =
      let before = walk_same r s (omega (arith, length-append ps (span_of p d.at ∷ []), length-append qs (span_of q e.at ∷ []))) in
      let from : p ≡ q = same_Some p q before.1 in
      let one : d ≡ e = same_Some d e (next_unique body (13 ∷ 10 ∷ dashes) p (Some d) (Some e) n
      (subst (λ k. IsNextDelimiter body (13 ∷ 10 ∷ dashes) k (Some e)) (sym from) m)) in (
        ap (λ (l : List Span). l ++ span_of p d.at ∷ []) before.0 ∙ ap (λ k. qs ++ span_of k d.at ∷ []) from
            ∙ ap (λ (x : Delimiter). qs ++ span_of q x.at ∷ []) one,
        ap (λ (x : Delimiter). x.part) one,
      )

  -- a walk has come by each number of parts before
  record Step (n : ℕ) : Type 0 where
    parts : List Span
    from : ℕ
    delimiter : Delimiter
    reached : Reaches body dashes parts (Some from)
    is_next : IsNextDelimiter body (13 ∷ 10 ∷ dashes) from (Some delimiter)
    count : length parts ≡ n

  walk_front : {xs : List Span} {a : Option ℕ} → Reaches body dashes xs a → (n : ℕ) → n < length xs → Step n
  walk_front (first d is) n below = absurd (omega arith)
  walk_front (next ps p d r m) n below =
      ⊎_elim (λ before. walk_front r n before)
      (λ last. record { parts = ps; from = p; delimiter = d; reached = r; is_next = m; count = omega (arith, length-append ps (span_of p d.at ∷ [])) })
      (cases_lt n (length ps))

  walk_first : {xs : List Span} {a : Option ℕ} → Reaches body dashes xs a → (d : Delimiter) × IsFirstDelimiter body dashes (Some d)
  walk_first (first d is) = (d, is)
  walk_first (next ps p d r m) = walk_first r

  -- a closed walk ends at one place
  not_longer : {xs ys : List Span} {b : Option ℕ} → Reaches body dashes xs None → Reaches body dashes ys b → length xs < length ys → ⊥
  not_longer {xs} r s below =
      let step = walk_front s (length xs) below in
      none-some step.from (walk_same r step.reached (sym step.count)).1

  closed_unique : {xs ys : List Span} → Reaches body dashes xs None → Reaches body dashes ys None → xs ≡ ys
  closed_unique {xs} {ys} r s =
      ⊎_elim (λ below. absurd (not_longer r s below))
      (λ above. ⊎_elim (λ below. absurd (not_longer s r below)) (λ same. (walk_same r s (omega arith)).0) (cases_lt (length ys) (length xs)))
      (cases_lt (length xs) (length ys))

  closed_or_not : {xs : List Span} → IsUnclosed body dashes → Reaches body dashes xs None → ⊥
  closed_or_not (without none) r =
      let one = walk_first r in
      none-some one.0 (first_unique body dashes None (Some one.0) none one.1)
  closed_or_not {xs} (open_part ps from s none) r =
      ⊎_elim
      (λ below.
      let step = walk_front r (length ps) below in
      let same : from ≡ step.from = same_Some from step.from (walk_same s step.reached (sym step.count)).1 in
      none-some step.delimiter (next_unique body (13 ∷ 10 ∷ dashes) step.from None (Some step.delimiter)
      (subst (λ k. IsNextDelimiter body (13 ∷ 10 ∷ dashes) k None) same none) step.is_next))
      (λ above. ⊎_elim (λ below. not_longer r s below) (λ same. none-some from (walk_same r s (omega arith)).1) (cases_lt (length xs) (length ps)))
      (cases_lt (length ps) (length xs))

form_unique : (body : List ℕ) (fields : List Field) (p q : Parts) → IsForm body fields p → IsForm body fields q → p ≡ q
form_unique body fields p q is other =
    let make : Option Span → Option Span → Option Span → Bool → Bool → Parts = λ name file folder select print.
    record { name = name; file = file; folder = folder; select = select; print = print } in
    ap (λ v. make v p.file p.folder p.select p.print) (is.name ∙ sym other.name)
    ∙ ap (λ v. make q.name v p.folder p.select p.print) (is.file ∙ sym other.file)
    ∙ ap (λ v. make q.name q.file v p.select p.print) (is.folder ∙ sym other.folder)
    ∙ ap (λ v. make q.name q.file q.folder v p.print) (is.select ∙ sym other.select)
    ∙ ap (λ v. make q.name q.file q.folder q.select v) (is.print ∙ sym other.print)

body_unique : (body dashes : List ℕ) {a b : Result Parts PartFault} → BodyReadsAs body dashes a → BodyReadsAs body dashes b → a ≡ b
body_unique body dashes (unclosed u) (unclosed v) = refl
body_unique body dashes (unclosed u) (bad ys q s e) = absurd (closed_or_not body dashes u s)
body_unique body dashes (unclosed u) (form ys q s e g) = absurd (closed_or_not body dashes u s)
body_unique body dashes (bad xs p r d) (unclosed v) = absurd (closed_or_not body dashes v r)
body_unique body dashes (form xs p r d f) (unclosed v) = absurd (closed_or_not body dashes v r)
body_unique body dashes (bad xs p r d) (bad ys q s e) =
    let same : p ≡ q = same_Some p q (sym d ∙ ap (find (is_bad body)) (closed_unique body dashes r s) ∙ e) in
    ap (λ (part : Span). Err (fault.BadPart part.from)) same
body_unique body dashes (bad xs p r d) (form ys q s e g) = absurd (none-some p (sym e ∙ ap (find (is_bad body)) (sym (closed_unique body dashes r s)) ∙ d))
body_unique body dashes (form xs p r d f) (bad ys q s e) = absurd (none-some q (sym d ∙ ap (find (is_bad body)) (closed_unique body dashes r s) ∙ e))
body_unique body dashes (form xs p r d f) (form ys q s e g) =
    ap Ok (form_unique body (filter_map (field_of body) xs) p q f
    (subst (λ l. IsForm body (filter_map (field_of body) l) q) (sym (closed_unique body dashes r s)) g))

says_unique_at : (body : List ℕ) (boundary : Option (List ℕ)) (a b : Result Parts PartFault)
    → MatchOption boundary (a ≡ Err fault.NoBoundary) (λ t. BodyReadsAs body (45 ∷ 45 ∷ t) a)
    → MatchOption boundary (b ≡ Err fault.NoBoundary) (λ t. BodyReadsAs body (45 ∷ 45 ∷ t) b) → a ≡ b
says_unique_at body None a b is other = is ∙ sym other
says_unique_at body (Some t) a b is other = body_unique body (45 ∷ 45 ∷ t) is other

-- a body and its type say one thing
pub says_unique : (body kind : List ℕ) (a b : Result Parts PartFault) → FormReadsAs body kind a → FormReadsAs body kind b → a ≡ b
says_unique body kind a b is other = says_unique_at body (boundary_of kind) a b is other
