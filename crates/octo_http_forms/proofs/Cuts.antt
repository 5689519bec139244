-- The first delimiter from a place on, found by searches of what comes after a place.
use Rattle.std.proofs.Common.{◌≡◌, ℕ, ◌+◌, ◌-◌, ◌≤◌, List, length, drop, get_or, Some, None, sym, ap, subst, ◌∙◌, arith, add_assoc, length-drop}
use Rattle.std.specs.Prelude.{is_some}
use Rattle.std.proofs.lemmas.Bool.{false≢true}
use Rattle.std.proofs.lemmas.List.{get_or-drop}
use Rattle.memchr.specs.Find.{OccursAt, Nowhere, NoneBefore}
use Rattle.memchr.proofs.lemmas.FindLemmas.{Nowhere-then, Nowhere-more}
use Rattle.octo_http_forms.specs.declared.delimiters.Delimiter.{Delimiter}
use Rattle.octo_http_forms.specs.Delimiters.{IsDelimiter, IsNextDelimiter, delimiter_of}

-- what occurs after a place occurs in the whole
pub occurs_on : (body line : List ℕ) (at k : ℕ) → at ≤ length body → OccursAt (drop at body) line k → OccursAt body line (at + k)
occurs_on body line at k start occurs = record {
  fits = omega (arith, occurs.fits, length-drop at body);
  reads = λ j below. ap (λ n. get_or body n 0) (add_assoc at k j) ∙ sym (get_or-drop at body (k + j) 0) ∙ occurs.reads j below;
}

-- and the other way round
pub occurs_back : (body line : List ℕ) (at k : ℕ) → at ≤ length body → at ≤ k → OccursAt body line k → OccursAt (drop at body) line (k - at)
occurs_back body line at k start behind occurs = record {
  fits = omega (arith, occurs.fits, length-drop at body);
  reads = λ j below.
      let same : at + (k - at + j) ≡ k + j = omega arith in
      get_or-drop at body (k - at + j) 0 ∙ ap (λ n. get_or body n 0) same ∙ occurs.reads j below;
}

-- no delimiter comes before the first place of the needle
pub none_before : (body line : List ℕ) (from at found : ℕ) → at ≤ length body → Nowhere (IsDelimiter body line) from at
    → NoneBefore (OccursAt (drop at body) line) 0 (length (drop at body) + 1) found → Nowhere (IsDelimiter body line) from (at + found)
none_before body line from at found start front first =
    Nowhere-then front (λ k low high is. first.before (k - at) (omega arith) (omega arith) (occurs_back body line at k start low is.occurs))

-- no delimiter comes after the last place of the needle
pub none_past : (body line : List ℕ) (from at : ℕ) → at ≤ length body → Nowhere (IsDelimiter body line) from at
    → Nowhere (OccursAt (drop at body) line) 0 (length (drop at body) + 1) → Nowhere (IsDelimiter body line) from (length body + 1)
none_past body line from at start front none =
    Nowhere-then front (λ k low high is. none (k - at) (omega arith) (omega (arith, length-drop at body)) (occurs_back body line at k start low is.occurs))

-- no delimiter is where something else follows the boundary
pub none_here : (body line : List ℕ) (from place : ℕ) → Nowhere (IsDelimiter body line) from place → delimiter_of body line place ≡ None
    → Nowhere (IsDelimiter body line) from (place + 1)
none_here body line from place front none = Nowhere-more front (λ is. false≢true (sym (ap is_some none) ∙ is.ends))

-- the first delimiter
pub next_here : (body line : List ℕ) (from place : ℕ) (d : Delimiter) → from ≤ place → Nowhere (IsDelimiter body line) from place
    → OccursAt body line place → delimiter_of body line place ≡ Some d → d.at ≡ place → IsNextDelimiter body line from (Some d)
next_here body line from place d low none occurs is here =
    let Next : ℕ → Type 0 = λ k. NoneBefore (IsDelimiter body line) from (length body + 1) k × OccursAt body line k × (delimiter_of body line k ≡ Some d) in
    subst Next (sym here) (record { low = low; high = omega (arith, occurs.fits); before = none }, occurs, is)
