-- The scripts that wait, as lines.
use Rattle.std.proofs.Common.{◌≡◌, ℕ, zero, suc, ◌+◌, ◌<◌, ◌≤◌, nat_eq, List, [], ◌∷◌, ◌++◌, length, drop, slice_get, slice_set, slice_index_or, Some, None, refl, sym, ◌∙◌, ap, subst, arith, append_assoc, length-append, length-drop}
use Rattle.std.proofs.lemmas.List.{append-nil, drop_all, take_at}
use Rattle.std.specs.List.{refill, remove}
use Rattle.std.proofs.lemmas.Bool.Decides.{nat_tests}
use Rattle.job_desk.specs.Data.{ScriptTexts, Line, tagged, script_lines, texts_at}
use Rattle.job_desk.specs.declared.state.Tag.{Tag}
use Rattle.job_desk.specs.declared.state.Tag.TheVariants.{Script}
use Rattle.job_desk.specs.declared.waiting.Entry.{Entry}
use Rattle.job_desk.specs.Entries.{entry_lines, lines_left, HaveLines}

-- the line at a place, and those after it
pub from_place : (tag : Tag) (texts : List (List ℕ)) (n : ℕ) (text : List ℕ) → slice_get texts n ≡ Some text →
    drop n (tagged tag texts) ≡ record { text = text; tag = tag } ∷ drop (suc n) (tagged tag texts)
from_place tag [] n text e = absurd (cc e)
from_place tag (first ∷ texts) zero text e = let same : first ≡ text = cc e in ap (λ (t : List ℕ). record { text = t; tag = tag } ∷ tagged tag texts) same
from_place tag (first ∷ texts) (suc n) text e = from_place tag texts n text e

pub there : (texts : List (List ℕ)) (n : ℕ) → n < length texts → slice_get texts n ≡ None → ⊥
there [] n h e = absurd (omega arith)
there (first ∷ texts) zero h e = absurd (cc e)
there (first ∷ texts) (suc n) h e = there texts n (omega arith) e

pub length-tagged : (tag : Tag) (texts : List (List ℕ)) → length (tagged tag texts) ≡ length texts
length-tagged tag [] = refl
length-tagged tag (text ∷ texts) = ap suc (length-tagged tag texts)

module _ (scripts : ScriptTexts) where
  pub lines_left-append : (entries : List Entry) (entry : Entry) → lines_left scripts (entries ++ entry ∷ []) ≡ lines_left scripts entries ++ entry_lines
      scripts entry
  lines_left-append [] entry = append-nil (entry_lines scripts entry)
  lines_left-append (e ∷ entries) entry = ap (λ (l : List Line). entry_lines scripts e ++ l) (lines_left-append entries entry)
      ∙ sym (append_assoc (entry_lines scripts e) (lines_left scripts entries) (entry_lines scripts entry))

  pub HaveLines-append : (entries : List Entry) (entry : Entry) → HaveLines scripts entries → entry.next < length (texts_at entry.point scripts) →
      HaveLines scripts (entries ++ entry ∷ [])
  HaveLines-append [] entry h k = (k, tt)
  HaveLines-append (e ∷ entries) entry h k = (h.0, HaveLines-append entries entry h.1 k)

  some_left : (entry : Entry) (entries : List Entry) → entry.next < length (texts_at entry.point scripts) → 0 < length (lines_left scripts (entry ∷ entries))
  some_left entry entries h =
      let long = length-drop entry.next (script_lines scripts entry.point entry.print) in
      let all = length-tagged (Script entry.point entry.print) (texts_at entry.point scripts) in
      omega (arith, long, all, length-append (entry_lines scripts entry) (lines_left scripts entries))

  -- no line is left exactly if no script is
  pub same_emptiness : (entries : List Entry) → HaveLines scripts entries → nat_eq (length entries) 0 ≡ nat_eq (length (lines_left scripts entries)) 0
  same_emptiness [] h = refl
  same_emptiness (entry ∷ entries) h =
      let some = some_left entry entries h.0 in grind (arith, nat_tests)

  pub some_entry : (entries : List Entry) → 0 < length (lines_left scripts entries) → 0 < length entries
  some_entry [] h = h
  some_entry (entry ∷ entries) h = omega arith

  -- the first line
  pub first_line : (entries : List Entry) (entry : Entry) (text : List ℕ) → slice_get entries 0 ≡ Some entry →
      slice_get (texts_at entry.point scripts) entry.next ≡ Some text → slice_get (lines_left scripts entries) 0 ≡ Some
      (record { text = text; tag = Script entry.point entry.print })
  first_line [] entry text e t = absurd (cc e)
  first_line (first ∷ entries) entry text e t =
      let same : first ≡ entry = cc e in
      ap (λ x. slice_get (entry_lines scripts x ++ lines_left scripts entries) 0) same
      ∙ ap (λ (l : List Line). slice_get (l ++ lines_left scripts entries) 0)
      (from_place (Script entry.point entry.print) (texts_at entry.point scripts) entry.next text t)

  pub no_first : (entries : List Entry) → slice_get entries 0 ≡ None → lines_left scripts entries ≡ []
  no_first [] e = refl
  no_first (entry ∷ entries) e = absurd (cc e)

  -- past the first line of a script that has more
  one_less : (entry : Entry) (text : List ℕ) → slice_get (texts_at entry.point scripts) entry.next ≡ Some text →
      entry_lines scripts entry ≡ record { text = text; tag = Script entry.point entry.print } ∷ entry_lines scripts (record entry { next = entry.next + 1 })
  one_less entry text t =
      from_place (Script entry.point entry.print) (texts_at entry.point scripts) entry.next text t
      ∙ ap (λ (n : ℕ). record { text = text; tag = Script entry.point entry.print } ∷ drop n (script_lines scripts entry.point entry.print))
      (let n : suc entry.next ≡ entry.next + 1 = omega arith in n)

  found : (texts : List (List ℕ)) (n : ℕ) → n < length texts → (text : List ℕ) × (slice_get texts n ≡ Some text)
  found [] n h = absurd (omega arith)
  found (text ∷ texts) zero h = (text, refl)
  found (text ∷ texts) (suc n) h = found texts n (omega arith)

  pub goes_on : (entry : Entry) (entries : List Entry) → entry.next < length (texts_at entry.point scripts) →
      drop 1 (lines_left scripts (entry ∷ entries)) ≡ lines_left scripts (record entry { next = entry.next + 1 } ∷ entries)
  goes_on entry entries h =
      let f = found (texts_at entry.point scripts) entry.next h in ap (λ (l : List Line). drop 1 (l ++ lines_left scripts entries)) (one_less entry f.0 f.1)

  pub is_over : (entry : Entry) (entries : List Entry) → entry.next < length (texts_at entry.point scripts) →
      length (texts_at entry.point scripts) ≤ entry.next + 1 → drop 1 (lines_left scripts (entry ∷ entries)) ≡ lines_left scripts entries
  is_over entry entries h k =
      let all = length-tagged (Script entry.point entry.print) (texts_at entry.point scripts) in
      goes_on entry entries h ∙ ap (λ (l : List Line). l ++ lines_left scripts entries)
      (drop_all (entry.next + 1) (script_lines scripts entry.point entry.print) (omega (arith, all, k)))

  -- the first script's next line moves on by one
  pub put_first : (entries : List Entry) (d : Entry) → HaveLines scripts entries → 0 < length entries
      → lines_left scripts (refill (length entries) entries (slice_set entries 0
      (record {
        point = (slice_index_or entries 0 d).point;
        print = (slice_index_or entries 0 d).print;
        next = (slice_index_or entries 0 d).next + 1;
      }))) ≡ drop 1 (lines_left scripts entries)
  put_first [] d h some = absurd (omega arith)
  put_first (entry ∷ entries) d h some =
      let moved : Entry = record entry { next = entry.next + 1 } in
      ap (λ l. lines_left scripts (moved ∷ l)) (take_at entries (drop (length entries) entries) (length entries) refl) ∙ sym (goes_on entry entries h.0)

  -- the first script is taken away
  pub drop_first : (entries : List Entry) (d : Entry) → HaveLines scripts entries → 0 < length entries →
      length (texts_at (slice_index_or entries 0 d).point scripts) ≤ (slice_index_or entries 0 d).next + 1
      → lines_left scripts (remove entries 0) ≡ drop 1 (lines_left scripts entries)
  drop_first [] d h some k = absurd (omega arith)
  drop_first (entry ∷ entries) d h some k = sym (is_over entry entries h.0 k)

  -- the first script has a line left
  pub first_has : (entries : List Entry) (entry : Entry) → slice_get entries 0 ≡ Some entry → HaveLines scripts entries →
      entry.next < length (texts_at entry.point scripts)
  first_has [] entry e h = absurd (cc e)
  first_has (first ∷ entries) entry e h = let same : first ≡ entry = cc e in subst (λ x. x.next < length (texts_at x.point scripts)) same h.0

  pub no_missing : (entries : List Entry) (entry : Entry) → slice_get entries 0 ≡ Some entry → HaveLines scripts entries →
      slice_get (texts_at entry.point scripts) entry.next ≡ None → ⊥
  no_missing entries entry e h n = there (texts_at entry.point scripts) entry.next (first_has entries entry e h) n
