-- A change that is undone leaves the rows as they were.
use Rattle.std.proofs.Common.{◌≡◌, ℕ, ◌+◌, ◌<◌, Bool, true, false, cond, not, List, [], ◌∷◌, length, get_or, Option, Some, None, refl, ap, ◌∙◌, sym}
use Rattle.std.specs.Cmp.Lexicographic.{bytes_decides}
use Rattle.std.specs.List.{find, filter, insert, prefix_len}
use Rattle.octo_access.specs.Rows.{is_before, is_named, row_named, with_row, without}
use Rattle.octo_access.specs.declared.row.UserRow.{UserRow}
use Rattle.octo_access.proofs.Inserted.{insert_past, insert_here}

-- of what is nowhere found a filter takes nothing away
kept-more : {X : Type 0} (p : X → Bool) (x : X) (xs : List X) (b : Bool) → p x ≡ b → cond b (Some x) (find p xs) ≡ None → (find p xs ≡ None → filter (λ y. not (p y)) xs ≡ xs) → filter (λ y. not (p y)) (x ∷ xs) ≡ x ∷ xs
kept-more p x xs true is h rest = absurd (cc)
kept-more p x xs false is h rest = rw (is, rest h) refl

pub filter-unheld : {X : Type 0} (p : X → Bool) (xs : List X) → find p xs ≡ None → filter (λ y. not (p y)) xs ≡ xs
filter-unheld p [] h = refl
filter-unheld p (x ∷ xs) h = kept-more p x xs (p x) refl h (filter-unheld p xs)

module _ {X : Type 0} (p before : X → Bool) (row : X) (own : p row ≡ true) where
  undone-more : (x : X) (xs : List X) (b e : Bool) → before x ≡ b → p x ≡ e → cond e (Some x) (find p xs) ≡ None → (find p xs ≡ None → filter (λ y. not (p y)) (insert xs (prefix_len before xs) row) ≡ xs) → filter (λ y. not (p y)) (insert (x ∷ xs) (prefix_len before (x ∷ xs)) row) ≡ x ∷ xs
  undone-more x xs true true at is h rest = absurd (cc)
  undone-more x xs false true at is h rest = absurd (cc)
  undone-more x xs true false at is h rest = rw (insert_past before row x xs at, is, rest h) refl
  undone-more x xs false false at is h rest = rw (insert_here before row x xs at, own, is, filter-unheld p xs h) refl

  pub undone : (xs : List X) → find p xs ≡ None → filter (λ y. not (p y)) (insert xs (prefix_len before xs) row) ≡ xs
  undone [] h = rw own refl
  undone (x ∷ xs) h = undone-more x xs (before x) (p x) refl refl h (undone xs)

-- a row that is added and taken out again
pub without-with_row : (row : UserRow) (rows : List UserRow) → row_named row.name rows ≡ None → without row.name (with_row row rows) ≡ rows
without-with_row row rows new = undone (is_named row.name) (λ r. is_before r.name row.name) row ((bytes_decides row.name row.name).1 refl) rows new
