-- Where a body is cut into parts.
use Rattle.std.specs.Prelude.{◌≡◌, ℕ, ◌+◌, nat_eq, List, [], ◌∷◌, ◌++◌, length, drop, Option, Some, None, IsSome, MatchOption, if◌then◌else◌}
use Rattle.std.specs.List.{prefix_len, starts_with}
use Rattle.byte_text.specs.Chars.{is_space}
use Rattle.memchr.specs.Find.{OccursAt, Nowhere, NoneBefore}
use Rattle.octo_http_forms.specs.declared.types.Span.{Span}
use Rattle.octo_http_forms.specs.declared.delimiters.Delimiter.{Delimiter}
use Rattle.octo_http_forms.specs.Values.{span_of}

-- the delimiter of a boundary that ends before these bytes: it closes by `--`; after blanks and a line end a part begins
abbrev pub delimiter_at : ℕ → ℕ → List ℕ → Option Delimiter
delimiter_at at end tail =
    if starts_with nat_eq tail (45 ∷ 45 ∷ []) then Some (record { at = at; part = None })
    else if starts_with nat_eq (drop (prefix_len is_space tail) tail) (13 ∷ 10 ∷ [])
    then Some (record { at = at; part = Some (end + prefix_len is_space tail + 2) })
    else None

-- the delimiter at a place at which a line end, `--` and the boundary are
abbrev pub delimiter_of : List ℕ → List ℕ → ℕ → Option Delimiter
delimiter_of body line at = delimiter_at at (at + length line) (drop (at + length line) body)

-- a delimiter is at this place
pub record IsDelimiter (body line : List ℕ) (at : ℕ) : Type 0 where
  pub occurs : OccursAt body line at
  pub ends : IsSome (delimiter_of body line at)

-- the first delimiter from a place on, if there is one
abbrev pub IsNextDelimiter : List ℕ → List ℕ → ℕ → Option Delimiter → Type 0
IsNextDelimiter body line from None = Nowhere (IsDelimiter body line) from (length body + 1)
IsNextDelimiter body line from (Some delimiter) =
    NoneBefore (IsDelimiter body line) from (length body + 1) delimiter.at × OccursAt body line delimiter.at
    × (delimiter_of body line delimiter.at ≡ Some delimiter)

-- the delimiter that begins a body, if `--` and the boundary need no line end before them
abbrev pub opening : List ℕ → List ℕ → Option Delimiter
opening body dashes = if starts_with nat_eq body dashes then delimiter_at 0 (length dashes) (drop (length dashes) body) else None

-- the first delimiter of a body, if there is one
abbrev pub IsFirstDelimiter : List ℕ → List ℕ → Option Delimiter → Type 0
IsFirstDelimiter body dashes found =
    MatchOption (opening body dashes) (IsNextDelimiter body (13 ∷ 10 ∷ dashes) 0 found) (λ delimiter. found ≡ Some delimiter)

-- these parts follow each other from the first delimiter on, each up to the next one; then another part begins, or the last delimiter closes
pub data Reaches (body dashes : List ℕ) : List Span → Option ℕ → Type 0 where
  first : (delimiter : Delimiter) → IsFirstDelimiter body dashes (Some delimiter) → Reaches body dashes [] delimiter.part
  next : (parts : List Span) (from : ℕ) (delimiter : Delimiter) → Reaches body dashes parts (Some from)
      → IsNextDelimiter body (13 ∷ 10 ∷ dashes) from (Some delimiter) → Reaches body dashes (parts ++ span_of from delimiter.at ∷ []) delimiter.part

-- no delimiter closes the body
pub data IsUnclosed (body dashes : List ℕ) : Type 0 where
  without : IsFirstDelimiter body dashes None → IsUnclosed body dashes
  open_part : (parts : List Span) (from : ℕ) → Reaches body dashes parts (Some from)
      → IsNextDelimiter body (13 ∷ 10 ∷ dashes) from None → IsUnclosed body dashes
