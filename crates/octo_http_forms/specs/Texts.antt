-- Texts in front of bytes and within them, in any case of their letters.
use Rattle.std.specs.Prelude.{ℕ, ◌+◌, ◌≤◌, Bool, List, [], ◌∷◌, length, take, slice_range, map, Option, Some, None, if◌then◌else◌}
use Rattle.std.specs.Char.{to_ascii_lowercase}
use Rattle.std.specs.Str.{bytes_eq}
use Rattle.octo_http_forms.specs.declared.types.Span.{Span}

-- the span lies in these bytes
pub record IsWithin (span : Span) (bytes : List ℕ) : Type 0 where
  pub ordered : span.from ≤ span.to
  pub in_range : span.to ≤ length bytes

-- whether the text is in front of the bytes, in any case of its letters
abbrev pub begins_any_case : List ℕ → List ℕ → Bool
begins_any_case text bytes = bytes_eq (map to_ascii_lowercase (take (length text) bytes)) (map to_ascii_lowercase text)

-- the first place at which the text is, of bytes that begin at a place
abbrev pub place_any_case : List ℕ → ℕ → List ℕ → Option ℕ
place_any_case text at [] = None
place_any_case text at (byte ∷ bytes) =
    if begins_any_case text (byte ∷ bytes) then Some at else place_any_case text (at + 1) bytes

-- the bytes of a span
abbrev pub text_at : List ℕ → Span → List ℕ
text_at bytes span = slice_range bytes span.from span.to
