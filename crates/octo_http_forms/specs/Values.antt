-- The value of a header field: a type, and parameters after it.
use Rattle.std.specs.Prelude.{ℕ, ◌+◌, Bool, true, false, ◌&&◌, ◌||◌, not, ◌==◌, nat_eq, nat_le, List, [], ◌∷◌, length, drop, Option, Some, None, if◌then◌else◌, option_map, option_and_then, codes}
use Rattle.std.specs.List.{prefix_len, starts_with}
use Rattle.std.specs.Option.{option_or}
use Rattle.byte_text.specs.Chars.{is_space}
use Rattle.octo_http_forms.specs.declared.types.Span.{Span}
use Rattle.octo_http_forms.specs.declared.quotes.Quoting.{Quoting}
use Rattle.octo_http_forms.specs.declared.quotes.Quoting.TheVariants.{Outside, Inside, Escaped}
use Rattle.octo_http_forms.specs.Texts.{begins_any_case, text_at}

-- how a byte changes whether the next one is in quotes
abbrev pub next_quoting : Quoting → ℕ → Quoting
next_quoting Outside byte = if byte == 34 then Inside else Outside
next_quoting Inside byte = if byte == 34 then Outside else if byte == 92 then Escaped else Inside
next_quoting Escaped byte = Inside

-- whether a byte is read outside quotes
abbrev pub is_outside : Quoting → Bool
is_outside Outside = true
is_outside Inside = false
is_outside Escaped = false

-- the place of the quote that ends a quoted text, of bytes that begin at a place
abbrev pub quoted_end : Quoting → ℕ → List ℕ → Option ℕ
quoted_end state at [] = None
quoted_end state at (byte ∷ bytes) =
    if is_outside (next_quoting state byte) then Some at else quoted_end (next_quoting state byte) (at + 1) bytes

-- whether a word has ended before these bytes
abbrev pub ends_word : List ℕ → Bool
ends_word [] = true
ends_word (byte ∷ bytes) = is_space byte || byte == 59

-- whether a value, after blanks, is of this type, in any case of its letters
abbrev pub has_type : List ℕ → List ℕ → Bool
has_type name value = begins_any_case name (drop (prefix_len is_space value) value) && ends_word (drop (length name) (drop (prefix_len is_space value) value))

-- whether nothing comes next, or the semicolon in front of a parameter
abbrev pub begins_parameter : List ℕ → Bool
begins_parameter [] = true
begins_parameter (byte ∷ bytes) = byte == 59

-- what is after blanks
abbrev pub after_blanks : List ℕ → List ℕ
after_blanks bytes = drop (prefix_len is_space bytes) bytes

-- whether a value is this type, in any case of its letters, after which only parameters may come; blanks are passed over
abbrev pub is_type : List ℕ → List ℕ → Bool
is_type name value =
    begins_any_case name (after_blanks value) && begins_parameter (after_blanks (drop (length name) (after_blanks value)))

-- how many bytes blanks and a key with its `=` take up in front, none if something else comes there
abbrev pub key_end : List ℕ → List ℕ → Option ℕ
key_end key bytes =
    if begins_any_case key (drop (prefix_len is_space bytes) bytes) then Some (prefix_len is_space bytes + length key) else None

-- where the value of a parameter of this key begins, if a byte at a place outside quotes is a semicolon and blanks, the key and its `=` come next
abbrev pub value_here : List ℕ → Quoting → ℕ → ℕ → List ℕ → Option ℕ
value_here key state at byte bytes =
    if is_outside state && byte == 59 then option_map (λ count. at + 1 + count) (key_end key bytes) else None

-- where the value of the first parameter of this key begins, of bytes that begin at a place
abbrev pub value_place : List ℕ → Quoting → ℕ → List ℕ → Option ℕ
value_place key state at [] = None
value_place key state at (byte ∷ bytes) =
    option_or (value_here key state at byte bytes) (value_place key (next_quoting state byte) (at + 1) bytes)

-- the bytes from one place up to another
abbrev pub span_of : ℕ → ℕ → Span
span_of from to = record { from = from; to = to }

-- a byte of a value without quotes
abbrev pub is_bare : ℕ → Bool
is_bare byte = not (is_space byte) && not (byte == 59)

-- where a value without quotes ends that begins at a place
abbrev pub bare_end : ℕ → List ℕ → ℕ
bare_end at bytes = at + prefix_len is_bare bytes

-- the content of a parameter whose value begins a span: what is between its quotes, or what comes before a blank or a semicolon
abbrev pub content_span : List ℕ → Span → Option Span
content_span bytes span =
    if starts_with nat_eq (text_at bytes span) (34 ∷ [])
    then option_map (span_of (span.from + 1)) (quoted_end Inside (span.from + 1) (text_at bytes (span_of (span.from + 1) span.to)))
    else Some (span_of span.from (bare_end span.from (text_at bytes span)))

-- the content of the first parameter of this key, which is written with its `=`
abbrev pub parameter : List ℕ → List ℕ → Span → Option Span
parameter key bytes span =
    option_and_then (λ from. content_span bytes (span_of from span.to)) (value_place key Outside span.from (text_at bytes span))

-- a text as a boundary, which has 1 to 70 bytes
abbrev pub as_boundary : List ℕ → Option (List ℕ)
as_boundary text = if nat_le 1 (length text) && nat_le (length text) 70 then Some text else None

-- the boundary that a `multipart/form-data` type names
abbrev pub boundary_of : List ℕ → Option (List ℕ)
boundary_of kind =
    if has_type (codes "multipart/form-data") kind
    then option_and_then (λ span. as_boundary (text_at kind span)) (parameter (codes "boundary=") kind (span_of 0 (length kind)))
    else None
