-- What the parts of a form say.
use Rattle.std.specs.Prelude.{◌≡◌, ℕ, ◌+◌, ◌-◌, Bool, false, ◌&&◌, ◌||◌, List, [], ◌∷◌, map, find, Option, Some, None, IfSome, MatchOption, is_some, is_none, unwrap_or, option_map, option_and_then, Result, Ok, Err, if◌then◌else◌, filter_map, codes}
use Rattle.std.specs.Option.{option_map_or, option_or}
use Rattle.std.specs.Char.{to_ascii_lowercase}
use Rattle.std.specs.Str.{bytes_eq}
use Rattle.memchr.specs.Find.{first_of, matches}
use Rattle.octo_http_forms.specs.declared.types.Span.{Span}
use Rattle.octo_http_forms.specs.declared.types.Parts.{Parts}
use Rattle.octo_http_forms.specs.declared.types.PartFault.{PartFault}
use Rattle.octo_http_forms.specs.declared.types.PartFault.TheVariants as fault
use Rattle.octo_http_forms.specs.declared.part.Field.{Field}
use Rattle.octo_http_forms.specs.declared.form.Seen.{Seen}
use Rattle.octo_http_forms.specs.Texts.{IsWithin, text_at, place_any_case}
use Rattle.octo_http_forms.specs.Values.{has_type, parameter, span_of, boundary_of}
use Rattle.octo_http_forms.specs.Delimiters.{Reaches, IsUnclosed}

-- the place of the first two line ends that follow each other
abbrev pub empty_line : List ℕ → Span → Option ℕ
empty_line body lines = option_map (λ place. lines.from + place) (first_of (matches (text_at body lines) (13 ∷ 10 ∷ 13 ∷ 10 ∷ []) 0))

-- from a place up to the next line end
abbrev pub line_from : List ℕ → ℕ → ℕ → Span
line_from body from to = span_of from (unwrap_or (place_any_case (13 ∷ 10 ∷ []) from (text_at body (span_of from to))) to)

-- the value of a head's first Content-Disposition; each line of a head has a line end before it
abbrev pub disposition : List ℕ → Span → Option Span
disposition body head =
    option_map (λ place. line_from body (place + 22) head.to) (place_any_case (13 ∷ 10 ∷ codes "Content-Disposition:") head.from (text_at body head))

-- the field that a Content-Disposition `form-data` with a name makes of a part's content
abbrev pub named_field : List ℕ → Span → Span → Option Field
named_field body content value =
    if has_type (codes "form-data") (text_at body value)
    then option_map
    (λ name. record { name = name; filename = parameter (codes "filename=") body value; content = content })
    (parameter (codes "name=") body value)
    else None

-- the field of a part whose empty line is at this place
abbrev pub field_around : List ℕ → Span → ℕ → Option Field
field_around body part end =
    option_and_then (named_field body (span_of (end + 4) part.to)) (disposition body (span_of (part.from - 2) (end + 2)))

-- a part's field: the part is header lines, an empty line and the content. The line end before it is its delimiter's
abbrev pub field_of : List ℕ → Span → Option Field
field_of body part = option_and_then (field_around body part) (empty_line body (span_of (part.from - 2) part.to))

-- a part that is no field
abbrev pub is_bad : List ℕ → Span → Bool
is_bad body part = is_none (field_of body part)

-- the last element that passes a test
abbrev pub last_such : {A : Type 0} → (A → Bool) → List A → Option A
last_such test [] = None
last_such test (x ∷ xs) = option_or (last_such test xs) (if test x then Some x else None)

-- whether a field has this name
abbrev pub is_named : List ℕ → List ℕ → Field → Bool
is_named body name field = bytes_eq (text_at body field.name) name

-- a field named `file` that has a filename
abbrev pub is_file : List ℕ → Field → Bool
is_file body field = is_named body (codes "file") field && is_some field.filename

-- a text is this word, in any case of its letters
abbrev pub is_word : List ℕ → List ℕ → Bool
is_word word text = bytes_eq (map to_ascii_lowercase text) word

-- a text is one of the words by which a flag is true, in any case of its letters
abbrev pub is_yes : List ℕ → Bool
is_yes text =
    is_word (codes "true") text
    || (is_word (codes "1") text || (is_word (codes "yes") text || (is_word (codes "y") text || is_word (codes "on") text)))

-- the content is a word by which a flag is true
abbrev pub is_true : List ℕ → Field → Bool
is_true body field = is_yes (text_at body field.content)

-- what a form's fields say: the last file, the last folder, and whether the last field of each of two names is true
pub record IsForm (body : List ℕ) (fields : List Field) (parts : Parts) : Type 0 where
  pub name : parts.name ≡ option_and_then (λ (field : Field). field.filename) (last_such (is_file body) fields)
  pub file : parts.file ≡ option_map (λ (field : Field). field.content) (last_such (is_file body) fields)
  pub folder : parts.folder ≡ option_map (λ (field : Field). field.content) (last_such (is_named body (codes "path")) fields)
  pub select : parts.select ≡ option_map_or (is_true body) (last_such (is_named body (codes "select")) fields) false
  pub print : parts.print ≡ option_map_or (is_true body) (last_such (is_named body (codes "print")) fields) false

-- what parts say after one more field
pub record AddsField (body : List ℕ) (field : Field) (old new : Parts) : Type 0 where
  pub name : new.name ≡ (if is_file body field then field.filename else old.name)
  pub file : new.file ≡ (if is_file body field then Some field.content else old.file)
  pub folder : new.folder ≡ (if is_named body (codes "path") field then Some field.content else old.folder)
  pub select : new.select ≡ (if is_named body (codes "select") field then is_true body field else old.select)
  pub print : new.print ≡ (if is_named body (codes "print") field then is_true body field else old.print)

-- what a body of this boundary says. A missing end is returned before a bad part, and of the bad parts the first
pub data BodyReadsAs (body dashes : List ℕ) : Result Parts PartFault → Type 0 where
  unclosed : IsUnclosed body dashes → BodyReadsAs body dashes (Err fault.NoClose)
  bad : (spans : List Span) (part : Span) → Reaches body dashes spans None → find (is_bad body) spans ≡ Some part
      → BodyReadsAs body dashes (Err (fault.BadPart part.from))
  form : (spans : List Span) (parts : Parts) → Reaches body dashes spans None → find (is_bad body) spans ≡ None
      → IsForm body (filter_map (field_of body) spans) parts → BodyReadsAs body dashes (Ok parts)

-- what a body and its type say
abbrev pub FormReadsAs : List ℕ → List ℕ → Result Parts PartFault → Type 0
FormReadsAs body kind result = MatchOption (boundary_of kind) (result ≡ Err fault.NoBoundary) (λ boundary. BodyReadsAs body (45 ∷ 45 ∷ boundary) result)

-- the spans of a field lie in the body
pub record IsFieldIn (field : Field) (body : List ℕ) : Type 0 where
  pub name : IsWithin field.name body
  pub filename : IfSome field.filename (λ span. IsWithin span body)
  pub content : IsWithin field.content body

-- the spans of what parts say lie in the body
abbrev pub ArePartsIn : Parts → List ℕ → Type 0
ArePartsIn parts body =
    IfSome parts.name (λ span. IsWithin span body) × IfSome parts.file (λ span. IsWithin span body)
    × IfSome parts.folder (λ span. IsWithin span body)

-- what was seen of these parts: the first bad one, and what the others say
pub record IsSeen (body : List ℕ) (spans : List Span) (seen : Seen) : Type 0 where
  pub bad : seen.bad ≡ option_map (λ (part : Span). part.from) (find (is_bad body) spans)
  pub form : IsForm body (filter_map (field_of body) spans) seen.parts

-- a bad part is returned first
abbrev pub SeenReadsAs : Seen → Result Parts PartFault → Type 0
SeenReadsAs seen result = MatchOption seen.bad (result ≡ Ok seen.parts) (λ at. result ≡ Err (fault.BadPart at))
