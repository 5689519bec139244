-- How long the body is (RFC 9112, section 6).
use Rattle.std.specs.Prelude.{ℕ, if◌then◌else◌, List, [], ◌∷◌, codes, bytes_eq, Option, Some, None, option_map}
use Rattle.std.specs.List.{list_all}
use Rattle.std.specs.Str.{str_eq_ignore_ascii_case}
use Rattle.byte_text.specs.Number.{whole_number}
use Rattle.octo_http.specs.Fields.{FieldList, values}
use Rattle.octo_http.specs.declared.framing.Framing.{Framing}
use Rattle.octo_http.specs.declared.framing.Framing.TheVariants.{NoBody, Length, Chunked}

-- by the values of Content-Length and of Transfer-Encoding: no body, one length of 1 to 18 digits, or chunks; else none
abbrev pub framing_by : List (List ℕ) → List (List ℕ) → Option Framing
framing_by [] [] = Some NoBody
framing_by (length ∷ lengths) [] = if list_all (λ other. bytes_eq other length) lengths then option_map Length (whole_number length 18) else None
framing_by [] (coding ∷ []) = if str_eq_ignore_ascii_case coding (codes "chunked") then Some Chunked else None
framing_by [] (coding ∷ other ∷ codings) = None
framing_by (length ∷ lengths) (coding ∷ codings) = None

-- how long the body is, by the fields
abbrev pub framing_of : FieldList → Option Framing
framing_of fields = framing_by (values (codes "Content-Length") fields) (values (codes "Transfer-Encoding") fields)
