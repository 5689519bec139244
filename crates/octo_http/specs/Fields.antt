-- The fields of a head, and what they say.
use Rattle.std.specs.Prelude.{ℕ, Bool, true, not, ◌&&◌, ◌==◌, bytes_eq, if◌then◌else◌, List, [], ◌∷◌, take, drop, codes, Option, Some, None, option_and_then}
use Rattle.std.specs.List.{list_any, take_while}
use Rattle.std.specs.Str.{str_eq_ignore_ascii_case}

-- names and values, in the order of the head
abbrev pub FieldList : Type 0
FieldList = List (List ℕ × List ℕ)

-- the values of the fields of a name, in any case
abbrev pub values : List ℕ → FieldList → List (List ℕ)
values name [] = []
values name (field ∷ fields) =
    if str_eq_ignore_ascii_case field.0 name then field.1 ∷ values name fields else values name fields

-- the first of them
abbrev pub first_of : List (List ℕ) → Option (List ℕ)
first_of [] = None
first_of (value ∷ more) = Some value

-- whether one of them is this text, in any case
abbrev pub one_is : List ℕ → List (List ℕ) → Bool
one_is text vs = list_any (λ v. str_eq_ignore_ascii_case v text) vs

-- whether one of them is another text
abbrev pub one_is_not : List ℕ → List (List ℕ) → Bool
one_is_not text vs = list_any (λ v. not (str_eq_ignore_ascii_case v text)) vs

-- the key of an Authorization
abbrev pub bearer_of : List ℕ → Option (List ℕ)
bearer_of value =
    if str_eq_ignore_ascii_case (take 7 value) (codes "Bearer ") then Some (drop 7 value) else None

-- the first if there is one, else the second
abbrev pub or_else : Option (List ℕ) → Option (List ℕ) → Option (List ℕ)
or_else None other = other
or_else (Some value) other = Some value

-- the caller's key: the first X-Api-Key, else the first Authorization's
abbrev pub key_of : FieldList → Option (List ℕ)
key_of fields =
    or_else (first_of (values (codes "X-Api-Key") fields)) (option_and_then bearer_of (first_of (values (codes "Authorization") fields)))

-- whether a byte belongs to a part of a query
abbrev pub is_part_byte : ℕ → Bool
is_part_byte byte = not (byte == 38)

-- the value of the first `apikey` of a query; a part begins at the front and after each `&`
abbrev pub query_key : Bool → List ℕ → Option (List ℕ)
query_key begins [] = None
query_key begins (byte ∷ bytes) =
    if begins && bytes_eq (take 7 (byte ∷ bytes)) (codes "apikey=") then Some (take_while is_part_byte (drop 7 (byte ∷ bytes)))
    else query_key (byte == 38) bytes

-- the caller's key: that of the fields, else that of the query
abbrev pub caller_key : FieldList → List ℕ → Option (List ℕ)
caller_key fields query = or_else (key_of fields) (query_key true query)

-- the body's type
abbrev pub kind_of : FieldList → Option (List ℕ)
kind_of fields = first_of (values (codes "Content-Type") fields)

-- the origin of the page that sends the message (RFC 6454, section 7)
abbrev pub origin_of : FieldList → Option (List ℕ)
origin_of fields = first_of (values (codes "Origin") fields)

-- whether the body is said to have a coding
abbrev pub is_encoded : FieldList → Bool
is_encoded fields = one_is_not (codes "identity") (values (codes "Content-Encoding") fields)

-- whether the client waits for `100 Continue` before it sends the body
abbrev pub expects_continue : FieldList → Bool
expects_continue fields = one_is (codes "100-continue") (values (codes "Expect") fields)
