-- Pages of other origins, and the fields that let them read a reply (Fetch, section 3.3).
use Rattle.std.specs.Prelude.{ℕ, List, [], ◌∷◌, ◌++◌, codes, bytes_eq, if◌then◌else◌, Option, Some, None}
use Rattle.octo_http.specs.Part.{crlf}
use Rattle.octo_api_routes.specs.declared.direct.Direct.{Direct}
use Rattle.octo_api_routes.specs.declared.direct.Direct.TheVariants as direct
use Rattle.octo_api_routes.specs.declared.direct.Methods.{Methods}
use Rattle.octo_api_refusals.specs.Reasons.{methods_text}

-- the origin of the list that is this text
abbrev pub origin_in : List (List ℕ) → List ℕ → Option (List ℕ)
origin_in [] text = None
origin_in (origin ∷ origins) text = if bytes_eq origin text then Some origin else origin_in origins text

-- the origin of a message, if it has one and that is in the list
abbrev pub listed : List (List ℕ) → Option (List ℕ) → Option (List ℕ)
listed origins None = None
listed origins (Some origin) = origin_in origins origin

-- a field as a line
abbrev pub field_line : List ℕ → List ℕ → List ℕ
field_line name value = name ++ codes ": " ++ value ++ crlf

-- the fields that let pages of an origin read a reply, and tell caches that another origin gets another one
abbrev pub allow_origin : List ℕ → List ℕ
allow_origin origin = field_line (codes "Access-Control-Allow-Origin") origin ++ field_line (codes "Vary") (codes "Origin")

-- the fields of a reply to a message from this origin
abbrev pub origin_lines : Option (List ℕ) → List ℕ
origin_lines None = []
origin_lines (Some origin) = allow_origin origin

-- the methods and the fields that a page may send
abbrev pub allow_use : Methods → List ℕ
allow_use allowed =
    field_line (codes "Access-Control-Allow-Methods") (methods_text allowed)
    ++ field_line (codes "Access-Control-Allow-Headers") (codes "X-Api-Key, Content-Type")

-- the fields of a reply to OPTIONS from this origin
abbrev pub preflight_lines : Methods → Option (List ℕ) → List ℕ
preflight_lines allowed None = []
preflight_lines allowed (Some origin) = allow_origin origin ++ allow_use allowed

-- the fields of a reply to a message from this origin that is no request
abbrev pub direct_lines : Direct → Option (List ℕ) → List ℕ
direct_lines (direct.Options allowed) origin = preflight_lines allowed origin
direct_lines _ origin = origin_lines origin
