-- What uploads ask.
use Rattle.std.specs.Prelude.{ℕ, ◌==◌, Bool, ◌||◌, List, [], ◌∷◌, ◌++◌, length, map, take, nat_le, if◌then◌else◌, not, Option, Some, None, Result, Ok, Err}
use Rattle.std.specs.List.{after_last, list_all}
use Rattle.octo_access.specs.Names.{is_name_byte}
use Rattle.octo_asks.specs.declared.request.Request.{Request}
use Rattle.octo_asks.specs.declared.request.Request.TheVariants as request
use Rattle.octo_http_forms.specs.Texts.{text_at}
use Rattle.octo_http_forms.specs.declared.types.Span.{Span}
use Rattle.octo_http_forms.specs.declared.types.Parts.{Parts}
use Rattle.octo_http_forms.specs.declared.types.PartFault.{PartFault}
use Rattle.octo_http_forms.specs.declared.types.PartFault.TheVariants as part_fault
use Rattle.octo_api_routes.specs.declared.direct.Direct.{Direct}
use Rattle.octo_api_routes.specs.declared.direct.Direct.TheVariants as direct
use Rattle.octo_api_routes.specs.declared.direct.BodyFault.TheVariants as body_fault
use Rattle.octo_api_routes.specs.declared.direct.MediaFault.TheVariants as media_fault
use Rattle.octo_access.specs.FileNames.{is_gcode}
use Rattle.octo_api_routes.specs.Ascii.{is_ascii_byte}
use Rattle.octo_api_requests.specs.Marked.{marked}

-- a slash or a backslash
abbrev pub is_separator : ℕ → Bool
is_separator byte = byte == 47 || byte == 92

-- what comes after the last separator
abbrev pub without_folders : List ℕ → List ℕ
without_folders filename = after_last is_separator filename

-- a byte that a name may not have, and a full stop in front, become `_`
abbrev pub clean_byte : ℕ → ℕ
clean_byte byte = if is_name_byte byte then byte else 95

-- a full stop in front becomes `_`
abbrev pub start_byte : ℕ → ℕ
start_byte byte = if byte == 46 then 95 else byte

-- a name without a full stop in front
abbrev pub clean_start : List ℕ → List ℕ
clean_start [] = []
clean_start (byte ∷ bytes) = start_byte byte ∷ bytes

-- a name as it was sent, after the folder of its form if that isn't empty
abbrev pub sent_name : List ℕ → List ℕ → List ℕ
sent_name [] name = name
sent_name (byte ∷ bytes) name = (byte ∷ bytes) ++ 47 ∷ name

-- a sent name with the bytes that a name may have
abbrev pub cleaned : List ℕ → List ℕ
cleaned sent = clean_start (map clean_byte sent)

-- a name that isn't too long
abbrev pub short_name : List ℕ → Result (List ℕ) Direct
short_name name = if nat_le (length name) 100 then Ok name else Err (direct.BadBody (body_fault.LongName (length name)))

-- the name of a stored file: its ending is tested first. One that was sent with bytes beyond ASCII gets a mark, another is tested for
-- its length
abbrev pub checked_name : List ℕ → Result (List ℕ) Direct
checked_name sent =
    if not (is_gcode (cleaned sent)) then Err (direct.BadMedia (media_fault.NoEnding (take 100 (cleaned sent))))
    else if list_all is_ascii_byte sent then short_name (cleaned sent)
    else short_name (marked sent (cleaned sent))

-- the name that an uploaded file gets from the folder of its form and its filename
abbrev pub stored_name : List ℕ → List ℕ → Result (List ℕ) Direct
stored_name folder filename = checked_name (sent_name folder (without_folders filename))

-- the folder of a form, empty if it has none
abbrev pub folder_of : List ℕ → Option Span → List ℕ
folder_of body None = []
folder_of body (Some folder) = text_at body folder

-- the request to store a file under a name, or why the name is refused
abbrev pub put_file : Parts → List ℕ → Result (List ℕ) Direct → Result Request Direct
put_file parts bytes (Ok name) = Ok (request.PutFile name bytes parts.select parts.print)
put_file parts bytes (Err e) = Err e

-- what the parts of a form ask; without a file they ask nothing
abbrev pub file_asked : List ℕ → Parts → Option Span → Option Span → Result Request Direct
file_asked body parts (Some name) (Some file) = put_file parts (text_at body file) (stored_name (folder_of body parts.folder) (text_at body name))
file_asked body parts None file = Err (direct.BadBody body_fault.NoFile)
file_asked body parts (Some name) None = Err (direct.BadBody body_fault.NoFile)

-- what a body that is no such form is refused by
abbrev pub refused_by : PartFault → Direct
refused_by part_fault.NoBoundary = direct.BadMedia media_fault.NoForm
refused_by part_fault.NoClose = direct.BadBody body_fault.NoClose
refused_by (part_fault.BadPart at) = direct.BadBody body_fault.BadPart

-- what a form asks
abbrev pub form_asked : List ℕ → Result Parts PartFault → Result Request Direct
form_asked body (Ok parts) = file_asked body parts parts.name parts.file
form_asked body (Err fault) = Err (refused_by fault)
