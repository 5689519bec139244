-- What a message asks, or why it is no request.
use Rattle.std.specs.Prelude.{◌≡◌, ◌⊎◌, ℕ, Bool, true, false, not, nat_lt, List, [], length, codes, if◌then◌else◌, Option, Some, None, unwrap_or, IsUtf8, Result, Ok, Err}
use Rattle.std.specs.Option.{option_map_or}
use Rattle.std.specs.Str.{bytes_eq}
use Rattle.serde_json.specs.Data.{Data}
use Rattle.serde_json.specs.Read.{read}
use Rattle.octo_http_forms.specs.Values.{is_type}
use Rattle.octo_http_forms.specs.Parts.{FormReadsAs}
use Rattle.octo_http_forms.specs.declared.types.Parts.{Parts}
use Rattle.octo_http_forms.specs.declared.types.PartFault.{PartFault}
use Rattle.octo_http_forms.specs.declared.types.PartFault.TheVariants as part_fault
use Rattle.octo_asks.specs.declared.request.Request.{Request}
use Rattle.octo_asks.specs.declared.request.Ask.{Ask}
use Rattle.octo_http.specs.declared.message.Message.{Message}
use Rattle.octo_api_routes.specs.declared.direct.Direct.{Direct}
use Rattle.octo_api_routes.specs.declared.direct.Direct.TheVariants as direct
use Rattle.octo_api_routes.specs.declared.direct.BodyFault.{BodyFault}
use Rattle.octo_api_routes.specs.declared.direct.BodyFault.TheVariants as body_fault
use Rattle.octo_api_routes.specs.declared.direct.MediaFault.TheVariants as media_fault
use Rattle.octo_api_routes.specs.declared.target.Target.{Target}
use Rattle.octo_api_routes.specs.declared.wanted.Form.{Form}
use Rattle.octo_api_routes.specs.declared.wanted.Wanted.{Wanted}
use Rattle.octo_api_routes.specs.declared.wanted.Wanted.TheVariants.{Nothing, Json, Upload}
use Rattle.octo_api_routes.specs.Places.{target_of}
use Rattle.octo_api_routes.specs.Wants.{methods_of, wanted_of}
use Rattle.octo_api_commands.specs.declared.unread.Unread.{Unread}
use Rattle.octo_api_commands.specs.declared.unread.Unread.TheVariants as unread
use Rattle.octo_api_requests.specs.Bodies.{asked_in}
use Rattle.octo_api_requests.specs.BodyFaults.{fault_in}
use Rattle.octo_api_requests.specs.Uploads.{form_asked}

-- a body is this JSON, or none
pub data IsJson (body : List ℕ) : Option Data → Type 0 where
  json : (value : Data) → IsUtf8 body → read body ≡ Some value → IsJson body (Some value)
  no_json : (IsUtf8 body → read body ≡ None) → IsJson body None

-- the type is JSON, after which only parameters may come, or none is given
abbrev pub takes_json : Option (List ℕ) → Bool
takes_json kind = option_map_or (is_type (codes "application/json")) kind true

-- what a reading returns, or what is wrong with the body if it returns nothing
abbrev pub or_bad : BodyFault → Option Request → Result Request Direct
or_bad fault None = Err (direct.BadBody fault)
or_bad fault (Some request) = Ok request

-- why a body that isn't read asks nothing
abbrev pub refusal_of : Unread → BodyFault → Direct
refusal_of unread.NoMemory fault = direct.NoMemory
refusal_of unread.Wrong fault = direct.BadBody fault

-- what the JSON of a body asks
abbrev pub asked_json : Form → Option Data → Result Request Direct
asked_json form None = Err (direct.BadBody body_fault.NotJson)
asked_json form (Some body) = or_bad (fault_in form body) (asked_in form body)

-- what a body of JSON asks: it has at most 1,048,576 bytes
abbrev pub asked_body : Form → List ℕ → Option Data → Result Request Direct
asked_body form body value = if nat_lt 1048576 (length body) then Err (direct.BadBody body_fault.TooLong) else asked_json form value

-- what a message asks, if its body is this JSON and says these parts: a length is tested first, then the type
abbrev pub request_in : Wanted → Message → Option Data → Result Parts PartFault → Result Request Direct
request_in (Nothing request) message value parts = if message.encoded then Err (direct.BadMedia media_fault.Coded) else Ok request
request_in (Json form) message value parts =
    if not message.sized then Err direct.NoLength
    else if message.encoded then Err (direct.BadMedia media_fault.Coded)
    else if not (takes_json message.kind) then Err (direct.BadMedia media_fault.NotJson)
    else asked_body form message.body value
request_in Upload message value parts =
    if not message.sized then Err direct.NoLength
    else if message.encoded then Err (direct.BadMedia media_fault.Coded)
    else form_asked message.body parts

-- what a method wants of a path: the path is tested first
abbrev pub or_bad_method : Target → Option Wanted → Result Wanted Direct
or_bad_method target None = Err (direct.BadMethod (methods_of target))
or_bad_method target (Some wanted) = Ok wanted

-- what a path and a method want; OPTIONS only asks for the methods of a path
abbrev pub wanted_for : List ℕ → Option Target → Result Wanted Direct
wanted_for method None = Err direct.NoRoute
wanted_for method (Some target) =
    if bytes_eq method (codes "OPTIONS") then Err (direct.Options (methods_of target)) else or_bad_method target (wanted_of method target)

-- what a message asks by its path and its method
abbrev pub request_for : Result Wanted Direct → Message → Option Data → Result Parts PartFault → Result Request Direct
request_for (Ok wanted) message value parts = request_in wanted message value parts
request_for (Err e) message value parts = Err e

-- what a message asks, if its body is this JSON and says these parts
abbrev pub request_at : Message → Option Data → Result Parts PartFault → Result Request Direct
request_at message value parts = request_for (wanted_for message.method (target_of message.path)) message value parts

-- a message's key; without one it is empty
abbrev pub key_of : Message → List ℕ
key_of message = unwrap_or message.key []

-- what a form says of a message without a type is what it says of an empty one: it has no boundary
abbrev pub type_of : Message → List ℕ
type_of message = unwrap_or message.kind []

-- a request with the key of its caller
abbrev pub asked_by : List ℕ → Result Request Direct → Result Ask Direct
asked_by key (Ok request) = Ok (record { key = key; request = request })
asked_by key (Err e) = Err e

-- a result is what is asked by the JSON that the body is and by what its form says; memory may run out
abbrev pub Asks : {A : Type 0} → Message → (Option Data → Result Parts PartFault → Result A Direct) → Result A Direct → Type 0
Asks message asked result =
    (result ≡ Err direct.NoMemory)
    ⊎ ((value : Option Data) → IsJson message.body value
    → (parts : Result Parts PartFault) → FormReadsAs message.body (type_of message) parts
    → result ≡ asked value parts)

-- what a message says
abbrev pub MessageReadsAs : Message → Result Ask Direct → Type 0
MessageReadsAs message result = Asks message (λ value parts. asked_by (key_of message) (request_at message value parts)) result
