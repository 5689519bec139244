-- Replies with compact JSON, and the reply to each refusal of a message and to each fault of one.
use Rattle.std.specs.Prelude.{◌≡◌, ◌⊎◌, ℕ, List, [], codes, Option, Some, None, option_map}
use Rattle.arrayvec.specs.ArrayVec.{ArrayVec}
use Rattle.serde_json.specs.Data.{Data, string, object, no_members, member}
use Rattle.serde_json.specs.Written.{compact_text}
use Rattle.octo_http.specs.declared.fault.MessageFault.{MessageFault}
use Rattle.octo_http.specs.declared.fault.MessageFault.TheVariants as fault
use Rattle.octo_http.specs.declared.reply.HttpReply.{HttpReply}
use Rattle.octo_http.specs.declared.reply.ReplyKind.TheVariants.{Empty, Json}
use Rattle.octo_api_routes.specs.declared.direct.BodyFault.{BodyFault}
use Rattle.octo_api_routes.specs.declared.direct.BodyFault.TheVariants as body_fault
use Rattle.octo_api_routes.specs.declared.direct.Methods.{Methods}
use Rattle.octo_api_routes.specs.declared.direct.Direct.{Direct}
use Rattle.octo_api_routes.specs.declared.direct.Direct.TheVariants as direct
use Rattle.octo_api_refusals.specs.Reasons.{body_reason, media_reason, method_reason, allow_line}

-- no further fields
abbrev pub no_fields : ArrayVec ℕ
no_fields = record { items = [] }

-- a reply without a body
abbrev pub empty_reply : ℕ → HttpReply
empty_reply status = record { status = status; kind = Empty; fields = no_fields; body = [] }

-- a reply with compact JSON
abbrev pub json_reply : ℕ → Data → HttpReply
json_reply status value = record { status = status; kind = Json; fields = no_fields; body = compact_text value }

-- a refusal with a text under a name that is after `error`
abbrev pub noted_data : List ℕ → List ℕ → List ℕ → Data
noted_data name key text = object (
    member (codes "error") (string name)
    (member key (string text)
    no_members))

-- the status of a body that isn't taken
abbrev pub body_status : BodyFault → ℕ
body_status body_fault.Password = 403
body_status _ = 400

-- the name of the refusal
abbrev pub body_error : BodyFault → List ℕ
body_error body_fault.Password = codes "NoPassword"
body_error _ = codes "BadBody"

-- the status of a message that is no request
abbrev pub direct_status : Direct → ℕ
direct_status (direct.BadBody fault) = body_status fault
direct_status direct.NoRoute = 404
direct_status (direct.BadMethod allowed) = 405
direct_status (direct.Options allowed) = 204
direct_status direct.NoLength = 411
direct_status (direct.BadMedia fault) = 415
direct_status direct.NoMemory = 507

-- the status of an input that is no message, none if nobody reads a reply
abbrev pub fault_status : MessageFault → Option ℕ
fault_status fault.BadHead = Some 400
fault_status fault.HeadTooLarge = Some 431
fault_status fault.BodyTooLarge = Some 413
fault_status fault.BadChunk = Some 400
fault_status fault.Ended = None
fault_status fault.ReadFault = None
fault_status fault.NoMemory = Some 507
fault_status (fault.Slow quiet) = Some 408

-- a refusal with its reason
abbrev pub reasoned : ℕ → List ℕ → List ℕ → HttpReply
reasoned status name reason = json_reply status (noted_data name (codes "reason") reason)

-- a reply with the field that names the methods of a path
abbrev pub with_allow : Methods → HttpReply → HttpReply
with_allow allowed reply = record reply { fields = record { items = allow_line allowed } }

-- the reply to a message that is no request
abbrev pub direct_reply : Direct → HttpReply
direct_reply (direct.BadBody fault) = reasoned (body_status fault) (body_error fault) (body_reason fault)
direct_reply direct.NoRoute = reasoned 404 (codes "NoRoute") (codes "there is no such path")
direct_reply (direct.BadMethod allowed) = with_allow allowed (reasoned 405 (codes "BadMethod") (method_reason allowed))
direct_reply (direct.Options allowed) = with_allow allowed (empty_reply 204)
direct_reply direct.NoLength = reasoned 411 (codes "NoLength") (codes "the body has neither a Content-Length nor chunks")
direct_reply (direct.BadMedia fault) = reasoned 415 (codes "BadMedia") (media_reason fault)
direct_reply direct.NoMemory = empty_reply 507

-- the reply to an input that is no message, none if nobody reads a reply
abbrev pub fault_reply : MessageFault → Option HttpReply
fault_reply fault.BadHead = Some (reasoned 400 (codes "BadHead") (codes "the head is malformed, or its fields contradict each other"))
fault_reply fault.HeadTooLarge = Some (reasoned 431 (codes "HeadTooLarge") (codes "the head has more than 16384 bytes or more than 64 fields"))
fault_reply fault.BodyTooLarge = Some (reasoned 413 (codes "BodyTooLarge") (codes "the body has more than 68157440 bytes"))
fault_reply fault.BadChunk = Some (reasoned 400 (codes "BadChunk") (codes "a chunk of the body is malformed or too long"))
fault_reply fault.Ended = None
fault_reply fault.ReadFault = None
fault_reply fault.NoMemory = Some (empty_reply 507)
fault_reply (fault.Slow quiet) = Some (reasoned 408 (codes "Slow") (codes "the message did not come in time"))

-- the reply to a message that is no request, or its status alone if memory ran out
abbrev pub IsDirectReply : Direct → HttpReply → Type 0
IsDirectReply direct reply = (reply ≡ direct_reply direct) ⊎ (reply ≡ empty_reply (direct_status direct))

-- the reply to an input that is no message, or its status alone if memory ran out
abbrev pub IsFaultReply : MessageFault → Option HttpReply → Type 0
IsFaultReply fault reply = (reply ≡ fault_reply fault) ⊎ (reply ≡ option_map empty_reply (fault_status fault))
