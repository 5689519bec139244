-- The bytes of a reply (RFC 9112, section 4).
use Rattle.std.specs.Prelude.{ℕ, ◌==◌, ◌&&◌, nat_le, nat_lt, if◌then◌else◌, List, [], ◌++◌, length, codes, decimal, unwrap_or}
use Rattle.http.specs.StatusCode.{reason_phrase}
use Rattle.octo_http.specs.Part.{crlf}
use Rattle.octo_http.specs.declared.reply.ReplyKind.{ReplyKind}
use Rattle.octo_http.specs.declared.reply.ReplyKind.TheVariants.{Empty, Json, Bytes}
use Rattle.octo_http.specs.declared.reply.HttpReply.{HttpReply}

-- the phrase of a status code, empty if it has none
unfoldable pub reason_of : ℕ → List ℕ
reason_of code = unwrap_or (reason_phrase code) []

-- the phrase of a status, empty if it isn't a code of three digits
unfoldable pub phrase_of : ℕ → List ℕ
phrase_of status = if nat_le 100 status && nat_lt status 1000 then reason_of status else []

-- the status line, and that the connection is closed
abbrev pub first_lines : ℕ → List ℕ
first_lines status =
    codes "HTTP/1.1 " ++ decimal status ++ codes " " ++ phrase_of status ++ (crlf ++ codes "Connection: close" ++ crlf)

-- the line of a body's type
abbrev pub type_line : ReplyKind → List ℕ
type_line Empty = []
type_line Json = codes "Content-Type: application/json" ++ crlf
type_line Bytes = codes "Content-Type: application/octet-stream" ++ crlf

-- all that is before a body of n bytes: further fields come last; 204 has no length
abbrev pub head_bytes : ℕ → ReplyKind → ℕ → List ℕ → List ℕ
head_bytes status kind n fields =
    if status == 204 then first_lines status ++ fields ++ crlf
    else first_lines status ++ codes "Content-Length: " ++ decimal n ++ crlf ++ type_line kind ++ fields ++ crlf

-- the body that is sent: none with 204, nor if the reply is empty
abbrev pub sent_body : ℕ → ReplyKind → List ℕ → List ℕ
sent_body status Empty body = []
sent_body status Json body = if status == 204 then [] else body
sent_body status Bytes body = if status == 204 then [] else body

-- a reply with more fields before its own
abbrev pub with_fields : List ℕ → HttpReply → HttpReply
with_fields more r = record r { fields = record { items = more ++ r.fields.items } }

-- all that is before the body of a reply
abbrev pub reply_head : HttpReply → List ℕ
reply_head r = head_bytes r.status r.kind (length (sent_body r.status r.kind r.body)) r.fields.items

-- the bytes of a reply
abbrev pub reply_bytes : HttpReply → List ℕ
reply_bytes r =
    head_bytes r.status r.kind (length (sent_body r.status r.kind r.body)) r.fields.items ++ sent_body r.status r.kind r.body
