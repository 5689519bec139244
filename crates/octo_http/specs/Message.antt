-- What an input says as a message, and what a reader of it answers and writes.
use Rattle.std.specs.Prelude.{◌≡◌, ℕ, ◌+◌, ◌<◌, ◌≤◌, ◌⊎◌, Bool, true, false, ◌&&◌, nat_lt, nat_le, if◌then◌else◌, List, [], ◌++◌, length, take, codes, Option, Some, Result, Ok, Err, IfErr}
use Rattle.octo_outside.specs.Recorded.{Became, last_count}
use Rattle.octo_http.specs.Input.{Holds}
use Rattle.octo_http.specs.Head.{IsHead, HeadFault}
use Rattle.octo_http.specs.Part.{crlf_crlf}
use Rattle.octo_http.specs.Chunks as chunks
use Rattle.octo_http.specs.declared.fault.MessageFault.{MessageFault}
use Rattle.octo_http.specs.declared.fault.MessageFault.TheVariants.{BadHead, HeadTooLarge, BodyTooLarge, BadChunk, Ended, ReadFault, NoMemory, Slow}
use Rattle.octo_http.specs.declared.framing.Framing.{Framing}
use Rattle.octo_http.specs.declared.framing.Framing.TheVariants.{NoBody, Length, Chunked}
use Rattle.octo_http.specs.declared.head.Head.{Head}
use Rattle.octo_http.specs.declared.message.Begun.{Begun}
use Rattle.octo_http.specs.declared.message.Message.{Message}

-- whether a length or chunks were given
abbrev pub is_sized : Framing → Bool
is_sized NoBody = false
is_sized (Length n) = true
is_sized Chunked = true

-- whether there is a body to read
abbrev pub has_body : Framing → Bool
has_body NoBody = false
has_body (Length n) = nat_lt 0 n && nat_le n chunks.most_body
has_body Chunked = true

-- what lets the client send the body
abbrev pub continue_line : List ℕ
continue_line = codes "HTTP/1.1 100 Continue" ++ crlf_crlf

-- whether a body is long: it has more than 4,096 bytes or is in chunks
abbrev pub is_long : Framing → Bool
is_long NoBody = false
is_long (Length n) = nat_lt 4096 n
is_long Chunked = true

-- what is written before the body is read
abbrev pub continue_due : Head → List ℕ
continue_due head = if head.expects && has_body head.framing then continue_line else []

-- the message of a head and a body
abbrev pub message_of : Head → List ℕ → Message
message_of head body = record {
  method = head.method;
  path = head.path;
  key = head.key;
  origin = head.origin;
  kind = head.kind;
  sized = is_sized head.framing;
  encoded = head.encoded;
  body = body;
}

-- the message has what this head says
abbrev pub IsOfHead : Head → Message → Type 0
IsOfHead head m = (body : List ℕ) × (m ≡ message_of head body)

-- an input begins with this head
abbrev pub BeginsWith : List ℕ → Head → Type 0
BeginsWith input head = (bytes : List ℕ) × (rest : List ℕ) × IsHead bytes head × (input ≡ bytes ++ rest)

-- an input of which the head was taken, and of what follows it these bytes were read and this is left
pub record Begins (input : List ℕ) (left : Option (List ℕ)) (begun : Begun) : Type 0 where
  pub bytes : List ℕ
  pub rest : List ℕ
  pub is : IsHead bytes begun.head
  pub split : input ≡ bytes ++ rest
  pub holds : Holds begun.intake.bytes left rest

-- what an input says as a body of this length
pub data ReadsBody : Framing → List ℕ → Result (List ℕ) MessageFault → Type 0 where
  no_body : (input : List ℕ) → ReadsBody NoBody input (Ok [])
  whole : (n : ℕ) (body rest : List ℕ) → n ≤ chunks.most_body → length body ≡ n → ReadsBody (Length n) (body ++ rest) (Ok body)
  large : (n : ℕ) (input : List ℕ) → chunks.most_body < n → ReadsBody (Length n) input (Err BodyTooLarge)
  short : (n : ℕ) (input : List ℕ) → n ≤ chunks.most_body → length input < n → ReadsBody (Length n) input (Err Ended)
  in_chunks : (input : List ℕ) (r : Result (List ℕ) MessageFault) → chunks.Chunked [] input r → ReadsBody Chunked input r

-- the faults of a body
abbrev pub IsBodyFault : Framing → List ℕ → MessageFault → Type 0
IsBodyFault framing input f = ReadsBody framing input (Err f)

-- what an input says as a message, and what is written before its body is read
pub data ReadsMessage : List ℕ → Result Message MessageFault → List ℕ → Type 0 where
  message : (bytes rest : List ℕ) (head : Head) (body : List ℕ) → IsHead bytes head → ReadsBody head.framing rest (Ok body)
      → ReadsMessage (bytes ++ rest) (Ok (message_of head body)) (continue_due head)
  no_head : (input : List ℕ) (f : MessageFault) → HeadFault input f → ReadsMessage input (Err f) []
  bad_body : (bytes rest : List ℕ) (head : Head) (f : MessageFault) → IsHead bytes head → IsBodyFault head.framing rest f
      → ReadsMessage (bytes ++ rest) (Err f) (continue_due head)

-- what was read holds no whole message: were it all, the input would have ended inside one
abbrev pub IsUnfinished : List ℕ → Option (List ℕ) → List ℕ → Type 0
IsUnfinished input left sent =
    (used : List ℕ) × (rest : List ℕ) × (input ≡ used ++ rest) × (left ≡ Some rest) × ReadsMessage used (Err Ended) sent

-- `100 Continue` was written, if it was asked for
abbrev pub IsLeaveGiven : List ℕ → List ℕ → Type 0
IsLeaveGiven input sent =
    (bytes : List ℕ) × (rest : List ℕ) × (head : Head) × (input ≡ bytes ++ rest) × IsHead bytes head × (sent ≡ continue_due head)

-- `100 Continue` couldn't be written whole
abbrev pub IsLeaveCut : List ℕ → List ℕ → Type 0
IsLeaveCut input sent =
    (bytes : List ℕ) × (rest : List ℕ) × (head : Head) × (n : ℕ)
    × (input ≡ bytes ++ rest) × IsHead bytes head × (sent ≡ take n (continue_due head))

-- what is answered to an input, of which this is left, and written
abbrev pub Answers : List ℕ → Option (List ℕ) → Result Message MessageFault → List ℕ → Type 0
Answers input left (Ok m) sent = ReadsMessage input (Ok m) sent
Answers input left (Err BadHead) sent = ReadsMessage input (Err BadHead) sent
Answers input left (Err HeadTooLarge) sent = ReadsMessage input (Err HeadTooLarge) sent
Answers input left (Err BodyTooLarge) sent = ReadsMessage input (Err BodyTooLarge) sent
Answers input left (Err BadChunk) sent = ReadsMessage input (Err BadChunk) sent
Answers input left (Err Ended) sent = ReadsMessage input (Err Ended) sent
Answers input left (Err ReadFault) sent = IsUnfinished input left sent ⊎ IsLeaveCut input sent
Answers input left (Err NoMemory) sent = (sent ≡ []) ⊎ IsLeaveGiven input sent
Answers input left (Err (Slow n)) sent = IsUnfinished input left sent

-- something is written of which this holds, if recorded
abbrev pub Writes : Option (List ℕ) → Option (List ℕ) → (List ℕ → Type 0) → Type 0
Writes old new Says = ((sent : List ℕ) × Says sent) × Became old new (λ _ added. Says added)

-- this number of quiet reads, if their count shows it
abbrev pub IsSlow : ℕ → ℕ → ℕ → MessageFault → Type 0
IsSlow patience quiets quiets' BadHead = Unit {0}
IsSlow patience quiets quiets' HeadTooLarge = Unit {0}
IsSlow patience quiets quiets' BodyTooLarge = Unit {0}
IsSlow patience quiets quiets' BadChunk = Unit {0}
IsSlow patience quiets quiets' Ended = Unit {0}
IsSlow patience quiets quiets' ReadFault = Unit {0}
IsSlow patience quiets quiets' NoMemory = Unit {0}
IsSlow patience quiets quiets' (Slow n) = (n ≡ patience) × (quiets' < last_count → quiets' ≡ quiets + patience)

-- no more reads are quiet than the reader has patience for, and it's slow if they are as many
pub record IsPatient (patience quiets quiets' : ℕ) (r : Result Message MessageFault) : Type 0 where
  pub more : quiets ≤ quiets'
  pub most : quiets' < last_count → quiets' ≤ quiets + patience
  pub slow : IfErr r (IsSlow patience quiets quiets')

-- a reader that began at one count of quiet reads has used up its patience by those since
pub record HasWaited (before : ℕ) (begun : Begun) (quiets : ℕ) : Type 0 where
  pub more : before ≤ quiets
  pub most : begun.intake.allowed ≤ begun.intake.patience
  pub counted : quiets < last_count → quiets + begun.intake.allowed ≡ before + begun.intake.patience
