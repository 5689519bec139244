-- The head of a message, and why an input begins with none.
use Rattle.std.specs.Prelude.{◌≡◌, ℕ, ◌<◌, ◌≤◌, ◌⊎◌, Bool, not, ◌==◌, List, [], ◌++◌, ◌+◌, length, map, take, drop, Some, None}
use Rattle.std.specs.List.{take_while, prefix_len}
use Rattle.httparse.specs.Grammar.{RequestHead, ReadsRequest, HasNoRequest, NeverHasRequest, MayBecomeRequest}
use Rattle.httparse.specs.Spans.{name_and_value, RequestExceeds}
use Rattle.octo_http.specs.Fields.{FieldList, caller_key, origin_of, kind_of, is_encoded, expects_continue}
use Rattle.octo_http.specs.Framing.{framing_of}
use Rattle.octo_http.specs.declared.fault.MessageFault.{MessageFault}
use Rattle.octo_http.specs.declared.fault.MessageFault.TheVariants.{BadHead, HeadTooLarge, BodyTooLarge, BadChunk, Ended, ReadFault, NoMemory, Slow}
use Rattle.octo_http.specs.declared.framing.Framing.{Framing}
use Rattle.octo_http.specs.declared.head.Head.{Head}
use Rattle.octo_http.specs.declared.head.Found.{Found}

-- how many bytes a head may have
abbrev pub most_head : ℕ
most_head = 16384

-- how many fields a head may have
abbrev pub most_fields : ℕ
most_fields = 64

-- whether a byte of a target belongs to the path
abbrev pub is_path_byte : ℕ → Bool
is_path_byte b = not (b == 63)

-- the query of a target: what follows its first `?`
abbrev pub query_of : List ℕ → List ℕ
query_of target = drop (prefix_len is_path_byte target + 1) target

-- the names and values of a head
abbrev pub fields_of : RequestHead → FieldList
fields_of h = map name_and_value h.fields

-- what a head with this method, target and fields says, if its body is so long
abbrev pub head_with : List ℕ → List ℕ → FieldList → Framing → Head
head_with method target fields framing = record {
  method = method;
  path = take_while is_path_byte target;
  key = caller_key fields (query_of target);
  origin = origin_of fields;
  kind = kind_of fields;
  encoded = is_encoded fields;
  expects = expects_continue fields;
  framing = framing;
}

-- what a head says, if its body is so long
abbrev pub head_of : RequestHead → Framing → Head
head_of h framing = head_with h.method h.target (fields_of h) framing

-- the bytes are a head within the limits
pub record IsHeadOf (bytes : List ℕ) (h : RequestHead) : Type 0 where
  pub reads : ReadsRequest bytes h []
  pub short : length bytes ≤ most_head
  pub few : length h.fields ≤ most_fields

-- the bytes are the head that says this
pub record IsHead (bytes : List ℕ) (head : Head) : Type 0 where
  pub h : RequestHead
  pub within : IsHeadOf bytes h
  pub framed : framing_of (fields_of h) ≡ Some head.framing
  pub is : head ≡ head_of h head.framing

-- the bytes are a head whose fields don't say how long the body is
abbrev pub IsUnframed : List ℕ → Type 0
IsUnframed bytes = (h : RequestHead) × IsHeadOf bytes h × (framing_of (fields_of h) ≡ None)

-- why an input begins with no head
pub data HeadFault : List ℕ → MessageFault → Type 0 where
  bad_head : (input : List ℕ) → NeverHasRequest (take most_head input) → HeadFault input BadHead
  unframed : (bytes rest : List ℕ) → IsUnframed bytes → HeadFault (bytes ++ rest) BadHead
  many_fields : (input : List ℕ) → RequestExceeds most_fields (take most_head input) → HeadFault input HeadTooLarge
  many_bytes : (input : List ℕ) → most_head ≤ length input → HasNoRequest (take most_head input) → MayBecomeRequest (take most_head input) → HeadFault input HeadTooLarge
  cut_head : (input : List ℕ) → length input < most_head → HasNoRequest input → MayBecomeRequest input → HeadFault input Ended

-- what a look at the first bytes refuses
abbrev pub IsRefused : List ℕ → MessageFault → Type 0
IsRefused bytes BadHead = NeverHasRequest bytes ⊎ ((n : ℕ) × (n ≤ length bytes) × IsUnframed (take n bytes))
IsRefused bytes HeadTooLarge = RequestExceeds most_fields bytes
IsRefused bytes BodyTooLarge = ⊥
IsRefused bytes BadChunk = ⊥
IsRefused bytes Ended = ⊥
IsRefused bytes ReadFault = ⊥
IsRefused bytes NoMemory = Unit {0}
IsRefused bytes (Slow n) = ⊥

-- a look at the first bytes found no head, and more can make them one
pub record IsOpen (bytes : List ℕ) : Type 0 where
  pub none : HasNoRequest bytes
  pub may : MayBecomeRequest bytes

-- a look at the first bytes found the head, and its length
pub record IsFound (bytes : List ℕ) (found : Found) : Type 0 where
  pub within : found.length ≤ length bytes
  pub is : IsHead (take found.length bytes) found.head
