-- What a connection's input says to a worker, what is written in reply, and the calls that it leads to.
use Rattle.std.specs.Prelude.{◌≡◌, ◌⊎◌, ℕ, ◌<◌, Bool, true, false, List, [], ◌∷◌, ◌++◌, take, codes, bytes_eq, if◌then◌else◌, Option, Some, None, option_and_then, unwrap_or, Result, Ok, Err, IfSome}
use Rattle.std.specs.Option.{option_map_or}
use Rattle.arrayvec.specs.ArrayVec.{ArrayVec}
use Rattle.octo_outside.specs.Recorded.{Adds, AddsPrefix, Rose}
use Rattle.octo_outside.specs.Conns.{ConnState}
use Rattle.octo_outside_doors.specs.Doors.{fresh_conn}
use Rattle.octo_http.specs.declared.fault.MessageFault.{MessageFault}
use Rattle.octo_http.specs.declared.fault.MessageFault.TheVariants.{ReadFault}
use Rattle.octo_http.specs.declared.head.Head.{Head}
use Rattle.octo_http.specs.declared.message.Begun.{Begun}
use Rattle.octo_http.specs.declared.message.Message.{Message}
use Rattle.octo_http.specs.declared.reply.HttpReply.{HttpReply}
use Rattle.octo_http.specs.Head.{HeadFault}
use Rattle.octo_http.specs.Stops.{IsFaultOf}
use Rattle.octo_http.specs.Message.{is_long, IsOfHead, BeginsWith, Begins, ReadsMessage, Answers, IsSlow, HasWaited}
use Rattle.octo_http.specs.Reply.{with_fields, reply_head, reply_bytes}
use Rattle.octo_asks.specs.declared.answer.Answer.{Answer}
use Rattle.octo_asks.specs.declared.answer.Answer.TheVariants as answer
use Rattle.octo_asks.specs.declared.request.Ask.{Ask}
use Rattle.octo_asks.specs.declared.request.Request.TheVariants as request
use Rattle.octo_asks.specs.declared.entry.Entry.TheVariants as entry
use Rattle.octo_asks.specs.History.{History}
use Rattle.octo_api_worker.specs.declared.page.Page.{Page}
use Rattle.octo_api_worker.specs.Pages.{page_of, page_bytes}
use Rattle.octo_api_routes.specs.declared.direct.Direct.{Direct}
use Rattle.octo_api_routes.specs.declared.shown.Shown.{Shown}
use Rattle.octo_api_routes.specs.declared.shown.Shown.TheVariants.{Whole}
use Rattle.octo_api_routes.specs.Shown.{shown_of}
use Rattle.octo_api_routes.specs.Places.{target_of}
use Rattle.octo_api_routes.specs.Wants.{wanted_of}
use Rattle.octo_api_routes.specs.declared.wanted.Wanted.{Wanted}
use Rattle.octo_api_routes.specs.declared.wanted.Wanted.TheVariants.{Nothing}
use Rattle.octo_api_replies.specs.Shown.{shown_reply}
use Rattle.octo_api_refusals.specs.Refused.{empty_reply, IsDirectReply, IsFaultReply}
use Rattle.octo_api_requests.specs.Requests.{MessageReadsAs}
use Rattle.octo_api_requests.specs.Callers.{IsCallers}
use Rattle.octo_api_worker.specs.Origins.{listed, origin_lines, direct_lines}
use Rattle.octo_api_worker.specs.declared.reply.WorkerReply.{WorkerReply}
use Rattle.octo_api_worker.specs.declared.reply.WorkerReply.TheVariants as by
use Rattle.octo_api_worker.specs.declared.terms.Terms.{Terms}

-- a call wrote these bytes; if it failed, which was counted, perhaps only the first of them
abbrev pub Sends : (written written' : Option (List ℕ)) → (faults faults' : ℕ) → List ℕ → Type 0
Sends written written' faults faults' bytes = Adds written written' bytes ⊎ (Rose faults faults' × AddsPrefix written written' bytes)

-- these bytes were written; if a call of the connection failed, perhaps only the first of them
abbrev pub Wrote : ConnState → List ℕ → Type 0
Wrote conn bytes = IfSome conn.written (λ written. (written ≡ bytes) ⊎ ((0 < conn.faults) × (n : ℕ) × (written ≡ take n bytes)))

-- the bytes of the reply to a fault of a message; none if the peer has gone
abbrev pub AreFaultBytes : MessageFault → List ℕ → Type 0
AreFaultBytes fault bytes = (reply : Option HttpReply) × IsFaultReply fault reply × (bytes ≡ option_map_or reply_bytes reply [])

-- a failed read was counted, and a slow peer's quiet reads are as many as the worker waits through
pub record HasCause (patience : ℕ) (conn : ConnState) (fault : MessageFault) : Type 0 where
  pub failed : fault ≡ ReadFault → 0 < conn.faults
  pub slow : IsSlow patience 0 conn.quiets fault

-- the reply to an answer, of which its path shows this, or 507 if memory ran out
abbrev pub IsReply : Shown → Answer → HttpReply → Type 0
IsReply shown answer reply = (reply ≡ shown_reply shown answer) ⊎ (reply ≡ empty_reply 507)

-- a method that asks for the head of a reply alone (RFC 9110, section 9.3.2)
abbrev pub is_head : List ℕ → Bool
is_head method = bytes_eq method (codes "HEAD")

-- the bytes of a reply, without the body if its head alone is asked for
abbrev pub worker_bytes : Bool → WorkerReply → List ℕ
worker_bytes head_alone (by.Page page) = page_bytes page
worker_bytes head_alone (by.Api reply more) =
    if head_alone then reply_head (with_fields more.items reply) else reply_bytes (with_fields more.items reply)

-- a message of the REST API: its path isn't one of the page
abbrev pub IsOfApi : Message → Type 0
IsOfApi message = page_of message.method message.path ≡ None

-- the reply to a message, whether the host hasn't ended, and the calls that the message led to; the page is shown without a call; pages
-- of these origins may read what the REST API replies to them
pub data IsReplied (origins : List (List ℕ)) (message : Message) : WorkerReply → Bool → History → Type 0 where
  shown : (page : Page) → page_of message.method message.path ≡ Some page → IsReplied origins message (by.Page page) true []
  refused : (direct : Direct) (reply : HttpReply) (more : ArrayVec ℕ) → IsOfApi message → MessageReadsAs message (Err direct)
      → IsDirectReply direct reply → more.items ≡ direct_lines direct (listed origins message.origin)
      → IsReplied origins message (by.Api reply more) true []
  ended : (ask : Ask) (reply : HttpReply) (more : ArrayVec ℕ) → IsOfApi message → MessageReadsAs message (Ok ask)
      → IsReply (shown_of message.path) answer.Closed reply → more.items ≡ origin_lines (listed origins message.origin)
      → IsReplied origins message (by.Api reply more) false []
  answered : (ask : Ask) (worker moment : ℕ) (a : Answer) (reply : HttpReply) (more : ArrayVec ℕ) → IsOfApi message
      → MessageReadsAs message (Ok ask) → IsCallers ask.request → IsReply (shown_of message.path) a reply
      → more.items ≡ origin_lines (listed origins message.origin)
      → IsReplied origins message (by.Api reply more) true (entry.Call worker ask moment a ∷ [])

-- whether what is wanted needs a key that names somebody before the message is read further: a download, or anything if its body is long
abbrev pub needs_key_for : Bool → Option Wanted → Bool
needs_key_for long None = false
needs_key_for long (Some (Nothing (request.Download name))) = true
needs_key_for long (Some wanted) = long

-- whether a message is read further only if its key names somebody
abbrev pub needs_key : Head → Bool
needs_key head =
    needs_key_for (is_long head.framing) (option_and_then (λ target. wanted_of head.method target) (target_of head.path))

-- the ask whom a key names, which is empty if there is none
abbrev pub whom_ask : Option (List ℕ) → Ask
whom_ask key = record { key = unwrap_or key []; request = request.Caller }

-- the ask that comes before a message is read further, none if it needs no key
abbrev pub IsFirstAsk : Head → Option Ask → Type 0
IsFirstAsk head None = needs_key head ≡ false
IsFirstAsk head (Some ask) = (needs_key head ≡ true) × (ask ≡ whom_ask head.key)

-- the answer with which a message is refused, if it isn't known that its key names somebody
abbrev pub refusal_of : Answer → Option Answer
refusal_of (answer.Caller (Some name) groups) = None
refusal_of (answer.Caller None groups) = Some (answer.Denied None)
refusal_of other = Some other

-- the calls before a message is read further: none if it needs no key, else one by which it is known that the key names somebody
pub data Admits (head : Head) : History → Type 0 where
  no_key : needs_key head ≡ false → Admits head []
  known_key : (worker moment : ℕ) (a : Answer) → needs_key head ≡ true → refusal_of a ≡ None
      → Admits head (entry.Call worker (whom_ask head.key) moment a ∷ [])

-- the reply to a message by its head alone, with an answer of the host
abbrev pub RepliesWith : List (List ℕ) → Head → Answer → WorkerReply → Type 0
RepliesWith origins head a reply =
    (r : HttpReply) × (more : ArrayVec ℕ) × (reply ≡ by.Api r more) × IsReply Whole a r × (more.items ≡ origin_lines (listed origins head.origin))

-- the reply to a message that isn't read further, whether the host hasn't ended, and the calls before
pub data IsTurnedAway (origins : List (List ℕ)) (head : Head) : WorkerReply → Bool → History → Type 0 where
  by_key : (worker moment : ℕ) (a refusal : Answer) (reply : WorkerReply) → needs_key head ≡ true → refusal_of a ≡ Some refusal
      → RepliesWith origins head refusal reply
      → IsTurnedAway origins head reply true (entry.Call worker (whom_ask head.key) moment a ∷ [])
  by_end : (reply : WorkerReply) → needs_key head ≡ true → RepliesWith origins head answer.Closed reply → IsTurnedAway origins head reply false []
  by_memory : (reply : WorkerReply) → RepliesWith origins head answer.NoMemory reply → IsTurnedAway origins head reply true []

-- A connection with this input was served.
pub data IsServed (terms : Terms) (input : List ℕ) (conn : ConnState) : Bool → History → Type 0 where
  -- it holds no head
  no_head : (fault : MessageFault) (bytes : List ℕ) → IsFaultOf HeadFault input conn.left fault → HasCause terms.patience conn fault
      → AreFaultBytes fault bytes → Wrote conn bytes → IsServed terms input conn true []
  -- it needs a key, and its caller isn't known
  turned_away : (head : Head) (reply : WorkerReply) (is_open : Bool) (calls : History) → BeginsWith input head
      → IsTurnedAway terms.origins head reply is_open calls → Wrote conn (worker_bytes (is_head head.method) reply)
      → IsServed terms input conn is_open calls
  -- it holds no whole message
  no_message : (head : Head) (first : History) (fault : MessageFault) (sent bytes : List ℕ) → BeginsWith input head → Admits head first
      → Answers input conn.left (Err fault) sent → HasCause terms.patience conn fault → AreFaultBytes fault bytes → Wrote conn (sent ++ bytes)
      → IsServed terms input conn true first
  -- it holds a message, which is replied to
  message : (head : Head) (first : History) (m : Message) (sent : List ℕ) (reply : WorkerReply) (is_open : Bool) (calls : History)
      → BeginsWith input head → Admits head first → IsOfHead head m → ReadsMessage input (Ok m) sent → IsReplied terms.origins m reply is_open calls
      → Wrote conn (sent ++ worker_bytes (is_head m.method) reply) → IsServed terms input conn is_open (first ++ calls)

-- the head of a connection's input was read, and nothing was written
pub record HasBegun (terms : Terms) (input : List ℕ) (conn : ConnState) (begun : Begun) : Type 0 where
  pub begins : Begins input conn.left begun
  pub written : conn.written ≡ Some []
  pub waited : HasWaited 0 begun conn.quiets
  pub patience : begun.intake.patience ≡ terms.patience

-- no call, or one that asks whom a key names
pub data AsksWhom : History → Type 0 where
  unasked : AsksWhom []
  asked_whom : (worker moment : ℕ) (key : Option (List ℕ)) (a : Answer) → AsksWhom (entry.Call worker (whom_ask key) moment a ∷ [])

-- the calls that a message led to: none, or one with a caller's request
pub data LeadsTo : History → Type 0 where
  no_call : LeadsTo []
  one_call : (worker moment : ℕ) (ask : Ask) (a : Answer) → IsCallers ask.request → LeadsTo (entry.Call worker ask moment a ∷ [])

-- a message led to at most one call
abbrev pub AsksForMessage : Option History → Option History → Type 0
AsksForMessage mine mine' = (calls : History) × LeadsTo calls × Adds mine mine' calls

-- a connection was served, whatever it records, and led to at most one call, after at most one that asks whom the key names
abbrev pub AsksOnce : Option History → Option History → Type 0
AsksOnce mine mine' = (first : History) × (calls : History) × AsksWhom first × LeadsTo calls × Adds mine mine' (first ++ calls)

-- an untouched connection was served, and the asker's calls grew by those that it led to
abbrev pub HasServed : Terms → (old new : ConnState) → (mine mine' : Option History) → Bool → Type 0
HasServed terms old new mine mine' is_open =
    (input : List ℕ) → old ≡ fresh_conn input
    → (calls : History) × Adds mine mine' calls × IsServed terms input new is_open calls
