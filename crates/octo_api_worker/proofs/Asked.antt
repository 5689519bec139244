-- The calls that connections lead to, whatever they record.
use Rattle.std.proofs.Common.{◌≡◌, ℕ, Bool, true, List, [], ◌∷◌, ◌++◌, Option, refl, sym, ap, subst, ◌∙◌, append-nil}
use Rattle.std.specs.Prelude.{All}
use Rattle.std.proofs.lemmas.List.Elements.{All-nil, All-cons, All-append}
use Rattle.octo_outside.specs.Recorded.{Adds}
use Rattle.octo_outside.proofs.Recorded.{became_then, became_same, became_so, adds_then}
use Rattle.octo_outside.specs.Conns.{ConnState}
use Rattle.octo_asks.specs.declared.entry.Entry.TheVariants as entry
use Rattle.octo_asks.specs.declared.request.Request.TheVariants as request
use Rattle.octo_api_requests.specs.Callers.{IsCallers}
use Rattle.octo_asks.specs.History.{History}
use Rattle.octo_http.specs.declared.head.Head.{Head}
use Rattle.octo_http.specs.declared.message.Message.{Message}
use Rattle.octo_api_worker.specs.declared.terms.Terms.{Terms}
use Rattle.octo_api_worker.specs.declared.reply.WorkerReply.{WorkerReply}
use Rattle.octo_api_worker.specs.Served.{IsReplied, shown, refused, ended, answered, whom_ask, Admits, no_key, known_key, IsTurnedAway, by_key, by_end, by_memory, IsServed, no_head, turned_away, no_message, message, AsksWhom, unasked, asked_whom, LeadsTo, no_call, one_call, AsksForMessage, AsksOnce}
use Rattle.octo_api_worker.specs.Worked.{IsAsk, AddsAsks, Leaves, no_leave, HasLeft, AreOfReturned, HasReturned}
use Rattle.octo_api_worker.proofs.Calls.{added_none}

-- a message leads to at most one call
pub leads_to : (origins : List (List ℕ)) (m : Message) (reply : WorkerReply) (is_open : Bool) (calls : History)
    → IsReplied origins m reply is_open calls → LeadsTo calls
leads_to origins m reply is_open calls (shown page is) = no_call
leads_to origins m reply is_open calls (refused direct r more of_api says replies is) = no_call
leads_to origins m reply is_open calls (ended ask r more of_api says replies is) = no_call
leads_to origins m reply is_open calls (answered ask worker moment a r more of_api says callers replies is) = one_call worker moment ask a callers

-- nothing was asked
pub once_none : (mine mine' : Option History) → mine' ≡ mine → AsksOnce mine mine'
once_none mine mine' same = ([], [], unasked, no_call, added_none mine mine' same)

-- nothing was asked at first
pub once_after : (mine made mine' : Option History) → made ≡ mine → AsksOnce made mine' → AsksOnce mine mine'
once_after mine made mine' same once = subst (λ (was : Option History). AsksOnce was mine') same once

pub leads_asks : (calls : History) → LeadsTo calls → All IsAsk calls
leads_asks calls no_call = All-nil IsAsk
leads_asks calls (one_call worker moment ask a callers) = All-cons IsAsk (entry.Call worker ask moment a) [] callers (All-nil IsAsk)

-- to ask whom a key names is a caller's request
whom_is : IsCallers request.Caller
whom_is = (λ e. cc, λ e. cc)

pub whom_asks : (first : History) → AsksWhom first → All IsAsk first
whom_asks first unasked = All-nil IsAsk
whom_asks first (asked_whom worker moment key a) =
    All-cons IsAsk (entry.Call worker (whom_ask key) moment a) [] whom_is (All-nil IsAsk)

-- before a message is read further it is asked at most whom the key names
pub admits_whom : (head : Head) (first : History) → Admits head first → AsksWhom first
admits_whom head first (no_key free) = unasked
admits_whom head first (known_key worker moment a needs known) = asked_whom worker moment head.key a

-- and if it isn't read further
pub turned_whom : (origins : List (List ℕ)) (head : Head) (reply : WorkerReply) (is_open : Bool) (calls : History)
    → IsTurnedAway origins head reply is_open calls → AsksWhom calls
turned_whom origins head reply is_open calls (by_key worker moment a refusal r needs is replies) = asked_whom worker moment head.key a
turned_whom origins head reply is_open calls (by_end r needs replies) = unasked
turned_whom origins head reply is_open calls (by_memory r replies) = unasked

-- a connection leads to calls of callers
pub served_asks : (terms : Terms) (input : List ℕ) (conn : ConnState) (is_open : Bool) (calls : History) → IsServed terms input conn is_open calls
    → All IsAsk calls
served_asks terms input conn is_open calls (no_head fault bytes stopped cause replied wrote) = All-nil IsAsk
served_asks terms input conn is_open calls (turned_away head reply is made begins turned wrote) =
    whom_asks made (turned_whom terms.origins head reply is made turned)
served_asks terms input conn is_open calls (no_message head first fault sent bytes begins admits answers cause replied wrote) =
    whom_asks first (admits_whom head first admits)
served_asks terms input conn is_open calls (message head first m sent reply is made begins admits of_head says replied wrote) =
    All-append IsAsk first made (whom_asks first (admits_whom head first admits)) (leads_asks made (leads_to terms.origins m reply is made replied))

-- calls for a message, after those by which its caller is known
pub once_then : (head : Head) (mine made mine' : Option History) → (first : History) × Admits head first × Adds mine made first
    → AsksForMessage made mine' → AsksOnce mine mine'
once_then head mine made mine' known asks =
    (known.0, asks.0, admits_whom head known.0 known.1, asks.1, adds_then mine made mine' known.0 asks.0 known.2 asks.2)

-- and if its body isn't read
pub once_turned : (origins : List (List ℕ)) (head : Head) (reply : WorkerReply) (is_open : Bool) (mine mine' : Option History)
    → (calls : History) × IsTurnedAway origins head reply is_open calls × Adds mine mine' calls → AsksOnce mine mine'
once_turned origins head reply is_open mine mine' turned =
    let At : History → Type 0 = λ added. Adds mine mine' added in
    (turned.0, [], turned_whom origins head reply is_open turned.0 turned.1, no_call, subst At (sym (append-nil turned.0)) turned.2)

pub asks_none : (mine : Option History) → AddsAsks mine mine
asks_none mine = became_same mine (λ _ added. All IsAsk added) (λ past. All-nil IsAsk)

-- one connection more
pub asks_more : (mine made mine' : Option History) → AddsAsks mine made → AsksOnce made mine' → AddsAsks mine mine'
asks_more mine made mine' asks once =
    became_then mine made mine' (λ _ added. All IsAsk added) (λ _ added. added ≡ once.0 ++ once.1) (λ _ added. All IsAsk added) asks once.4
    (λ past added more all is. All-append IsAsk added more all (subst (λ (list : History). All IsAsk list) (sym is)
    (All-append IsAsk once.0 once.1 (whom_asks once.0 once.2) (leads_asks once.1 once.3))))

-- a worker that has seen that the host has ended
pub returned_seeing : (mine mine' : Option History) (saw_close : Bool) → AddsAsks mine mine' → saw_close ≡ true → HasReturned mine mine' saw_close
returned_seeing mine mine' saw_close asks saw = became_so mine mine' (λ _ added. All IsAsk added) (λ _ added. AreOfReturned saw_close added) asks
    (λ past added all. record {
      calls = added;
      last = [];
      split = sym (append-nil added);
      asks = all;
      leave = no_leave;
      parted = λ _. saw;
    })

-- a worker that leaves
pub returned_leaving : (mine made mine' : Option History) (saw_close : Bool) → AddsAsks mine made → HasLeft made mine' saw_close
    → HasReturned mine mine' saw_close
returned_leaving mine made mine' saw_close asks left = became_then mine made mine' (λ _ added. All IsAsk added) (λ _ added. added ≡ left.0)
    (λ _ added. AreOfReturned saw_close added) asks left.2
    (λ past added more all is. record {
      calls = added;
      last = more;
      split = refl;
      asks = all;
      leave = subst Leaves (sym is) left.1;
      parted = λ none. left.3 (sym is ∙ none);
    })
