-- What a worker did at its door: the connections that it served, in order, and its calls.
use Rattle.std.specs.Prelude.{◌≡◌, ◌⊎◌, ℕ, Bool, true, false, List, [], ◌∷◌, ◌++◌, All, Option, Some}
use Rattle.octo_outside.specs.Recorded.{Became, Adds}
use Rattle.octo_outside.specs.Conns.{ConnState}
use Rattle.octo_asks.specs.declared.answer.Answer.{Answer}
use Rattle.octo_asks.specs.declared.request.Ask.{Ask}
use Rattle.octo_asks.specs.declared.request.Request.TheVariants.{Leave}
use Rattle.octo_asks.specs.declared.entry.Entry.{Entry}
use Rattle.octo_asks.specs.declared.entry.Entry.TheVariants as entry
use Rattle.octo_asks.specs.History.{History}
use Rattle.octo_api_requests.specs.Callers.{IsCallers}
use Rattle.octo_api_worker.specs.Served.{IsServed}
use Rattle.octo_api_worker.specs.declared.at_door.Visit.{Visit}
use Rattle.octo_api_worker.specs.declared.at_door.Visit.TheVariants as visit
use Rattle.octo_api_worker.specs.declared.terms.Terms.{Terms}

-- connections that were served one after the other, by their inputs, and the calls that they led to; after the host has ended
-- none follows
pub data Served (terms : Terms) : List (List ℕ) → List ConnState → Bool → History → Type 0 where
  none_served : Served terms [] [] true []
  one_more : (inputs : List (List ℕ)) (conns : List ConnState) (calls : History) (input : List ℕ) (conn : ConnState) (is_open : Bool)
      (more : History) → Served terms inputs conns true calls → IsServed terms input conn is_open more
      → Served terms (inputs ++ input ∷ []) (conns ++ conn ∷ []) is_open (calls ++ more)

-- the ask with which a worker leaves
abbrev pub leave_ask : Ask
leave_ask = record { key = []; request = Leave }

-- the host hasn't ended, as far as a look shows
abbrev pub is_open : Visit → Bool
is_open visit.Open = true
is_open visit.Closed = false
is_open visit.Ended = true
is_open visit.Failed = true

-- no call, or one with which the worker leaves
pub data Leaves : History → Type 0 where
  no_leave : Leaves []
  one_leave : (worker moment : ℕ) (a : Answer) → Leaves (entry.Call worker leave_ask moment a ∷ [])

-- one look at the door: the inputs to come before and after, the connection that was served, and the calls
pub data IsVisit (terms : Terms) : List (List ℕ) → Option (List (List ℕ)) → List ConnState → History → Visit → Type 0 where
  one_served : (input : List ℕ) (inputs : List (List ℕ)) (conn : ConnState) (calls : History) → IsServed terms input conn true calls
      → IsVisit terms (input ∷ inputs) (Some inputs) (conn ∷ []) calls visit.Open
  last_served : (input : List ℕ) (inputs : List (List ℕ)) (conn : ConnState) (calls : History) → IsServed terms input conn false calls
      → IsVisit terms (input ∷ inputs) (Some inputs) (conn ∷ []) calls visit.Closed
  none_came : (inputs : List (List ℕ)) → IsVisit terms inputs (Some inputs) [] [] visit.Open
  host_ended : (inputs : List (List ℕ)) → IsVisit terms inputs (Some inputs) [] [] visit.Closed
  door_ended : IsVisit terms [] (Some []) [] [] visit.Ended
  door_failed : (inputs : List (List ℕ)) → IsVisit terms inputs (Some []) [] [] visit.Failed

-- one look at a door that records: the inputs to come, the connections served and the asker's calls moved by that look alone
abbrev pub HasVisited : Terms → List (List ℕ) → Option (List (List ℕ)) → (served served' : Option (List ConnState)) → (mine mine' : Option History) → Visit
    → Type 0
HasVisited terms inputs coming served served' mine mine' v =
    (conns : List ConnState) × (calls : History)
    × IsVisit terms inputs coming conns calls v × Adds served served' conns × Adds mine mine' calls

-- a call that a connection led to: it has a caller's request
abbrev pub IsAsk : Entry → Type 0
IsAsk (entry.Call worker ask moment answer) = IsCallers ask.request
IsAsk (entry.Note note) = ⊥
IsAsk entry.Close = ⊥

-- connections led to the calls that were added
abbrev pub AddsAsks : Option History → Option History → Type 0
AddsAsks mine mine' = Became mine mine' (λ _ added. All IsAsk added)

-- a worker has left by a call of its own, or has seen that the host has ended
abbrev pub HasLeft : (mine mine' : Option History) (saw_close : Bool) → Type 0
HasLeft mine mine' saw_close = (last : History) × Leaves last × Adds mine mine' last × (last ≡ [] → saw_close ≡ true)

-- the calls of a worker that has returned: connections led to them, but for the last one, with which it may leave; if it hasn't left,
-- it has seen that the host has ended
pub record AreOfReturned (saw_close : Bool) (added : History) : Type 0 where
  pub calls : History
  pub last : History
  pub split : added ≡ calls ++ last
  pub asks : All IsAsk calls
  pub leave : Leaves last
  pub parted : last ≡ [] → saw_close ≡ true

-- the calls that were added are those of a worker that has returned
abbrev pub HasReturned : (mine mine' : Option History) (saw_close : Bool) → Type 0
HasReturned mine mine' saw_close = Became mine mine' (λ _ added. AreOfReturned saw_close added)

-- the inputs that are still to come: none after the door has failed
abbrev pub still_coming : (held : Bool) → List (List ℕ) → List (List ℕ)
still_coming true rest = rest
still_coming false rest = []

-- a worker that goes on: the first of the inputs to come were served, the rest is still to come
pub record IsWorking (terms : Terms) (inputs : List (List ℕ)) (coming : Option (List (List ℕ))) (served served' : Option (List ConnState))
    (mine mine' : Option History) : Type 0 where
  pub taken : List (List ℕ)
  pub rest : List (List ℕ)
  pub conns : List ConnState
  pub calls : History
  pub split : inputs ≡ taken ++ rest
  pub walk : Served terms taken conns true calls
  pub kept : Adds served served' conns
  pub made : Adds mine mine' calls
  pub left : coming ≡ Some rest

-- what a worker did: the first of the inputs to come were served, all of them unless the host has ended or the door failed; its last
-- call may be that with which it leaves, and only if the door has ended or failed; if it hasn't left, it has seen that the host has ended
pub record HasWorked (terms : Terms) (inputs : List (List ℕ)) (coming : Option (List (List ℕ))) (served served' : Option (List ConnState))
    (mine mine' : Option History) (saw_close held : Bool) : Type 0 where
  pub taken : List (List ℕ)
  pub rest : List (List ℕ)
  pub conns : List ConnState
  pub calls : History
  pub last : History
  pub is_open : Bool
  pub split : inputs ≡ taken ++ rest
  pub walk : Served terms taken conns is_open calls
  pub leave : Leaves last
  pub kept : Adds served served' conns
  pub made : Adds mine mine' (calls ++ last)
  pub left : coming ≡ Some (still_coming held rest)
  pub unheard : is_open ≡ false → saw_close ≡ true
  pub parted : last ≡ [] → saw_close ≡ true
  pub over : held ≡ true → ((saw_close ≡ true) × (last ≡ [])) ⊎ ((is_open ≡ true) × (rest ≡ []))
  pub failed : held ≡ false → is_open ≡ true
