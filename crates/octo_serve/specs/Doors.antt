-- What four workers did at their doors.
use Rattle.std.specs.Prelude.{◌≡◌, ℕ, Bool, true, false, ◌&&◌, List, [], Option, Some, IfSome}
use Rattle.octo_outside.specs.Recorded.{Rose}
use Rattle.octo_outside_doors.specs.declared.door.Doors.{Doors}
use Rattle.octo_asks.specs.Calls.{AskerState}
use Rattle.octo_asks.specs.History.{History, calls_of}
use Rattle.octo_api_worker.specs.Worked.{HasReturned, HasWorked}
use Rattle.octo_api_worker.specs.declared.terms.Terms.{Terms}
use Rattle.octo_serve.specs.declared.workers.Workers.{Workers}
use Rattle.octo_serve.specs.Ends.{WorkerData, worker_place}
use Rattle.octo_outside_doors.specs.Doors.{DoorState}

-- what a worker's end says of itself
abbrev pub worker_state : WorkerData → AskerState
worker_state worker = record { mine = Some worker.view.mine; saw_close = worker.view.saw_close; place = worker_place worker }

-- the connections of a door that records them were served, with these calls; whatever it records, its worker has left or has seen that
-- the host has ended; the door held, or a call of it failed
pub record AtDoor (terms : Terms) (old new : DoorState) (mine mine' : Option History) (saw_close held : Bool) : Type 0 where
  pub conns : (inputs : List (List ℕ)) → old.coming ≡ Some inputs
      → HasWorked terms inputs new.coming old.served new.served mine mine' saw_close held
  pub returned : HasReturned mine mine' saw_close
  pub steady : held ≡ true → new.faults ≡ old.faults
  pub failed : held ≡ false → Rose old.faults new.faults

-- a worker served its door, and its place stays
pub record WorksAt (terms : Terms) (old new : DoorState) (end end' : AskerState) (held : Bool) : Type 0 where
  pub served : AtDoor terms old new end.mine end'.mine end'.saw_close held
  pub place : end'.place ≡ end.place

-- four workers did; all doors held, or one didn't
pub record AllWork (terms : Terms) (old new : Doors DoorState) {R : Type 0} (workers workers' : Workers R) (all_held : Bool) : Type 0 where
  pub held_a : Bool
  pub held_b : Bool
  pub held_c : Bool
  pub held_d : Bool
  pub all : all_held ≡ (held_a && (held_b && (held_c && held_d)))
  pub a : WorksAt terms old.a new.a (worker_state workers.a) (worker_state workers'.a) held_a
  pub b : WorksAt terms old.b new.b (worker_state workers.b) (worker_state workers'.b) held_b
  pub c : WorksAt terms old.c new.c (worker_state workers.c) (worker_state workers'.c) held_c
  pub d : WorksAt terms old.d new.d (worker_state workers.d) (worker_state workers'.d) held_d

-- a worker whose calls in the history are these served its door, while a host ran that has ended since
abbrev pub IsServedBy : Terms → DoorState → DoorState → History → Bool → Type 0
IsServedBy terms old new calls held = AtDoor terms old new (Some []) (Some calls) true held

-- each door was served by its worker; all doors held, or one didn't
pub record AreServed (terms : Terms) (old new : Doors DoorState) (history : History) (all_held : Bool) : Type 0 where
  pub held_a : Bool
  pub held_b : Bool
  pub held_c : Bool
  pub held_d : Bool
  pub all : all_held ≡ (held_a && (held_b && (held_c && held_d)))
  pub a : IsServedBy terms old.a new.a (calls_of 0 history) held_a
  pub b : IsServedBy terms old.b new.b (calls_of 1 history) held_b
  pub c : IsServedBy terms old.c new.c (calls_of 2 history) held_c
  pub d : IsServedBy terms old.d new.d (calls_of 3 history) held_d

-- no connection of a door will come any more, if it records those to come; after a failed call none does
abbrev pub HasNoMore : (old new : DoorState) → Type 0
HasNoMore old new = IfSome old.coming (λ _. new.coming ≡ Some [])

pub record AllHaveNoMore (old new : Doors DoorState) : Type 0 where
  pub a : HasNoMore old.a new.a
  pub b : HasNoMore old.b new.b
  pub c : HasNoMore old.c new.c
  pub d : HasNoMore old.d new.d
