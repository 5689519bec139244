-- What a door returns and takes back.
use Rattle.std.specs.Prelude.{◌≡◌, ℕ, Bool, true, ◌||◌, List, [], ◌∷◌, Option, Some, None, Result, is_err, IfOk, OnOk, OnErr, IsErr, IfSome, IsOkAnd}
use Rattle.octo_outside.specs.Conns.{ConnState}
use Rattle.octo_outside.specs.Recorded.{Adds, Counts}
use Rattle.octo_outside.specs.declared.types.Failed.{Failed}
use Rattle.octo_outside_doors.specs.declared.door.Doors.{Doors}
use Rattle.octo_outside_doors.specs.declared.door.Knock.{Knock}
use Rattle.octo_outside_doors.specs.declared.door.Knock.TheVariants.{Conn, Quiet, Ended}

-- a connection with this input at which nothing has happened
abbrev pub fresh_conn : List ℕ → ConnState
fresh_conn input = record { left = Some input; written = Some []; faults = 0; quiets = 0 }

-- a connection that keeps nothing, by its counts
abbrev pub unrecorded : ℕ → ℕ → ConnState
unrecorded faults quiets = record { left = None; written = None; faults = faults; quiets = quiets }

-- a knock, by the inputs that were to come: the first of them, untouched; nothing yet; or no more
abbrev pub Comes : {C : Type 0} → (C → ConnState) → List (List ℕ) → Knock C → Option (List (List ℕ)) → Type 0
Comes state [] (Conn conn) after = ⊥
Comes state [] Quiet after = ⊥
Comes state [] Ended after = after ≡ Some []
Comes state (input ∷ inputs) (Conn conn) after = (state conn ≡ fresh_conn input) × (after ≡ Some inputs)
Comes state (input ∷ inputs) Quiet after = after ≡ Some (input ∷ inputs)
Comes state (input ∷ inputs) Ended after = ⊥

-- a connection that is given has no counted faults and no counted quiet reads
abbrev pub IsNew : {C : Type 0} → (C → ConnState) → Knock C → Type 0
IsNew state (Conn conn) = ((state conn).faults ≡ 0) × ((state conn).quiets ≡ 0)
IsNew state Quiet = Unit {0}
IsNew state Ended = Unit {0}

-- no connection will come any more
abbrev pub IsEnded : {C : Type 0} → Knock C → Type 0
IsEnded (Conn conn) = ⊥
IsEnded Quiet = ⊥
IsEnded Ended = Unit {0}

-- the inputs of the connections to come and what those that were given back say, if it keeps them, how many calls failed, and whether
-- one has
pub record DoorState : Type 0 where
  pub coming : Option (List (List ℕ))
  pub served : Option (List ConnState)
  pub faults : ℕ
  pub has_failed : Bool

-- a call of `accept`: the connection is the first of those to come, and nothing was read, written or counted on it yet; a failed call
-- is the last one that isn't `Ended`
pub record Accepts {C : Type 0} (state : C → ConnState) (old : DoorState) (result : Result (Knock C) Failed) (new : DoorState) : Type 0 where
  pub ok : IfOk result (λ knock. IfSome old.coming (λ inputs. Comes state inputs knock new.coming))
  pub fresh : IfOk result (λ knock. IsNew state knock)
  pub err : OnErr result (IfSome old.coming (λ _. new.coming ≡ Some []))
  pub has_failed : new.has_failed ≡ (old.has_failed || is_err result)
  pub after : old.has_failed ≡ true → IsOkAnd result IsEnded
  pub served : new.served ≡ old.served
  pub counts : Counts (IsErr result) old.faults new.faults
  pub steady : OnOk result (new.faults ≡ old.faults)

-- a call of `finish`
pub record Finishes (old : DoorState) (conn : ConnState) (new : DoorState) : Type 0 where
  pub served : Adds old.served new.served (conn ∷ [])
  pub coming : new.coming ≡ old.coming
  pub has_failed : new.has_failed ≡ old.has_failed
  pub faults : new.faults ≡ old.faults

-- each of four doors is so
abbrev pub Each : {D : Type 0} → Doors D → (D → Type 0) → Type 0
Each doors Is = Is doors.a × Is doors.b × Is doors.c × Is doors.d
