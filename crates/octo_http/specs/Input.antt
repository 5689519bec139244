-- What was read of an input, what was taken of it, and how long a reader waits.
use Rattle.std.specs.Prelude.{◌≡◌, ℕ, ◌+◌, ◌<◌, ◌≤◌, List, ◌++◌, length, Option, Some}
use Rattle.octo_outside.specs.Recorded.{Rose, last_count}
use Rattle.octo_http.specs.declared.fault.MessageFault.{MessageFault}
use Rattle.octo_http.specs.declared.fault.MessageFault.TheVariants.{Ended, ReadFault, Slow}
use Rattle.octo_http.specs.declared.intake.Came.{Came}
use Rattle.octo_http.specs.declared.intake.Came.TheVariants as came

-- the bytes that were read and aren't taken yet, and for how many quiet reads the reader still waits
pub record IntakeData : Type 0 where
  pub bytes : List ℕ
  pub patience : ℕ
  pub allowed : ℕ

-- the bytes at hand and then what the connection has left, if recorded, are this input
pub record Holds (bytes : List ℕ) (left : Option (List ℕ)) (input : List ℕ) : Type 0 where
  pub rest : List ℕ
  pub known : left ≡ Some rest
  pub is : input ≡ bytes ++ rest

-- whatever the input was, these bytes of it were taken
abbrev pub Took : List ℕ → Option (List ℕ) → List ℕ → Option (List ℕ) → List ℕ → Type 0
Took bytes left bytes' left' taken =
    (input : List ℕ) → Holds bytes left input → (rest : List ℕ) × (input ≡ taken ++ rest) × Holds bytes' left' rest

-- what a read brings: bytes, or nothing; a quiet one uses up patience
abbrev pub Brings : Came → IntakeData → IntakeData → Type 0
Brings came.Bytes old new = (length old.bytes < length new.bytes) × (new.allowed ≡ old.allowed)
Brings came.Quiet old new = (new.bytes ≡ old.bytes) × (new.allowed + 1 ≡ old.allowed)
Brings came.Ended old new = new ≡ old
Brings came.Failed old new = new ≡ old

-- what is known after a read that brought this: bytes come while there is patience, the end is the input's end, of which
-- these bytes were taken, and a failure was counted since the beginning
abbrev pub Knows : Came → IntakeData → List ℕ → List ℕ → Option (List ℕ) → ℕ → ℕ → Type 0
Knows came.Bytes i taken bytes left faults faults' = 0 < i.allowed
Knows came.Quiet i taken bytes left faults faults' = Unit {0}
Knows came.Ended i taken bytes left faults faults' = (input : List ℕ) → Holds bytes left input → input ≡ taken ++ i.bytes
Knows came.Failed i taken bytes left faults faults' = Rose faults faults'

-- a reader's patience falls by its quiet reads, and no fault is forgotten
pub record Waits (old new : IntakeData) (faults faults' quiets quiets' : ℕ) : Type 0 where
  pub same : new.patience ≡ old.patience
  pub fewer : new.allowed ≤ old.allowed
  pub quiet : quiets ≤ quiets'
  pub counted : quiets' < last_count → quiets' + new.allowed ≡ quiets + old.allowed
  pub kept : faults ≤ faults'

-- why a reader reads no more after a read that brought this
abbrev pub IsPause : Came → IntakeData → MessageFault → Type 0
IsPause c i Ended = c ≡ came.Ended
IsPause c i ReadFault = c ≡ came.Failed
IsPause c i (Slow n) = (c ≡ came.Quiet) × (i.allowed ≡ 0) × (n ≡ i.patience)
IsPause c i _ = ⊥

-- what came lets the reader read on
abbrev pub Goes : Came → IntakeData → Type 0
Goes came.Bytes i = Unit {0}
Goes came.Quiet i = 0 < i.allowed
Goes came.Ended i = ⊥
Goes came.Failed i = ⊥
