-- What it says of an input that a reader stops.
use Rattle.std.specs.Prelude.{◌≡◌, ◌≢◌, ℕ, ◌<◌, List, ◌++◌, length, Option, Some}
use Rattle.octo_outside.specs.Recorded.{Rose}
use Rattle.octo_http.specs.Input.{IntakeData, Holds}
use Rattle.octo_http.specs.declared.fault.MessageFault.{MessageFault}
use Rattle.octo_http.specs.declared.intake.Came.{Came}
use Rattle.octo_http.specs.declared.intake.Came.TheVariants as came
use Rattle.octo_http.specs.declared.fault.MessageFault.TheVariants.{BadHead, HeadTooLarge, BodyTooLarge, BadChunk, Ended, ReadFault, NoMemory, Slow}

-- which fault a grammar finds in an input
abbrev pub Grammar : Type 1
Grammar = List ℕ → MessageFault → Type 0

-- what was read of an input isn't whole: were it all, the input would have ended inside
abbrev pub Unfinished : Grammar → List ℕ → Option (List ℕ) → Type 0
Unfinished Says input left =
    (used : List ℕ) × (rest : List ℕ) × (input ≡ used ++ rest) × (left ≡ Some rest) × Says used Ended

-- what a fault says of an input, of which this is left
abbrev pub IsFaultOf : Grammar → List ℕ → Option (List ℕ) → MessageFault → Type 0
IsFaultOf Says input left BadHead = Says input BadHead
IsFaultOf Says input left HeadTooLarge = Says input HeadTooLarge
IsFaultOf Says input left BodyTooLarge = Says input BodyTooLarge
IsFaultOf Says input left BadChunk = Says input BadChunk
IsFaultOf Says input left Ended = Says input Ended
IsFaultOf Says input left ReadFault = Unfinished Says input left
IsFaultOf Says input left NoMemory = Unit {0}
IsFaultOf Says input left (Slow n) = Unfinished Says input left

-- the fault is the fault of the input which was at hand and left, of which the last is left now
abbrev pub Stops : Grammar → List ℕ → Option (List ℕ) → Option (List ℕ) → MessageFault → Type 0
Stops Says bytes left left' f = (input : List ℕ) → Holds bytes left input → IsFaultOf Says input left' f

-- these bytes at the front have the fault, whatever follows
abbrev pub Refuses : Grammar → List ℕ → MessageFault → Type 0
Refuses Says bytes BadHead = (more : List ℕ) → Says (bytes ++ more) BadHead
Refuses Says bytes HeadTooLarge = (more : List ℕ) → Says (bytes ++ more) HeadTooLarge
Refuses Says bytes BodyTooLarge = (more : List ℕ) → Says (bytes ++ more) BodyTooLarge
Refuses Says bytes BadChunk = (more : List ℕ) → Says (bytes ++ more) BadChunk
Refuses Says bytes Ended = ⊥
Refuses Says bytes ReadFault = ⊥
Refuses Says bytes NoMemory = Unit {0}
Refuses Says bytes (Slow n) = ⊥

-- a failure was counted, and a slow peer used up the patience
abbrev pub HasCause : IntakeData → ℕ → ℕ → MessageFault → Type 0
HasCause i faults faults' BadHead = Unit {0}
HasCause i faults faults' HeadTooLarge = Unit {0}
HasCause i faults faults' BodyTooLarge = Unit {0}
HasCause i faults faults' BadChunk = Unit {0}
HasCause i faults faults' Ended = Unit {0}
HasCause i faults faults' ReadFault = Rose faults faults'
HasCause i faults faults' NoMemory = Unit {0}
HasCause i faults faults' (Slow n) = (n ≡ i.patience) × (i.allowed ≡ 0)

-- fewer bytes than this came before the end
abbrev pub IsShort : ℕ → Grammar
IsShort n input f = (f ≡ Ended) × (length input < n)

-- the bytes at hand lack what is read: they are fewer than its limit, and after a pause it is known that the input would end
-- inside
pub record Lacks (Says : Grammar) (most : ℕ) (bytes : List ℕ) (c : Came) : Type 0 where
  pub few : length bytes < most
  pub looked : c ≢ came.Bytes → Says bytes Ended
