-- What was taken of the bytes at hand.
use Rattle.std.specs.Prelude.{◌≡◌, ℕ, ◌<◌, ◌≤◌, List, ◌++◌, length, Result, Ok}
use Rattle.octo_http.specs.Head.{IsHead}
use Rattle.octo_http.specs.Part.{IsPart}
use Rattle.octo_http.specs.Chunks.{Chunked, most_body}
use Rattle.octo_http.specs.declared.fault.MessageFault.{MessageFault}
use Rattle.octo_http.specs.declared.head.Head.{Head}
use Rattle.octo_http.specs.declared.part.Part.{Part}
use Rattle.octo_http.specs.Input.{IntakeData}
use Rattle.octo_http.specs.declared.chunks.Added.{Added}
use Rattle.octo_http.specs.declared.chunks.Added.TheVariants.{Chunk, Last}

-- a head was taken from the bytes at hand
pub record TakesHead (old new : IntakeData) (head : Head) : Type 0 where
  pub taken : List ℕ
  pub is : IsHead taken head
  pub split : old.bytes ≡ taken ++ new.bytes
  pub patience : new.patience ≡ old.patience
  pub allowed : new.allowed ≡ old.allowed

-- a part was taken from the bytes at hand
pub record TakesPart (part : Part) (old new : IntakeData) (n : ℕ) : Type 0 where
  pub taken : List ℕ
  pub is : IsPart part taken n
  pub split : old.bytes ≡ taken ++ new.bytes
  pub patience : new.patience ≡ old.patience
  pub allowed : new.allowed ≡ old.allowed

-- what was taken is a chunk, or the last one with the trailers: what follows says what it says after the new body
abbrev pub AddsChunk : List ℕ → List ℕ → Added → List ℕ → Type 0
AddsChunk old new Chunk taken =
    (length old < length new) × (length new ≤ most_body)
    × ((input : List ℕ) (r : Result (List ℕ) MessageFault) → Chunked new input r → Chunked old (taken ++ input) r)
AddsChunk old new Last taken = (new ≡ old) × ((more : List ℕ) → Chunked old (taken ++ more) (Ok old))
