-- A body in chunks (RFC 9112, section 7.1).
use Rattle.std.specs.Prelude.{◌≡◌, ℕ, ◌+◌, ◌<◌, ◌≤◌, List, ◌++◌, length, Result, Ok, Err}
use Rattle.octo_http.specs.declared.fault.MessageFault.{MessageFault}
use Rattle.octo_http.specs.declared.fault.MessageFault.TheVariants.{BodyTooLarge, Ended}
use Rattle.octo_http.specs.declared.part.Part.TheVariants.{Line, LineEnd, Trailers}
use Rattle.octo_http.specs.Part.{crlf, IsChunkHead, IsPart, PartFault}

-- how many bytes a body may have
abbrev pub most_body : ℕ
most_body = 68157440

-- a chunk's line with room for its bytes after those so far
pub record Fits (sofar line : List ℕ) (size : ℕ) : Type 0 where
  pub head : IsChunkHead line size
  pub some : 0 < size
  pub few : length sofar + size ≤ most_body

-- what an input says as a body in chunks, after the bytes so far
pub data Chunked : List ℕ → List ℕ → Result (List ℕ) MessageFault → Type 0 where
  chunk : (sofar line piece rest : List ℕ) (size : ℕ) (r : Result (List ℕ) MessageFault) → Fits sofar line size → length piece ≡ size
      → Chunked (sofar ++ piece) rest r → Chunked sofar (line ++ (piece ++ (crlf ++ rest))) r
  last : (sofar line trailers rest : List ℕ) (n : ℕ) → IsChunkHead line 0 → IsPart Trailers trailers n → Chunked sofar (line ++ (trailers ++ rest)) (Ok sofar)
  no_line : (sofar input : List ℕ) (f : MessageFault) → PartFault Line input f → Chunked sofar input (Err f)
  large : (sofar line rest : List ℕ) (size : ℕ) → IsChunkHead line size → most_body < length sofar + size → Chunked sofar (line ++ rest) (Err BodyTooLarge)
  short : (sofar line rest : List ℕ) (size : ℕ) → Fits sofar line size → length rest < size → Chunked sofar (line ++ rest) (Err Ended)
  no_end : (sofar line piece rest : List ℕ) (size : ℕ) (f : MessageFault) → Fits sofar line size → length piece ≡ size → PartFault LineEnd rest f
      → Chunked sofar (line ++ (piece ++ rest)) (Err f)
  no_trailers : (sofar line rest : List ℕ) (f : MessageFault) → IsChunkHead line 0 → PartFault Trailers rest f → Chunked sofar (line ++ rest) (Err f)

-- the faults of a body in chunks
abbrev pub IsChunkFault : List ℕ → List ℕ → MessageFault → Type 0
IsChunkFault sofar input f = Chunked sofar input (Err f)
