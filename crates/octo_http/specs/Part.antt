-- The parts round the bytes of a chunked body (RFC 9112, section 7.1), and why an input begins with none.
use Rattle.std.specs.Prelude.{◌≡◌, ℕ, ◌+◌, ◌<◌, ◌≤◌, ◌==◌, ◌&&◌, if◌then◌else◌, List, [], ◌∷◌, length, take}
use Rattle.httparse.specs.Grammar.{ChunkLine, chunk_size, ReadsChunkLine, HasNoChunkLine, NeverHasChunkLine, MayBecomeChunkLine}
use Rattle.memchr.specs.Find.{OccursAt, Nowhere}
use Rattle.octo_http.specs.declared.fault.MessageFault.{MessageFault}
use Rattle.octo_http.specs.declared.fault.MessageFault.TheVariants.{BadChunk, Ended}
use Rattle.octo_http.specs.declared.part.Part.{Part}
use Rattle.octo_http.specs.declared.part.Part.TheVariants.{Line, LineEnd, Trailers}
use Rattle.octo_http.specs.declared.part.Ending.{Ending}
use Rattle.octo_http.specs.declared.part.Ending.TheVariants.{Whole, Cut, Other}

-- how many bytes a chunk's line may have
abbrev pub most_chunk_line : ℕ
most_chunk_line = 1024

-- how many bytes the trailers may have
abbrev pub most_trailers : ℕ
most_trailers = 16384

-- CR LF
abbrev pub crlf : List ℕ
crlf = 13 ∷ 10 ∷ []

-- CR LF twice
abbrev pub crlf_crlf : List ℕ
crlf_crlf = 13 ∷ 10 ∷ 13 ∷ 10 ∷ []

-- the bytes are a chunk's line, which has its size
pub record IsChunkHead (line : List ℕ) (size : ℕ) : Type 0 where
  pub l : ChunkLine
  pub reads : ReadsChunkLine line l []
  pub short : length line ≤ most_chunk_line
  pub size_is : size ≡ chunk_size l

-- whether an input begins with CR LF, or may yet
abbrev pub ending_of : List ℕ → Ending
ending_of [] = Cut
ending_of (a ∷ []) = if a == 13 then Cut else Other
ending_of (a ∷ b ∷ rest) = if a == 13 && b == 10 then Whole else Other

-- trailers end with the first empty line, n bytes from their beginning, which is the beginning of a line
pub data TrailersEnd : List ℕ → ℕ → Type 0 where
  at_once : (input : List ℕ) → OccursAt input crlf 0 → TrailersEnd input 2
  later : (input : List ℕ) (place : ℕ) → ¬ (OccursAt input crlf 0) → Nowhere (OccursAt input crlf_crlf) 0 place → OccursAt input crlf_crlf place
      → TrailersEnd input (place + 4)

-- no trailers end in the input
pub record HasNoEnd (input : List ℕ) : Type 0 where
  pub first : ¬ (OccursAt input crlf 0)
  pub later : Nowhere (OccursAt input crlf_crlf) 0 (length input + 1)

-- the bytes are this part; a line has a size
abbrev pub IsPart : Part → List ℕ → ℕ → Type 0
IsPart Line bytes size = IsChunkHead bytes size
IsPart LineEnd bytes size = bytes ≡ crlf
IsPart Trailers bytes size = (length bytes ≤ most_trailers) × TrailersEnd bytes (length bytes)

-- how many bytes a part may have
abbrev pub most_of : Part → ℕ
most_of Line = most_chunk_line
most_of LineEnd = 2
most_of Trailers = most_trailers

-- the bytes aren't the part yet
abbrev pub IsPartial : Part → List ℕ → Type 0
IsPartial Line bytes = HasNoChunkLine bytes × MayBecomeChunkLine bytes
IsPartial LineEnd bytes = ending_of bytes ≡ Cut
IsPartial Trailers bytes = HasNoEnd bytes

-- the bytes can't become the part
abbrev pub IsNoPart : Part → List ℕ → Type 0
IsNoPart Line bytes = NeverHasChunkLine bytes
IsNoPart LineEnd bytes = ending_of bytes ≡ Other
IsNoPart Trailers bytes = ⊥

-- why an input doesn't begin with a part
pub data PartFault : Part → List ℕ → MessageFault → Type 0 where
  no_part : (part : Part) (input : List ℕ) → IsNoPart part (take (most_of part) input) → PartFault part input BadChunk
  long_part : (part : Part) (input : List ℕ) → most_of part ≤ length input → IsPartial part (take (most_of part) input) → PartFault part input BadChunk
  cut_part : (part : Part) (input : List ℕ) → length input < most_of part → IsPartial part input → PartFault part input Ended

-- a look at the first bytes found the part, its number, and its length
pub record IsFoundPart (part : Part) (bytes : List ℕ) (found : ℕ × ℕ) : Type 0 where
  pub within : found.1 ≤ length bytes
  pub is : IsPart part (take found.1 bytes) found.0
