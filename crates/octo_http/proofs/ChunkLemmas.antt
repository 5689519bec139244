-- How the parts of a chunked body join.
use Rattle.std.proofs.Common.{◌≡◌, ◌≢◌, ℕ, ◌+◌, ◌-◌, ◌<◌, ◌≤◌, List, [], ◌++◌, length, Option, Result, Ok, Err, refl, sym, ap, ◌∙◌, subst, append_assoc, arith, length-append}
use Rattle.octo_http.specs.Input.{Took}
use Rattle.octo_http.specs.Stops.{Grammar, Unfinished, IsFaultOf, Stops, IsShort}
use Rattle.octo_http.specs.Part.{crlf, IsChunkHead, IsPart, PartFault}
use Rattle.octo_http.specs.Chunks.{Fits, Chunked, chunk, last, no_line, large, short, no_end, no_trailers, IsChunkFault}
use Rattle.octo_http.specs.Taken.{AddsChunk}
use Rattle.octo_http.specs.declared.chunks.Added.TheVariants.{Chunk, Last}
use Rattle.octo_http.specs.declared.part.Part.TheVariants.{Line, LineEnd, Trailers}
use Rattle.octo_http.specs.declared.fault.MessageFault.{MessageFault}
use Rattle.octo_http.specs.declared.fault.MessageFault.TheVariants.{BadHead, HeadTooLarge, BodyTooLarge, BadChunk, Ended, ReadFault, NoMemory, Slow}
use Rattle.octo_http.proofs.Reading.{took_none, took_then}

-- a fault after bytes that were taken
pub stops_after : (P Q : Grammar) (b0 : List ℕ) (l0 : Option (List ℕ)) (b1 : List ℕ) (l1 l2 : Option (List ℕ)) (t : List ℕ) (f : MessageFault)
    → Took b0 l0 b1 l1 t → Stops P b1 l1 l2 f → ((input : List ℕ) (g : MessageFault) → P input g → Q (t ++ input) g) → Stops Q b0 l0 l2 f
stops_after P Q b0 l0 b1 l1 l2 t f took stops so input holds =
    let one = took input holds in
    let Fault : List ℕ → Type 0 = λ text. IsFaultOf Q text l2 f in
    subst Fault (sym one.1) (later f one.0 (stops one.0 one.2))
  where
    cut : (rest : List ℕ) → Unfinished P rest l2 → Unfinished Q (t ++ rest) l2
    cut rest u = (t ++ u.0, u.1, ap (λ text. t ++ text) u.2 ∙ sym (append_assoc t u.0 u.1), u.3, so u.0 Ended u.4)

    later : (g : MessageFault) (rest : List ℕ) → IsFaultOf P rest l2 g → IsFaultOf Q (t ++ rest) l2 g
    later BadHead rest h = so rest BadHead h
    later HeadTooLarge rest h = so rest HeadTooLarge h
    later BodyTooLarge rest h = so rest BodyTooLarge h
    later BadChunk rest h = so rest BadChunk h
    later Ended rest h = so rest Ended h
    later ReadFault rest h = cut rest h
    later NoMemory rest h = tt
    later (Slow n) rest h = cut rest h

-- a chunk that would make the body too large
pub stops_large : (sofar line : List ℕ) (size : ℕ) (b0 : List ℕ) (l0 : Option (List ℕ)) (b1 : List ℕ) (l1 : Option (List ℕ)) → Took b0 l0 b1 l1 line
    → IsChunkHead line size → 68157440 < length sofar + size → Stops (IsChunkFault sofar) b0 l0 l1 BodyTooLarge
stops_large sofar line size b0 l0 b1 l1 took head many input holds =
    let one = took input holds in
    let Says : List ℕ → Type 0 = λ text. Chunked sofar text (Err BodyTooLarge) in
    subst Says (sym one.1) (large sofar line one.0 size head many)

-- no line
pub stops_line : (sofar b0 : List ℕ) (l0 l : Option (List ℕ)) (f : MessageFault) → Stops (PartFault Line) b0 l0 l f → Stops (IsChunkFault sofar) b0 l0 l f
stops_line sofar b0 l0 l f stops =
    stops_after (PartFault Line) (IsChunkFault sofar) b0 l0 b0 l0 l [] f (took_none b0 l0) stops (λ input g p. no_line sofar input g p)

-- no trailers after the last line
pub stops_trailers : (sofar line b0 : List ℕ) (l0 : Option (List ℕ)) (b1 : List ℕ) (l1 l : Option (List ℕ)) (f : MessageFault) → Took b0 l0 b1 l1 line
    → IsChunkHead line 0 → Stops (PartFault Trailers) b1 l1 l f → Stops (IsChunkFault sofar) b0 l0 l f
stops_trailers sofar line b0 l0 b1 l1 l f took head stops =
    stops_after (PartFault Trailers) (IsChunkFault sofar) b0 l0 b1 l1 l line f took stops (λ input g p. no_trailers sofar line input g head p)

-- too few bytes after a line
pub stops_short : (sofar line : List ℕ) (size : ℕ) (b0 : List ℕ) (l0 : Option (List ℕ)) (b1 : List ℕ) (l1 l : Option (List ℕ)) (f : MessageFault)
    → Took b0 l0 b1 l1 line → Fits sofar line size → Stops (IsShort size) b1 l1 l f → Stops (IsChunkFault sofar) b0 l0 l f
stops_short sofar line size b0 l0 b1 l1 l f took fits stops =
    stops_after (IsShort size) (IsChunkFault sofar) b0 l0 b1 l1 l line f took stops (λ input g p.
    let Says : MessageFault → Type 0 = λ h. Chunked sofar (line ++ input) (Err h) in
    subst Says (sym p.0) (short sofar line input size fits p.1))

-- no line end after a chunk's bytes
pub stops_end : (sofar line piece : List ℕ) (size : ℕ) (b0 : List ℕ) (l0 : Option (List ℕ)) (b1 : List ℕ) (l1 : Option (List ℕ)) (b2 : List ℕ)
    (l2 l : Option (List ℕ)) (f : MessageFault) → Took b0 l0 b1 l1 line → Took b1 l1 b2 l2 piece → Fits sofar line size → length piece ≡ size → Stops
    (PartFault LineEnd) b2 l2 l f → Stops (IsChunkFault sofar) b0 l0 l f
stops_end sofar line piece size b0 l0 b1 l1 b2 l2 l f first second fits long stops =
    stops_after (PartFault LineEnd) (IsChunkFault sofar) b0 l0 b2 l2 l (line ++ piece) f (took_then b0 l0 b1 l1 b2 l2 line piece first second) stops
    (λ input g p.
    let Says : List ℕ → Type 0 = λ text. Chunked sofar text (Err g) in
    subst Says (sym (append_assoc line piece input)) (no_end sofar line piece input size g fits long p))

-- a whole chunk
pub adds_chunk : (old new line piece ending : List ℕ) (size : ℕ) (b0 : List ℕ) (l0 : Option (List ℕ)) (b1 : List ℕ) (l1 : Option (List ℕ)) (b2 : List ℕ)
    (l2 : Option (List ℕ)) (b3 : List ℕ) (l3 : Option (List ℕ)) → Took b0 l0 b1 l1 line → Took b1 l1 b2 l2 piece → Took b2 l2 b3 l3 ending
    → Fits old line size → length piece ≡ size → new ≡ old ++ piece → ending ≡ crlf → (taken : List ℕ) × AddsChunk old new Chunk taken
    × Took b0 l0 b3 l3 taken
adds_chunk old new line piece ending size b0 l0 b1 l1 b2 l2 b3 l3 first second third fits long grown is = (
  (line ++ piece) ++ ending,
  (
    omega (arith, ap length grown, length-append old piece, long, fits.some),
    omega (arith, ap length grown, length-append old piece, long, fits.few),
    λ input r says.
        let New : List ℕ → Type 0 = λ text. Chunked text input r in
        let Says : List ℕ → Type 0 = λ text. Chunked old text r in
        let joined : ((line ++ piece) ++ ending) ++ input ≡ line ++ (piece ++ (crlf ++ input)) =
        append_assoc (line ++ piece) ending input ∙ append_assoc line piece (ending ++ input) ∙ ap (λ e. line ++ (piece ++ (e ++ input))) is in
        subst Says (sym joined) (chunk old line piece input size r fits long (subst New grown says)),
  ),
  took_then b0 l0 b2 l2 b3 l3 (line ++ piece) ending (took_then b0 l0 b1 l1 b2 l2 line piece first second) third,
)

-- the last chunk
pub adds_last : (body line trailers : List ℕ) (n : ℕ) (b0 : List ℕ) (l0 : Option (List ℕ)) (b1 : List ℕ) (l1 : Option (List ℕ)) (b2 : List ℕ)
    (l2 : Option (List ℕ)) → Took b0 l0 b1 l1 line → Took b1 l1 b2 l2 trailers → IsChunkHead line 0 → IsPart Trailers trailers n → (taken : List ℕ)
    × AddsChunk body body Last taken × Took b0 l0 b2 l2 taken
adds_last body line trailers n b0 l0 b1 l1 b2 l2 first second head are = (
  line ++ trailers,
  (
    refl,
    λ more.
        let Says : List ℕ → Type 0 = λ text. Chunked body text (Ok body) in
        subst Says (sym (append_assoc line trailers more)) (last body line trailers more n head are),
  ),
  took_then b0 l0 b1 l1 b2 l2 line trailers first second,
)

-- a line of a chunk that fits
pub fits_by : (sofar line : List ℕ) (size : ℕ) → IsChunkHead line size → size ≢ 0 → length sofar ≤ 68157440 → size ≤ 68157440 - length sofar
    → Fits sofar line size
fits_by sofar line size head some few room = record { head = head; some = omega (arith, some); few = omega (arith, few, room) }

-- what follows says what the whole body does
abbrev pub Leads : List ℕ → List ℕ → Type 0
Leads body taken = (input : List ℕ) (r : Result (List ℕ) MessageFault) → Chunked body input r → Chunked [] (taken ++ input) r

-- nothing was taken yet
pub leads_none : (body : List ℕ) → body ≡ [] → Leads body []
leads_none body is input r says = let Says : List ℕ → Type 0 = λ text. Chunked text input r in subst Says is says

-- a chunk more
pub leads_chunk : (old new t u : List ℕ) → Leads old t → AddsChunk old new Chunk u → Leads new (t ++ u)
leads_chunk old new t u lead adds input r says =
    let Says : List ℕ → Type 0 = λ text. Chunked [] text r in
    subst Says (sym (append_assoc t u input)) (lead (u ++ input) r (adds.2 input r says))

-- the last one
pub leads_last : (old new t u : List ℕ) → Leads old t → AddsChunk old new Last u → (more : List ℕ) → Chunked [] ((t ++ u) ++ more) (Ok new)
leads_last old new t u lead adds more =
    let Says : List ℕ → Type 0 = λ text. Chunked [] text (Ok new) in
    let Body : List ℕ → Type 0 = λ body. Chunked old (u ++ more) (Ok body) in
    subst Says (sym (append_assoc t u more)) (lead (u ++ more) (Ok new) (subst Body (sym adds.0) (adds.1 more)))

-- a fault after chunks
pub stops_leads : (body b0 : List ℕ) (l0 : Option (List ℕ)) (b1 : List ℕ) (l1 l2 : Option (List ℕ)) (t : List ℕ) (f : MessageFault) → Took b0 l0 b1 l1 t
    → Leads body t → Stops (IsChunkFault body) b1 l1 l2 f → Stops (IsChunkFault []) b0 l0 l2 f
stops_leads body b0 l0 b1 l1 l2 t f took lead stops =
    stops_after (IsChunkFault body) (IsChunkFault []) b0 l0 b1 l1 l2 t f took stops (λ input g p. lead input (Err g) p)
