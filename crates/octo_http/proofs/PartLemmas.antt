-- What a look at the first bytes says of the parts of a chunked body.
use Rattle.std.proofs.Common.{◌≡◌, ℕ, ◌<◌, ◌≤◌, List, [], ◌++◌, length, take, drop, Option, refl, sym, ap, ◌∙◌, subst, arith, length-append}
use Rattle.std.proofs.lemmas.List.{take-append-drop, take-append-le, take_all}
use Rattle.octo_http.specs.Part.{IsPart, IsFoundPart}
use Rattle.octo_http.specs.declared.part.Part.{Part}
use Rattle.octo_http.specs.declared.fault.MessageFault.{MessageFault}
use Rattle.octo_http.specs.declared.fault.MessageFault.TheVariants.{BadChunk}
use Rattle.octo_http.specs.declared.intake.Came.{Came}
use Rattle.octo_http.specs.Input.{IntakeData, Took}
use Rattle.octo_http.specs.Stops.{Refuses, Lacks}
use Rattle.octo_http.specs.Part.{most_of, IsPartial, IsNoPart, PartFault, no_part, long_part, cut_part}
use Rattle.octo_http.specs.Taken.{TakesPart}
use Rattle.octo_http.proofs.GrammarParts.{never_more}
use Rattle.octo_http.proofs.Reading.{front_more, took_then, took_front}

-- a look at the first bytes that refuses them
pub refuses_part : (part : Part) (front bytes : List ℕ) (f : MessageFault) → front ≡ take (most_of part) bytes → (f ≡ BadChunk) × IsNoPart part front
    → Refuses (PartFault part) bytes f
refuses_part part front bytes f is refused =
    let Refused : MessageFault → Type 0 = λ g. Refuses (PartFault part) bytes g in
    let No : List ℕ → Type 0 = λ text. IsNoPart part text in
    subst Refused (sym refused.0) (λ more.
    let ahead = front_more (most_of part) bytes more in
    no_part part (bytes ++ more) (subst No (sym (ahead.1 ∙ ap (λ text. text ++ ahead.0) (sym is))) (never_more part front ahead.0 refused.1)))

-- bytes that are enough for a part and hold none
pub too_long : (part : Part) (front bytes : List ℕ) → front ≡ take (most_of part) bytes → most_of part ≤ length bytes → IsPartial part front
    → Refuses (PartFault part) bytes BadChunk
too_long part front bytes is long partial = λ more.
    let same : take (most_of part) (bytes ++ more) ≡ front = take-append-le (most_of part) bytes more long ∙ sym is in
    let Partial : List ℕ → Type 0 = λ text. IsPartial part text in
    long_part part (bytes ++ more) (omega (arith, length-append bytes more, long)) (subst Partial (sym same) partial)

-- bytes that are too few for a refusal
pub partless : (part : Part) (front bytes : List ℕ) (c : Came) → front ≡ take (most_of part) bytes → length bytes < most_of part → IsPartial part front
    → Lacks (PartFault part) (most_of part) bytes c
partless part front bytes c is few partial =
    let same : front ≡ bytes = is ∙ take_all (most_of part) bytes (omega arith) in
    let Partial : List ℕ → Type 0 = λ text. IsPartial part text in
    record { few = few; looked = λ _. cut_part part bytes few (subst Partial same partial) }

-- a part that was found is taken
pub takes_part : (part : Part) (most : ℕ) (front : List ℕ) (i i' : IntakeData) (found : ℕ × ℕ) → front ≡ take most i.bytes → IsFoundPart part front found
    → i' ≡ record i { bytes = drop found.1 i.bytes } → TakesPart part i i' found.0
takes_part part most front i i' found is at same =
    let first : take found.1 front ≡ take found.1 i.bytes =
    sym (take-append-le found.1 front (drop most i.bytes) at.within)
    ∙ ap (λ text. take found.1 (text ++ drop most i.bytes)) is
    ∙ ap (λ text. take found.1 text) (take-append-drop most i.bytes) in
    let Is : List ℕ → Type 0 = λ text. IsPart part text found.0 in
    let Takes : IntakeData → Type 0 = λ j. TakesPart part i j found.0 in
    subst Takes (sym same) (record {
      taken = take found.1 i.bytes;
      is = subst Is first at.is;
      split = sym (take-append-drop found.1 i.bytes);
      patience = refl;
      allowed = refl;
    })

-- a part that was taken after reads
pub took_part : (part : Part) (i i' : IntakeData) (b0 : List ℕ) (l0 l : Option (List ℕ)) (n : ℕ) → Took b0 l0 i.bytes l [] → TakesPart part i i' n
    → (taken : List ℕ) × IsPart part taken n × Took b0 l0 i'.bytes l taken
took_part part i i' b0 l0 l n took takes =
    (takes.taken, takes.is, took_then b0 l0 i.bytes l i'.bytes l [] takes.taken took (took_front i.bytes l i'.bytes takes.taken takes.split))

-- the front that was looked at
pub same_front : (front bytes here : List ℕ) (n m : ℕ) → front ≡ take n bytes → n ≡ m → bytes ≡ here → front ≡ take m here
same_front front bytes here n m is limit same = is ∙ ap (λ k. take k bytes) limit ∙ ap (λ text. take m text) same
