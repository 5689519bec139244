-- What a look at the first bytes says of the whole input.
use Rattle.std.proofs.Common.{◌≡◌, ℕ, ◌<◌, ◌≤◌, List, [], ◌++◌, length, take, drop, Option, refl, sym, ap, ◌∙◌, subst, append_assoc, arith, inl, inr, length-append}
use Rattle.std.proofs.lemmas.List.{take-append-drop, take-append-le, take_all}
use Rattle.httparse.specs.Grammar.{HasNoRequest, NeverHasRequest, MayBecomeRequest}
use Rattle.httparse.specs.Spans.{RequestExceeds}
use Rattle.octo_http.specs.Input.{IntakeData, Took}
use Rattle.octo_http.specs.Stops.{Refuses, Lacks}
use Rattle.octo_http.specs.declared.intake.Came.{Came}
use Rattle.octo_http.specs.declared.fault.MessageFault.{MessageFault}
use Rattle.octo_http.specs.declared.fault.MessageFault.TheVariants.{BadHead, HeadTooLarge, BodyTooLarge, BadChunk, Ended, ReadFault, NoMemory, Slow}
use Rattle.octo_http.proofs.GrammarHead.{never_more, exceeds_more}
use Rattle.octo_http.proofs.Reading.{front_more, took_then, took_front}
use Rattle.octo_http.specs.Head.{IsHead, HeadFault, bad_head, unframed, many_fields, many_bytes, cut_head, IsRefused, IsOpen, IsFound}
use Rattle.octo_http.specs.Taken.{TakesHead}
use Rattle.octo_http.specs.declared.head.Head.{Head}
use Rattle.octo_http.specs.declared.head.Found.{Found}

-- what a look refuses is a fault of every input that begins with the bytes
refused_head : (bytes : List ℕ) (f : MessageFault) → IsRefused (take 16384 bytes) f → Refuses HeadFault bytes f
refused_head bytes BadHead (inl never) = λ more.
    let ahead = front_more 16384 bytes more in
    let Never : List ℕ → Type 0 = λ text. NeverHasRequest text in
    bad_head (bytes ++ more) (subst Never (sym ahead.1) (never_more (take 16384 bytes) ahead.0 never))
refused_head bytes BadHead (inr found) = λ more.
    let front : List ℕ = take 16384 bytes in
    let first : List ℕ = take found.0 front in
    let rest : List ℕ = drop found.0 front ++ drop 16384 bytes in
    let split : bytes ≡ first ++ rest =
    sym (take-append-drop 16384 bytes) ∙ ap (λ text. text ++ drop 16384 bytes) (sym (take-append-drop found.0 front)) ∙ append_assoc first
    (drop found.0 front) (drop 16384 bytes) in
    let Fault : List ℕ → Type 0 = λ text. HeadFault text BadHead in
    subst Fault (sym (ap (λ text. text ++ more) split ∙ append_assoc first rest more)) (unframed first (rest ++ more) found.2)
refused_head bytes HeadTooLarge e = λ more.
    let ahead = front_more 16384 bytes more in
    let Exceeds : List ℕ → Type 0 = λ text. RequestExceeds 64 text in
    many_fields (bytes ++ more) (subst Exceeds (sym ahead.1) (exceeds_more (take 16384 bytes) ahead.0 e))
refused_head bytes BodyTooLarge h = absurd h
refused_head bytes BadChunk h = absurd h
refused_head bytes Ended h = absurd h
refused_head bytes ReadFault h = absurd h
refused_head bytes NoMemory h = tt
refused_head bytes (Slow n) h = absurd h

pub refuses_head : (front bytes : List ℕ) (f : MessageFault) → front ≡ take 16384 bytes → IsRefused front f → Refuses HeadFault bytes f
refuses_head front bytes f is refused =
    let Refused : List ℕ → Type 0 = λ text. IsRefused text f in
    refused_head bytes f (subst Refused is refused)

-- bytes that are enough for a head and hold none
pub too_long : (front bytes : List ℕ) → front ≡ take 16384 bytes → 16384 ≤ length bytes → IsOpen front → Refuses HeadFault bytes HeadTooLarge
too_long front bytes is long still more =
    let same : take 16384 (bytes ++ more) ≡ front = take-append-le 16384 bytes more long ∙ sym is in
    let None : List ℕ → Type 0 = λ text. HasNoRequest text in
    let May : List ℕ → Type 0 = λ text. MayBecomeRequest text in
    many_bytes (bytes ++ more) (omega (arith, length-append bytes more, long)) (subst None (sym same) still.none) (subst May (sym same) still.may)

-- bytes that are too few for a refusal
pub headless : (front bytes : List ℕ) (c : Came) → front ≡ take 16384 bytes → length bytes < 16384 → IsOpen front → Lacks HeadFault 16384 bytes c
headless front bytes c is few still =
    let same : front ≡ bytes = is ∙ take_all 16384 bytes (omega arith) in
    let None : List ℕ → Type 0 = λ text. HasNoRequest text in
    let May : List ℕ → Type 0 = λ text. MayBecomeRequest text in
    record { few = few; looked = λ _. cut_head bytes few (subst None same still.none) (subst May same still.may) }

-- a head that was found is taken
pub takes_head : (most : ℕ) (front : List ℕ) (i i' : IntakeData) (found : Found) → front ≡ take most i.bytes → IsFound front found
    → i' ≡ record i { bytes = drop found.length i.bytes } → TakesHead i i' found.head
takes_head most front i i' found is at same =
    let first : take found.length front ≡ take found.length i.bytes =
    sym (take-append-le found.length front (drop most i.bytes) at.within)
    ∙ ap (λ text. take found.length (text ++ drop most i.bytes)) is
    ∙ ap (λ text. take found.length text) (take-append-drop most i.bytes) in
    let Head : List ℕ → Type 0 = λ text. IsHead text found.head in
    let Takes : IntakeData → Type 0 = λ j. TakesHead i j found.head in
    subst Takes (sym same) (record {
      taken = take found.length i.bytes;
      is = subst Head first at.is;
      split = sym (take-append-drop found.length i.bytes);
      patience = refl;
      allowed = refl;
    })

-- a head that was taken after reads
pub took_head : (i i' : IntakeData) (b0 : List ℕ) (l0 l : Option (List ℕ)) (head : Head) → Took b0 l0 i.bytes l [] → TakesHead i i' head
    → (taken : List ℕ) × IsHead taken head × Took b0 l0 i'.bytes l taken
took_head i i' b0 l0 l head took takes =
    (takes.taken, takes.is, took_then b0 l0 i.bytes l i'.bytes l [] takes.taken took (took_front i.bytes l i'.bytes takes.taken takes.split))
