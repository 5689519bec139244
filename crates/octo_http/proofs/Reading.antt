-- How the steps of a reader join.
use Rattle.std.proofs.Common.{◌≡◌, ◌≢◌, ℕ, zero, suc, ◌≤◌, List, [], ◌∷◌, ◌++◌, take, Option, refl, sym, ap, ◌∙◌, subst, append_assoc, arith}
use Rattle.octo_outside.proofs.Recorded.{rose_after}
use Rattle.octo_http.specs.Input.{IntakeData, Took, Knows, Waits, IsPause}
use Rattle.octo_http.specs.Stops.{Grammar, Unfinished, IsFaultOf, Stops, Refuses, HasCause, Lacks}
use Rattle.octo_http.specs.declared.fault.MessageFault.{MessageFault}
use Rattle.octo_http.specs.declared.fault.MessageFault.TheVariants.{BadHead, HeadTooLarge, BodyTooLarge, BadChunk, Ended, ReadFault, NoMemory, Slow}
use Rattle.octo_http.specs.declared.intake.Came.{Came}
use Rattle.octo_http.specs.declared.intake.Came.TheVariants as came

-- nothing was taken yet
pub took_none : (bytes : List ℕ) (left : Option (List ℕ)) → Took bytes left bytes left []
took_none bytes left input holds = (input, refl, holds)

-- taken one after the other
pub took_then : (b0 : List ℕ) (l0 : Option (List ℕ)) (b1 : List ℕ) (l1 : Option (List ℕ)) (b2 : List ℕ) (l2 : Option (List ℕ)) (t u : List ℕ)
    → Took b0 l0 b1 l1 t → Took b1 l1 b2 l2 u → Took b0 l0 b2 l2 (t ++ u)
took_then b0 l0 b1 l1 b2 l2 t u first second input holds =
    let one = first input holds in
    let two = second one.0 one.2 in
    (two.0, one.1 ∙ ap (λ rest. t ++ rest) two.1 ∙ sym (append_assoc t u two.0), two.2)

-- a read takes nothing
pub took_read : (b0 : List ℕ) (l0 : Option (List ℕ)) (b1 : List ℕ) (l1 : Option (List ℕ)) (b2 : List ℕ) (l2 : Option (List ℕ)) (t : List ℕ)
    → Took b0 l0 b1 l1 t → Took b1 l1 b2 l2 [] → Took b0 l0 b2 l2 t
took_read b0 l0 b1 l1 b2 l2 t first second input holds =
    let one = first input holds in
    let two = second one.0 one.2 in
    (two.0, one.1 ∙ ap (λ rest. t ++ rest) two.1, two.2)

-- the first of the bytes at hand were taken
pub took_front : (b : List ℕ) (l : Option (List ℕ)) (b' u : List ℕ) → b ≡ u ++ b' → Took b l b' l u
took_front b l b' u split input holds =
    (b' ++ holds.rest, holds.is ∙ ap (λ bytes. bytes ++ holds.rest) split ∙ append_assoc u b' holds.rest, record { rest = holds.rest; known = holds.known; is = refl })

-- nothing was read and nothing waited for
pub waits_none : (i : IntakeData) (faults quiets : ℕ) → Waits i i faults faults quiets quiets
waits_none i faults quiets = record { same = refl; fewer = omega arith; quiet = omega arith; counted = λ _. refl; kept = omega arith }

-- reads one after the other
pub waits_then : (a b c : IntakeData) (f0 f1 f2 q0 q1 q2 : ℕ) → Waits a b f0 f1 q0 q1 → Waits b c f1 f2 q1 q2 → Waits a c f0 f2 q0 q2
waits_then a b c f0 f1 f2 q0 q1 q2 first second = record {
  same = second.same ∙ first.same;
  fewer = omega (arith, first.fewer, second.fewer);
  quiet = omega (arith, first.quiet, second.quiet);
  counted = λ below. omega (arith, second.counted below, first.counted (omega (arith, second.quiet, below)), second.quiet);
  kept = omega (arith, first.kept, second.kept);
}

-- what is taken of the bytes at hand changes no count
pub waits_taken : (a b c : IntakeData) (f0 f1 q0 q1 : ℕ) → Waits a b f0 f1 q0 q1 → c.patience ≡ b.patience → c.allowed ≡ b.allowed → Waits a c f0 f1 q0 q1
waits_taken a b c f0 f1 q0 q1 first patience allowed = record {
  same = patience ∙ first.same;
  fewer = omega (arith, first.fewer, allowed);
  quiet = first.quiet;
  counted = λ below. omega (arith, first.counted below, allowed);
  kept = first.kept;
}

-- what is known of a read holds from an earlier beginning on
pub knows_since : (c : Came) (i : IntakeData) (b0 : List ℕ) (l0 : Option (List ℕ)) (t b1 : List ℕ) (l1 : Option (List ℕ)) (f0 f1 f2 : ℕ) → Took b0 l0 b1 l1 t
    → f0 ≤ f1 → f1 ≤ f2 → Knows c i [] b1 l1 f1 f2 → Knows c i t b0 l0 f0 f2
knows_since came.Bytes i b0 l0 t b1 l1 f0 f1 f2 took before after knows = knows
knows_since came.Quiet i b0 l0 t b1 l1 f0 f1 f2 took before after knows = tt
knows_since came.Ended i b0 l0 t b1 l1 f0 f1 f2 took before after knows =
    λ input holds. let one = took input holds in one.1 ∙ ap (λ rest. t ++ rest) (knows one.0 one.2)
knows_since came.Failed i b0 l0 t b1 l1 f0 f1 f2 took before after knows = rose_after f0 f1 f2 before after knows

-- bytes at hand that have a fault stop a reader
pub stops_refused : (Says : Grammar) (b0 : List ℕ) (l0 : Option (List ℕ)) (b1 : List ℕ) (l1 : Option (List ℕ)) (f : MessageFault) → Took b0 l0 b1 l1 []
    → Refuses Says b1 f → Stops Says b0 l0 l1 f
stops_refused Says b0 l0 b1 l1 f took refuses input holds =
    let one = took input holds in
    let whole : input ≡ b1 ++ one.2.rest = one.1 ∙ one.2.is in
    let Fault : List ℕ → Type 0 = λ text. IsFaultOf Says text l1 f in
    subst Fault (sym whole) (refused f one.2.rest refuses)
  where
    refused : (g : MessageFault) (rest : List ℕ) → Refuses Says b1 g → IsFaultOf Says (b1 ++ rest) l1 g
    refused BadHead rest h = h rest
    refused HeadTooLarge rest h = h rest
    refused BodyTooLarge rest h = h rest
    refused BadChunk rest h = h rest
    refused Ended rest h = absurd h
    refused ReadFault rest h = absurd h
    refused NoMemory rest h = tt
    refused (Slow n) rest h = absurd h

-- and have no other cause
pub caused_refused : (Says : Grammar) (b : List ℕ) (i : IntakeData) (f0 f1 : ℕ) (f : MessageFault) → Refuses Says b f → HasCause i f0 f1 f
caused_refused Says b i f0 f1 BadHead h = tt
caused_refused Says b i f0 f1 HeadTooLarge h = tt
caused_refused Says b i f0 f1 BodyTooLarge h = tt
caused_refused Says b i f0 f1 BadChunk h = tt
caused_refused Says b i f0 f1 Ended h = tt
caused_refused Says b i f0 f1 ReadFault h = absurd h
caused_refused Says b i f0 f1 NoMemory h = tt
caused_refused Says b i f0 f1 (Slow n) h = absurd h

-- a pause stops a reader that isn't done with the bytes it took and those at hand
pub stops_paused : (Says : Grammar) (c : Came) (i : IntakeData) (t b0 : List ℕ) (l0 l1 : Option (List ℕ)) (f0 f1 : ℕ) (f : MessageFault)
    → Took b0 l0 i.bytes l1 t → Knows c i t b0 l0 f0 f1 → IsPause c i f → (c ≢ came.Bytes → Says (t ++ i.bytes) Ended) → Stops Says b0 l0 l1 f
stops_paused Says c i t b0 l0 l1 f0 f1 f took knows pause short input holds = paused f pause
  where
    cut : c ≢ came.Bytes → Unfinished Says input l1
    cut other = let one = took input holds in
        (t ++ i.bytes, one.2.rest, one.1 ∙ ap (λ rest. t ++ rest) one.2.is ∙ sym (append_assoc t i.bytes one.2.rest), one.2.known, short other)

    at_end : c ≡ came.Ended → Says input Ended
    at_end is =
        let Known : Came → Type 0 = λ d. Knows d i t b0 l0 f0 f1 in
        let ended : Knows came.Ended i t b0 l0 f0 f1 = subst Known is knows in
        let Here : List ℕ → Type 0 = λ text. Says text Ended in
        subst Here (sym (ended input holds)) (short (λ other. cc))

    paused : (g : MessageFault) → IsPause c i g → IsFaultOf Says input l1 g
    paused BadHead h = absurd h
    paused HeadTooLarge h = absurd h
    paused BodyTooLarge h = absurd h
    paused BadChunk h = absurd h
    paused Ended h = at_end h
    paused ReadFault h = cut (λ other. cc)
    paused NoMemory h = absurd h
    paused (Slow n) h = let quiet : c ≡ came.Quiet = h.0 in cut (λ other. cc)

-- and has its cause
pub caused_paused : (c : Came) (i : IntakeData) (t b0 : List ℕ) (l0 : Option (List ℕ)) (f0 f1 : ℕ) (f : MessageFault) → Knows c i t b0 l0 f0 f1
    → IsPause c i f → HasCause i f0 f1 f
caused_paused c i t b0 l0 f0 f1 BadHead knows h = absurd h
caused_paused c i t b0 l0 f0 f1 HeadTooLarge knows h = absurd h
caused_paused c i t b0 l0 f0 f1 BodyTooLarge knows h = absurd h
caused_paused c i t b0 l0 f0 f1 BadChunk knows h = absurd h
caused_paused c i t b0 l0 f0 f1 Ended knows h = tt
caused_paused c i t b0 l0 f0 f1 ReadFault knows h = let Known : Came → Type 0 = λ d. Knows d i t b0 l0 f0 f1 in subst Known h knows
caused_paused c i t b0 l0 f0 f1 NoMemory knows h = absurd h
caused_paused c i t b0 l0 f0 f1 (Slow n) knows h = (h.2, h.1)

-- an earlier beginning keeps the cause
pub caused_since : (i : IntakeData) (f0 f1 f2 : ℕ) (f : MessageFault) → f0 ≤ f1 → f1 ≤ f2 → HasCause i f1 f2 f → HasCause i f0 f2 f
caused_since i f0 f1 f2 BadHead before after h = tt
caused_since i f0 f1 f2 HeadTooLarge before after h = tt
caused_since i f0 f1 f2 BodyTooLarge before after h = tt
caused_since i f0 f1 f2 BadChunk before after h = tt
caused_since i f0 f1 f2 Ended before after h = tt
caused_since i f0 f1 f2 ReadFault before after h = rose_after f0 f1 f2 before after h
caused_since i f0 f1 f2 NoMemory before after h = tt
caused_since i f0 f1 f2 (Slow n) before after h = h

-- the first n bytes of more bytes begin with the first n of these
pub front_more : (n : ℕ) (bytes more : List ℕ) → (x : List ℕ) × (take n (bytes ++ more) ≡ take n bytes ++ x)
front_more zero bytes more = ([], refl)
front_more (suc n) [] more = (take (suc n) more, refl)
front_more (suc n) (b ∷ bytes) more = let later = front_more n bytes more in (later.0, ap (λ rest. b ∷ rest) later.1)

-- a reader that pauses without what it reads
pub stops_lacking : (Says : Grammar) (most : ℕ) (c : Came) (i i' : IntakeData) (b0 : List ℕ) (l0 l : Option (List ℕ)) (f0 f : ℕ) (e : MessageFault)
    → Took b0 l0 i.bytes l [] → Knows c i [] b0 l0 f0 f → i' ≡ i → Lacks Says most i'.bytes c → IsPause c i' e → Stops Says b0 l0 l e
stops_lacking Says most c i i' b0 l0 l f0 f e took knows same none pause =
    let Lacking : IntakeData → Type 0 = λ j. Lacks Says most j.bytes c in
    let Pause : IntakeData → Type 0 = λ j. IsPause c j e in
    let here : Lacks Says most i.bytes c = subst Lacking same none in
    stops_paused Says c i [] b0 l0 l f0 f e took knows (subst Pause same pause) here.looked

-- a read from there on
pub took_on : (i i' : IntakeData) (b0 : List ℕ) (l0 l : Option (List ℕ)) (b2 : List ℕ) (l2 : Option (List ℕ)) → Took b0 l0 i.bytes l [] → i' ≡ i
    → Took i'.bytes l b2 l2 [] → Took b0 l0 b2 l2 []
took_on i i' b0 l0 l b2 l2 took same later =
    let Later : IntakeData → Type 0 = λ j. Took j.bytes l b2 l2 [] in
    took_read b0 l0 i.bytes l b2 l2 [] took (subst Later same later)

pub knows_on : (c' : Came) (i i' j : IntakeData) (b0 : List ℕ) (l0 l : Option (List ℕ)) (f0 f f' : ℕ) → Took b0 l0 i.bytes l [] → i' ≡ i → f0 ≤ f → f ≤ f'
    → Knows c' j [] i'.bytes l f f' → Knows c' j [] b0 l0 f0 f'
knows_on c' i i' j b0 l0 l f0 f f' took same before after knows =
    let Known : IntakeData → Type 0 = λ k. Knows c' j [] k.bytes l f f' in
    knows_since c' j b0 l0 [] i.bytes l f0 f f' took before after (subst Known same knows)

-- how many reads an answer may still take
abbrev pub weight : Came → ℕ
weight came.Bytes = 1
weight came.Quiet = 1
weight came.Ended = 0
weight came.Failed = 0
