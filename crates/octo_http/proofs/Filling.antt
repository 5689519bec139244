-- What the steps of a filling keep.
use Rattle.std.proofs.Common.{◌≡◌, ℕ, ◌+◌, ◌-◌, ◌<◌, ◌≤◌, List, [], ◌++◌, length, take, drop, min, Option, Result, Ok, Err, refl, sym, ap, ◌∙◌, subst, append_assoc, arith, length-append}
use Rattle.std.specs.Result.{IfErr, IsErrAnd}
use Rattle.std.proofs.lemmas.List.{take-append-drop, length-take}
use Rattle.octo_http.specs.Input.{IntakeData, Took, Knows, IsPause}
use Rattle.octo_http.specs.Stops.{Stops, IsShort}
use Rattle.octo_http.specs.declared.fault.MessageFault.{MessageFault}
use Rattle.octo_http.specs.declared.intake.Came.{Came}
use Rattle.octo_http.specs.declared.intake.Came.TheVariants as came
use Rattle.octo_http.proofs.Reading.{took_then, took_read, took_front, knows_since, stops_paused}

-- bytes were taken into a body from a beginning on, and more are due
abbrev pub Sofar : ℕ → ℕ → List ℕ → List ℕ → List ℕ → Option (List ℕ) → Came → IntakeData → Option (List ℕ) → ℕ → ℕ → Type 0
Sofar count due body0 body b0 l0 c i l f0 f =
    (taken : List ℕ) × (length taken + due ≡ count) × (body ≡ body0 ++ taken) × Took b0 l0 i.bytes l taken × Knows c i taken b0 l0 f0 f

-- what is known of a read stays if bytes at hand are taken
knows_moved : (c : Came) (i : IntakeData) (t u rest b0 : List ℕ) (l0 : Option (List ℕ)) (f0 f : ℕ) → i.bytes ≡ u ++ rest → Knows c i t b0 l0 f0 f
    → Knows c (record i { bytes = rest }) (t ++ u) b0 l0 f0 f
knows_moved came.Bytes i t u rest b0 l0 f0 f split knows = knows
knows_moved came.Quiet i t u rest b0 l0 f0 f split knows = tt
knows_moved came.Ended i t u rest b0 l0 f0 f split knows =
    λ input holds. knows input holds ∙ ap (λ bytes. t ++ bytes) split ∙ sym (append_assoc t u rest)
knows_moved came.Failed i t u rest b0 l0 f0 f split knows = knows

-- bytes at hand were moved into the body
pub sofar_moved : (count due n : ℕ) (body0 body body' b0 : List ℕ) (l0 : Option (List ℕ)) (c : Came) (i i' : IntakeData) (l : Option (List ℕ)) (f0 f : ℕ)
    → Sofar count due body0 body b0 l0 c i l f0 f → n ≡ min due (length i.bytes) → body' ≡ body ++ take n i.bytes → i' ≡ record i { bytes = drop n i.bytes }
    → Sofar count (due - n) body0 body' b0 l0 c i' l f0 f
sofar_moved count due n body0 body body' b0 l0 c i i' l f0 f sofar many moved same =
    let t = sofar.0 in
    let u : List ℕ = take n i.bytes in
    let split : i.bytes ≡ u ++ drop n i.bytes = sym (take-append-drop n i.bytes) in
    let long : length u ≡ min n (length i.bytes) = length-take n i.bytes in
    let Moved : IntakeData → Type 0 = λ j. Sofar count (due - n) body0 body' b0 l0 c j l f0 f in
    subst Moved (sym same) (
      t ++ u,
      omega (arith, length-append t u, sofar.1, long, many),
      moved ∙ ap (λ front. front ++ u) sofar.2 ∙ append_assoc body0 t u,
      took_then b0 l0 i.bytes l (drop n i.bytes) l t u sofar.3 (took_front i.bytes l (drop n i.bytes) u split),
      knows_moved c i t u (drop n i.bytes) b0 l0 f0 f split sofar.4,
    )

-- a body to which nothing is due is full
pub full : (count due : ℕ) (body0 body b0 : List ℕ) (l0 : Option (List ℕ)) (c : Came) (i : IntakeData) (l : Option (List ℕ)) (f0 f : ℕ)
    → Sofar count due body0 body b0 l0 c i l f0 f → due ≡ 0 → (taken : List ℕ) × (length taken ≡ count) × (body ≡ body0 ++ taken) × Took b0 l0 i.bytes l taken
full count due body0 body b0 l0 c i l f0 f sofar none = (sofar.0, omega (arith, sofar.1, none), sofar.2, sofar.3)

-- a reader that pauses at a body to which bytes are due
pub short_of : (count due : ℕ) (body0 body b0 : List ℕ) (l0 : Option (List ℕ)) (c : Came) (i : IntakeData) (l : Option (List ℕ)) (f0 f : ℕ)
    (e : MessageFault) → Sofar count due body0 body b0 l0 c i l f0 f → length i.bytes < due → IsPause c i e → Stops (IsShort count) b0 l0 l e
short_of count due body0 body b0 l0 c i l f0 f e sofar some pause =
    stops_paused (IsShort count) c i sofar.0 b0 l0 l f0 f e sofar.3 sofar.4 pause (λ _. (refl, omega (arith, length-append sofar.0 i.bytes, sofar.1, some)))

-- a read from there on
pub sofar_read : (count due : ℕ) (body0 body b0 : List ℕ) (l0 : Option (List ℕ)) (c c' : Came) (i i' : IntakeData) (l l' : Option (List ℕ)) (f0 f f' : ℕ)
    → Sofar count due body0 body b0 l0 c i l f0 f → Took i.bytes l i'.bytes l' [] → f0 ≤ f → f ≤ f' → Knows c' i' [] i.bytes l f f'
    → Sofar count due body0 body b0 l0 c' i' l' f0 f'
sofar_read count due body0 body b0 l0 c c' i i' l l' f0 f f' sofar took before after knows = (
  sofar.0,
  sofar.1,
  sofar.2,
  took_read b0 l0 i.bytes l i'.bytes l' sofar.0 sofar.3 took,
  knows_since c' i' b0 l0 sofar.0 i.bytes l f0 f f' sofar.3 before after knows,
)

-- the error at the exit of a call
pub on_exit : {A : Type 0} (r : Result A MessageFault) (e : MessageFault) (C : MessageFault → Type 0) → IsErrAnd r (λ f. f ≡ e) → C e → IfErr r C
on_exit (Ok x) e C is holds = absurd is
on_exit (Err f) e C is holds = subst C (sym is) holds
