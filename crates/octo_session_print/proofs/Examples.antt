-- Small plans and their weaves, as examples of the definitions.
use Rattle.std.proofs.Common.{◌≡◌, true, false, codes, [], ◌∷◌, refl}
use Rattle.job_desk.specs.Data.{ScriptTexts}
use Rattle.octo_session.specs.Plan.{plan, poll, probe, Weave, empty, planned, polled, probed}
use Rattle.octo_session_print.proofs.Weaves.{weave_others}

-- no scripts
abbrev bare : ScriptTexts
bare = record { connected = []; disconnect = []; started = []; paused = []; resumed = []; cancelled = []; done = [] }

-- `M107` before a print and `M84` after it
abbrev fans : ScriptTexts
fans = record { connected = []; disconnect = []; started = codes "M107" ∷ []; paused = []; resumed = []; cancelled = []; done = codes "M84" ∷ [] }

-- without scripts the plan is the file
bare_plan : plan bare (codes "G28" ∷ codes "G1 X10" ∷ []) ≡ codes "G28" ∷ codes "G1 X10" ∷ []
bare_plan = refl

-- an empty file has its scripts
fans_plan : plan fans [] ≡ codes "M107" ∷ codes "M84" ∷ []
fans_plan = refl

-- polls are at any places
with_polls : Weave false (codes "G28" ∷ poll ∷ poll ∷ codes "G1 X10" ∷ poll ∷ []) (plan bare (codes "G28" ∷ codes "G1 X10" ∷ []))
with_polls =
    let last : Weave false (poll ∷ []) [] = polled [] [] empty in
    let second : Weave false (codes "G1 X10" ∷ poll ∷ []) (codes "G1 X10" ∷ []) = planned (codes "G1 X10") (poll ∷ []) [] last in
    let one : Weave false (poll ∷ codes "G1 X10" ∷ poll ∷ []) (codes "G1 X10" ∷ []) = polled (codes "G1 X10" ∷ poll ∷ []) (codes "G1 X10" ∷ []) second in
    let two : Weave false (poll ∷ poll ∷ codes "G1 X10" ∷ poll ∷ []) (codes "G1 X10" ∷ []) = polled (poll ∷ codes "G1 X10" ∷ poll ∷ []) (codes "G1 X10" ∷ []) one in
    planned (codes "G28") (poll ∷ poll ∷ codes "G1 X10" ∷ poll ∷ []) (codes "G1 X10" ∷ []) two

-- nothing of the plan may be left out, and nothing else may be put in
nothing_left_out : Weave false (codes "G28" ∷ []) (codes "G28" ∷ codes "G1 X10" ∷ []) → ⊥
nothing_left_out w =
    let same : codes "G28" ∷ [] ≡ codes "G28" ∷ codes "G1 X10" ∷ [] = weave_others false (codes "G28" ∷ []) (codes "G28" ∷ codes "G1 X10" ∷ []) w in
    absurd (cc same)

nothing_put_in : Weave false (codes "G28" ∷ codes "G28" ∷ []) (codes "G28" ∷ []) → ⊥
nothing_put_in w =
    let same : codes "G28" ∷ codes "G28" ∷ [] ≡ codes "G28" ∷ [] = weave_others false (codes "G28" ∷ codes "G28" ∷ []) (codes "G28" ∷ []) w in
    absurd (cc same)

-- probes are only if `ok`s have numbers
with_probe : Weave true (codes "G28" ∷ poll ∷ probe ∷ []) (codes "G28" ∷ [])
with_probe =
    let last : Weave true (probe ∷ []) [] = probed [] [] refl empty in
    let polls : Weave true (poll ∷ probe ∷ []) [] = polled (probe ∷ []) [] last in
    planned (codes "G28") (poll ∷ probe ∷ []) [] polls

no_probe : Weave false (probe ∷ []) [] → ⊥
no_probe w =
    let same : probe ∷ [] ≡ [] = weave_others false (probe ∷ []) [] w in
    absurd (cc same)
