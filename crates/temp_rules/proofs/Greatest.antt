-- The greatest values of texts that are seen in turn.
use Rattle.std.proofs.Common.{◌≡◌, ℕ, List, [], ◌∷◌, fold, max, ap, ◌∙◌, arith}
use Rattle.temp_rules.specs.Asked.{asked_of}
use Rattle.temp_rules.specs.Most.{TargetsData, most_degrees, hottest, no_targets, with_text}
use Rattle.temp_rules.specs.declared.heater.Heater.TheVariants.{Tool, Bed}

seen-from : (texts : List (List ℕ)) (tool bed : ℕ) → fold with_text (record { tool = tool; bed = bed }) texts ≡ record { tool = max tool (hottest Tool texts); bed = max bed (hottest Bed texts) }
seen-from [] tool bed =
    let t : tool ≡ max tool 0 = omega arith in
    let b : bed ≡ max bed 0 = omega arith in
    ap (λ n. let made : TargetsData = record { tool = n; bed = bed } in made) t ∙ ap (λ n. let made : TargetsData = record { tool = max tool 0; bed = n } in made) b
seen-from (text ∷ texts) tool bed =
    let t_here : ℕ = most_degrees (asked_of Tool text) in
    let b_here : ℕ = most_degrees (asked_of Bed text) in
    let t : max (max tool t_here) (hottest Tool texts) ≡ max tool (max t_here (hottest Tool texts)) = omega arith in
    let b : max (max bed b_here) (hottest Bed texts) ≡ max bed (max b_here (hottest Bed texts)) = omega arith in
    seen-from texts (max tool t_here) (max bed b_here)
    ∙ ap (λ n. let made : TargetsData = record { tool = n; bed = max (max bed b_here) (hottest Bed texts) } in made) t
    ∙ ap (λ n. let made : TargetsData = record { tool = max tool (max t_here (hottest Tool texts)); bed = n } in made) b

pub seen-all : (texts : List (List ℕ)) → fold with_text no_targets texts ≡ record { tool = hottest Tool texts; bed = hottest Bed texts }
seen-all texts =
    let t : max 0 (hottest Tool texts) ≡ hottest Tool texts = omega arith in
    let b : max 0 (hottest Bed texts) ≡ hottest Bed texts = omega arith in
    seen-from texts 0 0
    ∙ ap (λ n. let made : TargetsData = record { tool = n; bed = max 0 (hottest Bed texts) } in made) t
    ∙ ap (λ n. let made : TargetsData = record { tool = hottest Tool texts; bed = n } in made) b
