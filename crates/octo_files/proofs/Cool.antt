-- Commands whose greatest temperatures are within the limits aren't too hot.
use Rattle.std.proofs.Common.{◌≡◌, ℕ, ◌+◌, ◌*◌, ◌/◌, ◌≤◌, ℤ, pos, negsuc, Bool, true, false, List, [], ◌∷◌, map, fold, max, Some, None, nat_lt, refl, ap, ◌∙◌, arith, if◌then◌else◌}
use Rattle.std.proofs.lemmas.Bool.Decides.{nat_tests}
use Rattle.std.specs.List.{find}
use Rattle.std.specs.Option.{option_map, option_or}
use Rattle.gcode_lines.specs.Job.{Command}
use Rattle.temp_rules.specs.Asked.{asked_of, degrees_up}
use Rattle.temp_rules.specs.Hot.{is_above, too_hot, hot_of, first_hot_of}
use Rattle.temp_rules.specs.Most.{most_degrees, hottest}
use Rattle.temp_rules.specs.declared.heater.Heater.TheVariants.{Tool, Bed}
use Rattle.temp_rules.specs.declared.limits.Limits.{Limits}
use Rattle.temp_rules.specs.declared.limits.TooHot.{TooHot}
use Rattle.temp_rules.proofs.Commands.{hot_at}
use Rattle.gcode_measure.proofs.RestLaws.{texts_in}

-- a value that isn't above the limit in whole degrees isn't above it
cool_value : (limit : ℕ) (micro : ℤ) → degrees_up micro ≤ limit → is_above limit micro ≡ false
cool_value limit (pos micro) within =
    let below : micro ≤ limit * 1000000 = omega (arith, within) in
    grind (arith, nat_tests)
cool_value limit (negsuc micro) within = refl

-- the greatest of numbers from one on
greatest_from : (first : ℕ) (numbers : List ℕ) → fold max first numbers ≡ max first (fold max 0 numbers)
greatest_from first [] = omega arith
greatest_from first (number ∷ numbers) =
    let here : fold max (max first number) numbers ≡ max (max first number) (fold max 0 numbers) = greatest_from (max first number) numbers in
    let there : fold max (max 0 number) numbers ≡ max (max 0 number) (fold max 0 numbers) = greatest_from (max 0 number) numbers in
    omega (arith, here, there)

abbrev too_hot_at : ℕ → ℤ → TooHot
too_hot_at limit micro = record { asked = degrees_up micro; limit = limit }

cool_values : (limit : ℕ) (values : List ℤ) → most_degrees values ≤ limit → too_hot limit values ≡ None
cool_values limit [] within = refl
cool_values limit (micro ∷ values) within =
    let greatest : most_degrees (micro ∷ values) ≡ max (max 0 (degrees_up micro)) (most_degrees values) = greatest_from (max 0 (degrees_up micro)) (map degrees_up values) in
    let here : degrees_up micro ≤ limit = omega (arith, greatest, within) in
    let others : most_degrees values ≤ limit = omega (arith, greatest, within) in
    ap (λ (b : Bool). option_map (too_hot_at limit) (if b then Some micro else find (is_above limit) values)) (cool_value limit micro here) ∙ cool_values limit values others

cool_text : (limits : Limits) (text : List ℕ) → most_degrees (asked_of Tool text) ≤ limits.tool → most_degrees (asked_of Bed text) ≤ limits.bed → hot_of limits text ≡ None
unfolding hot_of
cool_text limits text tool bed =
    ap (λ found. option_or found (too_hot limits.bed (asked_of Bed text))) (cool_values limits.tool (asked_of Tool text) tool)
    ∙ cool_values limits.bed (asked_of Bed text) bed

-- no command is too hot
pub cool_commands : (limits : Limits) (commands : List Command) → hottest Tool (texts_in commands) ≤ limits.tool → hottest Bed (texts_in commands) ≤ limits.bed → first_hot_of limits commands ≡ None
cool_commands limits [] tool bed = refl
cool_commands limits (command ∷ commands) tool bed =
    let tool_here : most_degrees (asked_of Tool command.text) ≤ limits.tool = omega (arith, tool) in
    let bed_here : most_degrees (asked_of Bed command.text) ≤ limits.bed = omega (arith, bed) in
    let tool_others : hottest Tool (texts_in commands) ≤ limits.tool = omega (arith, tool) in
    let bed_others : hottest Bed (texts_in commands) ≤ limits.bed = omega (arith, bed) in
    ap (λ hot. option_or (hot_at command.line hot) (first_hot_of limits commands)) (cool_text limits command.text tool_here bed_here)
    ∙ cool_commands limits commands tool_others bed_others
