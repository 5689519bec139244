-- The first command that asks a heater for more than its limit.
use Rattle.std.specs.Prelude.{All, ◌≤ℤ◌, ℕ, ◌*◌, ℤ, pos, int_lt, Bool, List, [], ◌∷◌, Option, None}
use Rattle.std.specs.List.{find}
use Rattle.std.specs.Option.{option_map, option_or}
use Rattle.gcode_lines.specs.Job.{Command}
use Rattle.temp_rules.specs.Asked.{asked_of, degrees_up}
use Rattle.temp_rules.specs.declared.heater.Heater.TheVariants.{Tool, Bed}
use Rattle.temp_rules.specs.declared.limits.Limits.{Limits}
use Rattle.temp_rules.specs.declared.limits.TooHot.{TooHot}
use Rattle.temp_rules.specs.declared.job.HotLine.{HotLine}

-- whether a value is above a limit in whole degrees
abbrev pub is_above : ℕ → ℤ → Bool
is_above limit micro = int_lt (pos (limit * 1000000)) micro

-- no value is above the limit
abbrev pub AllWithin : ℕ → List ℤ → Type 0
AllWithin limit values = All (λ micro. micro ≤ℤ pos (limit * 1000000)) values

-- the first of the values that is above the limit
abbrev pub too_hot : ℕ → List ℤ → Option TooHot
too_hot limit values = option_map (λ micro. record { asked = degrees_up micro; limit = limit }) (find (is_above limit) values)

-- the first value of a text above its heater's limit
unfoldable pub hot_of : Limits → List ℕ → Option TooHot
hot_of limits text = option_or (too_hot limits.tool (asked_of Tool text)) (too_hot limits.bed (asked_of Bed text))

-- a command that is too hot, with its line
abbrev pub hot_line : Limits → Command → Option HotLine
hot_line limits command = option_map (λ hot. record { line = command.line; asked = hot.asked; limit = hot.limit }) (hot_of limits command.text)

-- the first of the commands that is too hot
abbrev pub first_hot_of : Limits → List Command → Option HotLine
first_hot_of limits [] = None
first_hot_of limits (command ∷ commands) = option_or (hot_line limits command) (first_hot_of limits commands)
