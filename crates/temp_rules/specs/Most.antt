-- The greatest temperatures that commands ask of the heaters.
use Rattle.std.specs.Prelude.{ℕ, ℤ, max, List, [], ◌∷◌, fold, map}
use Rattle.temp_rules.specs.Asked.{asked_of, degrees_up}
use Rattle.temp_rules.specs.declared.heater.Heater.{Heater}
use Rattle.temp_rules.specs.declared.heater.Heater.TheVariants.{Tool, Bed}

-- the greatest values asked so far, in whole degrees, rounded up, 0 if none is above 0
pub record TargetsData : Type 0 where
  pub tool : ℕ
  pub bed : ℕ

-- the greatest of values, rounded up
abbrev pub most_degrees : List ℤ → ℕ
most_degrees values = fold max 0 (map degrees_up values)

-- the greatest value that texts ask of a heater
abbrev pub hottest : Heater → List (List ℕ) → ℕ
hottest heater [] = 0
hottest heater (text ∷ texts) = max (most_degrees (asked_of heater text)) (hottest heater texts)

-- no text was seen yet
abbrev pub no_targets : TargetsData
no_targets = record { tool = 0; bed = 0 }

-- after one more text
abbrev pub with_text : TargetsData → List ℕ → TargetsData
with_text targets text =
    record { tool = max targets.tool (most_degrees (asked_of Tool text)); bed = max targets.bed (most_degrees (asked_of Bed text)) }
