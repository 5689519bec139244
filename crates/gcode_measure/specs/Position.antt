-- The mode and the position of an axis after commands.
use Rattle.std.specs.Prelude.{ℕ, ℤ, pos, ◌+ℤ◌, Bool, true, false, ◌&&◌, if◌then◌else◌, List, [], ◌∷◌, ◌++◌, map, filter_map, Option, None, Some, is_some, unwrap_or}
use Rattle.std.specs.List.{after_last}
use Rattle.gcode_measure.specs.declared.kind.Kind.{Kind}
use Rattle.gcode_measure.specs.declared.kind.Kind.TheVariants.{Move, AllAbsolute, AllRelative, AbsoluteExtruder, RelativeExtruder}
use Rattle.gcode_measure.specs.declared.kind.Mode.{Mode}
use Rattle.gcode_measure.specs.declared.kind.Mode.TheVariants.{Absolute, Relative}
use Rattle.gcode_measure.specs.declared.values.Axis.{Axis}
use Rattle.gcode_measure.specs.declared.values.Axis.TheVariants.{E}
use Rattle.gcode_measure.specs.Kind.{kind_of}
use Rattle.gcode_measure.specs.Values.{value_of}

-- a command with those before it
pub record Step : Type 0 where
  pub before : List (List ℕ)
  pub text : List ℕ

-- commands that come after others, each with all before it
abbrev pub steps_from : List (List ℕ) → List (List ℕ) → List Step
steps_from before [] = []
steps_from before (text ∷ texts) = record { before = before; text = text } ∷ steps_from (before ++ text ∷ []) texts

-- commands, each with those before it
abbrev pub steps_of : List (List ℕ) → List Step
steps_of texts = steps_from [] texts

-- the last of a list, or a default for an empty one
abbrev pub last_or : {A : Type 0} → A → List A → A
last_or other [] = other
last_or other (item ∷ items) = last_or item items

-- the mode of an axis that a kind of command sets
abbrev pub mode_by : Axis → Kind → Option Mode
mode_by axis AllAbsolute = Some Absolute
mode_by axis AllRelative = Some Relative
mode_by E AbsoluteExtruder = Some Absolute
mode_by E RelativeExtruder = Some Relative
mode_by axis kind = None

-- the mode of an axis that a command sets
abbrev pub mode_set : Axis → List ℕ → Option Mode
mode_set axis text = mode_by axis (kind_of text)

-- the mode of an axis after commands: what the last that sets it says, absolute if none does
abbrev pub mode_of : Axis → List (List ℕ) → Mode
mode_of axis texts = last_or Absolute (filter_map (mode_set axis) texts)

-- whether a kind of command is a move
abbrev pub is_move_kind : Kind → Bool
is_move_kind Move = true
is_move_kind kind = false

-- whether a command is a move
abbrev pub is_move : List ℕ → Bool
is_move text = is_move_kind (kind_of text)

-- whether a mode is relative
abbrev pub is_relative : Mode → Bool
is_relative Absolute = false
is_relative Relative = true

-- whether a step is a move in an axis's relative mode
abbrev pub is_relative_move : Axis → Step → Bool
is_relative_move axis step = is_move step.text && is_relative (mode_of axis step.before)

-- where a step puts an axis whatever its position was: `G92`, `G28`, or a move in absolute mode, if it names the axis
abbrev pub anchor_of : Axis → Step → Option ℤ
anchor_of axis step = if is_relative_move axis step then None else value_of axis step.text

-- how far a step moves an axis from where it is: a move in relative mode by its value
abbrev pub shift_of : Axis → Step → ℤ
shift_of axis step = if is_relative_move axis step then unwrap_or (value_of axis step.text) (pos 0) else pos 0

-- the sum of numbers
abbrev pub total : List ℤ → ℤ
total [] = pos 0
total (value ∷ values) = value +ℤ total values

-- the steps after the last one that anchors an axis, all if none does
abbrev pub steps_since_anchor : Axis → List (List ℕ) → List Step
steps_since_anchor axis texts = after_last (λ step. is_some (anchor_of axis step)) (steps_of texts)

-- the position of an axis after commands: the last anchor, 0 without one, and the relative moves since
unfoldable pub position_of : Axis → List (List ℕ) → ℤ
position_of axis texts =
    last_or (pos 0) (filter_map (anchor_of axis) (steps_of texts)) +ℤ total (map (shift_of axis) (steps_since_anchor axis texts))
