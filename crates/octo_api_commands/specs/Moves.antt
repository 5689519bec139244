-- What bodies ask to move by hand, as lines.
use Rattle.std.specs.Prelude.{ℕ, ◌/◌, Bool, false, ◌&&◌, List, [], ◌∷◌, ◌++◌, codes, decimal, if◌then◌else◌, Option, Some, None, option_map, option_and_then, is_some, is_none}
use Rattle.std.specs.Option.{option_or}
use Rattle.std.specs.Str.{bytes_eq}
use Rattle.serde_json.specs.Data.{Data, Items, no_items, item}
use Rattle.serde_json.specs.Find.{get, as_str, as_number, as_u64, to_float}
use Rattle.byte_text.specs.Number.{in_range}
use Rattle.octo_api_commands.specs.declared.decimals.Decimal.{Decimal}
use Rattle.octo_api_commands.specs.declared.moves.Jog.{Jog}
use Rattle.octo_api_commands.specs.Decimals.{thousandths_of, as_decimal, decimal_text}
use Rattle.octo_api_commands.specs.Lists.{items_in}
use Rattle.octo_api_commands.specs.Members.{or_default, optional, is_text_at, whole_at, flag_at}

-- how far an axis is to move, if the body names the axis
abbrev pub axis_at : List ℕ → Data → Option (Option Decimal)
axis_at key body = optional as_decimal (get key body)

-- the speed of a move whose body names none, in millimetres a minute
abbrev pub usual_speed : Option Decimal → ℕ
usual_speed z = if is_some z then 200 else 6000

-- a move from its parts; it moves at least one axis
abbrev pub jog_from : Option Decimal → Option Decimal → Option Decimal → Bool → ℕ → Option Jog
jog_from x y z absolute speed =
    if is_none x && is_none y && is_none z then None
    else Some (record { x = x; y = y; z = z; absolute = absolute; speed = speed })

-- what a body asks of the axes
abbrev pub jog_in : Data → Option Jog
jog_in body =
    option_and_then (λ x.
    option_and_then (λ y.
    option_and_then (λ z.
    option_and_then (λ absolute.
    option_and_then (jog_from x y z absolute)
    (whole_at (codes "speed") 1 65535 (Some (usual_speed z)) body))
    (flag_at (codes "absolute") false body))
    (axis_at (codes "z") body))
    (axis_at (codes "y") body))
    (axis_at (codes "x") body)

-- an axis of a line, after a space, if it is to move
abbrev pub axis_text : List ℕ → Option Decimal → List ℕ
axis_text letter None = []
axis_text letter (Some number) = letter ++ decimal_text number

-- the line of a move
abbrev pub jog_line : Jog → List ℕ
jog_line jog =
    codes "G1" ++ axis_text (codes " X") jog.x ++ axis_text (codes " Y") jog.y ++ axis_text (codes " Z") jog.z
    ++ codes " F" ++ decimal jog.speed

-- a line after which positions are relative, and absolute again
abbrev pub relative : List ℕ → List (List ℕ)
relative line = codes "G91" ∷ line ∷ codes "G90" ∷ []

-- the lines of a move: by so far, or to there
abbrev pub jog_texts : Jog → List (List ℕ)
jog_texts jog = if jog.absolute then codes "G90" ∷ jog_line jog ∷ [] else relative (jog_line jog)

-- a move by hand
abbrev pub jog_lines : Data → Option (List (List ℕ))
jog_lines body = option_map jog_texts (jog_in body)

-- an axis as it stands in a line, after a space
abbrev pub axis_word : List ℕ → Option (List ℕ)
axis_word name =
    if bytes_eq name (codes "x") then Some (codes " X")
    else if bytes_eq name (codes "y") then Some (codes " Y")
    else if bytes_eq name (codes "z") then Some (codes " Z")
    else None

-- the axes of a list
abbrev pub axes_text : Items → Option (List ℕ)
axes_text no_items = Some []
axes_text (item found rest) =
    option_and_then (λ first. option_map (λ others. first ++ others) (axes_text rest)) (option_and_then axis_word (as_str found))

-- 1 to 3 axes
abbrev pub as_axes : Data → Option (List ℕ)
as_axes found = option_and_then axes_text (items_in 1 3 found)

-- homing of the axes
abbrev pub home_lines : Data → Option (List (List ℕ))
home_lines body = option_map (λ axes. (codes "G28" ++ axes) ∷ []) (option_and_then as_axes (get (codes "axes") body))

-- a percentage: a whole number, or a part of 1 with a point
abbrev pub as_percent : Data → Option ℕ
as_percent found =
    option_or (option_and_then as_u64 (as_number found))
    (option_map (λ n. n / 10) (option_and_then thousandths_of (option_map to_float (as_number found))))

-- a percentage in a range
abbrev pub factor_at : ℕ → ℕ → Data → Option ℕ
factor_at least most body =
    option_and_then (λ found. option_and_then (in_range least most) (as_percent found)) (get (codes "factor") body)

-- a line of a percentage
abbrev pub factor_texts : List ℕ → ℕ → List (List ℕ)
factor_texts code percent = (code ++ decimal percent) ∷ []

-- the speed of all moves, 50 to 200 percent
abbrev pub feedrate_lines : Data → Option (List (List ℕ))
feedrate_lines body = option_map (factor_texts (codes "M220 S")) (factor_at 50 200 body)

-- the flow of the tool, 75 to 125 percent
abbrev pub flowrate_lines : Data → Option (List (List ℕ))
flowrate_lines body = option_map (factor_texts (codes "M221 S")) (factor_at 75 125 body)

-- the amount that is to be extruded
abbrev pub amount_at : Data → Option Decimal
amount_at body = option_and_then as_decimal (get (codes "amount") body)

-- the lines of an extrusion
abbrev pub extrude_texts : Decimal → ℕ → List (List ℕ)
extrude_texts amount speed = relative (codes "G1 E" ++ decimal_text amount ++ codes " F" ++ decimal speed)

-- an extrusion
abbrev pub extrude_lines : Data → Option (List (List ℕ))
extrude_lines body =
    option_and_then (λ amount. option_map (extrude_texts amount) (whole_at (codes "speed") 1 65535 (Some 300) body)) (amount_at body)

-- the selection of the one tool
abbrev pub select_lines : Data → Option (List (List ℕ))
select_lines body = if is_text_at (codes "tool") (codes "tool0") body then Some (codes "T0" ∷ []) else None
