-- Modes and positions after one more command.
use Rattle.std.proofs.Common.{◌≡◌, ℕ, Bool, true, false, cond, List, [], ◌∷◌, ◌++◌, map, Option, None, Some, is_some, unwrap_or, ℤ, pos, ◌+ℤ◌, refl, sym, ap, ◌∙◌}
use Rattle.std.specs.List.{filter_map, cons_option, after_last}
use Rattle.std.proofs.lemmas.List.{append-nil, map-append}
use Rattle.std.proofs.lemmas.List.Elements.{filter_map-append}
use Rattle.std.proofs.Math.IntN.{+ℤ_assoc, +ℤ_idl, +ℤ_comm}
use Rattle.gcode_measure.specs.declared.kind.Kind.{Kind}
use Rattle.gcode_measure.specs.declared.kind.Kind.TheVariants.{Move, Inches, Home, AllAbsolute, AllRelative, SetPosition, AbsoluteExtruder, RelativeExtruder, Other}
use Rattle.gcode_measure.specs.declared.kind.Mode.TheVariants.{Absolute}
use Rattle.gcode_measure.specs.declared.values.Axis.{Axis}
use Rattle.gcode_measure.specs.declared.values.Axis.TheVariants.{X, Y, Z, E}
use Rattle.gcode_measure.specs.Kind.{kind_of}
use Rattle.gcode_measure.specs.Values.{value_of}
use Rattle.gcode_measure.specs.Position.{Step, steps_of, last_or, mode_by, mode_set, mode_of, is_relative_move, anchor_of, shift_of, total, steps_since_anchor, position_of}
use Rattle.gcode_measure.specs.Head.{head_of, head_then, moved, position_then}
use Rattle.gcode_measure.proofs.StepLaws.{steps_of-push, last_or-push, total-push, after_last-push}

last_or-more : {A : Type 0} (other : A) (items : List A) (more : Option A) → last_or other (items ++ cons_option more []) ≡ unwrap_or more (last_or other items)
last_or-more other items None = ap (last_or other) (append-nil items)
last_or-more other items (Some item) = last_or-push other items item

-- the mode after one more command
pub mode_of-push : (axis : Axis) (texts : List (List ℕ)) (text : List ℕ) →
    mode_of axis (texts ++ text ∷ []) ≡ unwrap_or (mode_set axis text) (mode_of axis texts)
mode_of-push axis texts text =
    ap (last_or Absolute) (filter_map-append (mode_set axis) texts (text ∷ []))
    ∙ last_or-more Absolute (filter_map (mode_set axis) texts) (mode_set axis text)

y_as_x : (kind : Kind) → mode_by Y kind ≡ mode_by X kind
y_as_x Move = refl
y_as_x Inches = refl
y_as_x Home = refl
y_as_x AllAbsolute = refl
y_as_x AllRelative = refl
y_as_x SetPosition = refl
y_as_x AbsoluteExtruder = refl
y_as_x RelativeExtruder = refl
y_as_x Other = refl

z_as_x : (kind : Kind) → mode_by Z kind ≡ mode_by X kind
z_as_x Move = refl
z_as_x Inches = refl
z_as_x Home = refl
z_as_x AllAbsolute = refl
z_as_x AllRelative = refl
z_as_x SetPosition = refl
z_as_x AbsoluteExtruder = refl
z_as_x RelativeExtruder = refl
z_as_x Other = refl

modes_alike : (axis other : Axis) → ((kind : Kind) → mode_by axis kind ≡ mode_by other kind) → (texts : List (List ℕ)) →
    filter_map (mode_set axis) texts ≡ filter_map (mode_set other) texts
modes_alike axis other alike [] = refl
modes_alike axis other alike (text ∷ texts) =
    ap (λ m. cons_option m (filter_map (mode_set axis) texts)) (alike (kind_of text))
    ∙ ap (cons_option (mode_set other text)) (modes_alike axis other alike texts)

-- Y has the mode of X
pub mode_of-Y : (texts : List (List ℕ)) → mode_of Y texts ≡ mode_of X texts
mode_of-Y texts = ap (last_or Absolute) (modes_alike Y X y_as_x texts)

-- Z has the mode of X
pub mode_of-Z : (texts : List (List ℕ)) → mode_of Z texts ≡ mode_of X texts
mode_of-Z texts = ap (last_or Absolute) (modes_alike Z X z_as_x texts)

-- the last anchor and the sum since, over the parts of one more step
moved-by : (adds : Bool) (value : Option ℤ) (anchor : ℤ) (since : List ℤ) →
    unwrap_or (cond adds None value) anchor +ℤ total (cond (is_some (cond adds None value)) []
    (since ++ cond adds (unwrap_or value (pos 0)) (pos 0) ∷ [])) ≡ moved adds value (anchor +ℤ total since)
moved-by true None anchor since = ap (λ t. anchor +ℤ t) (total-push since (pos 0) ∙ +ℤ_comm (total since) (pos 0) ∙ +ℤ_idl (total since))
moved-by true (Some value) anchor since = ap (λ t. anchor +ℤ t) (total-push since value) ∙ sym (+ℤ_assoc anchor (total since) value)
moved-by false None anchor since = ap (λ t. anchor +ℤ t) (total-push since (pos 0) ∙ +ℤ_comm (total since) (pos 0) ∙ +ℤ_idl (total since))
moved-by false (Some value) anchor since = +ℤ_comm value (pos 0) ∙ +ℤ_idl value

map-cond : {A B : Type 0} (f : A → B) (t : Bool) (xs : List A) → map f (cond t [] xs) ≡ cond t [] (map f xs)
map-cond f true xs = refl
map-cond f false xs = refl

-- the position after one more command
pub position_of-push : (axis : Axis) (texts : List (List ℕ)) (text : List ℕ) →
    position_of axis (texts ++ text ∷ []) ≡ position_then axis (mode_of axis texts) text (position_of axis texts)
unfolding position_of
position_of-push axis texts text =
    let steps = steps_of texts in
    let step : Step = record { before = texts; text = text } in
    let since = steps_since_anchor axis texts in
    let anchors : last_or (pos 0) (filter_map (anchor_of axis) (steps ++ step ∷ [])) ≡ unwrap_or (anchor_of axis step)
    (last_or (pos 0) (filter_map (anchor_of axis) steps)) = ap (last_or (pos 0)) (filter_map-append (anchor_of axis) steps (step ∷ []))
    ∙ last_or-more (pos 0) (filter_map (anchor_of axis) steps) (anchor_of axis step) in
    let shifts : map (shift_of axis) (after_last (λ s. is_some (anchor_of axis s)) (steps ++ step ∷ [])) ≡ cond (is_some (anchor_of axis step)) []
    (map (shift_of axis) since ++ shift_of axis step ∷ []) = ap (map (shift_of axis)) (after_last-push (λ s. is_some (anchor_of axis s)) steps step)
    ∙ map-cond (shift_of axis) (is_some (anchor_of axis step)) (since ++ step ∷ [])
    ∙ ap (cond (is_some (anchor_of axis step)) []) (map-append (shift_of axis) since (step ∷ [])) in
    ap (λ all. last_or (pos 0) (filter_map (anchor_of axis) all) +ℤ total (map (shift_of axis) (after_last (λ s. is_some (anchor_of axis s)) all)))
    (steps_of-push texts text)
    ∙ ap (λ a. a +ℤ total (map (shift_of axis) (after_last (λ s. is_some (anchor_of axis s)) (steps ++ step ∷ [])))) anchors
    ∙ ap (λ values. unwrap_or (anchor_of axis step) (last_or (pos 0) (filter_map (anchor_of axis) steps)) +ℤ total values) shifts
    ∙ moved-by (is_relative_move axis step) (value_of axis text) (last_or (pos 0) (filter_map (anchor_of axis) steps)) (map (shift_of axis) since)

-- modes and positions after one more command
pub head_of-push : (texts : List (List ℕ)) (text : List ℕ) → head_of (texts ++ text ∷ []) ≡ head_then (head_of texts) text
head_of-push texts text =
    let axes = mode_of-push X texts text in
    let extruder = mode_of-push E texts text in
    let x = position_of-push X texts text in
    let y : position_of Y (texts ++ text ∷ []) ≡ position_then Y (mode_of X texts) text (position_of Y texts) = position_of-push Y texts text
    ∙ ap (λ m. position_then Y m text (position_of Y texts)) (mode_of-Y texts) in
    let z : position_of Z (texts ++ text ∷ []) ≡ position_then Z (mode_of X texts) text (position_of Z texts) = position_of-push Z texts text
    ∙ ap (λ m. position_then Z m text (position_of Z texts)) (mode_of-Z texts) in
    let e = position_of-push E texts text in
    rw (axes, extruder, x, y, z, e) refl
