-- A head and a measure after one more command, put together from their parts.
use Rattle.std.proofs.Common.{◌≡◌, ℕ, ◌+◌, ◌*◌, ◌&&◌, List, Some, unwrap_or, ℤ, pos, ◌+ℤ◌, ◌≤ℤ◌, refl, arith}
use Rattle.std.specs.Int.{int_gap}
use Rattle.std.proofs.lemmas.Int.{ints}
use Rattle.gcode_words.specs.Words.{words_of}
use Rattle.gcode_measure.specs.declared.head.Head.{Head}
use Rattle.gcode_measure.specs.declared.kind.Kind.{Kind}
use Rattle.gcode_measure.specs.declared.kind.Mode.{Mode}
use Rattle.gcode_measure.specs.declared.totals.Extent.{Extent}
use Rattle.gcode_measure.specs.declared.totals.Measure.{Measure}
use Rattle.gcode_measure.specs.declared.values.Axis.TheVariants.{X, E}
use Rattle.gcode_measure.specs.declared.values.Values.{Values}
use Rattle.gcode_measure.specs.Head.{moved, head_then}
use Rattle.gcode_measure.specs.Kind.{kind_of}
use Rattle.gcode_measure.specs.Pass.{widened, with_move}
use Rattle.gcode_measure.specs.Position.{mode_by, is_move_kind, is_relative}
use Rattle.gcode_measure.specs.Values.{value_of, values_by}

-- modes and positions after a command, by its kind and values
pub head_after : (head : Head) (text : List ℕ) (kind : Kind) (values : Values) (axes extruder : Mode) (x y z e : ℤ) → kind ≡ kind_of text →
    values ≡ values_by kind (words_of text) → axes ≡ unwrap_or (mode_by X kind) head.axes → extruder ≡ unwrap_or (mode_by E kind) head.extruder →
    x ≡ moved (is_move_kind kind && is_relative head.axes) values.x head.x → y ≡ moved (is_move_kind kind && is_relative head.axes) values.y head.y →
    z ≡ moved (is_move_kind kind && is_relative head.axes) values.z head.z → e ≡ moved (is_move_kind kind && is_relative head.extruder) values.e head.e →
    record { axes = axes; extruder = extruder; x = x; y = y; z = z; e = e } ≡ head_then head text
unfolding value_of
head_after head text kind values axes extruder x y z e k v a m ex ey ez ee = rw (a, m, ex, ey, ez, ee, v, k) refl

-- a measure with one more move, by its sums and extents
pub measure_after : (measure : Measure) (from next : Head) (fed drawn : ℤ) (x y z : Extent) → fed ≡ measure.fed +ℤ pos (int_gap from.e next.e) →
    drawn ≡ measure.drawn +ℤ pos (int_gap next.e from.e) → x ≡ widened measure.x next.x → y ≡ widened measure.y next.y → z ≡ widened measure.z next.z →
    record { commands = measure.commands + 1; moves = measure.moves + 1; fed = fed; drawn = drawn; x = Some x; y = Some y; z = Some z } ≡ with_move measure from
    next
measure_after measure from next fed drawn x y z f d ex ey ez = rw (f, d, ex, ey, ez) refl

-- one more gap keeps a sum in its bound
pub sum_bound : (moves : ℕ) (sum next : ℤ) → sum ≤ℤ pos (moves * 2000000000000) → next ≤ℤ (sum +ℤ pos 2000000000000) → next ≤ℤ pos ((moves + 1) * 2000000000000)
sum_bound moves sum next high most = omega (arith, ints)
