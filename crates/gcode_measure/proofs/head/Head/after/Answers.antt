use Rattle.std.proofs.Common.{rules, unwrap_or, ap, ◌∙◌}
use mir.Syntax.{w128}
use mir.Val.{SFits}
use Rattle.std.proofs.lemmas.Int.{to_z-of_z}
use Rattle.gcode_measure.specs.Head.{moved}
use Rattle.gcode_measure.proofs.HeadLaws.{head_after}
use Rattle.gcode_measure.proofs.head.Head.after.Goals as goal

pub returns : goal.returns
returns c =
    let x : SFits w128 c.moved.result = search rules in
    let y : SFits w128 c.moved-2.result = search rules in
    let z : SFits w128 c.moved-3.result = search rules in
    let e : SFits w128 c.moved-4.result = search rules in
    let head = c.args.self.now in
    let from_x : SFits w128 c.args.self.now.x = search rules in
    let from_y : SFits w128 c.args.self.now.y = search rules in
    let from_z : SFits w128 c.args.self.now.z = search rules in
    let from_e : SFits w128 c.args.self.now.e = search rules in
    let to_x = rw (to_z-of_z w128 c.args.self.now.x from_x) at c.moved.ensures in
    let to_y = rw (to_z-of_z w128 c.args.self.now.y from_y) at c.moved-2.ensures in
    let to_z = rw (to_z-of_z w128 c.args.self.now.z from_z) at c.moved-3.ensures in
    let to_e = rw (to_z-of_z w128 c.args.self.now.e from_e) at c.moved-4.ensures in
    let values = c.read_values-values.result in
    rw (to_z-of_z w128 c.moved.result x, to_z-of_z w128 c.moved-2.result y, to_z-of_z w128 c.moved-3.result z, to_z-of_z w128 c.moved-4.result e)
    (head_after head c.args.text.now c.args.kind values c.unwrap_or.result c.unwrap_or-2.result c.moved.result c.moved-2.result c.moved-3.result
    c.moved-4.result
    c.requires.kind c.read_values-values.ensures
    (c.unwrap_or.ensures ∙ ap (λ m. unwrap_or m head.axes) c.mode_set.ensures)
    (c.unwrap_or-2.ensures ∙ ap (λ m. unwrap_or m head.extruder) c.mode_set-2.ensures)
    (to_x ∙ ap (λ t. moved t values.x head.x) c.adds-axes.ensures)
    (to_y ∙ ap (λ t. moved t values.y head.y) c.adds-axes.ensures)
    (to_z ∙ ap (λ t. moved t values.z head.z) c.adds-axes.ensures)
    (to_e ∙ ap (λ t. moved t values.e head.e) c.adds-extruder.ensures))
