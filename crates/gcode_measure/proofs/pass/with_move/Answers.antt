use Rattle.std.proofs.Common.{rules, arith}
use mir.Syntax.{w128}
use mir.Val.{SFits}
use Rattle.std.proofs.lemmas.Int.{to_z-of_z}
use Rattle.gcode_measure.proofs.HeadLaws.{measure_after, sum_bound}
use Rattle.gcode_measure.proofs.pass.with_move.Goals as goal

pub returns-clause-value : goal.returns-clause-value
returns-clause-value c =
    let f : SFits w128 c.with_gap.result = search rules in
    let g : SFits w128 c.with_gap-2.result = search rules in
    let fed : SFits w128 c.args.measure.now.fed = search rules in
    let drawn : SFits w128 c.args.measure.now.drawn = search rules in
    let start : SFits w128 c.args.from.now.e = search rules in
    let end : SFits w128 c.args.next.now.e = search rules in
    let x : SFits w128 c.args.next.now.x = search rules in
    let y : SFits w128 c.args.next.now.y = search rules in
    let z : SFits w128 c.args.next.now.z = search rules in
    rw (to_z-of_z w128 c.with_gap.result f, to_z-of_z w128 c.with_gap-2.result g)
    (measure_after c.args.measure.now c.args.from.now c.args.next.now c.with_gap.result c.with_gap-2.result c.widened.result c.widened-2.result c.widened-3.result
    (simp to_z-of_z at c.with_gap.ensures.value) (simp to_z-of_z at c.with_gap-2.ensures.value)
    (rw (to_z-of_z w128 c.args.next.now.x x) at c.widened.ensures) (rw (to_z-of_z w128 c.args.next.now.y y) at c.widened-2.ensures)
    (rw (to_z-of_z w128 c.args.next.now.z z) at c.widened-3.ensures))

pub returns-clause-bounded : goal.returns-clause-bounded
returns-clause-bounded c =
    let f : SFits w128 c.with_gap.result = search rules in
    let g : SFits w128 c.with_gap-2.result = search rules in
    let fed : SFits w128 c.args.measure.now.fed = search rules in
    let drawn : SFits w128 c.args.measure.now.drawn = search rules in
    let bounded = c.requires.bounded in
    rw (to_z-of_z w128 c.with_gap.result f, to_z-of_z w128 c.with_gap-2.result g)
    record {
      moves = omega arith;
      commands = omega arith;
      fed_low = c.with_gap.ensures.low;
      fed_high = sum_bound c.args.measure.now.moves _ _ bounded.fed_high (rw (to_z-of_z w128 c.args.measure.now.fed fed) at c.with_gap.ensures.high);
      drawn_low = c.with_gap-2.ensures.low;
      drawn_high = sum_bound c.args.measure.now.moves _ _ bounded.drawn_high (rw (to_z-of_z w128 c.args.measure.now.drawn drawn) at c.with_gap-2.ensures.high);
    }
