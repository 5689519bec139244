use Rattle.std.proofs.Common.{rules, ◌≡◌, unsigned_abs, arith, []}
use mir.Syntax.{w128}
use mir.Val.{SFits}
use Rattle.std.proofs.lemmas.Int.{to_z-of_z}
use Rattle.gcode_measure.proofs.DecimalLaws.{micro_text-joined}
use Rattle.gcode_measure.proofs.decimal.write_micro.Goals as goal

pub returns-clause-items : goal.returns-clause-items
returns-clause-items c =
    let fits : SFits w128 c.args.micro = search rules in
    let size : c.unsigned_abs-magnitude.result ≡ unsigned_abs c.args.micro = grind (arith, to_z-of_z, c.unsigned_abs-magnitude.ensures.value) in
    let sign = rw c.requires at (rw (to_z-of_z w128 c.args.micro fits) at c.append_sign.ensures.items) in
    micro_text-joined [] c.append_sign.new.text.items c.append_whole.new.text.items c.append_decimals.new.text.items c.args.micro
    c.unsigned_abs-magnitude.result size sign c.append_whole.ensures.items c.append_decimals.ensures.items
