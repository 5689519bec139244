use Rattle.std.proofs.Common.{◌≡◌, ℕ, List, take, length, ap, ◌∙◌, arith}
use Rattle.std.specs.Prelude.{fold}
use Rattle.std.proofs.lemmas.List.{take_all, length-map}
use Rattle.gcode_lines.specs.Job.{Command, texts_of}
use Rattle.temp_rules.specs.Most.{no_targets, with_text}
use Rattle.temp_rules.proofs.Greatest.{seen-all}
use Rattle.octo_files.proofs.checking.targets_of.Goals as goal

pub returns : goal.returns
returns c =
    let texts = texts_of c.args.job.now in
    let whole : take c.loop-i.i texts ≡ texts =
    take_all c.loop-i.i texts (omega (arith, c.loop-i-test.false, c.count-i-end.ensures.value, length-map {A = Command} {B = List ℕ})) in
    c.loop-i.invariant ∙ ap (fold with_text no_targets) whole ∙ seen-all texts
