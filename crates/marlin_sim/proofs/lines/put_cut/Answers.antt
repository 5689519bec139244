use Rattle.std.proofs.Common.{◌≡◌, ◌++◌, take, min, length, ap, ◌∙◌, arith}
use Rattle.std.specs.Prelude.{◌-◌}
use Rattle.marlin_sim.proofs.Coming.{cut-room}
use Rattle.marlin_sim.proofs.lines.put_cut.Goals as goal

pub returns : goal.returns
returns c =
    let line = c.args.line.now.items in
    let bytes = c.args.bytes.now in
    let most : c.min.result ≡ min (95 - length line) (length bytes) = cc (c.min.ensures, c.len-room.ensures.value) in
    c.append.ensures.items ∙ ap (λ n. line ++ take n bytes) most ∙ cut-room line bytes (omega (arith, c.len-room.ensures.fits))
