use Rattle.std.proofs.Common.{◌≡◌, ◌∙◌, true, false}
use Rattle.std.specs.Str.{bytes_eq}
use Rattle.octo_outside.proofs.Held.{held_here, held_next}
use Rattle.octo_outside.proofs.memory_source.place_of.Goals as goal

pub returns-then-eq : goal.returns-then-eq
returns-then-eq c =
    let file = c.index-files-place.result in
    let found : bytes_eq file.name c.args.name.now ≡ true = cc (c.if-eq.ensures, c.as_slice.ensures, c.as_bytes.ensures.value) in
    c.loop-place.invariant ∙ held_here c.args.files.now c.loop-place.place file c.args.name.now c.loop-place-test.true c.index-files-place.is found

pub loop-place-preserved : goal.loop-place-preserved
loop-place-preserved c =
    let file = c.index-files-place.result in
    let other : bytes_eq file.name c.args.name.now ≡ false = cc (c.if-eq.ensures, c.as_slice.ensures, c.as_bytes.ensures.value) in
    c.loop-place.invariant ∙ held_next c.args.files.now c.loop-place.place file c.args.name.now c.loop-place-test.true c.index-files-place.is other
