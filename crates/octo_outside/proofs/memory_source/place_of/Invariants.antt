use Rattle.std.proofs.Common.{◌≡◌, drop}
use Rattle.octo_outside.specs.Memory.{bytes_named}
use Rattle.octo_outside.proofs.memory_source.place_of.Given as goal

abbrev pub invariant-loop-place : goal.invariant-loop-place
invariant-loop-place l = bytes_named l.files l.name ≡ bytes_named (drop l.place l.files) l.name
