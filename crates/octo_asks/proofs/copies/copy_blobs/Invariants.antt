use Rattle.std.proofs.Common.{◌≡◌, take}
use Rattle.octo_asks.proofs.copies.copy_blobs.Given as goal

-- the texts so far
abbrev pub invariant-loop-blob : goal.invariant-loop-blob
invariant-loop-blob l = l.list ≡ take l.blob-index l.blobs
