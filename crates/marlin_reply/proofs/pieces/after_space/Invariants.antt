use Rattle.std.proofs.Common.{◌≡◌, drop}
use Rattle.marlin_reply.specs.Pieces.{starts_after}
use Rattle.marlin_reply.proofs.pieces.after_space.Given as goal

abbrev pub invariant-loop-place : goal.invariant-loop-place
invariant-loop-place l = starts_after l.text ≡ starts_after (drop l.place l.text)
