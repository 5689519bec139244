use Rattle.std.proofs.Common.{◌≡◌}
use Rattle.std.specs.Option.{option_copied}
use Rattle.marlin_reply.specs.Pieces.{field_at, first_some, piece_starts, starts_left}
use Rattle.marlin_reply.proofs.pieces.find_field.Given as goal

abbrev pub invariant-loop-start : goal.invariant-loop-start
invariant-loop-start l = first_some (field_at l.letter) (piece_starts l.text) ≡ first_some (field_at l.letter) (starts_left (option_copied l.start-iterator.left))
