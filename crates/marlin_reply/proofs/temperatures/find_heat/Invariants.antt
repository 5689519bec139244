use Rattle.std.proofs.Common.{◌≡◌}
use Rattle.std.specs.List.{find}
use Rattle.std.specs.Option.{option_copied}
use Rattle.marlin_reply.specs.Pieces.{begins, piece_starts, starts_left}
use Rattle.marlin_reply.proofs.temperatures.find_heat.Given as goal

abbrev pub invariant-loop-start : goal.invariant-loop-start
invariant-loop-start l = find (λ start. begins start l.mark) (piece_starts l.text) ≡ find (λ start. begins start l.mark) (starts_left (option_copied l.start-iterator.left))
