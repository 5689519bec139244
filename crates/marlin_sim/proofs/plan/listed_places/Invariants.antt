use Rattle.std.proofs.Common.{◌≡◌, ◌++◌, drop, map}
use Rattle.std.specs.Prelude.{option_map, List, ℕ}
use Rattle.marlin_sim.specs.Plan.{places_above}
use Rattle.marlin_sim.proofs.plan.listed_places.Given as goal

abbrev pub invariant-loop-piece : goal.invariant-loop-piece
invariant-loop-piece l = places_above 0 (map (λ p. p.now) l.pieces) ≡ option_map (λ (more : List ℕ). l.places ++ more) (places_above l.least (map (λ p. p.now) (drop l.piece-index l.pieces)))
