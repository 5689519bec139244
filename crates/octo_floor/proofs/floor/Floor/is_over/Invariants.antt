use Rattle.std.proofs.Common.{◌≡◌, ◌<◌, ℕ, List, Some}
use Rattle.std.specs.Prelude.{slice_get}
use Rattle.octo_floor_bay.specs.Bay.{BayData}
use Rattle.octo_floor.specs.Leaving.{IsIdle}
use Rattle.octo_floor.proofs.floor.Floor.is_over.Given as goal

-- the printers so far are idle
abbrev pub invariant-loop-printer : goal.invariant-loop-printer
invariant-loop-printer l = (printer : ℕ) (b : BayData) (material : List ℕ) → printer < l.printer → slice_get l.self.bays printer ≡ Some b
    → slice_get l.self.materials printer ≡ Some material → IsIdle l.self.ledger material b
