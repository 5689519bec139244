-- The first prints are settled, and no call has failed.
use Rattle.std.proofs.Common.{◌≡◌, option_map}
use Rattle.octo_keeper.specs.Settled.{settled_to}
use Rattle.octo_keeper.proofs.settling.settle_prints.Given as goal

abbrev pub invariant-loop-row : goal.invariant-loop-row
invariant-loop-row g l =
    ((g.K.Keeper.state l.keeper).tables ≡ option_map (settled_to l.row-index) (g.K.Keeper.state l.fn.keeper).tables)
    × ((g.K.Keeper.state l.keeper).faults ≡ (g.K.Keeper.state l.fn.keeper).faults)
