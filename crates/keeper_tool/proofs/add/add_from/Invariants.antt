use Rattle.std.proofs.Common.{◌≡◌}
use Rattle.std.specs.Option.{option_map}
use Rattle.keeper_tool.specs.Prints.{with_prints}
use Rattle.keeper_tool.proofs.add.add_from.Given as goal

-- the prints so far were added
abbrev pub invariant-loop-place : goal.invariant-loop-place
invariant-loop-place g l = record {
  tables : (g.K.Keeper.state l.keeper).tables ≡ option_map (with_prints l.first l.place) (g.K.Keeper.state l.fn.keeper).tables;
  counted : (g.K.Keeper.state l.keeper).faults ≡ (g.K.Keeper.state l.fn.keeper).faults;
}
