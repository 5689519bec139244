-- One print more.
use Rattle.std.proofs.Common.{rules}
use Rattle.keeper_tool.proofs.Prints.{one_more}
use Rattle.keeper_tool.proofs.add.add_from.Goals as goal

pub loop-place-preserved : goal.loop-place-preserved
loop-place-preserved g c = record {
  tables = one_more c.args.first c.loop-place.place (g.K.Keeper.state c.args.keeper.now).tables (g.K.Keeper.state c.loop-place.keeper).tables (g.K.Keeper.state c.add_print.new.keeper).tables
      c.loop-place.invariant.tables c.in_ok-add_print.ensures.ok;
  counted = search rules;
}

pub returns-in_err-add_print-clause-err : goal.returns-in_err-add_print-clause-err
returns-in_err-add_print-clause-err g c = search rules
