use Rattle.std.proofs.Common.{option_map, ap, ◌∙◌, refl, rules}
use Rattle.octo_keeper.specs.Tables.{changed}
use Rattle.octo_keeper.specs.declared.tables.Change.TheVariants as change
use Rattle.print_queue.specs.Rows.{without}
use Rattle.octo_house_tables.proofs.QueueEntries.{dropped-rows}
use Rattle.octo_house_tables.proofs.Keeping.{keeps-same, keeps-changed, kept-drop, queue-over}
use Rattle.octo_house_tables.proofs.tables.HostTables.drop_entry.Goals as goal

pub returns-in-Err-clause-rest : goal.returns-in-Err-clause-rest
returns-in-Err-clause-rest g c = record {
  kept = keeps-same _ _ _ _ c.in-Err.ensures.err refl;
  prints = search rules;
  written = search rules;
  keeper = search rules;
  shelf = search rules;
}

pub returns-clause-rest : goal.returns-clause-rest
returns-clause-rest g c = record {
  kept = keeps-changed (change.DropEntry c.args.user.now c.args.name.now) _ _ _ _
      (c.in_default.ensures.ok
      ∙ ap (λ user. option_map (changed (change.DropEntry user c.copy-2.result)) (g.K.Keeper.state c.args.keeper.now).tables) c.copy.ensures
      ∙ ap (λ name. option_map (changed (change.DropEntry c.args.user.now name)) (g.K.Keeper.state c.args.keeper.now).tables) c.copy-2.ensures)
      (kept-drop c.args.user.now c.args.name.now _ _ (queue-over _ _ c.remove.new.self.rows (without c.args.user.now c.args.name.now) c.self.view_is
      (dropped-rows c.args.user.now c.args.name.now c.self.inside.queue c.remove.new.self c.remove.result c.remove.ensures.answer c.remove.ensures.rows
      c.remove.ensures.err)));
  prints = search rules;
  written = search rules;
  keeper = search rules;
  shelf = search rules;
}
