use Rattle.std.proofs.Common.{option_map, sym, ap, ◌∙◌, refl, subst, rules}
use Rattle.octo_access.specs.Changes.{change_refusal}
use Rattle.octo_access.specs.Rows.{replaced, IsUserTable}
use Rattle.octo_keeper.specs.Tables.{changed}
use Rattle.octo_keeper.specs.declared.tables.Change.TheVariants as change
use Rattle.octo_house_tables.specs.Data.{TablesData}
use Rattle.octo_house_tables.proofs.Faults.{set-undone}
use Rattle.octo_house_tables.proofs.Keeping.{keeps-same, keeps-changed, kept-set, users-same, users-over}
use Rattle.octo_house_tables.proofs.Replaced.{held-after, key-after, back-after}
use Rattle.octo_house_tables.proofs.tables.HostTables.set_user_row.Goals as goal

pub returns-in-Err-clause-rest : goal.returns-in-Err-clause-rest
returns-in-Err-clause-rest g c = record {
  kept = keeps-same _ _ _ _ refl (users-same _ _ c.change.new.self c.self.view_is c.in-Err.ensures.rows);
  prints = search rules;
  written = search rules;
  keeper = search rules;
  shelf = search rules;
}

pub restore-requires-clause-held : goal.restore-requires-clause-held
restore-requires-clause-held g c = held-after c.args.row.now c.in-Ok.former c.self.inside.users c.change.new.self c.in-Ok.ensures.rows c.in-Ok.ensures.exact.1

pub restore-requires-clause-key : goal.restore-requires-clause-key
restore-requires-clause-key g c =
    key-after c.args.row.now c.in-Ok.former c.self.inside.users c.change.new.self c.in-Ok.ensures.rows c.in-Ok.ensures.exact.1
    (subst (λ (t : TablesData). IsUserTable t.users) (sym c.self.view_is) c.requires)

pub returns-in-Ok-commit-clause-rest : goal.returns-in-Ok-commit-clause-rest
returns-in-Ok-commit-clause-rest g c = record {
  kept = keeps-changed (change.SetUser c.args.row.now) _ _ _ _
      (c.in-Ok-commit.ensures.ok ∙ ap (λ row. option_map (changed (change.SetUser row)) (g.K.Keeper.state c.args.keeper.now).tables) c.copy.ensures)
      (kept-set c.args.row.now _ _ c.requires (users-over _ _ c.change.new.self (replaced c.args.row.now) c.self.view_is c.in-Ok.ensures.rows));
  prints = search rules;
  written = search rules;
  keeper = search rules;
  shelf = search rules;
}

pub returns-in-Err-commit-clause-done : goal.returns-in-Err-commit-clause-done
returns-in-Err-commit-clause-done g c =
    set-undone c.args.row.now c.args.policy.now c.in-Err-commit.fault c.answer_of_keeper_fault.result c.args.self.now _ c.answer_of_keeper_fault.ensures
    (users-same _ _ c.restore.new.self c.self.view_is
    (c.restore.ensures ∙ back-after c.args.row.now c.in-Ok.former c.self.inside.users c.change.new.self c.in-Ok.ensures.rows c.in-Ok.ensures.exact.1))
    (ap (λ (t : TablesData). change_refusal c.args.policy.now c.args.row.now t.users) (sym c.self.view_is) ∙ c.in-Ok.ensures.exact.0)

pub returns-in-Err-commit-clause-rest : goal.returns-in-Err-commit-clause-rest
returns-in-Err-commit-clause-rest g c = record {
  kept = keeps-same _ _ _ _ c.in-Err-commit.ensures.err
      (users-same _ _ c.restore.new.self c.self.view_is
      (c.restore.ensures ∙ back-after c.args.row.now c.in-Ok.former c.self.inside.users c.change.new.self c.in-Ok.ensures.rows c.in-Ok.ensures.exact.1));
  prints = search rules;
  written = search rules;
  keeper = search rules;
  shelf = search rules;
}
