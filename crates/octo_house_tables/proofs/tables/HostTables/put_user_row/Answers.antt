use Rattle.std.proofs.Common.{◌≡◌, option_map, sym, ap, ◌∙◌, refl, rules}
use Rattle.octo_access.specs.Changes.{put_refusal}
use Rattle.octo_access.specs.Rows.{with_row, without}
use Rattle.octo_access.proofs.Undone.{without-with_row}
use Rattle.octo_keeper.specs.Tables.{changed}
use Rattle.octo_keeper.specs.declared.tables.Change.TheVariants as change
use Rattle.octo_house_tables.specs.Data.{TablesData}
use Rattle.octo_house_tables.proofs.Faults.{put-new-name, put-undone}
use Rattle.octo_house_tables.proofs.Keeping.{keeps-same, keeps-changed, kept-user, users-same, users-over}
use Rattle.octo_house_tables.proofs.tables.HostTables.put_user_row.Goals as goal

pub returns-in-Err-clause-rest : goal.returns-in-Err-clause-rest
returns-in-Err-clause-rest g c = record {
  kept = keeps-same _ _ _ _ refl (users-same _ _ c.put.new.self c.self.view_is c.in-Err.ensures.rows);
  prints = search rules;
  written = search rules;
  keeper = search rules;
  shelf = search rules;
}

pub returns-in-Ok-clause-rest : goal.returns-in-Ok-clause-rest
returns-in-Ok-clause-rest g c = record {
  kept = keeps-changed (change.PutUser c.args.row.now) _ _ _ _
      (c.in-Ok.ensures.ok ∙ ap (λ row. option_map (changed (change.PutUser row)) (g.K.Keeper.state c.args.keeper.now).tables) c.copy.ensures)
      (kept-user c.args.row.now _ _ (users-over _ _ c.put.new.self (with_row c.args.row.now) c.self.view_is c.in_default.ensures.rows));
  prints = search rules;
  written = search rules;
  keeper = search rules;
  shelf = search rules;
}

pub returns-in-Err-commit-clause-done : goal.returns-in-Err-commit-clause-done
returns-in-Err-commit-clause-done g c =
    let left : c.take_back.new.self ≡ c.self.inside.users =
    c.take_back.ensures ∙ ap (without c.args.row.now.name) c.in_default.ensures.rows
    ∙ without-with_row c.args.row.now c.self.inside.users (put-new-name c.args.policy.now c.args.row.now c.self.inside.users c.in_default.ensures.exact) in
    put-undone c.args.row.now c.args.policy.now c.in-Err-commit.fault c.answer_of_keeper_fault.result c.args.self.now _ c.answer_of_keeper_fault.ensures
    (users-same _ _ c.take_back.new.self c.self.view_is left)
    (ap (λ (t : TablesData). put_refusal c.args.policy.now c.args.row.now t.users) (sym c.self.view_is) ∙ c.in_default.ensures.exact)

pub returns-in-Err-commit-clause-rest : goal.returns-in-Err-commit-clause-rest
returns-in-Err-commit-clause-rest g c =
    let left : c.take_back.new.self ≡ c.self.inside.users =
    c.take_back.ensures ∙ ap (without c.args.row.now.name) c.in_default.ensures.rows
    ∙ without-with_row c.args.row.now c.self.inside.users (put-new-name c.args.policy.now c.args.row.now c.self.inside.users c.in_default.ensures.exact) in
    record {
      kept = keeps-same _ _ _ _ c.in-Err-commit.ensures.err (users-same _ _ c.take_back.new.self c.self.view_is left);
      prints = search rules;
      written = search rules;
      keeper = search rules;
      shelf = search rules;
    }
