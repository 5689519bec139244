use Rattle.std.proofs.Common.{sym, ap, ◌∙◌, subst}
use Rattle.octo_access.specs.Rows.{row_named}
use Rattle.octo_house_rules.specs.Verdict.{IsDone}
use Rattle.octo_house_tables.specs.Data.{TablesData, over}
use Rattle.octo_house_tables.proofs.Changed.{verdict-held, verdict-unheld}
use Rattle.octo_house_tables.proofs.tables.HostTables.change_user.Goals as goal

pub returns-in_default-clause-done : goal.returns-in_default-clause-done
returns-in_default-clause-done g c = λ k same.
    subst (λ v. IsDone v c.set_user_row.result (over k c.args.self.now) (over k c.set_user_row.new.self))
    (sym (verdict-unheld c.args.name.now c.args.key.now c.args.groups.now c.args.active c.nobody.result c.changed_user-row.result
    (over k c.args.self.now) c.changed_user-row.ensures
    (ap (λ (t : TablesData). row_named c.args.name.now t.users) (sym c.self.view_is) ∙ ap (row_named c.args.name.now) (sym c.rows.ensures.value) ∙ sym
    c.user_named.ensures ∙ c.in_default.is)
    c.nobody.ensures.name c.nobody.ensures.groups))
    (c.set_user_row.ensures.done k same)

pub returns-clause-done : goal.returns-clause-done
returns-clause-done g c = λ k same.
    subst (λ v. IsDone v c.set_user_row-2.result (over k c.args.self.now) (over k c.set_user_row-2.new.self))
    (sym (verdict-held c.args.name.now c.args.key.now c.args.groups.now c.args.active c.in-Some.former c.changed_user.result (over k c.args.self.now)
    c.changed_user.ensures
    (ap (λ (t : TablesData). row_named c.args.name.now t.users) (sym c.self.view_is) ∙ ap (row_named c.args.name.now) (sym c.rows.ensures.value) ∙ sym
    c.user_named.ensures ∙ c.in-Some.is)))
    (c.set_user_row-2.ensures.done k same)
