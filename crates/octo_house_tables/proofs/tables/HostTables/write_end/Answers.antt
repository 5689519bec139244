use Rattle.std.proofs.Common.{None, sym, ap, ◌∙◌}
use Rattle.octo_keeper.specs.declared.tables.Change.TheVariants as change
use Rattle.octo_house_tables.specs.Data.{TablesData}
use Rattle.octo_house_tables.proofs.Keeping.{keeps-changed, keeps-due, kept-end}
use Rattle.octo_house_tables.proofs.tables.HostTables.write_end.Goals as goal

pub returns-in-Ok-clause-kept : goal.returns-in-Ok-clause-kept
returns-in-Ok-clause-kept g c =
    keeps-changed (change.End c.in-Some.ending) _ _ _ _ c.in-Ok.ensures.ok
    (kept-end c.in-Some.ending _ _ (sym c.due.ensures ∙ c.in-Some.is) (ap (λ (t : TablesData). record t { unwritten = None }) c.self.view_is))

pub returns-in-Err-clause-kept : goal.returns-in-Err-clause-kept
returns-in-Err-clause-kept g c =
    keeps-due _ _ _ _ c.in-Err.ensures.err (sym c.in-Some.is ∙ c.due.ensures)
    (ap (λ (t : TablesData). t.users) c.self.view_is) (ap (λ (t : TablesData). t.queue) c.self.view_is) (ap (λ (t : TablesData). t.prints) c.self.view_is)
