use Rattle.std.proofs.Common.{sym, ap, ◌∙◌}
use Rattle.octo_keeper.specs.Tables.{with_taken}
use Rattle.octo_house_tables.proofs.QueueEntries.{taken-rows}
use Rattle.octo_house_tables.proofs.Keeping.{queue-over}
use Rattle.octo_house_tables.proofs.tables.HostTables.take.Goals as goal

pub returns-in-Some : goal.returns-in-Some
returns-in-Some c =
    queue-over _ _ c.take.new.self.rows (with_taken c.args.taken.now) c.self.view_is
    (taken-rows c.in-Some.entry.user c.in-Some.entry.name c.self.inside.queue c.take.new.self c.take.result c.take.ensures.answer c.take.ensures.rows
    c.take.ensures.err
    ∙ ap (λ taken. with_taken taken c.self.inside.queue.rows) (sym c.in-Some.is))
