use Rattle.print_queue.specs.Rows.{without}
use Rattle.octo_house_tables.proofs.QueueEntries.{dropped-rows}
use Rattle.octo_house_tables.proofs.Keeping.{queue-over}
use Rattle.octo_house_tables.proofs.Put.{fault-not}
use Rattle.octo_house_tables.proofs.tables.HostTables.write_entry.Goals as goal

pub returns-in-Err-clause-ok : goal.returns-in-Err-clause-ok
returns-in-Err-clause-ok g c = λ fine. absurd (fault-not c.in-Err.fault c.answer_of_keeper_fault.result c.answer_of_keeper_fault.ensures fine)

pub returns-in-Err-clause-err : goal.returns-in-Err-clause-err
returns-in-Err-clause-err g c = λ failed. (
  c.in-Err.ensures.err,
  queue-over _ _ c.remove.new.self.rows (without c.args.entry.user c.args.entry.name) c.self.view_is
      (dropped-rows c.args.entry.user c.args.entry.name c.self.inside.queue c.remove.new.self c.remove.result c.remove.ensures.answer
      c.remove.ensures.rows c.remove.ensures.err),
)
