use Rattle.sqlite.specs.Values.{bound}
use Rattle.octo_keeper_sql.specs.declared.schema.TheConstants.{INSERT_ENTRY}
use Rattle.octo_keeper_sql.specs.Rows.{entry_row}
use Rattle.octo_keeper_sql.proofs.Statements.{runs_with, refused_with}
use Rattle.octo_keeper_sql.proofs.entries.put_entry.Goals as goal

pub returns-clause-ran : goal.returns-clause-ran
returns-clause-ran g c =
    runs_with g.S.Store c.run.result INSERT_ENTRY.now c.args.transaction.now.conn.now c.run.new.transaction.conn.now (bound c.entry_values.result) (entry_row c.args.entry.now) c.entry_values.ensures c.run.ensures.ran

pub returns-clause-failed : goal.returns-clause-failed
returns-clause-failed g c =
    refused_with g.S.Store c.run.result INSERT_ENTRY.now c.args.transaction.now.conn.now c.run.new.transaction.conn.now (bound c.entry_values.result) (entry_row c.args.entry.now) c.entry_values.ensures c.run.ensures.failed
