use Rattle.sqlite.specs.Values.{bound}
use Rattle.octo_keeper_sql.specs.declared.schema.TheConstants.{INSERT_PRINT}
use Rattle.octo_keeper_sql.specs.Rows.{print_row}
use Rattle.octo_keeper_sql.proofs.Statements.{runs_with, refused_with}
use Rattle.octo_keeper_sql.proofs.prints.put_print.Goals as goal

pub returns-clause-ran : goal.returns-clause-ran
returns-clause-ran g c =
    runs_with g.S.Store c.run.result INSERT_PRINT.now c.args.transaction.now.conn.now c.run.new.transaction.conn.now (bound c.print_values.result) (print_row c.args.print.now) c.print_values.ensures c.run.ensures.ran

pub returns-clause-failed : goal.returns-clause-failed
returns-clause-failed g c =
    refused_with g.S.Store c.run.result INSERT_PRINT.now c.args.transaction.now.conn.now c.run.new.transaction.conn.now (bound c.print_values.result) (print_row c.args.print.now) c.print_values.ensures c.run.ensures.failed
