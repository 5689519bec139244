use Rattle.sqlite.specs.Values.{bound}
use Rattle.octo_keeper_sql.specs.declared.schema.TheConstants.{INSERT_USER}
use Rattle.octo_keeper_sql.specs.Rows.{user_row}
use Rattle.octo_keeper_sql.proofs.Statements.{runs_with, refused_with}
use Rattle.octo_keeper_sql.proofs.users.put_user.Goals as goal

pub returns-clause-ran : goal.returns-clause-ran
returns-clause-ran g c =
    runs_with g.S.Store c.run.result INSERT_USER.now c.args.transaction.now.conn.now c.run.new.transaction.conn.now (bound c.user_values.result) (user_row c.args.user.now) c.user_values.ensures c.run.ensures.ran

pub returns-clause-failed : goal.returns-clause-failed
returns-clause-failed g c =
    refused_with g.S.Store c.run.result INSERT_USER.now c.args.transaction.now.conn.now c.run.new.transaction.conn.now (bound c.user_values.result) (user_row c.args.user.now) c.user_values.ensures c.run.ensures.failed
