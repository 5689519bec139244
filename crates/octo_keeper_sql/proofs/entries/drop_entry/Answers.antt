use Rattle.sqlite.specs.Values.{bound}
use Rattle.octo_keeper_sql.specs.declared.schema.TheConstants.{DELETE_ENTRY}
use Rattle.octo_keeper_sql.specs.Statements.{key_values}
use Rattle.octo_keeper_sql.proofs.Statements.{runs_with, refused_with}
use Rattle.octo_keeper_sql.proofs.entries.drop_entry.Goals as goal

pub returns-clause-ran : goal.returns-clause-ran
returns-clause-ran g c =
    runs_with g.S.Store c.run.result DELETE_ENTRY.now c.args.transaction.now.conn.now c.run.new.transaction.conn.now (bound c.key_values.result) (key_values c.args.user.now c.args.name.now) c.key_values.ensures c.run.ensures.ran

pub returns-clause-failed : goal.returns-clause-failed
returns-clause-failed g c =
    refused_with g.S.Store c.run.result DELETE_ENTRY.now c.args.transaction.now.conn.now c.run.new.transaction.conn.now (bound c.key_values.result) (key_values c.args.user.now c.args.name.now) c.key_values.ensures c.run.ensures.failed
