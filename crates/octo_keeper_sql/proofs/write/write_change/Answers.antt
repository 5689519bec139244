use Rattle.std.proofs.Common.{IfErr, OnOk, subst, sym}
use Rattle.octo_keeper_sql.specs.Statements.{Refuses, Runs, statements}
use Rattle.octo_keeper_sql.proofs.write.write_change.Goals as goal

pub returns-in-DropEntry-clause-ran : goal.returns-in-DropEntry-clause-ran
returns-in-DropEntry-clause-ran g c =
    subst (λ change. OnOk c.drop_entry.result (Runs g.S.Store (statements change) c.args.transaction.now.conn.now c.drop_entry.new.transaction.conn.now)) (sym c.in-DropEntry.is) c.drop_entry.ensures.ran

pub returns-in-DropEntry-clause-failed : goal.returns-in-DropEntry-clause-failed
returns-in-DropEntry-clause-failed g c =
    subst (λ change. IfErr c.drop_entry.result (Refuses g.S.Store (statements change) c.args.transaction.now.conn.now c.drop_entry.new.transaction.conn.now)) (sym c.in-DropEntry.is) c.drop_entry.ensures.failed

pub returns-in-PutEntry-clause-failed : goal.returns-in-PutEntry-clause-failed
returns-in-PutEntry-clause-failed g c =
    subst (λ change. IfErr c.put_entry.result (Refuses g.S.Store (statements change) c.args.transaction.now.conn.now c.put_entry.new.transaction.conn.now)) (sym c.in-PutEntry.is) c.put_entry.ensures.failed
