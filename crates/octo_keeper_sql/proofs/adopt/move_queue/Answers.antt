-- The statements of the upgrade, one after the other.
use Rattle.std.proofs.Common.{[], ◌∷◌, ◌++◌, map, IsErrOf, rules}
use Rattle.octo_keeper.specs.declared.keeper.KeeperFault.TheVariants as fault
use Rattle.octo_keeper_sql.specs.declared.schema.TheConstants.{CREATE_ENTRIES, DROP_OLD_QUEUE, UPDATE_SCHEMA}
use Rattle.octo_keeper_sql.specs.Settled.{plain}
use Rattle.octo_keeper_sql.specs.Statements.{entry_put}
use Rattle.octo_keeper_sql.proofs.Failures.{fails_at, fails_then}
use Rattle.octo_keeper_sql.proofs.Kept.{unstored_then}
use Rattle.octo_keeper_sql.proofs.Statements.{runs_unstored}
use Rattle.octo_keeper_sql.proofs.adopt.move_queue.Goals as goal

pub returns-clause-ran : goal.returns-clause-ran
returns-clause-ran g c =
    let a = c.args.transaction.now.conn in
    let b = c.run.new.transaction.conn in
    let d = c.put_entries.new.transaction.conn in
    let e = c.run-2.new.transaction.conn in
    let f = c.run-3.new.transaction.conn in
    let puts = map entry_put c.args.entries.now in
    let last = c.run-3.ensures.stores in
    let dropped = unstored_then g.S.Store d e f c.run-2.ensures.stores last in
    runs_unstored g.S.Store c.run-3.result (plain CREATE_ENTRIES.now ∷ []) (puts ++ plain DROP_OLD_QUEUE.now ∷ plain UPDATE_SCHEMA.now ∷ []) a b f
    (unstored_then g.S.Store b d f c.put_entries.ensures.stores dropped) c.in_ok-run.ensures.ran
    (runs_unstored g.S.Store c.run-3.result puts (plain DROP_OLD_QUEUE.now ∷ plain UPDATE_SCHEMA.now ∷ []) b d f dropped c.in_ok-put_entries.ensures.ran
    (runs_unstored g.S.Store c.run-3.result (plain DROP_OLD_QUEUE.now ∷ []) (plain UPDATE_SCHEMA.now ∷ []) d e f last c.in_ok-run-2.ensures.ran c.run-3.ensures.ran))

pub returns-in_err-run-clause-failed : goal.returns-in_err-run-clause-failed
returns-in_err-run-clause-failed g c failed =
    let is : IsErrOf c.run.result fault.Failed = search rules in
    fails_at g.S.Store (plain CREATE_ENTRIES.now ∷ []) (map entry_put c.args.entries.now ++ plain DROP_OLD_QUEUE.now ∷ plain UPDATE_SCHEMA.now ∷ []) c.args.transaction.now.conn.now c.run.new.transaction.conn.now (c.run.ensures.failed is)

pub returns-in_err-put_entries-clause-failed : goal.returns-in_err-put_entries-clause-failed
returns-in_err-put_entries-clause-failed g c failed =
    let a = c.args.transaction.now.conn in
    let b = c.run.new.transaction.conn in
    let d = c.put_entries.new.transaction.conn in
    let puts = map entry_put c.args.entries.now in
    let is : IsErrOf c.put_entries.result fault.Failed = search rules in
    fails_then g.S.Store (plain CREATE_ENTRIES.now ∷ []) (puts ++ plain DROP_OLD_QUEUE.now ∷ plain UPDATE_SCHEMA.now ∷ []) a b d c.put_entries.ensures.stores c.in_ok-run.ensures.ran
    (fails_at g.S.Store puts (plain DROP_OLD_QUEUE.now ∷ plain UPDATE_SCHEMA.now ∷ []) b.now d.now (c.put_entries.ensures.failed is))

pub returns-in_err-run-2-clause-failed : goal.returns-in_err-run-2-clause-failed
returns-in_err-run-2-clause-failed g c failed =
    let a = c.args.transaction.now.conn in
    let b = c.run.new.transaction.conn in
    let d = c.put_entries.new.transaction.conn in
    let e = c.run-2.new.transaction.conn in
    let puts = map entry_put c.args.entries.now in
    let is : IsErrOf c.run-2.result fault.Failed = search rules in
    let last = c.run-2.ensures.stores in
    fails_then g.S.Store (plain CREATE_ENTRIES.now ∷ []) (puts ++ plain DROP_OLD_QUEUE.now ∷ plain UPDATE_SCHEMA.now ∷ []) a b e (unstored_then g.S.Store b d e c.put_entries.ensures.stores last) c.in_ok-run.ensures.ran
    (fails_then g.S.Store puts (plain DROP_OLD_QUEUE.now ∷ plain UPDATE_SCHEMA.now ∷ []) b d e last c.in_ok-put_entries.ensures.ran
    (fails_at g.S.Store (plain DROP_OLD_QUEUE.now ∷ []) (plain UPDATE_SCHEMA.now ∷ []) d.now e.now (c.run-2.ensures.failed is)))

pub returns-clause-failed : goal.returns-clause-failed
returns-clause-failed g c failed =
    let a = c.args.transaction.now.conn in
    let b = c.run.new.transaction.conn in
    let d = c.put_entries.new.transaction.conn in
    let e = c.run-2.new.transaction.conn in
    let f = c.run-3.new.transaction.conn in
    let puts = map entry_put c.args.entries.now in
    let last = c.run-3.ensures.stores in
    let dropped = unstored_then g.S.Store d e f c.run-2.ensures.stores last in
    fails_then g.S.Store (plain CREATE_ENTRIES.now ∷ []) (puts ++ plain DROP_OLD_QUEUE.now ∷ plain UPDATE_SCHEMA.now ∷ []) a b f (unstored_then g.S.Store b d f c.put_entries.ensures.stores dropped) c.in_ok-run.ensures.ran
    (fails_then g.S.Store puts (plain DROP_OLD_QUEUE.now ∷ plain UPDATE_SCHEMA.now ∷ []) b d f dropped c.in_ok-put_entries.ensures.ran
    (fails_then g.S.Store (plain DROP_OLD_QUEUE.now ∷ []) (plain UPDATE_SCHEMA.now ∷ []) d e f last c.in_ok-run-2.ensures.ran (c.run-3.ensures.failed failed)))
