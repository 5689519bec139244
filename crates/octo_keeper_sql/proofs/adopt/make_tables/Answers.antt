use Rattle.std.proofs.Common.{[], ◌∷◌, IsErrOf, rules}
use Rattle.octo_keeper.specs.declared.keeper.KeeperFault.TheVariants as fault
use Rattle.octo_keeper_sql.specs.declared.schema.TheConstants.{CREATE_USERS, CREATE_ENTRIES, CREATE_PRINTS, INSERT_SCHEMA}
use Rattle.octo_keeper_sql.specs.Settled.{plain}
use Rattle.octo_keeper_sql.proofs.Failures.{fails_at, fails_then}
use Rattle.octo_keeper_sql.proofs.Kept.{unstored_then}
use Rattle.octo_keeper_sql.proofs.Statements.{runs_unstored}
use Rattle.octo_keeper_sql.proofs.adopt.make_tables.Goals as goal

pub returns-clause-ran : goal.returns-clause-ran
returns-clause-ran g c =
    let a = c.args.transaction.now.conn in
    let b = c.run.new.transaction.conn in
    let d = c.run-2.new.transaction.conn in
    let e = c.run-3.new.transaction.conn in
    let f = c.run-4.new.transaction.conn in
    let last = c.run-4.ensures.stores in
    let later = unstored_then g.S.Store d e f c.run-3.ensures.stores last in
    runs_unstored g.S.Store c.run-4.result (plain CREATE_USERS.now ∷ []) (plain CREATE_ENTRIES.now ∷ plain CREATE_PRINTS.now ∷ plain INSERT_SCHEMA.now ∷ []) a b f
    (unstored_then g.S.Store b d f c.run-2.ensures.stores later) c.in_ok-run.ensures.ran
    (runs_unstored g.S.Store c.run-4.result (plain CREATE_ENTRIES.now ∷ []) (plain CREATE_PRINTS.now ∷ plain INSERT_SCHEMA.now ∷ []) b d f later c.in_ok-run-2.ensures.ran
    (runs_unstored g.S.Store c.run-4.result (plain CREATE_PRINTS.now ∷ []) (plain INSERT_SCHEMA.now ∷ []) d e f last c.in_ok-run-3.ensures.ran c.run-4.ensures.ran))

pub returns-in_err-run-clause-failed : goal.returns-in_err-run-clause-failed
returns-in_err-run-clause-failed g c failed =
    let is : IsErrOf c.run.result fault.Failed = search rules in
    fails_at g.S.Store (plain CREATE_USERS.now ∷ []) (plain CREATE_ENTRIES.now ∷ plain CREATE_PRINTS.now ∷ plain INSERT_SCHEMA.now ∷ []) c.args.transaction.now.conn.now c.run.new.transaction.conn.now (c.run.ensures.failed is)

pub returns-in_err-run-2-clause-failed : goal.returns-in_err-run-2-clause-failed
returns-in_err-run-2-clause-failed g c failed =
    let a = c.args.transaction.now.conn in
    let b = c.run.new.transaction.conn in
    let d = c.run-2.new.transaction.conn in
    let is : IsErrOf c.run-2.result fault.Failed = search rules in
    fails_then g.S.Store (plain CREATE_USERS.now ∷ []) (plain CREATE_ENTRIES.now ∷ plain CREATE_PRINTS.now ∷ plain INSERT_SCHEMA.now ∷ []) a b d c.run-2.ensures.stores c.in_ok-run.ensures.ran
    (fails_at g.S.Store (plain CREATE_ENTRIES.now ∷ []) (plain CREATE_PRINTS.now ∷ plain INSERT_SCHEMA.now ∷ []) b.now d.now (c.run-2.ensures.failed is))

pub returns-in_err-run-3-clause-failed : goal.returns-in_err-run-3-clause-failed
returns-in_err-run-3-clause-failed g c failed =
    let a = c.args.transaction.now.conn in
    let b = c.run.new.transaction.conn in
    let d = c.run-2.new.transaction.conn in
    let e = c.run-3.new.transaction.conn in
    let is : IsErrOf c.run-3.result fault.Failed = search rules in
    let last = c.run-3.ensures.stores in
    fails_then g.S.Store (plain CREATE_USERS.now ∷ []) (plain CREATE_ENTRIES.now ∷ plain CREATE_PRINTS.now ∷ plain INSERT_SCHEMA.now ∷ []) a b e (unstored_then g.S.Store b d e c.run-2.ensures.stores last) c.in_ok-run.ensures.ran
    (fails_then g.S.Store (plain CREATE_ENTRIES.now ∷ []) (plain CREATE_PRINTS.now ∷ plain INSERT_SCHEMA.now ∷ []) b d e last c.in_ok-run-2.ensures.ran
    (fails_at g.S.Store (plain CREATE_PRINTS.now ∷ []) (plain INSERT_SCHEMA.now ∷ []) d.now e.now (c.run-3.ensures.failed is)))

pub returns-clause-failed : goal.returns-clause-failed
returns-clause-failed g c failed =
    let a = c.args.transaction.now.conn in
    let b = c.run.new.transaction.conn in
    let d = c.run-2.new.transaction.conn in
    let e = c.run-3.new.transaction.conn in
    let f = c.run-4.new.transaction.conn in
    let last = c.run-4.ensures.stores in
    let later = unstored_then g.S.Store d e f c.run-3.ensures.stores last in
    fails_then g.S.Store (plain CREATE_USERS.now ∷ []) (plain CREATE_ENTRIES.now ∷ plain CREATE_PRINTS.now ∷ plain INSERT_SCHEMA.now ∷ []) a b f (unstored_then g.S.Store b d f c.run-2.ensures.stores later) c.in_ok-run.ensures.ran
    (fails_then g.S.Store (plain CREATE_ENTRIES.now ∷ []) (plain CREATE_PRINTS.now ∷ plain INSERT_SCHEMA.now ∷ []) b d f later c.in_ok-run-2.ensures.ran
    (fails_then g.S.Store (plain CREATE_PRINTS.now ∷ []) (plain INSERT_SCHEMA.now ∷ []) d e f last c.in_ok-run-3.ensures.ran (c.run-4.ensures.failed failed)))
