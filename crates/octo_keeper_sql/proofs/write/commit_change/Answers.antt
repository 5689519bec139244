-- What a stop leaves of the transaction, which was undone or committed.
use Rattle.std.proofs.Common.{◌≡◌, inl, inr, ap, rules, subst, arith}
use Rattle.sqlite.specs.Held.{state}
use Rattle.sqlite.specs.State.{HasCleanDisk}
use Rattle.octo_keeper_sql.specs.Statements.{Commits, FailsInTurn, FailsToWrite, RanInTurn, statements}
use Rattle.octo_keeper_sql.specs.Kept.{IsAtomic}
use Rattle.octo_keeper_sql.proofs.Kept.{atomic_same, undone_atomic, committed_atomic}
use Rattle.octo_keeper_sql.proofs.write.commit_change.Goals as goal

pub returns-then-not-is_autocommit-clause-atomic : goal.returns-then-not-is_autocommit-clause-atomic
returns-then-not-is_autocommit-clause-atomic g c = atomic_same g.S.Store (RanInTurn g.S.Store (statements c.args.change.now)) c.args.connection.now

pub returns-in-Err-clause-atomic : goal.returns-in-Err-clause-atomic
returns-in-Err-clause-atomic g c =
    let end = c.rollback.new.self.0 in
    let it = undone_atomic g.S.Store (RanInTurn g.S.Store (statements c.args.change.now)) c.args.connection.now c.transaction-transaction.result.conn.now c.write_change.new.transaction.conn.now end
    c.transaction-transaction.ensures.begun c.write_change.ensures.kept.moved.stores c.rollback.ensures.survives in
    let same : end ≡ c.connection-1.given.0 = search rules in
    subst (λ h. IsAtomic g.S.Store (RanInTurn g.S.Store (statements c.args.change.now)) c.args.connection.now h) same it

pub returns-in-Ok-clause-atomic : goal.returns-in-Ok-clause-atomic
returns-in-Ok-clause-atomic g c =
    let end = c.commit.new.self.0 in
    let it = committed_atomic g.S.Store (RanInTurn g.S.Store (statements c.args.change.now)) c.args.connection.now c.transaction-transaction.result.conn.now c.write_change.new.transaction.conn.now end
    c.transaction-transaction.ensures.begun c.write_change.ensures.kept.moved.stores c.in_default.ensures.ran c.commit.ensures.survives in
    let same : end ≡ c.connection-2-1.given.0 = search rules in
    subst (λ h. IsAtomic g.S.Store (RanInTurn g.S.Store (statements c.args.change.now)) c.args.connection.now h) same it

pub returns-in-Err-commit-clause-atomic : goal.returns-in-Err-commit-clause-atomic
returns-in-Err-commit-clause-atomic g c =
    let end = c.commit.new.self.0 in
    let it = committed_atomic g.S.Store (RanInTurn g.S.Store (statements c.args.change.now)) c.args.connection.now c.transaction-transaction.result.conn.now c.write_change.new.transaction.conn.now end
    c.transaction-transaction.ensures.begun c.write_change.ensures.kept.moved.stores c.in_default.ensures.ran c.commit.ensures.survives in
    let same : end ≡ c.connection-2-1.given.0 = search rules in
    subst (λ h. IsAtomic g.S.Store (RanInTurn g.S.Store (statements c.args.change.now)) c.args.connection.now h) same it

pub returns-in-Ok-clause-written : goal.returns-in-Ok-clause-written
returns-in-Ok-clause-written g c =
    let end = c.commit.new.self.0 in
    let last = c.write_change.new.transaction.conn.now in
    let same : end ≡ c.connection-2-1.given.0 = search rules in
    subst (λ h. HasCleanDisk (state g.S.Store h) → Commits g.S.Store (statements c.args.change.now) c.args.connection.now h) same
    (λ clean. record {
      last = last;
      ran = subst (λ h. RanInTurn g.S.Store (statements c.args.change.now) h last) c.transaction-transaction.ensures.begun (c.in_default.ensures.ran (omega (arith, c.commit.ensures.survives.clean, clean)));
      committed = (c.in-Ok.ensures.ok clean).1;
    })

pub returns-in-Err-clause-failed : goal.returns-in-Err-clause-failed
returns-in-Err-clause-failed g c =
    let end = c.rollback.new.self.0 in
    let last = c.write_change.new.transaction.conn.now in
    let begun = c.transaction-transaction.ensures.begun in
    let same : end ≡ c.connection-1.given.0 = search rules in
    λ failed. subst (λ h. HasCleanDisk (state g.S.Store h) → FailsToWrite g.S.Store (statements c.args.change.now) c.args.connection.now h) same
    (λ clean.
    let fails = c.in-Err.ensures.failed (λ memory. let none = c.fault_of.ensures.1 memory in cc) (omega (arith, c.rollback.ensures.survives.clean, clean)) (ap (λ h. h.in_transaction) begun) in
    inr (last, inl (subst (λ h. FailsInTurn g.S.Store (statements c.args.change.now) h last) begun fails, c.rollback.ensures.undone clean)))

pub returns-in-Err-commit-clause-failed : goal.returns-in-Err-commit-clause-failed
returns-in-Err-commit-clause-failed g c =
    let end = c.commit.new.self.0 in
    let last = c.write_change.new.transaction.conn.now in
    let same : end ≡ c.connection-2-1.given.0 = search rules in
    λ failed. subst (λ h. HasCleanDisk (state g.S.Store h) → FailsToWrite g.S.Store (statements c.args.change.now) c.args.connection.now h) same
    (λ clean.
    let ran = subst (λ h. RanInTurn g.S.Store (statements c.args.change.now) h last) c.transaction-transaction.ensures.begun (c.in_default.ensures.ran (omega (arith, c.commit.ensures.survives.clean, clean))) in
    inr (last, inr (ran, c.in-Err-commit.error, (λ memory. let none = c.fault_of-in-Err-commit.ensures.1 memory in cc), c.in-Err-commit.ensures.err clean)))
