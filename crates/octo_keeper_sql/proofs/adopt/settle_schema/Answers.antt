-- What a stop leaves of the transaction, which was undone or committed.
use Rattle.std.proofs.Common.{◌≡◌, inl, inr, ap, rules, subst, arith, IsErrOf}
use Rattle.octo_keeper.specs.declared.keeper.KeeperFault.TheVariants as fault
use Rattle.sqlite.specs.Held.{state}
use Rattle.sqlite.specs.State.{HasCleanDisk}
use Rattle.octo_keeper_sql.specs.Settled.{FailsToAdopt, FailsToSettle, Settled, Settles}
use Rattle.octo_keeper_sql.specs.Kept.{IsAtomic, IsUndone, KeepsLastCommit}
use Rattle.octo_keeper_sql.proofs.Kept.{atomic_same, undone_atomic, committed_atomic, undone_after, lost_after}
use Rattle.octo_keeper_sql.proofs.adopt.settle_schema.Goals as goal

pub returns-then-not-is_autocommit-clause-atomic : goal.returns-then-not-is_autocommit-clause-atomic
returns-then-not-is_autocommit-clause-atomic g c = atomic_same g.S.Store (Settled g.S.Store) c.args.connection.now

pub returns-in-Err-clause-atomic : goal.returns-in-Err-clause-atomic
returns-in-Err-clause-atomic g c =
    let end = c.rollback.new.self.0 in
    let it = undone_atomic g.S.Store (Settled g.S.Store) c.args.connection.now c.transaction-transaction.result.conn.now c.settle.new.transaction.conn.now end
    c.transaction-transaction.ensures.begun c.settle.ensures.stores.moved c.rollback.ensures.survives in
    let same : end ≡ c.connection-1.given.0 = search rules in
    subst (λ h. IsAtomic g.S.Store (Settled g.S.Store) c.args.connection.now h) same it

pub returns-in-Ok-clause-atomic : goal.returns-in-Ok-clause-atomic
returns-in-Ok-clause-atomic g c =
    let end = c.commit.new.self.0 in
    let it = committed_atomic g.S.Store (Settled g.S.Store) c.args.connection.now c.transaction-transaction.result.conn.now c.settle.new.transaction.conn.now end
    c.transaction-transaction.ensures.begun c.settle.ensures.stores.moved c.in_default.ensures.settled c.commit.ensures.survives in
    let same : end ≡ c.connection-2-1.given.0 = search rules in
    subst (λ h. IsAtomic g.S.Store (Settled g.S.Store) c.args.connection.now h) same it

pub returns-in-Err-commit-clause-atomic : goal.returns-in-Err-commit-clause-atomic
returns-in-Err-commit-clause-atomic g c =
    let end = c.commit.new.self.0 in
    let it = committed_atomic g.S.Store (Settled g.S.Store) c.args.connection.now c.transaction-transaction.result.conn.now c.settle.new.transaction.conn.now end
    c.transaction-transaction.ensures.begun c.settle.ensures.stores.moved c.in_default.ensures.settled c.commit.ensures.survives in
    let same : end ≡ c.connection-2-1.given.0 = search rules in
    subst (λ h. IsAtomic g.S.Store (Settled g.S.Store) c.args.connection.now h) same it

pub returns-in-Ok-clause-settled : goal.returns-in-Ok-clause-settled
returns-in-Ok-clause-settled g c =
    let end = c.commit.new.self.0 in
    let last = c.settle.new.transaction.conn.now in
    let same : end ≡ c.connection-2-1.given.0 = search rules in
    subst (λ h. HasCleanDisk (state g.S.Store h) → Settles g.S.Store c.args.connection.now h) same
    (λ clean. record {
      last = last;
      settled = subst (λ h. Settled g.S.Store h last) c.transaction-transaction.ensures.begun (c.in_default.ensures.settled (omega (arith, c.commit.ensures.survives.clean, clean)));
      committed = (c.in-Ok.ensures.ok clean).1;
    })

pub returns-in-Err-clause-failed : goal.returns-in-Err-clause-failed
returns-in-Err-clause-failed g c =
    let end = c.rollback.new.self.0 in
    let last = c.settle.new.transaction.conn.now in
    let begun = c.transaction-transaction.ensures.begun in
    let same : end ≡ c.connection-1.given.0 = search rules in
    λ failed. subst (λ h. HasCleanDisk (state g.S.Store h) → FailsToAdopt g.S.Store c.args.connection.now h) same
    (λ clean.
    let is : IsErrOf c.settle.result fault.Failed = search rules in
    let fails = c.settle.ensures.failed is (omega (arith, c.rollback.ensures.survives.clean, clean)) (ap (λ h. h.in_transaction) begun) in
    inr (last, inl (subst (λ h. FailsToSettle g.S.Store h last) begun fails, c.rollback.ensures.undone clean)))

pub returns-in-Err-commit-clause-failed : goal.returns-in-Err-commit-clause-failed
returns-in-Err-commit-clause-failed g c =
    let end = c.commit.new.self.0 in
    let last = c.settle.new.transaction.conn.now in
    let same : end ≡ c.connection-2-1.given.0 = search rules in
    λ failed. subst (λ h. HasCleanDisk (state g.S.Store h) → FailsToAdopt g.S.Store c.args.connection.now h) same
    (λ clean.
    let settled = subst (λ h. Settled g.S.Store h last) c.transaction-transaction.ensures.begun (c.in_default.ensures.settled (omega (arith, c.commit.ensures.survives.clean, clean))) in
    inr (last, inr (settled, c.in-Err-commit.error, (λ memory. let none = c.fault_of.ensures.1 memory in cc), c.in-Err-commit.ensures.err clean)))

pub returns-in-Err-clause-undone : goal.returns-in-Err-clause-undone
returns-in-Err-clause-undone g c =
    let end = c.rollback.new.self.0 in
    let old = c.args.connection.now in
    let last = c.settle.new.transaction.conn.now in
    let begun = c.transaction-transaction.ensures.begun in
    let same : end ≡ c.connection-1.given.0 = search rules in
    subst (λ h. IsUndone (state g.S.Store old) (state g.S.Store h)) same
    (record {
      ended = λ _. c.rollback.ensures.ended;
      committed = λ clean is_open.
          let k = subst (λ h. KeepsLastCommit g.S.Store h last) begun (c.settle.ensures.kept (ap (λ h. h.in_transaction) begun)) (omega (arith, c.rollback.ensures.survives.clean, clean)) in
          undone_after (state g.S.Store old) (state g.S.Store last) (state g.S.Store end)
          (record { was_open = k.was_open; committed = k.committed })
          (c.rollback.ensures.undone clean) is_open;
    })

pub returns-in-Err-commit-clause-undone : goal.returns-in-Err-commit-clause-undone
returns-in-Err-commit-clause-undone g c =
    let end = c.commit.new.self.0 in
    let old = c.args.connection.now in
    let last = c.settle.new.transaction.conn.now in
    let begun = c.transaction-transaction.ensures.begun in
    let same : end ≡ c.connection-2-1.given.0 = search rules in
    subst (λ h. IsUndone (state g.S.Store old) (state g.S.Store h)) same
    (record {
      ended = λ _. c.commit.ensures.ended;
      committed = λ clean is_open.
          let k = subst (λ h. KeepsLastCommit g.S.Store h last) begun (c.settle.ensures.kept (ap (λ h. h.in_transaction) begun)) (omega (arith, c.commit.ensures.survives.clean, clean)) in
          lost_after (state g.S.Store old) (state g.S.Store last) (state g.S.Store end) c.in-Err-commit.error
          (record { was_open = k.was_open; committed = k.committed })
          (c.in-Err-commit.ensures.err clean) is_open;
    })
