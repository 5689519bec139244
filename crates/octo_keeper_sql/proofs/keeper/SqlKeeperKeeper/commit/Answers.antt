-- Counting a fault changes neither the answer nor the database.
use Rattle.std.proofs.Common.{IsErrOf, sym, subst, ◌∙◌}
use Rattle.sqlite.specs.Held.{state}
use Rattle.sqlite.specs.State.{HasCleanDisk}
use Rattle.octo_keeper.specs.declared.keeper.KeeperFault.TheVariants as fault
use Rattle.octo_keeper_sql.specs.Kept.{IsAtomic}
use Rattle.octo_keeper_sql.specs.Statements.{FailsToWrite, RanInTurn, statements}
use Rattle.octo_keeper_sql.proofs.keeper.SqlKeeperKeeper.commit.Goals as goal

pub returns-clause-failed : goal.returns-clause-failed
returns-clause-failed g c failed clean =
    let was : IsErrOf c.commit_change-done.result fault.Failed = sym c.count.ensures.same ∙ failed in
    let same = c.count.ensures.stays in
    subst (λ h. FailsToWrite g.S.Store (statements c.args.change.now) c.args.self.now.connection h) (sym same)
    (c.commit_change-done.ensures.failed was (subst (λ h. HasCleanDisk (state g.S.Store h)) same clean))

pub returns-clause-atomic : goal.returns-clause-atomic
returns-clause-atomic g c =
    subst (λ h. IsAtomic g.S.Store (RanInTurn g.S.Store (statements c.args.change.now)) c.args.self.now.connection h) (sym c.count.ensures.stays)
    c.commit_change-done.ensures.atomic
