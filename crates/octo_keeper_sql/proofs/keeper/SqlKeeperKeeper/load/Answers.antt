-- Counting a fault changes neither the answer nor the database.
use Rattle.std.proofs.Common.{◌⊎◌, IsErrOf, sym, subst, ◌∙◌}
use Rattle.sqlite.specs.Held.{state}
use Rattle.sqlite.specs.State.{HasCleanDisk}
use Rattle.octo_keeper.specs.declared.keeper.KeeperFault.TheVariants as fault
use Rattle.octo_keeper_sql.specs.Loads.{FailsToLoad, IsUnsound, LacksMemory}
use Rattle.octo_keeper_sql.proofs.keeper.SqlKeeperKeeper.load.Goals as goal

pub returns-clause-failed : goal.returns-clause-failed
returns-clause-failed g c failed clean =
    let was : IsErrOf c.load_tables-loaded.result fault.Failed = sym c.count.ensures.same ∙ failed in
    let same = c.count.ensures.stays in
    subst (λ h. FailsToLoad g.S.Store c.args.self.now.connection h ⊎ IsUnsound g.S.Store c.args.self.now.connection h) (sym same)
    (c.load_tables-loaded.ensures.failed was (subst (λ h. HasCleanDisk (state g.S.Store h)) same clean))

pub returns-clause-memory : goal.returns-clause-memory
returns-clause-memory g c lacks clean =
    let was : IsErrOf c.load_tables-loaded.result fault.NoMemory = sym c.count.ensures.same ∙ lacks in
    let same = c.count.ensures.stays in
    subst (λ h. LacksMemory g.S.Store c.args.self.now.connection h) (sym same)
    (c.load_tables-loaded.ensures.memory was (subst (λ h. HasCleanDisk (state g.S.Store h)) same clean))
