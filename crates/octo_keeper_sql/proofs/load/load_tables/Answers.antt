use Rattle.std.proofs.Common.{inl, IsErrOf, rules}
use Rattle.octo_keeper.specs.declared.keeper.KeeperFault.TheVariants as fault
use Rattle.octo_keeper_sql.proofs.load.load_tables.Goals as goal

pub returns-in_err-tables-clause-failed : goal.returns-in_err-tables-clause-failed
returns-in_err-tables-clause-failed g c failed clean =
    let is : IsErrOf c.load_rows.result fault.Failed = search rules in
    inl (c.load_rows.ensures.failed is clean)

pub returns-in_err-tables-clause-memory : goal.returns-in_err-tables-clause-memory
returns-in_err-tables-clause-memory g c lacks clean =
    let is : IsErrOf c.load_rows.result fault.NoMemory = search rules in
    c.load_rows.ensures.memory is clean
