use Rattle.std.proofs.Common.{◌++◌, length, take, drop, Some, ap, ◌∙◌, refl, arith}
use Rattle.octo_keeper.specs.declared.keeper.KeeperFault.TheVariants as keeper_fault
use Rattle.octo_keeper.specs.Tables.{with_end}
use Rattle.octo_keeper.proofs.Lowered.{whole_written}
use Rattle.octo_house_tables.proofs.Keeping.{keeps-ended, prints-ended}
use Rattle.octo_house_tables.proofs.tables.HostTables.end_print.Goals as goal

pub returns-clause-kept : goal.returns-clause-kept
returns-clause-kept c = λ kept.
    let same = ap length c.deref_mut.ensures.value in
    let whole = whole_written c.self.inside.prints.len c.end_print.new.rows c.self.inside.prints.items (omega (arith, same, c.end_print.auto.rows))
    (omega (arith, same, c.deref_mut.ensures.len)) in
    keeps-ended c.args.ending kept c.args.self.now _ c.requires refl
    (prints-ended _ _ (take c.self.inside.prints.len (c.end_print.new.rows ++ drop (length c.end_print.new.rows) c.self.inside.prints.items)) c.args.ending
    (Some (record { ending = c.args.ending; fault = keeper_fault.NoMemory })) c.self.view_is
    (whole ∙ c.end_print.ensures ∙ ap (with_end c.args.ending) c.deref_mut.ensures.value))
