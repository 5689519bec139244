use Rattle.std.proofs.Common.{subst}
use Rattle.octo_floor.specs.Ledger.{LedgerData}
use Rattle.octo_floor.specs.Objects.{FaultsCame}
use Rattle.octo_floor.proofs.ledger.Ledger.end_print.Goals as goal

pub returns-clause-faults : goal.returns-clause-faults
returns-clause-faults g c shelf =
    let From : LedgerData → Type 0 =
    λ l. FaultsCame l.fault c.write.new.self.fault (g.K.Keeper.state c.args.keeper.now).faults (g.K.Keeper.state c.write.new.keeper).faults shelf shelf
    in
    subst From c.add_ending.ensures.ledger (c.write.ensures.faults shelf)
