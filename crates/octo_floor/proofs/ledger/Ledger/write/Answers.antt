use Rattle.std.proofs.Common.{inl, List, Bool, true, ◌∙◌, ap}
use Rattle.octo_floor.specs.Ledger.{LedgerData, with_end_written}
use Rattle.octo_floor.proofs.ledger.Ledger.write.Goals as goal

pub returns-in-Ok-clause-writes : goal.returns-in-Ok-clause-writes
returns-in-Ok-clause-writes g c =
    let With : List Bool → LedgerData =
    λ writes. record { stock = c.self.inside.stock; history = c.self.inside.history; ends_written = writes; fault = c.self.inside.fault }
    in
    inl (record {
      tables_are = c.in-Ok.ensures.ok 0;
      ledger_is = ap With c.add.ensures ∙ ap (λ (l : LedgerData). with_end_written true l) c.self.view_is;
    })
