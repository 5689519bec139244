use Rattle.std.proofs.Common.{◌<◌, sym, subst, length, arith}
use Rattle.octo_floor_bay.specs.Events.{started_rows}
use Rattle.octo_floor_bay.specs.Written.{most_records}
use Rattle.octo_floor.specs.Ledger.{LedgerData}
use Rattle.octo_floor.proofs.Counted.{hold_start}
use Rattle.octo_floor.proofs.ledger.Ledger.add_start.Goals as goal

pub after_start-self-inside-requires : goal.after_start-self-inside-requires
after_start-self-inside-requires c =
    let few : length (started_rows c.self.inside.history) < most_records =
    subst (λ (l : LedgerData). length (started_rows l.history) < most_records) (sym c.self.view_is) c.requires.few
    in
    let counted = c.self.invariant.tally.prints in
    omega (arith, few, counted)

pub invariant_of-self : goal.invariant_of-self
invariant_of-self c =
    let fewer : length (started_rows c.self.inside.history) < c.self.inside.stock.records =
    subst (λ (l : LedgerData). length (started_rows l.history) < l.stock.records) (sym c.self.view_is) c.requires.begun
    in
    let so = hold_start c.self.inside.history c.add.new.self c.args.printer c.args.row c.args.entry c.self.inside.tally c.after_start-self-inside.result
    c.self.inside.stock.records c.add.ensures c.after_start-self-inside.ensures fewer c.self.invariant.tally
    in
    record { tally = so.tally_of; recorded = so.recorded }
