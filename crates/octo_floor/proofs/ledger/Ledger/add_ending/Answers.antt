use Rattle.octo_floor.proofs.Counted.{hold_end}
use Rattle.octo_floor.proofs.ledger.Ledger.add_ending.Goals as goal

pub invariant_of-self : goal.invariant_of-self
invariant_of-self c =
    let so = hold_end c.self.inside.history c.add.new.self c.args.printer c.args.ending c.self.inside.tally c.after_ending-self-inside.result
    c.self.inside.stock.records c.add.ensures c.after_ending-self-inside.ensures c.self.invariant.tally c.self.invariant.recorded
    in
    record { tally = so.tally_of; recorded = so.recorded }
