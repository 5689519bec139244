use Rattle.std.proofs.Common.{rules, ◌∷◌, [], refl}
use Rattle.octo_floor_bay.specs.declared.event.FloorEvent.TheVariants.{Noted}
use Rattle.octo_floor.proofs.Counted.{hold_more}
use Rattle.octo_floor.proofs.ledger.Ledger.add_note.Goals as goal

pub invariant_of-self : goal.invariant_of-self
invariant_of-self c =
    let so = hold_more c.self.inside.history (Noted c.args.printer c.in-Some.note ∷ []) c.add.new.self c.self.inside.tally c.self.inside.stock.records
    c.self.inside.stock.records c.add.ensures refl refl (search rules) c.self.invariant.tally c.self.invariant.recorded
    in
    record { tally = so.tally_of; recorded = so.recorded }
