use Rattle.std.proofs.Common.{◌≡◌, ◌≤◌, ◌∷◌, [], refl, ap, arith}
use Rattle.octo_floor_bay.specs.Stock.{Stock}
use Rattle.octo_floor_bay.specs.declared.event.FloorEvent.TheVariants.{Passed}
use Rattle.octo_floor.proofs.Counted.{hold_more}
use Rattle.octo_floor.proofs.ledger.Ledger.add_passed.Goals as goal

pub invariant_of-self-2 : goal.invariant_of-self-2
invariant_of-self-2 c =
    let same : c.pass.new.self.records ≡ c.self.inside.stock.records = ap (λ (s : Stock). s.records) c.in_ok-pass.ensures.ok in
    let enough : c.self.inside.stock.records ≤ c.pass.new.self.records = omega (arith, same) in
    let so = hold_more c.self.inside.history (Passed c.args.entry ∷ []) c.add.new.self c.self.inside.tally c.self.inside.stock.records
    c.pass.new.self.records c.add.ensures refl refl enough c.self.invariant.tally c.self.invariant.recorded
    in
    record { tally = so.tally_of; recorded = so.recorded }
