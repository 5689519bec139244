use Rattle.std.proofs.Common.{◌++◌, ◌∷◌, [], ◌<◌, refl, arith}
use Rattle.atomic_table.specs.Table.Act.{keeps}
use Rattle.octo_floor_bay.proofs.table.EventLog.add.Goals as goal

pub compare_exchange_with-requires : goal.compare_exchange_with-requires
compare_exchange_with-requires g c =
    let inv = c.self.invariant in
    let within : 0 < c.self.inside.table.shared.table_id.words = (let one = inv.1 in omega arith) in
    let told = c.self.inside.seat.me.0.events in (
      inv.0,
      within,
      λ s rule deep seen fits. (record { events = told ++ c.args.event.now ∷ [] }, keeps, tt, tt, refl),
    )
