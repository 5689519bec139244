use Rattle.std.proofs.Common.{◌≡◌, ℕ, ◌+◌, suc, List, ◌∙◌, ap, arith}
use Rattle.print_queue.specs.Rows.{without_copy}
use Rattle.print_queue.specs.declared.entry.QueueEntry.{QueueEntry}
use Rattle.octo_floor_bay.specs.Stock.{Stock}
use Rattle.octo_house_tables.proofs.QueueEntries.{taken-rows}
use Rattle.octo_floor_bay.proofs.stock.FloorStock.begin.Goals as goal

pub returns-clause-ok : goal.returns-clause-ok
returns-clause-ok g c printer =
    let entry : QueueEntry = c.args.entry.now in
    let Begun : Stock → Stock = λ s. record s { queue = without_copy entry.user entry.name s.queue; records = suc s.records } in
    let rows = taken-rows entry.user entry.name c.self.inside.waiting c.take.new.self c.take.result c.take.ensures.answer c.take.ensures.rows c.take.ensures.err in
    let one : c.self.inside.count + 1 ≡ suc c.self.inside.count = omega arith in
    let With : List QueueEntry → Stock = λ q. record { queue = q; passed = c.self.inside.skipped.items; records = c.self.inside.count + 1 } in
    let Of : ℕ → Stock =
    λ n. record { queue = without_copy entry.user entry.name c.self.inside.waiting.rows; passed = c.self.inside.skipped.items; records = n }
    in
    ap With rows ∙ ap Of one ∙ ap Begun c.self.view_is
