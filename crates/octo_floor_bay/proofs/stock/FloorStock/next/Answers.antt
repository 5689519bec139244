use Rattle.std.proofs.Common.{rules, option_map}
use Rattle.octo_floor_bay.specs.Stock.{Start}
use Rattle.octo_floor_bay.proofs.Among.{among}
use Rattle.octo_floor_bay.proofs.stock.FloorStock.next.Goals as goal

pub returns-clause-among : goal.returns-clause-among
returns-clause-among c =
    let next : Start c.args.self.now c.args.material.now (option_map (λ entry. entry.now) c.next_start.result) = search rules in
    among (λ entry. entry.now) c.args.self.now c.args.material.now c.next_start.result next
