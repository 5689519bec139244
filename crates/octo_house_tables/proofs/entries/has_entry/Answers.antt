use Rattle.std.proofs.Common.{arith}
use Rattle.print_queue.specs.Rows.{is_key}
use Rattle.octo_house_tables.proofs.Found.{some-found}
use Rattle.octo_house_tables.proofs.entries.has_entry.Goals as goal

pub returns : goal.returns
returns c = some-found (is_key c.args.user.now c.args.name.now) c.args.rows.now c.place_of-place.result c.place_of-place.ensures.place (omega arith)
