use Rattle.std.proofs.Common.{rules, ◌≡◌, ◌<◌, arith}
use Rattle.octo_serve.proofs.Joining.{splits_as}
use Rattle.octo_serve.proofs.Counting.{within_words}
use Rattle.octo_serve.proofs.workers.worker_end.Goals as goal

pub split_seat-seat-requires : goal.split_seat-seat-requires
split_seat-seat-requires g c = let near : 0 < 5 = omega arith in let same : c.args.house.now.table_id ≡ c.deref.result.now.shared.table_id = search rules in (
  same,
  within_words _ _ 0 same c.requires.table.1 near,
  splits_as _ _ _ c.requires.house c.requires.table.2,
)
