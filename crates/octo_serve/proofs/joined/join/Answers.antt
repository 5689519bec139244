use Rattle.std.proofs.Common.{rules, ◌<◌, refl, sym, ap, ◌∙◌, arith}
use Rattle.octo_serve.specs.Views.{worker_of}
use Rattle.octo_serve.specs.Ends.{WorkerData}
use Rattle.octo_serve.proofs.Joining.{joins_as}
use Rattle.octo_serve.proofs.Counting.{within_words}
use Rattle.octo_serve.proofs.joined.join.Goals as goal

pub join_seat-requires : goal.join_seat-requires
join_seat-requires g c = let inv = c.worker.invariant in let him = c.worker.inside.seat.me in let number = ap (λ m. (worker_of m.0).number) inv.3 in
    let near : 0 < 5 = omega arith in (
      search rules,
      ap (λ (d : WorkerData). d.table) c.worker.view_is ∙ c.requires.table.2,
      ap (λ m. m.1) inv.3,
      within_words c.args.words.now.table_id c.args.words.now.table_id 0 refl c.requires.table.1 near,
      joins_as _ _ _ him _ _ c.requires.house inv.3 c.requires.closed refl (sym number ∙ (ap (λ (d : WorkerData). d.view.number) c.worker.view_is
          ∙ c.requires.order)),
    )
