use Rattle.std.proofs.Common.{rules, ◌≡◌, ◌<◌, false, ap, ◌∙◌, arith}
use Rattle.octo_serve.specs.Views.{house_of}
use Rattle.octo_serve.specs.Ends.{HouseData, slots_for}
use Rattle.octo_serve.proofs.Sitting.{notes_as}
use Rattle.octo_serve.proofs.Counting.{seated_house, within_words}
use Rattle.octo_serve.proofs.house_end.HouseEndCounter.note.Goals as goal

pub compare_exchange_with-requires : goal.compare_exchange_with-requires
compare_exchange_with-requires c = let inv = c.self.invariant in let me = c.self.inside.seat.me in
    let running : (house_of me.0).closed ≡ false = ap (λ (d : HouseData). d.view.closed) c.self.view_is ∙ c.requires.open in
    let same : c.self.inside.seat.table_id ≡ c.deref.result.now.shared.table_id = search rules in
    let near : 0 < 5 = omega arith in (
      same,
      within_words _ _ 0 same inv.1 near,
      notes_as _ _ me (seated_house me) c.args.note (slots_for (house_of me.0).taken) inv.3 running,
    )
