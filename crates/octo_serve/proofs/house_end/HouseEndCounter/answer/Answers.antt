use Rattle.std.proofs.Common.{rules, ◌≡◌, ◌+◌, ◌<◌, false, sym, ap, ◌∙◌, arith}
use Rattle.octo_serve.specs.Views.{house_of}
use Rattle.octo_serve.specs.Ends.{HouseData}
use Rattle.octo_asks.specs.History.{IsGiven}
use Rattle.octo_serve.proofs.Sitting.{answers_as}
use Rattle.octo_serve.proofs.Counting.{seated_house, within_words, given_is, given_near, answer_at}
use Rattle.octo_serve.proofs.house_end.HouseEndCounter.answer.Goals as goal

pub store-requires : goal.store-requires
store-requires c = let inv = c.self.invariant in let me = c.self.inside.seat.me in let mid = c.write_letter.new.seat.me in let w = c.args.worker in
    let g = c.requires.given in
    let given : IsGiven w (house_of me.0).taken = (g.0, ap (λ (d : HouseData). d.view.taken) c.self.view_is ∙ g.1, g.2) in
    let running : (house_of me.0).closed ≡ false = ap (λ (d : HouseData). d.view.closed) c.self.view_is ∙ c.requires.open in
    let same : c.write_letter.new.seat.table_id ≡ c.deref.result.now.shared.table_id = search rules in
    let near = given_near me w inv.3 given inv.4 in
    let close : w + 1 < 5 = let n = near in omega arith in (
      same,
      within_words _ _ _ (sym c.write_letter.ensures.table ∙ same) inv.1 close,
      answers_as _ _ mid (seated_house me) w g.0.ask c.args.moment c.args.answer
          (answer_at me w inv.3 given mid mid c.args.moment c.args.answer c.write_letter.ensures.written) near (given_is me w inv.3 given) running,
    )
