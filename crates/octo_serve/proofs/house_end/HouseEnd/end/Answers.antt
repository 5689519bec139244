use Rattle.std.proofs.Common.{rules, ◌≡◌, ◌<◌, sym, ap, ◌∙◌, subst, arith}
use Rattle.octo_serve.specs.Views.{house_of, AreCalls}
use Rattle.octo_serve.specs.Ends.{HouseData}
use Rattle.octo_serve.proofs.Sitting.{house_at, learns_as}
use Rattle.octo_serve.proofs.Joining.{as_house, all_calls}
use Rattle.octo_serve.proofs.Counting.{within_words, sized_at}
use Rattle.octo_serve.proofs.house_end.HouseEnd.end.Goals as goal

pub join-requires-clause-house : goal.join-requires-clause-house
join-requires-clause-house g c = let inv = c.self.invariant in let ended = ap (λ (d : HouseData). d.view.closed) c.self.view_is ∙ c.requires.closed in
    as_house _ _ (house_at c.self.inside.seat.me _ inv.3 (inv.5 ended))

pub load-requires : goal.load-requires
load-requires g c = let near : 0 < 5 = omega arith in
    let same : c.join-4.new.house.table_id ≡ c.deref-5.result.now.shared.table_id = search rules in
    let own = c.join-4.ensures.table ∙ (c.join-3.ensures.table ∙ (c.join-2.ensures.table ∙ c.join.ensures.table)) in (
      same,
      within_words _ _ 0 same (sized_at _ _ own c.self.invariant.1) near,
      learns_as _ _ _ _ c.join-4.ensures.joined,
    )

pub returns-clause-calls : goal.returns-clause-calls
returns-clause-calls g c = let told = c.load.ensures.2 in
    subst (λ m. AreCalls (house_of m.0).history 0 (house_of m.0).joined) (sym told.0) (all_calls c.join-4.new.house.me told.2)
