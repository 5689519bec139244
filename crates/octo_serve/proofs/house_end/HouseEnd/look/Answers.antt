use Rattle.std.proofs.Common.{rules, ◌≡◌, ◌+◌, ◌<◌, false, refl, ap, ◌∙◌, arith, Option, Some, None, is_some}
use Rattle.octo_serve.specs.declared.board.Letter.{Letter}
use Rattle.octo_serve.specs.declared.board.Letter.TheVariants.{Asked}
use Rattle.octo_serve.specs.Views.{house_of}
use Rattle.octo_serve.specs.Steps.{ask_in}
use Rattle.octo_serve.specs.Ends.{HouseData}
use Rattle.octo_serve.proofs.Sitting.{house_at, looks_as}
use Rattle.octo_serve.proofs.Counting.{seated_house, within_words, sized_at, still_running, same_four, missed_seat, missed_near, in_slot, hit_letter, hit_at, hit_seat, hit_near}
use Rattle.octo_serve.proofs.house_end.HouseEnd.look.Goals as goal

pub load-requires : goal.load-requires
load-requires c = let inv = c.self.invariant in let me = c.self.inside.seat.me in
    let untaken : (house_of me.0).taken ≡ None = ap (λ (d : HouseData). d.view.taken) c.self.view_is ∙ c.requires.answered in
    let running : (house_of me.0).closed ≡ false = ap (λ (d : HouseData). d.view.closed) c.self.view_is ∙ c.requires.open in
    let same : c.self.inside.seat.table_id ≡ c.deref.result.now.shared.table_id = search rules in
    let near : c.args.worker + 1 < 5 = let n = c.requires.worker in omega arith in (
      same,
      within_words _ _ _ same inv.1 near,
      looks_as _ _ me (seated_house me) c.args.worker (house_at me None inv.3 untaken) c.requires.worker untaken running,
    )

pub invariant_of-self : goal.invariant_of-self
invariant_of-self c = let inv = c.self.invariant in let me = c.self.inside.seat.me in let now = c.load.new.seat.me in
    let untaken : (house_of me.0).taken ≡ None = ap (λ (d : HouseData). d.view.taken) c.self.view_is ∙ c.requires.answered in
    let told = (c.load.ensures.2 c.args.worker refl).1 c.if-load-ne-ASKED.true in
    let running : (house_of now.0).closed ≡ false = ap (λ m. (house_of m.0).closed) told ∙ (ap (λ (d : HouseData). d.view.closed) c.self.view_is
    ∙ c.requires.open) in (
      c.load.ensures.0 ∙ inv.0,
      sized_at _ _ c.load.ensures.0 inv.1,
      inv.2,
      missed_seat me now c.args.worker c.load.result inv.3 untaken told,
      missed_near me now c.args.worker c.load.result inv.3 untaken told,
      still_running _ _ running,
      same_four _ _ (ap (λ m. (house_of m.0).history) told) inv.6,
    )

pub exchange-letter-requires : goal.exchange-letter-requires
exchange-letter-requires c = let now = c.load.new.seat.me in let hit = (c.load.ensures.2 c.args.worker refl).0 c.if-load-ne-ASKED.false in (
  search rules,
  (Some (Asked hit.0), in_slot now c.args.worker hit.0 (ap (λ m. m.1) hit.1)),
)

pub ask_in-requires : goal.ask_in-requires
ask_in-requires c = let hit = (c.load.ensures.2 c.args.worker refl).0 c.if-load-ne-ASKED.false in let old = c.self.inside.seat.me in
    let x = c.exchange-letter.ensures in
    ap (λ (l : Option Letter). is_some (ask_in l)) (hit_letter old c.load.new.seat.me c.exchange-letter.new.seat.me c.args.worker c.load.result hit.0 hit.0
    c.exchange-letter.result c.self.invariant.3 hit.1 x.2 x.3)

pub invariant_of-self-2 : goal.invariant_of-self-2
invariant_of-self-2 c = let inv = c.self.invariant in let me = c.self.inside.seat.me in let mid = c.load.new.seat.me in
    let now = c.exchange-letter.new.seat.me in
    let w = c.args.worker in let found = c.load.result in let letter = c.exchange-letter.result in
    let hit = (c.load.ensures.2 w refl).0 c.if-load-ne-ASKED.false in let x = c.exchange-letter.ensures in
    let at = hit_at me mid now w found hit.0 hit.0 letter inv.3 hit.1 x.2 x.3 in
    let running : (house_of now.0).closed ≡ false = ap (λ m. (house_of m.0).closed) at ∙ (ap (λ (d : HouseData). d.view.closed) c.self.view_is
    ∙ c.requires.open) in (
      x.0 ∙ (c.load.ensures.0 ∙ inv.0),
      sized_at _ _ (x.0 ∙ c.load.ensures.0) inv.1,
      inv.2,
      hit_seat me mid now w found hit.0 hit.0 letter inv.3 hit.1 x.2 x.3,
      hit_near me mid now w found hit.0 hit.0 letter inv.3 hit.1 x.2 x.3 c.requires.worker,
      still_running _ _ running,
      same_four _ _ (ap (λ m. (house_of m.0).history) at) inv.6,
    )
