use Rattle.std.proofs.Common.{rules, ◌≡◌, ◌<◌, ◌≤◌, true, length, refl, subst, arith}
use Rattle.std.proofs.lemmas.Option.{slice_get_within}
use Rattle.octo_floor_bay.specs.Bay.{BayData}
use Rattle.octo_floor.specs.Phases.{IsAtRest}
use Rattle.octo_floor.specs.Floor.{FloorData, IsFloor}
use Rattle.octo_floor.specs.Run.{has_left}
use Rattle.octo_floor.proofs.Floors.{all_at}
use Rattle.octo_floor.proofs.Leaves.{left_idle}
use Rattle.octo_floor.proofs.Places.{place}
use Rattle.octo_floor.proofs.floor.Floor.is_over.Goals as goal

pub returns-then-not-is_idle-clause-no : goal.returns-then-not-is_idle-clause-no
returns-then-not-is_idle-clause-no c is left =
    let f : IsFloor c.args.self.now = subst (λ (g : FloorData). IsFloor g) c.self.view_is c.self.invariant in
    let within : c.loop-printer.printer < length c.args.self.now.bays = search rules in
    let same = f.materials in
    let bay = place c.args.self.now.bays c.loop-printer.printer within in
    let material = place c.args.self.now.materials c.loop-printer.printer (omega (arith, within, same)) in
    let rests = all_at (λ (b : BayData). IsAtRest b.session) c.args.self.now.bays c.loop-printer.printer bay.0 f.at_rest bay.1 in
    let gone = all_at (λ (b : BayData). has_left b ≡ true) c.args.self.now.bays c.loop-printer.printer bay.0 left bay.1 in
    c.if-not-is_idle.ensures.no bay.0 material.0 bay.1 material.1 refl (left_idle c.args.self.now.ledger material.0 bay.0 rests gone)

pub returns-clause-yes : goal.returns-clause-yes
returns-clause-yes c is printer b material at own =
    let within : printer < length c.args.self.now.bays = slice_get_within c.args.self.now.bays printer b at in
    let done : length c.args.self.now.bays ≤ c.loop-printer.printer = search rules in
    c.loop-printer.invariant printer b material (omega (arith, within, done)) at own
