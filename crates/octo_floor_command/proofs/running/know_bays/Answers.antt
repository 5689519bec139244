use Rattle.std.proofs.Common.{◌≤◌, length, arith, subst}
use Rattle.std.specs.Prelude.{All}
use Rattle.std.proofs.lemmas.List.{take_all}
use Rattle.std.proofs.lemmas.List.Elements.{All-more}
use Rattle.octo_floor_bay.specs.Bay.{BayData, IsBay}
use Rattle.octo_floor_command.proofs.running.know_bays.Goals as goal

pub loop-bay-preserved : goal.loop-bay-preserved
loop-bay-preserved c =
    All-more IsBay c.args.bays.now c.loop-bay.bay-index c.bay-item.result (omega arith) c.loop-bay.invariant
    (subst (λ (b : BayData). IsBay b) c.bay-item.is c.session.ensures.bay)

pub returns : goal.returns
returns c =
    let past : length c.args.bays.now ≤ c.loop-bay.bay-index = omega arith in
    subst (λ bays. All IsBay bays) (take_all c.loop-bay.bay-index c.args.bays.now past) c.loop-bay.invariant
