use Rattle.std.proofs.Common.{◌≡◌, [], List, Some, sym, subst}
use Rattle.octo_house_run_proof.proofs.LineRecorded.{begin_in_step}
use Rattle.octo_floor_bay.specs.Prints.{IsInStep}
use Rattle.octo_floor_bay.specs.declared.deed.Deed.{Deed}
use Rattle.octo_floor_bay.proofs.Leading.{bay_with}
use Rattle.octo_floor_bay.proofs.bay.Bay.new.Goals as goal

pub returns-clause-tied : goal.returns-clause-tied
returns-clause-tied c kind front suits =
    let none : c.in_ok-deeds.deeds ≡ [] = c.in_ok-deeds.ensures in
    let In : List Deed → Type 0 = λ deeds. IsInStep kind front front (bay_with c.args.session deeds) in
    subst In (sym none) (begin_in_step kind (Some []) front c.args.session c.requires.down c.requires.sound suits)
