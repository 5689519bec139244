use Rattle.job_desk.specs.Run.{run_of}
use Rattle.std.proofs.Common.{[], refl, sym, subst}
use Rattle.octo_floor_bay.specs.Bay.{BayData, IsBay, RunsOn, run_in}
use Rattle.octo_floor_bay.specs.Deeds.{calls_at}
use Rattle.octo_floor_bay.specs.Fields.{bay_of}
use Rattle.octo_floor_bay.specs.Prints.{IsInStep}
use Rattle.octo_floor_bay.specs.declared.deed.Deed.TheVariants as deed
use Rattle.octo_floor_bay.proofs.Leading.{disconnected_bay, bay_with, did}
use Rattle.octo_floor_bay.proofs.Running.{asked_runs, runs_same}
use Rattle.octo_floor_bay.proofs.Tying.{called_in_step}
use Rattle.octo_floor_bay.proofs.bay.Bay.disconnect.Goals as goal

pub invariant_of-self : goal.invariant_of-self
invariant_of-self c =
    let old : BayData = bay_of c.self.inside in
    subst IsBay (sym (did old deed.Disconnected c.disconnect.new.self c.add.new.self c.disconnect.ensures.after c.add.ensures))
    (disconnected_bay old c.self.invariant)

pub returns-clause-bay : goal.returns-clause-bay
returns-clause-bay c = invariant_of-self c

pub returns-clause-tied : goal.returns-clause-tied
returns-clause-tied c kind front past step =
    let old : BayData = bay_of c.self.inside in
    let In : BayData → Type 0 = λ b. IsInStep kind front past b in
    subst In (sym (did old deed.Disconnected c.disconnect.new.self c.add.new.self c.disconnect.ensures.after c.add.ensures))
    (called_in_step kind front past old deed.Disconnected tt (subst In (sym c.self.view_is) step))

pub returns-clause-run : goal.returns-clause-run
returns-clause-run c =
    let old : BayData = bay_of c.self.inside in
    let New : BayData → Type 0 = λ b. RunsOn [] [] (run_in old) (run_in b) in
    let Old : BayData → Type 0 = λ b. RunsOn [] [] (run_in b) (run_in (bay_with c.disconnect.new.self c.add.new.self)) in
    let so = asked_runs [] [] old deed.Disconnected (runs_same (run_in old) (run_of (calls_at deed.Disconnected) (run_in old)) refl refl) in
    subst Old c.self.view_is (subst New (sym (did old deed.Disconnected c.disconnect.new.self c.add.new.self c.disconnect.ensures.after c.add.ensures)) so)
