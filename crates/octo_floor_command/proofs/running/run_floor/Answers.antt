use Rattle.std.proofs.Common.{ap, refl, arith}
use Rattle.octo_floor_command.specs.Running.{by_settings}
use Rattle.octo_floor_command.specs.declared.running.FloorDone.{FloorDone}
use Rattle.octo_floor_command.proofs.Runs.{without_settings}
use Rattle.octo_floor_command.proofs.running.run_floor.Goals as goal

pub returns-in-Ok-clause-floors : goal.returns-in-Ok-clause-floors
returns-in-Ok-clause-floors g c = by_settings c.in-Ok.settings _ _ c.in-Ok.ensures.exact c.run_by.ensures.runs

pub returns-in-Err-clause-floors : goal.returns-in-Err-clause-floors
returns-in-Err-clause-floors g c =
    without_settings _ _ _ _ _ c.in-Err.report _ _ (ap (λ (d : FloorDone). d.report) c.unrun.ensures) (ap (λ (d : FloorDone). d.floor) c.unrun.ensures)
    c.in-Err.ensures.exact (record { links = refl; tables = refl; files = refl; keeper = omega arith; shelf = omega arith })

pub run_by-requires-clause-suits : goal.run_by-requires-clause-suits
run_by-requires-clause-suits g c κs lives = c.requires.suits c.in-Ok.settings c.in-Ok.ensures.exact
