use Rattle.octo_floor_bay.proofs.Passes.{passed_stay_out}
use Rattle.octo_floor_bay.proofs.rule_laws.passed_entries_stay_out.Goals as goal

pub returns : goal.returns
returns c = passed_stay_out
