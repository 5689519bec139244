-- Answers that say that keeper or shelf failed.
use Rattle.std.specs.Prelude.{◌≡◌, Bool, true, false, Result, Ok, Err}
use Rattle.job_desk.specs.declared.state.Refusal.{Refusal}
use Rattle.octo_house_rules.specs.Refusals.{answer_of_refusal}
use Rattle.octo_keeper.specs.declared.keeper.KeeperFault.{KeeperFault}
use Rattle.octo_keeper.specs.declared.keeper.KeeperFault.TheVariants as keeper_fault
use Rattle.octo_asks.specs.declared.answer.Answer.{Answer}
use Rattle.octo_asks.specs.declared.answer.Answer.TheVariants as answer
use Rattle.octo_house_rules.specs.Faults.{is_keepers, is_shelfs}

-- neither did
pub record IsPlain (x : Answer) : Type 0 where
  pub keeper : is_keepers x ≡ false
  pub shelf : is_shelfs x ≡ false

-- what the desk said as an answer
abbrev pub answer_of_call : Result (Unit {0}) Refusal → Answer
answer_of_call (Ok done) = answer.Accepted
answer_of_call (Err refusal) = answer_of_refusal refusal

-- whether a keeper's fault was counted
abbrev pub is_failing : KeeperFault → Bool
is_failing keeper_fault.Failed = true
is_failing keeper_fault.NoMemory = false

-- whether a keeper's call failed so
abbrev pub is_failed : {A : Type 0} → Result A KeeperFault → Bool
is_failed (Ok a) = false
is_failed (Err fault) = is_failing fault
