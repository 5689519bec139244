use Rattle.std.proofs.Common.{◌≡◌, drop}
use Rattle.octo_house_rules.specs.Answers.{lacking}
use Rattle.octo_house.specs.State.{known_of}
use Rattle.octo_house.proofs.house.House.lacking.Given as goal

-- what is left to test
abbrev pub invariant-loop-permission : goal.invariant-loop-permission
invariant-loop-permission l = lacking (known_of l.self) l.user l.permissions ≡ lacking (known_of l.self) l.user (drop l.permission-index l.permissions)
