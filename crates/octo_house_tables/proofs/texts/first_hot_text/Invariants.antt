use Rattle.std.proofs.Common.{◌≡◌, drop}
use Rattle.job_desk.specs.Views.{bytes_of}
use Rattle.octo_house_rules.specs.Prints.{first_hot_text}
use Rattle.octo_house_tables.proofs.texts.first_hot_text.Given as goal

-- what is left to test
abbrev pub invariant-loop-line : goal.invariant-loop-line
invariant-loop-line l = first_hot_text l.limits (bytes_of l.lines) ≡ first_hot_text l.limits (bytes_of (drop l.line-index l.lines))
