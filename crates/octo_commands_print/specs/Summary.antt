-- What a demo prints.
use Rattle.std.specs.Prelude.{ℕ, List, ◌++◌, codes, decimal}
use Rattle.octo_commands_print.specs.declared.report.DemoCounts.{DemoCounts}

-- the five lines
abbrev pub summary_of : (seed commands : ℕ) → DemoCounts → (status : ℕ) → List ℕ
summary_of seed commands counts status =
    codes "demo seed " ++ decimal seed ++ codes " commands " ++ decimal commands
    ++ codes "\nexecuted " ++ decimal counts.executed ++ codes "\nsent " ++ decimal counts.sent
    ++ codes "\nfaults " ++ decimal counts.faults ++ codes "\nstatus " ++ decimal status ++ codes "\n"
