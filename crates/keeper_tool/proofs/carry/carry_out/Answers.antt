-- Neither task ends as the other one.
use Rattle.keeper_tool.proofs.carry.carry_out.Goals as goal

pub returns-in-Show-clause-added : goal.returns-in-Show-clause-added
returns-in-Show-clause-added g c n is = absurd (c.show.ensures.only n is)

pub returns-in-Add-clause-shown : goal.returns-in-Add-clause-shown
returns-in-Add-clause-shown g c is = absurd (c.add_prints.ensures.only is)
