use Rattle.std.proofs.Common.{◌∙◌}
use Rattle.gcode_lines.proofs.Kept.{entries_back, cuts_back}
use Rattle.gcode_lines.proofs.job.Job.packed.Goals as goal

pub returns-clause-entries : goal.returns-clause-entries
returns-clause-entries c =
    rw (← c.self.view_is) (c.entries.ensures ∙ entries_back c.self.inside.file c.self.inside.places.entries c.self.invariant.ends)

pub returns-clause-texts : goal.returns-clause-texts
returns-clause-texts c =
    rw (← c.self.view_is) (cuts_back c.self.inside.file c.self.inside.places.entries c.self.invariant.ends)
