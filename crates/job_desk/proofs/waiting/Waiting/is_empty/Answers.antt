use Rattle.std.proofs.Common.{◌∙◌}
use Rattle.job_desk.proofs.Entries.{same_emptiness}
use Rattle.job_desk.proofs.waiting.Waiting.is_empty.Goals as goal

pub returns-clause-value : goal.returns-clause-value
returns-clause-value c = rw (← c.self.view_is) (c.is_empty.ensures ∙ same_emptiness c.self.inside.scripts c.self.inside.entries.items c.self.invariant)
