use Rattle.std.proofs.Common.{arith}
use Rattle.job_desk.proofs.Entries.{lines_left-append, HaveLines-append}
use Rattle.job_desk.proofs.waiting.Waiting.add.Goals as goal

pub invariant_of-self : goal.invariant_of-self
invariant_of-self c =
    rw c.push.ensures.items (HaveLines-append c.self.inside.scripts c.self.inside.entries.items _ c.self.invariant
    (omega (arith, c.if-count-gt0.true, c.count.ensures)))

pub returns-then-count-gt0-clause-lines : goal.returns-then-count-gt0-clause-lines
returns-then-count-gt0-clause-lines c =
    rw (c.push.ensures.items, ← c.self.view_is) (lines_left-append c.self.inside.scripts c.self.inside.entries.items _)
