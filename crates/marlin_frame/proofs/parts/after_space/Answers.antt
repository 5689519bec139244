use Rattle.std.proofs.Common.{sym, ◌∙◌}
use Rattle.marlin_frame.proofs.PartLaws.{after_space-some, after_space-none}
use Rattle.marlin_frame.proofs.parts.after_space.Goals as goal

pub returns-then-starts_with : goal.returns-then-starts_with
returns-then-starts_with c = c.after.ensures ∙ after_space-some c.args.bytes.now (sym c.starts_with.ensures.value ∙ c.if-starts_with.true)

pub returns-else-starts_with : goal.returns-else-starts_with
returns-else-starts_with c = after_space-none c.args.bytes.now (sym c.starts_with.ensures.value ∙ c.if-starts_with.false)
