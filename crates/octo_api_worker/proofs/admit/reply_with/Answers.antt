use Rattle.std.proofs.Common.{refl, ap, ◌∙◌}
use Rattle.octo_api_worker.specs.Origins.{origin_lines}
use Rattle.octo_api_worker.proofs.admit.reply_with.Goals as goal

pub returns : goal.returns
returns c origins head from = (c.reply_to.result, c.origin_lines.result, refl, c.reply_to.ensures, c.origin_lines.ensures ∙ ap origin_lines from)
