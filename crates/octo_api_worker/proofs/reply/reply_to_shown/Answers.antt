use Rattle.std.proofs.Common.{[], ap, ◌∙◌}
use Rattle.octo_outside.proofs.Recorded.{adds_none}
use Rattle.octo_api_worker.specs.Origins.{direct_lines}
use Rattle.octo_api_worker.specs.Served.{refused}
use Rattle.octo_api_worker.proofs.reply.reply_to_shown.Goals as goal

pub returns-in-Err-clause-replied : goal.returns-in-Err-clause-replied
returns-in-Err-clause-replied g c origins is from of_api = (
  [],
  adds_none (g.A.Asker.state c.args.asker.now).mine,
  refused c.in-Err.direct c.direct_bytes.result c.direct_lines.result of_api c.in-Err.ensures.says c.direct_bytes.ensures
      (c.direct_lines.ensures ∙ ap (direct_lines c.in-Err.direct) from),
)

pub returns-in-Ok-clause-replied : goal.returns-in-Ok-clause-replied
returns-in-Ok-clause-replied g c origins is from of_api =
    c.reply_to_ask.ensures.replied origins c.args.message is from of_api c.in-Ok.ensures.says c.in-Ok.ensures.callers
