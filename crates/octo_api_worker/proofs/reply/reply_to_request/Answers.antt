use Rattle.std.proofs.Common.{[], inl, inr, ap, refl, ◌∙◌}
use Rattle.octo_outside.proofs.Recorded.{adds_none}
use Rattle.octo_api_routes.specs.declared.direct.Direct.TheVariants as direct
use Rattle.octo_api_worker.specs.Origins.{origin_lines}
use Rattle.octo_api_worker.specs.Served.{refused}
use Rattle.octo_api_worker.proofs.reply.reply_to_request.Goals as goal

pub returns-in-Err-clause-replied : goal.returns-in-Err-clause-replied
returns-in-Err-clause-replied g c of_api = (
  [],
  adds_none (g.A.Asker.state c.args.asker.now).mine,
  refused direct.NoMemory c.out_of_memory.result c.origin_lines.result of_api (inl refl) (inl c.out_of_memory.ensures)
      (c.origin_lines.ensures ∙ ap origin_lines c.listed-origin.ensures),
)

pub returns-in-Ok-clause-replied : goal.returns-in-Ok-clause-replied
returns-in-Ok-clause-replied g c of_api = c.reply_to_shown.ensures.replied c.args.origins.now c.in-Ok.ensures c.listed-origin.ensures of_api
