use Rattle.std.proofs.Common.{[], ◌∷◌, ap, subst, ◌∙◌}
use Rattle.octo_asks.specs.declared.answer.Answer.TheVariants as answer
use Rattle.octo_asks.specs.declared.entry.Entry.TheVariants as entry
use Rattle.octo_api_routes.specs.declared.shown.Shown.{Shown}
use Rattle.octo_api_worker.specs.Origins.{origin_lines}
use Rattle.octo_api_worker.specs.Served.{IsReply, answered, ended}
use Rattle.octo_api_worker.proofs.Calls.{added_none, call_of}
use Rattle.octo_api_worker.proofs.reply.reply_to_ask.Goals as goal

pub returns-in-Ok-clause-replied : goal.returns-in-Ok-clause-replied
returns-in-Ok-clause-replied g c origins message is from of_api says callers =
    let Replies : Shown → Type 0 = λ shown. IsReply shown c.in-Ok.answer c.reply_to.result in
    let call = call_of c.args.ask c.in-Ok.answer (g.A.Asker.state c.args.asker.now).mine (g.A.Asker.state c.ask_staged.new.asker).mine c.in-Ok.ensures.ok in (
      entry.Call call.0 c.args.ask call.1 c.in-Ok.answer ∷ [],
      call.2,
      answered c.args.ask call.0 call.1 c.in-Ok.answer c.reply_to.result c.origin_lines.result of_api says callers (subst Replies is c.reply_to.ensures)
          (c.origin_lines.ensures ∙ ap origin_lines from),
    )

pub returns-in-Err-clause-replied : goal.returns-in-Err-clause-replied
returns-in-Err-clause-replied g c origins message is from of_api says callers =
    let Replies : Shown → Type 0 = λ shown. IsReply shown answer.Closed c.reply_to-in-Err.result in (
      [],
      added_none (g.A.Asker.state c.args.asker.now).mine (g.A.Asker.state c.ask_staged.new.asker).mine c.in-Err.ensures.err,
      ended c.args.ask c.reply_to-in-Err.result c.origin_lines-in-Err.result of_api says (subst Replies is c.reply_to-in-Err.ensures)
          (c.origin_lines-in-Err.ensures ∙ ap origin_lines from),
    )
