use Rattle.octo_http.proofs.ReplyLemmas.{phrase_known, phrase_unknown}
use Rattle.octo_http.proofs.reply.phrase_of.Goals as goal

pub returns-in-Ok-clause-value : goal.returns-in-Ok-clause-value
returns-in-Ok-clause-value c = phrase_known c.args.status _ _ c.in-Ok.ensures.0 c.in-Ok.ensures.1 c.reason_of.ensures.value

pub returns-in-Err-clause-value : goal.returns-in-Err-clause-value
returns-in-Err-clause-value c = phrase_unknown c.args.status c.in-Err.ensures
