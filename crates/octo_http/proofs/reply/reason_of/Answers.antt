use Rattle.octo_http.proofs.ReplyLemmas.{reason_found, short_text}
use Rattle.octo_http.proofs.reply.reason_of.Goals as goal

pub returns-in-Some-clause-value : goal.returns-in-Some-clause-value
returns-in-Some-clause-value c = reason_found _ c.args.code.now c.in-Some.ensures.value

pub returns-in-Some-clause-short : goal.returns-in-Some-clause-short
returns-in-Some-clause-short c = short_text _ c.args.code.now (reason_found _ c.args.code.now c.in-Some.ensures.value)

pub returns-in-None-clause-value : goal.returns-in-None-clause-value
returns-in-None-clause-value c = reason_found _ c.args.code.now c.in-None.ensures.value
