use Rattle.octo_http.proofs.FramingLemmas.{no_number}
use Rattle.octo_http.proofs.framing.length_of.Goals as goal

pub returns-in-Err : goal.returns-in-Err
returns-in-Err c = no_number c.args.text.now c.in-Err.ensures.cases.0
