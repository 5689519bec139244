use Rattle.memchr.proofs.lemmas.ValueLemmas.{FindsNeedle-value}
use Rattle.octo_http_forms.proofs.part.first_place.Goals as goal

pub returns-clause-value : goal.returns-clause-value
returns-clause-value c = FindsNeedle-value c.args.bytes.now c.args.needle.now c.find.result c.find.ensures
