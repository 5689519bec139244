use Rattle.octo_http_forms.proofs.Unique.{says_unique}
use Rattle.octo_http_forms.proofs.laws.one_meaning_law.Goals as goal

pub returns : goal.returns
returns c = says_unique
