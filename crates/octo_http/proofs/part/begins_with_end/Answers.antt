use Rattle.std.proofs.Common.{sym, ◌∙◌}
use Rattle.memchr.proofs.lemmas.ValueLemmas.{FindsNeedle-zero}
use Rattle.octo_http.specs.Part.{crlf}
use Rattle.octo_http.proofs.part.begins_with_end.Goals as goal

pub returns : goal.returns
returns c =
    let parts = FindsNeedle-zero c.args.bytes.now crlf c.find.result c.find.ensures in
    (λ is. parts.0 (sym c.eq.ensures ∙ is), λ occurs. c.eq.ensures ∙ parts.1 occurs)
