use Rattle.octo_http.proofs.GrammarParts.{ends_at_once, ends_later}
use Rattle.octo_http.proofs.part.look_trailers.Goals as goal

pub returns-then-begins_with_end-clause-found : goal.returns-then-begins_with_end-clause-found
returns-then-begins_with_end-clause-found c = ends_at_once c.args.bytes.now c.requires (c.begins_with_end.ensures.0 c.if-begins_with_end.true)

pub returns-in-Some-clause-found : goal.returns-in-Some-clause-found
returns-in-Some-clause-found c =
    ends_later c.args.bytes.now c.in-Some.place c.requires
    (λ first. let yes = c.begins_with_end.ensures.1 first in let no = c.if-begins_with_end.false in cc)
    c.in-Some.ensures.0 c.in-Some.ensures.1
