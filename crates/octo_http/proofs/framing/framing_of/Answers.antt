use Rattle.octo_http.proofs.FramingLemmas.{by_lengths}
use Rattle.octo_http.proofs.framing.framing_of.Goals as goal

pub returns-in-None-first : goal.returns-in-None-first
returns-in-None-first c = by_lengths _ _ _ _ c.in-Some.ensures c.in-None-first.ensures c.by_length.ensures
