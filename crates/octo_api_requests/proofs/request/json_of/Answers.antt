use Rattle.std.proofs.Common.{arith}
use Rattle.octo_api_requests.specs.Requests.{json, no_json}
use Rattle.octo_api_requests.proofs.request.json_of.Goals as goal

pub returns-in-Ok-clause-ok : goal.returns-in-Ok-clause-ok
returns-in-Ok-clause-ok c = json _ c.in-Ok.ensures.ok.0 c.in-Ok.ensures.ok.1

pub returns-else-is_memory-clause-ok : goal.returns-else-is_memory-clause-ok
returns-else-is_memory-clause-ok c = no_json (c.in-Err.ensures.err (λ m. grind (arith, c.is_memory.ensures.1 m, c.if-is_memory.false)))
