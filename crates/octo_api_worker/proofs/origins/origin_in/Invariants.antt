use Rattle.std.proofs.Common.{◌≡◌, drop}
use Rattle.octo_api_worker.specs.Origins.{origin_in}
use Rattle.octo_api_worker.proofs.origins.origin_in.Given as goal

abbrev pub invariant-loop-origin : goal.invariant-loop-origin
invariant-loop-origin l = origin_in l.origins l.text ≡ origin_in (drop l.origin-index l.origin-items) l.text
