use Rattle.std.proofs.Common.{◌≡◌, ◌++◌, drop}
use Rattle.octo_api_routes.specs.Places.{plain_path}
use Rattle.octo_api_routes.proofs.place.plain_path.Given as goal

-- what was kept, with what is kept of what is left
abbrev pub invariant-loop-place : goal.invariant-loop-place
invariant-loop-place l = l.plain.items ++ plain_path (drop l.place l.path) ≡ plain_path l.path
