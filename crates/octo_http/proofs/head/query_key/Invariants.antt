use Rattle.std.proofs.Common.{◌≡◌, true, drop}
use Rattle.octo_http.specs.Fields.{query_key}
use Rattle.octo_http.proofs.head.query_key.Given as goal

-- what is left has the key
abbrev pub invariant-loop-place : goal.invariant-loop-place
invariant-loop-place l = query_key l.begins (drop l.place l.query) ≡ query_key true l.query
