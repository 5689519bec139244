-- The requests that callers make.
use Rattle.std.specs.Prelude.{◌≡◌, ◌≢◌}
use Rattle.octo_asks.specs.declared.request.Request.{Request}
use Rattle.octo_asks.specs.declared.request.Request.TheVariants.{Leave, AutoConnect}
use Rattle.octo_api_routes.specs.declared.wanted.Wanted.{Wanted}
use Rattle.octo_api_routes.specs.declared.wanted.Wanted.TheVariants.{Nothing}

-- a caller's request: it is neither the one with which a worker leaves nor the host's own
abbrev pub IsCallers : Request → Type 0
IsCallers request = (request ≢ Leave) × (request ≢ AutoConnect)

-- what a path and a method want is a caller's request, or a body that says one
abbrev pub WantsCallers : Wanted → Type 0
WantsCallers wanted = (request : Request) → wanted ≡ Nothing request → IsCallers request
