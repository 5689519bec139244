use Rattle.std.proofs.Common.{◌≡◌, drop, map, fold}
use Rattle.octo_api_routes.specs.Places.{with_route, rows_of}
use Rattle.octo_api_routes.proofs.place.router_of.Given as goal

-- the rows so far with those of what is left are those of the table
abbrev pub invariant-loop-route : goal.invariant-loop-route
invariant-loop-route l =
    fold with_route l.router (map (λ route. (route.0.now, route.1)) (drop l.route-index l.table)) ≡ rows_of (map (λ route. (route.0.now, route.1)) l.table)
