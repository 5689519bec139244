-- Routes that a router takes are in its rows.
use Rattle.std.proofs.Common.{◌≡◌, Result, Ok, Err}
use Rattle.matchit.specs.Rows.{RowsOf}
use Rattle.matchit.specs.Router.{RouteOf, InsertsRead}
use Rattle.matchit.specs.Route.{Scan}
use Rattle.matchit.specs.declared.error.InsertError.{InsertError}
use Rattle.octo_api_routes.specs.Places.{with_scan}
use Rattle.octo_api_routes.specs.declared.place.Place.{Place}

-- a router that took a route has it in its rows
pub inserted : (read : Result Scan InsertError) (place : Place) (old new : RowsOf (RouteOf Place)) (u : Unit {0})
    → InsertsRead read place old new (Ok u) → new ≡ with_scan read place old
inserted (Ok scan) place old new u h = h.1
inserted (Err e) place old new u h = h.0
