-- What a reply shows of an answer, by the path.
use Rattle.std.specs.Prelude.{ℕ, List, Option, Some, None}
use Rattle.octo_api_routes.specs.Places.{place_of, plain_path}
use Rattle.octo_api_routes.specs.declared.place.Place.{Place}
use Rattle.octo_api_routes.specs.declared.place.Place.TheVariants as place
use Rattle.octo_api_routes.specs.declared.shown.Shown.{Shown}
use Rattle.octo_api_routes.specs.declared.shown.Shown.TheVariants as shown

-- what the reply at a place shows
abbrev pub shown_at : Option Place → Shown
shown_at (Some place.Server) = shown.Server
shown_at (Some place.Profiles) = shown.Profiles
shown_at (Some place.SystemCommands) = shown.SystemCommands
shown_at (Some place.Login) = shown.Login
shown_at (Some place.Logout) = shown.Logout
shown_at (Some place.Tool) = shown.Tool
shown_at (Some place.Bed) = shown.Bed
shown_at _ = shown.Whole

-- what the reply at a path shows
abbrev pub shown_of : List ℕ → Shown
shown_of path = shown_at (place_of (plain_path path))
