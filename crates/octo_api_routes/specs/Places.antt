-- What the paths of the interface mean.
use Rattle.std.specs.Prelude.{ℕ, Bool, true, false, ◌&&◌, List, [], ◌∷◌, length, drop, take, fold, codes, if◌then◌else◌, Option, Some, None, option_map, option_and_then, Result, Ok, Err, ◌==◌, ◌+◌, not}
use Rattle.std.specs.List.{prefix_len, list_all}
use Rattle.percent_encoding.specs.Percent.{percent_decode}
use Rattle.matchit.specs.Rows.{RowsOf}
use Rattle.matchit.specs.Order.{placed}
use Rattle.matchit.specs.Seek.{first}
use Rattle.matchit.specs.Route.{Scan, parse_route}
use Rattle.matchit.specs.Router.{RouteOf, route_from}
use Rattle.matchit.specs.declared.error.InsertError.{InsertError}
use Rattle.octo_access.specs.Names.{name_of}
use Rattle.octo_access.specs.FileNames.{file_name_of}
use Rattle.octo_api_routes.specs.Ascii.{is_ascii_byte}
use Rattle.octo_api_routes.specs.declared.place.Place.{Place}
use Rattle.octo_api_routes.specs.declared.place.Place.TheVariants as place
use Rattle.octo_api_routes.specs.declared.target.Target.{Target}
use Rattle.octo_api_routes.specs.declared.target.Target.TheVariants as target

-- each path, with `{..}` for one of its parts
unfoldable pub routes : List (List ℕ × Place)
routes =
    (codes "/api/version", place.Version)
    ∷ (codes "/api/connection", place.Connection)
    ∷ (codes "/api/printer", place.Printer)
    ∷ (codes "/api/printer/tool", place.Tool)
    ∷ (codes "/api/printer/bed", place.Bed)
    ∷ (codes "/api/printer/command", place.Command)
    ∷ (codes "/api/job", place.Job)
    ∷ (codes "/api/files", place.AllFiles)
    ∷ (codes "/api/files/local", place.Files)
    ∷ (codes "/api/files/local/{name}", place.File)
    ∷ (codes "/downloads/files/local/{name}", place.Download)
    ∷ (codes "/api/access/users", place.Users)
    ∷ (codes "/api/access/users/{name}", place.User)
    ∷ (codes "/api/queue", place.Queue)
    ∷ (codes "/api/queue/{name}", place.Entry)
    ∷ (codes "/api/queue/{user}/{name}", place.OthersEntry)
    ∷ (codes "/api/queue-next", place.NextEntry)
    ∷ (codes "/api/prints", place.Prints)
    ∷ (codes "/api/system/commands/core/backup", place.Backup)
    ∷ (codes "/api/system/commands/core/shutdown", place.Shutdown)
    ∷ (codes "/api/server", place.Server)
    ∷ (codes "/api/settings", place.Settings)
    ∷ (codes "/api/printerprofiles", place.Profiles)
    ∷ (codes "/api/system/commands", place.SystemCommands)
    ∷ (codes "/api/login", place.Login)
    ∷ (codes "/api/logout", place.Logout)
    ∷ (codes "/api/currentuser", place.CurrentUser)
    ∷ (codes "/api/printer/printhead", place.Printhead)
    ∷ []

-- the rows of a router after one more route
abbrev pub with_scan : Result Scan InsertError → Place → RowsOf (RouteOf Place) → RowsOf (RouteOf Place)
with_scan (Ok scan) place rows = placed (scan.pattern, route_from scan place) rows
with_scan (Err error) place rows = rows

-- the rows of a router after one more path and its place
abbrev pub with_route : RowsOf (RouteOf Place) → List ℕ × Place → RowsOf (RouteOf Place)
with_route rows route = with_scan (parse_route route.0) route.1 rows

-- the rows of a router of these routes
abbrev pub rows_of : List (List ℕ × Place) → RowsOf (RouteOf Place)
rows_of table = fold with_route [] table

-- what a path means; one that isn't ASCII means nothing
abbrev pub place_of : List ℕ → Option Place
place_of path =
    if list_all is_ascii_byte path then option_map (λ (route : RouteOf Place). route.value) (first (rows_of routes) path) else None

-- the text that a part of a path is percent-encoded from, as a name
abbrev pub name_of_part : List ℕ → Option (List ℕ)
name_of_part part = name_of (percent_decode part)

-- the same as the name of a file
abbrev pub file_name_of_part : List ℕ → Option (List ℕ)
file_name_of_part part = file_name_of (percent_decode part)

-- a byte that is no slash
abbrev pub is_no_slash : ℕ → Bool
is_no_slash byte = not (byte == 47)

-- how many bytes are in front of the first slash
abbrev pub before_slash : List ℕ → ℕ
before_slash parts = prefix_len is_no_slash parts

-- a user and a name, with a slash between them
abbrev pub others_entry : List ℕ → Option Target
others_entry parts =
    option_and_then
    (λ user. option_map (target.OthersEntry user) (name_of_part (drop (before_slash parts + 1) parts)))
    (name_of_part (take (before_slash parts) parts))

-- what a request is about, with the names in the path
abbrev pub target_at : Place → List ℕ → Option Target
target_at place.Version path = Some target.Version
target_at place.Connection path = Some target.Connection
target_at place.Printer path = Some target.Printer
target_at place.Tool path = Some target.Tool
target_at place.Bed path = Some target.Bed
target_at place.Command path = Some target.Command
target_at place.Job path = Some target.Job
target_at place.AllFiles path = Some target.AllFiles
target_at place.Files path = Some target.Files
target_at place.File path = option_map target.File (file_name_of_part (drop (length (codes "/api/files/local/")) path))
target_at place.Download path = option_map target.Download (file_name_of_part (drop (length (codes "/downloads/files/local/")) path))
target_at place.Users path = Some target.Users
target_at place.User path = option_map target.User (name_of_part (drop (length (codes "/api/access/users/")) path))
target_at place.Queue path = Some target.Queue
target_at place.Entry path = option_map target.Entry (name_of_part (drop (length (codes "/api/queue/")) path))
target_at place.OthersEntry path = others_entry (drop (length (codes "/api/queue/")) path)
target_at place.NextEntry path = Some target.NextEntry
target_at place.Prints path = Some target.Prints
target_at place.Backup path = Some target.Backup
target_at place.Shutdown path = Some target.Shutdown
target_at place.Server path = Some target.Server
target_at place.Settings path = Some target.Settings
target_at place.Profiles path = Some target.Profiles
target_at place.SystemCommands path = Some target.SystemCommands
target_at place.Login path = Some target.Login
target_at place.Logout path = Some target.Logout
target_at place.CurrentUser path = Some target.CurrentUser
target_at place.Printhead path = Some target.Printhead

-- whether a part of a path has ended before these bytes
abbrev pub ends_part : List ℕ → Bool
ends_part [] = true
ends_part (byte ∷ bytes) = byte == 47

-- a path without its empty parts: each slash is left out that has a slash or nothing after it
abbrev pub plain_path : List ℕ → List ℕ
plain_path [] = []
plain_path (byte ∷ bytes) = if byte == 47 && ends_part bytes then plain_path bytes else byte ∷ plain_path bytes

-- what a path without empty parts is about
abbrev pub target_on : List ℕ → Option Target
target_on path = option_and_then (λ at. target_at at path) (place_of path)

-- what a path is about, none if it is no path of the interface
abbrev pub target_of : List ℕ → Option Target
target_of path = target_on (plain_path path)

-- a place whose path has names
abbrev pub has_name : Place → Bool
has_name place.File = true
has_name place.Download = true
has_name place.User = true
has_name place.Entry = true
has_name place.OthersEntry = true
has_name _ = false
