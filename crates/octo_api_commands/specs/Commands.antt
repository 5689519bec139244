-- Commands of JSON bodies.
use Rattle.std.specs.Prelude.{ℕ, List, Option, Some, None, option_and_then}
use Rattle.serde_json.specs.Data.{Data}
use Rattle.serde_json.specs.Find.{as_str}
use Rattle.octo_api_commands.specs.Filled.{filled}

-- a command as it is sent: with `parameters` in the place of their names
abbrev pub as_command : Option Data → Data → Option (List ℕ)
as_command None found = as_str found
as_command (Some parameters) found = option_and_then (filled parameters) (as_str found)
