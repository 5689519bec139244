-- The fields of JSON bodies that name things.
use Rattle.std.specs.Prelude.{ℕ, List, if◌then◌else◌, Option, Some, None, option_and_then}
use Rattle.serde_json.specs.Data.{Data}
use Rattle.serde_json.specs.Find.{get, as_str}
use Rattle.octo_access.specs.Names.{name_of}
use Rattle.octo_access.specs.FileNames.{file_name_of}
use Rattle.octo_api_routes.specs.Ascii.{is_key}
use Rattle.octo_api_commands.specs.Members.{or_default}

-- a JSON text as a name
abbrev pub as_name : Data → Option (List ℕ)
as_name found = option_and_then name_of (as_str found)

-- a field with a name, which may have a default
abbrev pub name_at : List ℕ → Option (List ℕ) → Data → Option (List ℕ)
name_at key default body = or_default default as_name (get key body)

-- a JSON text as the name of a file
abbrev pub as_file_name : Data → Option (List ℕ)
as_file_name found = option_and_then file_name_of (as_str found)

-- the name of a file
abbrev pub file_at : List ℕ → Data → Option (List ℕ)
file_at key body = option_and_then as_file_name (get key body)

-- a caller's key
abbrev pub key_of : List ℕ → Option (List ℕ)
key_of text = if is_key text then Some text else None

-- a JSON text as a caller's key
abbrev pub as_key : Data → Option (List ℕ)
as_key found = option_and_then key_of (as_str found)
