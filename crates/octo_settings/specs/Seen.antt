-- How values and tables that may be missing are seen.
use Rattle.std.specs.Prelude.{Option, None, Some, option_map, String}
use Rattle.std.specs.Borrow.{Bor}
use Rattle.std.specs.BTreeMap.{BTreeMap}
use Rattle.std.specs.declared.alloc.Global.{Global}
use Rattle.toml.specs.Data.{Data, Members, no_members}
use Rattle.toml.specs.View.{view, table_view}
use Rattle.toml.specs.declared.value.Value.{Value}

-- the data of a value, none if it is missing
abbrev pub data_of_value : Option (Bor Value) → Option Data
data_of_value value = option_map (λ v. view v.now) value

-- the members of a table, none if it is missing
abbrev pub members_or : Option (Bor (BTreeMap (String Global) Value)) → Members
members_or None = no_members
members_or (Some t) = table_view t.now
