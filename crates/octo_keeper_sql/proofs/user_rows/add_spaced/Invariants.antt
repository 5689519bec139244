use Rattle.std.proofs.Common.{◌≡◌, ◌++◌, string_bytes, take}
use Rattle.octo_keeper_sql.specs.Rows.{spaced}
use Rattle.octo_keeper_sql.proofs.user_rows.add_spaced.Given as goal

-- the names so far
abbrev pub invariant-loop-name : goal.invariant-loop-name
invariant-loop-name l = string_bytes l.text ≡ string_bytes l.fn.text ++ spaced (take l.name-index l.names)
