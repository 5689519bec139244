use Rattle.std.proofs.Common.{◌≡◌, ◌++◌, map, take, drop}
use Rattle.octo_keeper.specs.Tables.{user_set}
use Rattle.octo_keeper.proofs.edits.set_users.Given as goal

-- the users so far are set
abbrev pub invariant-loop-held : goal.invariant-loop-held
invariant-loop-held l = l.rows ≡ map (user_set l.row) (take l.held-index l.fn.rows) ++ drop l.held-index l.fn.rows
