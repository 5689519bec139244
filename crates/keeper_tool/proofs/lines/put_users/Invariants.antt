use Rattle.std.proofs.Common.{◌≡◌, ◌++◌, drop, flat_map}
use Rattle.keeper_tool.specs.Lines.{user_line}
use Rattle.keeper_tool.proofs.lines.put_users.Given as goal

-- the text so far, with the lines that are left, is the whole
abbrev pub invariant-loop-user : goal.invariant-loop-user
invariant-loop-user l = l.fn.text ++ flat_map user_line l.users ≡ l.text ++ flat_map user_line (drop l.user-index l.users)
