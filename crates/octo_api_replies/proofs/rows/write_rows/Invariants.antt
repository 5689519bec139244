use Rattle.std.proofs.Common.{◌≡◌, ◌++◌, drop}
use Rattle.octo_api_replies.specs.Tokens.{rows_tokens}
use Rattle.octo_api_replies.proofs.rows.write_rows.Given as goal

-- the tokens so far and those of the rows that are left make the tokens of all rows
abbrev pub invariant-loop-row : goal.invariant-loop-row
invariant-loop-row l =
    (l.out.tokens ++ rows_tokens (drop l.row-index l.rows) ≡ l.fn.out.tokens ++ rows_tokens l.rows) × (l.out.before ≡ l.fn.out.before)
