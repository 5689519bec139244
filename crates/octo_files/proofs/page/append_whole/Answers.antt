use Rattle.std.proofs.Common.{ℕ, ◌<◌, ◌≤◌, ◌^◌, length, decimal, arith, lit<}
use Rattle.std.proofs.lemmas.Fmt.{length-decimal-le}
use Rattle.octo_files.proofs.page.append_whole.Goals as goal

short : (n : ℕ) → n < 2 ^ 64 → length (decimal n) ≤ 20
short n below = length-decimal-le 20 n (lit< tt) (omega arith) below

pub append_decimal-requires : goal.append_decimal-requires
append_decimal-requires c = omega (arith, c.requires, short c.args.number c.ranges.number.fits)

pub returns-clause-len : goal.returns-clause-len
returns-clause-len c = omega (arith, c.append_decimal.ensures.len, short c.args.number c.ranges.number.fits)
