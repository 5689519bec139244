use Rattle.std.proofs.Common.{arith}
use Rattle.octo_log.proofs.Logs.{decimal_short}
use Rattle.octo_log_link.proofs.progress_words.append_count.Goals as goal

pub append_decimal-requires : goal.append_decimal-requires
append_decimal-requires c = omega (arith, c.requires, decimal_short c.args.number c.ranges.number.fits)

pub returns-clause-few : goal.returns-clause-few
returns-clause-few c = omega (arith, c.append_decimal.ensures.len, decimal_short c.args.number c.ranges.number.fits)
