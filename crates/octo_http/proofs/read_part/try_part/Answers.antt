use Rattle.std.proofs.Common.{arith, ap, length}
use Rattle.octo_http.proofs.Filling.{on_exit}
use Rattle.octo_http.proofs.PartLemmas.{same_front, refuses_part, too_long, partless}
use Rattle.octo_http.proofs.read_part.try_part.Goals as goal

pub returns-in_err-number-clause-refused : goal.returns-in_err-number-clause-refused
returns-in_err-number-clause-refused c =
    on_exit _ c.in_err-number.field-0.0 _ c.from_residual.ensures.1
    (refuses_part c.args.part _ _ _ (same_front _ _ _ _ _ c.front_of.ensures c.most-most.ensures c.bytes-bytes.ensures) c.in_err-number.ensures.bad)

pub returns-in-None-clause-refused : goal.returns-in-None-clause-refused
returns-in-None-clause-refused c =
    too_long c.args.part _ _ (same_front _ _ _ _ _ c.front_of.ensures c.most-most.ensures c.bytes-bytes.ensures)
    (omega (arith, ap length c.bytes-bytes.ensures, c.most-most.ensures))
    (rw c.in-None.is at c.in_ok-number.ensures.partial)

pub returns-in-None-2-clause-none : goal.returns-in-None-2-clause-none
returns-in-None-2-clause-none c =
    partless c.args.part _ _ _ (same_front _ _ _ _ _ c.front_of.ensures c.most-most.ensures c.bytes-bytes.ensures)
    (omega (arith, ap length c.bytes-bytes.ensures, c.most-most.ensures))
    (rw c.in-None-2.is at c.in_ok-number.ensures.partial)
