use Rattle.std.proofs.Common.{arith, ap, ◌∙◌, length, take}
use Rattle.std.proofs.lemmas.List.{length-take}
use Rattle.octo_http.proofs.Filling.{on_exit}
use Rattle.octo_http.proofs.HeadLemmas.{refuses_head, too_long, headless, takes_head}
use Rattle.octo_http.proofs.read_head.try_head.Goals as goal

pub look-requires : goal.look-requires
look-requires c = omega (arith, ap length c.front_of.ensures, length-take 16384 c.bytes-bytes.result.now)

pub returns-in_err-found-clause-refused : goal.returns-in_err-found-clause-refused
returns-in_err-found-clause-refused c =
    on_exit _ c.in_err-found.field-0.0 _ c.from_residual.ensures.1
    (refuses_head _ _ _ (c.front_of.ensures ∙ ap (take 16384) c.bytes-bytes.ensures) c.in_err-found.ensures.refused)

pub take-requires : goal.take-requires
take-requires c =
    let found = rw c.in-Some.is at c.in_ok-found.ensures.found in
    omega (arith, found.within, ap length c.front_of.ensures, length-take 16384 c.bytes-bytes.result.now, ap length c.bytes-bytes.ensures)

pub returns-in-Some-clause-head : goal.returns-in-Some-clause-head
returns-in-Some-clause-head c =
    takes_head 16384 _ _ _ _ (c.front_of.ensures ∙ ap (take 16384) c.bytes-bytes.ensures) (rw c.in-Some.is at c.in_ok-found.ensures.found) c.take.ensures

pub returns-in-None-clause-refused : goal.returns-in-None-clause-refused
returns-in-None-clause-refused c =
    too_long _ _ (c.front_of.ensures ∙ ap (take 16384) c.bytes-bytes.ensures) (omega (arith, ap length c.bytes-bytes.ensures))
    (rw c.in-None.is at c.in_ok-found.ensures.partial)

pub returns-in-None-2-clause-none : goal.returns-in-None-2-clause-none
returns-in-None-2-clause-none c =
    headless _ _ _ (c.front_of.ensures ∙ ap (take 16384) c.bytes-bytes.ensures) (omega (arith, ap length c.bytes-bytes.ensures))
    (rw c.in-None-2.is at c.in_ok-found.ensures.partial)
