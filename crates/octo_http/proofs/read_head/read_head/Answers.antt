use Rattle.std.proofs.Common.{rules}
use Rattle.octo_http.specs.Head.{HeadFault}
use Rattle.octo_http.proofs.Filling.{on_exit}
use Rattle.octo_http.proofs.Reading.{stops_refused, stops_lacking, took_on, knows_on}
use Rattle.octo_http.proofs.HeadLemmas.{took_head}
use Rattle.octo_http.proofs.read_head.read_head.Goals as goal

pub returns-in_err-head-clause-stops : goal.returns-in_err-head-clause-stops
returns-in_err-head-clause-stops g c =
    on_exit _ c.in_err-head.field-0.0 _ c.from_residual.ensures.1
    (stops_refused HeadFault _ _ _ _ _ c.reading.invariant.took c.in_err-head.ensures.refused)

pub returns-in-Some-clause-head : goal.returns-in-Some-clause-head
returns-in-Some-clause-head g c =
    took_head _ _ _ _ _ _ c.reading.invariant.took (rw c.in-Some.is at c.in_ok-head.ensures.head)

pub returns-in_err-go_on-clause-stops : goal.returns-in_err-go_on-clause-stops
returns-in_err-go_on-clause-stops g c =
    on_exit _ c.in_err-go_on.field-0.0 _ c.from_residual-in_err-go_on.ensures.1
    (stops_lacking HeadFault 16384 _ _ _ _ _ _ _ _ _ c.reading.invariant.took c.reading.invariant.knows
    (rw c.in-None.is at c.in_ok-head.ensures.same) (rw c.in-None.is at c.in_ok-head.ensures.none) c.in_err-go_on.ensures.pause)

pub reading-preserved : goal.reading-preserved
reading-preserved g c =
    let same = rw c.in-None.is at c.in_ok-head.ensures.same in
    record {
      took = took_on _ _ _ _ _ _ _ c.reading.invariant.took same c.in_ok-came.ensures.took;
      knows = knows_on _ _ _ _ _ _ _ _ _ _ c.reading.invariant.took same c.reading.invariant.waits.kept c.in_ok-came.ensures.waits.kept c.in_ok-came.ensures.knows;
      waits = search rules;
      written = search rules;
    }
