use Rattle.std.proofs.Common.{rules}
use Rattle.octo_http.specs.Part.{PartFault, most_of}
use Rattle.octo_http.proofs.Filling.{on_exit}
use Rattle.octo_http.proofs.Reading.{stops_refused, stops_lacking, took_on, knows_on}
use Rattle.octo_http.proofs.PartLemmas.{took_part}
use Rattle.octo_http.proofs.read_part.read_part.Goals as goal

pub returns-in_err-number-clause-stops : goal.returns-in_err-number-clause-stops
returns-in_err-number-clause-stops g c =
    on_exit _ c.in_err-number.field-0.0 _ c.from_residual.ensures.1
    (stops_refused (PartFault c.args.part) _ _ _ _ _ c.reading.invariant.took c.in_err-number.ensures.refused)

pub returns-in-Some-clause-part : goal.returns-in-Some-clause-part
returns-in-Some-clause-part g c =
    took_part _ _ _ _ _ _ _ c.reading.invariant.took (rw c.in-Some.is at c.in_ok-number.ensures.found)

pub returns-in_err-go_on-clause-stops : goal.returns-in_err-go_on-clause-stops
returns-in_err-go_on-clause-stops g c =
    on_exit _ c.in_err-go_on.field-0.0 _ c.from_residual-in_err-go_on.ensures.1
    (stops_lacking (PartFault c.args.part) (most_of c.args.part) _ _ _ _ _ _ _ _ _ c.reading.invariant.took c.reading.invariant.knows
    (rw c.in-None.is at c.in_ok-number.ensures.same) (rw c.in-None.is at c.in_ok-number.ensures.none) c.in_err-go_on.ensures.pause)

pub reading-preserved : goal.reading-preserved
reading-preserved g c =
    let same = rw c.in-None.is at c.in_ok-number.ensures.same in
    record {
      took = took_on _ _ _ _ _ _ _ c.reading.invariant.took same c.in_ok-came.ensures.took;
      knows = knows_on _ _ _ _ _ _ _ _ _ _ c.reading.invariant.took same c.reading.invariant.waits.kept c.in_ok-came.ensures.waits.kept c.in_ok-came.ensures.knows;
      waits = search rules;
      written = search rules;
    }
