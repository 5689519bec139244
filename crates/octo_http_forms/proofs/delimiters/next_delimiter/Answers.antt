use Rattle.std.proofs.Common.{◌+◌, Some, None, sym, subst, arith}
use Rattle.std.proofs.lemmas.List.{take_rest}
use Rattle.memchr.specs.Find.{FindsNeedle}
use Rattle.octo_http_forms.proofs.Cuts.{occurs_on, none_before, none_past, none_here, next_here}
use Rattle.octo_http_forms.proofs.delimiters.next_delimiter.Goals as goal

pub returns-in-Some-delimiter_of-clause-next : goal.returns-in-Some-delimiter_of-clause-next
returns-in-Some-delimiter_of-clause-next c =
    let body = c.args.body.now in
    let line = c.args.finder.now in
    let at = c.loop-found.at in
    let found = c.in-Some.found in
    let finds = subst (λ hay. FindsNeedle hay line 0 (Some found)) (take_rest body at) c.in-Some.ensures in
    next_here body line c.args.from (at + found) c.in-Some-delimiter_of.delimiter (omega (arith, c.loop-found.invariant.low))
    (none_before body line c.args.from at found c.loop-found.invariant.high c.loop-found.invariant.none finds.0)
    (occurs_on body line at found c.loop-found.invariant.high finds.1)
    (sym c.in-Some-delimiter_of.ensures.value) c.in-Some-delimiter_of.ensures.at

pub loop-found-preserved : goal.loop-found-preserved
loop-found-preserved c =
    let body = c.args.body.now in
    let line = c.args.finder.now in
    let at = c.loop-found.at in
    let found = c.in-Some.found in
    let finds = subst (λ hay. FindsNeedle hay line 0 (Some found)) (take_rest body at) c.in-Some.ensures in
    let occurs = occurs_on body line at found c.loop-found.invariant.high finds.1 in
    record {
      low = omega (arith, c.loop-found.invariant.low);
      high = omega (arith, occurs.fits, c.requires.some);
      none = none_here body line c.args.from (at + found)
          (none_before body line c.args.from at found c.loop-found.invariant.high c.loop-found.invariant.none finds.0) (sym c.in-None.ensures.value);
    }

pub returns-clause-next : goal.returns-clause-next
returns-clause-next c =
    let body = c.args.body.now in
    let line = c.args.finder.now in
    let at = c.loop-found.at in
    none_past body line c.args.from at c.loop-found.invariant.high c.loop-found.invariant.none
    (subst (λ hay. FindsNeedle hay line 0 None) (take_rest body at) c.in_default.ensures)
