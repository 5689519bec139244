use Rattle.std.proofs.Common.{◌≡◌}
use Rattle.std.specs.Prelude.{slice_range}
use Rattle.octo_http_forms.specs.Values.{value_place}
use Rattle.octo_http_forms.specs.declared.quotes.Quoting.TheVariants.{Outside}
use Rattle.octo_http_forms.proofs.parameters.value_place.Given as goal

abbrev pub invariant-loop-from : goal.invariant-loop-from
invariant-loop-from l =
    value_place l.key l.quoting l.from (slice_range l.bytes l.from l.from-end) ≡ value_place l.key Outside l.fn.span.from
    (slice_range l.bytes l.fn.span.from l.fn.span.to)
