use Rattle.std.proofs.Common.{◌≡◌}
use Rattle.std.specs.Prelude.{slice_range}
use Rattle.octo_http_forms.specs.Values.{quoted_end}
use Rattle.octo_http_forms.specs.declared.quotes.Quoting.TheVariants.{Inside}
use Rattle.octo_http_forms.proofs.quotes.quoted_end.Given as goal

abbrev pub invariant-loop-place : goal.invariant-loop-place
invariant-loop-place l =
    quoted_end l.quoting l.place (slice_range l.bytes l.place l.place-end) ≡ quoted_end Inside l.fn.span.from (slice_range l.bytes l.fn.span.from l.fn.span.to)
