use Rattle.std.proofs.Common.{◌≡◌}
use Rattle.std.specs.Prelude.{slice_range}
use Rattle.octo_http_forms.specs.Texts.{place_any_case}
use Rattle.octo_http_forms.proofs.text.place_any_case.Given as goal

abbrev pub invariant-loop-place : goal.invariant-loop-place
invariant-loop-place l =
    place_any_case l.text l.place (slice_range l.bytes l.place l.place-end) ≡ place_any_case l.text l.fn.span.from
    (slice_range l.bytes l.fn.span.from l.fn.span.to)
