use Rattle.std.proofs.Common.{◌≡◌, map, drop}
use Rattle.httparse.specs.Spans.{header_bytes}
use Rattle.octo_http.specs.Fields.{values, one_is_not}
use Rattle.octo_http.proofs.fields.FieldSpans.one_is_not.Given as goal

abbrev pub invariant-loop-span : goal.invariant-loop-span
invariant-loop-span l = one_is_not l.text (values l.name l.self) ≡ one_is_not l.text (values l.name (map (header_bytes l.self-inside.head.now) (drop l.span-index l.span-items)))
