use Rattle.std.proofs.Common.{◌≡◌, map, drop}
use Rattle.httparse.specs.Spans.{header_bytes}
use Rattle.octo_http.specs.Fields.{values, first_of}
use Rattle.octo_http.proofs.fields.FieldSpans.first.Given as goal

abbrev pub invariant-loop-span : goal.invariant-loop-span
invariant-loop-span l = first_of (values l.name l.self) ≡ first_of (values l.name (map (header_bytes l.self-inside.head.now) (drop l.span-index l.span-items)))
