use Rattle.std.proofs.Common.{◌≡◌, ◌≤◌, ◌+◌, length, map, drop}
use Rattle.httparse.specs.Spans.{header_bytes}
use Rattle.octo_http.specs.Fields.{values}
use Rattle.octo_http.proofs.fields.FieldSpans.count.Given as goal

abbrev pub invariant-loop-span : goal.invariant-loop-span
invariant-loop-span l = record {
  few : l.count ≤ l.span-index;
  counted : length (values l.name l.self) ≡ l.count + length (values l.name (map (header_bytes l.self-inside.head.now) (drop l.span-index l.span-items)));
}
