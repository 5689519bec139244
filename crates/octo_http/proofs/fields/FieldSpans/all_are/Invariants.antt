use Rattle.std.proofs.Common.{◌≡◌, map, drop, bytes_eq}
use Rattle.std.specs.List.{list_all}
use Rattle.httparse.specs.Spans.{header_bytes}
use Rattle.octo_http.specs.Fields.{values}
use Rattle.octo_http.proofs.fields.FieldSpans.all_are.Given as goal

abbrev pub invariant-loop-span : goal.invariant-loop-span
invariant-loop-span l = list_all (λ v. bytes_eq v l.value) (values l.name l.self) ≡ list_all (λ v. bytes_eq v l.value) (values l.name (map (header_bytes l.self-inside.head.now) (drop l.span-index l.span-items)))
