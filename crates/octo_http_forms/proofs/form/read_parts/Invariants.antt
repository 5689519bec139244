use Rattle.std.proofs.Common.{◌≤◌, ◌-◌, List, Some, length, drop}
use Rattle.octo_http_forms.specs.declared.types.Span.{Span}
use Rattle.octo_http_forms.specs.Delimiters.{Reaches}
use Rattle.octo_http_forms.specs.Parts.{ArePartsIn, IsSeen}
use Rattle.octo_http_forms.proofs.form.read_parts.Given as goal

abbrev pub invariant-loop-delimiter : goal.invariant-loop-delimiter
invariant-loop-delimiter l = record {
  low : 2 ≤ l.from;
  high : l.from ≤ length l.body;
  reached : (spans : List Span) × Reaches l.body (drop 2 l.finder) spans (Some l.from) × IsSeen l.body spans l.seen;
  within : ArePartsIn l.seen.parts l.body;
}

abbrev pub decreases-loop-delimiter : goal.decreases-loop-delimiter
decreases-loop-delimiter l = length l.body - l.from
