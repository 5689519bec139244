use Rattle.std.proofs.Common.{◌≤◌, ◌-◌, length}
use Rattle.memchr.specs.Find.{Nowhere}
use Rattle.octo_http_forms.specs.Delimiters.{IsDelimiter}
use Rattle.octo_http_forms.proofs.delimiters.next_delimiter.Given as goal

abbrev pub invariant-loop-found : goal.invariant-loop-found
invariant-loop-found l = record {
  low : l.from ≤ l.at;
  high : l.at ≤ length l.body;
  none : Nowhere (IsDelimiter l.body l.finder) l.from l.at;
}

abbrev pub decreases-loop-found : goal.decreases-loop-found
decreases-loop-found l = length l.body - l.at
