use Rattle.std.proofs.Common.{sym, ◌∙◌}
use Rattle.marlin_frame.proofs.PartLaws.{fails-whole}
use Rattle.marlin_frame.proofs.read.read_frame.Goals as goal

pub returns : goal.returns
returns c = record {
  numbered = sym c.begins_with_n.ensures ∙ c.if-not-begins_with_n.false;
  whole = fails-whole c.args.line.now (sym c.has_checksum.ensures ∙ c.if-not-has_checksum.false) (sym c.checksum_matches.ensures ∙ c.if-not-checksum_matches.false);
  number = sym c.line_number.ensures;
  command = sym c.text.ensures.value;
}
