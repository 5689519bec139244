use Rattle.octo_words.proofs.Remarked.{line_ended, no_feed_in_none}
use Rattle.octo_words.proofs.remark.line_of.Goals as goal

pub loop-part-init : goal.loop-part-init
loop-part-init c = no_feed_in_none c.new-line.result c.new-line.ensures

pub returns : goal.returns
returns c = line_ended c.loop-part.line c.append.new.self c.loop-part.invariant c.in_ok-append.ensures.ok
