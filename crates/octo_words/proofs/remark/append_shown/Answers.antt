use Rattle.octo_words.proofs.Remarked.{shown_more}
use Rattle.octo_words.proofs.remark.append_shown.Goals as goal

pub returns : goal.returns
returns c =
    shown_more c.append.result c.args.line.now c.append.new.self c.args.byte c.requires c.if-byte-lt32.false c.append.ensures.ok
