use Rattle.std.proofs.Common.{refl}
use Rattle.printer_model.specs.Replies.{error_line}
use Rattle.printer_model.proofs.replies.error_line.Goals as goal

pub returns : goal.returns
unfolding error_line
returns c = rw (c.append_number.ensures.items, c.append-3.ensures.items, c.append-2.ensures.items, c.append.ensures.items, c.new-line.ensures, c.reason_bytes.ensures.text) refl
