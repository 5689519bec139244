use Rattle.std.proofs.Common.{◌≡◌, ◌∙◌, ap, drop, length}
use Rattle.std.specs.Prelude.{filter}
use Rattle.printer_model.specs.Executed.{is_counted}
use Rattle.printer_model.proofs.Sessions.{session_lines, if_ok_so}
use Rattle.printer_model.proofs.session_executed.Executed.of_session.Goals as goal

pub returns : goal.returns
returns c =
    let lines = session_lines c.args.slots c.args.oks c.args.past.now c.args.session c.saturating_sub.result c.in_ok-before.before c.in_ok-whole.whole c.saturating_sub.ensures c.in_ok-before.ensures c.in_ok-whole.ensures in
    let behind : c.after.result.now ≡ drop (length c.in_ok-before.before.log) c.in_ok-whole.whole.log = cc in
    if_ok_so c.counted_lines.result c.counted_lines.ensures (λ e is. is ∙ ap (filter is_counted) behind ∙ lines)
