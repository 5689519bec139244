use Rattle.printer_link.proofs.Links.{before_free, moved_then, printed_then}
use Rattle.printer_link.proofs.Stories.{on_err_so, on_ok_so}
use Rattle.std.proofs.Common.{◌≡◌, ◌∙◌, ap, length}
use Rattle.printer_model.specs.World.{WorldData}
use Rattle.printer_link.specs.Memory.{MemoryLinkData, before_reply, link_world}
use Rattle.printer_link.proofs.memory_link.MemoryLink.let_print.Goals as goal

pub returns-clause-ok : goal.returns-clause-ok
returns-clause-ok c =
    let from : c.replies-from.result ≡ length (link_world c.args.self.now).down =
    c.replies-from.ensures ∙ ap (λ (w : WorldData). length w.down) c.world.ensures ∙ ap (λ (l : MemoryLinkData). length (link_world l).down) c.self.view_is
    in
    on_ok_so c.lose_replies.result c.lose_replies.ensures.ok
    (λ is. printed_then c.args.self.now c.before_reply.new.self c.lose_replies.new.self c.replies-from.result c.args.restarts c.args.due from c.in_ok-before_reply.ensures.ok is)

pub returns-clause-err : goal.returns-clause-err
returns-clause-err c =
    let l = c.args.self.now in
    let first = before_reply c.args.restarts c.args.due (link_world l) in
    on_err_so c.lose_replies.result c.lose_replies.ensures.err
    (λ moved. moved_then l c.before_reply.new.self c.lose_replies.new.self first c.in_ok-before_reply.ensures.ok
    (before_free c.args.restarts c.args.due (link_world l)) moved)
