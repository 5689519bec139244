use Rattle.std.proofs.Common.{◌≡◌, refl, ap, ◌∙◌}
use Rattle.marlin_reply.specs.Kind.{kind_of}
use Rattle.marlin_reply.specs.declared.reply.Reply.{Reply}
use Rattle.send_window.specs.Hearing.{hear_step}
use Rattle.octo_session.specs.Steps.{hears, listens}
use Rattle.octo_session.proofs.Stepping.{takes_both}
use Rattle.octo_session.proofs.open_turn.receive.Goals as goal

pub returns-in-Ok-Line-clause-steps : goal.returns-in-Ok-Line-clause-steps
returns-in-Ok-Line-clause-steps g c =
    let bytes = c.recv.new.into.items in
    let is = c.read_reply-reply.ensures ∙ ap kind_of c.as_slice.ensures.value in
    let after : c.hear.new.self ≡ hear_step (kind_of bytes) c.args.moment c.args.sender.now = c.hear.ensures.state
    ∙ ap (λ (r : Reply). hear_step r c.args.moment c.args.sender.now) is in
    let grew = rw c.in-Ok-Line.field-0-is at c.in-Ok-Line.ensures.past in
    takes_both c.args.moment (g.L.Link.state c.args.link.now).kind _ _ _ _ (hears bytes) c.args.sender.now c.hear.new.self after tt c.recv.ensures.calls (grew refl)
    c.in-Ok-Line.ensures.past_prompt

pub returns-in-Ok-Nothing-clause-steps : goal.returns-in-Ok-Nothing-clause-steps
returns-in-Ok-Nothing-clause-steps g c =
    let grew = rw c.in-Ok-Nothing.field-0-is at c.in-Ok-Nothing.ensures.past_nothing in
    takes_both c.args.moment (g.L.Link.state c.args.link.now).kind _ _ _ _ listens c.args.sender.now c.args.sender.now refl tt c.recv.ensures.calls (grew refl)
    c.in-Ok-Nothing.ensures.past_prompt
