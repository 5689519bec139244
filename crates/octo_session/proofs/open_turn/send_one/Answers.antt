use Rattle.std.proofs.Common.{sym, ◌∙◌}
use Rattle.send_window.specs.Sending.{next_of}
use Rattle.octo_session.specs.Steps.{gives}
use Rattle.octo_session.proofs.Stepping.{takes_both, gives_written}
use Rattle.octo_session.proofs.open_turn.send_one.Goals as goal

pub returns-in-Ok-clause-steps : goal.returns-in-Ok-clause-steps
returns-in-Ok-clause-steps g c =
    let old = c.args.link.now in
    let given = gives_written (g.L.Link.state old).kind (g.L.Link.state old).past (g.L.Link.state c.send.new.self).past (next_of c.args.sender.now) c.in-Some.field-0
    c.next_frame.new.into.items (sym c.in-Some.is ∙ c.next_frame.ensures.number) c.next_frame.ensures.bytes c.in-Ok.ensures.past c.in-Ok.ensures.past_prompt
    in
    takes_both c.args.moment (g.L.Link.state old).kind _ _ _ _ gives c.args.sender.now c.next_frame.new.self c.next_frame.ensures.state given.there
    c.in-Ok.ensures.calls given.grew given.promptly
