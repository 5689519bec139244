use Rattle.std.proofs.Common.{◌≡◌, sym, subst}
use Rattle.job_desk.specs.declared.link_fact.LinkFact.{LinkFact}
use Rattle.send_window.specs.Data.{sender_after_dial}
use Rattle.octo_session.specs.Steps.{Takes, opens, dial_steps}
use Rattle.octo_session.proofs.Stepping.{takes_both, opens_placed}
use Rattle.octo_session.proofs.session.Session.dial.Goals as goal

pub returns-in-Ok-clause-steps : goal.returns-in-Ok-clause-steps
returns-in-Ok-clause-steps g c =
    let old = c.args.link.now in
    let after : c.open.new.self.sender ≡ sender_after_dial c.args.self.now.sender = c.open.ensures.sender in
    let P : LinkFact → Type 0 = λ f. Takes c.args.moment (g.L.Link.state old).kind (g.L.Link.state old).past (g.L.Link.state c.dial_port.new.link).past (g.L.Link.state old).calls
    (g.L.Link.state c.dial_port.new.link).calls (dial_steps f) c.args.self.now.sender c.open.new.self.sender in
    let grew = opens_placed (g.L.Link.state old).kind (g.L.Link.state old).past (g.L.Link.state c.dial_port.new.link).past c.args.self.now.sender c.in-Ok.ensures.slots
    c.in-Ok.ensures.past in
    subst P (sym c.open.ensures.finds) (takes_both c.args.moment (g.L.Link.state old).kind (g.L.Link.state old).past (g.L.Link.state c.dial_port.new.link).past
    (g.L.Link.state old).calls (g.L.Link.state c.dial_port.new.link).calls opens c.args.self.now.sender c.open.new.self.sender after tt c.in-Ok.ensures.calls grew
    c.in-Ok.ensures.past_prompt)
