use Rattle.std.proofs.Common.{map, sym, ◌∙◌}
use Rattle.job_desk.specs.Issued.{line_of}
use Rattle.octo_session.specs.Data.{doing}
use Rattle.octo_session.specs.Found.{got_of}
use Rattle.octo_session.specs.Turn.{texts_in}
use Rattle.octo_session.proofs.Desk.{noted_greatest}
use Rattle.octo_session.proofs.Stepping.{takes_rest, dial_calls, talk_calls}
use Rattle.octo_session.proofs.session.Session.turn_by_kind.Goals as goal

pub returns-in-UsingLink-clause-greatest : goal.returns-in-UsingLink-clause-greatest
returns-in-UsingLink-clause-greatest g c = noted_greatest _ _ _ _ _ _ _ c.turn_while_up.ensures.noted

pub returns-in-Resting-clause-steps : goal.returns-in-Resting-clause-steps
returns-in-Resting-clause-steps g c =
    takes_rest c.args.moment _ _ _ (doing c.args.self.now) c.args.self.now.up (got_of c.silent.result.received c.args.line.now.items) c.silent.result.fact
    (texts_in (map line_of c.silent.result.issued.items)) c.args.self.now.sender (sym c.doing.ensures.is ∙ c.in-Resting.is)

pub returns-in-Dialling-clause-calls : goal.returns-in-Dialling-clause-calls
returns-in-Dialling-clause-calls g c calling = dial_calls c.dial.result.fact _ _ c.dial.ensures.finds c.dial.ensures.steps.calls

pub returns-in-UsingLink-clause-calls : goal.returns-in-UsingLink-clause-calls
returns-in-UsingLink-clause-calls g c calling =
    talk_calls (got_of c.turn_while_up.result.received c.turn_while_up.new.line.items) c.turn_while_up.result.fact
    (texts_in (map line_of c.turn_while_up.result.issued.items)) c.turn_while_up.ensures.steps.count _ _ c.turn_while_up.ensures.asked
    c.turn_while_up.ensures.steps.takes.calls
