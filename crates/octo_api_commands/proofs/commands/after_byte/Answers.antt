use Rattle.serde_json.specs.View.{view}
use Rattle.octo_api_commands.proofs.commands.after_byte.Goals as goal

pub returns-in-Outside : goal.returns-in-Outside
returns-in-Outside c = rw c.in-Outside.is (c.after_outside.ensures (view c.args.parameters.now) c.args.name.now)

pub returns-in-Opened : goal.returns-in-Opened
returns-in-Opened c = rw c.in-Opened.is (c.after_opened.ensures (view c.args.parameters.now))

pub returns-in-Closed : goal.returns-in-Closed
returns-in-Closed c = rw c.in-Closed.is (c.after_closed.ensures (view c.args.parameters.now) c.args.name.now)
