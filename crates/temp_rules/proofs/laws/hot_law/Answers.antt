use Rattle.temp_rules.proofs.Values.{tool-within, bed-within, hot-above}
use Rattle.temp_rules.proofs.laws.hot_law.Goals as goal

pub returns-clause-tool_within : goal.returns-clause-tool_within
returns-clause-tool_within c = tool-within

pub returns-clause-bed_within : goal.returns-clause-bed_within
returns-clause-bed_within c = bed-within

pub returns-clause-above : goal.returns-clause-above
returns-clause-above c = hot-above
