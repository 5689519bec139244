use Rattle.std.proofs.Common.{◌≡◌}
use Rattle.octo_serve.specs.Ends.{AfterLooks}
use Rattle.octo_serve.proofs.house_end.HouseEndCounter.next.Given as goal

-- the words that were looked at showed no ask
abbrev pub invariant-loop-step : goal.invariant-loop-step
invariant-loop-step l = (l.self ≡ record l.fn.self { view = l.self.view }) × AfterLooks l.first l.step l.fn.self.view l.self.view
