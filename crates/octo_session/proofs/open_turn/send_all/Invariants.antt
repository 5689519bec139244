use Rattle.std.proofs.Common.{◌≡◌, ◌≤◌, true}
use Rattle.octo_session.specs.Steps.{TakesSome, sends}
use Rattle.octo_session.proofs.Keeping.{unsent}
use Rattle.octo_session.proofs.open_turn.send_all.Given as goal

abbrev pub invariant-loop : goal.invariant-loop
invariant-loop g l = record {
  steps : TakesSome l.moment (g.L.Link.state l.initial.link).kind (g.L.Link.state l.initial.link).past (g.L.Link.state l.link).past (g.L.Link.state l.initial.link).calls
      (g.L.Link.state l.link).calls (sends true) l.initial.sender l.sender;
  up : (g.L.Link.state l.link).up ≡ true;
  kind : (g.L.Link.state l.link).kind ≡ (g.L.Link.state l.initial.link).kind;
  counted : (g.L.Link.state l.initial.link).faults ≤ (g.L.Link.state l.link).faults;
}

abbrev pub decreases-loop : goal.decreases-loop
decreases-loop g l = unsent l.sender
