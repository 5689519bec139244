use Rattle.std.proofs.Common.{◌≡◌, ◌<◌, ◌≤◌, ◌+◌, ◌-◌, ℕ, false, Some}
use Rattle.printer_link.specs.Link.{RoseBy}
use Rattle.octo_session.specs.Data.{port_of}
use Rattle.octo_session_print.specs.Plan.{PrintData}
use Rattle.send_window.specs.Data.{most_lines}
use Rattle.octo_session_print.specs.BetweenTurns.{IsDialling}
use Rattle.octo_session_line_proof.specs.Patience.{IsOnTime}
use Rattle.octo_session_print.proofs.Loops.{IsAfter}
use Rattle.octo_session_print.specs.OnWay.{IsOnWay, plan_length}
use Rattle.octo_session.specs.Smooth.{IsSmooth}
use Rattle.octo_session_print.proofs.print.make_turns.Given as goal

abbrev pub invariant-loop : goal.invariant-loop
invariant-loop g l = record {
  up : (g.L.Link.state l.link).up ≡ l.session.up;
  way : (p : PrintData) → IsDialling p (port_of l.initial.session.desk) (g.L.Link.state l.initial.link).past (g.L.Link.state l.initial.link).past l.initial.session →
      IsAfter l.counter (g.L.Link.state l.link).kind p (port_of l.initial.session.desk) (g.L.Link.state l.initial.link).past (g.L.Link.state l.link).past l.session;
  kind : (g.L.Link.state l.link).kind ≡ (g.L.Link.state l.initial.link).kind;
  numbered : l.session.sender.numbered ≡ l.initial.session.sender.numbered;
  calls : RoseBy l.counter (g.L.Link.state l.initial.link).calls (g.L.Link.state l.link).calls;
  on_time : IsOnTime (g.T.Clock.moment l.initial.clock) (g.T.Clock.moment l.clock) l.moment l.initial.session.sender.limit l.session.sender;
  prompt : (p : PrintData) → l.initial.session.sender.numbered ≡ false → IsDialling p (port_of l.initial.session.desk) (g.L.Link.state l.initial.link).past (g.L.Link.state l.initial.link).past l.initial.session →
      IsSmooth (g.L.Link.state l.initial.link).kind (g.L.Link.state l.initial.link).past (port_of l.initial.session.desk) (g.L.Link.state l.initial.link).faults (g.L.Link.state l.link).faults (g.T.Clock.moment l.clock) l.initial.session.sender.limit l.initial.session.desk.poll_ms → plan_length p + 32 < most_lines →
      (at : ℕ) → g.T.Clock.moment l.clock ≡ Some at →
      IsOnWay (g.L.Link.state l.link).kind p l.initial.session.desk.poll_ms at (plan_length p + 12 - l.counter) (g.L.Link.state l.link).past l.session;
  counted : (g.L.Link.state l.initial.link).faults ≤ (g.L.Link.state l.link).faults;
}
