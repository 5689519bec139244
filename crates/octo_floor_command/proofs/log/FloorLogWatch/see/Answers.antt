use Rattle.std.proofs.Common.{◌+◌, ◌++◌, drop, subst}
use Rattle.job_desk.specs.declared.link_fact.LinkFact.TheVariants.{Quiet}
use Rattle.octo_floor_bay.specs.Events.{FloorHistory}
use Rattle.octo_floor_command.specs.Lines.{event_lines, lines_of}
use Rattle.octo_log.specs.Logged.{Logs}
use Rattle.octo_log.proofs.Logs.{logs_then}
use Rattle.octo_floor_command.proofs.Saying.{others_all, said_next}
use Rattle.octo_floor_command.proofs.log.FloorLogWatch.see.Goals as goal

pub loop-i-preserved : goal.loop-i-preserved
loop-i-preserved g c =
    let (front, logged, said) = c.loop-i.invariant.said in
    let event = c.index-events-i.result in
    let others : FloorHistory = drop (c.loop-i.i + 1) c.args.events.now in
    let Says : FloorHistory → Type 0 = λ es. Logs (event_lines c.args.ports.now c.loop-i.found event es) (g.G.Sink.written c.loop-i.self.log)
    (g.G.Sink.written c.say_event.new.self.log) (g.G.Sink.faults c.loop-i.self.log) (g.G.Sink.faults c.say_event.new.self.log)
    in
    record {
      said = (
        front ++ event_lines c.args.ports.now c.loop-i.found event others,
        logs_then front (event_lines c.args.ports.now c.loop-i.found event others) _ _ _ _ _ _ logged
            (subst Says (others_all c.args.events.now c.loop-i.i) c.say_event.ensures),
        said_next c.args.ports.now (lines_of c.args.ports.now Quiet c.args.events.now) front c.loop-i.found c.found_after-found.result c.args.events.now
            c.loop-i.i event c.loop-i-test.true c.index-events-i.is c.found_after-found.ensures said,
      );
    }
