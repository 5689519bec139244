use Rattle.std.proofs.Common.{List, ℕ, codes, subst}
use Rattle.octo_floor_command.specs.Lines.{did_words, failed_words}
use Rattle.octo_log.specs.Lines.{line_of}
use Rattle.octo_log.specs.Logged.{Logs}
use Rattle.octo_log.proofs.Logs.{logs_then}
use Rattle.octo_floor_command.proofs.log.FloorLog.say_ending.Goals as goal

pub returns-in-Failed : goal.returns-in-Failed
returns-in-Failed g c =
    let Says : List ℕ → Type 0 = λ words. Logs (line_of words) (g.G.Sink.written c.args.self.now.log) (g.G.Sink.written c.say.new.self.log)
    (g.G.Sink.faults c.args.self.now.log) (g.G.Sink.faults c.say.new.self.log)
    in
    rw c.in-Failed.is (logs_then (line_of (failed_words c.args.printer c.args.port.now c.args.found))
    (line_of (did_words c.args.printer c.args.port.now (codes "lost"))) _ _ _ _ _ _ (subst Says c.failed_words.ensures.words c.say.ensures)
    c.say_did-in-Failed.ensures)
