use Rattle.std.proofs.Common.{sym}
use Rattle.octo_api_worker.proofs.Calls.{known_by, turned_by, turned_at_end}
use Rattle.octo_api_worker.proofs.admit.ask_whom.Goals as goal

pub returns-in-None-clause-known : goal.returns-in-None-clause-known
returns-in-None-clause-known g c head needs is =
    known_by head c.args.ask c.in-Ok.answer (g.A.Asker.state c.args.asker.now).mine (g.A.Asker.state c.ask.new.self).mine needs is (sym c.in-None.ensures) c.in-Ok.ensures.ok

pub returns-in-Some-clause-turned : goal.returns-in-Some-clause-turned
returns-in-Some-clause-turned g c origins head from needs is =
    turned_by origins head c.args.ask c.in-Ok.answer c.in-Some.refusal c.reply_with.result (g.A.Asker.state c.args.asker.now).mine (g.A.Asker.state c.ask.new.self).mine needs is
    (sym c.in-Some.ensures) (c.reply_with.ensures origins head from) c.in-Ok.ensures.ok

pub returns-in-Err-clause-turned : goal.returns-in-Err-clause-turned
returns-in-Err-clause-turned g c origins head from needs is =
    turned_at_end origins head c.reply_with-in-Err.result (g.A.Asker.state c.args.asker.now).mine (g.A.Asker.state c.ask.new.self).mine
    needs (c.reply_with-in-Err.ensures origins head from) c.in-Err.ensures.err
