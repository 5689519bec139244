use Rattle.std.proofs.Common.{ap, subst}
use Rattle.octo_serve.specs.Views.{worker_of}
use Rattle.octo_serve.specs.Ends.{WorkerData, AfterAsk}
use Rattle.octo_serve.proofs.Asking.{waits, from_rest, asked_ok, asked_err, asked_closed}
use Rattle.octo_serve.proofs.worker_end.WorkerEndAsker.ask.Goals as goal

pub wait_for_answer-requires-clause-waiting : goal.wait_for_answer-requires-clause-waiting
wait_for_answer-requires-clause-waiting g c = (c.args.ask, waits _ _ _ _ c.args.ask c.self.invariant.3 c.put_ask.ensures.asked)

pub returns-clause-view : goal.returns-clause-view
returns-clause-view g c = let ask = c.args.ask in let put = c.put_ask.ensures.asked in let new = worker_of c.wait_for_answer.new.seat.me.0 in
    subst (λ (d : WorkerData). AfterAsk ask d.view c.wait_for_answer.result new) c.self.view_is
    (from_rest ask (worker_of c.self.inside.seat.me.0) (worker_of c.put_ask.new.seat.me.0) new c.wait_for_answer.result (ap (λ m. worker_of m.0) put)
    (c.wait_for_answer.ensures.asked ask (ap (λ m. (worker_of m.0).stage) put)))

pub returns-clause-ok : goal.returns-clause-ok
returns-clause-ok g c = asked_ok c.args.ask c.args.self.now.view (worker_of c.wait_for_answer.new.seat.me.0) c.wait_for_answer.result (returns-clause-view g c)

pub returns-clause-err : goal.returns-clause-err
returns-clause-err g c = asked_err c.args.ask c.args.self.now.view (worker_of c.wait_for_answer.new.seat.me.0) c.wait_for_answer.result
    (returns-clause-view g c)

pub returns-clause-closed : goal.returns-clause-closed
returns-clause-closed g c = asked_closed c.args.ask c.args.self.now.view (worker_of c.wait_for_answer.new.seat.me.0) c.wait_for_answer.result
    (returns-clause-view g c)
