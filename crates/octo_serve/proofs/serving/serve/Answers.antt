use Rattle.std.proofs.Common.{of_calls, rules, List, ap, subst}
use Rattle.octo_asks.specs.History.{History}
use Rattle.octo_serve.specs.Ends.{HouseData, WorkerData}
use Rattle.octo_serve.specs.Views.{AreCalls}
use Rattle.octo_serve.proofs.Ending.{all_served, own_from_nothing, ran_from_nothing}
use Rattle.octo_serve.proofs.Leaving.{hosts}
use Rattle.octo_serve.proofs.serving.serve.Goals as goal

pub returns-clause-ok : goal.returns-clause-ok
returns-clause-ok g c =
    let made = c.in_ok-counter.ensures in
    hosts _ _ _ _ _ _ _ _
    (ran_from_nothing _ _ _ _ _ _ (ap (λ (h : HouseData). h.view.history) made.house) c.end.ensures.history (search of_calls))
    c.end.ensures.ended c.end.ensures.calls c.end.ensures.workers
    (all_served _ _ _ _ _ _ _
    (ap (λ (w : WorkerData). w.view.mine) made.a) (ap (λ (w : WorkerData). w.view.mine) made.b)
    (ap (λ (w : WorkerData). w.view.mine) made.c) (ap (λ (w : WorkerData). w.view.mine) made.d)
    (subst (λ (m : List History). AreCalls c.end.result.history 0 m) c.end.ensures.mines c.end.ensures.calls)
    c.four_beside-doors_held.ensures.works)

pub returns-clause-own : goal.returns-clause-own
returns-clause-own g c =
    own_from_nothing c.args.connects _ _ c.end.result.history (search rules) (search rules) c.four_beside-doors_held.ensures.work.met.1.1.0
