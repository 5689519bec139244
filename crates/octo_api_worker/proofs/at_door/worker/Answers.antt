use Rattle.std.proofs.Common.{◌≡◌, ◌∙◌, refl}
use Rattle.octo_api_worker.proofs.Asked.{asks_none, asks_more, returned_seeing, returned_leaving}
use Rattle.octo_api_worker.proofs.Walking.{work_begins, works_on, works_till_close, works_to_the_end, works_till_failure}
use Rattle.octo_api_worker.proofs.at_door.worker.Goals as goal

pub loop-init : goal.loop-init
loop-init g c = (refl, refl, (λ inputs coming. work_begins c.args.terms.now inputs _ _ _ coming), asks_none (g.A.Asker.state c.args.asker.now).mine)

pub loop-preserved : goal.loop-preserved
loop-preserved g c = (
  c.in-Open.ensures.held (λ no. cc) ∙ c.loop.invariant.0,
  c.look_at_door.ensures.place ∙ c.loop.invariant.1,
  (λ inputs coming. works_on c.args.terms.now inputs (g.D.Door.state c.loop.door).coming (g.D.Door.state c.look_at_door.new.door).coming _ _ _ _ _ _ (c.loop.invariant.2 inputs coming) c.in-Open.ensures.visited),
  asks_more _ _ _ c.loop.invariant.3 c.look_at_door.ensures.once,
)

pub returns-in-Closed-clause-served : goal.returns-in-Closed-clause-served
returns-in-Closed-clause-served g c inputs coming =
    works_till_close c.args.terms.now inputs (g.D.Door.state c.loop.door).coming (g.D.Door.state c.look_at_door.new.door).coming _ _ _ _ _ _ _ (c.loop.invariant.2 inputs coming) c.in-Closed.ensures.visited (c.in-Closed.ensures.closed refl)

pub returns-in-Ended-clause-served : goal.returns-in-Ended-clause-served
returns-in-Ended-clause-served g c inputs coming =
    works_to_the_end c.args.terms.now inputs (g.D.Door.state c.loop.door).coming (g.D.Door.state c.look_at_door.new.door).coming _ _ _ _ _ _ _ _ (c.loop.invariant.2 inputs coming) c.in-Ended.ensures.visited c.leave.ensures.left

pub returns-in-Failed-clause-served : goal.returns-in-Failed-clause-served
returns-in-Failed-clause-served g c inputs coming =
    works_till_failure c.args.terms.now inputs (g.D.Door.state c.loop.door).coming (g.D.Door.state c.look_at_door.new.door).coming _ _ _ _ _ _ _ _ (c.loop.invariant.2 inputs coming) c.in-Failed.ensures.visited c.leave-in-Failed.ensures.left

pub returns-in-Closed-clause-returned : goal.returns-in-Closed-clause-returned
returns-in-Closed-clause-returned g c =
    returned_seeing _ _ _ (asks_more _ _ _ c.loop.invariant.3 c.look_at_door.ensures.once) (c.in-Closed.ensures.closed refl)

pub returns-in-Ended-clause-returned : goal.returns-in-Ended-clause-returned
returns-in-Ended-clause-returned g c =
    returned_leaving _ _ _ _ (asks_more _ _ _ c.loop.invariant.3 c.look_at_door.ensures.once) c.leave.ensures.left

pub returns-in-Failed-clause-returned : goal.returns-in-Failed-clause-returned
returns-in-Failed-clause-returned g c =
    returned_leaving _ _ _ _ (asks_more _ _ _ c.loop.invariant.3 c.look_at_door.ensures.once) c.leave-in-Failed.ensures.left
