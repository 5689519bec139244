use Rattle.std.proofs.Common.{ap, ◌∙◌}
use Rattle.octo_serve.specs.Ends.{worker_place}
use Rattle.octo_serve.proofs.Joining.{seat_beside}
use Rattle.serve_tests.proofs.tests.handing.each_worker_gets_its_answer.Goals as goal

pub end-requires-clause-a : goal.end-requires-clause-a
end-requires-clause-a g c = c.answers_of_both-answers.ensures.workers.0
    ∙ (ap worker_place c.in_ok-house.ensures.a ∙ seat_beside c.in_ok-house.house c.close.new.self 0 (c.close.ensures.place
    ∙ c.answers_of_both-answers.ensures.place))

pub end-requires-clause-b : goal.end-requires-clause-b
end-requires-clause-b g c = ap worker_place c.in_ok-house.ensures.b ∙ seat_beside c.in_ok-house.house c.close.new.self 1 (c.close.ensures.place
    ∙ c.answers_of_both-answers.ensures.place)

pub end-requires-clause-c : goal.end-requires-clause-c
end-requires-clause-c g c = ap worker_place c.in_ok-house.ensures.c ∙ seat_beside c.in_ok-house.house c.close.new.self 2 (c.close.ensures.place
    ∙ c.answers_of_both-answers.ensures.place)

pub end-requires-clause-d : goal.end-requires-clause-d
end-requires-clause-d g c = c.answers_of_both-answers.ensures.workers.1
    ∙ (ap worker_place c.in_ok-house.ensures.d ∙ seat_beside c.in_ok-house.house c.close.new.self 3 (c.close.ensures.place
    ∙ c.answers_of_both-answers.ensures.place))
