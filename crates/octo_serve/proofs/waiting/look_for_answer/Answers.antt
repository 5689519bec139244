use Rattle.std.proofs.Common.{rules, ap, ◌∙◌}
use Rattle.octo_serve.specs.Views.{worker_of}
use Rattle.octo_serve.proofs.Sitting.{looks_for_answer_as, withdraws_as}
use Rattle.octo_serve.proofs.Asking.{finds, gives_up, looked_answered, looked_withdrawn}
use Rattle.octo_serve.proofs.waiting.look_for_answer.Goals as goal

pub load-requires : goal.load-requires
load-requires c = let w = c.requires.waiting in (search rules, search rules, looks_for_answer_as _ _ _ _ _ w.0 w.1)

pub take_answer-requires-clause-found : goal.take_answer-requires-clause-found
take_answer-requires-clause-found c = let w = c.requires.waiting in let stage = ap (λ m. (worker_of m.0).stage) w.1 in
    let told = (c.load.ensures.2 w.0 stage).0 c.if-load-eq-ANSWERED.true in (w.0, told.0, told.1, finds _ _ _ _ w.0 told.0 told.1 w.1 told.2)

pub returns-then-load-eq-ANSWERED-clause-look : goal.returns-then-load-eq-ANSWERED-clause-look
returns-then-load-eq-ANSWERED-clause-look c = λ ask stage. let told = (c.load.ensures.2 ask stage).0 c.if-load-eq-ANSWERED.true in
    looked_answered c.args.seat.now.me c.load.new.seat.me c.take_answer.new.seat.me ask told.0 told.1 _ told.2 c.take_answer.ensures.taken

pub store-requires : goal.store-requires
store-requires c = let w = c.requires.waiting in let stage = ap (λ m. (worker_of m.0).stage) w.1 in let saw = ap (λ m. (worker_of m.0).saw_close) w.1 in
    let told = (c.load.ensures.2 w.0 stage).1 c.if-load-eq-ANSWERED.false (saw ∙ c.if-saw_close.true) in
    (search rules, search rules, withdraws_as _ _ _ _ w.0 (gives_up _ _ _ _ w.0 w.1 told))

pub returns-then-saw_close-clause-look : goal.returns-then-saw_close-clause-look
returns-then-saw_close-clause-look c = let saw = ap (λ m. (worker_of m.0).saw_close) c.requires.waiting.1 ∙ c.if-saw_close.true in
    λ ask stage. looked_withdrawn c.args.seat.now.me c.load.new.seat.me c.store.new.seat.me ask saw
    ((c.load.ensures.2 ask stage).1 c.if-load-eq-ANSWERED.false saw) c.store.ensures.2

pub returns-clause-look : goal.returns-clause-look
returns-clause-look c = let saw = ap (λ m. (worker_of m.0).saw_close) c.requires.waiting.1 ∙ c.if-saw_close.false in
    λ ask stage. (c.load.ensures.2 ask stage).2 c.if-load-eq-ANSWERED.false saw
