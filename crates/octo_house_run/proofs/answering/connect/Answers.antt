use Rattle.std.proofs.Common.{◌≡◌, [], ◌∷◌, Some, None, refl, sym, ap, subst, ◌∙◌}
use Rattle.octo_outside.proofs.Recorded.{became_so}
use Rattle.octo_asks.specs.History.{History, own_number, own_ask}
use Rattle.octo_house.specs.State.{known_of, session_of}
use Rattle.octo_house_run_proof.specs.Rounds.{AsksAt}
use Rattle.octo_house_run.specs.Own.{own_moments}
use Rattle.octo_house_run.specs.Tallies.{AreOf}
use Rattle.octo_house_run.proofs.Asking.{call_walks}
use Rattle.octo_house_run.proofs.Connecting.{own_leaves, own_asks, own_counts}
use Rattle.octo_house_run.proofs.answering.connect.Goals as goal

pub returns-clause-leads : goal.returns-clause-leads
returns-clause-leads g c files before below =
    let past = (g.C.Counter.state c.args.counter.now).past in
    let past' = (g.C.Counter.state c.own.new.self).past in
    let known = known_of c.args.house.now in
    call_walks known (known_of c.connect_itself-answer.new.self) (session_of c.args.house.now) (session_of c.connect_itself-answer.new.self) past past' files files
    own_number own_ask c.args.moment c.connect_itself-answer.result c.own.ensures.past
    (λ held at. c.connect_itself-answer.ensures.done) (λ held at. at ∙ ap Some (sym (own_leaves held known c.connect_itself-answer.result)))
    c.connect_itself-answer.ensures.alone.apart.sender c.connect_itself-answer.ensures.alone.apart.up refl before below

pub returns-clause-counted : goal.returns-clause-counted
returns-clause-counted g c =
    became_so (g.C.Counter.state c.args.counter.now).past (g.C.Counter.state c.own.new.self).past _ _ c.own.ensures.past
    (λ old added is. subst (λ (h : History). AreOf None h) (sym is) (own_counts c.args.moment c.connect_itself-answer.result))

pub returns-clause-asks : goal.returns-clause-asks
returns-clause-asks g c keeper shelf =
    became_so (g.C.Counter.state c.args.counter.now).past (g.C.Counter.state c.own.new.self).past _ _ c.own.ensures.past
    (λ old added is. subst (λ (h : History). AsksAt c.args.moment keeper keeper shelf shelf h) (sym is)
    (own_asks c.args.moment keeper shelf c.connect_itself-answer.result c.connect_itself-answer.ensures.plain.keeper c.connect_itself-answer.ensures.plain.shelf))

pub returns-clause-own : goal.returns-clause-own
returns-clause-own g c =
    became_so (g.C.Counter.state c.args.counter.now).past (g.C.Counter.state c.own.new.self).past _ (λ _ added. own_moments added ≡ c.args.moment ∷ []) c.own.ensures.past
    (λ old added is. ap own_moments is)
