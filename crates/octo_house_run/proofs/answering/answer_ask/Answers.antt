use Rattle.std.proofs.Common.{◌≡◌, ◌&&◌, inl, [], ◌∷◌, Option, Some, refl, sym, ap, subst, ◌∙◌}
use Rattle.std.specs.Prelude.{IfSome}
use Rattle.octo_outside.specs.Recorded.{Adds}
use Rattle.octo_outside.proofs.Recorded.{became_so}
use Rattle.octo_asks.specs.History.{History}
use Rattle.octo_asks.specs.declared.counter.Given.{Given}
use Rattle.octo_asks.specs.declared.entry.Entry.TheVariants as entry
use Rattle.octo_house.specs.State.{known_of, session_of}
use Rattle.octo_house_run.specs.declared.tally.Asked.{Asked}
use Rattle.octo_house_run_proof.specs.Rounds.{AsksAt}
use Rattle.octo_house_run_proof.proofs.Counting.{call_asks}
use Rattle.octo_house_run.specs.Own.{own_moments}
use Rattle.octo_house_run.specs.Tallies.{AreOf}
use Rattle.octo_house_run.proofs.Asking.{call_walks, some_walks}
use Rattle.octo_house_run.proofs.Owning.{call_none}
use Rattle.octo_house_run.proofs.Tallying.{call_counts}
use Rattle.octo_house_run.proofs.answering.answer_ask.Goals as goal

pub returns-clause-leads : goal.returns-clause-leads
returns-clause-leads g c before below =
    let past = (g.C.Counter.state c.args.counter.now).past in
    let past' = (g.C.Counter.state c.answer.new.self).past in
    let Adds_by : Option Given → Type 0 = λ given. IfSome given (λ one. Adds past past' (entry.Call c.args.worker one.ask c.args.moment c.ask-answer.result ∷ [])) in
    call_walks (known_of c.args.house.now) (known_of c.ask-answer.new.self) (session_of c.args.house.now) (session_of c.ask-answer.new.self) past past' _ _
    c.args.worker c.args.ask c.args.moment c.ask-answer.result (subst Adds_by c.requires.given c.answer.ensures.past)
    (λ files at. c.ask-answer.ensures.done files (inl at)) c.ask-answer.ensures.files
    c.ask-answer.ensures.rest.apart.sender c.ask-answer.ensures.rest.apart.up refl before below

pub returns-clause-counted : goal.returns-clause-counted
returns-clause-counted g c =
    let past = (g.C.Counter.state c.args.counter.now).past in
    let past' = (g.C.Counter.state c.answer.new.self).past in
    let Adds_by : Option Given → Type 0 = λ given. IfSome given (λ one. Adds past past' (entry.Call c.args.worker one.ask c.args.moment c.ask-answer.result ∷ [])) in
    became_so past past' _ _ (subst Adds_by c.requires.given c.answer.ensures.past)
    (λ old added is. subst (λ (h : History). AreOf (Some c.asked_as.result) h) (sym is)
    (call_counts c.args.worker c.args.ask c.args.moment c.ask-answer.result c.asked_as.result
    (sym c.is_leave-leaves.ensures ∙ sym (ap (λ (a : Asked). a.is_leave) c.asked_as.ensures))
    (sym c.is_counted-counts.ensures ∙ sym (ap (λ (a : Asked). a.is_counted) c.asked_as.ensures))
    (c.is_shutdown_request-shuts.ensures c.ask-answer.result ∙ ap (λ b. c.is_shutdown_request-shuts.result && b) (sym c.is_accepted-accepted.ensures)
    ∙ sym (ap (λ (a : Asked). a.is_shutdown) c.asked_as.ensures))))

pub returns-clause-asks : goal.returns-clause-asks
returns-clause-asks g c =
    let past = (g.C.Counter.state c.args.counter.now).past in
    let past' = (g.C.Counter.state c.answer.new.self).past in
    let keeper = (g.K.Keeper.state c.args.keeper.now).faults in
    let keeper' = (g.K.Keeper.state c.ask-answer.new.keeper).faults in
    let shelf = (g.S.Shelf.state c.args.shelf.now).faults in
    let shelf' = (g.S.Shelf.state c.ask-answer.new.shelf).faults in
    let Adds_by : Option Given → Type 0 = λ given. IfSome given (λ one. Adds past past' (entry.Call c.args.worker one.ask c.args.moment c.ask-answer.result ∷ [])) in
    became_so past past' _ _ (subst Adds_by c.requires.given c.answer.ensures.past)
    (λ old added is. subst (λ (h : History). AsksAt c.args.moment keeper keeper' shelf shelf' h) (sym is)
    (call_asks c.args.moment keeper keeper' shelf shelf' c.args.worker c.args.ask c.ask-answer.result c.ask-answer.ensures.rest.keeper c.ask-answer.ensures.rest.shelf))

pub returns-clause-own : goal.returns-clause-own
returns-clause-own g c other =
    let past = (g.C.Counter.state c.args.counter.now).past in
    let past' = (g.C.Counter.state c.answer.new.self).past in
    let Adds_by : Option Given → Type 0 = λ given. IfSome given (λ one. Adds past past' (entry.Call c.args.worker one.ask c.args.moment c.ask-answer.result ∷ [])) in
    became_so past past' _ (λ _ added. own_moments added ≡ []) (subst Adds_by c.requires.given c.answer.ensures.past)
    (λ old added is. ap own_moments is ∙ call_none c.args.worker c.args.ask c.args.moment c.ask-answer.result other)

pub returns-clause-some : goal.returns-clause-some
returns-clause-some g c =
    let past = (g.C.Counter.state c.args.counter.now).past in
    let past' = (g.C.Counter.state c.answer.new.self).past in
    let known = known_of c.args.house.now in
    let known' = known_of c.ask-answer.new.self in
    let x = c.ask-answer.result in
    let Adds_by : Option Given → Type 0 = λ given. IfSome given (λ one. Adds past past' (entry.Call c.args.worker one.ask c.args.moment x ∷ [])) in
    let adds : Adds past past' (entry.Call c.args.worker c.args.ask c.args.moment x ∷ []) = subst Adds_by c.requires.given c.answer.ensures.past in
    some_walks known known' (session_of c.args.house.now) (session_of c.ask-answer.new.self) past past' c.args.worker c.args.ask c.args.moment x adds
    c.ask-answer.ensures.some c.ask-answer.ensures.rest.apart.sender c.ask-answer.ensures.rest.apart.up refl
