use Rattle.std.proofs.Common.{◌≡◌, false, [], Option, Some, None, sym, ap, subst, ◌∙◌, arith}
use Rattle.std.specs.Prelude.{◌==◌, IfSome}
use Rattle.std.proofs.lemmas.Bool.{false≢true}
use Rattle.octo_outside.specs.Recorded.{Became}
use Rattle.octo_outside.proofs.Recorded.{became_so}
use Rattle.octo_asks.specs.History.{History, ask_given, own_number}
use Rattle.octo_asks.specs.declared.counter.Given.{Given}
use Rattle.octo_house.specs.State.{session_of}
use Rattle.octo_house_tables.specs.Data.{TablesData}
use Rattle.octo_house_tables.specs.Kept.{IsKept}
use Rattle.octo_house_run_proof.specs.Rounds.{AsksAt}
use Rattle.octo_house_run.specs.Own.{Looks, own_moments}
use Rattle.octo_house_run.specs.Runs.{Leads}
use Rattle.octo_house_run.specs.Tallies.{AreOf}
use Rattle.octo_house_run.proofs.answering.answer_next.Goals as goal

pub returns-in-Nothing-clause-leads : goal.returns-in-Nothing-clause-leads
returns-in-Nothing-clause-leads g c =
    let files = (g.S.Shelf.state c.args.shelf.now).files in
    subst (λ (h : Option History). Leads h (g.C.Counter.state c.connect_if_due.new.counter).past files files c.args.moment c.args.house.now c.connect_if_due.new.house)
    c.next.ensures.past (c.connect_if_due.ensures.leads files)

pub returns-in-Nothing-clause-counted : goal.returns-in-Nothing-clause-counted
returns-in-Nothing-clause-counted g c =
    subst (λ (h : Option History). Became h (g.C.Counter.state c.connect_if_due.new.counter).past (λ _ added. AreOf None added))
    c.next.ensures.past c.connect_if_due.ensures.counted

pub returns-in-Nothing-clause-asks : goal.returns-in-Nothing-clause-asks
returns-in-Nothing-clause-asks g c =
    let keeper = (g.K.Keeper.state c.args.keeper.now).faults in
    let shelf = (g.S.Shelf.state c.args.shelf.now).faults in
    subst (λ (h : Option History). Became h (g.C.Counter.state c.connect_if_due.new.counter).past (λ _ added. AsksAt c.args.moment keeper keeper shelf shelf added))
    c.next.ensures.past (c.connect_if_due.ensures.asks keeper shelf)

pub returns-in-Nothing-clause-rest : goal.returns-in-Nothing-clause-rest
returns-in-Nothing-clause-rest g c =
    let alone = c.connect_if_due.ensures.alone in
    record {
      kept = λ begun is. subst (λ (t : TablesData). IsKept begun (g.K.Keeper.state c.args.keeper.now).tables t) (sym alone.tables) is;
      listed = λ held files at. alone.names ∙ held files at;
      apart = alone.apart;
      keeper = omega arith;
      shelf = omega arith;
    }

pub returns-in-Asked-clause-leads : goal.returns-in-Asked-clause-leads
returns-in-Asked-clause-leads g c =
    subst (λ (h : Option History). Leads h (g.C.Counter.state c.answer_ask-asked.new.counter).past (g.S.Shelf.state c.args.shelf.now).files
    (g.S.Shelf.state c.answer_ask-asked.new.shelf).files c.args.moment c.args.house.now c.answer_ask-asked.new.house)
    c.next.ensures.past c.answer_ask-asked.ensures.leads

pub returns-in-Asked-clause-counted : goal.returns-in-Asked-clause-counted
returns-in-Asked-clause-counted g c =
    subst (λ (h : Option History). Became h (g.C.Counter.state c.answer_ask-asked.new.counter).past (λ _ added. AreOf (Some c.answer_ask-asked.result) added))
    c.next.ensures.past c.answer_ask-asked.ensures.counted

pub returns-in-Asked-clause-asks : goal.returns-in-Asked-clause-asks
returns-in-Asked-clause-asks g c =
    subst (λ (h : Option History). Became h (g.C.Counter.state c.answer_ask-asked.new.counter).past (λ _ added. AsksAt c.args.moment (g.K.Keeper.state c.args.keeper.now).faults
    (g.K.Keeper.state c.answer_ask-asked.new.keeper).faults (g.S.Shelf.state c.args.shelf.now).faults (g.S.Shelf.state c.answer_ask-asked.new.shelf).faults added))
    c.next.ensures.past c.answer_ask-asked.ensures.asks

pub returns-in-Nothing-clause-own : goal.returns-in-Nothing-clause-own
returns-in-Nothing-clause-own g c workers =
    subst (λ (h : Option History). Became h (g.C.Counter.state c.connect_if_due.new.counter).past
    (λ _ added. Looks c.args.moment c.args.reconnect.now c.connect_if_due.new.reconnect added)) c.next.ensures.past c.connect_if_due.ensures.own

pub returns-in-Asked-clause-own : goal.returns-in-Asked-clause-own
returns-in-Asked-clause-own g c workers =
    let mid = (g.C.Counter.state c.next.new.self).past in
    let after = (g.C.Counter.state c.answer_ask-asked.new.counter).past in
    let other : (c.in-Asked.worker == own_number) ≡ false =
    subst (λ (given : Option Given). IfSome given (λ one. (one.worker == own_number) ≡ false)) (c.next.ensures.given ∙ ap ask_given c.in-Asked.is) (workers c.next.new.self) in
    subst (λ (h : Option History). Became h after (λ _ added. Looks c.args.moment c.args.reconnect.now c.see.new.reconnect added)) c.next.ensures.past
    (became_so mid after (λ _ added. own_moments added ≡ []) (λ _ added. Looks c.args.moment c.args.reconnect.now c.see.new.reconnect added)
    (c.answer_ask-asked.ensures.own other)
    (λ old added is. record {
      state = (session_of c.answer_ask-asked.new.house).desk.state;
      asks = false;
      due = λ asks. absurd (false≢true asks);
      waits = c.see.ensures;
      moments = is;
    }))

pub returns-in-Nothing-clause-some : goal.returns-in-Nothing-clause-some
returns-in-Nothing-clause-some g c = (
  [],
  [],
  subst (λ (h : Option History). Leads h (g.C.Counter.state c.connect_if_due.new.counter).past (Some []) (Some []) c.args.moment c.args.house.now c.connect_if_due.new.house)
      c.next.ensures.past (c.connect_if_due.ensures.leads (Some [])),
)

pub returns-in-Asked-clause-some : goal.returns-in-Asked-clause-some
returns-in-Asked-clause-some g c =
    let some = c.answer_ask-asked.ensures.some in (
      some.0,
      some.1,
      subst (λ (h : Option History). Leads h (g.C.Counter.state c.answer_ask-asked.new.counter).past (Some some.0) (Some some.1)
          c.args.moment c.args.house.now c.answer_ask-asked.new.house)
          c.next.ensures.past some.2,
    )
