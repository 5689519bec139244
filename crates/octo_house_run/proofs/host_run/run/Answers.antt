use Rattle.std.proofs.Common.{◌≡◌, ℕ, [], Option, None, refl, sym, subst, ◌∙◌, arith}
use Rattle.std.specs.Prelude.{IfSome}
use Rattle.octo_outside.specs.Recorded.{Became}
use Rattle.octo_house.specs.State.{session_of}
use Rattle.octo_house_run_proof.proofs.Walking.{walks_then}
use Rattle.octo_house_run.specs.declared.tally.Tally.{Tally}
use Rattle.octo_house_run.specs.Runs.{stands_with, begins, RunIsOver}
use Rattle.octo_house_run.specs.Tallies.{tally_of}
use Rattle.octo_house_run_proof.proofs.Counting.{none_counted}
use Rattle.octo_house_run_proof.proofs.Hearing.{temps_none}
use Rattle.octo_house_run_proof.proofs.Showing.{begin_shows}
use Rattle.octo_house_run_proof.proofs.Timing.{Timed, timed_begins, timed_round, timed_later, timed_ends}
use Rattle.octo_outside.proofs.Recorded.{became_same}
use Rattle.octo_house_run.proofs.Contents.{begin_over, round_over, end_over}
use Rattle.octo_house_run.proofs.Running.{begin_walks, walks_round, end_walks, tally_then, no_entry, over_by}
use Rattle.octo_house_run.proofs.Rounds.{counted_round, counted_end, uses_round, uses_end, temps_round, temps_end_of}
use Rattle.octo_house_run_proof.proofs.LineRecorded.{begin_in_step}
use Rattle.octo_house_run.proofs.Laws.{run_laws}
use Rattle.octo_house_run.proofs.Owning.{waits_begin, waits_look, waits_none, turns_own, waits_end}
use Rattle.octo_house_run.proofs.Printing.{run_prints}
use Rattle.octo_house_run.proofs.Tying.{round_ties, hung_ties}
use Rattle.octo_house_run.proofs.host_run.run.Goals as goal

pub loop-init : goal.loop-init
loop-init g c =
    let past = (g.C.Counter.state c.args.counter.now).past in
    let Counted : Tally → Type 0 = λ t. Became past past (λ _ added. tally_of added ≡ t) in
    record {
      leads = begin_walks c.args.house.now past (g.S.Shelf.state c.args.shelf.now).files c.requires.fresh;
      contents = begin_over c.args.house.now past c.requires.fresh;
      counted = subst Counted (sym c.no_tally-tally.ensures) (no_entry past);
      kept = λ begun is. is;
      faults = became_same past _ (λ old. none_counted (g.K.Keeper.state c.args.keeper.now).faults (g.S.Shelf.state c.args.shelf.now).faults (g.L.Link.state c.args.link.now).faults);
      uses = begin_shows (g.L.Link.state c.args.link.now).kind.listed (g.L.Link.state c.args.link.now).calls past (g.S.Shelf.state c.args.shelf.now).files (begins c.args.house.now);
      temps = became_same past _ (λ old. temps_none (g.L.Link.state c.args.link.now).kind (g.L.Link.state c.args.link.now).past [] refl);
      moments = timed_begins (g.T.Clock.moment c.args.clock.now) past;
      listed = λ files. files;
      up = c.requires.down ∙ sym c.requires.fresh.down;
      kind = refl;
      recorded = refl;
      given = c.requires.answered;
      closed = c.requires.open;
      place = refl;
      link = omega arith;
      keeper = omega arith;
      shelf = omega arith;
      steps = begin_in_step (g.L.Link.state c.args.link.now).kind past (g.L.Link.state c.args.link.now).past (session_of c.args.house.now)
          c.requires.fresh.down c.requires.fresh.sound c.requires.suits;
      own = λ workers. waits_begin c.args.connects c.new_reconnect-reconnect.result past c.new_reconnect-reconnect.ensures;
    }

pub loop-preserved : goal.loop-preserved
loop-preserved g c =
    let i = c.loop.invariant in
    let a = c.answer_next-asked.ensures in
    let t = c.take_turn-heard.ensures in
    let first = (g.C.Counter.state c.args.counter.now).past in
    let before = (g.C.Counter.state c.loop.counter).past in
    let mid = (g.C.Counter.state c.answer_next-asked.new.counter).past in
    let after = (g.C.Counter.state c.take_turn-heard.new.counter).past in
    let numbered = (session_of c.args.house.now).sender.numbered in
    let held = (g.S.Shelf.state c.answer_next-asked.new.shelf).files in
    let moment = c.max-moment.result in
    let Counted : Tally → Type 0 = λ u. Became first after (λ _ added. tally_of added ≡ u) in
    record {
      leads = walks_round first before mid after (g.S.Shelf.state c.args.shelf.now).files (g.S.Shelf.state c.loop.shelf).files held c.args.house.now c.loop.house
          c.answer_next-asked.new.house c.take_turn-heard.new.house c.loop.moment moment (omega (arith, c.max-moment.ensures)) i.leads a.leads
          (t.leads held moment (omega arith));
      contents = round_over first before mid after c.args.house.now c.loop.house c.answer_next-asked.new.house c.take_turn-heard.new.house c.loop.moment moment
          (omega (arith, c.max-moment.ensures)) i.contents a.some t.leads;
      counted = subst Counted (sym c.tally_after-tally.ensures)
          (tally_then first mid after None _ (tally_then first before mid c.answer_next-asked.result c.loop.tally i.counted a.counted) t.counted);
      kept = λ begun is. t.kept begun (a.rest.kept begun (i.kept begun is));
      faults = counted_round first before mid after moment _ _ _ _ _ _ _ _ _ _ _ _ _ _ i.faults a.asks t.turns t.keeper;
      uses = uses_round (g.L.Link.state c.args.link.now).kind (g.L.Link.state c.loop.link).kind i.kind c.args.house.now c.loop.house c.answer_next-asked.new.house c.loop.moment moment
          (omega (arith, c.max-moment.ensures)) _ _ _ _ _ _ _ _ _ first before mid after (g.S.Shelf.state c.args.shelf.now).files (g.S.Shelf.state c.loop.shelf).files held
          i.leads i.uses a.leads a.asks t.turns;
      temps = temps_round (g.L.Link.state c.args.link.now).kind (g.L.Link.state c.loop.link).kind i.kind first before mid after moment _ _ _ _ _ _ _ i.temps a.asks t.temps;
      moments = timed_later (g.T.Clock.moment c.args.clock.now) (g.T.Clock.moment c.now.new.self) (g.T.Clock.moment c.rest_if_idle.new.clock) moment first after
          c.rest_if_idle.ensures
          (timed_round (g.T.Clock.moment c.args.clock.now) (g.T.Clock.moment c.now.new.self) c.loop.moment c.now.result moment _ _ _ _ _ _ _ _ _ _ first before mid after
          (subst (λ (at : Option ℕ). Timed (g.T.Clock.moment c.args.clock.now) at c.loop.moment first before) (sym c.now.ensures.stays) i.moments)
          (subst (λ (at : Option ℕ). IfSome at (λ now. c.now.result ≡ now)) (sym c.now.ensures.stays) c.now.ensures.now) c.max-moment.ensures a.asks t.turns);
      listed = λ files. t.listed held (a.rest.listed (i.listed files));
      up = t.up;
      kind = t.kind ∙ i.kind;
      recorded = t.recorded ∙ i.recorded;
      given = t.given;
      closed = t.closed;
      place = t.place ∙ (a.place ∙ i.place);
      link = omega (arith, i.link, t.link);
      keeper = omega (arith, i.keeper, a.rest.keeper, t.keeper);
      shelf = omega (arith, i.shelf, a.rest.shelf);
      steps = round_ties numbered (g.L.Link.state c.args.link.now).kind (g.L.Link.state c.loop.link).kind i.kind first before mid after (g.L.Link.state c.args.link.now).past
          (g.L.Link.state c.loop.link).past (g.L.Link.state c.take_turn-heard.new.link).past (session_of c.loop.house) (session_of c.answer_next-asked.new.house)
          (session_of c.take_turn-heard.new.house) moment _ _ _ _ i.steps a.asks a.rest.apart.sender a.rest.apart.up (t.tied numbered);
      own = λ workers. waits_none c.args.connects c.answer_next-asked.new.reconnect moment first mid after
          (waits_look c.args.connects c.loop.reconnect c.answer_next-asked.new.reconnect c.loop.moment moment (omega (arith, c.max-moment.ensures)) first before mid
          (i.own workers) (a.own workers)) (turns_own moment _ _ _ _ _ _ mid after t.turns);
    }

pub returns-then-is_over-clause-history : goal.returns-then-is_over-clause-history
returns-then-is_over-clause-history g c =
    let first = (g.C.Counter.state c.args.counter.now).past in
    let before = (g.C.Counter.state c.loop.counter).past in
    let mid = (g.C.Counter.state c.answer_next-asked.new.counter).past in
    let after = (g.C.Counter.state c.take_turn-heard.new.counter).past in
    let last = (g.C.Counter.state c.close.new.self).past in
    let start = (g.S.Shelf.state c.args.shelf.now).files in
    let held = (g.S.Shelf.state c.answer_next-asked.new.shelf).files in
    let moment = c.max-moment.result in
    walks_then first after last start held held (begins c.args.house.now) (stands_with c.take_turn-heard.new.house moment) (RunIsOver c.take_turn-heard.new.house)
    (walks_round first before mid after start (g.S.Shelf.state c.loop.shelf).files held c.args.house.now c.loop.house c.answer_next-asked.new.house
    c.take_turn-heard.new.house c.loop.moment moment (omega (arith, c.max-moment.ensures)) c.loop.invariant.leads c.answer_next-asked.ensures.leads
    (c.take_turn-heard.ensures.leads held moment (omega arith)))
    (end_walks c.take_turn-heard.new.house after last held moment c.close.ensures.past)

pub returns-then-is_over-clause-contents : goal.returns-then-is_over-clause-contents
returns-then-is_over-clause-contents g c =
    let first = (g.C.Counter.state c.args.counter.now).past in
    let before = (g.C.Counter.state c.loop.counter).past in
    let mid = (g.C.Counter.state c.answer_next-asked.new.counter).past in
    let after = (g.C.Counter.state c.take_turn-heard.new.counter).past in
    let moment = c.max-moment.result in
    end_over first after (g.C.Counter.state c.close.new.self).past c.args.house.now c.take_turn-heard.new.house moment
    (round_over first before mid after c.args.house.now c.loop.house c.answer_next-asked.new.house c.take_turn-heard.new.house c.loop.moment moment
    (omega (arith, c.max-moment.ensures)) c.loop.invariant.contents c.answer_next-asked.ensures.some c.take_turn-heard.ensures.leads)
    c.close.ensures.past

pub returns-then-is_over-clause-laws : goal.returns-then-is_over-clause-laws
returns-then-is_over-clause-laws g c =
    run_laws (g.C.Counter.state c.args.counter.now).past (g.C.Counter.state c.close.new.self).past (g.S.Shelf.state c.args.shelf.now).files
    (g.S.Shelf.state c.answer_next-asked.new.shelf).files c.args.house.now c.take_turn-heard.new.house (returns-then-is_over-clause-history g c)
    (returns-then-is_over-clause-contents g c)

pub returns-then-is_over-clause-over : goal.returns-then-is_over-clause-over
returns-then-is_over-clause-over g c =
    let first = (g.C.Counter.state c.args.counter.now).past in
    let before = (g.C.Counter.state c.loop.counter).past in
    let mid = (g.C.Counter.state c.answer_next-asked.new.counter).past in
    let after = (g.C.Counter.state c.take_turn-heard.new.counter).past in
    let Counted : Tally → Type 0 = λ u. Became first after (λ _ added. tally_of added ≡ u) in
    over_by first after (g.C.Counter.state c.close.new.self).past c.tally_after-tally.result (session_of c.take_turn-heard.new.house).desk
    (subst Counted (sym c.tally_after-tally.ensures)
    (tally_then first mid after None _ (tally_then first before mid c.answer_next-asked.result c.loop.tally c.loop.invariant.counted c.answer_next-asked.ensures.counted) c.take_turn-heard.ensures.counted))
    c.close.ensures.past (sym c.is_over.ensures ∙ c.if-is_over.true)

pub returns-then-is_over-clause-listed : goal.returns-then-is_over-clause-listed
returns-then-is_over-clause-listed g c files =
    c.take_turn-heard.ensures.listed (g.S.Shelf.state c.answer_next-asked.new.shelf).files (c.answer_next-asked.ensures.rest.listed (c.loop.invariant.listed files))

pub returns-then-is_over-clause-place : goal.returns-then-is_over-clause-place
returns-then-is_over-clause-place g c =
    c.close.ensures.place ∙ (c.take_turn-heard.ensures.place ∙ (c.answer_next-asked.ensures.place ∙ c.loop.invariant.place))

pub returns-then-is_over-clause-kind : goal.returns-then-is_over-clause-kind
returns-then-is_over-clause-kind g c = c.hang_up.ensures.kind ∙ (c.take_turn-heard.ensures.kind ∙ c.loop.invariant.kind)

pub returns-then-is_over-clause-recorded : goal.returns-then-is_over-clause-recorded
returns-then-is_over-clause-recorded g c =
    c.hang_up.ensures.past.stays ∙ (c.take_turn-heard.ensures.recorded ∙ c.loop.invariant.recorded)

pub returns-then-is_over-clause-link : goal.returns-then-is_over-clause-link
returns-then-is_over-clause-link g c = omega (arith, c.loop.invariant.link, c.take_turn-heard.ensures.link, c.hang_up.ensures.faults)

pub returns-then-is_over-clause-keeper : goal.returns-then-is_over-clause-keeper
returns-then-is_over-clause-keeper g c = omega (arith, c.loop.invariant.keeper, c.answer_next-asked.ensures.rest.keeper, c.take_turn-heard.ensures.keeper)

pub returns-then-is_over-clause-shelf : goal.returns-then-is_over-clause-shelf
returns-then-is_over-clause-shelf g c = omega (arith, c.loop.invariant.shelf, c.answer_next-asked.ensures.rest.shelf)

pub returns-then-is_over-clause-kept : goal.returns-then-is_over-clause-kept
returns-then-is_over-clause-kept g c begun is =
    c.take_turn-heard.ensures.kept begun (c.answer_next-asked.ensures.rest.kept begun (c.loop.invariant.kept begun is))

pub returns-then-is_over-clause-faults : goal.returns-then-is_over-clause-faults
returns-then-is_over-clause-faults g c =
    let first = (g.C.Counter.state c.args.counter.now).past in
    let before = (g.C.Counter.state c.loop.counter).past in
    let mid = (g.C.Counter.state c.answer_next-asked.new.counter).past in
    let after = (g.C.Counter.state c.take_turn-heard.new.counter).past in
    counted_end first after (g.C.Counter.state c.close.new.self).past _ _ _ _ _ _ _
    (counted_round first before mid after c.max-moment.result _ _ _ _ _ _ _ _ _ _ _ _ _ _ c.loop.invariant.faults c.answer_next-asked.ensures.asks
    c.take_turn-heard.ensures.turns c.take_turn-heard.ensures.keeper) c.hang_up.ensures.faults c.close.ensures.past

pub returns-then-is_over-clause-link_use : goal.returns-then-is_over-clause-link_use
returns-then-is_over-clause-link_use g c =
    let first = (g.C.Counter.state c.args.counter.now).past in
    let before = (g.C.Counter.state c.loop.counter).past in
    let mid = (g.C.Counter.state c.answer_next-asked.new.counter).past in
    let after = (g.C.Counter.state c.take_turn-heard.new.counter).past in
    let start = (g.S.Shelf.state c.args.shelf.now).files in
    let held = (g.S.Shelf.state c.answer_next-asked.new.shelf).files in
    let moment = c.max-moment.result in
    let kind = (g.L.Link.state c.args.link.now).kind in
    let i = c.loop.invariant in
    let a = c.answer_next-asked.ensures in
    let t = c.take_turn-heard.ensures in
    uses_end kind.listed (g.L.Link.state c.args.link.now).calls (g.L.Link.state c.take_turn-heard.new.link).calls (g.L.Link.state c.hang_up.new.self).calls c.hang_up.ensures.calls
    first after (g.C.Counter.state c.close.new.self).past start held (begins c.args.house.now) (stands_with c.take_turn-heard.new.house moment)
    (walks_round first before mid after start (g.S.Shelf.state c.loop.shelf).files held c.args.house.now c.loop.house c.answer_next-asked.new.house
    c.take_turn-heard.new.house c.loop.moment moment (omega (arith, c.max-moment.ensures)) i.leads a.leads (t.leads held moment (omega arith)))
    (uses_round kind (g.L.Link.state c.loop.link).kind i.kind c.args.house.now c.loop.house c.answer_next-asked.new.house c.loop.moment moment
    (omega (arith, c.max-moment.ensures)) _ _ _ _ _ _ _ _ _ first before mid after start (g.S.Shelf.state c.loop.shelf).files held i.leads i.uses a.leads a.asks t.turns)
    c.close.ensures.past

pub returns-then-is_over-clause-temps : goal.returns-then-is_over-clause-temps
returns-then-is_over-clause-temps g c =
    let first = (g.C.Counter.state c.args.counter.now).past in
    let before = (g.C.Counter.state c.loop.counter).past in
    let mid = (g.C.Counter.state c.answer_next-asked.new.counter).past in
    let after = (g.C.Counter.state c.take_turn-heard.new.counter).past in
    let i = c.loop.invariant in
    let t = c.take_turn-heard.ensures in
    temps_end_of (g.L.Link.state c.args.link.now).kind (g.L.Link.state c.take_turn-heard.new.link).kind (t.kind ∙ i.kind) (g.L.Link.state c.take_turn-heard.new.link).up
    first after (g.C.Counter.state c.close.new.self).past _ _ _
    (temps_round (g.L.Link.state c.args.link.now).kind (g.L.Link.state c.loop.link).kind i.kind first before mid after c.max-moment.result _ _ _ _ _ _ _ i.temps
    c.answer_next-asked.ensures.asks t.temps) c.hang_up.ensures.past.grew c.close.ensures.past

pub returns-then-is_over-clause-moments : goal.returns-then-is_over-clause-moments
returns-then-is_over-clause-moments g c =
    let first = (g.C.Counter.state c.args.counter.now).past in
    let before = (g.C.Counter.state c.loop.counter).past in
    let mid = (g.C.Counter.state c.answer_next-asked.new.counter).past in
    let after = (g.C.Counter.state c.take_turn-heard.new.counter).past in
    let start = g.T.Clock.moment c.args.clock.now in
    let here = g.T.Clock.moment c.now.new.self in
    timed_ends start here c.max-moment.result first after (g.C.Counter.state c.close.new.self).past
    (timed_round start here c.loop.moment c.now.result c.max-moment.result _ _ _ _ _ _ _ _ _ _ first before mid after
    (subst (λ (at : Option ℕ). Timed start at c.loop.moment first before) (sym c.now.ensures.stays) c.loop.invariant.moments)
    (subst (λ (at : Option ℕ). IfSome at (λ now. c.now.result ≡ now)) (sym c.now.ensures.stays) c.now.ensures.now) c.max-moment.ensures
    c.answer_next-asked.ensures.asks c.take_turn-heard.ensures.turns)
    c.close.ensures.past

pub returns-then-is_over-clause-own : goal.returns-then-is_over-clause-own
returns-then-is_over-clause-own g c workers =
    let first = (g.C.Counter.state c.args.counter.now).past in
    let before = (g.C.Counter.state c.loop.counter).past in
    let mid = (g.C.Counter.state c.answer_next-asked.new.counter).past in
    let after = (g.C.Counter.state c.take_turn-heard.new.counter).past in
    let waits = c.answer_next-asked.new.reconnect in
    let moment = c.max-moment.result in
    waits_end c.args.connects waits moment first after (g.C.Counter.state c.close.new.self).past
    (waits_none c.args.connects waits moment first mid after
    (waits_look c.args.connects c.loop.reconnect waits c.loop.moment moment (omega (arith, c.max-moment.ensures)) first before mid
    (c.loop.invariant.own workers) (c.answer_next-asked.ensures.own workers)) (turns_own moment _ _ _ _ _ _ mid after c.take_turn-heard.ensures.turns))
    c.close.ensures.past

pub returns-then-is_over-clause-tied : goal.returns-then-is_over-clause-tied
returns-then-is_over-clause-tied g c =
    let i = c.loop.invariant in
    let a = c.answer_next-asked.ensures in
    let t = c.take_turn-heard.ensures in
    let numbered = (session_of c.args.house.now).sender.numbered in
    let kind = (g.L.Link.state c.args.link.now).kind in
    let first = (g.C.Counter.state c.args.counter.now).past in
    let after = (g.C.Counter.state c.take_turn-heard.new.counter).past in
    let front = (g.L.Link.state c.args.link.now).past in
    let link = (g.L.Link.state c.take_turn-heard.new.link).past in
    let x = session_of c.take_turn-heard.new.house in
    hung_ties numbered kind (g.L.Link.state c.take_turn-heard.new.link).kind (t.kind ∙ i.kind) first after (g.C.Counter.state c.close.new.self).past front link (g.L.Link.state c.hang_up.new.self).past
    x (g.L.Link.state c.take_turn-heard.new.link).up t.up c.hang_up.ensures.past c.close.ensures.past
    (round_ties numbered kind (g.L.Link.state c.loop.link).kind i.kind first (g.C.Counter.state c.loop.counter).past (g.C.Counter.state c.answer_next-asked.new.counter).past after front
    (g.L.Link.state c.loop.link).past link (session_of c.loop.house) (session_of c.answer_next-asked.new.house) x c.max-moment.result _ _ _ _ i.steps a.asks a.rest.apart.sender a.rest.apart.up
    (t.tied numbered))

pub returns-then-is_over-clause-prints : goal.returns-then-is_over-clause-prints
returns-then-is_over-clause-prints g c =
    run_prints (g.L.Link.state c.args.link.now).kind (g.C.Counter.state c.args.counter.now).past (g.C.Counter.state c.close.new.self).past
    (g.S.Shelf.state c.args.shelf.now).files (g.S.Shelf.state c.answer_next-asked.new.shelf).files (g.L.Link.state c.args.link.now).past (g.L.Link.state c.hang_up.new.self).past
    c.args.house.now c.take_turn-heard.new.house (returns-then-is_over-clause-history g c) (returns-then-is_over-clause-tied g c)
