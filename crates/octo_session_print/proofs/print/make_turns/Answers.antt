use Rattle.std.proofs.Common.{◌≡◌, ◌+◌, ◌-◌, inl, inr, ℕ, Bool, Option, Some, refl, sym, ◌∙◌, ap, subst, arith}
use Rattle.std.proofs.lemmas.Option.{same_Some}
use Rattle.octo_outside.proofs.Recorded.{rose_after, steady_after}
use Rattle.printer_link.specs.Link.{LinkKind, RoseBy, Grows, IsHangUp}
use Rattle.printer_link.proofs.Calls.{rose_none, rose_then}
use Rattle.octo_session.specs.Data.{port_of}
use Rattle.octo_session_print.specs.Plan.{print_commands}
use Rattle.octo_session.specs.Plan.{plan}
use Rattle.octo_session_print.specs.Printed.{IsOver}
use Rattle.octo_session_print.specs.BetweenTurns.{IsOnLink}
use Rattle.octo_session_print.specs.declared.end.PrintEnd.TheVariants as end
use Rattle.octo_session_line_proof.proofs.Waits.{in_time, on_time_next}
use Rattle.octo_session_print.proofs.Printing.{waited_by}
use Rattle.octo_session_print.proofs.Loops.{suits_still, under, awake, unstarted_in, found_unlisted, unlisted_first, same_turns, hung_over}
use Rattle.octo_session_print.specs.OnWay.{IsOnWay, plan_length}
use Rattle.octo_session_print.proofs.Smooth.{shown_before, last_is, smooth_before, range_now, not_used}
use Rattle.octo_session_print.proofs.Prompting.{sets_out}
use Rattle.octo_session_print.proofs.print.make_turns.Goals as goal

pub loop-init : goal.loop-init
loop-init g c = record {
  up = c.requires.as_up;
  way = λ p dialling. inl (refl, dialling);
  kind = refl;
  calls = rose_none (g.L.Link.state c.args.link.now).calls;
  on_time = c.requires.on_time;
  numbered = refl;
  prompt = λ p counts dialling smooth few at shown. sets_out _ p _ _ _ _ c.args.session.now counts dialling smooth few at;
  counted = omega arith;
}

pub make_turn-requires-clause-unstarted : goal.make_turn-requires-clause-unstarted
make_turn-requires-clause-unstarted g c unready =
    let b = c.requires.begins in
    unstarted_in c.loop.counter (g.L.Link.state c.loop.link).kind b.print (port_of c.args.session.now.desk) (g.L.Link.state c.args.link.now).past (g.L.Link.state c.loop.link).past c.loop.session (c.loop.invariant.way b.print b.dialling) unready

pub loop-preserved : goal.loop-preserved
loop-preserved g c =
    let i = c.loop.invariant in
    let kind = (g.L.Link.state c.loop.link).kind in
    let first = (g.L.Link.state c.args.link.now).past in
    let port = port_of c.args.session.now.desk in
    let now = (g.L.Link.state c.loop.link).past in
    let b = c.requires.begins in
    let suits = suits_still (g.L.Link.state c.args.link.now).kind kind first c.args.session.now.sender.numbered c.loop.session.sender.numbered i.kind i.numbered c.requires.suits in
    record {
      up = c.in-None.ensures.up refl;
      way = λ p dialling. (let K : LinkKind → Type 0 = λ k. IsOnLink k p port first (g.L.Link.state c.make_turn.new.link).past c.make_turn.new.session in
          inr (subst K (sym c.make_turn.ensures.kind) (c.in-None.ensures.goes p port first c.args.session.now.sender.limit i.on_time.patient suits (under c.loop.counter kind p port first now c.loop.session (i.way p dialling)))));
      kind = c.make_turn.ensures.kind ∙ i.kind;
      numbered = c.make_turn.ensures.numbered ∙ i.numbered;
      calls = rose_then c.loop.counter 1 (g.L.Link.state c.args.link.now).calls (g.L.Link.state c.loop.link).calls _ i.calls (c.in-None.ensures.calls (awake c.loop.counter kind b.print port first now c.loop.session (i.way b.print b.dialling)) refl);
      on_time = on_time_next _ _ _ _ _ _ _ _ _ _ i.on_time c.now.ensures.now c.now.ensures.stays c.make_turn.ensures.clock c.max-moment.ensures
          (λ start since p. c.make_turn.ensures.waits start c.args.session.now.sender.limit since p);
      prompt = λ p counts dialling smooth few at shown. (let so = shown_before _ _ _ _ _ _ _ c.now.ensures.now c.now.ensures.stays c.make_turn.ensures.clock c.max-moment.ensures i.on_time.shown shown in
          let last = last_is _ at _ _ shown smooth.unsaturated in
          let was = smooth_before _ _ port _ (g.L.Link.state c.loop.link).faults _ (g.T.Clock.moment c.loop.clock) _ _ _ _ i.counted c.make_turn.ensures.counts.later so.before_is smooth (omega (arith, so.within, last)) in
          let left : ℕ = plan_length p + 12 - c.loop.counter in
          let ms = c.args.session.now.desk.poll_ms in
          let on : IsOnWay kind p ms at (left - 1) (g.L.Link.state c.make_turn.new.link).past c.make_turn.new.session =
          c.in-None.ensures.prompt p ms at left (ap (λ (k : LinkKind). k.prompt) i.kind ∙ smooth.prompt)
          (steady_after _ (g.L.Link.state c.loop.link).faults _ smooth.steady i.counted c.make_turn.ensures.counts.later)
          (range_now _ _ c.loop.session.sender.limit _ _ i.on_time.patient.its_limit smooth.unsaturated (omega (arith, so.within, last)))
          so.between_is shown (i.prompt p counts dialling was few _ so.before_is)
          in
          let K : LinkKind → Type 0 = λ k. IsOnWay k p ms at (left - 1) (g.L.Link.state c.make_turn.new.link).past c.make_turn.new.session in
          let N : ℕ → Type 0 = λ n. IsOnWay (g.L.Link.state c.make_turn.new.link).kind p ms at n (g.L.Link.state c.make_turn.new.link).past c.make_turn.new.session in
          let less : left - 1 ≡ plan_length p + 12 - (c.loop.counter + 1) = omega arith in
          subst N less (subst K (sym c.make_turn.ensures.kind) on));
      counted = omega (arith, i.counted, c.make_turn.ensures.counts.later);
    }

pub returns-in-Some-clause-over : goal.returns-in-Some-clause-over
returns-in-Some-clause-over g c p dialling =
    let i = c.loop.invariant in
    let kind = (g.L.Link.state c.loop.link).kind in
    let first = (g.L.Link.state c.args.link.now).past in
    let port = port_of c.args.session.now.desk in
    let suits = suits_still (g.L.Link.state c.args.link.now).kind kind first c.args.session.now.sender.numbered c.loop.session.sender.numbered i.kind i.numbered c.requires.suits in
    let over = c.in-Some.ensures.goes p port first c.args.session.now.sender.limit i.on_time.patient suits (under c.loop.counter kind p port first (g.L.Link.state c.loop.link).past c.loop.session (i.way p dialling)) in
    let K : LinkKind → Type 0 = λ k. IsOver p.numbered k (plan p.scripts (print_commands p)) c.in-Some.end first (g.L.Link.state c.make_turn.new.link).past c.make_turn.new.session in
    subst K i.kind over

pub returns-in-Some-clause-numbered : goal.returns-in-Some-clause-numbered
returns-in-Some-clause-numbered g c = c.make_turn.ensures.numbered ∙ c.loop.invariant.numbered

pub returns-clause-numbered : goal.returns-clause-numbered
returns-clause-numbered g c = c.loop.invariant.numbered

pub returns-in-Some-clause-no_port : goal.returns-in-Some-clause-no_port
returns-in-Some-clause-no_port g c =
    let i = c.loop.invariant in
    let kind = (g.L.Link.state c.loop.link).kind in
    let first = (g.L.Link.state c.args.link.now).past in
    let port = port_of c.args.session.now.desk in
    let b = c.requires.begins in
    let now = (g.L.Link.state c.loop.link).past in
    let same : kind.listed port ≡ (g.L.Link.state c.args.link.now).kind.listed port = ap (λ (k : LinkKind). k.listed port) i.kind in (
      λ is. (let none = c.in-Some.ensures.no_port.0 (ap Some is) in
          (omega (arith, c.loop-test.true), sym same ∙ found_unlisted c.loop.counter kind b.print port first now c.loop.session (i.way b.print b.dialling) none.0 none.1)),
      λ none. (let dials = unlisted_first c.loop.counter kind b.print port first now c.loop.session (i.way b.print b.dialling) (same ∙ none.1) in
          same_Some _ _ (c.in-Some.ensures.no_port.1 (dials.1, dials.2))),
    )

pub returns-in-Some-clause-counts : goal.returns-in-Some-clause-counts
returns-in-Some-clause-counts g c =
    let i = c.loop.invariant in
    let made = c.in-Some.ensures.counts in
    record {
      later = omega (arith, i.counted, made.later);
      rose = λ is. rose_after _ (g.L.Link.state c.loop.link).faults _ i.counted made.later (made.rose (ap Some is));
    }

pub returns-in-Some-clause-used : goal.returns-in-Some-clause-used
returns-in-Some-clause-used g c made is = absurd (c.in-Some.ensures.unused made (ap Some is))

pub returns-clause-over : goal.returns-clause-over
returns-clause-over g c p dialling =
    let i = c.loop.invariant in
    let kind = (g.L.Link.state c.loop.link).kind in
    let first = (g.L.Link.state c.args.link.now).past in
    let port = port_of c.args.session.now.desk in
    let B : Bool → Type 0 = λ b. Grows kind (g.L.Link.state c.loop.link).past (g.L.Link.state c.hang_up.new.self).past (IsHangUp b) in
    let over = hung_over c.loop.counter kind p port first _ c.loop.session c.args.turns _ (i.way p dialling) (subst B i.up c.hang_up.ensures.past) in
    let K : LinkKind → Type 0 = λ k. IsOver p.numbered k (plan p.scripts (print_commands p)) (end.TurnsUsed c.args.turns) first (g.L.Link.state c.hang_up.new.self).past c.loop.session in
    subst K i.kind over

pub returns-clause-no_port : goal.returns-clause-no_port
returns-clause-no_port g c =
    let i = c.loop.invariant in
    let kind = (g.L.Link.state c.loop.link).kind in
    let first = (g.L.Link.state c.args.link.now).past in
    let port = port_of c.args.session.now.desk in
    let b = c.requires.begins in
    let now = (g.L.Link.state c.loop.link).past in (
      λ is. absurd (cc),
      λ none. (let dials = unlisted_first c.loop.counter kind b.print port first now c.loop.session (i.way b.print b.dialling) (ap (λ (k : LinkKind). k.listed port) i.kind ∙ none.1) in
          absurd (omega (arith, none.0, dials.0, c.loop-test.false))),
    )

pub returns-clause-used : goal.returns-clause-used
returns-clause-used g c made is =
    let i = c.loop.invariant in
    let all : c.loop.counter ≡ c.args.turns = omega (arith, c.loop-test.false) in
    let P : ℕ → Type 0 = λ n. RoseBy n (g.L.Link.state c.args.link.now).calls (g.L.Link.state c.hang_up.new.self).calls in
    let Q : Option ℕ → Type 0 = λ calls. RoseBy c.loop.counter (g.L.Link.state c.args.link.now).calls calls in
    (sym (same_turns c.args.turns made is), subst P all (subst Q (sym c.hang_up.ensures.calls) i.calls))

pub returns-in-Some-clause-waited : goal.returns-in-Some-clause-waited
returns-in-Some-clause-waited g c =
    let limit = c.args.session.now.sender.limit in
    waited_by c.in-Some.end (g.T.Clock.moment c.args.clock.now) (g.T.Clock.moment c.make_turn.new.clock) limit
    (λ count start at is began now.
    (let so = in_time _ _ _ _ _ _ _ _ _ c.loop.session.sender c.loop.invariant.on_time c.now.ensures.now c.now.ensures.stays c.make_turn.ensures.clock c.max-moment.ensures start at began now in
    let waited = c.in-Some.ensures.waited start limit count so.0 so.2 (ap Some is) in
    omega (arith, waited, so.1)))
    (λ count start at is began now.
    (let so = in_time _ _ _ _ _ _ _ _ _ c.loop.session.sender c.loop.invariant.on_time c.now.ensures.now c.now.ensures.stays c.make_turn.ensures.clock c.max-moment.ensures start at began now in
    let missed = c.in-Some.ensures.missed start limit count so.0 so.2 (ap Some is) in
    omega (arith, missed, so.1)))

pub returns-in-Some-clause-prompt : goal.returns-in-Some-clause-prompt
returns-in-Some-clause-prompt g c p counts dialling smooth few enough =
    let i = c.loop.invariant in
    let at = smooth.unsaturated.last in
    let so = shown_before _ _ _ _ _ _ _ c.now.ensures.now c.now.ensures.stays c.make_turn.ensures.clock c.max-moment.ensures i.on_time.shown smooth.unsaturated.shown in
    let was = smooth_before _ _ (port_of c.args.session.now.desk) _ (g.L.Link.state c.loop.link).faults _ (g.T.Clock.moment c.loop.clock) _ _ _ _ i.counted c.make_turn.ensures.counts.later so.before_is smooth so.within in
    c.in-Some.ensures.prompt p c.args.session.now.desk.poll_ms at (plan_length p + 12 - c.loop.counter) (ap (λ (k : LinkKind). k.prompt) i.kind ∙ smooth.prompt)
    (steady_after _ (g.L.Link.state c.loop.link).faults _ smooth.steady i.counted c.make_turn.ensures.counts.later)
    (range_now _ _ c.loop.session.sender.limit _ _ i.on_time.patient.its_limit smooth.unsaturated so.within)
    so.between_is smooth.unsaturated.shown (i.prompt p counts dialling was few _ so.before_is)

pub returns-clause-prompt : goal.returns-clause-prompt
returns-clause-prompt g c p counts dialling smooth few enough =
    let i = c.loop.invariant in
    let same : (g.L.Link.state c.hang_up.new.self).faults ≡ (g.L.Link.state c.loop.link).faults = c.hang_up.ensures.faults in
    let was = smooth_before _ _ (port_of c.args.session.now.desk) _ (g.L.Link.state c.loop.link).faults _ (g.T.Clock.moment c.loop.clock) _ _ _ smooth.unsaturated.last i.counted (omega (arith, same)) smooth.unsaturated.shown smooth (omega arith) in
    absurd (not_used _ p _ _ c.loop.counter c.args.turns _ c.loop.session enough (omega (arith, c.loop-test.false)) (i.prompt p counts dialling was few smooth.unsaturated.last smooth.unsaturated.shown))
