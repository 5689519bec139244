use Rattle.std.proofs.Common.{◌≡◌, inr, true, map, refl, sym, ap, subst, ◌∙◌, arith}
use Rattle.octo_outside.proofs.Recorded.{counts_then}
use Rattle.job_desk.specs.Issued.{line_of}
use Rattle.octo_session.specs.Found.{Got, got_of, temps_in, temps_kept, is_got, end_by}
use Rattle.octo_session.specs.Steps.{TakesSome, steps_over_link}
use Rattle.octo_session.specs.Turn.{texts_in}
use Rattle.octo_session.specs.declared.found.Received.{Received}
use Rattle.octo_session.proofs.Keeping.{has_heard}
use Rattle.octo_session.proofs.Stepping.{takes_talk, end_by_is, got_some, got_kept, none_said}
use Rattle.octo_session.proofs.open_turn.receive_then_send.Goals as goal

pub returns-in_default : goal.returns-in_default
returns-in_default g c =
    let bytes = c.receive.new.line.items in
    let e = c.after_receiving.ensures in
    let r = c.receive.ensures in
    let got : Got = got_of c.receive.result bytes in
    let same : c.after_receiving.result.received ≡ c.receive.result = e.received in
    let got_same : got_of c.after_receiving.result.received bytes ≡ got = ap (λ (x : Received). got_of x bytes) same in
    let is : is_got got ≡ true = got_some c.receive.result bytes r.asked c.in_default.not-Lost in
    let ends = end_by_is got c.args.moment c.args.sender.now c.receive.new.sender is r.steps.sender in
    let ends_same = ap (λ (x : Got). end_by x c.args.moment c.args.sender.now) got_same ∙ ends in
    record {
      finds = e.finds;
      asked = λ none. r.asked (sym got_same ∙ none);
      found_by = record {
        temps = ap temps_kept same ∙ r.temps ∙ sym (ap temps_in got_same);
        ended = λ end. (λ is_end. ends_same ∙ (e.ended end).0 is_end, λ is_end. (e.ended end).1 (sym ends_same ∙ is_end));
        ready = (
          λ is_ready. (sym c.ready-was_ready.ensures.ready ∙ (e.ready.0 is_ready).0, (e.ready.0 is_ready).1),
          λ becomes. e.ready.1 (c.ready-was_ready.ensures.ready ∙ becomes.0, becomes.1),
        );
        broken = λ gone. absurd (got_kept got (got_of c.after_receiving.result.received bytes) got_same is gone);
        none_issued = λ none. e.none_issued (none_said got (got_of c.after_receiving.result.received bytes) c.after_receiving.result.fact got_same is none);
        silent = e.silent;
        sent = e.sent;
      };
      noted = e.noted;
      spent = e.spent;
      joined = e.joined;
      steps = let P : Got → Type 0 = λ x. TakesSome c.args.moment (g.L.Link.state c.args.link.now).kind (g.L.Link.state c.args.link.now).past
          (g.L.Link.state c.after_receiving.new.link).past (g.L.Link.state c.args.link.now).calls (g.L.Link.state c.after_receiving.new.link).calls
          (steps_over_link x c.after_receiving.result.fact (texts_in (map line_of c.after_receiving.result.issued.items))) c.args.sender.now
          c.after_receiving.new.sender in subst P (sym got_same) (takes_talk _ _ _ _ _ _ _ _ _ got c.after_receiving.result.fact
          (texts_in (map line_of c.after_receiving.result.issued.items)) c.args.sender.now c.receive.new.sender c.after_receiving.new.sender is r.kind r.steps
          e.steps);
      up = e.up;
      kind = e.kind ∙ r.kind;
      counts = counts_then _ _ _ _ _ _ r.counts e.counts (λ is_failed. inr is_failed);
    }

pub after_receiving-requires : goal.after_receiving-requires
after_receiving-requires g c =
    let bytes = c.receive.new.line.items in
    let r = c.receive.ensures in
    let got : Got = got_of c.receive.result bytes in
    let was = c.ready-was_ready.ensures in
    let heard = has_heard got c.args.moment c.args.sender.now c.receive.new.sender (c.requires.joined.running refl) r.steps.sender in
    record {
      «open» = r.up ∙ got_some c.receive.result bytes r.asked c.in_default.not-Lost;
      counted = c.requires.joined.issued ∙ sym heard.issued;
      not_fallen = omega (arith, c.requires.joined.acked, heard.acked);
      stays_ready = λ ready. heard.lasts (sym was.ready ∙ ready);
      goes_on = λ unready. heard.goes_on (sym was.ready ∙ unready);
      fresh = λ unready. heard.issued ∙ c.requires.early (sym was.ready ∙ unready);
      linked = c.requires.joined.linked;
    }
