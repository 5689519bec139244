use Rattle.std.proofs.Common.{◌≡◌, true, false, [], ◌∷◌, None, refl, sym, ap, subst, ◌∙◌}
use Rattle.std.proofs.lemmas.Bool.{false≢true}
use Rattle.octo_outside.proofs.Recorded.{became_same, became_so}
use Rattle.octo_house.specs.State.{known_of, session_of}
use Rattle.octo_house_run_proof.specs.Rounds.{AsksAt}
use Rattle.octo_house_run_proof.proofs.Counting.{none_asks}
use Rattle.octo_house_run.specs.Own.{Looks, own_moments}
use Rattle.octo_house_run.specs.Reconnecting.{after_asking, is_due}
use Rattle.octo_house_run.specs.declared.reconnect.Reconnect.{Reconnect}
use Rattle.octo_house_run.specs.Tallies.{AreOf}
use Rattle.octo_house_run.proofs.Asking.{later_walks}
use Rattle.octo_house_run.proofs.Owning.{first_holds}
use Rattle.octo_house_run.proofs.Tallying.{none_counts}
use Rattle.octo_house_run.proofs.answering.connect_if_due.Goals as goal

pub returns-then-not-is_due-clause-leads : goal.returns-then-not-is_due-clause-leads
returns-then-not-is_due-clause-leads g c files before below =
    later_walks (known_of c.args.house.now) (session_of c.args.house.now) _ _ _ _ c.args.moment refl refl before below

pub returns-then-not-is_due-clause-counted : goal.returns-then-not-is_due-clause-counted
returns-then-not-is_due-clause-counted g c = became_same (g.C.Counter.state c.args.counter.now).past (λ _ added. AreOf None added) (λ past. none_counts)

pub returns-then-not-is_due-clause-asks : goal.returns-then-not-is_due-clause-asks
returns-then-not-is_due-clause-asks g c keeper shelf =
    became_same (g.C.Counter.state c.args.counter.now).past (λ _ added. AsksAt c.args.moment keeper keeper shelf shelf added)
    (λ past. none_asks c.args.moment keeper shelf)

pub returns-then-not-is_due-clause-own : goal.returns-then-not-is_due-clause-own
returns-then-not-is_due-clause-own g c =
    became_same (g.C.Counter.state c.args.counter.now).past (λ _ added. Looks c.args.moment c.args.reconnect.now c.see.new.reconnect added)
    (λ past. record {
      state = (session_of c.args.house.now).desk.state;
      asks = false;
      due = λ is. absurd (false≢true is);
      waits = c.see.ensures;
      moments = refl;
    })

pub returns-clause-own : goal.returns-clause-own
returns-clause-own g c =
    became_so (g.C.Counter.state c.args.counter.now).past (g.C.Counter.state c.connect.new.counter).past (λ _ added. own_moments added ≡ c.args.moment ∷ [])
    (λ _ added. Looks c.args.moment c.args.reconnect.now c.after_asking.result added) c.connect.ensures.own
    (λ old added is. record {
      state = (session_of c.args.house.now).desk.state;
      asks = true;
      due = λ _. subst (λ (q : Reconnect). is_due c.args.moment q ≡ true) c.see.ensures
          (first_holds (is_due c.args.moment c.see.new.reconnect) _ (sym c.is_due.ensures ∙ c.if-not-is_due.false));
      waits = c.after_asking.ensures ∙ ap after_asking c.see.ensures;
      moments = is;
    })
