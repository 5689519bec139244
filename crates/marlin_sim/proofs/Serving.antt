-- What is recorded of a run while it is written and printed.
use Rattle.std.proofs.Common.{◌≡◌, ℕ, ◌+◌, ◌≤◌, Bool, true, false, List, [], ◌++◌, take, length, refl, sym, ◌∙◌, ap, subst, append-nil, arith}
use Rattle.std.specs.Prelude.{Option, Some, None, if◌then◌else◌, IfSome, drop}
use Rattle.std.proofs.Math.Seq.{take-append_seam, take-append-add}
use Rattle.std.proofs.lemmas.List.{take-append-drop}
use Rattle.octo_outside.specs.Recorded.{Adds, AddsPrefix}
use Rattle.octo_outside.proofs.Recorded.{adds_none, adds_then, became_then, became_so}
use Rattle.marlin_sim.specs.declared.end.SimEnd.{SimEnd}
use Rattle.marlin_sim.specs.declared.end.SimEnd.TheVariants as end
use Rattle.marlin_sim.specs.declared.serve.Next.{Next}
use Rattle.marlin_sim.specs.declared.serve.Next.TheVariants as next
use Rattle.marlin_sim.specs.declared.plan.SimPlan.{SimPlan}
use Rattle.marlin_sim.specs.Lines.{to_come, planned, with_begun, whole_lines}
use Rattle.marlin_sim.proofs.Coming.{with_begun-none}
use Rattle.marlin_sim.specs.Run.{SimWorld, start_text, IsRunOf, first_world, world_at, written_text}
use Rattle.marlin_sim.specs.Sim.{new_sim, SimData, FollowsModel, Keeps}
use Rattle.marlin_sim.specs.Served.{Outside, outside, IsServed, IsDone, IsCutOff, IsLost, Serves, Going, Breaks, After, Finishes, Ending, Outcome, IsUsed}

-- an addition, and then the first bytes of another
prefix_then : (old mid new : Option (List ℕ)) (front behind all : List ℕ) → Adds old mid front → AddsPrefix mid new behind → front ++ behind ≡ all → AddsPrefix old new all
prefix_then old mid new front with_begun all first second whole =
    became_then old mid new (λ _ added. added ≡ front) (λ _ added. (n : ℕ) × (added ≡ take n with_begun)) (λ _ added. (n : ℕ) × (added ≡ take n all)) first second
    (λ _ added more is prefix. (
      length front + prefix.0,
      ap (λ (l : List ℕ). l ++ more) is ∙ ap (λ (l : List ℕ). front ++ l) prefix.1 ∙ sym (take-append-add front with_begun prefix.0) ∙ ap (take (length front + prefix.0)) whole,
    ))

-- an addition is the first bytes of what it begins
prefix_of : (old new : Option (List ℕ)) (front behind all : List ℕ) → Adds old new front → all ≡ front ++ behind → AddsPrefix old new all
prefix_of old new front with_begun all grew whole =
    became_so old new (λ _ added. added ≡ front) (λ _ added. (n : ℕ) × (added ≡ take n all)) grew
    (λ _ added is. (length front, is ∙ sym (take-append_seam front with_begun) ∙ ap (take (length front)) (sym whole)))

-- the world of what is recorded
world_followed : (plan : SimPlan) (input rest : List ℕ) (s : SimData) (wrote printed : List ℕ) → FollowsModel plan input rest s wrote printed → SimWorld
world_followed plan input rest s wrote printed t = world_at s.printer s.below t.log (to_come plan s.lines rest) t.down

-- the replies were written
pub sent_going : (plan : SimPlan) (input : List ℕ) (first : Outside) (left wrote wrote' printed : Option (List ℕ)) (s : SimData) → Serves plan input first (outside left wrote printed) s → Adds wrote wrote' s.replies.text → Going plan input first (outside left wrote' printed) (record s { replies = record s.replies { text = [] } })
sent_going plan input first left wrote wrote' printed s v added =
    record {
      serves = record {
        rest = v.rest;
        left = v.left;
        wrote = v.wrote ++ s.replies.text;
        wrote_is = adds_then _ _ _ _ _ v.wrote_is added;
        printed = v.printed;
        printed_is = v.printed_is;
        follows_model = record {
          events = v.follows_model.events;
          steps = v.follows_model.steps;
          log = v.follows_model.log;
          down = v.follows_model.down;
          is = v.follows_model.is;
          lost_is = v.follows_model.lost_is;
          next_is = v.follows_model.next_is;
          wrote_is = v.follows_model.wrote_is ∙ sym (append-nil (v.wrote ++ s.replies.text));
          printed_is = v.follows_model.printed_is;
        };
      };
      clean = refl;
    }

-- the run that is recorded
run_followed : (plan : SimPlan) (input rest : List ℕ) (s : SimData) (wrote printed : List ℕ) (t : FollowsModel plan input rest s wrote printed) → IsRunOf plan input (world_at s.printer s.below t.log (to_come plan s.lines rest) t.down)
run_followed plan input rest s wrote printed t = record { events = t.events; steps = t.steps; is = t.is }

-- the connection failed in the midst of the replies
pub sent_breaks : (plan : SimPlan) (input : List ℕ) (first : Outside) (left left' wrote wrote' printed : Option (List ℕ)) (s : SimData) → Serves plan input first (outside left wrote printed) s → AddsPrefix wrote wrote' s.replies.text → Breaks plan input first (outside left' wrote' printed) s
sent_breaks plan input first left left' wrote wrote' printed s v added =
    record {
      w = world_at s.printer s.below v.follows_model.log (to_come plan s.lines v.rest) v.follows_model.down;
      run = run_followed plan input v.rest s v.wrote v.printed v.follows_model;
      wrote = prefix_then _ _ _ v.wrote s.replies.text _ v.wrote_is added (sym v.follows_model.wrote_is);
      printed = v.printed;
      printed_is = v.printed_is;
      text = v.follows_model.printed_is;
    }

-- the connection failed before them
pub cut_breaks : (plan : SimPlan) (input : List ℕ) (first : Outside) (left left' wrote printed : Option (List ℕ)) (s : SimData) → Serves plan input first (outside left wrote printed) s → Breaks plan input first (outside left' wrote printed) s
cut_breaks plan input first left left' wrote printed s v =
    record {
      w = world_at s.printer s.below v.follows_model.log (to_come plan s.lines v.rest) v.follows_model.down;
      run = run_followed plan input v.rest s v.wrote v.printed v.follows_model;
      wrote = prefix_of _ _ v.wrote s.replies.text _ v.wrote_is v.follows_model.wrote_is;
      printed = v.printed;
      printed_is = v.printed_is;
      text = v.follows_model.printed_is;
    }

-- memory ran out, and what is to be printed is as before
pub held_breaks : (plan : SimPlan) (input rest wrote printed : List ℕ) (first : Outside) (left o p : Option (List ℕ)) (s s' : SimData) → Adds first.wrote o wrote → Adds first.printed p printed
    → FollowsModel plan input rest s wrote printed → s'.text ≡ s.text → Breaks plan input first (outside left o p) s'
held_breaks plan input rest wrote printed first left o p s s' wrote_is printed_is t same =
    record {
      w = world_at s.printer s.below t.log (to_come plan s.lines rest) t.down;
      run = run_followed plan input rest s wrote printed t;
      wrote = prefix_of _ _ wrote s.replies.text _ wrote_is t.wrote_is;
      printed = printed;
      printed_is = printed_is;
      text = t.printed_is ∙ ap (λ (l : List ℕ). printed ++ l) (sym same);
    }

-- memory ran out before anything was done
pub nothing_cut : (plan : SimPlan) (input : List ℕ) (left wrote printed : Option (List ℕ)) → IsCutOff plan input (outside left wrote printed) (outside left wrote printed)
nothing_cut plan input left wrote printed =
    let all = written_text plan (first_world plan input) in
    record {
      w = first_world plan input;
      run = record { events = []; steps = refl; is = refl };
      wrote = prefix_of wrote wrote [] all all (adds_none wrote) refl;
      printed = adds_none printed;
    }

-- the text was printed
pub printed_going : (plan : SimPlan) (input : List ℕ) (first : Outside) (left wrote printed printed' : Option (List ℕ)) (s : SimData) → Going plan input first (outside left wrote printed) s → Adds printed printed' s.text → Going plan input first (outside left wrote printed') (record s { text = [] })
printed_going plan input first left wrote printed printed' s g added =
    let v = g.serves in
    record {
      serves = record {
        rest = v.rest;
        left = v.left;
        wrote = v.wrote;
        wrote_is = v.wrote_is;
        printed = v.printed ++ s.text;
        printed_is = adds_then _ _ _ _ _ v.printed_is added;
        follows_model = record {
          events = v.follows_model.events;
          steps = v.follows_model.steps;
          log = v.follows_model.log;
          down = v.follows_model.down;
          is = v.follows_model.is;
          lost_is = v.follows_model.lost_is;
          next_is = v.follows_model.next_is;
          wrote_is = v.follows_model.wrote_is;
          printed_is = v.follows_model.printed_is ∙ sym (append-nil (v.printed ++ s.text));
        };
      };
      clean = g.clean;
    }

-- the sink failed in the midst of the text
pub printed_lost : (plan : SimPlan) (input : List ℕ) (first : Outside) (left wrote printed printed' : Option (List ℕ)) (s : SimData) → Serves plan input first (outside left wrote printed) s → AddsPrefix printed printed' s.text → IsLost plan input first (outside left wrote printed')
printed_lost plan input first left wrote printed printed' s v added =
    record {
      w = world_at s.printer s.below v.follows_model.log (to_come plan s.lines v.rest) v.follows_model.down;
      run = run_followed plan input v.rest s v.wrote v.printed v.follows_model;
      wrote = prefix_of _ _ v.wrote s.replies.text _ v.wrote_is v.follows_model.wrote_is;
      printed = prefix_then _ _ _ v.printed s.text _ v.printed_is added (sym v.follows_model.printed_is);
    }

broken_lost : (plan : SimPlan) (input : List ℕ) (first : Outside) (left wrote printed printed' : Option (List ℕ)) (s : SimData) → Breaks plan input first (outside left wrote printed) s → AddsPrefix printed printed' s.text → IsLost plan input first (outside left wrote printed')
broken_lost plan input first left wrote printed printed' s b added =
    record { w = b.w; run = b.run; wrote = b.wrote; printed = prefix_then _ _ _ b.printed s.text _ b.printed_is added (sym b.text) }

-- all was written and printed
served_all : (plan : SimPlan) (input : List ℕ) (first : Outside) (left wrote printed printed' : Option (List ℕ)) (s : SimData) → Going plan input first (outside left wrote printed) s → Adds printed printed' s.text → IsServed plan input first (outside left wrote printed')
served_all plan input first left wrote printed printed' s g added =
    let v = g.serves in
    let Wrote : List ℕ → Type 0 = λ l. Adds first.wrote wrote l in
    let Printed : List ℕ → Type 0 = λ l. Adds first.printed printed' l in
    let whole : v.wrote ≡ written_text plan (world_at s.printer s.below v.follows_model.log (to_come plan s.lines v.rest) v.follows_model.down) = sym (v.follows_model.wrote_is ∙ ap (λ (l : List ℕ). v.wrote ++ l) g.clean ∙ append-nil v.wrote) in
    record {
      w = world_at s.printer s.below v.follows_model.log (to_come plan s.lines v.rest) v.follows_model.down;
      run = run_followed plan input v.rest s v.wrote v.printed v.follows_model;
      wrote = subst Wrote whole v.wrote_is;
      printed = subst Printed (sym v.follows_model.printed_is) (adds_then _ _ _ _ _ v.printed_is added);
    }

done_all : (plan : SimPlan) (input : List ℕ) (first : Outside) (left wrote printed printed' : Option (List ℕ)) (s : SimData) → Finishes plan input first (outside left wrote printed) s → Adds printed printed' s.text → IsDone plan input first (outside left wrote printed')
unfolding served_all
done_all plan input first left wrote printed printed' s f added =
    let all = served_all plan input first left wrote printed printed' s f.going added in
    let v = f.going.serves in
    let none : v.rest ≡ [] = cc (v.left, f.all_read) in
    let up : to_come plan s.lines v.rest ≡ [] = ap (to_come plan s.lines) none ∙ append-nil s.lines.waiting ∙ f.idle.waiting in
    record { w = all.w; run = all.run; over = record { up = up; queue = f.idle.queue }; wrote = all.wrote; printed = all.printed }

broken_printed : (plan : SimPlan) (input : List ℕ) (first : Outside) (left wrote printed printed' : Option (List ℕ)) (s : SimData) → Breaks plan input first (outside left wrote printed) s → Adds printed printed' s.text → IsCutOff plan input first (outside left wrote printed')
broken_printed plan input first left wrote printed printed' s b added =
    let Printed : List ℕ → Type 0 = λ l. Adds first.printed printed' l in
    record { w = b.w; run = b.run; wrote = b.wrote; printed = subst Printed (sym b.text) (adds_then _ _ _ _ _ b.printed_is added) }

-- an end whose text was printed
pub printed_ending : (e : SimEnd) (plan : SimPlan) (input : List ℕ) (first : Outside) (left wrote printed printed' : Option (List ℕ)) (s : SimData) → (e ≡ end.SinkFailed → ⊥) → Ending e plan input first (outside left wrote printed) s → Adds printed printed' s.text → Outcome e plan input first (outside left wrote printed')
printed_ending end.Done plan input first left wrote printed printed' s other f added = done_all plan input first left wrote printed printed' s f added
printed_ending end.BadPlan plan input first left wrote printed printed' s other f added = absurd f
printed_ending end.ConnFailed plan input first left wrote printed printed' s other b added = broken_printed plan input first left wrote printed printed' s b added
printed_ending end.SinkFailed plan input first left wrote printed printed' s other f added = absurd (other refl)
printed_ending (end.TurnsUsed turns) plan input first left wrote printed printed' s other g added = served_all plan input first left wrote printed printed' s g added
printed_ending end.NoMemory plan input first left wrote printed printed' s other b added = broken_printed plan input first left wrote printed printed' s b added

-- an end whose text wasn't printed whole
pub lost_ending : (e : SimEnd) (plan : SimPlan) (input : List ℕ) (first : Outside) (left wrote printed printed' : Option (List ℕ)) (s : SimData) → (e ≡ end.SinkFailed → ⊥) → Ending e plan input first (outside left wrote printed) s → AddsPrefix printed printed' s.text → IsLost plan input first (outside left wrote printed')
lost_ending end.Done plan input first left wrote printed printed' s other f added = printed_lost plan input first left wrote printed printed' s f.going.serves added
lost_ending end.BadPlan plan input first left wrote printed printed' s other f added = absurd f
lost_ending end.ConnFailed plan input first left wrote printed printed' s other b added = broken_lost plan input first left wrote printed printed' s b added
lost_ending end.SinkFailed plan input first left wrote printed printed' s other f added = absurd (other refl)
lost_ending (end.TurnsUsed turns) plan input first left wrote printed printed' s other g added = printed_lost plan input first left wrote printed printed' s g.serves added
lost_ending end.NoMemory plan input first left wrote printed printed' s other b added = broken_lost plan input first left wrote printed printed' s b added

-- a step that goes on
pub after_going : (ran : Bool) (plan : SimPlan) (input : List ℕ) (first now : Outside) (s : SimData) → Going plan input first now s → After (if ran then next.On else next.Over) plan input first now s
after_going true plan input first now s g = g
after_going false plan input first now s g = g

-- the same for what a call left
pub sent : (plan : SimPlan) (input : List ℕ) (first : Outside) (left left' wrote wrote' printed : Option (List ℕ)) (s s' : SimData) → Serves plan input first (outside left wrote printed) s → left' ≡ left → Adds wrote wrote' s.replies.text → s' ≡ record s { replies = record s.replies { text = [] } } → Going plan input first (outside left' wrote' printed) s'
sent plan input first left left' wrote wrote' printed s s' v same added after =
    let Left : Option (List ℕ) → Type 0 = λ l. Going plan input first (outside l wrote' printed) s' in
    let Sim : SimData → Type 0 = λ x. Going plan input first (outside left wrote' printed) x in
    subst Left (sym same) (subst Sim (sym after) (sent_going plan input first left wrote wrote' printed s v added))

pub not_sent : (plan : SimPlan) (input : List ℕ) (first : Outside) (left left' wrote wrote' printed : Option (List ℕ)) (s s' : SimData) → Serves plan input first (outside left wrote printed) s → AddsPrefix wrote wrote' s.replies.text → s' ≡ s → Breaks plan input first (outside left' wrote' printed) s'
not_sent plan input first left left' wrote wrote' printed s s' v added same =
    let Sim : SimData → Type 0 = λ x. Breaks plan input first (outside left' wrote' printed) x in
    subst Sim (sym same) (sent_breaks plan input first left left' wrote wrote' printed s v added)

pub printed_on : (plan : SimPlan) (input : List ℕ) (first : Outside) (left wrote printed printed' : Option (List ℕ)) (s s' : SimData) → Going plan input first (outside left wrote printed) s → Adds printed printed' s.text → s' ≡ record s { text = [] } → Going plan input first (outside left wrote printed') s'
printed_on plan input first left wrote printed printed' s s' g added after =
    let Sim : SimData → Type 0 = λ x. Going plan input first (outside left wrote printed') x in
    subst Sim (sym after) (printed_going plan input first left wrote printed printed' s g added)

-- what a step leaves, by whether a line was run
pub after_next : (n : Next) (ran : Bool) (plan : SimPlan) (input : List ℕ) (first now : Outside) (s : SimData) → n ≡ (if ran then next.On else next.Over) → Going plan input first now s → After n plan input first now s
after_next n ran plan input first now s is g =
    let P : Next → Type 0 = λ m. After m plan input first now s in
    subst P (sym is) (after_going ran plan input first now s g)

-- steps of the simulator by itself
pub serves_kept : (plan : SimPlan) (input : List ℕ) (first now : Outside) (s s' : SimData) → Keeps s s' → Serves plan input first now s → Serves plan input first now s'
serves_kept plan input first now s s' keeps v =
    record {
      rest = v.rest;
      left = v.left;
      wrote = v.wrote;
      wrote_is = v.wrote_is;
      printed = v.printed;
      printed_is = v.printed_is;
      follows_model = keeps plan input v.rest v.wrote v.printed v.follows_model;
    }

-- the next bytes were read
pub read_follows : (plan : SimPlan) (input rest bytes : List ℕ) (n : ℕ) (s : SimData) (wrote printed : List ℕ) → FollowsModel plan input rest s wrote printed → bytes ≡ take n rest → FollowsModel plan input (bytes ++ drop n rest) s wrote printed
read_follows plan input rest bytes n s wrote printed t is =
    let Rest : List ℕ → Type 0 = λ l. FollowsModel plan input l s wrote printed in
    subst Rest (sym (take-append-drop n rest) ∙ ap (λ (l : List ℕ). l ++ drop n rest) (sym is)) t

-- a read failed
pub not_read : (plan : SimPlan) (input : List ℕ) (first : Outside) (left left' wrote wrote' printed : Option (List ℕ)) (s : SimData) → Serves plan input first (outside left wrote printed) s → wrote' ≡ wrote → Breaks plan input first (outside left' wrote' printed) s
not_read plan input first left left' wrote wrote' printed s v same =
    let Wrote : Option (List ℕ) → Type 0 = λ o. Breaks plan input first (outside left' o printed) s in
    subst Wrote (sym same) (cut_breaks plan input first left left' wrote printed s v)

-- one more turn
pub used_more : (turns : ℕ) (first mid last : Option (List ℕ)) (q q' q'' : ℕ) → q' ≤ q'' → IfSome first (λ before. IsUsed turns before mid q q') → IfSome mid (λ before. IsUsed 1 before last q' q'') → IfSome first (λ before. IsUsed (turns + 1) before last q q'')
used_more turns None mid last q q' q'' counted used more = tt
used_more turns (Some before) mid last q q' q'' counted used more =
    let More : Option (List ℕ) → Type 0 = λ o. IfSome o (λ l. IsUsed 1 l last q' q'') in
    let one : IsUsed 1 used.after last q' q'' = subst More used.follows more in
    record {
      after = one.after;
      follows = one.follows;
      many = λ below. (let a = used.many (omega arith) in let b = one.many below in omega (arith, a, b));
    }

-- before anything was received
pub new_serves : (plan : SimPlan) (input : List ℕ) (left wrote printed : Option (List ℕ)) → left ≡ Some input → Serves plan input (outside left wrote printed) (outside left wrote printed) (new_sim plan)
new_serves plan input left wrote printed follows =
    record {
      rest = input;
      left = follows;
      wrote = [];
      wrote_is = adds_none wrote;
      printed = [];
      printed_is = adds_none printed;
      follows_model = record {
        events = [];
        steps = refl;
        log = [];
        down = [];
        is = ap (λ (lines : List (List ℕ)). world_at (new_sim plan).printer 0 [] (planned plan 1 lines) []) (sym (with_begun-none (whole_lines input)));
        lost_is = refl;
        next_is = refl;
        wrote_is = append-nil start_text;
        printed_is = refl;
      };
    }

-- if something is recorded
pub if_some : {A : Type 0} (follows : Option A) (P : A → Type 0) → ((x : A) → follows ≡ Some x → P x) → IfSome follows P
if_some None P all = tt
if_some (Some x) P all = all x refl
