-- What the printer's steps leave of a run.
use Rattle.std.proofs.Common.{◌≡◌, ℕ, suc, ◌+◌, ◌<◌, ◌≤◌, Bool, true, false, List, [], ◌∷◌, ◌++◌, drop, length, length-append, refl, sym, ◌∙◌, ap, subst, append_assoc, append-nil, arith}
use Rattle.std.specs.Prelude.{◌&&◌, cond, Some, Result, Ok, Err, IfOk, OnOk}
use Rattle.std.specs.List.{list_all, flat_map}
use Rattle.std.proofs.lemmas.List.Concat.{flat_map-append}
use Rattle.std.proofs.lemmas.List.Sums.{fold-append}
use Rattle.std.proofs.lemmas.Bool.{and_parts, and_from, cond_both}
use Rattle.printer_model.specs.Printer.{PrinterData, Entry, RanLine, Logged, is_full, judged, take_judged, take_line, run_queue, run_front, log_line_of, ran_line}
use Rattle.printer_model.specs.declared.oks.Oks.{Oks}
use Rattle.printer_model.specs.declared.event.WorldEvent.{WorldEvent}
use Rattle.printer_model.specs.declared.event.WorldEvent.TheVariants.{Arrive, Run}
use Rattle.printer_model.specs.declared.printer.Reason.{Reason}
use Rattle.printer_model.specs.declared.printer.Taken.{Taken}
use Rattle.printer_model.specs.declared.printer.Taken.TheVariants.{Full}
use Rattle.marlin_sim.specs.declared.plan.SimPlan.{SimPlan}
use Rattle.marlin_sim.specs.Lines.{LinesData, to_come, planned, with_begun, whole_lines}
use Rattle.marlin_sim.specs.Run.{SimWorld, is_step, first_world, world_at, after_taking, sim_apply, sim_from, printed_line, number_after}
use Rattle.marlin_sim.specs.Signed.{given, below_after, signed_replies}
use Rattle.marlin_sim.proofs.Lost.{number_after-append, more_written}
use Rattle.marlin_sim.specs.Sim.{RepliesData, with_replies, SimData, FollowsModel, Keeps, Arrived, HasRun, HasRunOnly, AfterRunning, work}

-- one more step
steps_push : (events : List WorldEvent) (event : WorldEvent) → list_all is_step events ≡ true → is_step event ≡ true → list_all is_step (events ++ event ∷ []) ≡ true
steps_push [] event all one = ap (λ (b : Bool). b && true) one
steps_push (first ∷ events) event all one =
    let parts = and_parts (is_step first) (list_all is_step events) all in
    and_from (is_step first) (list_all is_step (events ++ event ∷ [])) parts.0 (steps_push events event parts.1 one)

-- one more step of the world
pub sim_from-push : (w : SimWorld) (events : List WorldEvent) (event : WorldEvent) → sim_from w (events ++ event ∷ []) ≡ sim_apply (sim_from w events) event
sim_from-push w events event = fold-append sim_apply w events (event ∷ [])

-- a line arrives at a printer with room
pub arrive_world : (p : PrinterData) (below : ℕ) (log : List Logged) (line : List ℕ) (lines down : List (List ℕ)) → is_full p ≡ false → sim_apply (world_at p below log (line ∷ lines) down) Arrive ≡ world_at (take_line p (given below line)).1 (below_after below line (take_line p (given below line)).0) log lines (down ++ signed_replies below (take_line p (given below line)).0)
arrive_world p below log line lines down room =
    let w = world_at p below log (line ∷ lines) down in
    ap (λ (b : Bool). cond b w (after_taking w line lines (take_line p (given below line)))) room

-- the front of a queue is run
run_entry : (last slots : ℕ) (oks : Oks) (queue : List Entry) (below : ℕ) (log : List Logged) (up down : List (List ℕ)) (ran : RanLine) → (run_queue (record { last = last; slots = slots; oks = oks; queue = queue }) queue).0 ≡ Some ran → sim_apply (world_at (record { last = last; slots = slots; oks = oks; queue = queue }) below log up down) Run ≡ world_at (run_queue (record { last = last; slots = slots; oks = oks; queue = queue }) queue).1 below (log ++ log_line_of ran ∷ []) up (down ++ ran.reply ∷ [])
run_entry last slots oks [] below log up down ran is = absurd (cc)
run_entry last slots oks (entry ∷ queue) below log up down ran is =
    let p : PrinterData = record { last = last; slots = slots; oks = oks; queue = entry ∷ queue } in
    let same : ran_line p entry ≡ ran = cc in
    ap (λ (r : RanLine). world_at (run_queue p (entry ∷ queue)).1 below (log ++ log_line_of r ∷ []) up (down ++ r.reply ∷ [])) same

pub run_world : (p : PrinterData) (below : ℕ) (log : List Logged) (up down : List (List ℕ)) (ran : RanLine) → (run_front p).0 ≡ Some ran → sim_apply (world_at p below log up down) Run ≡ world_at (run_front p).1 below (log ++ log_line_of ran ∷ []) up (down ++ ran.reply ∷ [])
run_world p below log up down ran is = run_entry p.last p.slots p.oks p.queue below log up down ran is

-- what is written and printed after a step
added_text : {X : Type 0} (f : X → List ℕ) (start : List ℕ) (xs more : List X) (out rest added : List ℕ) → start ++ flat_map f xs ≡ out ++ rest → added ≡ flat_map f more → start ++ flat_map f (xs ++ more) ≡ out ++ (rest ++ added)
added_text f start xs more out rest added is same =
    ap (λ (l : List ℕ). start ++ l) (flat_map-append f xs more)
    ∙ sym (append_assoc start (flat_map f xs) (flat_map f more))
    ∙ ap (λ (l : List ℕ). l ++ flat_map f more) is
    ∙ ap (λ (l : List ℕ). (out ++ rest) ++ l) (sym same)
    ∙ append_assoc out rest added

-- the next line arrived
pub arrived_follows : (plan : SimPlan) (input rest wrote printed : List ℕ) (old new : SimData) → Arrived old new → FollowsModel plan input rest old wrote printed → FollowsModel plan input rest new wrote printed
arrived_follows plan input rest wrote printed old new a t =
    let Follows : SimData → Type 0 = λ s. FollowsModel plan input rest s wrote printed in
    let taken = take_line old.printer (given old.below a.line) in
    let replies = signed_replies old.below taken.0 in
    let later = planned plan (suc old.lines.received) (with_begun old.lines.begun (whole_lines rest)) in
    let up : to_come plan old.lines rest ≡ a.line ∷ (drop 1 old.lines.waiting ++ later) = ap (λ (l : List (List ℕ)). l ++ later) a.first in
    subst Follows (sym a.is)
    (record {
      events = t.events ++ Arrive ∷ [];
      steps = steps_push t.events Arrive t.steps refl;
      log = t.log;
      down = t.down ++ replies;
      is = sim_from-push (first_world plan input) t.events Arrive
          ∙ ap (λ (w : SimWorld). sim_apply w Arrive) (t.is ∙ ap (λ (u : List (List ℕ)). world_at old.printer old.below t.log u t.down) up)
          ∙ arrive_world old.printer old.below t.log a.line (drop 1 old.lines.waiting ++ later) t.down a.room;
      lost_is = t.lost_is;
      next_is = ap (λ (n : ℕ). number_after n replies) t.next_is ∙ sym (number_after-append 1 t.down replies);
      wrote_is = more_written old.replies plan.lost wrote t.down replies t.lost_is t.next_is t.wrote_is;
      printed_is = t.printed_is;
    })

-- a line was run
pub ran_follows : (plan : SimPlan) (input rest wrote printed : List ℕ) (old new : SimData) → HasRun old new → FollowsModel plan input rest old wrote printed → FollowsModel plan input rest new wrote printed
ran_follows plan input rest wrote printed old new r t =
    let Follows : SimData → Type 0 = λ s. FollowsModel plan input rest s wrote printed in
    subst Follows (sym r.is)
    (record {
      events = t.events ++ Run ∷ [];
      steps = steps_push t.events Run t.steps refl;
      log = t.log ++ log_line_of r.ran ∷ [];
      down = t.down ++ r.ran.reply ∷ [];
      is = sim_from-push (first_world plan input) t.events Run
          ∙ ap (λ (w : SimWorld). sim_apply w Run) t.is
          ∙ run_world old.printer old.below t.log (to_come plan old.lines rest) t.down r.ran r.front;
      lost_is = t.lost_is;
      next_is = ap (λ (n : ℕ). number_after n (r.ran.reply ∷ [])) t.next_is ∙ sym (number_after-append 1 t.down (r.ran.reply ∷ []));
      wrote_is = more_written old.replies plan.lost wrote t.down (r.ran.reply ∷ []) t.lost_is t.next_is t.wrote_is;
      printed_is = added_text printed_line [] t.log (log_line_of r.ran ∷ []) printed old.text (printed_line (log_line_of r.ran)) t.printed_is (sym (append-nil (printed_line (log_line_of r.ran))));
    })

-- what a taken line leaves of the queue and the buffer slots
judged_queue : (p : PrinterData) (result : Result Entry Reason) → (length (take_judged p result).1.queue ≤ length p.queue + 1) × ((take_judged p result).1.slots ≡ p.slots)
judged_queue p (Ok entry) = (simp length-append (omega arith), refl)
judged_queue p (Err reason) = (omega arith, refl)

pub taken_queue : (p : PrinterData) (line : List ℕ) → (length (take_line p line).1.queue ≤ length p.queue + 1) × ((take_line p line).1.slots ≡ p.slots)
taken_queue p line =
    let P : Taken × PrinterData → Type 0 = λ t. (length t.1.queue ≤ length p.queue + 1) × (t.1.slots ≡ p.slots) in
    cond_both (is_full p) (Full, p) (take_judged p (judged p.last line)) P (λ _. (omega arith, refl)) (λ _. judged_queue p (judged p.last line))

-- a line that is looked at isn't left
judged_not_full : (p : PrinterData) (result : Result Entry Reason) → (take_judged p result).0 ≡ Full → ⊥
judged_not_full p (Ok entry) is = cc
judged_not_full p (Err reason) is = cc

-- a full printer alone leaves a line
pub full_left : (p : PrinterData) (line : List ℕ) → (take_line p line).0 ≡ Full → (is_full p ≡ true) × ((take_line p line).1 ≡ p)
full_left p line =
    let P : Taken × PrinterData → Type 0 = λ t. t.0 ≡ Full → (is_full p ≡ true) × (t.1 ≡ p) in
    cond_both (is_full p) (Full, p) (take_judged p (judged p.last line)) P (λ full _. (full, refl)) (λ _ is. absurd (judged_not_full p (judged p.last line) is))

pub room_else : (p : PrinterData) (line : List ℕ) → ((take_line p line).0 ≡ Full → ⊥) → is_full p ≡ false
room_else p line =
    let P : Taken × PrinterData → Type 0 = λ t. (t.0 ≡ Full → ⊥) → is_full p ≡ false in
    cond_both (is_full p) (Full, p) (take_judged p (judged p.last line)) P (λ _ other. absurd (other refl)) (λ room _. room)

-- a line that arrives is less to do
pub arrived_work : (old new : SimData) → Arrived old new → (work new < work old) × (new.printer.slots ≡ old.printer.slots)
arrived_work old new a =
    let queue = taken_queue old.printer (given old.below a.line) in
    let Less : SimData → Type 0 = λ s. (work s < work old) × (s.printer.slots ≡ old.printer.slots) in
    let waiting : length old.lines.waiting ≡ suc (length (drop 1 old.lines.waiting)) = ap length a.first in
    subst Less (sym a.is) (omega (arith, queue.0, waiting), queue.1)

-- what is recorded after several steps
pub keeps_then : (first mid last : SimData) → Keeps first mid → Keeps mid last → Keeps first last
keeps_then first mid last one two plan input rest wrote printed t = two plan input rest wrote printed (one plan input rest wrote printed t)

-- what is recorded after an attempt to run a line
pub run_keeps : {E : Type 0} (first old new : SimData) (result : Result Bool E) → Keeps first old → IfOk result (λ did. AfterRunning did old new) → OnOk result (Keeps first new)
run_keeps first old new (Ok true) before r = keeps_then first old new before (λ plan input rest wrote printed t. ran_follows plan input rest wrote printed old new r t)
run_keeps first old new (Ok false) before r = let Kept : SimData → Type 0 = λ s. Keeps first s in subst Kept (sym r.0) before
run_keeps first old new (Err error) before r = tt

-- a simulator of these parts
abbrev pub sim_of : PrinterData → ℕ → LinesData → RepliesData → List ℕ → SimData
sim_of printer below lines replies text = record { printer = printer; below = below; lines = lines; replies = replies; text = text }

-- the parts of an arrival
pub arrived_of : (p q : PrinterData) (b b' : ℕ) (l l' : LinesData) (replies replies' : RepliesData) (text line : List ℕ) (taken : Taken) → l.waiting ≡ line ∷ drop 1 l.waiting → taken ≡ (take_line p (given b line)).0 → q ≡ (take_line p (given b line)).1 → (taken ≡ Full → ⊥) → b' ≡ below_after b line taken → l' ≡ record l { waiting = drop 1 l.waiting } → replies' ≡ with_replies replies (signed_replies b taken) → Arrived (sim_of p b l replies text) (sim_of q b' l' replies' text)
arrived_of p q b b' l l' replies replies' text line taken first is after other below dropped wrote =
    let t = (take_line p (given b line)).0 in
    let same : sim_of q b' l' replies' text ≡ sim_of (take_line p (given b line)).1 (below_after b line t) (record l { waiting = drop 1 l.waiting }) (with_replies replies (signed_replies b t)) text =
    ap (λ (x : PrinterData). sim_of x b' l' replies' text) after
    ∙ ap (λ (x : ℕ). sim_of (take_line p (given b line)).1 x l' replies' text) (below ∙ ap (below_after b line) is)
    ∙ ap (λ (x : LinesData). sim_of (take_line p (given b line)).1 (below_after b line t) x replies' text) dropped
    ∙ ap (λ (x : RepliesData). sim_of (take_line p (given b line)).1 (below_after b line t) (record l { waiting = drop 1 l.waiting }) x text) (wrote ∙ ap (λ (x : Taken). with_replies replies (signed_replies b x)) is) in
    record { line = line; first = first; room = room_else p (given b line) (λ full. other (is ∙ full)); is = same }

-- the parts of a run whose reply or line found no memory
pub ran_only : (p q : PrinterData) (b : ℕ) (l : LinesData) (replies replies' : RepliesData) (text text' : List ℕ) (ran : RanLine) → Some ran ≡ (run_front p).0 → q ≡ (run_front p).1 → text' ≡ text → HasRunOnly (sim_of p b l replies text) (sim_of q b l replies' text')
ran_only p q b l replies replies' text text' ran front after same =
    let all : RepliesData = with_replies replies (ran.reply ∷ []) in
    let printed : List ℕ = text ++ printed_line (log_line_of ran) in
    record {
      replies = all;
      text = printed;
      ran = record { ran = ran; front = sym front; is = ap (λ (x : PrinterData). sim_of x b l all printed) after };
      unprinted = same;
    }
