-- Over lines whose numbers have no minus sign, the printer is the one of the theorem.
use Rattle.std.proofs.Common.{◌≡◌, ⊎_elim, ℕ, Bool, true, false, cond, not, List, [], ◌∷◌, ◌++◌, refl, sym, ◌∙◌, ap, subst, arith}
use Rattle.std.specs.Prelude.{◌||◌, ◌==◌, codes}
use Rattle.std.specs.List.{list_all}
use Rattle.std.proofs.lemmas.Bool.{and_parts, cond_both, cases_Bool}
use Rattle.printer_model.proofs.Laws.{happens, stays}
use Rattle.std.proofs.lemmas.Bool.Decides.{nat_tests}
use Rattle.byte_text.specs.Marks.{has_m110}
use Rattle.marlin_frame.specs.Frame.{begins_with_n, fails}
use Rattle.printer_model.specs.Printer.{PrinterData, Entry, Logged, is_full, take_line}
use Rattle.printer_model.specs.Replies.{taken_replies}
use Rattle.printer_model.specs.World.{WorldData, apply, world_from}
use Rattle.printer_model.specs.declared.oks.Oks.{Oks}
use Rattle.printer_model.specs.declared.event.WorldEvent.{WorldEvent}
use Rattle.printer_model.specs.declared.event.WorldEvent.TheVariants.{Opened, Send, Arrive, Lose, LoseReply, Garble, Run, Restart, Chatter, Recv, Closed}
use Rattle.printer_model.specs.declared.printer.Taken.{Taken}
use Rattle.printer_model.specs.declared.printer.Taken.TheVariants.{Accepted, Full, Refused}
use Rattle.marlin_sim.specs.Run.{SimWorld, is_step, world_at, after_taking, sim_apply, sim_from, model_world}
use Rattle.marlin_sim.specs.Signed.{minus_of, given, given_setting, below_after, signed_replies, are_unsigned}

-- the same, if the test is known
if_is : {A : Type 0} (b : Bool) (x y : A) → b ≡ true → cond b x y ≡ x
if_is b x y is = ap (λ (t : Bool). cond t x y) is

or_right : (a b : Bool) → b ≡ true → (a || b) ≡ true
or_right true b is = refl
or_right false b is = is

-- a line without a sign is taken as it is
pub given_same : (line : List ℕ) → (minus_of line == 0) ≡ true → given 0 line ≡ line
unfolding given given_setting
given_same line none =
    let P : List ℕ → Type 0 = λ l. l ≡ line in
    let setting = cond (fails line || (minus_of line == 0)) line (codes "N0 M110*35") in
    cond_both (not (begins_with_n line)) line (cond (has_m110 line) setting line) P (λ _. refl)
    (λ _. cond_both (has_m110 line) setting line P (λ _. if_is (fails line || (minus_of line == 0)) line (codes "N0 M110*35") (or_right (fails line) (minus_of line == 0) none)) (λ _. refl))

-- the last number stays at or above 0
pub below_none : (line : List ℕ) (taken : Taken) → (minus_of line == 0) ≡ true → below_after 0 line taken ≡ 0
unfolding below_after
below_none line Accepted none =
    let P : ℕ → Type 0 = λ n. n ≡ 0 in
    cond_both (begins_with_n line) (minus_of line) 0 P (λ _. grind (arith, nat_tests)) (λ _. refl)
below_none line Full none = refl
below_none line (Refused reason last) none = refl

-- and the replies are those of the printer
pub replies_same : (taken : Taken) → signed_replies 0 taken ≡ taken_replies taken
unfolding signed_replies
replies_same taken = refl

-- a step is the same for both, and keeps the numbers without a sign
record IsSame (w : SimWorld) (event : WorldEvent) : Type 0 where
  pub is : apply (model_world w) event ≡ model_world (sim_apply w event)
  pub below : (sim_apply w event).below ≡ 0
  pub unsigned : are_unsigned (sim_apply w event).up ≡ true

-- a full printer takes no line
full_same : (p : PrinterData) (log : List Logged) (line : List ℕ) (rest down : List (List ℕ)) → are_unsigned (line ∷ rest) ≡ true → is_full p ≡ true → IsSame (world_at p 0 log (line ∷ rest) down) Arrive
full_same p log line rest down unsigned full =
    let w = world_at p 0 log (line ∷ rest) down in
    let stays_sim : sim_apply w Arrive ≡ w = ap (λ (b : Bool). cond b w (after_taking w line rest (take_line p (given 0 line)))) full in
    record {
      is = stays (model_world w) Arrive (ap not full) ∙ ap model_world (sym stays_sim);
      below = ap (λ (s : SimWorld). s.below) stays_sim;
      unsigned = ap (λ (s : SimWorld). are_unsigned s.up) stays_sim ∙ unsigned;
    }

-- one with room takes the next
room_same : (p : PrinterData) (log : List Logged) (line : List ℕ) (rest down : List (List ℕ)) → are_unsigned (line ∷ rest) ≡ true → is_full p ≡ false → IsSame (world_at p 0 log (line ∷ rest) down) Arrive
room_same p log line rest down unsigned room =
    let w = world_at p 0 log (line ∷ rest) down in
    let parts = and_parts (minus_of line == 0) (are_unsigned rest) unsigned in
    let taken = take_line p line in
    let as_is : given 0 line ≡ line = given_same line parts.0 in
    let taken_sim : sim_apply w Arrive ≡ after_taking w line rest taken =
    ap (λ (b : Bool). cond b w (after_taking w line rest (take_line p (given 0 line)))) room
    ∙ ap (λ (l : List ℕ). after_taking w line rest (take_line p l)) as_is in
    let down_is : down ++ taken_replies taken.0 ≡ down ++ signed_replies 0 taken.0 = ap (λ (r : List (List ℕ)). down ++ r) (sym (replies_same taken.0)) in
    record {
      is = happens (model_world w) Arrive (ap not room)
          ∙ ap (λ (d : List (List ℕ)). model_world (world_at taken.1 0 log rest d)) down_is
          ∙ ap model_world (sym taken_sim);
      below = ap (λ (s : SimWorld). s.below) taken_sim ∙ below_none line taken.0 parts.0;
      unsigned = ap (λ (s : SimWorld). are_unsigned s.up) taken_sim ∙ parts.1;
    }

arrive_same : (p : PrinterData) (log : List Logged) (up down : List (List ℕ)) → are_unsigned up ≡ true → IsSame (world_at p 0 log up down) Arrive
arrive_same p log [] down unsigned = record { is = refl; below = refl; unsigned = refl }
arrive_same p log (line ∷ rest) down unsigned =
    ⊎_elim (full_same p log line rest down unsigned) (room_same p log line rest down unsigned) (cases_Bool (is_full p))

-- both run the same line
run_same : (last slots : ℕ) (oks : Oks) (queue : List Entry) (log : List Logged) (up down : List (List ℕ)) → are_unsigned up ≡ true → IsSame (world_at (record { last = last; slots = slots; oks = oks; queue = queue }) 0 log up down) Run
run_same last slots oks [] log up down unsigned = record { is = refl; below = refl; unsigned = unsigned }
run_same last slots oks (entry ∷ queue) log up down unsigned =
    record {
      is = happens (model_world (world_at (record { last = last; slots = slots; oks = oks; queue = entry ∷ queue }) 0 log up down)) Run refl;
      below = refl;
      unsigned = unsigned;
    }

step_same : (w : SimWorld) (event : WorldEvent) → is_step event ≡ true → w.below ≡ 0 → are_unsigned w.up ≡ true → IsSame w event
step_same w Arrive step none unsigned =
    let P : ℕ → Type 0 = λ b. IsSame (world_at w.printer b w.log w.up w.down) Arrive in
    subst P (sym none) (arrive_same w.printer w.log w.up w.down unsigned)
step_same w Run step none unsigned =
    let P : ℕ → Type 0 = λ b. IsSame (world_at w.printer b w.log w.up w.down) Run in
    let p = w.printer in
    subst P (sym none) (run_same p.last p.slots p.oks p.queue w.log w.up w.down unsigned)
step_same w (Opened last) step none unsigned = absurd (cc)
step_same w (Send line) step none unsigned = absurd (cc)
step_same w (Lose at) step none unsigned = absurd (cc)
step_same w (LoseReply at) step none unsigned = absurd (cc)
step_same w (Garble at line) step none unsigned = absurd (cc)
step_same w Restart step none unsigned = absurd (cc)
step_same w (Chatter reply) step none unsigned = absurd (cc)
step_same w Recv step none unsigned = absurd (cc)
step_same w Closed step none unsigned = absurd (cc)

-- all steps are the same for both
pub steps_same : (events : List WorldEvent) (w : SimWorld) → list_all is_step events ≡ true → w.below ≡ 0 → are_unsigned w.up ≡ true → world_from (model_world w) events ≡ model_world (sim_from w events)
steps_same [] w steps none unsigned = refl
steps_same (event ∷ events) w steps none unsigned =
    let parts = and_parts (is_step event) (list_all is_step events) steps in
    let one = step_same w event parts.0 none unsigned in
    ap (λ (m : WorldData). world_from m events) one.is
    ∙ steps_same events (sim_apply w event) parts.1 one.below one.unsigned
