-- Each round of a run calls a link, unless a last one is hung up in it.
use Rattle.std.proofs.Common.{◌≡◌, ◌⊎◌, inl, inr, ℕ, zero, suc, ◌+◌, ◌<◌, ◌≤◌, Bool, true, false, cond, List, [], ◌∷◌, length, Some, refl, sym, ◌∙◌, ap, subst, arith}
use Rattle.std.specs.Prelude.{All, slice_get, count_by}
use Rattle.std.proofs.lemmas.Bool.{false≢true, cases_lt}
use Rattle.std.proofs.lemmas.List.Elements.{All-nil, All-cons}
use Rattle.std.proofs.lemmas.List.Sums.{sum_by-cons, count_by-le-length}
use Rattle.std.proofs.lemmas.Option.{slice_get_within}
use Rattle.job_desk.specs.Table.{disconnect_at}
use Rattle.job_desk.specs.declared.state.State.{State}
use Rattle.job_desk.specs.declared.state.State.TheVariants as state
use Rattle.octo_floor_bay.specs.Bay.{BayData}
use Rattle.octo_floor_bay.specs.Events.{FloorHistory}
use Rattle.octo_floor.specs.Counted.{one_if}
use Rattle.printer_link.specs.Calls.{LinkState}
use Rattle.octo_floor.specs.Phases.{phase_in}
use Rattle.octo_floor.specs.Floor.{FloorData, IsFloor, Setting, AreUp}
use Rattle.octo_floor.specs.Leaving.{IsDisconnected, Leaves, disconnected_unless}
use Rattle.octo_floor.specs.Round.{Steps, IsRound}
use Rattle.octo_floor.specs.Run.{HaveLeft, AreCalled, has_left_in, has_left, is_lost}
use Rattle.octo_floor.proofs.Goes.{well_steps}
use Rattle.octo_floor.proofs.Opens.{later_bay, steps_began}
use Rattle.octo_floor.proofs.Places.{never, same_place, place}
use Rattle.octo_floor.proofs.Rising.{Rises, rises_same, rises_then}
use Rattle.octo_floor.proofs.RoundParts.{own_bay, other_bay}
use Rattle.octo_floor.proofs.Calling.{left_count, calling, step_rises, later_gain, first_gain}

-- an element that a test holds of is counted
count_has : (xs : List BayData) (j : ℕ) (b : BayData) → slice_get xs j ≡ Some b → has_left b ≡ true → 1 ≤ count_by has_left xs
count_has [] j b at is = absurd (cc at)
count_has (x ∷ xs) zero b at is =
    let one : BayData → ℕ = λ c. cond (has_left c) 1 0 in
    let same : x ≡ b = cc at in
    let this : one x ≡ 1 = ap one same ∙ ap (λ (l : Bool). cond {A = ℕ} l 1 0) is in
    let sum = sum_by-cons one x xs in
    omega (arith, this, sum)
count_has (x ∷ xs) (suc j) b at is =
    let sum = sum_by-cons (λ (c : BayData). cond {A = ℕ} (has_left c) 1 0) x xs in
    let rest = count_has xs j b at is in
    omega (arith, sum, rest)

count_more : (xs ys : List BayData) → length ys ≡ length xs →
    ((j : ℕ) (a b : BayData) → slice_get xs j ≡ Some a → slice_get ys j ≡ Some b → has_left a ≡ true → has_left b ≡ true) →
    count_by has_left xs ≤ count_by has_left ys
count_more [] ys same so = omega arith
count_more (x ∷ xs) [] same so = absurd (cc same)
count_more (x ∷ xs) (y ∷ ys) same so =
    let one : BayData → ℕ = λ c. cond (has_left c) 1 0 in
    let rest = count_more xs ys (cc same) (λ j a b. so (suc j) a b) in
    let sum = sum_by-cons one x xs in
    let sum' = sum_by-cons one y ys in
    let this : one x ≤ one y = by (has_left x) (has_left y) (so zero x y refl refl) in
    omega (arith, rest, sum, sum', this)
  where
    by : (a b : Bool) → (a ≡ true → b ≡ true) → cond {A = ℕ} a 1 0 ≤ cond {A = ℕ} b 1 0
    by false b keeps = omega arith
    by true true keeps = omega arith
    by true false keeps = absurd (false≢true (keeps refl))

-- not all have left: one hasn't
find_not : (xs : List BayData) → (All (λ (b : BayData). has_left b ≡ true) xs → ⊥) → (j : ℕ) × (b : BayData) × (slice_get xs j ≡ Some b) × (has_left b ≡ false)
find_not [] none = absurd (none (All-nil (λ (b : BayData). has_left b ≡ true)))
find_not (x ∷ xs) none = by (has_left x) refl (λ is. find_not xs (λ all. none (All-cons (λ (b : BayData). has_left b ≡ true) x xs is all)))
  where
    by : (l : Bool) → has_left x ≡ l → (has_left x ≡ true → (j : ℕ) × (b : BayData) × (slice_get xs j ≡ Some b) × (has_left b ≡ false)) →
        (j : ℕ) × (b : BayData) × (slice_get (x ∷ xs) j ≡ Some b) × (has_left b ≡ false)
    by false is rest = (zero, x, refl, is)
    by true is rest = let so = rest is in (suc so.0, so.1, so.2, so.3)

-- the first printers' parts in a later round
abbrev LaterGain : ℕ → Setting → Setting → Type 0
LaterGain n x y =
    (k : ℕ) × Rises k x.links y.links × (left_count x.floor ≤ left_count y.floor + k)
    × ((j : ℕ) (b : BayData) → j < n → slice_get x.floor.bays j ≡ Some b → has_left b ≡ false → left_count x.floor + 1 ≤ left_count y.floor + k)

later_steps : (n moment : ℕ) (x y : Setting) (heard : Bool) (events : FloorHistory) → Steps n moment x y heard events → IsFloor x.floor →
    AreUp x.floor.bays x.links → x.floor.began ≡ true → LaterGain n x y
later_steps zero moment x y heard events s f up began =
    subst (λ (z : Setting). LaterGain zero x z) (sym s.0) (0, rises_same x.links, omega arith, λ j b less at is. never j 0 less (omega arith))
later_steps (suc n) moment x y heard events (mid, before, hears, former, added, first, last, is, are) f up began =
    let one = later_steps n moment x mid before former first f up began in
    let well = well_steps n moment x mid before former first f up in
    let c : ℕ = one_if (calling n moment mid y hears added last well.floor) in
    let gain = later_gain n moment mid y hears added last well.floor (steps_began n moment x mid before former first ∙ began) in (
      one.0 + c,
      rises_then one.0 c x.links mid.links y.links one.1 (step_rises n moment mid y hears added last well.floor),
      (let a = one.2 in let b = gain.0 in omega (arith, a, b)),
      λ j b less at unleft. by one.0 c one.2 gain.0 (λ small. one.3 j b small at unleft) (λ here. gain.1 (own j b here at unleft)) (cases_lt j n) less,
    )
  where
    own : (j : ℕ) (b : BayData) → j ≡ n → slice_get x.floor.bays j ≡ Some b → has_left b ≡ false → has_left last.over.bay ≡ false
    own j b here at unleft =
        let was : slice_get x.floor.bays n ≡ Some last.over.bay = sym (later_bay n moment x mid before former first n (omega arith)) ∙ last.over.its_bay in
        ap has_left (same_place x.floor.bays n last.over.bay b was (ap (λ (i : ℕ). slice_get x.floor.bays i) (sym here) ∙ at)) ∙ unleft

    by : {j : ℕ} (k c : ℕ) → left_count x.floor ≤ left_count mid.floor + k → left_count mid.floor ≤ left_count y.floor + c →
        (j < n → left_count x.floor + 1 ≤ left_count mid.floor + k) → (j ≡ n → left_count mid.floor + 1 ≤ left_count y.floor + c) →
        (j < n) ⊎ (n ≤ j) → j < suc n → left_count x.floor + 1 ≤ left_count y.floor + (k + c)
    by k c a b early late (inl small) less = let so = early small in omega (arith, so, b)
    by k c a b early late (inr more) less = let so = late (omega (arith, more, less)) in omega (arith, so, a)

-- and in the first round
abbrev FirstGain : ℕ → Setting → Setting → Type 0
FirstGain n x y =
    (k : ℕ) × Rises k x.links y.links × (0 < n → (1 ≤ k) ⊎ ((b : BayData) × (slice_get y.floor.bays 0 ≡ Some b) × (has_left b ≡ true)))

first_steps : (n moment : ℕ) (x y : Setting) (heard : Bool) (events : FloorHistory) → Steps n moment x y heard events → IsFloor x.floor →
    AreUp x.floor.bays x.links → x.floor.began ≡ false → FirstGain n x y
first_steps zero moment x y heard events s f up began =
    subst (λ (z : Setting). FirstGain zero x z) (sym s.0) (0, rises_same x.links, λ less. never 0 0 less (omega arith))
first_steps (suc n) moment x y heard events (mid, before, hears, former, added, first, last, is, are) f up began =
    let one = first_steps n moment x mid before former first f up began in
    let well = well_steps n moment x mid before former first f up in
    let c : Bool = calling n moment mid y hears added last well.floor in
    let gain = first_gain n moment mid y hears added last well.floor (steps_began n moment x mid before former first ∙ began) in (
      one.0 + one_if c,
      rises_then one.0 (one_if c) x.links mid.links y.links one.1 (step_rises n moment mid y hears added last well.floor),
      λ more. by one.0 (one_if c) one.2 gain (cases_lt 0 n),
    )
  where
    kept : (k c : ℕ) → 0 < n → (1 ≤ k) ⊎ ((b : BayData) × (slice_get mid.floor.bays 0 ≡ Some b) × (has_left b ≡ true)) →
        (1 ≤ k + c) ⊎ ((b : BayData) × (slice_get y.floor.bays 0 ≡ Some b) × (has_left b ≡ true))
    kept k c some (inl called) = inl (omega (arith, called))
    kept k c some (inr left) =
        inr (left.0, other_bay n moment mid y hears added last 0 (λ same. never 0 n some (omega (arith, same))) ∙ left.1, left.2)

    own : (k c : ℕ) → n ≡ 0 → (l : Bool) → has_left last.over.after ≡ l → 1 ≤ c + one_if l →
        (1 ≤ k + c) ⊎ ((b : BayData) × (slice_get y.floor.bays 0 ≡ Some b) × (has_left b ≡ true))
    own k c here false is gain = inl (omega (arith, gain))
    own k c here true is gain =
        inr (last.over.after, ap (λ (i : ℕ). slice_get y.floor.bays i) (sym here) ∙ own_bay n moment mid y hears added last, is)

    by : (k c : ℕ) → (0 < n → (1 ≤ k) ⊎ ((b : BayData) × (slice_get mid.floor.bays 0 ≡ Some b) × (has_left b ≡ true))) →
        1 ≤ c + one_if (has_left last.over.after) → (0 < n) ⊎ (n ≤ 0) →
        (1 ≤ k + c) ⊎ ((b : BayData) × (slice_get y.floor.bays 0 ≡ Some b) × (has_left b ≡ true))
    by k c former_so gain (inl some) = kept k c some (former_so some)
    by k c former_so gain (inr none) = own k c (omega (arith, none)) (has_left last.over.after) refl gain

-- what a round adds to the calls and to the printers that have left
pub record Gains (x y : Setting) : Type 0 where
  pub k : ℕ
  pub rises : Rises k x.links y.links
  pub one : 1 ≤ left_count y.floor + k
  pub more : x.floor.began ≡ true → (HaveLeft x.floor → ⊥) → left_count x.floor + 1 ≤ left_count y.floor + k

pub round_gains : (moment : ℕ) (x y : Setting) (heard : Bool) (events : FloorHistory) → IsRound moment x y heard events → IsFloor x.floor →
    AreUp x.floor.bays x.links → Gains x y
round_gains moment x y heard events r f up = subst (λ (z : Setting). Gains x z) (sym r.made) (by x.floor.began refl)
  where
    z : Setting
    z = record r.stepped { floor = record r.stepped.floor { began = true } }

    some : 0 < length x.floor.bays
    some = let two = f.some in omega (arith, two)

    by : (b : Bool) → x.floor.began ≡ b → Gains x (record r.stepped { floor = record r.stepped.floor { began = true } })
    by true began =
        let so = later_steps (length x.floor.bays) moment x r.stepped heard events r.steps f up began in
        let bay = place x.floor.bays 0 some in
        record {
          k = so.0;
          rises = so.1;
          one = first bay.0 bay.1 so.0 so.2 (has_left bay.0) refl (so.3 0 bay.0 some bay.1);
          more = λ began_so not_all. (let one = find_not x.floor.bays not_all in
              so.3 one.0 one.1 (slice_get_within x.floor.bays one.0 one.1 one.2) one.2 one.3);
        }
      where
        first : (b : BayData) → slice_get x.floor.bays 0 ≡ Some b → (k : ℕ) → left_count x.floor ≤ left_count r.stepped.floor + k → (l : Bool) → has_left b ≡ l →
            (has_left b ≡ false → left_count x.floor + 1 ≤ left_count r.stepped.floor + k) → 1 ≤ left_count r.stepped.floor + k
        first b at k all true is unleft = let has = count_has x.floor.bays 0 b at is in omega (arith, has, all)
        first b at k all false is unleft = let so = unleft is in omega (arith, so)
    by false began =
        let so = first_steps (length x.floor.bays) moment x r.stepped heard events r.steps f up began in
        record {
          k = so.0;
          rises = so.1;
          one = first so.0 (so.2 some);
          more = λ began_so not_all. absurd (false≢true (sym began ∙ began_so));
        }
      where
        first : (k : ℕ) → (1 ≤ k) ⊎ ((b : BayData) × (slice_get r.stepped.floor.bays 0 ≡ Some b) × (has_left b ≡ true)) → 1 ≤ left_count r.stepped.floor + k
        first k (inl called) = omega (arith, called)
        first k (inr left) = let has = count_has r.stepped.floor.bays 0 left.0 left.1 left.2 in omega (arith, has)

-- this number of rounds have called the links often enough; and after one of them not all printers have left
pub record IsCalled (n : ℕ) (links : List LinkState) (now : FloorData) (links' : List LinkState) : Type 0 where
  pub k : ℕ
  pub rises : Rises k links links'
  pub enough : n ≤ k + left_count now
  pub going : (n ≡ 0) ⊎ ((now.began ≡ true) × (HaveLeft now → ⊥))

pub called_first : (f : FloorData) (links : List LinkState) → IsCalled 0 links f links
called_first f links = record { k = 0; rises = rises_same links; enough = omega arith; going = inl refl }

-- a disconnect leaves what has left
left_kept : (b c : BayData) → IsDisconnected b c → has_left b ≡ true → has_left c ≡ true
left_kept b c d is = ap has_left d.bay_is ∙ by (is_lost b) b.session.desk.state refl
  where
    by : (l : Bool) (at : State) → b.session.desk.state ≡ at → has_left (disconnected_unless l b) ≡ true
    by true at same = is
    by false state.Offline same =
        ap (λ (s : State). has_left_in (phase_in (disconnect_at s b.session.desk).state)) same ∙ ap (λ (s : State). has_left_in (phase_in s)) same
    by false state.Fault same = ap (λ (s : State). has_left_in (phase_in (disconnect_at s b.session.desk).state)) same
    by false state.Connecting same = absurd (false≢true (sym (ap (λ (s : State). has_left_in (phase_in s)) same) ∙ is))
    by false state.Operational same = absurd (false≢true (sym (ap (λ (s : State). has_left_in (phase_in s)) same) ∙ is))
    by false state.Printing same = absurd (false≢true (sym (ap (λ (s : State). has_left_in (phase_in s)) same) ∙ is))
    by false state.Pausing same = absurd (false≢true (sym (ap (λ (s : State). has_left_in (phase_in s)) same) ∙ is))
    by false state.Paused same = absurd (false≢true (sym (ap (λ (s : State). has_left_in (phase_in s)) same) ∙ is))
    by false state.Cancelling same = absurd (false≢true (sym (ap (λ (s : State). has_left_in (phase_in s)) same) ∙ is))
    by false state.Finishing same = absurd (false≢true (sym (ap (λ (s : State). has_left_in (phase_in s)) same) ∙ is))
    by false state.Closing same = absurd (false≢true (sym (ap (λ (s : State). has_left_in (phase_in s)) same) ∙ is))

leaves_count : (leaves now : Bool) (f g : FloorData) → Leaves leaves f now g → left_count f ≤ left_count g
leaves_count true now f g so = let same : left_count g ≡ left_count f = ap left_count so.1 in omega (arith, same)
leaves_count false false f g so = let same : left_count g ≡ left_count f = ap left_count so.1 in omega (arith, same)
leaves_count false true f g so =
    count_more f.bays g.bays so.1.bays
    (λ j a b at at'. left_kept a b (so.1.first j a b (slice_get_within f.bays j a at) at at'))

-- one more round
pub called_on : (n moment : ℕ) (links : List LinkState) (x y : Setting) (heard : Bool) (events : FloorHistory) (leaves now : Bool) (g : FloorData) →
    IsRound moment x y heard events → IsFloor x.floor → AreUp x.floor.bays x.links → IsCalled n links x.floor x.links → Leaves leaves y.floor now g →
    g.began ≡ true → (HaveLeft g → ⊥) → IsCalled (n + 1) links g y.links
called_on n moment links x y heard events leaves now g r f up so_far left began going =
    let gains = round_gains moment x y heard events r f up in
    record {
      k = so_far.k + gains.k;
      rises = rises_then so_far.k gains.k links x.links y.links so_far.rises gains.rises;
      enough = by gains so_far.going;
      going = inr (began, going);
    }
  where
    by : (gains : Gains x y) → (n ≡ 0) ⊎ ((x.floor.began ≡ true) × (HaveLeft x.floor → ⊥)) → n + 1 ≤ so_far.k + gains.k + left_count g
    by gains (inl none) = let one = gains.one in let more = leaves_count leaves now y.floor g left in omega (arith, none, one, more)
    by gains (inr goes) =
        let one = gains.more goes.0 goes.1 in
        let more = leaves_count leaves now y.floor g left in
        let was = so_far.enough in
        omega (arith, one, more, was)

-- printers that go on haven't all left
pub goes_on : (leaves now : Bool) (f g : FloorData) → Leaves leaves f now g → now ≡ false → HaveLeft g → ⊥
goes_on true now f g so goes left = false≢true (sym goes ∙ so.0)
goes_on false true f g so goes left = false≢true (sym goes)
goes_on false false f g so goes left = so.0 (subst (λ (h : FloorData). HaveLeft h) so.1 left)

-- the bound of the calls
pub called_bound : (n turns : ℕ) (links links' : List LinkState) (f : FloorData) → IsFloor f → turns ≤ n → IsCalled n links f links' → AreCalled turns links links'
called_bound n turns links links' f floor done is before now at at' counting =
    let so = is.rises before at in
    let same : so.0 ≡ now = cc (sym so.1 ∙ at') in
    let rose = (so.2 counting).1 in
    let enough = is.enough in
    let few = floor.few in
    let left = count_by-le-length has_left f.bays in
    omega (arith, done, same, rose, enough, few, left)
