-- How the calls of a floor's links rise.
use Rattle.std.proofs.Common.{◌≡◌, ◌≢◌, ◌⊎◌, inl, inr, ℕ, zero, suc, ◌+◌, ◌<◌, ◌≤◌, List, [], ◌∷◌, Option, None, Some, refl, sym, ◌∙◌, ap, subst, arith}
use Rattle.std.specs.Prelude.{slice_get, slice_set}
use Rattle.octo_outside.specs.Recorded.{last_count}
use Rattle.printer_link.specs.Link.{RoseBy, counted_one}
use Rattle.octo_session.specs.Steps.{Step, opens, finds_no_port, fails_to_dial, hears, listens, fails_to_receive, ticks, issues, gives, fails_to_send, hangs_up, calls_by, calls_after}
use Rattle.printer_link.proofs.Calls.{rose_none, rose_next, rose_then}
use Rattle.printer_link.specs.Calls.{LinkState}
use Rattle.octo_floor.specs.Run.{both_calls, calls_of, AreCounting}
use Rattle.octo_floor.proofs.Places.{same_place, get_other, get_same, same_or}

-- a count that rose by more rose by less
rose_less : (n : ℕ) (before now : Option ℕ) → RoseBy n before now → RoseBy 0 before now
rose_less n None None rose = tt
rose_less n None (Some now) rose = rose
rose_less n (Some before) None rose = rose
rose_less n (Some before) (Some now) rose = λ shown. (let so = rose shown in omega (arith, so))

-- no step lets it fall
by_step : (step : Step) (calls : Option ℕ) → RoseBy 0 calls (calls_by step calls)
by_step opens calls = rose_less 1 calls (counted_one calls) (rose_next calls)
by_step finds_no_port calls = rose_less 1 calls (counted_one calls) (rose_next calls)
by_step fails_to_dial calls = rose_less 1 calls (counted_one calls) (rose_next calls)
by_step (hears bytes) calls = rose_less 1 calls (counted_one calls) (rose_next calls)
by_step listens calls = rose_less 1 calls (counted_one calls) (rose_next calls)
by_step fails_to_receive calls = rose_less 1 calls (counted_one calls) (rose_next calls)
by_step ticks calls = rose_none calls
by_step (issues text) calls = rose_none calls
by_step gives calls = rose_less 1 calls (counted_one calls) (rose_next calls)
by_step fails_to_send calls = rose_less 1 calls (counted_one calls) (rose_next calls)
by_step (hangs_up was_up) calls = rose_none calls

pub never_falls : (steps : List Step) (calls : Option ℕ) → RoseBy 0 calls (calls_after steps calls)
never_falls [] calls = rose_none calls
never_falls (step ∷ steps) calls =
    rose_then 0 0 calls (calls_by step calls) (calls_after steps (calls_by step calls)) (by_step step calls) (never_falls steps (calls_by step calls))

-- the calls of all links rose by at least a number, unless a count is at its last value
abbrev pub Rises : ℕ → List LinkState → List LinkState → Type 0
Rises k links links' =
    (before : ℕ) → calls_of links ≡ Some before →
    (now : ℕ) × (calls_of links' ≡ Some now) × (AreCounting links' → AreCounting links × (before + k ≤ now))

pub rises_same : (links : List LinkState) → Rises 0 links links
rises_same links before is = (before, is, λ counting. (counting, omega arith))

pub rises_then : (k m : ℕ) (a b c : List LinkState) → Rises k a b → Rises m b c → Rises (k + m) a c
rises_then k m a b c first second before is =
    let mid = first before is in
    let now = second mid.0 mid.1 in (
      now.0,
      now.1,
      λ counting. (let late = now.2 counting in let early = mid.2 late.0 in
          (early.0, (let x = late.1 in let y = early.1 in omega (arith, x, y)))),
    )

both_some : (c s : Option ℕ) (a : ℕ) → both_calls c s ≡ Some a → (x : ℕ) × (y : ℕ) × (c ≡ Some x) × (s ≡ Some y) × (a ≡ x + y)
both_some None s a is = absurd (cc is)
both_some (Some x) None a is = absurd (cc is)
both_some (Some x) (Some y) a is = (x, y, refl, refl, cc is)

both_are : (c s : Option ℕ) (x y : ℕ) → c ≡ Some x → s ≡ Some y → both_calls c s ≡ Some (x + y)
both_are c s x y one other = ap (λ (o : Option ℕ). both_calls o s) one ∙ ap (λ (o : Option ℕ). both_calls (Some x) o) other

-- the sum with another count at one place
sum_set : (links : List LinkState) (p : ℕ) (l m : LinkState) (a y : ℕ) → slice_get links p ≡ Some l → m.calls ≡ Some y → calls_of links ≡ Some a →
    (x : ℕ) × (b : ℕ) × (l.calls ≡ Some x) × (calls_of (slice_set links p m) ≡ Some b) × (b + x ≡ a + y)
sum_set [] p l m a y at new is = absurd (cc at)
sum_set (k ∷ links) zero l m a y at new is =
    let parts = both_some k.calls (calls_of links) a is in
    let same : k ≡ l = cc at in (
      parts.0,
      y + parts.1,
      sym (ap (λ (o : LinkState). o.calls) same) ∙ parts.2,
      both_are m.calls (calls_of links) y parts.1 new parts.3,
      (let sum = parts.4 in omega (arith, sum)),
    )
sum_set (k ∷ links) (suc p) l m a y at new is =
    let parts = both_some k.calls (calls_of links) a is in
    let rest = sum_set links p l m parts.1 y at new parts.3 in (
      rest.0,
      parts.0 + rest.1,
      rest.2,
      both_are k.calls (calls_of (slice_set links p m)) parts.0 rest.1 parts.2 rest.3,
      (let sum = parts.4 in let so = rest.4 in omega (arith, sum, so)),
    )

some_at : (links : List LinkState) (p : ℕ) (l : LinkState) (a : ℕ) → slice_get links p ≡ Some l → calls_of links ≡ Some a → (x : ℕ) × (l.calls ≡ Some x)
some_at [] p l a at is = absurd (cc at)
some_at (k ∷ links) zero l a at is =
    let parts = both_some k.calls (calls_of links) a is in
    let same : k ≡ l = cc at in
    (parts.0, sym (ap (λ (o : LinkState). o.calls) same) ∙ parts.2)
some_at (k ∷ links) (suc p) l a at is = let parts = both_some k.calls (calls_of links) a is in some_at links p l parts.1 at parts.3

rose_some : (n x : ℕ) (now : Option ℕ) → RoseBy n (Some x) now → (y : ℕ) × (now ≡ Some y) × (y < last_count → x + n ≤ y)
rose_some n x None rose = absurd rose
rose_some n x (Some y) rose = (y, refl, rose)

-- one link was called
pub rises_set : (n : ℕ) (links : List LinkState) (p : ℕ) (l m : LinkState) → slice_get links p ≡ Some l → RoseBy n l.calls m.calls →
    Rises n links (slice_set links p m)
rises_set n links p l m at rose before is =
    let was = some_at links p l before at is in
    let now = rose_some n was.0 m.calls (subst (λ (o : Option ℕ). RoseBy n o m.calls) was.1 rose) in
    let sum = sum_set links p l m before now.0 at now.1 is in
    let same : was.0 ≡ sum.0 = cc (sym was.1 ∙ sum.2) in (
      sum.1,
      sum.3,
      λ counting. (let shown = counting p m now.0 (get_same links p m l at) now.1 in let more = now.2 shown in
          (before_counts was.0 now.0 counting was.1 (omega (arith, more, shown)), (let is_sum = sum.4 in omega (arith, is_sum, more, same)))),
    )
  where
    before_counts : (x y : ℕ) → AreCounting (slice_set links p m) → l.calls ≡ Some x → x < last_count → AreCounting links
    before_counts x y counting was shown j k c place_is calls_are = by (same_or j p)
      where
        by : (j ≡ p) ⊎ (j ≢ p) → c < last_count
        by (inr not) = counting j k c (get_other links p j m not ∙ place_is) calls_are
        by (inl here) =
            let k_is : k ≡ l = same_place links p k l (ap (λ (i : ℕ). slice_get links i) (sym here) ∙ place_is) at in
            let c_is : c ≡ x = cc (sym calls_are ∙ ap (λ (o : LinkState). o.calls) k_is ∙ was) in
            omega (arith, c_is, shown)
