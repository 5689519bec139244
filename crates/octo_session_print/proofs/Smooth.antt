-- How a print over such a link and clock goes on from one turn to the next.
use Rattle.std.proofs.Common.{◌≡◌, ℕ, ◌+◌, ◌-◌, ◌<◌, ◌≤◌, List, refl, sym, ◌∙◌, ap, subst, arith}
use Rattle.std.specs.Prelude.{Option, None, Some, IfSome, max}
use Rattle.std.proofs.lemmas.Option.{same_Some}
use Rattle.octo_outside.specs.Traits.{NotBefore}
use Rattle.octo_outside.proofs.Recorded.{steady_before}
use Rattle.job_desk.specs.Data.{moment_after}
use Rattle.printer_model.specs.declared.event.WorldEvent.{WorldEvent}
use Rattle.printer_link.specs.Link.{LinkKind}
use Rattle.octo_session.specs.Data.{SessionData}
use Rattle.octo_session_print.specs.Plan.{PrintData}
use Rattle.octo_session_print.specs.OnWay.{plan_length, IsOnWay}
use Rattle.octo_session.specs.Smooth.{IsUnsaturated, IsSmooth}
use Rattle.octo_session_print.proofs.Leads.{turn_left}

-- the next poll is later than the moment
pub poll_later : (moment poll_ms : ℕ) → moment + poll_ms ≤ 18446744073709551615 → 1 ≤ poll_ms → moment < moment_after moment poll_ms
poll_later moment poll_ms small some = omega (arith, small, some)

pub range_moment : (moment limit poll_ms : ℕ) (r : IsUnsaturated (Some moment) limit poll_ms) → moment ≡ r.last
range_moment moment limit poll_ms r = same_Some moment r.last r.shown

-- the clock showed the moment of a turn after which it shows one
pub record HasShown (before between : Option ℕ) (next last : ℕ) : Type 0 where
  pub before_is : before ≡ Some next
  pub between_is : between ≡ Some next
  pub within : next ≤ last

pub shown_before : (before between after : Option ℕ) (got moment next last : ℕ) → IfSome before (λ at. got ≡ at) → between ≡ before →
    NotBefore between after → next ≡ max got moment → ((at : ℕ) → before ≡ Some at → moment ≤ at) → after ≡ Some last →
    HasShown before between next last
shown_before None between after got moment next last shows stays goes greater shown is =
    let N : Option ℕ → Type 0 = λ x. NotBefore x after in
    let M : Option ℕ → Type 0 = λ x. NotBefore None x in
    absurd (subst M is (subst N stays goes))
shown_before (Some at) between after got moment next last shows stays goes greater shown is =
    let N : Option ℕ → Type 0 = λ x. NotBefore x after in
    let M : Option ℕ → Type 0 = λ x. NotBefore (Some at) x in
    let below : at ≤ last = subst M is (subst N stays goes) in
    let same : at ≡ next = omega (arith, shows, greater, shown at refl) in
    record {
      before_is = ap (λ (n : ℕ). Some n) same;
      between_is = stays ∙ ap (λ (n : ℕ). Some n) same;
      within = omega (arith, below, same);
    }

-- the last moment is the one that the clock shows
pub last_is : (clock : Option ℕ) (at limit poll_ms : ℕ) → clock ≡ Some at → (r : IsUnsaturated clock limit poll_ms) → at ≡ r.last
last_is clock at limit poll_ms shown r = same_Some at r.last (sym shown ∙ r.shown)

-- a smooth print was so before its last turn
pub smooth_before : (kind : LinkKind) (past : Option (List WorldEvent)) (port : List ℕ) (first now last : ℕ) (clock later : Option ℕ) (limit poll_ms next : ℕ) →
    first ≤ now → now ≤ last → clock ≡ Some next → (s : IsSmooth kind past port first last later limit poll_ms) → next ≤ s.unsaturated.last →
    IsSmooth kind past port first now clock limit poll_ms
smooth_before kind past port first now last clock later limit poll_ms next up down shown s within = record {
  prompt = s.prompt;
  recorded = s.recorded;
  listed = s.listed;
  steady = steady_before first now last s.steady up down;
  unsaturated = record {
    last = next;
    shown = shown;
    answers = omega (arith, within, s.unsaturated.answers);
    polls = omega (arith, within, s.unsaturated.polls);
    some_poll = s.unsaturated.some_poll;
  };
}

pub range_now : (next limit known poll_ms : ℕ) (later : Option ℕ) → known ≡ limit → (r : IsUnsaturated later limit poll_ms) → next ≤ r.last →
    IsUnsaturated (Some next) known poll_ms
range_now next limit known poll_ms later same r within = record {
  last = next;
  shown = refl;
  answers = omega (arith, same, within, r.answers);
  polls = omega (arith, within, r.polls);
  some_poll = r.some_poll;
}

-- a print on its way isn't over its turns
pub not_used : (kind : LinkKind) (p : PrintData) (poll_ms at counter turns : ℕ) (past : Option (List WorldEvent)) (x : SessionData) →
    plan_length p + 32 ≤ turns → turns ≤ counter → IsOnWay kind p poll_ms at (plan_length p + 12 - counter) past x → ⊥
not_used kind p poll_ms at counter turns past x enough all way =
    let some : 1 ≤ plan_length p + 12 - counter = turn_left kind p poll_ms at (plan_length p + 12 - counter) past x way in
    omega (arith, enough, all, some)
