-- How additions to what is recorded join, and how counts of faults do.
use Rattle.std.proofs.Common.{◌≡◌, ℕ, ◌≤◌, ◌⊎◌, inl, inr, List, [], ◌++◌, Option, refl, sym, ap, ◌∙◌, append_assoc, append-nil, subst, arith}
use Rattle.octo_outside.specs.Recorded.{Became, Adds, Rose, Counts, Steady}

-- two additions one after the other
pub became_then : {A : Type 0} (old mid new : Option (List A)) (P Q R : List A → List A → Type 0) → Became old mid P → Became mid new Q → ((past added more : List A) → P past added → Q (past ++ added) more → R past (added ++ more)) → Became old new R
became_then {A} old mid new P Q R first second joined now e =
    let later = second now e in
    let sooner = first later.0 later.2 in
    let Behind : List A → Type 0 = λ past. Q past later.1 in (
      sooner.0,
      sooner.1 ++ later.1,
      sooner.2,
      later.3 ∙ ap (λ past. past ++ later.1) sooner.3 ∙ append_assoc sooner.0 sooner.1 later.1,
      joined sooner.0 sooner.1 later.1 sooner.4 (subst Behind sooner.3 later.4),
    )

-- no addition
pub became_same : {A : Type 0} (old : Option (List A)) (P : List A → List A → Type 0) → ((past : List A) → P past []) → Became old old P
became_same old P same now e = (now, [], e, sym (append-nil now), same now)

-- another word for the same addition
pub became_so : {A : Type 0} (old new : Option (List A)) (P Q : List A → List A → Type 0) → Became old new P → ((past added : List A) → P past added → Q past added) → Became old new Q
became_so old new P Q grew so now e =
    let w = grew now e in
    (w.0, w.1, w.2, w.3, so w.0 w.1 w.4)

-- two lists added one after the other
pub adds_then : {A : Type 0} (old mid new : Option (List A)) (xs ys : List A) → Adds old mid xs → Adds mid new ys → Adds old new (xs ++ ys)
adds_then {A} old mid new xs ys first second =
    became_then old mid new (λ _ added. added ≡ xs) (λ _ added. added ≡ ys) (λ _ added. added ≡ xs ++ ys) first second
    (λ _ added more p q. ap (λ (front : List A). front ++ more) p ∙ ap (λ (behind : List A). xs ++ behind) q)

-- nothing added
pub adds_none : {A : Type 0} (old : Option (List A)) → Adds old old []
adds_none old = became_same old (λ _ added. added ≡ []) (λ _. refl)

-- a count that rose and doesn't fall has risen
pub rose_before : (before mid after : ℕ) → Rose before mid → mid ≤ after → Rose before after
rose_before before mid after rose later below = omega (arith, rose below)

-- a count that doesn't fall and then rises has risen
pub rose_after : (before mid after : ℕ) → before ≤ mid → mid ≤ after → Rose mid after → Rose before after
rose_after before mid after first second rose below = grind (arith, rose)

-- the count after two calls, one of which failed if both together did
pub counts_then : (A B C : Type 0) (before mid after : ℕ) → Counts A before mid → Counts B mid after → (C → A ⊎ B) → Counts C before after
counts_then A B C before mid after first second which = record { later = omega (arith, first.later, second.later); rose = λ failed. by (which failed) }
  where
    by : A ⊎ B → Rose before after
    by (inl failed) = rose_before before mid after (first.rose failed) second.later
    by (inr failed) = rose_after before mid after first.later second.later (second.rose failed)

-- what didn't rise over all didn't rise in a part
pub steady_before : (before mid after : ℕ) → Steady before after → before ≤ mid → mid ≤ after → Steady before mid
steady_before before mid after steady first second = record { same = omega (arith, steady.same); shows = steady.shows }

pub steady_after : (before mid after : ℕ) → Steady before after → before ≤ mid → mid ≤ after → Steady mid after
steady_after before mid after steady first second = record { same = omega (arith, steady.same); shows = omega (arith, steady.same, steady.shows) }

-- what is steady hasn't risen
pub steady_not_rose : (before after : ℕ) → Steady before after → Rose before after → ⊥
steady_not_rose before after steady rose = omega (arith, steady.same, rose steady.shows)
