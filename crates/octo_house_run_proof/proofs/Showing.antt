-- What stretches of a run show, one after the other.
use Rattle.std.proofs.Common.{◌≡◌, ℕ, Bool, List, [], ◌∷◌, ◌++◌, Option, Some, sym, ap, subst, ◌∙◌, append_assoc}
use Rattle.std.proofs.lemmas.List.{append_cancel_left}
use Rattle.octo_outside.specs.Recorded.{Became, Adds}
use Rattle.octo_outside.proofs.Recorded.{became_so, became_same}
use Rattle.octo_keeper.specs.declared.shelf.ShelfFile.{ShelfFile}
use Rattle.octo_asks.specs.History.{History}
use Rattle.octo_asks.specs.declared.entry.Entry.TheVariants as entry
use Rattle.octo_session.specs.Data.{SessionData}
use Rattle.octo_house_rules.specs.Legal.{Standing, after_all}
use Rattle.octo_house_rules.specs.Walks.{Walks}
use Rattle.octo_house_rules.specs.LinkUse.{UsesLink}
use Rattle.octo_house_run_proof.specs.Rounds.{AsksAt, TurnsAt}
use Rattle.octo_house_rules.specs.Shows.{Shows}
use Rattle.octo_house_run_proof.proofs.Dialling.{uses_then, uses_none, uses_end, round_uses}
use Rattle.std.proofs.lemmas.Option.{same_Some}

-- what is added shows this wherever it is added
pub became_shows : (past past' : Option History) (files : Option (List ShelfFile)) (Before : List ShelfFile → Standing → Type 0)
    (P : History → Type 0) (Holds : History → Standing → Type 0) → Became past past' (λ _ added. P added) → ((h : History) (s : Standing) → P h → Holds h s)
    → Shows past past' files Before Holds
became_shows past past' files Before P Holds grew so was was_is =
    became_so past past' (λ _ added. P added) (λ _ added. (s : Standing) → Before was s → Holds added s) grew (λ old added p s before. so added s p)

-- a stretch that leads somewhere shows this, and what begins there shows that
pub shows_then : (past mid past' : Option History) (files between : Option (List ShelfFile)) (Before Mid : List ShelfFile → Standing → Type 0)
    (P Q R : History → Standing → Type 0)
    → Walks past mid files between Before Mid → Shows past mid files Before P → Shows mid past' between Mid Q
    → ((es fs : History) (s : Standing) (held : List ShelfFile) → P es s → Mid held (after_all es s) → Q fs (after_all es s) → R (es ++ fs) s)
    → Shows past past' files Before R
shows_then past mid past' files between Before Mid P Q R walks first second joined was was_is now now_is =
    let led = walks was was_is in
    let later = second led.0 led.1 now now_is in
    let walked = led.2 later.0 later.2 in
    let sooner = first was was_is later.0 later.2 in
    let same_old : sooner.0 ≡ walked.old = same_Some sooner.0 walked.old (sym sooner.2 ∙ walked.past_is) in
    let same : walked.added ≡ sooner.1 =
    append_cancel_left walked.old walked.added sooner.1 (sym walked.grows ∙ sooner.3 ∙ ap (λ (old : History). old ++ sooner.1) same_old) in (
      sooner.0,
      sooner.1 ++ later.1,
      sooner.2,
      later.3 ∙ ap (λ (h : History). h ++ later.1) sooner.3 ∙ append_assoc sooner.0 sooner.1 later.1,
      λ s before. (let at = subst (λ (h : History). Mid led.0 (after_all h s)) same (walked.leads s before) in
          joined sooner.1 later.1 s led.0 (sooner.4 s before) at (later.4 (after_all sooner.1 s) at)),
    )

-- two stretches that use a link
pub uses_shows : (listed : List ℕ → Bool) (first mid_calls last : Option ℕ) (past mid past' : Option History) (files between : Option (List ShelfFile))
    (Before Mid : List ShelfFile → Standing → Type 0)
    → Walks past mid files between Before Mid → Shows past mid files Before (UsesLink listed first mid_calls) → Shows mid past' between Mid (UsesLink listed mid_calls last)
    → Shows past past' files Before (UsesLink listed first last)
uses_shows listed first mid_calls last past mid past' files between Before Mid walks one two =
    shows_then past mid past' files between Before Mid (UsesLink listed first mid_calls) (UsesLink listed mid_calls last) (UsesLink listed first last) walks one two
    (λ es fs s held uses at more. uses_then listed first mid_calls last es fs s uses more)

-- a round: perhaps a call, and then a turn of the session to which it leads
pub round_shows : (listed : List ℕ → Bool) (x : SessionData) (calls calls' : Option ℕ) (moment keeper keeper' shelf shelf' link link' : ℕ)
    (past mid past' : Option History) (files between : Option (List ShelfFile)) (Before Mid : List ShelfFile → Standing → Type 0)
    → Walks past mid files between Before Mid → ((held : List ShelfFile) (s : Standing) → Mid held s → (s.known.desk ≡ x.desk) × (s.up ≡ x.up))
    → Became past mid (λ _ added. AsksAt moment keeper keeper' shelf shelf' added)
    → Became mid past' (λ _ added. TurnsAt moment listed x calls calls' link link' added)
    → Shows past past' files Before (UsesLink listed calls calls')
round_shows listed x calls calls' moment keeper keeper' shelf shelf' link link' past mid past' files between Before Mid walks where_it_is asks turns =
    shows_then past mid past' files between Before Mid (λ h s. AsksAt moment keeper keeper' shelf shelf' h) (λ h s. TurnsAt moment listed x calls calls' link link' h)
    (UsesLink listed calls calls') walks
    (became_shows past mid files Before (λ h. AsksAt moment keeper keeper' shelf shelf' h) (λ h s. AsksAt moment keeper keeper' shelf shelf' h) asks (λ h s a. a))
    (became_shows mid past' between Mid (λ h. TurnsAt moment listed x calls calls' link link' h) (λ h s. TurnsAt moment listed x calls calls' link link' h) turns (λ h s t. t))
    (λ es fs s held a at t.
    round_uses listed x calls calls' moment keeper keeper' shelf shelf' link link' es fs s a (where_it_is held (after_all es s) at).0 (where_it_is held (after_all es s) at).1 t)

-- before anything happened, and at the end
pub begin_shows : (listed : List ℕ → Bool) (calls : Option ℕ) (past : Option History) (files : Option (List ShelfFile)) (Before : List ShelfFile → Standing → Type 0)
    → Shows past past files Before (UsesLink listed calls calls)
begin_shows listed calls past files Before was was_is = became_same past _ (λ old s before. uses_none listed calls s)

pub end_shows : (listed : List ℕ → Bool) (calls : Option ℕ) (past past' : Option History) (files : Option (List ShelfFile)) (Before : List ShelfFile → Standing → Type 0)
    → Adds past past' (entry.Close ∷ []) → Shows past past' files Before (UsesLink listed calls calls)
end_shows listed calls past past' files Before adds =
    became_shows past past' files Before (λ h. h ≡ entry.Close ∷ []) (UsesLink listed calls calls) adds
    (λ h s is. subst (λ (es : History). UsesLink listed calls calls es s) (sym is) (uses_end listed calls s))
