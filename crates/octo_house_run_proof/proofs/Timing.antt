-- Moments of the entries of a run.
use Rattle.std.proofs.Common.{◌≡◌, ◌⊎◌, inl, inr, ℕ, ◌≤◌, Bool, List, [], ◌∷◌, ◌++◌, Option, None, Some, refl, sym, subst, ◌∙◌, arith}
use Rattle.std.specs.Prelude.{IfSome, max}
use Rattle.std.proofs.lemmas.List.Elements.{All-nil, All-cons, All-append}
use Rattle.octo_outside.specs.Recorded.{Became, Adds}
use Rattle.octo_outside.specs.Traits.{NotBefore}
use Rattle.octo_outside.proofs.Recorded.{became_so, became_then, became_same}
use Rattle.job_desk.specs.declared.issued.Note.{Note}
use Rattle.octo_asks.specs.History.{History}
use Rattle.octo_asks.specs.declared.answer.Answer.{Answer}
use Rattle.octo_asks.specs.declared.entry.Entry.{Entry}
use Rattle.octo_asks.specs.declared.entry.Entry.TheVariants as entry
use Rattle.octo_asks.specs.declared.request.Ask.{Ask}
use Rattle.octo_session.specs.Data.{SessionData}
use Rattle.octo_house_rules.specs.Moments.{IsBetween, AreBetween}
use Rattle.octo_house_run_proof.specs.Rounds.{AsksAt, NotesAt, TurnsAt, history_of_note}
use Rattle.std.proofs.lemmas.Option.{same_Some}

-- what was made until one moment was made until a later one
wider : (first last later : ℕ) (e : Entry) → last ≤ later → IsBetween first last e → IsBetween first later e
wider first last later (entry.Call worker ask moment x) after is = (is.0, omega (arith, is.1, after))
wider first last later (entry.Note note) after is = (is.0, omega (arith, is.1, after))
wider first last later entry.Close after is = tt

pub between_later : (first last later : ℕ) (h : History) → last ≤ later → AreBetween first last h → AreBetween first later h
between_later first last later h after are = λ k d lt. wider first last later _ after (are k d lt)

pub between_then : (first last : ℕ) (es fs : History) → AreBetween first last es → AreBetween first last fs → AreBetween first last (es ++ fs)
between_then first last es fs one two = All-append (IsBetween first last) es fs one two

pub between_none : (first last : ℕ) → AreBetween first last []
between_none first last = All-nil (IsBetween first last)

pub between_one : (first last : ℕ) (e : Entry) → IsBetween first last e → AreBetween first last (e ∷ [])
between_one first last e is = All-cons (IsBetween first last) e [] is (between_none first last)

-- an ask and a turn at a moment
pub asks_between : (first moment keeper keeper' shelf shelf' : ℕ) (h : History) → first ≤ moment → AsksAt moment keeper keeper' shelf shelf' h → AreBetween first moment h
asks_between first moment keeper keeper' shelf shelf' h below a = by a.asks
  where
    by : (h ≡ []) ⊎ ((worker : ℕ) × (ask : Ask) × (x : Answer) × (h ≡ entry.Call worker ask moment x ∷ [])) → AreBetween first moment h
    by (inl none) = subst (AreBetween first moment) (sym none) (between_none first moment)
    by (inr one) = subst (AreBetween first moment) (sym one.3) (between_one first moment (entry.Call one.0 one.1 moment one.2) (below, omega arith))

note_between : (first moment : ℕ) (note : Note) → note.moment ≡ moment → first ≤ moment → AreBetween first moment (history_of_note (Some note))
note_between first moment note is below = between_one first moment (entry.Note note) (omega (arith, is, below), omega (arith, is))

pub turns_between : (first moment : ℕ) (listed : List ℕ → Bool) (x : SessionData) (calls calls' : Option ℕ) (link link' : ℕ) (h : History) → first ≤ moment
    → TurnsAt moment listed x calls calls' link link' h → AreBetween first moment h
turns_between first moment listed x calls calls' link link' h below t = subst (AreBetween first moment) (sym t.1) (by t.0 t.2)
  where
    by : (note : Option Note) → NotesAt moment listed x calls calls' link link' note → AreBetween first moment (history_of_note note)
    by None n = between_none first moment
    by (Some note) n = note_between first moment note n.its_moment below

-- what a clock at this moment has seen of a history that began at the first moment: this moment isn't before the last entry
abbrev pub Timed : (first at : Option ℕ) → ℕ → (past past' : Option History) → Type 0
Timed first at moment past past' =
    (now : ℕ) → at ≡ Some now → (moment ≤ now)
    × ((before : ℕ) → first ≡ Some before → (before ≤ now) × Became past past' (λ _ added. AreBetween before now added))

pub timed_begins : (first : Option ℕ) (past : Option History) → Timed first first 0 past past
timed_begins first past now now_is = (
  omega arith,
  λ before before_is. (
    omega (arith, same_Some before now (sym before_is ∙ now_is)),
    became_same past (λ _ added. AreBetween before now added) (λ old. between_none before now),
  ),
)

-- a round at the moment of the clock
pub timed_round : (first at : Option ℕ) (last got moment keeper keeper' shelf shelf' : ℕ) (listed : List ℕ → Bool) (x : SessionData) (calls calls' : Option ℕ)
    (link link' : ℕ) (past sooner mid past' : Option History)
    → Timed first at last past sooner → IfSome at (λ now. got ≡ now) → moment ≡ max got last
    → Became sooner mid (λ _ added. AsksAt moment keeper keeper' shelf shelf' added) → Became mid past' (λ _ added. TurnsAt moment listed x calls calls' link link' added)
    → Timed first at moment past past'
timed_round first at last got moment keeper keeper' shelf shelf' listed x calls calls' link link' past sooner mid past' timed got_is moment_is asks turns now now_is =
    let was = timed now now_is in
    let here : got ≡ now = subst (λ (told : Option ℕ). IfSome told (λ now. got ≡ now)) now_is got_is in
    let same : moment ≡ now = omega (arith, was.0, here, moment_is) in (
      omega (arith, same),
      λ before before_is. (
        (was.1 before before_is).0,
        (let Here : ℕ → Type 0 = λ n. Became sooner past' (λ _ added. AreBetween before n added) in
            became_then past sooner past' (λ _ added. AreBetween before now added) (λ _ added. AreBetween before now added) (λ _ added. AreBetween before now added)
            (was.1 before before_is).1
            (subst Here same
            (became_then sooner mid past' (λ _ added. AsksAt moment keeper keeper' shelf shelf' added) (λ _ added. TurnsAt moment listed x calls calls' link link' added)
            (λ _ added. AreBetween before moment added) asks turns
            (λ old added more a t. between_then before moment added more
            (asks_between before moment keeper keeper' shelf shelf' added (omega (arith, (was.1 before before_is).0, same)) a)
            (turns_between before moment listed x calls calls' link link' more (omega (arith, (was.1 before before_is).0, same)) t))))
            (λ old added more one two. between_then before now added more one two)),
      ),
    )

-- the clock goes on
pub timed_later : (first at at' : Option ℕ) (moment : ℕ) (past past' : Option History) → NotBefore at at' → Timed first at moment past past' → Timed first at' moment past past'
timed_later first at None moment past past' later timed now now_is = cc
timed_later first None (Some now') moment past past' later timed now now_is = absurd later
timed_later first (Some was) (Some now') moment past past' later timed now now_is =
    let after : was ≤ now = omega (arith, later, same_Some now' now now_is) in
    let before_it = timed was refl in (
      omega (arith, before_it.0, after),
      λ before before_is. (
        omega (arith, (before_it.1 before before_is).0, after),
        became_so past past' _ _ (before_it.1 before before_is).1 (λ old added are. between_later before was now added after are),
      ),
    )

-- the end, at which no moment is noted
pub timed_ends : (first at : Option ℕ) (moment : ℕ) (past mid past' : Option History) → Timed first at moment past mid → Adds mid past' (entry.Close ∷ [])
    → (before : ℕ) → first ≡ Some before → (now : ℕ) → at ≡ Some now → Became past past' (λ _ added. AreBetween before now added)
timed_ends first at moment past mid past' timed adds before before_is now now_is =
    became_then past mid past' (λ _ added. AreBetween before now added) (λ _ added. added ≡ entry.Close ∷ []) (λ _ added. AreBetween before now added)
    ((timed now now_is).1 before before_is).1 adds
    (λ old added more are is. between_then before now added more are (subst (AreBetween before now) (sym is) (between_one before now entry.Close tt)))
