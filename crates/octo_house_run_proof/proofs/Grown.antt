-- What holds of a history by its sessions, when an entry more is added.
use Rattle.std.proofs.Common.{zero, subst, ◌⊎◌, inl, inr, ◌≤◌, length, ◌≡◌, ℕ, suc, ◌<◌, Bool, true, false, List, [], ◌∷◌, ◌++◌, refl, sym, ◌∙◌, ap, append-nil, arith}
use Rattle.std.proofs.lemmas.List.{map-append}
use Rattle.job_desk.specs.Data.{Line}
use Rattle.job_desk.specs.declared.link_fact.LinkFact.{LinkFact}
use Rattle.job_desk.specs.declared.link_fact.LinkFact.TheVariants as fact
use Rattle.octo_session.specs.Turn.{texts_in}
use Rattle.octo_asks.specs.History.{History}
use Rattle.octo_asks.specs.declared.entry.Entry.{Entry}
use Rattle.octo_asks.specs.declared.entry.Entry.TheVariants as entry
use Rattle.octo_house_rules.specs.Issued.{is_opened, is_opening, lines_at, issued_in}
use Rattle.octo_house_rules.specs.Legal.{up_after}
use Rattle.octo_house_rules.specs.Sessions.{sessions, entries_of, session_texts, most_in, acked_at, acked_after, acked_in, open_at, open_after, is_open}
use Rattle.octo_house_run_proof.proofs.LineEntries.{sessions-append, entries-before, entries-last, entries-ended, entries-new, issued_in-append, acked_after-append, open_after-append}

pub below_or : (s n : ℕ) → s < suc n → (s < n) ⊎ (s ≡ n)
below_or zero zero below = inr refl
below_or zero (suc n) below = inl (omega arith)
below_or (suc s) zero below = absurd (omega arith)
below_or (suc s) (suc n) below = by (below_or s n (omega arith))
  where
    by : (s < n) ⊎ (s ≡ n) → (suc s < suc n) ⊎ (suc s ≡ suc n)
    by (inl less) = inl (omega arith)
    by (inr same) = inr (ap suc same)

module _ (h : History) (e : Entry) where
  -- what each session before the last one issued and has acknowledged
  pub texts-before : (es : History) (session : ℕ) → session < sessions h → session_texts session (h ++ es) ≡ session_texts session h
  texts-before es session before = ap (λ (part : History). texts_in (issued_in part)) (entries-before session h es before)

  pub acked-before : (es : History) (session : ℕ) → session < sessions h → acked_in session (h ++ es) ≡ acked_in session h
  acked-before es session before = ap (λ (part : History). acked_after part 0) (entries-before session h es before)

  -- the entry opens no session
  pub sessions-other : is_opened e ≡ false → sessions (h ++ e ∷ []) ≡ sessions h
  sessions-other other =
      let none : sessions (e ∷ []) ≡ 0 = counted (is_opened e) other in
      omega (arith, sessions-append h (e ∷ []), none)
    where
      counted : (b : Bool) → is_opened e ≡ false → sessions (e ∷ []) ≡ 0
      counted b is = rw is refl

  pub texts-last : is_opened e ≡ false → session_texts (sessions h) (h ++ e ∷ []) ≡ session_texts (sessions h) h ++ texts_in (lines_at e)
  texts-last other =
      ap (λ (part : History). texts_in (issued_in part)) (entries-last (sessions h) h e refl other)
      ∙ ap texts_in (issued_in-append (entries_of (sessions h) h) (e ∷ [])
      ∙ ap (λ (l : List Line). issued_in (entries_of (sessions h) h) ++ l) (append-nil (lines_at e)))
      ∙ map-append (λ (line : Line). line.text) (issued_in (entries_of (sessions h) h)) (lines_at e)

  pub acked-last : is_opened e ≡ false → acked_in (sessions h) (h ++ e ∷ []) ≡ acked_at e (acked_in (sessions h) h)
  acked-last other =
      ap (λ (part : History). acked_after part 0) (entries-last (sessions h) h e refl other)
      ∙ acked_after-append (entries_of (sessions h) h) (e ∷ []) 0

  -- the entry opens one
  pub sessions-opened : is_opened e ≡ true → sessions (h ++ e ∷ []) ≡ suc (sessions h)
  sessions-opened opens =
      let one : sessions (e ∷ []) ≡ 1 = rw opens refl in
      omega (arith, sessions-append h (e ∷ []), one)

  pub texts-ended : is_opened e ≡ true → session_texts (sessions h) (h ++ e ∷ []) ≡ session_texts (sessions h) h
  texts-ended opens = ap (λ (part : History). texts_in (issued_in part)) (entries-ended (sessions h) h e refl opens)

  pub acked-ended : is_opened e ≡ true → acked_in (sessions h) (h ++ e ∷ []) ≡ acked_in (sessions h) h
  acked-ended opens = ap (λ (part : History). acked_after part 0) (entries-ended (sessions h) h e refl opens)

  pub texts-new : is_opened e ≡ true → session_texts (suc (sessions h)) (h ++ e ∷ []) ≡ []
  texts-new opens = ap (λ (part : History). texts_in (issued_in part)) (entries-new (sessions h) h e refl opens)

  pub acked-new : is_opened e ≡ true → acked_in (suc (sessions h)) (h ++ e ∷ []) ≡ 0
  acked-new opens = ap (λ (part : History). acked_after part 0) (entries-new (sessions h) h e refl opens)

  pub open-after : is_open (h ++ e ∷ []) ≡ open_at e (is_open h)
  open-after = open_after-append h (e ∷ []) false

-- if no session is open an entry that opens none leaves none open
shut_at : (e : Entry) → is_opened e ≡ false → open_at e false ≡ false
shut_at (entry.Call worker ask moment answer) other = refl
shut_at entry.Close other = refl
shut_at (entry.Note note) other = by note.fact other
  where
    by : (f : LinkFact) → is_opening f ≡ false → up_after f false ≡ false
    by fact.Quiet o = refl
    by fact.Opened o = absurd (cc)
    by fact.Ready o = refl
    by fact.Closed o = refl
    by fact.NoPort o = refl
    by fact.Failed o = refl
    by (fact.Ended end) o = refl

pub shut_after : (es : History) → sessions es ≡ 0 → open_after es false ≡ false
shut_after [] none = refl
shut_after (e ∷ es) none = by (λ rest. shut_after es rest) (is_opened e) refl
  where
    by : (sessions es ≡ 0 → open_after es false ≡ false) → (b : Bool) → is_opened e ≡ b → open_after es (open_at e false) ≡ false
    by rest true is =
        let one : sessions (e ∷ es) ≡ suc (sessions es) = rw is refl in
        absurd (omega (arith, one, none))
    by rest false is =
        let same : sessions (e ∷ es) ≡ sessions es = rw is refl in
        ap (λ (b : Bool). open_after es b) (shut_at e is) ∙ rest (sym same ∙ none)

-- how many lines each session issued at most, with an entry more
pub few_other : (h : History) (e : Entry) → is_opened e ≡ false → ((s : ℕ) → s ≤ sessions h → length (session_texts s h) ≤ most_in s) →
    length (session_texts (sessions h) (h ++ e ∷ [])) ≤ most_in (sessions h) → (s : ℕ) → s ≤ sessions (h ++ e ∷ []) → length (session_texts s (h ++ e ∷ [])) ≤ most_in s
few_other h e other few last s most = by (below_or s (sessions h) (omega (arith, most, sessions-other h e other)))
  where
    by : (s < sessions h) ⊎ (s ≡ sessions h) → length (session_texts s (h ++ e ∷ [])) ≤ most_in s
    by (inl below) = subst (λ (l : List (List ℕ)). length l ≤ most_in s) (sym (texts-before h e (e ∷ []) s below)) (few s (omega (arith, below)))
    by (inr same) = subst (λ (k : ℕ). length (session_texts k (h ++ e ∷ [])) ≤ most_in k) (sym same) last

pub few_open : (h : History) (e : Entry) → is_opened e ≡ true → ((s : ℕ) → s ≤ sessions h → length (session_texts s h) ≤ most_in s) →
    (s : ℕ) → s ≤ sessions (h ++ e ∷ []) → length (session_texts s (h ++ e ∷ [])) ≤ most_in s
few_open h e opens few s most = by (below_or s (suc (sessions h)) (omega (arith, most, sessions-opened h e opens)))
  where
    old : (s < sessions h) ⊎ (s ≡ sessions h) → length (session_texts s (h ++ e ∷ [])) ≤ most_in s
    old (inl below) = subst (λ (l : List (List ℕ)). length l ≤ most_in s) (sym (texts-before h e (e ∷ []) s below)) (few s (omega (arith, below)))
    old (inr same) =
        subst (λ (k : ℕ). length (session_texts k (h ++ e ∷ [])) ≤ most_in k) (sym same)
        (subst (λ (l : List (List ℕ)). length l ≤ most_in (sessions h)) (sym (texts-ended h e opens)) (few (sessions h) (omega arith)))

    by : (s < suc (sessions h)) ⊎ (s ≡ suc (sessions h)) → length (session_texts s (h ++ e ∷ [])) ≤ most_in s
    by (inl below) = old (below_or s (sessions h) below)
    by (inr same) =
        subst (λ (k : ℕ). length (session_texts k (h ++ e ∷ [])) ≤ most_in k) (sym same)
        (subst (λ (l : List (List ℕ)). length l ≤ most_in (suc (sessions h))) (sym (texts-new h e opens)) (omega arith))

-- an empty history issued nothing
pub few_none : (s : ℕ) → length (session_texts s []) ≤ most_in s
few_none zero = omega arith
few_none (suc s) = omega arith
