-- The sessions of a history that grows by an entry.
use Rattle.std.proofs.Common.{◌≡◌, ℕ, zero, suc, ◌+◌, ◌<◌, Bool, true, false, cond, List, [], ◌∷◌, ◌++◌, refl, sym, ◌∙◌, ap, arith, append_assoc}
use Rattle.std.specs.Prelude.{not}
use Rattle.std.specs.List.{take_while}
use Rattle.std.proofs.lemmas.List.Sums.{take_while-cons}
use Rattle.job_desk.specs.Data.{Line}
use Rattle.std.specs.Prelude.{Option}
use Rattle.send_window.specs.declared.session_end.SessionEnd.{SessionEnd}
use Rattle.octo_asks.specs.History.{History}
use Rattle.octo_asks.specs.declared.entry.Entry.{Entry}
use Rattle.octo_house_rules.specs.Issued.{is_opened, lines_at, issued_in}
use Rattle.octo_house_rules.specs.Sessions.{sessions, entries_of, acked_at, acked_after, open_at, open_after, end_at, end_after}

-- the entries of a session, by the first entry of the history
zero_opened : (e : Entry) (es : History) → is_opened e ≡ true → entries_of 0 (e ∷ es) ≡ []
zero_opened e es is =
    take_while-cons (λ x. not (is_opened x)) e es
    ∙ ap (λ (b : Bool). cond (not b) (e ∷ take_while (λ x. not (is_opened x)) es) []) is

zero_other : (e : Entry) (es : History) → is_opened e ≡ false → entries_of 0 (e ∷ es) ≡ e ∷ entries_of 0 es
zero_other e es is =
    take_while-cons (λ x. not (is_opened x)) e es
    ∙ ap (λ (b : Bool). cond (not b) (e ∷ take_while (λ x. not (is_opened x)) es) []) is

later_opened : (session : ℕ) (e : Entry) (es : History) → is_opened e ≡ true → entries_of (suc session) (e ∷ es) ≡ entries_of session es
later_opened session e es is = ap (λ (b : Bool). entries_of (cond b session (suc session)) es) is

later_other : (session : ℕ) (e : Entry) (es : History) → is_opened e ≡ false → entries_of (suc session) (e ∷ es) ≡ entries_of (suc session) es
later_other session e es is = ap (λ (b : Bool). entries_of (cond b session (suc session)) es) is

count_opened : (e : Entry) (es : History) → is_opened e ≡ true → sessions (e ∷ es) ≡ suc (sessions es)
count_opened e es is = ap (λ (b : Bool). cond b (suc (sessions es)) (sessions es)) is

count_other : (e : Entry) (es : History) → is_opened e ≡ false → sessions (e ∷ es) ≡ sessions es
count_other e es is = ap (λ (b : Bool). cond b (suc (sessions es)) (sessions es)) is

-- how many sessions two stretches have
pub sessions-append : (h es : History) → sessions (h ++ es) ≡ sessions h + sessions es
sessions-append [] es = omega arith
sessions-append (e ∷ h) es = by (sessions-append h es) (is_opened e) refl
  where
    by : sessions (h ++ es) ≡ sessions h + sessions es → (b : Bool) → is_opened e ≡ b → sessions (e ∷ (h ++ es)) ≡ sessions (e ∷ h) + sessions es
    by rest true is = omega (arith, count_opened e (h ++ es) is, count_opened e h is, rest)
    by rest false is = omega (arith, count_other e (h ++ es) is, count_other e h is, rest)

-- a session before the last one stays as it is
pub entries-before : (session : ℕ) (h es : History) → session < sessions h → entries_of session (h ++ es) ≡ entries_of session h
entries-before session [] es before = absurd (omega arith)
entries-before zero (e ∷ h) es before = by (λ below. entries-before zero h es below) (is_opened e) refl
  where
    by : (0 < sessions h → entries_of 0 (h ++ es) ≡ entries_of 0 h) → (b : Bool) → is_opened e ≡ b → entries_of 0 (e ∷ (h ++ es)) ≡ entries_of 0 (e ∷ h)
    by rest true is = zero_opened e (h ++ es) is ∙ sym (zero_opened e h is)
    by rest false is =
        zero_other e (h ++ es) is
        ∙ ap (λ (more : History). e ∷ more) (rest (omega (arith, before, count_other e h is)))
        ∙ sym (zero_other e h is)
entries-before (suc session) (e ∷ h) es before =
    by (λ below. entries-before session h es below) (λ below. entries-before (suc session) h es below) (is_opened e) refl
  where
    by : (session < sessions h → entries_of session (h ++ es) ≡ entries_of session h) →
        (suc session < sessions h → entries_of (suc session) (h ++ es) ≡ entries_of (suc session) h) → (b : Bool) → is_opened e ≡ b →
        entries_of (suc session) (e ∷ (h ++ es)) ≡ entries_of (suc session) (e ∷ h)
    by one same true is =
        later_opened session e (h ++ es) is ∙ one (omega (arith, before, count_opened e h is)) ∙ sym (later_opened session e h is)
    by one same false is =
        later_other session e (h ++ es) is
        ∙ same (omega (arith, before, count_other e h is))
        ∙ sym (later_other session e h is)

-- the last one takes an entry that opens none
pub entries-last : (session : ℕ) (h : History) (e : Entry) → session ≡ sessions h → is_opened e ≡ false →
    entries_of session (h ++ e ∷ []) ≡ entries_of session h ++ e ∷ []
entries-last zero [] e last other = zero_other e [] other
entries-last (suc session) [] e last other = absurd (omega (arith, last))
entries-last zero (f ∷ h) e last other = by (λ is. entries-last zero h e is other) (is_opened f) refl
  where
    by : (0 ≡ sessions h → entries_of 0 (h ++ e ∷ []) ≡ entries_of 0 h ++ e ∷ []) → (b : Bool) → is_opened f ≡ b
        → entries_of 0 (f ∷ (h ++ e ∷ [])) ≡ entries_of 0 (f ∷ h) ++ e ∷ []
    by rest true is = absurd (omega (arith, last, count_opened f h is))
    by rest false is =
        zero_other f (h ++ e ∷ []) is
        ∙ ap (λ (more : History). f ∷ more) (rest (omega (arith, last, count_other f h is)))
        ∙ sym (ap (λ (more : History). more ++ e ∷ []) (zero_other f h is))
entries-last (suc session) (f ∷ h) e last other =
    by (λ is. entries-last session h e is other) (λ is. entries-last (suc session) h e is other) (is_opened f) refl
  where
    by : (session ≡ sessions h → entries_of session (h ++ e ∷ []) ≡ entries_of session h ++ e ∷ [])
        → (suc session ≡ sessions h → entries_of (suc session) (h ++ e ∷ []) ≡ entries_of (suc session) h ++ e ∷ []) →
        (b : Bool) → is_opened f ≡ b → entries_of (suc session) (f ∷ (h ++ e ∷ [])) ≡ entries_of (suc session) (f ∷ h) ++ e ∷ []
    by one same true is =
        later_opened session f (h ++ e ∷ []) is
        ∙ one (omega (arith, last, count_opened f h is))
        ∙ sym (ap (λ (more : History). more ++ e ∷ []) (later_opened session f h is))
    by one same false is =
        later_other session f (h ++ e ∷ []) is
        ∙ same (omega (arith, last, count_other f h is))
        ∙ sym (ap (λ (more : History). more ++ e ∷ []) (later_other session f h is))

-- and ends with one that opens the next
pub entries-ended : (session : ℕ) (h : History) (e : Entry) → session ≡ sessions h → is_opened e ≡ true →
    entries_of session (h ++ e ∷ []) ≡ entries_of session h
entries-ended zero [] e last opens = zero_opened e [] opens
entries-ended (suc session) [] e last opens = absurd (omega (arith, last))
entries-ended zero (f ∷ h) e last opens = by (λ is. entries-ended zero h e is opens) (is_opened f) refl
  where
    by : (0 ≡ sessions h → entries_of 0 (h ++ e ∷ []) ≡ entries_of 0 h) → (b : Bool) → is_opened f ≡ b → entries_of 0 (f ∷ (h ++ e ∷ [])) ≡ entries_of 0 (f ∷ h)
    by rest true is = absurd (omega (arith, last, count_opened f h is))
    by rest false is =
        zero_other f (h ++ e ∷ []) is
        ∙ ap (λ (more : History). f ∷ more) (rest (omega (arith, last, count_other f h is)))
        ∙ sym (zero_other f h is)
entries-ended (suc session) (f ∷ h) e last opens =
    by (λ is. entries-ended session h e is opens) (λ is. entries-ended (suc session) h e is opens) (is_opened f) refl
  where
    by : (session ≡ sessions h → entries_of session (h ++ e ∷ []) ≡ entries_of session h)
        → (suc session ≡ sessions h → entries_of (suc session) (h ++ e ∷ []) ≡ entries_of (suc session) h) →
        (b : Bool) → is_opened f ≡ b → entries_of (suc session) (f ∷ (h ++ e ∷ [])) ≡ entries_of (suc session) (f ∷ h)
    by one same true is =
        later_opened session f (h ++ e ∷ []) is
        ∙ one (omega (arith, last, count_opened f h is))
        ∙ sym (later_opened session f h is)
    by one same false is =
        later_other session f (h ++ e ∷ []) is
        ∙ same (omega (arith, last, count_other f h is))
        ∙ sym (later_other session f h is)

-- which has no entry yet
pub entries-new : (session : ℕ) (h : History) (e : Entry) → session ≡ sessions h → is_opened e ≡ true → entries_of (suc session) (h ++ e ∷ []) ≡ []
entries-new zero [] e last opens = later_opened zero e [] opens
entries-new (suc session) [] e last opens = absurd (omega (arith, last))
entries-new zero (f ∷ h) e last opens = by (λ is. entries-new zero h e is opens) (is_opened f) refl
  where
    by : (0 ≡ sessions h → entries_of 1 (h ++ e ∷ []) ≡ []) → (b : Bool) → is_opened f ≡ b → entries_of 1 (f ∷ (h ++ e ∷ [])) ≡ []
    by rest true is = absurd (omega (arith, last, count_opened f h is))
    by rest false is = later_other zero f (h ++ e ∷ []) is ∙ rest (omega (arith, last, count_other f h is))
entries-new (suc session) (f ∷ h) e last opens = by (λ is. entries-new session h e is opens) (λ is. entries-new (suc session) h e is opens) (is_opened f) refl
  where
    by : (session ≡ sessions h → entries_of (suc session) (h ++ e ∷ []) ≡ []) → (suc session ≡ sessions h → entries_of (suc (suc session)) (h ++ e ∷ []) ≡ []) →
        (b : Bool) → is_opened f ≡ b → entries_of (suc (suc session)) (f ∷ (h ++ e ∷ [])) ≡ []
    by one same true is = later_opened (suc session) f (h ++ e ∷ []) is ∙ one (omega (arith, last, count_opened f h is))
    by one same false is = later_other (suc session) f (h ++ e ∷ []) is ∙ same (omega (arith, last, count_other f h is))

-- the lines of two stretches
pub issued_in-append : (h es : History) → issued_in (h ++ es) ≡ issued_in h ++ issued_in es
issued_in-append [] es = refl
issued_in-append (e ∷ h) es =
    ap (λ (more : List Line). lines_at e ++ more) (issued_in-append h es) ∙ sym (append_assoc (lines_at e) (issued_in h) (issued_in es))

pub acked_after-append : (h es : History) (was : ℕ) → acked_after (h ++ es) was ≡ acked_after es (acked_after h was)
acked_after-append [] es was = refl
acked_after-append (e ∷ h) es was = acked_after-append h es (acked_at e was)

pub open_after-append : (h es : History) (was : Bool) → open_after (h ++ es) was ≡ open_after es (open_after h was)
open_after-append [] es was = refl
open_after-append (e ∷ h) es was = open_after-append h es (open_at e was)

pub end_after-append : (h : History) (e : Entry) (was : Option SessionEnd) → end_after (h ++ e ∷ []) was ≡ end_at e
end_after-append [] e was = refl
end_after-append (f ∷ h) e was = end_after-append h e (end_at f)
