-- A print over the entries of a legal history.
use Rattle.std.proofs.Common.{◌≡◌, ℕ, zero, suc, ◌<◌, ◌≤◌, Bool, true, false, cond, List, [], ◌∷◌, ◌++◌, refl, sym, ◌∙◌, ap, subst, append-nil, arith}
use Rattle.job_desk.specs.Data.{Line}
use Rattle.job_desk.specs.Run.{print_lines}
use Rattle.job_desk.proofs.Lines.{lines_of-append}
use Rattle.octo_asks.specs.History.{History}
use Rattle.octo_asks.specs.declared.entry.Entry.{Entry}
use Rattle.octo_house_rules.specs.Issued.{is_opened, lines_at, issued_in, issued_of}
use Rattle.octo_house_rules.specs.Sessions.{sessions, entries_of}
use Rattle.octo_house_run_proof.proofs.LineEntries.{entries-before, entries-last, entries-ended, entries-new, issued_in-append}
use Rattle.octo_house_run_proof.proofs.Grown.{sessions-other, sessions-opened}
use Rattle.octo_house_rules.specs.Lives.{LivesIn}

-- what an entry more issues in each session
module _ (h : History) (e : Entry) where
  pub issued-before : (es : History) (k : ℕ) → k < sessions h → issued_of k (h ++ es) ≡ issued_of k h
  issued-before es k before = ap issued_in (entries-before k h es before)

  pub issued-last : is_opened e ≡ false → issued_of (sessions h) (h ++ e ∷ []) ≡ issued_of (sessions h) h ++ lines_at e
  issued-last other =
      ap issued_in (entries-last (sessions h) h e refl other)
      ∙ issued_in-append (entries_of (sessions h) h) (e ∷ [])
      ∙ ap (λ (l : List Line). issued_in (entries_of (sessions h) h) ++ l) (append-nil (lines_at e))

  pub issued-ended : is_opened e ≡ true → issued_of (sessions h) (h ++ e ∷ []) ≡ issued_of (sessions h) h
  issued-ended opens = ap issued_in (entries-ended (sessions h) h e refl opens)

  pub issued-new : is_opened e ≡ true → issued_of (suc (sessions h)) (h ++ e ∷ []) ≡ []
  issued-new opens = ap issued_in (entries-new (sessions h) h e refl opens)

  pub issued-whole : issued_in (h ++ e ∷ []) ≡ issued_in h ++ lines_at e
  issued-whole = issued_in-append h (e ∷ []) ∙ ap (λ (l : List Line). issued_in h ++ l) (append-nil (lines_at e))

-- no session after the last one issued anything
pub issued-beyond : (k : ℕ) (h : History) → sessions h < k → issued_of k h ≡ []
issued-beyond zero h beyond = absurd (omega (arith, beyond))
issued-beyond (suc k) [] beyond = refl
issued-beyond (suc k) (e ∷ h) beyond = by (λ below. issued-beyond k h below) (λ below. issued-beyond (suc k) h below) (is_opened e) refl
  where
    by : (sessions h < k → issued_of k h ≡ []) → (sessions h < suc k → issued_of (suc k) h ≡ []) → (b : Bool) → is_opened e ≡ b → issued_of (suc k) (e ∷ h) ≡ []
    by one same true is =
        let count : sessions (e ∷ h) ≡ suc (sessions h) = rw is refl in
        let at : issued_of (suc k) (e ∷ h) ≡ issued_of k h = ap (λ (b : Bool). issued_of (cond b k (suc k)) h) is in
        at ∙ one (omega (arith, count, beyond))
    by one same false is =
        let count : sessions (e ∷ h) ≡ sessions h = rw is refl in
        let at : issued_of (suc k) (e ∷ h) ≡ issued_of (suc k) h = ap (λ (b : Bool). issued_of (cond b k (suc k)) h) is in
        at ∙ same (omega (arith, count, beyond))

-- one of three
pub data Place (k n : ℕ) : Type 0 where
  earlier : k < n → Place k n
  here : k ≡ n → Place k n
  later : n < k → Place k n

pub place : (k n : ℕ) → Place k n
place zero zero = here refl
place zero (suc n) = earlier (omega arith)
place (suc k) zero = later (omega arith)
place (suc k) (suc n) = by (place k n)
  where
    by : Place k n → Place (suc k) (suc n)
    by (earlier below) = earlier (omega arith)
    by (here same) = here (ap suc same)
    by (later above) = later (omega arith)

module _ (p : ℕ) (h : History) (e : Entry) where
  lines_whole : print_lines p (issued_in (h ++ e ∷ [])) ≡ print_lines p (issued_in h) ++ print_lines p (lines_at e)
  lines_whole = ap (λ (l : List Line). print_lines p l) (issued-whole h e) ∙ lines_of-append p (issued_in h) (lines_at e)

  -- the print goes on living in the last session
  pub lives_on : is_opened e ≡ false → LivesIn p h (sessions h) → LivesIn p (h ++ e ∷ []) (sessions h)
  lives_on other l = record {
    alone = λ k off. alone k off (place k (sessions h));
    all = lines_whole ∙ ap (λ (x : List Line). x ++ print_lines p (lines_at e)) l.all ∙ sym (lines_of-append p (issued_of (sessions h) h) (lines_at e))
        ∙ ap (λ (x : List Line). print_lines p x) (sym (issued-last h e other));
  }
    where
      alone : (k : ℕ) → (k ≡ sessions h → ⊥) → Place k (sessions h) → print_lines p (issued_of k (h ++ e ∷ [])) ≡ []
      alone k off (earlier below) = ap (λ (x : List Line). print_lines p x) (issued-before h e (e ∷ []) k below) ∙ l.alone k off
      alone k off (here same) = absurd (off same)
      alone k off (later above) = ap (λ (x : List Line). print_lines p x) (issued-beyond k (h ++ e ∷ []) (omega (arith, above, sessions-other h e other)))

  -- a print of which no session gets a line more lives where it lived
  lives_kept : (home : ℕ) → print_lines p (lines_at e) ≡ [] → ((k : ℕ) → print_lines p (issued_of k (h ++ e ∷ [])) ≡ print_lines p (issued_of k h)) →
      LivesIn p h home → LivesIn p (h ++ e ∷ []) home
  lives_kept home none kept l = record {
    alone = λ k off. kept k ∙ l.alone k off;
    all = lines_whole ∙ ap (λ (x : List Line). print_lines p (issued_in h) ++ x) none ∙ append-nil (print_lines p (issued_in h)) ∙ l.all ∙ sym (kept home);
  }

  -- a print that has ended lives where it lived
  pub lives_past : is_opened e ≡ false → (home : ℕ) → home ≤ sessions h → print_lines p (lines_at e) ≡ [] → LivesIn p h home → LivesIn p (h ++ e ∷ []) home
  lives_past other home within none l = lives_kept home none (λ k. kept k (place k (sessions h))) l
    where
      kept : (k : ℕ) → Place k (sessions h) → print_lines p (issued_of k (h ++ e ∷ [])) ≡ print_lines p (issued_of k h)
      kept k (earlier below) = ap (λ (x : List Line). print_lines p x) (issued-before h e (e ∷ []) k below)
      kept k (here same) =
          subst (λ (n : ℕ). print_lines p (issued_of n (h ++ e ∷ [])) ≡ print_lines p (issued_of n h)) (sym same)
          (ap (λ (x : List Line). print_lines p x) (issued-last h e other) ∙ lines_of-append p (issued_of (sessions h) h) (lines_at e)
          ∙ ap (λ (x : List Line). print_lines p (issued_of (sessions h) h) ++ x) none ∙ append-nil (print_lines p (issued_of (sessions h) h)))
      kept k (later above) =
          ap (λ (x : List Line). print_lines p x)
          (issued-beyond k (h ++ e ∷ []) (omega (arith, above, sessions-other h e other)) ∙ sym (issued-beyond k h above))

  -- the same if a session is opened
  pub lives_opened : is_opened e ≡ true → (home : ℕ) → print_lines p (lines_at e) ≡ [] → LivesIn p h home → LivesIn p (h ++ e ∷ []) home
  lives_opened opens home none l = lives_kept home none (λ k. kept k (place k (sessions h))) l
    where
      kept : (k : ℕ) → Place k (sessions h) → print_lines p (issued_of k (h ++ e ∷ [])) ≡ print_lines p (issued_of k h)
      kept k (earlier below) = ap (λ (x : List Line). print_lines p x) (issued-before h e (e ∷ []) k below)
      kept k (here same) =
          subst (λ (n : ℕ). print_lines p (issued_of n (h ++ e ∷ [])) ≡ print_lines p (issued_of n h)) (sym same)
          (ap (λ (x : List Line). print_lines p x) (issued-ended h e opens))
      kept k (later above) = new (place k (suc (sessions h)))
        where
          new : Place k (suc (sessions h)) → print_lines p (issued_of k (h ++ e ∷ [])) ≡ print_lines p (issued_of k h)
          new (earlier below) = absurd (omega (arith, above, below))
          new (here same) =
              ap (λ (x : List Line). print_lines p x)
              (ap (λ (n : ℕ). issued_of n (h ++ e ∷ [])) same ∙ issued-new h e opens ∙ sym (issued-beyond k h above))
          new (later past) =
              ap (λ (x : List Line). print_lines p x)
              (issued-beyond k (h ++ e ∷ []) (omega (arith, past, sessions-opened h e opens)) ∙ sym (issued-beyond k h above))

  -- a print without lines lives in any session
  pub lives_nowhere : print_lines p (issued_in (h ++ e ∷ [])) ≡ [] → (home : ℕ) → LivesIn p (h ++ e ∷ []) home → (other : ℕ) → LivesIn p (h ++ e ∷ []) other
  lives_nowhere none home l other = record {
    alone = λ k off. nothing k (place k home);
    all = none ∙ sym (nothing other (place other home));
  }
    where
      nothing : (k : ℕ) → Place k home → print_lines p (issued_of k (h ++ e ∷ [])) ≡ []
      nothing k (earlier below) = l.alone k (λ same. (omega (arith, below, same)))
      nothing k (here same) = ap (λ (n : ℕ). print_lines p (issued_of n (h ++ e ∷ []))) same ∙ sym l.all ∙ none
      nothing k (later above) = l.alone k (λ same. (omega (arith, above, same)))
