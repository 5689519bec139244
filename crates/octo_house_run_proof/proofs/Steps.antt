-- What an entry of a legal history makes of a print.
use Rattle.std.proofs.Common.{◌≡◌, ◌⊎◌, inl, inr, ℕ, suc, ◌<◌, ◌≤◌, Bool, true, false, nat_eq, List, [], ◌∷◌, ◌++◌, length, map, drop, sym, ◌∙◌, ap, subst, append-nil, arith}
use Rattle.job_desk.specs.Data.{ScriptTexts, Data, Line}
use Rattle.job_desk.specs.Run.{Fate, Finished, Stopped, Left, Unplugged, Broken, Run, Pulled, after, run_of, print_lines, of_print, DeskCall, Note, MayCallAll}
use Rattle.job_desk.specs.declared.link_fact.LinkFact.TheVariants as fact
use Rattle.job_desk.specs.declared.state.State.TheVariants.{Connecting}
use Rattle.octo_asks.specs.History.{History}
use Rattle.octo_asks.specs.declared.entry.Entry.{Entry}
use Rattle.octo_house_rules.specs.Desk.{desk_after_all, lines_pulled}
use Rattle.octo_house_rules.specs.Issued.{is_opened, lines_at, issued_in, issued_of}
use Rattle.octo_house_rules.proofs.Runs.{pulled_all, of_pulled}
use Rattle.octo_house_rules.specs.Sessions.{sessions, acked_at, acked_in, open_at, is_open}
use Rattle.octo_house_run_proof.proofs.LineEntries.{sessions-append}
use Rattle.octo_house_run_proof.proofs.Grown.{sessions-other, sessions-opened, acked-before, acked-last, acked-ended, acked-new, open-after, shut_after}
use Rattle.octo_house_run_proof.specs.Prints.{IsUnended, IsEnded, Lives}
use Rattle.octo_house_rules.specs.Lives.{LivesIn, LeavesSo}
use Rattle.octo_house_run_proof.proofs.Lists.{none_more, none_later}
use Rattle.octo_house_run_proof.proofs.Others.{Held, Status, LeftSo}
use Rattle.octo_house_run_proof.proofs.Calls.{Leads, leads_calls, ArePlain, open_by_all, Passes, passes_calls, acked_calls, connecting_foreign, connecting_none, held_opened, ends_opened, acked_of_opened}
use Rattle.octo_house_run_proof.proofs.Plain.{desk_calls}
use Rattle.octo_house_run_proof.proofs.Entries.{issued-before, issued-last, issued-ended, issued-new, issued-whole, lives_on, lives_past, lives_opened, lives_nowhere, Place, earlier, here, later, place}

module _ (scripts : ScriptTexts) (p : ℕ) (positive : nat_eq 0 p ≡ false) where
  -- the run that a history records, and the print over it
  pub record Tells (h : History) (run : Run) : Type 0 where
    pub pulled : map (λ (one : Pulled). one.line) run.pulled ≡ issued_in h
    pub held : Held scripts p positive run (issued_of (sessions h) h)
    pub acked : run.desk.acked ≡ acked_in (sessions h) h
    pub lives : Lives p h (of_print p run.ends)

  -- an entry that opens no session, by its calls
  module _ (h : History) (e : Entry) (run : Run) (calls : List DeskCall) (other : is_opened e ≡ false) (t : Tells h run) (may : MayCallAll calls run)
      (plain : ArePlain scripts p positive calls run.desk) (lines : lines_pulled calls run.desk ≡ lines_at e)
      (few : length (issued_of (sessions (h ++ e ∷ [])) (h ++ e ∷ [])) ≤ 18446744073709551615)
      (acked : (desk_after_all calls run.desk).acked ≡ acked_at e run.desk.acked)
      (opened : (was : Bool) → open_by_all scripts p positive calls was ≡ false → open_at e was ≡ false) where
    abbrev more : History
    more = h ++ e ∷ []

    same_count : sessions more ≡ sessions h
    same_count = sessions-other h e other

    -- the lines of the last session
    now : issued_of (sessions more) more ≡ issued_of (sessions h) h ++ lines_pulled calls run.desk
    now =
        ap (λ (n : ℕ). issued_of n more) same_count ∙ issued-last h e other ∙ ap (λ (x : List Line). issued_of (sessions h) h ++ x) (sym lines)

    short : length (issued_of (sessions h) h ++ lines_pulled calls run.desk) ≤ 18446744073709551615
    short = omega (arith, few, ap length now)

    whole : map (λ (one : Pulled). one.line) (run_of calls run).pulled ≡ issued_in more
    whole =
        pulled_all calls run ∙ ap (λ (x : List Line). x ++ lines_pulled calls run.desk) t.pulled ∙ ap (λ (x : List Line). issued_in h ++ x) lines
        ∙ sym (issued-whole h e)

    acked_now : (run_of calls run).desk.acked ≡ acked_in (sessions more) more
    acked_now =
        ap (λ (d : Data). d.acked) (desk_calls calls run) ∙ acked ∙ ap (λ (n : ℕ). acked_at e n) t.acked ∙ sym (acked-last h e other)
        ∙ ap (λ (n : ℕ). acked_in n more) (sym same_count)

    acked_later : acked_in (sessions h) h ≤ acked_in (sessions h) more
    acked_later =
        omega (
          arith,
          acked_calls scripts p positive calls run.desk plain,
          t.acked,
          acked_now,
          ap (λ (d : Data). d.acked) (desk_calls calls run),
          ap (λ (n : ℕ). acked_in n more) same_count,
        )

    shut_now : open_by_all scripts p positive calls (is_open h) ≡ false → is_open more ≡ false
    shut_now shut = open-after h e ∙ opened (is_open h) shut

    -- the print ends by one of the calls
    ends_so : (f : Fate) → LeftSo scripts p positive f (run_of calls run).desk.acked (issued_of (sessions h) h ++ lines_pulled calls run.desk)
        (open_by_all scripts p positive calls (is_open h)) →
        LeavesSo p f (sessions more) more
    ends_so Finished l = ap (λ (n : ℕ). print_lines p (drop n (issued_of (sessions more) more))) (sym acked_now)
        ∙ ap (λ (x : List Line). print_lines p (drop (run_of calls run).desk.acked x)) now ∙ l
    ends_so Stopped l = ap (λ (n : ℕ). print_lines p (drop n (issued_of (sessions more) more))) (sym acked_now)
        ∙ ap (λ (x : List Line). print_lines p (drop (run_of calls run).desk.acked x)) now ∙ l
    ends_so Left l = ap (λ (n : ℕ). print_lines p (drop n (issued_of (sessions more) more))) (sym acked_now)
        ∙ ap (λ (x : List Line). print_lines p (drop (run_of calls run).desk.acked x)) now ∙ l
    ends_so Unplugged l = inr (shut_now l)
    ends_so Broken l = inr (shut_now l)

    -- a print that had ended
    stays_settled : (home : ℕ) → Place home (sessions h) → home ≤ sessions h → print_lines p (lines_at e) ≡ [] →
        print_lines p (drop (acked_in home h) (issued_of home h)) ≡ [] → print_lines p (drop (acked_in home more) (issued_of home more)) ≡ []
    stays_settled home (earlier below) within none l =
        ap (λ (n : ℕ). print_lines p (drop n (issued_of home more))) (acked-before h e (e ∷ []) home below)
        ∙ ap (λ (x : List Line). print_lines p (drop (acked_in home h) x)) (issued-before h e (e ∷ []) home below) ∙ l
    stays_settled home (here same) within none l =
        subst (λ (n : ℕ). print_lines p (drop (acked_in n more) (issued_of n more)) ≡ []) (sym same)
        (ap (λ (x : List Line). print_lines p (drop (acked_in (sessions h) more) x)) (issued-last h e other)
        ∙ none_later p (acked_in (sessions h) h) (acked_in (sessions h) more) (issued_of (sessions h) h ++ lines_at e) acked_later
        (none_more p (acked_in (sessions h) h) (issued_of (sessions h) h) (lines_at e)
        (subst (λ (n : ℕ). print_lines p (drop (acked_in n h) (issued_of n h)) ≡ []) same l) none))
    stays_settled home (later above) within none l = absurd (omega (arith, above, within))

    stays_closed : (home : ℕ) → (home < sessions h) ⊎ (is_open h ≡ false) → (home < sessions more) ⊎ (is_open more ≡ false)
    stays_closed home (inl below) = inl (omega (arith, below, same_count))
    stays_closed home (inr shut) =
        inr (open-after h e ∙ ap (λ (b : Bool). open_at e b) shut ∙ shut_after (e ∷ []) (omega (arith, sessions-append h (e ∷ []), same_count)))

    stays_so : (f : Fate) (home : ℕ) → home ≤ sessions h → print_lines p (lines_at e) ≡ [] → LeavesSo p f home h → LeavesSo p f home more
    stays_so Unplugged home within none l = stays_closed home l
    stays_so Broken home within none l = stays_closed home l
    stays_so _ home within none l = stays_settled home (place home (sessions h)) within none l

    unended : IsUnended p h (of_print p run.ends) → Tells more (run_of calls run)
    unended u =
        let led : Leads scripts p positive (run_of calls run) (issued_of (sessions h) h ++ lines_pulled calls run.desk)
        (open_by_all scripts p positive calls (is_open h)) =
        leads_calls scripts p positive calls run (issued_of (sessions h) h) (is_open h) may plain short (record { held = t.held; status = inl u.no_fate })
        in
        let live : LivesIn p more (sessions more) = subst (λ (n : ℕ). LivesIn p more n) (sym same_count) (lives_on p h e other u.lives) in
        record {
          pulled = whole;
          held = subst (λ (x : List Line). Held scripts p positive (run_of calls run) x) (sym now) led.held;
          acked = acked_now;
          lives = by live led.status;
        }
      where
        by : LivesIn p more (sessions more)
            → Status scripts p positive (of_print p (run_of calls run).ends) (run_of calls run).desk.acked
            (issued_of (sessions h) h ++ lines_pulled calls run.desk)
            (open_by_all scripts p positive calls (is_open h)) → Lives p more (of_print p (run_of calls run).ends)
        by live (inl none) = inl (record { no_fate = none; lives = live })
        by live (inr so) = inr (record { fate = so.0; is = so.1; home = sessions more; within = omega arith; lives = live; leaves = ends_so so.0 so.2 })

    ended : IsEnded p h (of_print p run.ends) → Tells more (run_of calls run)
    ended o =
        let passed : Passes scripts p positive o.fate calls run (issued_of (sessions h) h) =
        passes_calls scripts p positive o.fate calls run (issued_of (sessions h) h) may plain short t.held o.is
        in
        let none : print_lines p (lines_at e) ≡ [] = ap (λ (x : List Line). print_lines p x) (sym lines) ∙ passed.none in
        record {
          pulled = whole;
          held = subst (λ (x : List Line). Held scripts p positive (run_of calls run) x) (sym now) passed.held;
          acked = acked_now;
          lives = inr (record {
            fate = o.fate;
            is = passed.ends;
            home = o.home;
            within = omega (arith, o.within, same_count);
            lives = lives_past p h e other o.home o.within none o.lives;
            leaves = stays_so o.fate o.home o.within none o.leaves;
          });
        }

    pub tells_step : Tells more (run_of calls run)
    tells_step = by t.lives
      where
        by : Lives p h (of_print p run.ends) → Tells more (run_of calls run)
        by (inl u) = unended u
        by (inr o) = ended o

    -- a print that had ended: it lives where it lived, and no later line is its own
    pub stays_ended : (f : Fate) → of_print p run.ends ≡ f ∷ [] → (home : ℕ) → home ≤ sessions h → LivesIn p h home → (a : ℕ)
        → print_lines p (drop a (issued_of home h)) ≡ [] →
        (of_print p (run_of calls run).ends ≡ f ∷ []) × LivesIn p more home × (print_lines p (drop a (issued_of home more)) ≡ [])
    stays_ended f is home within l a none =
        let passed : Passes scripts p positive f calls run (issued_of (sessions h) h) =
        passes_calls scripts p positive f calls run (issued_of (sessions h) h) may plain short t.held is
        in
        let none_here : print_lines p (lines_at e) ≡ [] = ap (λ (x : List Line). print_lines p x) (sym lines) ∙ passed.none in
        (passed.ends, lives_past p h e other home within none_here l, kept none_here (place home (sessions h)))
      where
        kept : print_lines p (lines_at e) ≡ [] → Place home (sessions h) → print_lines p (drop a (issued_of home more)) ≡ []
        kept none_here (earlier below) = ap (λ (x : List Line). print_lines p (drop a x)) (issued-before h e (e ∷ []) home below) ∙ none
        kept none_here (here same) =
            subst (λ (n : ℕ). print_lines p (drop a (issued_of n more)) ≡ []) (sym same)
            (ap (λ (x : List Line). print_lines p (drop a x)) (issued-last h e other)
            ∙ none_more p a (issued_of (sessions h) h) (lines_at e) (subst (λ (n : ℕ). print_lines p (drop a (issued_of n h)) ≡ []) same none) none_here)
        kept none_here (later above) = absurd (omega (arith, above, within))

  -- an entry that opens one
  module _ (h : History) (e : Entry) (run : Run) (acked moment : ℕ) (opens : is_opened e ≡ true) (t : Tells h run) (is : run.desk.state ≡ Connecting)
      (silent : lines_at e ≡ []) where
    abbrev next : Run
    next = after (Note acked fact.Opened moment) run

    abbrev after_it : History
    after_it = h ++ e ∷ []

    one_more : sessions after_it ≡ suc (sessions h)
    one_more = sessions-opened h e opens

    none_issued : print_lines p (lines_at e) ≡ []
    none_issued = ap (λ (x : List Line). print_lines p x) silent

    settled_past : (home : ℕ) → Place home (sessions h) → home ≤ sessions h → print_lines p (drop (acked_in home h) (issued_of home h)) ≡ [] →
        print_lines p (drop (acked_in home after_it) (issued_of home after_it)) ≡ []
    settled_past home (earlier below) within l =
        ap (λ (n : ℕ). print_lines p (drop n (issued_of home after_it))) (acked-before h e (e ∷ []) home below)
        ∙ ap (λ (x : List Line). print_lines p (drop (acked_in home h) x)) (issued-before h e (e ∷ []) home below) ∙ l
    settled_past home (here same) within l =
        subst (λ (n : ℕ). print_lines p (drop (acked_in n after_it) (issued_of n after_it)) ≡ []) (sym same)
        (ap (λ (n : ℕ). print_lines p (drop n (issued_of (sessions h) after_it))) (acked-ended h e opens)
        ∙ ap (λ (x : List Line). print_lines p (drop (acked_in (sessions h) h) x)) (issued-ended h e opens)
        ∙ subst (λ (n : ℕ). print_lines p (drop (acked_in n h) (issued_of n h)) ≡ []) same l)
    settled_past home (later above) within l = absurd (omega (arith, above, within))

    leaves_past : (f : Fate) (home : ℕ) → home ≤ sessions h → LeavesSo p f home h → LeavesSo p f home after_it
    leaves_past Unplugged home within l = inl (omega (arith, within, one_more))
    leaves_past Broken home within l = inl (omega (arith, within, one_more))
    leaves_past _ home within l = settled_past home (place home (sessions h)) within l

    opened_lives : Lives p h (of_print p run.ends) → Lives p after_it (of_print p next.ends)
    opened_lives (inl u) =
        let ends = ends_opened scripts p positive acked moment run (connecting_foreign scripts p positive run is t.held.known) in
        let none : print_lines p (issued_in h) ≡ [] =
        ap (λ (x : List Line). print_lines p x) (sym t.pulled) ∙ sym (of_pulled p run.pulled)
        ∙ connecting_none scripts p positive run (issued_of (sessions h) h) is u.no_fate t.held
        in
        let nothing : print_lines p (issued_in after_it) ≡ [] =
        ap (λ (x : List Line). print_lines p x) (issued-whole h e ∙ ap (λ (x : List Line). issued_in h ++ x) silent ∙ append-nil (issued_in h)) ∙ none
        in
        inl (record {
          no_fate = ends ∙ u.no_fate;
          lives = lives_nowhere p h e nothing (sessions h) (lives_opened p h e opens (sessions h) none_issued u.lives) (sessions after_it);
        })
    opened_lives (inr o) =
        let ends = ends_opened scripts p positive acked moment run (connecting_foreign scripts p positive run is t.held.known) in
        inr (record {
          fate = o.fate;
          is = ends ∙ o.is;
          home = o.home;
          within = omega (arith, o.within, one_more);
          lives = lives_opened p h e opens o.home none_issued o.lives;
          leaves = leaves_past o.fate o.home o.within o.leaves;
        })

    pub tells_opened : Tells after_it next
    tells_opened =
        let empty : issued_of (sessions after_it) after_it ≡ [] = ap (λ (n : ℕ). issued_of n after_it) one_more ∙ issued-new h e opens in
        record {
          pulled = pulled_all (Note acked fact.Opened moment ∷ []) run ∙ append-nil (map (λ (one : Pulled). one.line) run.pulled) ∙ t.pulled
              ∙ sym (issued-whole h e ∙ ap (λ (x : List Line). issued_in h ++ x) silent ∙ append-nil (issued_in h));
          held = subst (λ (x : List Line). Held scripts p positive next x) (sym empty)
              (held_opened scripts p positive acked moment run (issued_of (sessions h) h) t.held);
          acked = acked_of_opened scripts p positive acked moment run ∙ sym (ap (λ (n : ℕ). acked_in n after_it) one_more ∙ acked-new h e opens);
          lives = opened_lives t.lives;
        }

    pub opened_ended : (f : Fate) → of_print p run.ends ≡ f ∷ [] → (home : ℕ) → home ≤ sessions h → LivesIn p h home → (a : ℕ)
        → print_lines p (drop a (issued_of home h)) ≡ [] →
        (of_print p next.ends ≡ f ∷ []) × LivesIn p after_it home × (print_lines p (drop a (issued_of home after_it)) ≡ [])
    opened_ended f ended_so home within l a none = (
      ends_opened scripts p positive acked moment run (connecting_foreign scripts p positive run is t.held.known) ∙ ended_so,
      lives_opened p h e opens home none_issued l,
      kept (place home (sessions h)),
    )
      where
        kept : Place home (sessions h) → print_lines p (drop a (issued_of home after_it)) ≡ []
        kept (earlier below) = ap (λ (x : List Line). print_lines p (drop a x)) (issued-before h e (e ∷ []) home below) ∙ none
        kept (here same) =
            subst (λ (n : ℕ). print_lines p (drop a (issued_of n after_it)) ≡ []) (sym same)
            (ap (λ (x : List Line). print_lines p (drop a x)) (issued-ended h e opens) ∙ subst (λ (n : ℕ). print_lines p (drop a (issued_of n h)) ≡ []) same none)
        kept (later above) = absurd (omega (arith, above, within))
