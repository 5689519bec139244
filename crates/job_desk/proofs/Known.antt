-- What is known of one print over a run of calls.
use Rattle.std.proofs.Common.{◌≡◌, ◌⊎◌, inl, inr, ℕ, ◌<◌, Bool, true, false, cond, nat_eq, List, [], ◌∷◌, ◌++◌, Option, None, Some, refl, sym, ◌∙◌, ap, subst}
use Rattle.temp_rules.specs.declared.job.HotLine.{HotLine}
use Rattle.temp_rules.specs.Hot.{first_hot_of}
use Rattle.job_desk.specs.Data.{ScriptTexts, Data, File, Line, script_lines, commands_of}
use Rattle.job_desk.specs.Table.{start_at, start_checked, start_file, restart_at, printing}
use Rattle.job_desk.specs.Pull.{pull_step}
use Rattle.job_desk.specs.Note.{note_step}
use Rattle.job_desk.specs.Run.{is_of, print_lines}
use Rattle.job_desk.specs.declared.state.State.{State}
use Rattle.job_desk.specs.declared.state.State.TheVariants.{Operational, Paused}
use Rattle.job_desk.specs.declared.state.Point.TheVariants as point
use Rattle.job_desk.specs.declared.link_fact.LinkFact.{LinkFact}
use Rattle.print_queue.specs.declared.ending.Ending.{Ending}
use Rattle.std.proofs.Common.{⊎_elim, ◌≤◌, arith}
use Rattle.std.proofs.lemmas.List.{append-nil}
use Rattle.std.proofs.lemmas.Bool.{cases_lt}
use Rattle.job_desk.specs.Course as course
use Rattle.job_desk.specs.Course.{Course, Body, started, paused}
use Rattle.job_desk.specs.Story.{Story, never, left}
use Rattle.job_desk.specs.Run.{DeskCall, Connect, Disconnect, Select, DropFile, Start, Restart, Pause, Resume, Toggle, Cancel, Manually, Pull, Note, Fate, Left, fate_of, Run, moved, after_start, after_restart, after_pull, after_note, after, MayCall, pulled_of, of_print}
use Rattle.job_desk.proofs.Lines.{pulled_of-push, of_print-other, of_print-own, same_test, below_test, above_test, waits_own}
use Rattle.job_desk.proofs.Steady.{Steady, steady-connect, steady-disconnect, steady-select, steady-drop_file, steady-pause, steady-resume, steady-toggle, steady-cancel, steady-manual, steady-pull, steady-note}
use Rattle.job_desk.proofs.Foreign.{ForeignTo, IsIdle, IsNotOf, IsNoEndOf, foreign-connect, foreign-disconnect, foreign-select, foreign-drop_file, foreign-printing, foreign-pause, foreign-resume, foreign-toggle, foreign-cancel, foreign-manual, foreign-pull, foreign-note}
use Rattle.job_desk.proofs.Current.{Stage, CurrentTo, with_line, begun, current-connect, current-disconnect, current-select, current-drop_file, current-pause, current-resume, current-toggle, current-cancel, current-manual, current-pull}
use Rattle.job_desk.proofs.Noted.{NotedAs, current-note}

module _ (scripts : ScriptTexts) (p : ℕ) (positive : nat_eq 0 p ≡ false) where
  -- what is known of one print: it is still to come, it is going on, or it is over or was passed over
  pub record Coming (d : Data) (begun : List (List (List ℕ))) (lines : List Line) (fates : List Fate) : Type 0 where
    pub above : d.greatest < p
    pub foreign : ForeignTo p d
    pub no_begin : begun ≡ []
    pub no_line : lines ≡ []
    pub no_fate : fates ≡ []

  pub record Going (d : Data) (begun : List (List (List ℕ))) (lines : List Line) (fates : List Fate) : Type 0 where
    pub commands : List (List ℕ)
    pub current : CurrentTo p commands lines d
    pub is_begun : begun ≡ commands ∷ []
    pub no_fate : fates ≡ []

  pub record Over (d : Data) (begun : List (List (List ℕ))) (lines : List Line) (fates : List Fate) : Type 0 where
    pub passed : p ≤ d.greatest
    pub foreign : ForeignTo p d
    pub story : Story scripts p begun lines fates

  abbrev pub Known : Data → List (List (List ℕ)) → List Line → List Fate → Type 0
  Known d begun lines fates = Coming d begun lines fates ⊎ (Going d begun lines fates ⊎ Over d begun lines fates)

  abbrev pub KnownOf : Run → Type 0
  KnownOf run = Known run.desk (of_print p run.begun) (pulled_of p run.pulled) (of_print p run.ends)

  -- a call that only moves the desk
  moves : (run : Run) (e : Data) → Steady run.desk e → (ForeignTo p run.desk → ForeignTo p e)
      → ((commands : List (List ℕ)) → CurrentTo p commands (pulled_of p run.pulled) run.desk → CurrentTo p commands (pulled_of p run.pulled) e)
      → KnownOf run → KnownOf (moved e run)
  moves run e s f c (inl k) = inl (record {
    above = subst (λ g. g < p) (sym s.greatest) k.above;
    foreign = f k.foreign;
    no_begin = k.no_begin;
    no_line = k.no_line;
    no_fate = k.no_fate;
  })
  moves run e s f c (inr (inl k)) = inr (inl (record { commands = k.commands; current = c k.commands k.current; is_begun = k.is_begun; no_fate = k.no_fate }))
  moves run e s f c (inr (inr k)) = inr (inr (record { passed = subst (λ g. p ≤ g) (sym s.greatest) k.passed; foreign = f k.foreign; story = k.story }))

  -- this print begins
  begins : (d : Data) → d.scripts ≡ scripts → print_lines p d.waiting ≡ [] → CurrentTo p (commands_of d.file) [] (printing p d)
  begins d k none = record {
    is = refl;
    active_is = refl;
    texts_are = refl;
    stage =
        let e : print_lines p (d.waiting ++ script_lines d.scripts point.Started p) ≡ script_lines d.scripts point.Started p =
        waits_own [] d.waiting d.scripts point.Started p p refl ∙ ap (λ l. l ++ script_lines d.scripts point.Started p) none in
        subst (λ l. Body d.scripts p (commands_of d.file) 0 l) (sym e) started;
  }

  -- a print begins: this one, one before it, or one after it
  comes : (q : ℕ) (run : Run) (k : run.desk.scripts ≡ scripts) → run.desk.greatest < q → (ends : List (ℕ × Fate)) → of_print p ends ≡ of_print p run.ends
      → Coming run.desk (of_print p run.begun) (pulled_of p run.pulled) (of_print p run.ends)
      → KnownOf (record run { desk = printing q run.desk; begun = run.begun ++ (q, commands_of run.desk.file) ∷ []; ends = ends })
  comes q run k rises ends same c = ⊎_elim (λ below. before below) (λ up. ⊎_elim (λ past. later past) (λ up'. here (omega arith)) (cases_lt p q)) (cases_lt q p)
    where
      fates : of_print p ends ≡ []
      fates = same ∙ c.no_fate

      before : q < p → KnownOf (record run { desk = printing q run.desk; begun = run.begun ++ (q, commands_of run.desk.file) ∷ []; ends = ends })
      before h = let e = below_test q p h in inl (record {
        above = h;
        foreign = foreign-printing p q run.desk e c.foreign.none;
        no_begin = of_print-other p q (commands_of run.desk.file) run.begun e ∙ c.no_begin;
        no_line = c.no_line;
        no_fate = fates;
      })

      later : p < q → KnownOf (record run { desk = printing q run.desk; begun = run.begun ++ (q, commands_of run.desk.file) ∷ []; ends = ends })
      later h = let e = above_test q p h in
          let b : of_print p (run.begun ++ (q, commands_of run.desk.file) ∷ []) ≡ [] = of_print-other p q (commands_of run.desk.file) run.begun e
          ∙ c.no_begin in
          inr (inr (record {
            passed = omega arith;
            foreign = foreign-printing p q run.desk e c.foreign.none;
            story = subst (λ b. Story scripts p b (pulled_of p run.pulled) (of_print p ends)) (sym b)
                (subst (λ l. Story scripts p [] l (of_print p ends)) (sym c.no_line) (subst (λ f. Story scripts p [] [] f) (sym fates) never));
          }))

      here : q ≡ p → KnownOf (record run { desk = printing q run.desk; begun = run.begun ++ (q, commands_of run.desk.file) ∷ []; ends = ends })
      here h = inr (inl (record {
        commands = commands_of run.desk.file;
        current = subst (λ l. CurrentTo p (commands_of run.desk.file) l (printing q run.desk)) (sym c.no_line)
            (subst (λ r. CurrentTo p (commands_of run.desk.file) [] (printing r run.desk)) (sym h) (begins run.desk k c.foreign.none));
        is_begun = of_print-own p q (commands_of run.desk.file) run.begun (subst (λ r. nat_eq r p ≡ true) (sym h) (same_test p))
            ∙ ap (λ b. b ++ commands_of run.desk.file ∷ []) c.no_begin;
        no_fate = fates;
      }))

  -- a later print begins
  follows : (q : ℕ) (run : Run) (begun : List (List (List ℕ))) (fates : List Fate) (ends : List (ℕ × Fate)) → of_print p run.begun ≡ begun →
      of_print p ends ≡ fates → p < q → print_lines p run.desk.waiting ≡ []
      → Story scripts p begun (pulled_of p run.pulled) fates
      → KnownOf (record run { desk = printing q run.desk; begun = run.begun ++ (q, commands_of run.desk.file) ∷ []; ends = ends })
  follows q run begun fates ends b f h none story =
      let e = above_test q p h in
      inr (inr (record {
        passed = omega arith;
        foreign = foreign-printing p q run.desk e none;
        story = subst (λ x. Story scripts p x (pulled_of p run.pulled) (of_print p ends)) (sym (of_print-other p q (commands_of run.desk.file) run.begun e ∙ b))
            (subst (λ x. Story scripts p begun (pulled_of p run.pulled) x) (sym f) story);
      }))

  -- start
  starts : (q : ℕ) (run : Run) → run.desk.scripts ≡ scripts → run.desk.greatest < q → run.desk.state ≡ Operational → KnownOf run
      → KnownOf (record run { desk = printing q run.desk; begun = run.begun ++ (q, commands_of run.desk.file) ∷ [] })
  starts q run k rises s (inl c) = comes q run k rises run.ends refl c
  starts q run k rises s (inr (inl c)) = absurd (subst (λ t. Stage run.desk.scripts p c.commands t run.desk.cursor run.desk.waiting
      (pulled_of p run.pulled ++ print_lines p run.desk.waiting)) s c.current.stage)
  starts q run k rises s (inr (inr c)) = follows q run _ _ run.ends refl refl (omega (arith, c.passed)) c.foreign.none c.story

  stay : (run : Run) → KnownOf run → KnownOf (moved run.desk run)
  stay run k = k

  start_hot : (q : ℕ) (run : Run) (hot : Option HotLine) → run.desk.scripts ≡ scripts → run.desk.greatest < q → run.desk.state ≡ Operational → KnownOf run →
      KnownOf (after_start q (start_checked hot q run.desk) run)
  start_hot q run None k rises s h = starts q run k rises s h
  start_hot q run (Some hot) k rises s h = h

  start_of : (q : ℕ) (run : Run) (file : Option File) → run.desk.scripts ≡ scripts → run.desk.greatest < q → run.desk.state ≡ Operational → KnownOf run →
      KnownOf (after_start q (start_file file q run.desk) run)
  start_of q run None k rises s h = h
  start_of q run (Some file) k rises s h = start_hot q run (first_hot_of run.desk.limits file.job.commands) k rises s h

  known-start : (q : ℕ) (run : Run) (s : State) → run.desk.state ≡ s → run.desk.scripts ≡ scripts → run.desk.greatest < q → KnownOf run →
      KnownOf (after_start q (start_at s q run.desk) run)
  known-start q run Operational e k rises h = start_of q run run.desk.file k rises e h
  known-start q run _ e k rises h = h

  -- restart
  restarts : (q : ℕ) (run : Run) → run.desk.scripts ≡ scripts → run.desk.greatest < q → run.desk.state ≡ Paused → KnownOf run
      → KnownOf (record run {
        desk = printing q run.desk;
        begun = run.begun ++ (q, commands_of run.desk.file) ∷ [];
        ends = run.ends ++ (run.desk.greatest, Left) ∷ [];
      })
  restarts q run k rises s (inl c) = comes q run k rises _ (of_print-other p run.desk.greatest Left run.ends (below_test _ _ c.above)) c
  restarts q run k rises s (inr (inl c)) =
      let stage = subst (λ t. Stage run.desk.scripts p c.commands t run.desk.cursor run.desk.waiting (pulled_of p run.pulled ++ print_lines p run.desk.waiting)) s
      c.current.stage in
      let none : print_lines p run.desk.waiting ≡ [] = ap (λ w. print_lines p w) stage.3 in
      let whole : pulled_of p run.pulled ≡ stage.0 ++ script_lines run.desk.scripts point.Paused p =
      sym (ap (λ l. pulled_of p run.pulled ++ l) none ∙ append-nil _) ∙ stage.2 in
      let so : Course scripts p c.commands course.Paused (pulled_of p run.pulled) =
      subst (λ t. Course t p c.commands course.Paused (pulled_of p run.pulled)) k
      (subst (λ l. Course run.desk.scripts p c.commands course.Paused l) (sym whole) (paused run.desk.cursor stage.0 stage.1)) in
      let own_end : nat_eq run.desk.greatest p ≡ true = subst (λ g. nat_eq g p ≡ true) (sym c.current.is) (same_test p) in
      let rises_here : p < q = subst (λ g. g < q) c.current.is rises in
      follows q run _ _ _ c.is_begun (of_print-own p run.desk.greatest Left run.ends own_end ∙ ap (λ f. f ++ Left ∷ []) c.no_fate) rises_here none
      (left c.commands _ so)
  restarts q run k rises s (inr (inr c)) =
      let other : nat_eq run.desk.greatest p ≡ false = elim c.foreign.other [ inl o ↦ o | inr o ↦ absurd (subst IsIdle s o.1) ] in
      follows q run _ _ _ refl (of_print-other p run.desk.greatest Left run.ends other) (omega (arith, c.passed)) c.foreign.none c.story

  known-restart : (q : ℕ) (run : Run) (s : State) → run.desk.state ≡ s → run.desk.scripts ≡ scripts → run.desk.greatest < q → KnownOf run →
      KnownOf (after_restart q (restart_at s q run.desk) run)
  known-restart q run Paused e k rises h = restarts q run k rises e h
  known-restart q run _ e k rises h = h

  -- pull
  known-pull : (state : State) (run : Run) (line : Option Line) (e : Data) → Steady run.desk e → (ForeignTo p run.desk → ForeignTo p e × IsNotOf p line)
      → ((commands : List (List ℕ)) → CurrentTo p commands (pulled_of p run.pulled) run.desk →
      CurrentTo p commands (with_line p commands (pulled_of p run.pulled) line) e)
      → KnownOf run → KnownOf (after_pull state (line, e) run)
  known-pull state run None e s f c h = moves run e s (λ k. (f k).0) c h
  known-pull state run (Some line) e s f c (inl k) =
      let g = f k.foreign in inl (record {
        above = subst (λ g. g < p) (sym s.greatest) k.above;
        foreign = g.0;
        no_begin = k.no_begin;
        no_line = pulled_same g.1
            ∙ k.no_line;
        no_fate = k.no_fate;
      })
    where
      pulled_same : is_of p line.tag ≡ false → pulled_of p (run.pulled ++ record { line = line; state = state } ∷ []) ≡ pulled_of p run.pulled
      pulled_same e = pulled_of-push p line state run.pulled ∙ ap (λ (b : Bool). pulled_of p run.pulled ++ cond b (line ∷ []) []) e ∙ append-nil _
  known-pull state run (Some line) e s f c (inr (inl k)) =
      inr (inl (record {
        commands = k.commands;
        current = subst (λ l. CurrentTo p k.commands l e) (sym (pulled_of-push p line state run.pulled))
            (c k.commands k.current);
        is_begun = k.is_begun;
        no_fate = k.no_fate;
      }))
  known-pull state run (Some line) e s f c (inr (inr k)) =
      let g = f k.foreign in inr (inr (record {
        passed = subst (λ g. p ≤ g) (sym s.greatest) k.passed;
        foreign = g.0;
        story = subst (λ l. Story scripts p (of_print p run.begun) l (of_print p run.ends)) (sym (pulled_same g.1)) k.story;
      }))
    where
      pulled_same : is_of p line.tag ≡ false → pulled_of p (run.pulled ++ record { line = line; state = state } ∷ []) ≡ pulled_of p run.pulled
      pulled_same e = pulled_of-push p line state run.pulled ∙ ap (λ (b : Bool). pulled_of p run.pulled ++ cond b (line ∷ []) []) e ∙ append-nil _

  -- note
  known-note : (f : LinkFact) (run : Run) (ending : Option Ending) (e : Data) → Steady run.desk e → (ForeignTo p run.desk → ForeignTo p e × IsNoEndOf p ending)
      → ((commands : List (List ℕ)) → CurrentTo p commands (pulled_of p run.pulled) run.desk → NotedAs p commands scripts f (pulled_of p run.pulled) ending e)
      → KnownOf run → KnownOf (after_note f (ending, e) run)
  known-note f run None e s g c h = moves run e s (λ k. (g k).0) (λ commands k. (c commands k).1) h
  known-note f run (Some ending) e s g c (inl k) =
      let o = g k.foreign in
      inl (record {
        above = subst (λ g. g < p) (sym s.greatest) k.above;
        foreign = o.0;
        no_begin = k.no_begin;
        no_line = k.no_line;
        no_fate = of_print-other p ending.print _ run.ends o.1 ∙ k.no_fate;
      })
  known-note f run (Some ending) e s g c (inr (inl k)) =
      let o = c k.commands k.current in
      let fates : of_print p (run.ends ++ (ending.print, fate_of f ending.outcome) ∷ []) ≡ fate_of f ending.outcome ∷ [] =
      of_print-own p ending.print _ run.ends (subst (λ q. nat_eq q p ≡ true) (sym o.0) (same_test p))
      ∙ ap (λ l. l ++ fate_of f ending.outcome ∷ []) k.no_fate in
      let passed : run.desk.greatest ≡ p = k.current.is in
      inr (inr (record {
        passed = omega (arith, s.greatest, passed);
        foreign = o.1;
        story = subst (λ b. Story scripts p b (pulled_of p run.pulled) (of_print p (run.ends ++ (ending.print, fate_of f ending.outcome) ∷ [])))
            (sym k.is_begun) (subst (λ x. Story scripts p (k.commands ∷ []) (pulled_of p run.pulled) x) (sym fates) o.2);
      }))
  known-note f run (Some ending) e s g c (inr (inr k)) =
      let o = g k.foreign in
      inr (inr (record {
        passed = subst (λ g. p ≤ g) (sym s.greatest) k.passed;
        foreign = o.0;
        story = subst (λ x. Story scripts p (of_print p run.begun) (pulled_of p run.pulled) x) (sym (of_print-other p ending.print _ run.ends o.1)) k.story;
      }))

  pub known-after : (call : DeskCall) (run : Run) → run.desk.scripts ≡ scripts → MayCall call run.desk → KnownOf run → KnownOf (after call run)
  known-after (Connect port) run k m h = moves run _ (steady-connect run.desk.state port run.desk) (foreign-connect p run.desk.state port run.desk refl)
      (λ c. current-connect p c _ run.desk.state port run.desk refl) h
  known-after Disconnect run k m h = moves run _ (steady-disconnect run.desk.state run.desk) (foreign-disconnect p positive run.desk.state run.desk refl)
      (λ c. current-disconnect p c positive _ run.desk.state run.desk refl) h
  known-after (Select file) run k m h = moves run _ (steady-select run.desk.state file run.desk) (foreign-select p run.desk.state file run.desk)
      (λ c. current-select p c _ run.desk.state file run.desk refl) h
  known-after (DropFile name) run k m h = moves run _ (steady-drop_file name run.desk) (foreign-drop_file p name run.desk)
      (λ c. current-drop_file p c _ name run.desk) h
  known-after (Start q) run k m h = known-start q run run.desk.state refl k m h
  known-after (Restart q) run k m h = known-restart q run run.desk.state refl k m h
  known-after Pause run k m h = moves run _ (steady-pause run.desk.state run.desk) (foreign-pause p run.desk.state run.desk refl)
      (λ c. current-pause p c _ run.desk.state run.desk refl) h
  known-after Resume run k m h = moves run _ (steady-resume run.desk.state run.desk) (foreign-resume p run.desk.state run.desk refl)
      (λ c. current-resume p c _ run.desk.state run.desk refl) h
  known-after Toggle run k m h = moves run _ (steady-toggle run.desk.state run.desk) (foreign-toggle p run.desk.state run.desk refl)
      (λ c. current-toggle p c _ run.desk.state run.desk refl) h
  known-after Cancel run k m h = moves run _ (steady-cancel run.desk.state run.desk) (foreign-cancel p run.desk.state run.desk refl)
      (λ c. current-cancel p c _ run.desk.state run.desk refl) h
  known-after (Manually lines) run k m h = moves run _ (steady-manual run.desk.state lines run.desk) (foreign-manual p run.desk.state lines run.desk)
      (λ c. current-manual p c _ run.desk.state lines run.desk) h
  known-after (Pull moment) run k m h = let drawn = pull_step moment run.desk in
      known-pull run.desk.state run drawn.0 drawn.1 (steady-pull moment run.desk) (foreign-pull p moment run.desk) (λ c. current-pull p c _ moment run.desk) h
  known-after (Note acked f moment) run k m h =
      let noted = note_step acked f moment run.desk in
      known-note f run noted.0 noted.1 (steady-note acked f moment run.desk) (foreign-note p positive acked f moment run.desk)
      (λ c h. current-note p c scripts acked f _ moment run.desk k h) h
