-- A print hasn't begun, goes on, or has ended.
use Rattle.std.proofs.Common.{◌≡◌, ◌⊎◌, inl, inr, ℕ, ◌≤◌, Bool, true, false, nat_eq, List, [], ◌∷◌, ◌++◌, length, Option, None, Some, refl, sym, ◌∙◌, ap, subst}
use Rattle.temp_rules.specs.declared.job.HotLine.{HotLine}
use Rattle.temp_rules.specs.Hot.{first_hot_of}
use Rattle.job_desk.specs.Data.{ScriptTexts, Data, File, Line, commands_of}
use Rattle.job_desk.specs.Table.{printing, start_checked, start_file, start_at, restart_at}
use Rattle.job_desk.specs.Pull.{pull_step}
use Rattle.job_desk.specs.Note.{note_step}
use Rattle.job_desk.specs.Run.{Fate, Left, fate_of, Run, after, after_start, after_restart, after_pull, after_note, print_lines, pulled_of, of_print, DeskCall, Connect, Disconnect, Select, DropFile, Start, Restart, Pause, Resume, Toggle, Cancel, Manually, Pull, Note, MayCall}
use Rattle.job_desk.specs.declared.state.State.{State}
use Rattle.job_desk.specs.declared.state.State.TheVariants.{Operational, Paused}
use Rattle.job_desk.specs.declared.link_fact.LinkFact.{LinkFact}
use Rattle.print_queue.specs.declared.ending.Ending.{Ending}
use Rattle.job_desk.proofs.Current.{Stage}
use Rattle.job_desk.proofs.Endings.{EndsIn, note_ends}
use Rattle.job_desk.proofs.Foreign.{ForeignTo}
use Rattle.job_desk.proofs.Known.{Going, KnownOf, known-after}
use Rattle.job_desk.proofs.Lines.{of_print-other, of_print-own, same_test}
use Rattle.octo_house_rules.specs.Desk.{desk_after, line_pulled}
use Rattle.octo_house_rules.proofs.Runs.{desk_call}
use Rattle.octo_house_run_proof.proofs.Marks.{Marked, IsNoStart, same_request}
use Rattle.octo_house_run_proof.proofs.Pulled.{print_pull, drawn_lines}
use Rattle.octo_house_run_proof.proofs.Plain.{scripts_call, IsPlain}
use Rattle.octo_house_run_proof.proofs.Others.{IsClear, Held, marked_call, ends_foreign}

module _ (scripts : ScriptTexts) (p : ℕ) (positive : nat_eq 0 p ≡ false) where
  -- the active print isn't foreign
  clashes : {X : Type 0} (e : Data) → nat_eq e.greatest p ≡ true → e.active ≡ true → ForeignTo p e → X
  clashes e own on f =
      elim f.other [
        | inl o ↦ absurd (let no : true ≡ false = sym own ∙ o in cc no)
        | inr o ↦ absurd (let no : true ≡ false = sym on ∙ o.0 in cc no)
      ]

  -- a print that begins is active
  clear_starts : {X : Type 0} (q : ℕ) (d : Data) (ends : List Fate) (begun : List (ℕ × List (List ℕ))) (b : Bool) → nat_eq q p ≡ b → of_print p begun ≡ [] →
      ForeignTo p (printing q d) → (of_print p (begun ++ (q, commands_of d.file) ∷ []) ≡ []) ⊎ X
  clear_starts q d ends begun false is none f = inl (of_print-other p q (commands_of d.file) begun is ∙ none)
  clear_starts q d ends begun true is none f = clashes (printing q d) is refl f

  module _ (run : Run) where
    abbrev Next : Run → Type 0
    Next next = ForeignTo p next.desk → IsClear scripts p positive next

    first_hot_clear : (hot : Option HotLine) (q : ℕ) → of_print p run.begun ≡ [] → Next (after_start q (start_checked hot q run.desk) run)
    first_hot_clear None q none f = clear_starts q run.desk (of_print p run.ends) run.begun (nat_eq q p) refl none f
    first_hot_clear (Some hot) q none f = inl none

    file_clear : (file : Option File) (q : ℕ) → of_print p run.begun ≡ [] → Next (after_start q (start_file file q run.desk) run)
    file_clear None q none f = inl none
    file_clear (Some file) q none f = first_hot_clear (first_hot_of run.desk.limits file.job.commands) q none f

    start_clear : (s : State) (q : ℕ) → of_print p run.begun ≡ [] → Next (after_start q (start_at s q run.desk) run)
    start_clear Operational q none f = file_clear run.desk.file q none f
    start_clear _ q none f = inl none

    restart_clear : (s : State) (q : ℕ) → of_print p run.begun ≡ [] → Next (after_restart q (restart_at s q run.desk) run)
    restart_clear Paused q none f = clear_starts q run.desk (of_print p run.ends) run.begun (nat_eq q p) refl none f
    restart_clear _ q none f = inl none

    begun_pulled : (state : State) (line : Option Line) (d : Data) → (after_pull state (line, d) run).begun ≡ run.begun
    begun_pulled state None d = refl
    begun_pulled state (Some line) d = refl

    begun_noted : (f : LinkFact) (ending : Option Ending) (d : Data) → (after_note f (ending, d) run).begun ≡ run.begun
    begun_noted f None d = refl
    begun_noted f (Some ending) d = refl

    -- a print that hasn't begun
    coming_clear : (call : DeskCall) → of_print p run.begun ≡ [] → Next (after call run)
    coming_clear (Start q) none f = start_clear run.desk.state q none f
    coming_clear (Restart q) none f = restart_clear run.desk.state q none f
    coming_clear (Pull moment) none f = inl (ap (of_print p) (begun_pulled run.desk.state (pull_step moment run.desk).0 (pull_step moment run.desk).1) ∙ none)
    coming_clear (Note acked g moment) none f =
        inl (ap (of_print p) (begun_noted g (note_step acked g moment run.desk).0 (note_step acked g moment run.desk).1) ∙ none)
    coming_clear (Connect port) none f = inl none
    coming_clear Disconnect none f = inl none
    coming_clear (Select file) none f = inl none
    coming_clear (DropFile name) none f = inl none
    coming_clear Pause none f = inl none
    coming_clear Resume none f = inl none
    coming_clear Toggle none f = inl none
    coming_clear Cancel none f = inl none
    coming_clear (Manually texts) none f = inl none

    -- the print that is going on
    module _ (k : Going scripts p positive run.desk (of_print p run.begun) (pulled_of p run.pulled) (of_print p run.ends)) where
      going_own : nat_eq run.desk.greatest p ≡ true
      going_own = subst (λ (g : ℕ). nat_eq g p ≡ true) (sym k.current.is) (same_test p)

      still : {X : Type 0} (e : Data) → e.active ≡ run.desk.active → e.greatest ≡ run.desk.greatest → ForeignTo p e → X
      still e active greatest f = clashes e (ap (λ (g : ℕ). nat_eq g p) greatest ∙ going_own) (active ∙ k.current.active_is) f

      one_more : (q : ℕ) (fate : Fate) → nat_eq q p ≡ true → of_print p (run.ends ++ (q, fate) ∷ []) ≡ [] → ⊥
      one_more q fate own none =
          let is : of_print p (run.ends ++ (q, fate) ∷ []) ≡ fate ∷ [] =
          of_print-own p q fate run.ends own ∙ ap (λ (l : List Fate). l ++ fate ∷ []) k.no_fate in
          let no : fate ∷ [] ≡ [] = sym is ∙ none in
          absurd (cc no)

      nowhere : {X : Type 0} → run.desk.state ≡ Operational → X
      nowhere is =
          absurd (subst (λ t. Stage run.desk.scripts p k.commands t run.desk.cursor run.desk.waiting (pulled_of p run.pulled ++ print_lines p run.desk.waiting)) is
          k.current.stage)

      going_start : (s : State) (q : ℕ) → run.desk.state ≡ s → Next (after_start q (start_at s q run.desk) run)
      going_start Operational q is f = nowhere is
      going_start _ q is f = still run.desk refl refl f

      going_restart : (s : State) (q : ℕ) → Next (after_restart q (restart_at s q run.desk) run)
      going_restart Paused q f = inr (inr (λ none. one_more run.desk.greatest Left going_own none))
      going_restart _ q f = still run.desk refl refl f

      going_pull : (state : State) (line : Option Line) (e : Data) → e.active ≡ run.desk.active → e.greatest ≡ run.desk.greatest
          → Next (after_pull state (line, e) run)
      going_pull state None e active greatest f = still e active greatest f
      going_pull state (Some line) e active greatest f = still e active greatest f

      going_note : (acked : ℕ) (g : LinkFact) (ending : Option Ending) (e : Data) → EndsIn acked g run.desk ending e → Next (after_note g (ending, e) run)
      going_note acked g None e ends f = still e ends.0 ends.1 f
      going_note acked g (Some ending) e ends f =
          inr (inr (λ none. one_more ending.print (fate_of g ending.outcome) (subst (λ (q : ℕ). nat_eq q p ≡ true) (sym ends.0.print) going_own) none))

      going_moved : {X : Type 0} (call : DeskCall) → IsNoStart call → ForeignTo p (desk_after call run.desk) → X
      going_moved call r f = (let s = same_request call run.desk r in still (desk_after call run.desk) s.active s.greatest f)

      going_clear : (call : DeskCall) → Next (after call run)
      going_clear (Start q) f = going_start run.desk.state q refl f
      going_clear (Restart q) f = going_restart run.desk.state q f
      going_clear (Pull moment) f =
          going_pull run.desk.state (pull_step moment run.desk).0 (pull_step moment run.desk).1 (print_pull p positive moment run.desk).0
          (print_pull p positive moment run.desk).1 f
      going_clear (Note acked g moment) f =
          going_note acked g (note_step acked g moment run.desk).0 (note_step acked g moment run.desk).1
          (note_ends acked moment run.desk (λ busy. k.current.active_is) g) f
      going_clear (Connect port) f = going_moved (Connect port) tt f
      going_clear Disconnect f = going_moved Disconnect tt f
      going_clear (Select file) f = going_moved (Select file) tt f
      going_clear (DropFile name) f = going_moved (DropFile name) tt f
      going_clear Pause f = going_moved Pause tt f
      going_clear Resume f = going_moved Resume tt f
      going_clear Toggle f = going_moved Toggle tt f
      going_clear Cancel f = going_moved Cancel tt f
      going_clear (Manually texts) f = going_moved (Manually texts) tt f

  -- a print that has ended is foreign
  late_foreign : (run : Run) → (of_print p run.ends ≡ [] → ⊥) → KnownOf scripts p positive run → ForeignTo p run.desk
  late_foreign run some (inl k) = k.foreign
  late_foreign run some (inr (inl k)) = absurd (some k.no_fate)
  late_foreign run some (inr (inr k)) = k.foreign

  pub clear_call : (call : DeskCall) (run : Run) → KnownOf scripts p positive run → KnownOf scripts p positive (after call run)
      → IsClear scripts p positive run → IsClear scripts p positive (after call run)
  clear_call call run before (inl k) clear = inl k.no_begin
  clear_call call run before (inr (inl k)) clear = inr (inl k)
  clear_call call run before (inr (inr k)) clear = by clear
    where
      by : IsClear scripts p positive run → IsClear scripts p positive (after call run)
      by (inl none) = coming_clear run call none k.foreign
      by (inr (inl g)) = going_clear run g call k.foreign
      by (inr (inr some)) = inr (inr (λ none. some (sym (ends_foreign scripts p positive call run (late_foreign run some before)) ∙ none)))

  -- a call
  pub held_call : (call : DeskCall) (run : Run) (lines : List Line) → MayCall call run.desk → IsPlain call run.desk →
      length (lines ++ drawn_lines (line_pulled call run.desk)) ≤ 18446744073709551615 → Held scripts p positive run lines →
      Held scripts p positive (after call run) (lines ++ drawn_lines (line_pulled call run.desk))
  held_call call run lines may plain few h =
      let desk : (after call run).desk ≡ desk_after call run.desk = desk_call call run in
      record {
        scripts_are = ap (λ (d : Data). d.scripts) desk ∙ scripts_call call run.desk ∙ h.scripts_are;
        known = known-after scripts p positive call run h.scripts_are may h.known;
        clear = clear_call call run h.known (known-after scripts p positive call run h.scripts_are may h.known) h.clear;
        marks = subst (λ (d : Data). Marked p d (lines ++ drawn_lines (line_pulled call run.desk))) (sym desk)
            (marked_call scripts p positive call run lines may plain few h);
      }
