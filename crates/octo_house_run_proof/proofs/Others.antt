-- A print over a call: what it sees of others.
use Rattle.std.proofs.Common.{◌≡◌, ◌⊎◌, inl, inr, ℕ, ◌<◌, ◌≤◌, Bool, false, nat_eq, List, [], ◌∷◌, ◌++◌, length, drop, Option, None, Some, refl, sym, ◌∙◌, ap, subst, append-nil, arith}
use Rattle.job_desk.specs.Data.{ScriptTexts, Data, Line}
use Rattle.job_desk.specs.Table.{start_at, restart_at}
use Rattle.job_desk.specs.Pull.{pull_step}
use Rattle.job_desk.specs.Note.{note_step}
use Rattle.job_desk.specs.Run.{Fate, Left, Unplugged, Broken, Run, after, after_restart, after_pull, after_note, print_lines, pulled_of, of_print, DeskCall, Connect, Disconnect, Select, DropFile, Start, Restart, Pause, Resume, Toggle, Cancel, Manually, Pull, Note, MayCall}
use Rattle.job_desk.specs.declared.state.State.{State}
use Rattle.job_desk.specs.declared.state.State.TheVariants.{Paused}
use Rattle.job_desk.specs.declared.link_fact.LinkFact.{LinkFact}
use Rattle.print_queue.specs.declared.ending.Ending.{Ending}
use Rattle.job_desk.proofs.Foreign.{ForeignTo, IsIdle, IsNotOf, IsNoEndOf, foreign-pull, foreign-note}
use Rattle.job_desk.proofs.Known.{Going, KnownOf}
use Rattle.job_desk.proofs.Lines.{of_print-other}
use Rattle.octo_house_rules.specs.Desk.{desk_after, line_pulled}
use Rattle.octo_house_rules.specs.Legal.{up_after}
use Rattle.octo_house_run_proof.proofs.Lists.{none_more, none_later, own_none}
use Rattle.octo_house_run_proof.proofs.Marks.{Marked, marked_request, acked_request}
use Rattle.octo_house_run_proof.proofs.Pulled.{drawn_lines, marked_pull, acked_pull}
use Rattle.octo_house_run_proof.proofs.PrintNoted.{marked_note, acked_note}
use Rattle.octo_house_run_proof.proofs.Plain.{IsPlain, open_by, shut_by}
use Rattle.octo_house_rules.proofs.Fates.{ends_start}

module _ (scripts : ScriptTexts) (p : ℕ) (positive : nat_eq 0 p ≡ false) where
  -- the print hasn't begun, is going on, or has ended
  abbrev pub IsClear : Run → Type 0
  IsClear run =
      (of_print p run.begun ≡ [])
      ⊎ (Going scripts p positive run.desk (of_print p run.begun) (pulled_of p run.pulled) (of_print p run.ends) ⊎ (of_print p run.ends ≡ [] → ⊥))

  -- a run, and the lines of its last session
  pub record Held (run : Run) (lines : List Line) : Type 0 where
    pub scripts_are : run.desk.scripts ≡ scripts
    pub known : KnownOf scripts p positive run
    pub marks : Marked p run.desk lines
    pub clear : IsClear run

  -- what an ended print leaves: all its lines are acknowledged, or no session is open
  abbrev pub LeftSo : Fate → ℕ → List Line → Bool → Type 0
  LeftSo Unplugged acked lines is_open = is_open ≡ false
  LeftSo Broken acked lines is_open = is_open ≡ false
  LeftSo _ acked lines is_open = print_lines p (drop acked lines) ≡ []

  -- the print hasn't ended, or has ended so
  abbrev pub Status : List Fate → ℕ → List Line → Bool → Type 0
  Status fates acked lines is_open = (fates ≡ []) ⊎ ((f : Fate) × (fates ≡ f ∷ []) × LeftSo f acked lines is_open)

  -- it stays so
  pub left_on : (f : Fate) (acked later : ℕ) (lines more : List Line) (was now : Bool) → acked ≤ later → print_lines p more ≡ [] → (was ≡ false → now ≡ false) →
      LeftSo f acked lines was → LeftSo f later (lines ++ more) now
  left_on Unplugged acked later lines more was now below none shut l = shut l
  left_on Broken acked later lines more was now below none shut l = shut l
  left_on _ acked later lines more was now below none shut l = none_later p acked later (lines ++ more) below (none_more p acked lines more l none)

  -- a print that has ended is touched by no call
  pub ended_foreign : (run : Run) (f : Fate) → of_print p run.ends ≡ f ∷ [] → KnownOf scripts p positive run → ForeignTo p run.desk
  ended_foreign run f is (inl k) = k.foreign
  ended_foreign run f is (inr (inl k)) = absurd (let no : f ∷ [] ≡ [] = sym is ∙ k.no_fate in cc no)
  ended_foreign run f is (inr (inr k)) = k.foreign

  -- a print to come isn't pulled
  other_ahead : (moment : ℕ) (run : Run) → KnownOf scripts p positive run → run.desk.greatest < p → IsNotOf p (pull_step moment run.desk).0
  other_ahead moment run (inl k) below = (foreign-pull p moment run.desk k.foreign).1
  other_ahead moment run (inr (inl k)) below = absurd (let same : run.desk.greatest ≡ p = k.current.is in omega (arith, same, below))
  other_ahead moment run (inr (inr k)) below = absurd (omega (arith, k.passed, below))

  none_new : (d e : Data) (lines : List Line) → Marked p e lines → Marked p e (lines ++ [])
  none_new d e lines m = subst (λ (l : List Line). Marked p e l) (sym (append-nil lines)) m

  pub marked_call : (call : DeskCall) (run : Run) (lines : List Line) → MayCall call run.desk → IsPlain call run.desk →
      length (lines ++ drawn_lines (line_pulled call run.desk)) ≤ 18446744073709551615 → Held run lines →
      Marked p (desk_after call run.desk) (lines ++ drawn_lines (line_pulled call run.desk))
  marked_call (Pull moment) run lines may plain few h = marked_pull p positive moment run.desk lines (other_ahead moment run h.known) few h.marks
  marked_call (Note acked f moment) run lines may plain few h =
      none_new run.desk _ lines (marked_note p positive acked f moment run.desk lines plain.0 plain.1 h.marks)
  marked_call (Connect port) run lines may plain few h = none_new run.desk _ lines (marked_request p (Connect port) run.desk lines tt may h.marks)
  marked_call Disconnect run lines may plain few h = none_new run.desk _ lines (marked_request p Disconnect run.desk lines tt may h.marks)
  marked_call (Select file) run lines may plain few h = none_new run.desk _ lines (marked_request p (Select file) run.desk lines tt may h.marks)
  marked_call (DropFile name) run lines may plain few h = none_new run.desk _ lines (marked_request p (DropFile name) run.desk lines tt may h.marks)
  marked_call (Start q) run lines may plain few h = none_new run.desk _ lines (marked_request p (Start q) run.desk lines tt may h.marks)
  marked_call (Restart q) run lines may plain few h = none_new run.desk _ lines (marked_request p (Restart q) run.desk lines tt may h.marks)
  marked_call Pause run lines may plain few h = none_new run.desk _ lines (marked_request p Pause run.desk lines tt may h.marks)
  marked_call Resume run lines may plain few h = none_new run.desk _ lines (marked_request p Resume run.desk lines tt may h.marks)
  marked_call Toggle run lines may plain few h = none_new run.desk _ lines (marked_request p Toggle run.desk lines tt may h.marks)
  marked_call Cancel run lines may plain few h = none_new run.desk _ lines (marked_request p Cancel run.desk lines tt may h.marks)
  marked_call (Manually texts) run lines may plain few h = none_new run.desk _ lines (marked_request p (Manually texts) run.desk lines tt may h.marks)

  pub acked_up : (call : DeskCall) (d : Data) → IsPlain call d → d.acked ≤ (desk_after call d).acked
  acked_up (Pull moment) d plain = omega (arith, acked_pull p positive moment d)
  acked_up (Note acked f moment) d plain = omega (arith, acked_note p positive acked f moment d plain.0, plain.1)
  acked_up (Connect port) d plain = omega (arith, acked_request (Connect port) d tt)
  acked_up Disconnect d plain = omega (arith, acked_request Disconnect d tt)
  acked_up (Select file) d plain = omega (arith, acked_request (Select file) d tt)
  acked_up (DropFile name) d plain = omega (arith, acked_request (DropFile name) d tt)
  acked_up (Start q) d plain = omega (arith, acked_request (Start q) d tt)
  acked_up (Restart q) d plain = omega (arith, acked_request (Restart q) d tt)
  acked_up Pause d plain = omega (arith, acked_request Pause d tt)
  acked_up Resume d plain = omega (arith, acked_request Resume d tt)
  acked_up Toggle d plain = omega (arith, acked_request Toggle d tt)
  acked_up Cancel d plain = omega (arith, acked_request Cancel d tt)
  acked_up (Manually texts) d plain = omega (arith, acked_request (Manually texts) d tt)

  pub shut_call : (call : DeskCall) (d : Data) → IsPlain call d → (was : Bool) → was ≡ false → open_by call was ≡ false
  shut_call (Note acked f moment) d plain was is = ap (λ (b : Bool). up_after f b) is ∙ shut_by f plain.0
  shut_call _ d plain was is = is

  none_drawn : (line : Option Line) → IsNotOf p line → print_lines p (drawn_lines line) ≡ []
  none_drawn None other = refl
  none_drawn (Some line) other = own_none p line other

  -- what a foreign print sees of a call: none of its lines, and no end
  pub none_pulled : (call : DeskCall) (d : Data) → ForeignTo p d → print_lines p (drawn_lines (line_pulled call d)) ≡ []
  none_pulled (Pull moment) d f = none_drawn (pull_step moment d).0 (foreign-pull p moment d f).1
  none_pulled _ d f = refl

  pub ends_pulled : (state : State) (line : Option Line) (d : Data) (run : Run) → (after_pull state (line, d) run).ends ≡ run.ends
  ends_pulled state None d run = refl
  ends_pulled state (Some line) d run = refl

  ends_noted : (f : LinkFact) (ending : Option Ending) (d : Data) (run : Run) → IsNoEndOf p ending
      → of_print p (after_note f (ending, d) run).ends ≡ of_print p run.ends
  ends_noted f None d run none = refl
  ends_noted f (Some ending) d run none = of_print-other p ending.print _ run.ends none

  -- a paused print is another one
  other_paused : (d : Data) → d.state ≡ Paused → ForeignTo p d → nat_eq d.greatest p ≡ false
  other_paused d is f = elim f.other [ inl o ↦ o | inr o ↦ absurd (subst IsIdle is o.1) ]

  ends_left : (s : State) (q : ℕ) (run : Run) → run.desk.state ≡ s → ForeignTo p run.desk
      → of_print p (after_restart q (restart_at s q run.desk) run).ends ≡ of_print p run.ends
  ends_left Paused q run is f = of_print-other p run.desk.greatest Left run.ends (other_paused run.desk is f)
  ends_left _ q run is f = refl

  pub ends_foreign : (call : DeskCall) (run : Run) → ForeignTo p run.desk → of_print p (after call run).ends ≡ of_print p run.ends
  ends_foreign (Restart q) run f = ends_left run.desk.state q run refl f
  ends_foreign (Note acked g moment) run f =
      ends_noted g (note_step acked g moment run.desk).0 (note_step acked g moment run.desk).1 run (foreign-note p positive acked g moment run.desk f).1
  ends_foreign (Pull moment) run f = ap (of_print p) (ends_pulled run.desk.state (pull_step moment run.desk).0 (pull_step moment run.desk).1 run)
  ends_foreign (Start q) run f = ap (of_print p) (ends_start q (start_at run.desk.state q run.desk).0 (start_at run.desk.state q run.desk).1 run)
  ends_foreign _ run f = refl
