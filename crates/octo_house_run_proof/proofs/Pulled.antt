-- The numbers that a desk keeps, over a pull.
use Rattle.std.proofs.Common.{◌≡◌, ◌⊎◌, inl, inr, ℕ, ◌+◌, ◌<◌, ◌≤◌, Bool, true, false, cond, nat_eq, codes, List, [], ◌∷◌, ◌++◌, length, drop, Option, None, Some, refl, sym, ◌∙◌, ap, subst, append-nil, arith}
use Rattle.std.proofs.lemmas.List.{length-append}
use Rattle.std.proofs.lemmas.Bool.Decides.{nat_tests}
use Rattle.job_desk.specs.Data.{Data, Line, with_script, moment_after}
use Rattle.job_desk.specs.Pull.{Drawn, draw_in_order, nothing, next_number, keep_number, issue, from_scripts, from_manual, from_poll, poll_is_due, from_probe, put_off, probe_is_due, from_file, draw_at, is_issued, settle_at, settled, pull_step, draw_last}
use Rattle.job_desk.specs.Course.{job_line}
use Rattle.job_desk.specs.Run.{is_of, print_lines}
use Rattle.job_desk.specs.declared.state.State.{State}
use Rattle.job_desk.specs.declared.state.State.TheVariants.{Offline, Connecting, Printing, Paused, Finishing, Closing, Fault}
use Rattle.job_desk.specs.declared.state.Point.{Point}
use Rattle.job_desk.specs.declared.state.Point.TheVariants as point
use Rattle.job_desk.specs.declared.state.Tag.{Tag}
use Rattle.job_desk.specs.declared.state.Tag.TheVariants.{Script, Job, Manual, Poll}
use Rattle.job_desk.proofs.Foreign.{IsNotOf}
use Rattle.octo_house_run_proof.proofs.Lists.{none_more, none_past, none_both, own_none}
use Rattle.octo_house_run_proof.proofs.Marks.{IsSame, same, moved, Marked, marked_same}
use Rattle.std.proofs.lemmas.Bool.{cond_both}
use Rattle.octo_session.proofs.Counts.{counted_by}

-- a drawn line, if there is one
abbrev pub drawn_lines : Option Line → List Line
drawn_lines None = []
drawn_lines (Some line) = line ∷ []

module _ (p : ℕ) (positive : nat_eq 0 p ≡ false) where
  abbrev Marks : Option Line → ℕ → ℕ → ℕ → Type 0
  Marks None number before after = after ≡ before
  Marks (Some line) number before after = (after ≡ number) ⊎ ((after ≡ before) × (is_of p line.tag ≡ false))

  -- a desk and a drawn line
  record Draws (d : Data) (drawn : Drawn) : Type 0 where
    issued : drawn.1.issued ≡ counted_by drawn.0 d.issued
    acked : drawn.1.acked ≡ d.acked
    greatest : drawn.1.greatest ≡ d.greatest
    state : drawn.1.state ≡ d.state
    active : drawn.1.active ≡ d.active
    marks : Marks drawn.0 (next_number d.issued) d.print_line drawn.1.print_line
    quiet : d.state ≡ Paused → d.waiting ≡ [] → (drawn.1.waiting ≡ []) × (drawn.1.print_line ≡ d.print_line)

  choose_drawn : (d : Data) (b : Bool) (x y : Drawn) → Draws d x → Draws d y → Draws d (cond b x y)
  choose_drawn d true x y hx hy = hx
  choose_drawn d false x y hx hy = hy

  draws_none : (d : Data) → Draws d (nothing d)
  draws_none d = record { issued = refl; acked = refl; greatest = refl; state = refl; active = refl; marks = refl; quiet = λ is none. (none, refl) }

  -- a desk that differs in other fields
  record IsNear (d e : Data) : Type 0 where
    issued : e.issued ≡ d.issued
    acked : e.acked ≡ d.acked
    greatest : e.greatest ≡ d.greatest
    state : e.state ≡ d.state
    active : e.active ≡ d.active
    line : e.print_line ≡ d.print_line

  -- the number of a line is kept if it is a print's
  record Keeps (tag : Tag) (number : ℕ) (x y : Data) : Type 0 where
    issued : y.issued ≡ x.issued
    acked : y.acked ≡ x.acked
    greatest : y.greatest ≡ x.greatest
    state : y.state ≡ x.state
    active : y.active ≡ x.active
    line : (y.print_line ≡ number) ⊎ ((y.print_line ≡ x.print_line) × (is_of p tag ≡ false))

  keep_script : (q : ℕ) (at : Point) (number : ℕ) (x : Data) (b : Bool) → nat_eq q 0 ≡ b
      → Keeps (Script at q) number x (cond b (record x { last_line = number }) (record x { print_line = number; last_line = number }))
  keep_script q at number x true is =
      let none : q ≡ 0 = grind (arith, nat_tests) in
      record { issued = refl; acked = refl; greatest = refl; state = refl; active = refl; line = inr (refl, ap (λ (k : ℕ). nat_eq k p) none ∙ positive) }
  keep_script q at number x false is = record { issued = refl; acked = refl; greatest = refl; state = refl; active = refl; line = inl refl }

  keeps : (tag : Tag) (number : ℕ) (x : Data) → Keeps tag number x (keep_number tag number x)
  keeps (Script at q) number x = keep_script q at number x (nat_eq q 0) refl
  keeps (Job q index) number x = record { issued = refl; acked = refl; greatest = refl; state = refl; active = refl; line = inl refl }
  keeps Manual number x = record { issued = refl; acked = refl; greatest = refl; state = refl; active = refl; line = inr (refl, refl) }
  keeps Poll number x = record { issued = refl; acked = refl; greatest = refl; state = refl; active = refl; line = inr (refl, refl) }

  draws_issue : (line : Line) (d e : Data) → IsNear d e →
      (d.state ≡ Paused → d.waiting ≡ [] → ((issue line e).1.waiting ≡ []) × ((issue line e).1.print_line ≡ d.print_line)) → Draws d (issue line e)
  draws_issue line d e near quiet =
      let counted : Data = record e { issued = next_number e.issued } in
      let k : Keeps line.tag (next_number e.issued) counted (keep_number line.tag (next_number e.issued) counted) =
      keeps line.tag (next_number e.issued) counted in
      record {
        issued = k.issued ∙ ap next_number near.issued;
        acked = k.acked ∙ near.acked;
        greatest = k.greatest ∙ near.greatest;
        state = k.state ∙ near.state;
        active = k.active ∙ near.active;
        marks = elim k.line [
          | inl is ↦ inl (is ∙ ap next_number near.issued)
          | inr other ↦ inr (other.0 ∙ near.line, other.1)
        ];
        quiet = quiet;
      }

  near : (d e : Data) → e.issued ≡ d.issued → e.acked ≡ d.acked → e.greatest ≡ d.greatest → e.state ≡ d.state → e.active ≡ d.active
      → e.print_line ≡ d.print_line → IsNear d e
  near d e issued acked greatest state active line = record { issued = issued; acked = acked; greatest = greatest; state = state; active = active; line = line }

  draws_scripts : (w : List Line) (d : Data) (next : Drawn) → d.waiting ≡ w → Draws d next → Draws d (from_scripts w d next)
  draws_scripts [] d next e h = h
  draws_scripts (line ∷ lines) d next e h =
      draws_issue line d (record d { waiting = lines }) (near d (record d { waiting = lines }) refl refl refl refl refl refl)
      (λ is none. absurd (let no : line ∷ lines ≡ [] = sym e ∙ none in cc no))

  draws_manual : (m : List (List ℕ)) (d : Data) (next : Drawn) → Draws d next → Draws d (from_manual m d next)
  draws_manual [] d next h = h
  draws_manual (text ∷ texts) d next h =
      draws_issue (record { text = text; tag = Manual }) d (record d { manual = texts }) (near d (record d { manual = texts }) refl refl refl refl refl refl)
      (λ is none. (none, refl))

  draws_poll : (moment : ℕ) (d : Data) (next : Drawn) → Draws d next → Draws d (from_poll moment d next)
  draws_poll moment d next h =
      let asked : Data = record d { poll_at = moment_after moment d.poll_ms } in
      choose_drawn d (poll_is_due moment d) (issue (record { text = codes "M105"; tag = Poll }) asked) next
      (draws_issue (record { text = codes "M105"; tag = Poll }) d asked (near d asked refl refl refl refl refl refl) (λ is none. (none, refl))) h

  draws_probe : (awaited moment : ℕ) (d : Data) → Draws d (from_probe awaited moment d)
  draws_probe awaited moment d =
      let asked : Data = put_off moment d in
      choose_drawn d (probe_is_due awaited moment d) (issue (record { text = codes "M400"; tag = Poll }) asked) (nothing d)
      (draws_issue (record { text = codes "M400"; tag = Poll }) d asked (near d asked refl refl refl refl refl refl) (λ is none. (none, refl)))
      (draws_none d)

  draws_file : (text : Option (List ℕ)) (d : Data) → d.state ≡ Printing → Draws d (from_file text d)
  draws_file None d e = draws_none d
  draws_file (Some text) d e =
      draws_issue (job_line d.greatest d.cursor text) d (record d { cursor = d.cursor + 1 })
      (near d (record d { cursor = d.cursor + 1 }) refl refl refl refl refl refl)
      (λ is none. absurd (let no : Printing ≡ Paused = sym e ∙ is in cc no))

  draws_talk : (moment : ℕ) (d : Data) (next : Drawn) → Draws d next → Draws d (draw_in_order moment d next)
  draws_talk moment d next h = draws_scripts d.waiting d _ refl (draws_manual d.manual d _ (draws_poll moment d next h))

  draws_last : (b : Bool) (moment : ℕ) (d : Data) → Draws d (draw_last b moment d)
  draws_last false moment d = draws_scripts d.waiting d _ refl (draws_probe d.last_line moment d)
  draws_last true moment d = draws_manual d.manual d (nothing d) (draws_none d)

  draws_at : (s : State) (moment : ℕ) (d : Data) → d.state ≡ s → Draws d (draw_at s moment d)
  draws_at Offline moment d e = draws_none d
  draws_at Connecting moment d e = draws_none d
  draws_at Printing moment d e = draws_talk moment d _ (draws_file _ d e)
  draws_at Closing moment d e = draws_last d.stopped moment d
  draws_at Fault moment d e = draws_none d
  draws_at _ moment d e = draws_talk moment d _ (draws_probe d.issued moment d)

  pub same_settle : (s : State) (d : Data) → IsSame d (settle_at s d)
  same_settle Printing d =
      cond_both (is_issued d) (with_script point.Done d.greatest (record d { state = Finishing })) d (λ e. IsSame d e)
      (λ _. moved d (with_script point.Done d.greatest (record d { state = Finishing })) refl refl refl refl refl (λ e. cc e)) (λ _. same d)
  same_settle _ d = same d

  one_more : (n : ℕ) → n + 1 ≤ 18446744073709551615 → next_number n ≡ n + 1
  one_more n few = omega (arith, few)

  marked_drawn : (line : Option Line) (d e : Data) (lines : List Line) → Draws d (line, e) → (d.greatest < p → IsNotOf p line) →
      length (lines ++ drawn_lines line) ≤ 18446744073709551615 → Marked p d lines → Marked p e (lines ++ drawn_lines line)
  marked_drawn None d e lines w other few m = record {
    counted = w.issued ∙ m.counted ∙ sym (ap length (append-nil lines));
    ahead = λ below. none_both p lines [] (m.ahead (subst (λ g. g < p) w.greatest below)) refl;
    marked = λ is. (
        ap (λ (n : ℕ). print_lines p (drop n (lines ++ []))) w.marks ∙ none_more p d.print_line lines [] (m.marked (sym w.greatest ∙ is)) refl);
    paused = λ is. (
        let was : d.state ≡ Paused = sym w.state ∙ is in let h = m.paused was in let q = w.quiet was h.0 in (q.0, omega (arith, h.1, q.1, w.acked)));
  }
  marked_drawn (Some line) d e lines w other few m = record {
    counted = omega (
      arith,
      w.issued,
      one_more d.issued (omega (arith, m.counted, few, length-append lines (line ∷ []))),
      m.counted,
      length-append lines
          (line ∷ []),
    );
    ahead = λ below. (
        let low : d.greatest < p = subst (λ g. g < p) w.greatest below in none_both p lines (line ∷ []) (m.ahead low) (own_none p line (other low)));
    marked = λ is. elim w.marks [
      | inl now ↦ none_past p e.print_line (lines ++ line ∷ [])
          (omega (arith, now, one_more d.issued (omega (arith, m.counted, few, length-append lines (line ∷ []))), m.counted, length-append lines (line ∷ [])))
      | inr same ↦ ap (λ (n : ℕ). print_lines p (drop n (lines ++ line ∷ []))) same.0
          ∙ none_more p d.print_line lines (line ∷ []) (m.marked (sym w.greatest ∙ is)) (own_none p line same.1)
    ];
    paused = λ is. (
        let was : d.state ≡ Paused = sym w.state ∙ is in let h = m.paused was in let q = w.quiet was h.0 in (q.0, omega (arith, h.1, q.1, w.acked)));
  }

  -- a pull
  pub marked_pull : (moment : ℕ) (d : Data) (lines : List Line) → (d.greatest < p → IsNotOf p (pull_step moment d).0) →
      length (lines ++ drawn_lines (pull_step moment d).0) ≤ 18446744073709551615 → Marked p d lines →
      Marked p (pull_step moment d).1 (lines ++ drawn_lines (pull_step moment d).0)
  marked_pull moment d lines other few m =
      let drawn : Drawn = draw_at d.state moment d in
      marked_same p drawn.1 (settled drawn.1) (lines ++ drawn_lines drawn.0) (same_settle drawn.1.state drawn.1)
      (marked_drawn drawn.0 d drawn.1 lines (draws_at d.state moment d refl) other few m)

  pub print_pull : (moment : ℕ) (d : Data) → ((pull_step moment d).1.active ≡ d.active) × ((pull_step moment d).1.greatest ≡ d.greatest)
  print_pull moment d =
      let drawn : Drawn = draw_at d.state moment d in
      let w : Draws d drawn = draws_at d.state moment d refl in
      let s : IsSame drawn.1 (settled drawn.1) = same_settle drawn.1.state drawn.1 in
      (s.active ∙ w.active, s.greatest ∙ w.greatest)

  pub acked_pull : (moment : ℕ) (d : Data) → (pull_step moment d).1.acked ≡ d.acked
  acked_pull moment d =
      let drawn : Drawn = draw_at d.state moment d in
      (same_settle drawn.1.state drawn.1).acked ∙ (draws_at d.state moment d refl).acked
