-- A print over calls, and that nothing of it is pulled after its end.
use Rattle.std.proofs.Common.{◌≡◌, inl, inr, ℕ, ◌≤◌, Bool, false, nat_eq, List, [], ◌∷◌, ◌++◌, length, Option, None, Some, refl, sym, ◌∙◌, ap, subst, append-nil, append_assoc, arith}
use Rattle.std.proofs.lemmas.List.{length-append}
use Rattle.job_desk.specs.Data.{ScriptTexts, Data, Line}
use Rattle.job_desk.specs.Run.{Fate, Run, after, run_of, print_lines, pulled_of, of_print, DeskCall, Note, MayCallAll}
use Rattle.job_desk.specs.Story.{Story, never, going, finished, stopped, left, unplugged, broken}
use Rattle.job_desk.specs.declared.state.State.TheVariants.{Connecting}
use Rattle.job_desk.specs.declared.link_fact.LinkFact.TheVariants as fact
use Rattle.job_desk.proofs.Current.{Stage}
use Rattle.job_desk.proofs.Foreign.{ForeignTo}
use Rattle.job_desk.proofs.Known.{KnownOf, known-after}
use Rattle.octo_house_rules.specs.Desk.{desk_after, desk_after_all, line_pulled, with_line, lines_pulled}
use Rattle.octo_house_rules.proofs.Runs.{desk_call}
use Rattle.octo_house_run_proof.proofs.Lists.{none_both}
use Rattle.octo_house_run_proof.proofs.Marks.{Marked}
use Rattle.octo_house_run_proof.proofs.Pulled.{drawn_lines}
use Rattle.octo_house_run_proof.proofs.PrintNoted.{marked_opened, acked_opened}
use Rattle.octo_house_run_proof.proofs.Plain.{scripts_call, IsPlain, open_by}
use Rattle.octo_house_run_proof.proofs.Others.{IsClear, Held, Status, ended_foreign, acked_up, none_pulled, ends_foreign}
use Rattle.octo_house_run_proof.proofs.Clear.{clear_call, held_call}
use Rattle.octo_house_run_proof.proofs.Ending.{status_call}

module _ (scripts : ScriptTexts) (p : ℕ) (positive : nat_eq 0 p ≡ false) where
  -- calls that may be made, and open no session
  abbrev pub ArePlain : List DeskCall → Data → Type 0
  ArePlain [] d = Unit {0}
  ArePlain (call ∷ calls) d = IsPlain call d × ArePlain calls (desk_after call d)

  abbrev pub open_by_all : List DeskCall → Bool → Bool
  open_by_all [] was = was
  open_by_all (call ∷ calls) was = open_by_all calls (open_by call was)

  with_drawn : (line : Option Line) (lines rest : List Line) → lines ++ with_line line rest ≡ (lines ++ drawn_lines line) ++ rest
  with_drawn None lines rest = ap (λ (l : List Line). l ++ rest) (sym (append-nil lines))
  with_drawn (Some line) lines rest = sym (append_assoc lines (line ∷ []) rest)

  -- what the first of some calls pulls, and that there is room for it
  record Draws (call : DeskCall) (calls : List DeskCall) (run : Run) (lines : List Line) : Type 0 where
    desk : (after call run).desk ≡ desk_after call run.desk
    whole : lines ++ lines_pulled (call ∷ calls) run.desk ≡ (lines ++ drawn_lines (line_pulled call run.desk)) ++ lines_pulled calls (after call run).desk
    short : length (lines ++ drawn_lines (line_pulled call run.desk)) ≤ 18446744073709551615
    few : length ((lines ++ drawn_lines (line_pulled call run.desk)) ++ lines_pulled calls (after call run).desk) ≤ 18446744073709551615

  draws_first : (call : DeskCall) (calls : List DeskCall) (run : Run) (lines : List Line) →
      length (lines ++ lines_pulled (call ∷ calls) run.desk) ≤ 18446744073709551615 → Draws call calls run lines
  draws_first call calls run lines few =
      let desk : (after call run).desk ≡ desk_after call run.desk = desk_call call run in
      let drawn : List Line = lines ++ drawn_lines (line_pulled call run.desk) in
      let rest : List Line = lines_pulled calls (desk_after call run.desk) in
      let whole : lines ++ lines_pulled (call ∷ calls) run.desk ≡ drawn ++ rest = with_drawn (line_pulled call run.desk) lines rest in
      let same : lines_pulled calls (after call run).desk ≡ rest = ap (λ (d : Data). lines_pulled calls d) desk in
      record {
        desk = desk;
        whole = whole ∙ sym (ap (λ (x : List Line). drawn ++ x) same);
        short = omega (arith, few, ap length whole, length-append drawn rest);
        few = omega (arith, few, ap length whole, ap (λ (x : List Line). length (drawn ++ x)) same);
      }

  -- what calls leave
  pub record Leads (run : Run) (lines : List Line) (is_open : Bool) : Type 0 where
    pub held : Held scripts p positive run lines
    pub status : Status scripts p positive (of_print p run.ends) run.desk.acked lines is_open

  pub leads_calls : (calls : List DeskCall) (run : Run) (lines : List Line) (is_open : Bool) → MayCallAll calls run → ArePlain calls run.desk →
      length (lines ++ lines_pulled calls run.desk) ≤ 18446744073709551615 → Leads run lines is_open →
      Leads (run_of calls run) (lines ++ lines_pulled calls run.desk) (open_by_all calls is_open)
  leads_calls [] run lines is_open may plain few l = subst (λ (x : List Line). Leads run x is_open) (sym (append-nil lines)) l
  leads_calls (call ∷ calls) run lines is_open may plain few l =
      let next : Run = after call run in
      let drawn : List Line = lines ++ drawn_lines (line_pulled call run.desk) in
      let draws : Draws call calls run lines = draws_first call calls run lines few in
      let first : Leads next drawn (open_by call is_open) =
      record {
        held = held_call scripts p positive call run lines may.0 plain.0 draws.short l.held;
        status =
            status_call scripts p positive call run lines is_open plain.0 l.held l.status;
      }
      in
      let last = leads_calls calls next drawn (open_by call is_open) may.1 (subst (λ (d : Data). ArePlain calls d) (sym draws.desk) plain.1) draws.few first in
      subst (λ (x : List Line). Leads (run_of calls next) x (open_by_all calls (open_by call is_open))) (sym draws.whole) last

  -- calls after the print's end: none of its lines is pulled
  pub record Passes (f : Fate) (calls : List DeskCall) (run : Run) (lines : List Line) : Type 0 where
    pub held : Held scripts p positive (run_of calls run) (lines ++ lines_pulled calls run.desk)
    pub ends : of_print p (run_of calls run).ends ≡ f ∷ []
    pub none : print_lines p (lines_pulled calls run.desk) ≡ []

  drawn_first : (line : Option Line) (rest : List Line) → with_line line rest ≡ drawn_lines line ++ rest
  drawn_first None rest = refl
  drawn_first (Some line) rest = refl

  pub passes_calls : (f : Fate) (calls : List DeskCall) (run : Run) (lines : List Line) → MayCallAll calls run → ArePlain calls run.desk →
      length (lines ++ lines_pulled calls run.desk) ≤ 18446744073709551615 → Held scripts p positive run lines → of_print p run.ends ≡ f ∷ []
      → Passes f calls run lines
  passes_calls f [] run lines may plain few h is =
      record { held = subst (λ (x : List Line). Held scripts p positive run x) (sym (append-nil lines)) h; ends = is; none = refl }
  passes_calls f (call ∷ calls) run lines may plain few h is =
      let next : Run = after call run in
      let drawn : List Line = lines ++ drawn_lines (line_pulled call run.desk) in
      let rest : List Line = lines_pulled calls (desk_after call run.desk) in
      let draws : Draws call calls run lines = draws_first call calls run lines few in
      let foreign : ForeignTo p run.desk = ended_foreign scripts p positive run f is h.known in
      let last = passes_calls f calls next drawn may.1 (subst (λ (d : Data). ArePlain calls d) (sym draws.desk) plain.1) draws.few
      (held_call scripts p positive call run lines may.0 plain.0 draws.short h)
      (ends_foreign scripts p positive call run foreign ∙ is)
      in
      record {
        held = subst (λ (x : List Line). Held scripts p positive (run_of calls next) x) (sym draws.whole) last.held;
        ends = last.ends;
        none = ap (λ (x : List Line). print_lines p x) (drawn_first (line_pulled call run.desk) rest)
            ∙ none_both p (drawn_lines (line_pulled call run.desk)) rest (none_pulled scripts p positive call run.desk foreign)
            (ap (λ (d : Data). print_lines p (lines_pulled calls d)) (sym draws.desk) ∙ last.none);
      }

  pub acked_calls : (calls : List DeskCall) (d : Data) → ArePlain calls d → d.acked ≤ (desk_after_all calls d).acked
  acked_calls [] d plain = omega arith
  acked_calls (call ∷ calls) d plain = omega (arith, acked_up scripts p positive call d plain.0, acked_calls calls (desk_after call d) plain.1)

  -- while the desk connects the print isn't going on
  pub connecting_foreign : (run : Run) → run.desk.state ≡ Connecting → KnownOf scripts p positive run → ForeignTo p run.desk
  connecting_foreign run is (inl k) = k.foreign
  connecting_foreign run is (inr (inl k)) =
      absurd (subst (λ t. Stage run.desk.scripts p k.commands t run.desk.cursor run.desk.waiting (pulled_of p run.pulled ++ print_lines p run.desk.waiting)) is
      k.current.stage)
  connecting_foreign run is (inr (inr k)) = k.foreign

  never_pulled : (begun : List (List (List ℕ))) (lines : List Line) (fates : List Fate) → Story scripts p begun lines fates → begun ≡ [] → lines ≡ []
  never_pulled _ _ _ never none = refl
  never_pulled _ _ _ (going commands lines b) none = absurd (cc none)
  never_pulled _ _ _ (finished commands lines b) none = absurd (cc none)
  never_pulled _ _ _ (stopped commands lines b) none = absurd (cc none)
  never_pulled _ _ _ (left commands lines b) none = absurd (cc none)
  never_pulled _ _ _ (unplugged commands lines b) none = absurd (cc none)
  never_pulled _ _ _ (broken commands lines b) none = absurd (cc none)

  -- and if it hasn't ended it hasn't begun
  pub connecting_none : (run : Run) (lines : List Line) → run.desk.state ≡ Connecting → of_print p run.ends ≡ [] → Held scripts p positive run lines
      → pulled_of p run.pulled ≡ []
  connecting_none run lines is no_fate h = by h.clear h.known
    where
      by : IsClear scripts p positive run → KnownOf scripts p positive run → pulled_of p run.pulled ≡ []
      by clear (inl k) = k.no_line
      by clear (inr (inl k)) =
          absurd (subst (λ t. Stage run.desk.scripts p k.commands t run.desk.cursor run.desk.waiting (pulled_of p run.pulled ++ print_lines p run.desk.waiting)) is
          k.current.stage)
      by (inl none) (inr (inr k)) = never_pulled _ _ _ k.story none
      by (inr (inl g)) (inr (inr k)) =
          absurd (subst (λ t. Stage run.desk.scripts p g.commands t run.desk.cursor run.desk.waiting (pulled_of p run.pulled ++ print_lines p run.desk.waiting)) is
          g.current.stage)
      by (inr (inr some)) (inr (inr k)) = absurd (some no_fate)

  -- a session is opened
  pub held_opened : (acked moment : ℕ) (run : Run) (lines : List Line) → Held scripts p positive run lines
      → Held scripts p positive (after (Note acked fact.Opened moment) run) []
  held_opened acked moment run lines h =
      let call : DeskCall = Note acked fact.Opened moment in
      let desk : (after call run).desk ≡ desk_after call run.desk = desk_call call run in
      let known = known-after scripts p positive call run h.scripts_are tt h.known in
      record {
        scripts_are = ap (λ (d : Data). d.scripts) desk ∙ scripts_call call run.desk ∙ h.scripts_are;
        known = known;
        clear = clear_call scripts p positive call run h.known known h.clear;
        marks = subst (λ (d : Data). Marked p d []) (sym desk) (marked_opened p positive acked moment run.desk lines h.marks);
      }

  pub ends_opened : (acked moment : ℕ) (run : Run) → ForeignTo p run.desk → of_print p (after (Note acked fact.Opened moment) run).ends ≡ of_print p run.ends
  ends_opened acked moment run f = ends_foreign scripts p positive (Note acked fact.Opened moment) run f

  pub acked_of_opened : (acked moment : ℕ) (run : Run) → (after (Note acked fact.Opened moment) run).desk.acked ≡ 0
  acked_of_opened acked moment run = ap (λ (d : Data). d.acked) (desk_call (Note acked fact.Opened moment) run) ∙ acked_opened p positive acked moment run.desk
