-- The calls of a print on its desk.
use Rattle.std.proofs.Common.{◌≡◌, ℕ, Bool, List, [], ◌∷◌, ◌++◌, All, None, Ok, refl, sym, ◌∙◌, ap, subst, arith, append_assoc}
use Rattle.std.proofs.lemmas.List.{append-nil}
use Rattle.std.proofs.lemmas.List.Elements.{All-cons}
use Rattle.temp_rules.specs.Hot.{first_hot_of}
use Rattle.temp_rules.specs.declared.limits.Limits.{Limits}
use Rattle.job_desk.specs.Data.{Data, File, Line, ScriptTexts, new_desk, tagged, script_lines}
use Rattle.job_desk.specs.Table.{start_at, start_file, start_checked, printing, closing, disconnect_at}
use Rattle.job_desk.specs.declared.state.State.TheVariants.{Offline, Operational, Printing, Closing}
use Rattle.job_desk.specs.declared.state.Point.TheVariants as point
use Rattle.job_desk.specs.declared.state.Tag.TheVariants.{Script}
use Rattle.octo_session_print.specs.Plan.{PrintData, connected_lines, started_lines, printed_lines, done_lines, plan_lines}
use Rattle.octo_session.specs.Plan.{empty}
use Rattle.octo_session_print.specs.Underway.{standing, IsLast, IsUnderway}
use Rattle.octo_session_print.specs.Underway as phase
use Rattle.octo_session_print.specs.Progress.{after_select}
use Rattle.octo_session_print.proofs.Phases.{none_closing, connected_of, ended_of}

-- a new desk connects, and a file is selected: nothing was issued
pub new_underway : (scripts : ScriptTexts) (limits : Limits) (poll_ms : ℕ) (numbered : Bool) (port : List ℕ) (file : File)
    → IsUnderway (record { numbered = numbered; scripts = scripts; limits = limits; file = file })
    (after_select port file (new_desk scripts limits poll_ms numbered)) []
new_underway scripts limits poll_ms numbered port file = record {
  numbered_is = refl;
  scripts_are = refl;
  limits_are = refl;
  file_is = refl;
  no_manual = refl;
  unstopped = refl;
  lines = [];
  phase = phase.connecting refl (record { print_is = refl; active_is = refl });
  sent = [];
  parted = refl;
  woven = empty;
  counted = λ below. record { all = refl; print = omega arith; last = omega arith };
  by_last = λ below. empty;
  acknowledged = λ off. none_closing numbered;
}

pub select-underway : (d : Data) (port : List ℕ) (file : File) → d ≡ new_desk d.scripts d.limits d.poll_ms d.numbered
    → IsUnderway (record { numbered = d.numbered; scripts = d.scripts; limits = d.limits; file = file }) (after_select port file d) []
select-underway d port file e =
    subst (λ (x : Data). IsUnderway (record { numbered = x.numbered; scripts = x.scripts; limits = x.limits; file = file }) (after_select port file x) []) (sym e)
    (new_underway d.scripts d.limits d.poll_ms d.numbered port file)

none_printed : (p : PrintData) → printed_lines p 0 ≡ started_lines p
none_printed p = append-nil (started_lines p)

last_texts : (texts : List (List ℕ)) → All IsLast (tagged (Script point.Disconnect 0) texts)
last_texts [] = λ k d below. (let none : ⊥ = omega (arith, below) in absurd none)
last_texts (text ∷ texts) = All-cons IsLast (record { text = text; tag = Script point.Disconnect 0 }) (tagged (Script point.Disconnect 0) texts) refl
    (last_texts texts)

last_script : (p : PrintData) → All IsLast (script_lines p.scripts point.Disconnect 0)
last_script p = last_texts p.scripts.disconnect

module _ (p : PrintData) where
  -- the desk after the start of print 1
  begins : (d : Data) (issued : List (List ℕ)) → d.state ≡ Operational → d.greatest ≡ 0 → IsUnderway p d issued → IsUnderway p (printing 1 d) issued
  begins d issued at new h =
      let on = connected_of p (standing d) h.lines h.phase at new in
      let script : script_lines d.scripts point.Started 1 ≡ script_lines p.scripts point.Started 1 = ap (λ s. script_lines s point.Started 1) h.scripts_are in
      let before : h.sent ++ (d.waiting ++ script_lines d.scripts point.Started 1) ≡ started_lines p =
      sym (append_assoc h.sent d.waiting (script_lines d.scripts point.Started 1))
      ∙ ap (λ (l : List Line). l ++ script_lines d.scripts point.Started 1) (h.parted ∙ on.are) ∙ ap (λ (l : List Line). connected_lines p ++ l) script in
      record {
        numbered_is = h.numbered_is;
        scripts_are = h.scripts_are;
        limits_are = h.limits_are;
        file_is = h.file_is;
        no_manual = h.no_manual;
        unstopped = h.unstopped;
        lines = printed_lines p 0;
        phase = phase.printing (record { its_state = refl; ready_is = on.opened.ready_is }) (record { print_is = refl; active_is = refl }) (omega arith);
        sent = h.sent;
        parted = before ∙ sym (none_printed p);
        woven = h.woven;
        counted = λ below. (let c = h.counted below in record { all = c.all; print = omega arith; last = c.last });
        by_last = h.by_last;
        acknowledged = λ off. (let clash : Printing ≡ Offline = off in absurd (cc clash));
      }

  -- no command of the file is too hot, so it starts
  pub start-underway : (d : Data) (issued : List (List ℕ)) → d.state ≡ Operational → d.greatest ≡ 0
      → first_hot_of p.limits p.file.job.commands ≡ None → IsUnderway p d issued
      → (start_at d.state 1 d ≡ (Ok tt, printing 1 d)) × IsUnderway p (printing 1 d) issued
  start-underway d issued at new cool h =
      let by_state : start_at d.state 1 d ≡ start_file d.file 1 d = ap (λ s. start_at s 1 d) at in
      let by_file : start_file d.file 1 d ≡ start_checked (first_hot_of d.limits p.file.job.commands) 1 d = ap (λ f. start_file f 1 d) h.file_is in
      let allowed : first_hot_of d.limits p.file.job.commands ≡ None = ap (λ l. first_hot_of l p.file.job.commands) h.limits_are ∙ cool in
      let by_limits : start_checked (first_hot_of d.limits p.file.job.commands) 1 d ≡ (Ok tt, printing 1 d) = ap (λ hot. start_checked hot 1 d) allowed in
      (by_state ∙ by_file ∙ by_limits, begins d issued at new h)

  -- the print is over, and its connection ends
  pub disconnect-underway : (d : Data) (issued : List (List ℕ)) → d.state ≡ Operational → d.greatest ≡ 1 → IsUnderway p d issued
      → IsUnderway p (disconnect_at d.state d) issued
  disconnect-underway d issued at over h =
      let on = ended_of p (standing d) h.lines h.phase at over in
      let script : d.waiting ++ script_lines d.scripts point.Disconnect 0 ≡ script_lines p.scripts point.Disconnect 0 =
      ap (λ (w : List Line). w ++ script_lines d.scripts point.Disconnect 0) on.none ∙ ap (λ s. script_lines s point.Disconnect 0) h.scripts_are in
      let all : h.sent ≡ done_lines p = sym (append-nil h.sent) ∙ ap (λ (w : List Line). h.sent ++ w) (sym on.none) ∙ h.parted ∙ on.are in
      let closed : IsUnderway p (closing d) issued = record {
        numbered_is = h.numbered_is;
        scripts_are = h.scripts_are;
        limits_are = h.limits_are;
        file_is = h.file_is;
        no_manual = refl;
        unstopped = h.unstopped;
        lines = plan_lines p;
        phase = phase.closing (record { its_state = refl; ready_is = on.opened.ready_is })
            (record { print_is = on.free.print_is; active_is = on.free.active_is }) (subst (λ (w : List Line). All IsLast w) (sym script) (last_script p));
        sent = h.sent;
        parted = ap (λ (w : List Line). h.sent ++ w) script ∙ ap (λ (l : List Line). l ++ script_lines p.scripts point.Disconnect 0) all;
        woven = h.woven;
        counted = λ below. (let c = h.counted below in record { all = c.all; print = c.print; last = c.last });
        by_last = h.by_last;
        acknowledged = λ off. (let clash : Closing ≡ Offline = off in absurd (cc clash));
      } in
      subst (λ s. IsUnderway p (disconnect_at s d) issued) (sym at) closed
