-- The plan's lines aren't polls.
use Rattle.std.proofs.Common.{◌≡◌, ℕ, ◌+◌, List, [], ◌∷◌, ◌++◌, All, refl, sym, ◌∙◌, ap, subst, arith, append_assoc}
use Rattle.std.proofs.lemmas.List.Elements.{All-append, All-cons, All-head, All-tail}
use Rattle.job_desk.specs.Data.{Data, Line, ScriptTexts, tagged, script_lines}
use Rattle.job_desk.specs.Course.{job_line}
use Rattle.job_desk.specs.Plain.{numbered}
use Rattle.job_desk.specs.declared.state.Point.{Point}
use Rattle.job_desk.specs.declared.state.Point.TheVariants as point
use Rattle.job_desk.specs.declared.state.Tag.TheVariants.{Script}
use Rattle.octo_session.specs.Plan.{IsPart}
use Rattle.octo_session_print.specs.Plan.{PrintData, print_commands, connected_lines, started_lines, done_lines, plan_lines}
use Rattle.octo_session_print.specs.Underway.{standing, IsUnderway}
use Rattle.octo_session_print.specs.Remaining.{planned_tag}
use Rattle.octo_session_print.proofs.Phases.{in_plan}

abbrev IsPlanned : Line → Type 0
IsPlanned line = planned_tag line.tag ≡ 1

all_script : (at : Point) (print : ℕ) (texts : List (List ℕ)) → All IsPlanned (tagged (Script at print) texts)
all_script at print [] = λ k d below. (let none : ⊥ = omega (arith, below) in absurd none)
all_script at print (text ∷ texts) = All-cons IsPlanned (record { text = text; tag = Script at print }) (tagged (Script at print) texts) refl
    (all_script at print texts)

all_commands : (index : ℕ) (texts : List (List ℕ)) → All IsPlanned (numbered 1 index texts)
all_commands index [] = λ k d below. (let none : ⊥ = omega (arith, below) in absurd none)
all_commands index (text ∷ texts) = All-cons IsPlanned (job_line 1 index text) (numbered 1 (index + 1) texts) refl (all_commands (index + 1) texts)

all_planned : (p : PrintData) → All IsPlanned (plan_lines p)
all_planned p =
    let s : ScriptTexts = p.scripts in
    let started : All IsPlanned (started_lines p) = All-append IsPlanned (connected_lines p) (script_lines s point.Started 1)
    (all_script point.Connected 0 s.connected) (all_script point.Started 1 s.started) in
    let printed : All IsPlanned (started_lines p ++ numbered 1 0 (print_commands p)) =
    All-append IsPlanned (started_lines p) (numbered 1 0 (print_commands p)) started (all_commands 0 (print_commands p)) in
    let done : All IsPlanned (done_lines p) = All-append IsPlanned (started_lines p ++ numbered 1 0 (print_commands p))
    (script_lines s point.Done 1) printed (all_script point.Done 1 s.done) in
    All-append IsPlanned (done_lines p) (script_lines s point.Disconnect 0) done (all_script point.Disconnect 0 s.disconnect)

-- a line in the middle of such lines is one
middle : (xs : List Line) (line : Line) (ys : List Line) → All IsPlanned (xs ++ line ∷ ys) → IsPlanned line
middle [] line ys all = All-head IsPlanned line ys all
middle (x ∷ xs) line ys all = middle xs line ys (All-tail IsPlanned x (xs ++ line ∷ ys) all)

pub waiting_planned : (p : PrintData) (d : Data) (issued : List (List ℕ)) (line : Line) (rest : List Line) → IsUnderway p d issued
    → d.waiting ≡ line ∷ rest → IsPlanned line
waiting_planned p d issued line rest h e =
    let part : IsPart h.lines (plan_lines p) = in_plan p (standing d) h.lines h.phase in
    let whole : h.sent ++ line ∷ (rest ++ part.rest) ≡ plan_lines p =
    sym (append_assoc h.sent (line ∷ rest) part.rest) ∙ ap (λ (w : List Line). h.sent ++ w ++ part.rest) (sym e)
    ∙ ap (λ (l : List Line). l ++ part.rest) h.parted ∙ part.joined in
    middle h.sent line (rest ++ part.rest) (subst (λ (l : List Line). All IsPlanned l) (sym whole) (all_planned p))
