-- What calls make of the ends of prints, and how the records keep up with them.
use Rattle.std.proofs.Common.{◌≡◌, ℕ, ◌+◌, ◌≤◌, Bool, true, false, cond, nat_eq, List, [], ◌∷◌, ◌++◌, length, Option, None, Some, Result, Ok, Err, refl, sym, ◌∙◌, ap, subst, arith, length-append}
use Rattle.std.proofs.lemmas.Bool.Decides.{nat_tests}
use Rattle.std.proofs.lemmas.List.{length-map}
use Rattle.std.proofs.lemmas.List.Sums.{fold-append}
use Rattle.job_desk.specs.Data.{Data}
use Rattle.job_desk.specs.Note.{Noted, is_over, end_at, after_ending, after_open, ready_at, leave, fail, finish, hung_up, with_acked, note_fact, note_step}
use Rattle.job_desk.specs.Run.{DeskCall, Connect, Disconnect, Select, DropFile, Start, Restart, Pause, Resume, Toggle, Cancel, Manually, Pull, Note, Fate, Left, Run, after, after_start, after_restart, after_pull, after_note, run_of, fate_of, of_print}
use Rattle.job_desk.specs.Pull.{pull_step}
use Rattle.job_desk.specs.Table.{start_at, restart_at}
use Rattle.job_desk.specs.declared.link_fact.LinkFact.{LinkFact}
use Rattle.job_desk.specs.declared.link_fact.LinkFact.TheVariants as fact
use Rattle.job_desk.specs.declared.state.State.{State}
use Rattle.job_desk.specs.declared.state.State.TheVariants.{Connecting, Operational, Pausing, Paused, Cancelling, Finishing, Fault}
use Rattle.job_desk.specs.declared.state.Refusal.{Refusal}
use Rattle.job_desk.proofs.Lines.{of_print-own, of_print-other, below_test}
use Rattle.octo_keeper.specs.Tables.{ended_row, with_end}
use Rattle.print_queue.specs.declared.ending.Ending.{Ending}
use Rattle.print_queue.specs.declared.ending.Outcome.{Outcome}
use Rattle.print_queue.specs.declared.ending.Outcome.TheVariants as outcome
use Rattle.print_queue.specs.declared.row.PrintRow.{PrintRow}
use Rattle.octo_house_rules.specs.Desk.{desk_after, desk_after_all}
use Rattle.octo_house_rules.specs.Outcomes.{outcome_of, outcome_by, HasOutcome}
use Rattle.octo_house_rules.proofs.Runs.{desk_call}

-- the ends after a restart, and after a note
abbrev pub left_by : Result ℕ Refusal → List (ℕ × Fate) → List (ℕ × Fate)
left_by (Ok former) ends = ends ++ (former, Left) ∷ []
left_by (Err refused) ends = ends

abbrev pub noted_by : LinkFact → Option Ending → List (ℕ × Fate) → List (ℕ × Fate)
noted_by found None ends = ends
noted_by found (Some ending) ends = ends ++ (ending.print, fate_of found ending.outcome) ∷ []

-- the ends after a call
abbrev pub ends_after : DeskCall → Data → List (ℕ × Fate) → List (ℕ × Fate)
ends_after (Restart print) d ends = left_by (restart_at d.state print d).0 ends
ends_after (Note acked found moment) d ends = noted_by found (note_step acked found moment d).0 ends
ends_after _ d ends = ends

abbrev pub ends_all : List DeskCall → Data → List (ℕ × Fate) → List (ℕ × Fate)
ends_all [] d ends = ends
ends_all (call ∷ calls) d ends = ends_all calls (desk_after call d) (ends_after call d ends)

pub ends_append : (calls more : List DeskCall) (d : Data) (ends : List (ℕ × Fate)) → ends_all (calls ++ more) d ends ≡ ends_all more (desk_after_all calls d) (ends_all calls d ends)
ends_append [] more d ends = refl
ends_append (call ∷ calls) more d ends = ends_append calls more (desk_after call d) (ends_after call d ends)

pub ends_start : (print : ℕ) (r : Result (Unit {0}) Refusal) (d : Data) (run : Run) → (after_start print (r, d) run).ends ≡ run.ends
ends_start print (Ok u) d run = refl
ends_start print (Err e) d run = refl

ends_restart : (print : ℕ) (r : Result ℕ Refusal) (d : Data) (run : Run) → (after_restart print (r, d) run).ends ≡ left_by r run.ends
ends_restart print (Ok former) d run = refl
ends_restart print (Err e) d run = refl

ends_pull : (state : State) (line : Option _) (d : Data) (run : Run) → (after_pull state (line, d) run).ends ≡ run.ends
ends_pull state None d run = refl
ends_pull state (Some line) d run = refl

ends_note : (found : LinkFact) (ending : Option Ending) (d : Data) (run : Run) → (after_note found (ending, d) run).ends ≡ noted_by found ending run.ends
ends_note found None d run = refl
ends_note found (Some ending) d run = refl

ends_call : (call : DeskCall) (run : Run) → (after call run).ends ≡ ends_after call run.desk run.ends
ends_call (Start print) run = ends_start print (start_at run.desk.state print run.desk).0 (start_at run.desk.state print run.desk).1 run
ends_call (Restart print) run = ends_restart print (restart_at run.desk.state print run.desk).0 (restart_at run.desk.state print run.desk).1 run
ends_call (Pull moment) run = ends_pull run.desk.state (pull_step moment run.desk).0 (pull_step moment run.desk).1 run
ends_call (Note acked found moment) run = ends_note found (note_step acked found moment run.desk).0 (note_step acked found moment run.desk).1 run
ends_call (Connect port) run = refl
ends_call Disconnect run = refl
ends_call (Select file) run = refl
ends_call (DropFile name) run = refl
ends_call Pause run = refl
ends_call Resume run = refl
ends_call Toggle run = refl
ends_call Cancel run = refl
ends_call (Manually lines) run = refl

pub ends_run : (calls : List DeskCall) (run : Run) → (run_of calls run).ends ≡ ends_all calls run.desk run.ends
ends_run [] run = refl
ends_run (call ∷ calls) run =
    ends_run calls (after call run)
    ∙ ap (λ d. ends_all calls d (after call run).ends) (desk_call call run)
    ∙ ap (λ ends. ends_all calls (desk_after call run.desk) ends) (ends_call call run)

-- a fact of each element, by recursion
abbrev pub Each : {X : Type 0} → (X → Type 0) → List X → Type 0
Each P [] = Unit {0}
Each P (x ∷ xs) = P x × Each P xs

module _ {X : Type 0} where
  each_push : (P : X → Type 0) (x : X) (xs : List X) → P x → Each P xs → Each P (xs ++ x ∷ [])
  each_push P x [] p h = (p, tt)
  each_push P x (y ∷ xs) p h = (h.0, each_push P x xs p h.1)

  each_also : (P Q : X → Type 0) (xs : List X) → ((x : X) → P x → Q x) → Each P xs → Each Q xs
  each_also P Q [] f h = tt
  each_also P Q (x ∷ xs) f h = (f x h.0, each_also P Q xs f h.1)

-- the records have the outcomes of the ends, and no end has a number above the count of records
pub record Tells (before : ℕ) (ends : List (ℕ × Fate)) (rows : List PrintRow) : Type 0 where
  pub outcomes : Each (HasOutcome before ends) rows
  pub few : Each (λ (e : ℕ × Fate). e.0 ≤ length rows) ends

none_of : (m : ℕ) (ends : List (ℕ × Fate)) → Each (λ (e : ℕ × Fate). e.0 ≤ m) ends → of_print (m + 1) ends ≡ []
none_of m [] h = refl
none_of m (e ∷ ends) h = ap (λ (b : Bool). cond b (e.1 ∷ of_print (m + 1) ends) (of_print (m + 1) ends)) (below_test e.0 (m + 1) (let le : e.0 ≤ m = h.0 in omega arith)) ∙ none_of m ends h.1

-- one more record, of a print that begins
pub tells_begin : (before : ℕ) (ends : List (ℕ × Fate)) (rows : List PrintRow) (row : PrintRow) → row.number ≡ length rows + 1 → row.outcome ≡ outcome.Active → Tells before ends rows → Tells before ends (rows ++ row ∷ [])
tells_begin before ends rows row number active t = record {
  outcomes = each_push (HasOutcome before ends) row rows (λ above. active ∙ sym (ap (λ fates. outcome_by fates) (ap (λ n. of_print n ends) number ∙ none_of (length rows) ends t.few))) t.outcomes;
  few = each_also (λ (e : ℕ × Fate). e.0 ≤ length rows) (λ (e : ℕ × Fate). e.0 ≤ length (rows ++ row ∷ [])) ends (λ e le. (let more : length (rows ++ row ∷ []) ≡ length rows + 1 = length-append rows (row ∷ []) in omega arith)) t.few;
}

last_one : (fates : List Fate) (fate : Fate) → outcome_by (fates ++ fate ∷ []) ≡ outcome_of fate
last_one fates fate = fold-append (λ (o : Outcome) (f : Fate). outcome_of f) outcome.Active fates (fate ∷ [])

turned : (a b : ℕ) (is : Bool) → nat_eq a b ≡ is → nat_eq b a ≡ is
turned a b true e = grind (arith, nat_tests)
turned a b false e = grind (arith, nat_tests)

row_end : (before : ℕ) (ends : List (ℕ × Fate)) (ending : Ending) (fate : Fate) (row : PrintRow) (b : Bool) → outcome_of fate ≡ ending.outcome → nat_eq row.number ending.print ≡ b → HasOutcome before ends row → HasOutcome before (ends ++ (ending.print, fate) ∷ []) (cond b (record row { outcome = ending.outcome }) row)
row_end before ends ending fate row true how is h = λ above. sym (ap (λ fates. outcome_by fates) (of_print-own row.number ending.print fate ends (turned row.number ending.print true is)) ∙ last_one (of_print row.number ends) fate ∙ how)
row_end before ends ending fate row false how is h = λ above. (h above ∙ sym (ap (λ fates. outcome_by fates) (of_print-other row.number ending.print fate ends (turned row.number ending.print false is))))

rows_end : (before : ℕ) (ends : List (ℕ × Fate)) (ending : Ending) (fate : Fate) (rows : List PrintRow) → outcome_of fate ≡ ending.outcome → Each (HasOutcome before ends) rows → Each (HasOutcome before (ends ++ (ending.print, fate) ∷ [])) (with_end ending rows)
rows_end before ends ending fate [] how h = tt
rows_end before ends ending fate (row ∷ rows) how h = (row_end before ends ending fate row (nat_eq row.number ending.print) how refl h.0, rows_end before ends ending fate rows how h.1)

-- one more end
pub tells_end : (before : ℕ) (ends : List (ℕ × Fate)) (ending : Ending) (fate : Fate) (rows : List PrintRow) → outcome_of fate ≡ ending.outcome → ending.print ≤ length rows → Tells before ends rows → Tells before (ends ++ (ending.print, fate) ∷ []) (with_end ending rows)
tells_end before ends ending fate rows how within t =
    let same : length (with_end ending rows) ≡ length rows = length-map rows (ended_row ending) in
    record {
      outcomes = rows_end before ends ending fate rows how t.outcomes;
      few = each_push (λ (e : ℕ × Fate). e.0 ≤ length (with_end ending rows)) (ending.print, fate) ends (subst (λ n. ending.print ≤ n) (sym same) within)
          (subst (λ n. Each (λ (e : ℕ × Fate). e.0 ≤ n) ends) (sym same) t.few);
    }

-- an end of the greatest print, with an outcome that is one
abbrev IsLast : Outcome → Type 0
IsLast how = (found : LinkFact) → outcome_of (fate_of found how) ≡ how

abbrev pub Named : ℕ → Option Ending → Type 0
Named print None = Unit {0}
Named print (Some ending) = (ending.print ≡ print) × IsLast ending.outcome

last-done : IsLast outcome.Done
last-done found = refl

last-failed : IsLast outcome.Failed
last-failed found = refl

last-cancelled : IsLast outcome.Cancelled
last-cancelled fact.Quiet = refl
last-cancelled fact.Opened = refl
last-cancelled fact.Ready = refl
last-cancelled fact.Closed = refl
last-cancelled fact.NoPort = refl
last-cancelled fact.Failed = refl
last-cancelled (fact.Ended end) = refl

-- a part of a note that names the print and leaves its number
record IsNaming (print : ℕ) (noted : Noted) : Type 0 where
  named : Named print noted.0
  same : noted.1.greatest ≡ print

naming-if : (over : Bool) (how : Outcome) (d : Data) → IsLast how → IsNaming d.greatest (cond over (finish how d) (None, d))
naming-if true how d last = record { named = (refl, last); same = refl }
naming-if false how d last = record { named = tt; same = refl }

naming-pause : (over : Bool) (d : Data) → IsNaming d.greatest (cond over (None, record d { state = Paused }) (None, d))
naming-pause true d = record { named = tt; same = refl }
naming-pause false d = record { named = tt; same = refl }

naming-end : (s : State) (d : Data) → IsNaming d.greatest (end_at s d)
naming-end Pausing d = naming-pause (is_over d) d
naming-end Cancelling d = naming-if (is_over d) outcome.Cancelled d last-cancelled
naming-end Finishing d = naming-if (is_over d) outcome.Done d last-done
naming-end _ d = record { named = tt; same = refl }

named-leave : (active : Bool) (how : Outcome) (print : ℕ) → IsLast how → Named print (cond active (Some (record { print = print; outcome = how })) None)
named-leave true how print last = (refl, last)
named-leave false how print last = tt

named-fail : (print : ℕ) (noted : Noted) → IsNaming print noted → Named print (fail noted).0
named-fail print (None, d) n = subst (λ p. Named p (leave Fault outcome.Failed d).0) n.same (named-leave d.active outcome.Failed d.greatest last-failed)
named-fail print (Some ending, d) n = n.named

named-ready : (s : State) (moment : ℕ) (d : Data) → IsNaming d.greatest (after_ending (ready_at s moment d))
named-ready Connecting moment d = naming-end Operational (ready_at Connecting moment d)
named-ready _ moment d = naming-end d.state d

named-closed : (stopped : Bool) (d : Data) → Named d.greatest (hung_up stopped d).0
named-closed false d = named-leave d.active outcome.Cancelled d.greatest last-cancelled
named-closed true d = named-leave d.active outcome.Failed d.greatest last-failed

named-fact : (found : LinkFact) (moment : ℕ) (d : Data) → Named d.greatest (note_fact found moment d).0
named-fact fact.Quiet moment d = (naming-end d.state d).named
named-fact fact.Opened moment d = (naming-end d.state (after_open d)).named
named-fact fact.Ready moment d = (named-ready d.state moment (record d { ready = true })).named
named-fact fact.Closed moment d = named-closed d.stopped d
named-fact fact.NoPort moment d = named-leave d.active outcome.Failed d.greatest last-failed
named-fact fact.Failed moment d = named-fail d.greatest (after_ending d) (naming-end d.state d)
named-fact (fact.Ended end) moment d = named-fail d.greatest (after_ending d) (naming-end d.state d)

-- a note ends only the greatest print
pub named_note : (acked : ℕ) (found : LinkFact) (moment : ℕ) (d : Data) → Named d.greatest (note_step acked found moment d).0
named_note acked found moment d = named-fact found moment (with_acked acked moment d)

-- a restart that is done leaves the greatest print
pub restart_leaves : (s : State) (print former : ℕ) (d : Data) → (restart_at s print d).0 ≡ Ok former → former ≡ d.greatest
restart_leaves Paused print former d e = cc
restart_leaves _ print former d e = absurd (cc)
