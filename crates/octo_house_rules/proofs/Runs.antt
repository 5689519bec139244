-- Calls at a desk: the desk after them, the lines that they pull, and whether they may be made.
use Rattle.std.proofs.Common.{◌≡◌, ℕ, Bool, true, false, List, [], ◌∷◌, ◌++◌, map, Option, None, Some, Result, Ok, Err, refl, sym, ◌∙◌, ap, subst, append_assoc}
use Rattle.std.proofs.lemmas.List.{append-nil, map-append}
use Rattle.job_desk.specs.Data.{Data, Line}
use Rattle.job_desk.specs.Note.{note_step}
use Rattle.job_desk.specs.Pull.{pull_step}
use Rattle.job_desk.specs.Table.{start_at, restart_at}
use Rattle.job_desk.specs.Run.{DeskCall, Connect, Disconnect, Select, DropFile, Start, Restart, Pause, Resume, Toggle, Cancel, Manually, Pull, Note, Pulled, Run, after, after_start, after_restart, after_pull, after_note, run_of, MayCall, MayCallAll, is_of, print_lines, pulled_of}
use Rattle.job_desk.specs.declared.link_fact.LinkFact.{LinkFact}
use Rattle.job_desk.specs.declared.state.State.{State}
use Rattle.job_desk.specs.declared.state.Refusal.{Refusal}
use Rattle.print_queue.specs.declared.ending.Ending.{Ending}
use Rattle.octo_house_rules.specs.Desk.{desk_after, desk_after_all, line_pulled, with_line, lines_pulled}

desk_start : (print : ℕ) (r : Result (Unit {0}) Refusal) (d : Data) (run : Run) → (after_start print (r, d) run).desk ≡ d
desk_start print (Ok u) d run = refl
desk_start print (Err e) d run = refl

desk_restart : (print : ℕ) (r : Result ℕ Refusal) (d : Data) (run : Run) → (after_restart print (r, d) run).desk ≡ d
desk_restart print (Ok former) d run = refl
desk_restart print (Err e) d run = refl

desk_pull : (state : State) (line : Option Line) (d : Data) (run : Run) → (after_pull state (line, d) run).desk ≡ d
desk_pull state None d run = refl
desk_pull state (Some line) d run = refl

desk_note : (fact : LinkFact) (ending : Option Ending) (d : Data) (run : Run) → (after_note fact (ending, d) run).desk ≡ d
desk_note fact None d run = refl
desk_note fact (Some ending) d run = refl

-- the desk of a run after a call
pub desk_call : (call : DeskCall) (run : Run) → (after call run).desk ≡ desk_after call run.desk
desk_call (Start print) run = desk_start print (start_at run.desk.state print run.desk).0 (start_at run.desk.state print run.desk).1 run
desk_call (Restart print) run = desk_restart print (restart_at run.desk.state print run.desk).0 (restart_at run.desk.state print run.desk).1 run
desk_call (Pull moment) run = desk_pull run.desk.state (pull_step moment run.desk).0 (pull_step moment run.desk).1 run
desk_call (Note acked fact moment) run = desk_note fact (note_step acked fact moment run.desk).0 (note_step acked fact moment run.desk).1 run
desk_call (Connect port) run = refl
desk_call Disconnect run = refl
desk_call (Select file) run = refl
desk_call (DropFile name) run = refl
desk_call Pause run = refl
desk_call Resume run = refl
desk_call Toggle run = refl
desk_call Cancel run = refl
desk_call (Manually lines) run = refl

-- calls that may be made at a desk, one after another
abbrev pub MayAll : List DeskCall → Data → Type 0
MayAll [] d = Unit {0}
MayAll (call ∷ calls) d = MayCall call d × MayAll calls (desk_after call d)

pub may_run : (calls : List DeskCall) (run : Run) → MayAll calls run.desk → MayCallAll calls run
may_run [] run m = tt
may_run (call ∷ calls) run m = (m.0, may_run calls (after call run) (subst (λ d. MayAll calls d) (sym (desk_call call run)) m.1))

pub may_append : (calls more : List DeskCall) (d : Data) → MayAll calls d → MayAll more (desk_after_all calls d) → MayAll (calls ++ more) d
may_append [] more d m n = n
may_append (call ∷ calls) more d m n = (m.0, may_append calls more (desk_after call d) m.1 n)

pub desk_append : (calls more : List DeskCall) (d : Data) → desk_after_all (calls ++ more) d ≡ desk_after_all more (desk_after_all calls d)
desk_append [] more d = refl
desk_append (call ∷ calls) more d = desk_append calls more (desk_after call d)

with-append : (line : Option Line) (lines more : List Line) → with_line line lines ++ more ≡ with_line line (lines ++ more)
with-append None lines more = refl
with-append (Some line) lines more = refl

pub lines_append : (calls more : List DeskCall) (d : Data) → lines_pulled (calls ++ more) d ≡ lines_pulled calls d ++ lines_pulled more (desk_after_all calls d)
lines_append [] more d = refl
lines_append (call ∷ calls) more d = ap (λ l. with_line (line_pulled call d) l) (lines_append calls more (desk_after call d)) ∙ sym (with-append (line_pulled call d) (lines_pulled calls (desk_after call d)) (lines_pulled more (desk_after_all calls (desk_after call d))))

-- the lines that a run pulled
abbrev pulled_lines : Run → List Line
pulled_lines run = map (λ (one : Pulled). one.line) run.pulled

none_more : (xs : List Line) → xs ≡ xs ++ []
none_more xs = sym (append-nil xs)

pulled_start : (print : ℕ) (r : Result (Unit {0}) Refusal) (d : Data) (run : Run) → pulled_lines (after_start print (r, d) run) ≡ pulled_lines run
pulled_start print (Ok u) d run = refl
pulled_start print (Err e) d run = refl

pulled_restart : (print : ℕ) (r : Result ℕ Refusal) (d : Data) (run : Run) → pulled_lines (after_restart print (r, d) run) ≡ pulled_lines run
pulled_restart print (Ok former) d run = refl
pulled_restart print (Err e) d run = refl

pulled_note : (fact : LinkFact) (ending : Option Ending) (d : Data) (run : Run) → pulled_lines (after_note fact (ending, d) run) ≡ pulled_lines run
pulled_note fact None d run = refl
pulled_note fact (Some ending) d run = refl

pulled_pull : (state : State) (line : Option Line) (d : Data) (run : Run) → pulled_lines (after_pull state (line, d) run) ≡ pulled_lines run ++ with_line line []
pulled_pull state None d run = none_more (pulled_lines run)
pulled_pull state (Some line) d run = map-append (λ (one : Pulled). one.line) run.pulled (record { line = line; state = state } ∷ [])

pulled_call : (call : DeskCall) (run : Run) → pulled_lines (after call run) ≡ pulled_lines run ++ with_line (line_pulled call run.desk) []
pulled_call (Start print) run = pulled_start print (start_at run.desk.state print run.desk).0 (start_at run.desk.state print run.desk).1 run ∙ none_more (pulled_lines run)
pulled_call (Restart print) run = pulled_restart print (restart_at run.desk.state print run.desk).0 (restart_at run.desk.state print run.desk).1 run ∙ none_more (pulled_lines run)
pulled_call (Pull moment) run = pulled_pull run.desk.state (pull_step moment run.desk).0 (pull_step moment run.desk).1 run
pulled_call (Note acked fact moment) run = pulled_note fact (note_step acked fact moment run.desk).0 (note_step acked fact moment run.desk).1 run ∙ none_more (pulled_lines run)
pulled_call (Connect port) run = none_more (pulled_lines run)
pulled_call Disconnect run = none_more (pulled_lines run)
pulled_call (Select file) run = none_more (pulled_lines run)
pulled_call (DropFile name) run = none_more (pulled_lines run)
pulled_call Pause run = none_more (pulled_lines run)
pulled_call Resume run = none_more (pulled_lines run)
pulled_call Toggle run = none_more (pulled_lines run)
pulled_call Cancel run = none_more (pulled_lines run)
pulled_call (Manually lines) run = none_more (pulled_lines run)

with-more : (line : Option Line) (before lines : List Line) → (before ++ with_line line []) ++ lines ≡ before ++ with_line line lines
with-more None before lines = ap (λ l. l ++ lines) (append-nil before)
with-more (Some line) before lines = append_assoc before (line ∷ []) lines

-- a run pulls the lines that its calls pull
pub pulled_all : (calls : List DeskCall) (run : Run) → pulled_lines (run_of calls run) ≡ pulled_lines run ++ lines_pulled calls run.desk
pulled_all [] run = none_more (pulled_lines run)
pulled_all (call ∷ calls) run =
    pulled_all calls (after call run)
    ∙ ap (λ d. pulled_lines (after call run) ++ lines_pulled calls d) (desk_call call run)
    ∙ ap (λ l. l ++ lines_pulled calls (desk_after call run.desk)) (pulled_call call run)
    ∙ with-more (line_pulled call run.desk) (pulled_lines run) (lines_pulled calls (desk_after call run.desk))

of-more : (print : ℕ) (one : Pulled) (all : List Pulled) (b : Bool) → is_of print one.line.tag ≡ b → pulled_of print all ≡ print_lines print (map (λ (x : Pulled). x.line) all) → pulled_of print (one ∷ all) ≡ print_lines print (map (λ (x : Pulled). x.line) (one ∷ all))
of-more print one all true e h = rw e (ap (λ l. one.line ∷ l) h)
of-more print one all false e h = rw e h

-- the pulled lines of a print are those among all that were pulled
pub of_pulled : (print : ℕ) (all : List Pulled) → pulled_of print all ≡ print_lines print (map (λ (x : Pulled). x.line) all)
of_pulled print [] = refl
of_pulled print (one ∷ all) = of-more print one all (is_of print one.line.tag) refl (of_pulled print all)
