-- The run of the desk that a legal history records.
use Rattle.std.proofs.Common.{◌≡◌, ℕ, ◌≤◌, Bool, true, false, List, [], ◌∷◌, ◌++◌, length, map, All, Option, None, Some, refl, sym, ◌∙◌, ap, subst, arith}
use Rattle.std.proofs.lemmas.List.{length-map}
use Rattle.std.proofs.lemmas.List.Elements.{All-nil, All-cons, All-head, All-tail}
use Rattle.temp_rules.specs.declared.limits.Limits.{Limits}
use Rattle.job_desk.specs.Data.{ScriptTexts, Data, Line, new_desk}
use Rattle.job_desk.specs.Note.{note_step, first_fact}
use Rattle.job_desk.specs.Run.{Fate, fate_of, DeskCall, Pull, Note, new_run, run_of, print_lines, pulled_of, of_print, MayCall}
use Rattle.job_desk.specs.Story.{Story, HasStories}
use Rattle.job_desk.specs.declared.issued.Issued.{Issued}
use Rattle.job_desk.specs.declared.issued.Note as declared_note
use Rattle.job_desk.specs.declared.link_fact.LinkFact.{LinkFact}
use Rattle.job_desk.specs.declared.link_fact.LinkFact.TheVariants as fact
use Rattle.job_desk.proofs.Runs.{every_run}
use Rattle.job_desk.proofs.Steady.{Steady, steady-pull, steady-note}
use Rattle.octo_keeper.specs.Tables.{with_due_end, ended_row}
use Rattle.octo_asks.specs.Rights.{needed}
use Rattle.octo_asks.specs.History.{History}
use Rattle.octo_asks.specs.declared.answer.Answer.{Answer}
use Rattle.octo_asks.specs.declared.entry.Entry.{Entry}
use Rattle.octo_asks.specs.declared.entry.Entry.TheVariants as entry
use Rattle.print_queue.specs.declared.ending.Ending.{Ending}
use Rattle.print_queue.specs.declared.row.PrintRow.{PrintRow}
use Rattle.octo_house_rules.specs.Answers.{verdict}
use Rattle.octo_house_rules.specs.Desk.{desk_after, desk_after_all, lines_pulled, ended_by}
use Rattle.octo_house_rules.specs.Known.{Known}
use Rattle.octo_house_rules.specs.Verdict.{Verdict, is_fault, after, calls_after}
use Rattle.octo_house_rules.specs.Issued.{issued_in, lines_at, trace}
use Rattle.octo_house_rules.specs.Legal.{Standing, after_entry, after_all, IsLegal, Legal}
use Rattle.octo_house_rules.specs.Outcomes.{HasOutcome, EveryHistoryKeepsOutcomes}
use Rattle.octo_house_rules.specs.Noted.{calls_of, known_after_call, known_after_calls, last_call, known_after_note, lines_in}
use Rattle.octo_house_rules.specs.Scripts.{calls_at, calls_of_all, HasScripts, EveryHistoryKeepsScripts}
use Rattle.octo_house_rules.proofs.Asked.{asks_play}
use Rattle.octo_house_rules.proofs.Fates.{noted_by, ends_after, ends_all, ends_append, ends_run, Each, Tells, tells_end, Named, named_note}
use Rattle.octo_house_rules.proofs.Played.{IsNumbered, Led, led}
use Rattle.octo_house_rules.proofs.Runs.{MayAll, may_run, may_append, pulled_all, of_pulled, lines_append}

-- what an entry makes of the desk, the lines that it pulls, and the numbers of prints
pub record Joined (calls : List DeskCall) (lines : List Line) (k l : Known) : Type 0 where
  pub desk : l.desk ≡ desk_after_all calls k.desk
  pub pulls : lines_pulled calls k.desk ≡ lines
  pub may : MayAll calls k.desk
  pub numbered : IsNumbered l
  pub told : (before : ℕ) (ends : List (ℕ × Fate)) → Tells before ends k.prints → Tells before (ends_all calls k.desk ends) l.prints

joined_call : (fault : Bool) (v : Verdict) (k : Known) (x : Answer) → is_fault x ≡ fault → IsNumbered k → Led v k x → Joined (calls_after v x) [] k (after v k x)
joined_call true v k x e n h = rw e (record { desk = refl; pulls = refl; may = tt; numbered = n; told = λ before ends t. t })
joined_call false v k x e n h = rw e (record { desk = h.desk; pulls = h.silent; may = h.may; numbered = h.numbered; told = h.told })

-- calls at a noted desk leave the greatest print
data Noting : DeskCall → Type 0 where
  pull : (moment : ℕ) → Noting (Pull moment)
  note : (acked : ℕ) (fact : LinkFact) (moment : ℕ) → Noting (Note acked fact moment)

data AllNoting : List DeskCall → Type 0 where
  none : AllNoting []
  more : (call : DeskCall) (calls : List DeskCall) → Noting call → AllNoting calls → AllNoting (call ∷ calls)

noting_steady : (call : DeskCall) (d : Data) → Noting call → Steady d (desk_after call d)
noting_steady call d (pull moment) = steady-pull moment d
noting_steady call d (note acked fact moment) = steady-note acked fact moment d

noting_may : (call : DeskCall) (d : Data) → Noting call → MayCall call d
noting_may call d (pull moment) = tt
noting_may call d (note acked fact moment) = tt

noting_may_all : (calls : List DeskCall) (d : Data) → AllNoting calls → MayAll calls d
noting_may_all calls d none = tt
noting_may_all calls d (more call rest one all) = (noting_may call d one, noting_may_all rest (desk_after call d) all)

pub as_many : (ending : Option Ending) (rows : List PrintRow) → length (with_due_end ending rows) ≡ length rows
as_many None rows = refl
as_many (Some ending) rows = length-map rows (ended_row ending)

called_numbered : (call : DeskCall) (k : Known) → Noting call → IsNumbered k → IsNumbered (known_after_call call k)
called_numbered call k one n =
    subst (λ count. (desk_after call k.desk).greatest ≤ count) (sym (as_many (ended_by call k.desk) k.prints)) (subst (λ g. g ≤ length k.prints) (sym (noting_steady call k.desk one).greatest) n)

pub called_desk : (calls : List DeskCall) (k : Known) → (known_after_calls calls k).desk ≡ desk_after_all calls k.desk
called_desk [] k = refl
called_desk (call ∷ calls) k = called_desk calls (known_after_call call k)

called_all_numbered : (calls : List DeskCall) (k : Known) → AllNoting calls → IsNumbered k → IsNumbered (known_after_calls calls k)
called_all_numbered calls k none n = n
called_all_numbered calls k (more call rest one all) n = called_all_numbered rest (known_after_call call k) all (called_numbered call k one n)

told_note : (found : LinkFact) (ending : Option Ending) (print before : ℕ) (ends : List (ℕ × Fate)) (rows : List PrintRow) → Named print ending → print ≤ length rows → Tells before ends rows → Tells before (noted_by found ending ends) (with_due_end ending rows)
told_note found None print before ends rows named n t = t
told_note found (Some ending) print before ends rows named n t = tells_end before ends ending (fate_of found ending.outcome) rows (named.1 found) (subst (λ p. p ≤ length rows) (sym named.0) n) t

called_told : (call : DeskCall) (k : Known) → Noting call → IsNumbered k → (before : ℕ) (ends : List (ℕ × Fate)) → Tells before ends k.prints → Tells before (ends_after call k.desk ends) (known_after_call call k).prints
called_told call k (pull moment) n before ends t = t
called_told call k (note acked found moment) n before ends t = told_note found (note_step acked found moment k.desk).0 k.desk.greatest before ends k.prints (named_note acked found moment k.desk) n t

called_all_told : (calls : List DeskCall) (k : Known) → AllNoting calls → IsNumbered k → (before : ℕ) (ends : List (ℕ × Fate)) → Tells before ends k.prints → Tells before (ends_all calls k.desk ends) (known_after_calls calls k).prints
called_all_told calls k none n before ends t = t
called_all_told calls k (more call rest one all) n before ends t = called_all_told rest (known_after_call call k) all (called_numbered call k one n) before (ends_after call k.desk ends) (called_told call k one n before ends t)

pulls_noting : (moment : ℕ) (issued : List Issued) (last : List DeskCall) → AllNoting last → AllNoting (map (λ one. Pull moment) issued ++ last)
pulls_noting moment [] last all = all
pulls_noting moment (one ∷ issued) last all = more (Pull moment) _ (pull moment) (pulls_noting moment issued last all)

last_noting : (found : LinkFact) (acked moment : ℕ) → AllNoting (last_call found acked moment)
last_noting fact.Failed acked moment = more _ [] (note acked fact.Failed moment) none
last_noting fact.Quiet acked moment = none
last_noting fact.Opened acked moment = none
last_noting fact.Ready acked moment = none
last_noting fact.Closed acked moment = none
last_noting fact.NoPort acked moment = none
last_noting (fact.Ended end) acked moment = none

noting : (said : declared_note.Note) → AllNoting (calls_of said)
noting said = more _ _ (note said.acked (first_fact said.fact) said.moment) (pulls_noting said.moment said.issued.items (last_call said.fact said.acked said.moment) (last_noting said.fact said.acked said.moment))

joined_note : (said : declared_note.Note) (k : Known) → IsNumbered k → lines_pulled (calls_of said) k.desk ≡ lines_in said → Joined (calls_of said) (lines_in said) k (known_after_note said k)
joined_note said k n h = record {
  desk = called_desk (calls_of said) k;
  pulls = h;
  may = noting_may_all (calls_of said) k.desk (noting said);
  numbered = called_all_numbered (calls_of said) k (noting said) n;
  told = called_all_told (calls_of said) k (noting said) n;
}

pub joined_entry : (e : Entry) (s : Standing) → IsLegal e s → IsNumbered s.known → Joined (calls_at e s) (lines_at e) s.known (after_entry e s).known
joined_entry (entry.Call worker ask moment x) s l n =
    joined_call (is_fault x) (verdict ask s.files s.known) s.known x refl n (led (verdict ask s.files s.known) s.known x n (asks_play (needed ask.request) ask.key ask.request s.files s.known n))
joined_entry (entry.Note said) s l n = joined_note said s.known n l.1.lines
joined_entry entry.Close s l n = record { desk = refl; pulls = refl; may = tt; numbered = n; told = λ before ends t. t }

joined_all : (h : History) (s : Standing) → Legal h s → IsNumbered s.known → MayAll (calls_of_all h s) s.known.desk × (lines_pulled (calls_of_all h s) s.known.desk ≡ issued_in h)
joined_all [] s l n = (tt, refl)
joined_all (e ∷ es) s l n =
    let j : Joined (calls_at e s) (lines_at e) s.known (after_entry e s).known = joined_entry e s l.0 n in
    let rest : MayAll (calls_of_all es (after_entry e s)) (after_entry e s).known.desk × (lines_pulled (calls_of_all es (after_entry e s)) (after_entry e s).known.desk ≡ issued_in es) = joined_all es (after_entry e s) l.1 j.numbered in (
      may_append (calls_at e s) (calls_of_all es (after_entry e s)) s.known.desk j.may (subst (λ d. MayAll (calls_of_all es (after_entry e s)) d) j.desk rest.0),
      lines_append (calls_at e s) (calls_of_all es (after_entry e s)) s.known.desk
          ∙ ap (λ lines. lines ++ lines_pulled (calls_of_all es (after_entry e s)) (desk_after_all (calls_at e s) s.known.desk)) j.pulls
          ∙ ap (λ d. lines_at e ++ lines_pulled (calls_of_all es (after_entry e s)) d) (sym j.desk)
          ∙ ap (λ lines. lines_at e ++ lines) rest.1,
    )

-- calls that may be made at a new desk, and that pull the lines of a history
pub scripts_of : (scripts : ScriptTexts) (limits : Limits) (poll_ms : ℕ) (numbered : Bool) (calls : List DeskCall) (d : Data) (h : History) → d ≡ new_desk scripts limits poll_ms numbered
    → MayAll calls d → lines_pulled calls d ≡ issued_in h → HasScripts scripts (run_of calls (new_run d)) h
scripts_of scripts limits poll_ms numbered calls d h e may pulls =
    let t : HasStories scripts (run_of calls (new_run d)) =
    subst (λ x. HasStories scripts (run_of calls (new_run x))) (sym e) (every_run scripts limits poll_ms numbered calls (may_run calls (new_run (new_desk scripts limits poll_ms numbered)) (subst (λ x. MayAll calls x) e may))) in
    record {
      stories = λ print positive. (
          let same : pulled_of print (run_of calls (new_run d)).pulled ≡ trace print h = of_pulled print (run_of calls (new_run d)).pulled ∙ ap (λ lines. print_lines print lines) (pulled_all calls (new_run d) ∙ pulls) in
          subst (λ lines. Story scripts print (of_print print (run_of calls (new_run d)).begun) lines (of_print print (run_of calls (new_run d)).ends)) same (t.stories print positive)
          );
      only_printing = t.only_printing;
    }

-- a new desk has no number above the count of records
pub new_numbered : (scripts : ScriptTexts) (limits : Limits) (poll_ms : ℕ) (numbered : Bool) (k : Known) → k.desk ≡ new_desk scripts limits poll_ms numbered → IsNumbered k
new_numbered scripts limits poll_ms numbered k e = subst (λ (d : Data). d.greatest ≤ length k.prints) (sym e) (omega arith)

pub keeps_scripts : EveryHistoryKeepsScripts
keeps_scripts scripts limits poll_ms numbered h s e l =
    let j : MayAll (calls_of_all h s) s.known.desk × (lines_pulled (calls_of_all h s) s.known.desk ≡ issued_in h) = joined_all h s l (new_numbered scripts limits poll_ms numbered s.known e) in
    scripts_of scripts limits poll_ms numbered (calls_of_all h s) s.known.desk h e j.0 j.1

told_all : (h : History) (s : Standing) → Legal h s → IsNumbered s.known → (before : ℕ) (ends : List (ℕ × Fate)) → Tells before ends s.known.prints → Tells before (ends_all (calls_of_all h s) s.known.desk ends) (after_all h s).known.prints
told_all [] s l n before ends t = t
told_all (e ∷ es) s l n before ends t =
    let j : Joined (calls_at e s) (lines_at e) s.known (after_entry e s).known = joined_entry e s l.0 n in
    subst (λ all. Tells before all (after_all es (after_entry e s)).known.prints)
    (ap (λ d. ends_all (calls_of_all es (after_entry e s)) d (ends_all (calls_at e s) s.known.desk ends)) j.desk ∙ sym (ends_append (calls_at e s) (calls_of_all es (after_entry e s)) s.known.desk ends))
    (told_all es (after_entry e s) l.1 j.numbered before (ends_all (calls_at e s) s.known.desk ends) (j.told before ends t))

-- records of prints that began before
none_began : (before : ℕ) (rows : List PrintRow) → Each (λ (row : PrintRow). row.number ≤ before) rows → Each (HasOutcome before []) rows
none_began before [] h = tt
none_began before (row ∷ rows) h = (λ above. absurd (let le : row.number ≤ before = h.0 in omega arith), none_began before rows h.1)

each_of : {X : Type 0} (P : X → Type 0) (xs : List X) → All P xs → Each P xs
each_of P [] h = tt
each_of P (x ∷ xs) h = (All-head P x xs h, each_of P xs (All-tail P x xs h))

of_each : {X : Type 0} (P : X → Type 0) (xs : List X) → Each P xs → All P xs
of_each P [] h = All-nil P
of_each P (x ∷ xs) h = All-cons P x xs h.0 (of_each P xs h.1)

-- before any entry
pub none_told : (rows : List PrintRow) → All (λ (row : PrintRow). row.number ≤ length rows) rows → Tells (length rows) [] rows
none_told rows old =
    record { outcomes = none_began (length rows) rows (each_of (λ (row : PrintRow). row.number ≤ length rows) rows old); few = tt }

-- what the ends of calls say of records
pub outcomes_of : (before : ℕ) (calls : List DeskCall) (d : Data) (rows : List PrintRow) → Tells before (ends_all calls d []) rows
    → All (HasOutcome before (run_of calls (new_run d)).ends) rows
outcomes_of before calls d rows t =
    of_each (HasOutcome before (run_of calls (new_run d)).ends) rows
    (subst (λ ends. Each (HasOutcome before ends) rows) (sym (ends_run calls (new_run d))) t.outcomes)

pub keeps_outcomes : EveryHistoryKeepsOutcomes
keeps_outcomes scripts limits poll_ms numbered h s e old l =
    outcomes_of (length s.known.prints) (calls_of_all h s) s.known.desk (after_all h s).known.prints
    (told_all h s l (new_numbered scripts limits poll_ms numbered s.known e) (length s.known.prints) [] (none_told s.known.prints old))
