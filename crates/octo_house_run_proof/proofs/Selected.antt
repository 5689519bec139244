-- The commands of a print are those of the file that was selected, as the shelf held it then.
use Rattle.std.proofs.Common.{zero, suc, ◌≡◌, ◌⊎◌, inl, inr, ℕ, ◌<◌, Bool, true, false, cond, nat_eq, List, [], ◌∷◌, ◌++◌, length, get_or, map, Contains, Option, Some, None, refl, sym, ◌∙◌, ap, subst, append-nil, append_assoc, arith}
use Rattle.gcode_lines.specs.Job.{texts_of}
use Rattle.temp_rules.specs.Hot.{first_hot_of}
use Rattle.temp_rules.specs.declared.job.HotLine.{HotLine}
use Rattle.job_desk.specs.Data.{Data, File, Line, commands_of}
use Rattle.job_desk.specs.Note.{note_step}
use Rattle.job_desk.specs.Pull.{pull_step}
use Rattle.job_desk.specs.Run.{DeskCall, Select, Start, Restart, Pull, Note, Run, after, after_start, after_restart, after_pull, after_note, run_of, new_run, of_print}
use Rattle.job_desk.specs.Table.{start_checked, start_file, start_at, restart_at}
use Rattle.job_desk.specs.declared.issued.Issued.{Issued}
use Rattle.job_desk.specs.declared.issued.Note as declared_note
use Rattle.job_desk.specs.declared.link_fact.LinkFact.{LinkFact}
use Rattle.job_desk.specs.declared.link_fact.LinkFact.TheVariants as fact
use Rattle.job_desk.specs.declared.state.State.{State}
use Rattle.job_desk.specs.declared.state.State.TheVariants.{Operational, Paused}
use Rattle.job_desk.proofs.Lines.{of_print-other, of_print-own}
use Rattle.print_queue.specs.declared.ending.Ending.{Ending}
use Rattle.octo_keeper.specs.declared.shelf.ShelfFile.{ShelfFile}
use Rattle.octo_asks.specs.History.{History}
use Rattle.octo_asks.specs.Rights.{needed}
use Rattle.octo_asks.specs.declared.answer.Answer.{Answer}
use Rattle.octo_asks.specs.declared.entry.Entry.{Entry}
use Rattle.octo_asks.specs.declared.entry.Entry.TheVariants as entry
use Rattle.octo_house_rules.specs.Answers.{verdict}
use Rattle.octo_house_rules.specs.Desk.{desk_after, desk_after_all}
use Rattle.octo_house_rules.specs.Known.{Known}
use Rattle.octo_house_rules.specs.Verdict.{Verdict, gives, makes, writes, reads, removes, stores, begins, is_fault, is_stored, known_after, known_in, calls_in, calls_after, files_after}
use Rattle.octo_house_rules.specs.Legal.{Standing, after_entry, after_all}
use Rattle.octo_house_rules.specs.Noted.{calls_of, last_call}
use Rattle.octo_house_rules.specs.Scripts.{calls_at, calls_of_all, run_in}
use Rattle.octo_house_rules.proofs.Runs.{desk_call, desk_append}
use Rattle.octo_house_rules.specs.PrintLaws.{IsNewDesk}
use Rattle.octo_house_rules.specs.Selected.{IsOnShelf, StaysSelected, WasSelected, BeganWithFile, EachIsOfItsFile}
use Rattle.octo_house_run_proof.proofs.Files.{file_calls}
use Rattle.octo_house_run_proof.proofs.Filed.{IsFiled, paused_file, filed_call, filed_calls}
use Rattle.octo_house_run_proof.proofs.Histories.{run_append}
use Rattle.octo_house_rules.proofs.Histories.{called_desk}
use Rattle.octo_house_run_proof.proofs.Plain.{desk_calls}
use Rattle.octo_house_run_proof.proofs.Requests.{is_start, IsOfShelf, AreMade, calls_made}
use Rattle.octo_house_run_proof.proofs.Walking.{after_append}

-- calls that select only files of the shelf, and begin a print only by the last of them
abbrev AreFit : List ShelfFile → List DeskCall → Type 0
AreFit files [] = Unit {0}
AreFit files (call ∷ calls) = (IsOfShelf files call × ((is_start call ≡ false) ⊎ (calls ≡ []))) × AreFit files calls

fit_made : (files : List ShelfFile) (calls : List DeskCall) → AreMade files calls → AreFit files calls
fit_made files [] m = tt
fit_made files (call ∷ calls) m = ((m.0.1, m.0.2), fit_made files calls m.1)

fit_last : (files : List ShelfFile) (f : LinkFact) (acked moment : ℕ) → AreFit files (last_call f acked moment)
fit_last files fact.Failed acked moment = ((tt, inl refl), tt)
fit_last files _ acked moment = tt

fit_pulls : (files : List ShelfFile) (f : LinkFact) (acked moment : ℕ) (issued : List Issued) →
    AreFit files (map (λ (one : Issued). Pull moment) issued ++ last_call f acked moment)
fit_pulls files f acked moment [] = fit_last files f acked moment
fit_pulls files f acked moment (one ∷ issued) = ((tt, inl refl), fit_pulls files f acked moment issued)

fit_note : (files : List ShelfFile) (note : declared_note.Note) → AreFit files (calls_of note)
fit_note files note = ((tt, inl refl), fit_pulls files note.fact note.acked note.moment note.issued.items)

-- a selected file is on the shelf
shelf_at : (files : List ShelfFile) (calls : List DeskCall) (k : ℕ) (f : File) → AreFit files calls → k < length calls →
    get_or calls k (Select f) ≡ Select f → IsOnShelf files f
shelf_at files [] k f fit below is = absurd (omega (arith, below))
shelf_at files (call ∷ calls) zero f fit below is = subst (λ c. IsOfShelf files c) is fit.0.0
shelf_at files (call ∷ calls) (suc k) f fit below is = shelf_at files calls k f fit.1 (omega (arith, below)) is

-- the desk after an answer
verdict_desk : (v : Verdict) (k : Known) (x : Answer) → (known_in v k x).desk ≡ desk_after_all (calls_in v x) k.desk
verdict_desk (gives a) k x = refl
verdict_desk (makes a deed) k x = refl
verdict_desk (writes a deed) k x = refl
verdict_desk (reads v) k x = verdict_desk v k x
verdict_desk (removes name a deed) k x = refl
verdict_desk (stores name bytes deed v) k x = verdict_desk v (known_after deed k) x ∙ sym (desk_append deed.calls (calls_in v x) k.desk)
verdict_desk (begins a deed name) k x = by (is_stored x)
  where
    by : (b : Bool) → (cond b k (known_after deed k)).desk ≡ desk_after_all (cond b [] deed.calls) k.desk
    by true = refl
    by false = refl

answer_desk : (fault : Bool) (v : Verdict) (k : Known) (x : Answer) →
    (cond fault k (known_in v k x)).desk ≡ desk_after_all (cond fault [] (calls_in v x)) k.desk
answer_desk true v k x = refl
answer_desk false v k x = verdict_desk v k x

-- what an entry does at the desk
record Enters (e : Entry) (t : Standing) : Type 0 where
  desk : (after_entry e t).known.desk ≡ desk_after_all (calls_at e t) t.known.desk
  fit : AreFit (after_entry e t).files (calls_at e t)

enters : (e : Entry) (t : Standing) → Enters e t
enters (entry.Call worker ask moment x) t =
    let v : Verdict = verdict ask t.files t.known in
    record {
      desk = answer_desk (is_fault x) v t.known x;
      fit = fit_made (files_after v x t.files) (calls_after v x) (calls_made (needed ask.request) ask.key ask.request t.files t.known x);
    }
enters (entry.Note note) t = record { desk = called_desk (calls_of note) t.known; fit = fit_note t.files note }
enters entry.Close t = record { desk = refl; fit = tt }

-- what calls begin: nothing, or a print of the file that is selected after them
abbrev Begun : Type 0
Begun = List (ℕ × List (List ℕ))

abbrev One : Begun → Begun → Data → Type 0
One old new d = (new ≡ old) ⊎ ((q : ℕ) × (file : File) × (d.file ≡ Some file) × (new ≡ old ++ (q, texts_of file.job) ∷ []))

begun_hot : (q : ℕ) (run : Run) (hot : Option HotLine) (file : File) → run.desk.file ≡ Some file →
    One run.begun (after_start q (start_checked hot q run.desk) run).begun (start_checked hot q run.desk).1
begun_hot q run None file is = inr (q, file, is, ap (λ f. run.begun ++ (q, commands_of f) ∷ []) is)
begun_hot q run (Some hot) file is = inl refl

begun_file : (q : ℕ) (run : Run) (file : Option File) → run.desk.file ≡ file →
    One run.begun (after_start q (start_file file q run.desk) run).begun (start_file file q run.desk).1
begun_file q run None is = inl refl
begun_file q run (Some file) is = begun_hot q run (first_hot_of run.desk.limits file.job.commands) file is

begun_start : (q : ℕ) (run : Run) (s : State) → One run.begun (after_start q (start_at s q run.desk) run).begun (start_at s q run.desk).1
begun_start q run Operational = begun_file q run run.desk.file refl
begun_start q run _ = inl refl

begun_restart : (q : ℕ) (run : Run) (s : State) → run.desk.state ≡ s → IsFiled run.desk →
    One run.begun (after_restart q (restart_at s q run.desk) run).begun (restart_at s q run.desk).1
begun_restart q run Paused is f = by run.desk.file refl
  where
    by : (file : Option File) → run.desk.file ≡ file → One run.begun (run.begun ++ (q, commands_of run.desk.file) ∷ []) run.desk
    by None none = absurd (paused_file run.desk is f none)
    by (Some file) some = inr (q, file, some, ap (λ g. run.begun ++ (q, commands_of g) ∷ []) some)
begun_restart q run _ is f = inl refl

begun_pull : (state : State) (line : Option Line) (d : Data) (run : Run) → (after_pull state (line, d) run).begun ≡ run.begun
begun_pull state None d run = refl
begun_pull state (Some line) d run = refl

begun_note : (f : LinkFact) (ending : Option Ending) (d : Data) (run : Run) → (after_note f (ending, d) run).begun ≡ run.begun
begun_note f None d run = refl
begun_note f (Some ending) d run = refl

begun_none : (call : DeskCall) (run : Run) → is_start call ≡ false → (after call run).begun ≡ run.begun
begun_none (Start q) run none = absurd (cc none)
begun_none (Restart q) run none = absurd (cc none)
begun_none (Pull moment) run none = begun_pull run.desk.state (pull_step moment run.desk).0 (pull_step moment run.desk).1 run
begun_none (Note acked f moment) run none = begun_note f (note_step acked f moment run.desk).0 (note_step acked f moment run.desk).1 run
begun_none _ run none = refl

begun_one : (call : DeskCall) (run : Run) → IsFiled run.desk → One run.begun (after call run).begun (desk_after call run.desk)
begun_one (Start q) run f = begun_start q run run.desk.state
begun_one (Restart q) run f = begun_restart q run run.desk.state refl f
begun_one (Pull moment) run f = inl (begun_none (Pull moment) run refl)
begun_one (Note acked found moment) run f = inl (begun_none (Note acked found moment) run refl)
begun_one _ run f = inl refl

begun_all : (files : List ShelfFile) (calls : List DeskCall) (run : Run) → AreFit files calls → IsFiled run.desk →
    One run.begun (run_of calls run).begun (desk_after_all calls run.desk)
begun_all files [] run fit f = inl refl
begun_all files (call ∷ calls) run fit f =
    let desk : (after call run).desk ≡ desk_after call run.desk = desk_call call run in
    by fit.0.1
    (subst (λ (d : Data). One (after call run).begun (run_of calls (after call run)).begun (desk_after_all calls d)) desk
    (begun_all files calls (after call run) fit.1 (subst (λ (d : Data). IsFiled d) (sym desk) (filed_call call run.desk f))))
  where
    by : ((is_start call ≡ false) ⊎ (calls ≡ []))
        → One (after call run).begun (run_of calls (after call run)).begun (desk_after_all calls (desk_after call run.desk))
        → One run.begun (run_of calls (after call run)).begun (desk_after_all calls (desk_after call run.desk))
    by (inl none) rest =
        subst (λ (old : Begun). One old (run_of calls (after call run)).begun (desk_after_all calls (desk_after call run.desk))) (begun_none call run none) rest
    by (inr none) rest =
        subst (λ (cs : List DeskCall). One run.begun (run_of cs (after call run)).begun (desk_after_all cs (desk_after call run.desk))) (sym none)
        (begun_one call run f)

calls_append : (es fs : History) (s : Standing) → calls_of_all (es ++ fs) s ≡ calls_of_all es s ++ calls_of_all fs (after_all es s)
calls_append [] fs s = refl
calls_append (e ∷ es) fs s =
    ap (λ (calls : List DeskCall). calls_at e s ++ calls) (calls_append es fs (after_entry e s))
    ∙ sym (append_assoc (calls_at e s) (calls_of_all es (after_entry e s)) (calls_of_all fs (after_all es (after_entry e s))))

stays_more : (file : File) (es : History) (u : Standing) (e : Entry) → StaysSelected file es u →
    (after_entry e (after_all es u)).known.desk.file ≡ Some file → StaysSelected file (es ++ e ∷ []) u
stays_more file [] u e stays now = (stays, now)
stays_more file (x ∷ es) u e stays now = (stays.0, stays_more file es (after_entry x u) e stays.1 now)

pushed : {A : Type 0} (xs : List A) (a b : A) → xs ++ a ∷ [] ≡ b ∷ [] → (xs ≡ []) × (a ≡ b)
pushed [] a b is = (refl, cc is)
pushed (x ∷ []) a b is = absurd (cc is)
pushed (x ∷ y ∷ xs) a b is = absurd (cc is)

module _ (s : Standing) where
  run_more : (h : History) (e : Entry) → run_in (h ++ e ∷ []) s ≡ run_of (calls_at e (after_all h s)) (run_in h s)
  run_more h e =
      ap (λ (calls : List DeskCall). run_of calls (new_run s.known.desk)) (calls_append h (e ∷ []) s)
      ∙ run_append (calls_of_all h s) (calls_at e (after_all h s) ++ []) (new_run s.known.desk)
      ∙ ap (λ (calls : List DeskCall). run_of calls (run_in h s)) (append-nil (calls_at e (after_all h s)))

  -- a history, the selected file after it, and the prints that began in it
  record Traced (h : History) : Type 0 where
    desk : (run_in h s).desk ≡ (after_all h s).known.desk
    filed : IsFiled (after_all h s).known.desk
    file : (f : File) → (after_all h s).known.desk.file ≡ Some f → WasSelected s h f
    began : EachIsOfItsFile s h

  module _ (h : History) (e : Entry) (t : Traced h) where
    abbrev more : History
    more = h ++ e ∷ []

    abbrev calls : List DeskCall
    calls = calls_at e (after_all h s)

    stands : after_all more s ≡ after_entry e (after_all h s)
    stands = after_append h (e ∷ []) s

    -- the desk after the entry
    leads : (after_all more s).known.desk ≡ desk_after_all calls (after_all h s).known.desk
    leads = ap (λ (u : Standing). u.known.desk) stands ∙ (enters e (after_all h s)).desk

    goes_on : (f : File) → WasSelected s h f → (after_entry e (after_all h s)).known.desk.file ≡ Some f → WasSelected s more f
    goes_on f w now =
        let at : after_all h s ≡ after_all w.since (after_entry w.by (after_all w.first s)) =
        ap (λ (x : History). after_all x s) w.is ∙ after_append w.first (w.by ∷ w.since) s in
        record {
          first = w.first;
          by = w.by;
          since = w.since ++ e ∷ [];
          is = ap (λ (x : History). x ++ e ∷ []) w.is ∙ append_assoc w.first (w.by ∷ w.since) (e ∷ []);
          selects = w.selects;
          held = w.held;
          stays = stays_more f w.since (after_entry w.by (after_all w.first s)) e w.stays
              (subst (λ (u : Standing). (after_entry e u).known.desk.file ≡ Some f) at now);
        }

    selected : (f : File) → (after_all more s).known.desk.file ≡ Some f → WasSelected s more f
    selected f is = by (file_calls calls (after_all h s).known.desk f (sym (ap (λ (d : Data). d.file) leads) ∙ is))
      where
        now : (after_entry e (after_all h s)).known.desk.file ≡ Some f
        now = sym (ap (λ (u : Standing). u.known.desk.file) stands) ∙ is

        by : ((after_all h s).known.desk.file ≡ Some f) ⊎ Contains calls (Select f) → WasSelected s more f
        by (inl before) = goes_on f (t.file f before) now
        by (inr among) = record {
          first = h;
          by = e;
          since = [];
          is = refl;
          selects = among;
          held = shelf_at (after_entry e (after_all h s)).files calls among.0 f (enters e (after_all h s)).fit among.1 among.2;
          stays = now;
        }

    later_on : (p : ℕ) (commands : List (List ℕ)) → BeganWithFile s h p commands → BeganWithFile s more p commands
    later_on p commands b = record {
      first = b.first;
      by = b.by;
      later = b.later ++ e ∷ [];
      is = ap (λ (x : History). x ++ e ∷ []) b.is ∙ append_assoc b.first (b.by ∷ b.later) (e ∷ []);
      unbegun = b.unbegun;
      begun = b.begun;
      file = b.file;
      commands_are = b.commands_are;
      selected = b.selected;
    }

    began_more : EachIsOfItsFile s more
    began_more p commands is =
        by (begun_all (after_entry e (after_all h s)).files calls (run_in h s) (enters e (after_all h s)).fit (subst (λ (d : Data). IsFiled d) (sym t.desk) t.filed))
      where
        of : of_print p (run_of calls (run_in h s)).begun ≡ commands ∷ []
        of = sym (ap (λ (r : Run). of_print p r.begun) (run_more h e)) ∙ is

        here : (q : ℕ) (file : File) → (desk_after_all calls (run_in h s).desk).file ≡ Some file →
            (run_of calls (run_in h s)).begun ≡ (run_in h s).begun ++ (q, texts_of file.job) ∷ [] → (own : Bool) → nat_eq q p ≡ own →
            BeganWithFile s more p commands
        here q file has grew false other =
            later_on p commands (t.began p commands
            (sym (ap (λ (b : Begun). of_print p b) grew ∙ of_print-other p q (texts_of file.job) (run_in h s).begun other) ∙ of))
        here q file has grew true own =
            let parts = pushed (of_print p (run_in h s).begun) (texts_of file.job) commands
            (sym (ap (λ (b : Begun). of_print p b) grew ∙ of_print-own p q (texts_of file.job) (run_in h s).begun own) ∙ of) in
            record {
              first = h;
              by = e;
              later = [];
              is = refl;
              unbegun = parts.0;
              begun = is;
              file = file;
              commands_are = parts.1;
              selected = selected file (ap (λ (d : Data). d.file) leads ∙ ap (λ (d : Data). (desk_after_all calls d).file) (sym t.desk) ∙ has);
            }

        by : One (run_in h s).begun (run_of calls (run_in h s)).begun (desk_after_all calls (run_in h s).desk) → BeganWithFile s more p commands
        by (inl same) = later_on p commands (t.began p commands (ap (λ (b : Begun). of_print p b) (sym same) ∙ of))
        by (inr one) = here one.0 one.1 one.2 one.3 (nat_eq one.0 p) refl

    traced_more : Traced more
    traced_more = record {
      desk = ap (λ (r : Run). r.desk) (run_more h e) ∙ desk_calls calls (run_in h s) ∙ ap (λ (d : Data). desk_after_all calls d) t.desk ∙ sym leads;
      filed = subst (λ (d : Data). IsFiled d) (sym leads) (filed_calls calls (after_all h s).known.desk t.filed);
      file = selected;
      began = began_more;
    }

  traced_all : (es h : History) → Traced h → Traced (h ++ es)
  traced_all [] h t = subst (λ (x : History). Traced x) (sym (append-nil h)) t
  traced_all (e ∷ es) h t =
      subst (λ (x : History). Traced x) (append_assoc h (e ∷ []) es) (traced_all es (h ++ e ∷ []) (traced_more h e t))

  traced_none : IsNewDesk s.known.desk → Traced []
  traced_none new = record {
    desk = refl;
    filed = subst (λ (d : Data). IsFiled d) (sym new) (λ has. absurd (cc has), λ active none. absurd (cc active));
    file = λ f is. absurd (let no : None ≡ Some f = sym (ap (λ (d : Data). d.file) new) ∙ is in cc no);
    began = λ p commands is. absurd (cc is);
  }

pub of_its_file : (s : Standing) (h : History) → IsNewDesk s.known.desk → EachIsOfItsFile s h
of_its_file s h new = (traced_all s h [] (traced_none s new)).began
