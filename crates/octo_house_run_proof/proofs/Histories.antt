-- A print over a legal history.
use Rattle.std.proofs.Common.{zero, suc, ◌≡◌, ◌⊎◌, inl, inr, ℕ, ◌<◌, ◌≤◌, Bool, true, false, nat_eq, List, [], ◌∷◌, ◌++◌, length, map, drop, refl, sym, ◌∙◌, ap, subst, append-nil, append_assoc, arith}
use Rattle.job_desk.specs.Data.{ScriptTexts, Data, new_desk}
use Rattle.job_desk.specs.Issued.{line_of}
use Rattle.job_desk.specs.Note.{after_ending, note_step, first_fact}
use Rattle.job_desk.specs.Run.{Fate, Run, after, run_of, new_run, print_lines, of_print, DeskCall, Note, MayCallAll}
use Rattle.job_desk.specs.declared.issued.Note as declared_note
use Rattle.job_desk.specs.declared.link_fact.LinkFact.{LinkFact}
use Rattle.job_desk.specs.declared.link_fact.LinkFact.TheVariants as fact
use Rattle.job_desk.specs.declared.state.State.TheVariants.{Connecting}
use Rattle.job_desk.proofs.Lines.{below_test}
use Rattle.temp_rules.specs.declared.limits.Limits.{Limits}
use Rattle.octo_asks.specs.History.{History}
use Rattle.octo_asks.specs.Rights.{needed}
use Rattle.octo_asks.specs.declared.answer.Answer.{Answer}
use Rattle.octo_asks.specs.declared.entry.Entry.{Entry}
use Rattle.octo_asks.specs.declared.entry.Entry.TheVariants as entry
use Rattle.octo_house_rules.specs.Answers.{verdict}
use Rattle.octo_house_rules.specs.Desk.{desk_after_all, lines_pulled}
use Rattle.octo_house_rules.specs.Known.{Known}
use Rattle.octo_house_rules.specs.Verdict.{Verdict, is_fault, after as after_verdict, calls_after}
use Rattle.octo_house_rules.specs.Issued.{is_opened, is_opening, lines_at, issued_of}
use Rattle.octo_house_rules.specs.Legal.{Standing, after_entry, after_all, IsLegal, Legal, MayFind, IsAckedWell}
use Rattle.octo_house_rules.specs.Noted.{calls_of, lines_in}
use Rattle.octo_house_rules.specs.Scripts.{calls_at, calls_of_all, run_in}
use Rattle.octo_house_rules.proofs.Asked.{asks_play}
use Rattle.octo_house_rules.proofs.Played.{IsNumbered, Led, led}
use Rattle.octo_house_rules.proofs.Runs.{MayAll, may_run}
use Rattle.octo_house_rules.specs.Sessions.{sessions, acked_at, open_at}
use Rattle.octo_house_run_proof.proofs.LineEntries.{sessions-append}
use Rattle.octo_house_run_proof.specs.Prints.{Lives}
use Rattle.octo_house_rules.specs.Lives.{LivesIn}
use Rattle.octo_house_run_proof.proofs.PrintNoted.{acked_note}
use Rattle.octo_house_run_proof.proofs.Requests.{AreRequests, calls_requests}
use Rattle.octo_house_run_proof.proofs.Calls.{ArePlain, open_by_all}
use Rattle.octo_house_run_proof.proofs.Plain.{desk_calls}
use Rattle.octo_house_run_proof.proofs.Steps.{Tells, tells_step, tells_opened, stays_ended, opened_ended}
use Rattle.octo_house_run_proof.proofs.Notes.{first_other, acked_rises, may_pulls, numbered_note, opened_silent, opened_calls, opening_or, plain_requests, acked_requests, open_requests, plain_pulls, acked_pulls, open_pulls}
use Rattle.octo_house_rules.proofs.Histories.{called_desk}

-- what an answer makes of the desk
record Answered (calls : List DeskCall) (k l : Known) : Type 0 where
  desk : l.desk ≡ desk_after_all calls k.desk
  silent : lines_pulled calls k.desk ≡ []
  may : MayAll calls k.desk
  numbered : IsNumbered l

answered : (fault : Bool) (v : Verdict) (k : Known) (x : Answer) → is_fault x ≡ fault → IsNumbered k → Led v k x
    → Answered (calls_after v x) k (after_verdict v k x)
answered true v k x e n l = rw e (record { desk = refl; silent = refl; may = tt; numbered = n })
answered false v k x e n l = rw e (record { desk = l.desk; silent = l.silent; may = l.may; numbered = l.numbered })

-- every stretch of a history has few enough lines in its last session
abbrev pub IsShort : History → Type 0
IsShort h = (first later : History) → h ≡ first ++ later → length (issued_of (sessions first) first) ≤ 18446744073709551615

pub run_append : (calls more : List DeskCall) (run : Run) → run_of (calls ++ more) run ≡ run_of more (run_of calls run)
run_append [] more run = refl
run_append (call ∷ calls) more run = run_append calls more (after call run)

module _ (scripts : ScriptTexts) (p : ℕ) (positive : nat_eq 0 p ≡ false) where
  -- where a history has led, and the print over it
  record Follows (h : History) (t : Standing) (run : Run) : Type 0 where
    desk : run.desk ≡ t.known.desk
    numbered : IsNumbered t.known
    tells : Tells scripts p positive h run

  -- an entry that opens no session, by its calls
  record IsPlainEntry (h : History) (e : Entry) (run : Run) (calls : List DeskCall) : Type 0 where
    other : is_opened e ≡ false
    may : MayCallAll calls run
    plain : ArePlain scripts p positive calls run.desk
    lines : lines_pulled calls run.desk ≡ lines_at e
    acked : (desk_after_all calls run.desk).acked ≡ acked_at e run.desk.acked
    opened : (was : Bool) → open_by_all scripts p positive calls was ≡ false → open_at e was ≡ false

  -- one that opens a session
  record IsOpeningEntry (e : Entry) (run : Run) (acked moment : ℕ) : Type 0 where
    opens : is_opened e ≡ true
    dials : run.desk.state ≡ Connecting
    silent : lines_at e ≡ []

  -- an entry, of either kind
  data Kind (h : History) (e : Entry) (run : Run) : List DeskCall → Type 0 where
    is_plain : (calls : List DeskCall) → IsPlainEntry h e run calls → Kind h e run calls
    is_opening_at : (acked moment : ℕ) → IsOpeningEntry e run acked moment → Kind h e run (Note acked fact.Opened moment ∷ [])

  abbrev Short : History → Type 0
  Short h = length (issued_of (sessions h) h) ≤ 18446744073709551615

  tells_kind : (h : History) (e : Entry) (run : Run) (calls : List DeskCall) → Kind h e run calls → Tells scripts p positive h run → Short (h ++ e ∷ []) →
      Tells scripts p positive (h ++ e ∷ []) (run_of calls run)
  tells_kind h e run _ (is_plain calls k) t few = tells_step scripts p positive h e run calls k.other t k.may k.plain k.lines few k.acked k.opened
  tells_kind h e run _ (is_opening_at acked moment k) t few = tells_opened scripts p positive h e run acked moment k.opens t k.dials k.silent

  -- a print that had ended
  abbrev Stays : History → Run → Fate → ℕ → ℕ → Type 0
  Stays h run f home a = (of_print p run.ends ≡ f ∷ []) × LivesIn p h home × (print_lines p (drop a (issued_of home h)) ≡ [])

  stays_kind : (h : History) (e : Entry) (run : Run) (calls : List DeskCall) → Kind h e run calls → Tells scripts p positive h run → Short (h ++ e ∷ []) →
      (f : Fate) (home a : ℕ) → home ≤ sessions h → Stays h run f home a → Stays (h ++ e ∷ []) (run_of calls run) f home a
  stays_kind h e run _ (is_plain calls k) t few f home a within s =
      stays_ended scripts p positive h e run calls k.other t k.may k.plain k.lines few k.acked k.opened f s.0 home within s.1 a s.2
  stays_kind h e run _ (is_opening_at acked moment k) t few f home a within s =
      opened_ended scripts p positive h e run acked moment k.opens t k.dials k.silent f s.0 home within s.1 a s.2

  module _ (h : History) (t : Standing) (run : Run) (f : Follows h t run) where
    at_desk : (P : Data → Type 0) → P t.known.desk → P run.desk
    at_desk P so = subst P (sym f.desk) so

    -- what an entry leads to
    record Steps (e : Entry) : Type 0 where
      kind : Kind h e run (calls_at e t)
      desk : (run_of (calls_at e t) run).desk ≡ (after_entry e t).known.desk
      numbered : IsNumbered (after_entry e t).known

    call_steps : (worker : ℕ) (ask : _) (moment : ℕ) (x : Answer) → Steps (entry.Call worker ask moment x)
    call_steps worker ask moment x =
        let v : Verdict = verdict ask t.files t.known in
        let calls : List DeskCall = calls_after v x in
        let a : Answered calls t.known (after_verdict v t.known x) =
        answered (is_fault x) v t.known x refl f.numbered
        (led v t.known x f.numbered (asks_play (needed ask.request) ask.key ask.request t.files t.known f.numbered))
        in
        let r : AreRequests calls = calls_requests (needed ask.request) ask.key ask.request t.files t.known x in
        record {
          kind = is_plain calls (record {
            other = refl;
            may = may_run calls run (at_desk (λ d. MayAll calls d) a.may);
            plain = plain_requests scripts p positive calls run.desk r;
            lines = at_desk (λ d. lines_pulled calls d ≡ []) a.silent;
            acked = acked_requests scripts p positive calls run.desk r;
            opened = λ was shut. sym (open_requests scripts p positive calls was r) ∙ shut;
          });
          desk = desk_calls calls run ∙ ap (λ (d : Data). desk_after_all calls d) f.desk ∙ sym a.desk;
          numbered = a.numbered;
        }

    noted_desk : (note : declared_note.Note) → (run_of (calls_of note) run).desk ≡ (after_entry (entry.Note note) t).known.desk
    noted_desk note = desk_calls (calls_of note) run ∙ ap (λ (d : Data). desk_after_all (calls_of note) d) f.desk ∙ sym (called_desk (calls_of note) t.known)

    other_kind : (note : declared_note.Note) → (note.fact ≡ fact.Opened → ⊥) → is_opening note.fact ≡ false → IsAckedWell note.fact note.acked t.known.desk →
        lines_pulled (calls_of note) t.known.desk ≡ lines_in note → Kind h (entry.Note note) run (calls_of note)
    other_kind note other is well lines =
        let first : LinkFact = first_fact note.fact in
        let first_is : first ≡ fact.Opened → ⊥ = first_other note.fact other in
        let d : Data = (note_step note.acked first note.moment run.desk).1 in
        let told : d.acked ≡ note.acked = acked_note p positive note.acked first note.moment run.desk first_is in
        let rises : run.desk.acked ≤ note.acked = at_desk (λ e. e.acked ≤ note.acked) (acked_rises note.fact note.acked t.known.desk other well) in
        is_plain (calls_of note) (record {
          other = is;
          may = may_run (calls_of note) run (tt, may_pulls note.fact note.acked note.moment note.issued.items d);
          plain = ((first_is, rises), plain_pulls scripts p positive note.fact note.acked note.moment note.issued.items d told);
          lines = at_desk (λ e. lines_pulled (calls_of note) e ≡ lines_in note) lines;
          acked = acked_pulls scripts p positive note.fact note.acked note.moment note.issued.items d told;
          opened = λ was shut. sym (open_pulls scripts p positive note.fact note.acked note.moment note.issued.items was) ∙ shut;
        })

    open_kind : (note : declared_note.Note) → note.fact ≡ fact.Opened → MayFind note.fact note.acked note.moment t
        → lines_pulled (calls_of note) t.known.desk ≡ lines_in note →
        Kind h (entry.Note note) run (calls_of note)
    open_kind note opens may lines =
        let dials : t.known.desk.state ≡ Connecting = (subst (λ (g : LinkFact). MayFind g note.acked note.moment t) opens may).0 in
        let none : note.issued.items ≡ [] = opened_silent note.fact note.acked note.moment note.issued.items t.known.desk opens dials lines in
        let same : Note note.acked fact.Opened note.moment ∷ [] ≡ calls_of note = opened_calls note.fact note.acked note.moment note.issued.items opens none in
        subst (λ (calls : List DeskCall). Kind h (entry.Note note) run calls) same
        (is_opening_at note.acked note.moment
        (record { opens = ap is_opening opens; dials = at_desk (λ d. d.state ≡ Connecting) dials; silent = ap (map line_of) none }))

    note_steps : (note : declared_note.Note) → IsLegal (entry.Note note) t → Steps (entry.Note note)
    note_steps note legal = record { kind = by (opening_or note.fact); desk = noted_desk note; numbered = numbered_note note t.known f.numbered }
      where
        by : (note.fact ≡ fact.Opened) ⊎ ((note.fact ≡ fact.Opened → ⊥) × (is_opening note.fact ≡ false)) → Kind h (entry.Note note) run (calls_of note)
        by (inl opens) = open_kind note opens legal.1.found legal.1.lines
        by (inr other) = other_kind note other.0 other.1 legal.1.acked legal.1.lines

    steps_of : (e : Entry) → IsLegal e t → Steps e
    steps_of (entry.Call worker ask moment x) legal = call_steps worker ask moment x
    steps_of (entry.Note note) legal = note_steps note legal
    steps_of entry.Close legal = record {
      kind = is_plain [] (record { other = refl; may = tt; plain = tt; lines = refl; acked = refl; opened = λ was shut. refl });
      desk = f.desk;
      numbered = f.numbered;
    }

    next_follows : (e : Entry) → Steps e → Short (h ++ e ∷ []) → Follows (h ++ e ∷ []) (after_entry e t) (run_of (calls_at e t) run)
    next_follows e s few = record { desk = s.desk; numbered = s.numbered; tells = tells_kind h e run (calls_at e t) s.kind f.tells few }

  follows_all : (es h : History) (t : Standing) (run : Run) → Follows h t run → Legal es t → IsShort (h ++ es) →
      Follows (h ++ es) (after_all es t) (run_of (calls_of_all es t) run)
  follows_all [] h t run f legal short = subst (λ (x : History). Follows x t run) (sym (append-nil h)) f
  follows_all (e ∷ es) h t run f legal short =
      let more : History = h ++ e ∷ [] in
      let whole : more ++ es ≡ h ++ e ∷ es = append_assoc h (e ∷ []) es in
      let next = next_follows h t run f e (steps_of h t run f e legal.0) (short more es (sym whole)) in
      let rest = follows_all es more (after_entry e t) (run_of (calls_at e t) run) next legal.1 (λ first later is. short first later (sym whole ∙ is)) in
      subst (λ (x : History). Follows x (after_all es (after_entry e t)) (run_of (calls_at e t ++ calls_of_all es (after_entry e t)) run)) whole
      (subst (λ (r : Run). Follows (more ++ es) (after_all es (after_entry e t)) r)
      (sym (run_append (calls_at e t) (calls_of_all es (after_entry e t)) run)) rest)

  stays_all : (es h : History) (t : Standing) (run : Run) → Follows h t run → Legal es t → IsShort (h ++ es) → (f : Fate) (home a : ℕ) → home ≤ sessions h →
      Stays h run f home a → LivesIn p (h ++ es) home × (print_lines p (drop a (issued_of home (h ++ es))) ≡ [])
  stays_all [] h t run fo legal short f home a within s =
      subst (λ (x : History). LivesIn p x home × (print_lines p (drop a (issued_of home x)) ≡ [])) (sym (append-nil h)) (s.1, s.2)
  stays_all (e ∷ es) h t run fo legal short f home a within s =
      let more : History = h ++ e ∷ [] in
      let whole : more ++ es ≡ h ++ e ∷ es = append_assoc h (e ∷ []) es in
      let steps = steps_of h t run fo e legal.0 in
      let few = short more es (sym whole) in
      let next = next_follows h t run fo e steps few in
      subst (λ (x : History). LivesIn p x home × (print_lines p (drop a (issued_of home x)) ≡ [])) whole
      (stays_all es more (after_entry e t) (run_of (calls_at e t) run) next legal.1 (λ first later is. short first later (sym whole ∙ is)) f home a
      (omega (arith, within, sessions-append h (e ∷ []))) (stays_kind h e run (calls_at e t) steps.kind fo.tells few f home a within s))

pub legal_first : (es fs : History) (s : Standing) → Legal (es ++ fs) s → Legal es s × Legal fs (after_all es s)
legal_first [] fs s l = (tt, l)
legal_first (e ∷ es) fs s l = (let rest = legal_first es fs (after_entry e s) l.1 in ((l.0, rest.0), rest.1))

-- legal histories of a host that began with a new desk
module _ (scripts : ScriptTexts) (limits : Limits) (poll_ms : ℕ) (probing : Bool) (p : ℕ) (some : 0 < p) (s : Standing)
    (new : s.known.desk ≡ new_desk scripts limits poll_ms probing) where
  positive_is : nat_eq 0 p ≡ false
  positive_is = below_test 0 p some

  begins_so : Follows scripts p positive_is [] s (new_run s.known.desk)
  begins_so = record {
    desk = refl;
    numbered = subst (λ (d : Data). d.greatest ≤ length s.known.prints) (sym new) (omega arith);
    tells = subst (λ (d : Data). Tells scripts p positive_is [] (new_run d)) (sym new) (record {
      pulled = refl;
      held = record {
        scripts_are = refl;
        known = inl (record { above = some; foreign = record { none = refl; other = inr (refl, tt) }; no_begin = refl; no_line = refl; no_fate = refl });
        marks = record { counted = refl; ahead = λ below. refl; marked = λ is. refl; paused = λ is. absurd (cc is) };
        clear = inl refl;
      };
      acked = refl;
      lives = inl (record { no_fate = refl; lives = record { alone = λ k off. none_issued k; all = refl } });
    });
  }
    where
      none_issued : (k : ℕ) → print_lines p (issued_of k []) ≡ []
      none_issued zero = refl
      none_issued (suc k) = refl

  -- the print over a history
  pub lives_in : (h : History) → Legal h s → IsShort h → Lives p h (of_print p (run_in h s).ends)
  lives_in h legal short = (follows_all scripts p positive_is h [] s (new_run s.known.desk) begins_so legal short).tells.lives

  -- and over what follows, once it has ended
  pub stays_in : (first later : History) → Legal (first ++ later) s → IsShort (first ++ later) → (f : Fate) (home a : ℕ) → home ≤ sessions first →
      of_print p (run_in first s).ends ≡ f ∷ [] → LivesIn p first home → print_lines p (drop a (issued_of home first)) ≡ [] →
      LivesIn p (first ++ later) home × (print_lines p (drop a (issued_of home (first ++ later))) ≡ [])
  stays_in first later legal short f home a within after_ending l none =
      let parts = legal_first first later s legal in
      let begun = follows_all scripts p positive_is first [] s (new_run s.known.desk) begins_so parts.0
      (λ one two is. short one (two ++ later) (ap (λ (x : History). x ++ later) is ∙ append_assoc one two later))
      in
      stays_all scripts p positive_is later first (after_all first s)
      (run_of (calls_of_all first s) (new_run s.known.desk)) begun parts.1 short f home a within (after_ending, l, none)
