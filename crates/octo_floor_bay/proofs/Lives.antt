-- A print's life over the entries of a desk.
use Rattle.std.proofs.Common.{zero, suc, ◌≡◌, ◌⊎◌, inl, inr, ℕ, ◌<◌, ◌≤◌, Bool, true, false, nat_eq, List, [], ◌∷◌, ◌++◌, length, map, drop, refl, sym, ◌∙◌, ap, subst, append-nil, append_assoc, arith}
use Rattle.job_desk.specs.Data.{ScriptTexts, Data, new_desk}
use Rattle.job_desk.specs.Issued.{line_of}
use Rattle.job_desk.specs.Note.{note_step, first_fact}
use Rattle.job_desk.specs.Run.{Fate, Run, Pull, new_run, run_of, print_lines, of_print, DeskCall, Note, MayCallAll}
use Rattle.job_desk.specs.declared.issued.Note as declared_note
use Rattle.job_desk.specs.declared.link_fact.LinkFact.{LinkFact}
use Rattle.job_desk.specs.declared.link_fact.LinkFact.TheVariants as fact
use Rattle.job_desk.specs.declared.state.State.TheVariants.{Connecting}
use Rattle.job_desk.proofs.Lines.{below_test}
use Rattle.temp_rules.specs.declared.limits.Limits.{Limits}
use Rattle.octo_asks.specs.History.{History}
use Rattle.octo_asks.specs.declared.entry.Entry.{Entry}
use Rattle.octo_asks.specs.declared.entry.Entry.TheVariants as entry
use Rattle.octo_house_rules.specs.Desk.{desk_after, desk_after_all, lines_pulled}
use Rattle.octo_house_rules.specs.Issued.{is_opened, is_opening, lines_at, issued_of}
use Rattle.octo_house_rules.specs.Lives.{LivesIn}
use Rattle.octo_house_rules.specs.Noted.{calls_of}
use Rattle.octo_house_rules.specs.Sessions.{sessions, acked_at, open_at}
use Rattle.octo_house_rules.proofs.Runs.{MayAll, may_run, desk_append}
use Rattle.octo_house_run_proof.proofs.Calls.{ArePlain, open_by_all}
use Rattle.octo_house_run_proof.proofs.Histories.{IsShort, run_append}
use Rattle.octo_house_run_proof.proofs.LineEntries.{sessions-append}
use Rattle.octo_house_run_proof.proofs.Marks.{IsRequest}
use Rattle.octo_house_run_proof.proofs.PrintNoted.{acked_note}
use Rattle.octo_house_run_proof.proofs.Notes.{first_other, acked_rises, may_pulls, opened_silent, opened_calls, opening_or, plain_requests, acked_requests, open_requests, plain_pulls, acked_pulls, open_pulls}
use Rattle.octo_house_run_proof.proofs.Plain.{desk_calls}
use Rattle.octo_house_run_proof.proofs.Requests.{AreRequests}
use Rattle.octo_house_run_proof.proofs.Steps.{Tells, tells_step, tells_opened, stays_ended, opened_ended}
use Rattle.octo_floor_bay.specs.Desk.{DeskEntry, IsAsked, AreAsked, IsTurnAt, MayEnter, AreEntered, entries_in, desk_calls_in, run_over}

-- calls that are asked for are requests
asked_request : (call : DeskCall) → IsAsked call → IsRequest call
asked_request (Pull moment) a = absurd a
asked_request (Note acked found moment) a = absurd a
asked_request _ a = tt

are_requests : (calls : List DeskCall) (d : Data) → AreAsked calls d → AreRequests calls
are_requests [] d a = tt
are_requests (call ∷ calls) d a = (asked_request call a.0, are_requests calls (desk_after call d) a.2)

pub may_be_made : (calls : List DeskCall) (d : Data) → AreAsked calls d → MayAll calls d
may_be_made [] d a = tt
may_be_made (call ∷ calls) d a = (a.1, may_be_made calls (desk_after call d) a.2)

-- and pull no line
none_pulled : (calls : List DeskCall) (d : Data) → AreAsked calls d → lines_pulled calls d ≡ []
none_pulled [] d a = refl
none_pulled (Pull moment ∷ calls) d a = absurd a.0
none_pulled (Note acked found moment ∷ calls) d a = absurd a.0
none_pulled (call ∷ calls) d a = none_pulled calls (desk_after call d) a.2

module _ (scripts : ScriptTexts) (p : ℕ) (positive : nat_eq 0 p ≡ false) where
  -- an entry that opens no session, by its calls
  record IsPlainEntry (h : History) (e : Entry) (run : Run) (calls : List DeskCall) : Type 0 where
    other : is_opened e ≡ false
    may : MayCallAll calls run
    plain : ArePlain scripts p positive calls run.desk
    lines : lines_pulled calls run.desk ≡ lines_at e
    acked : (desk_after_all calls run.desk).acked ≡ acked_at e run.desk.acked
    opened : (was : Bool) → open_by_all scripts p positive calls was ≡ false → open_at e was ≡ false

  -- one that opens a session
  record IsOpeningEntry (e : Entry) (run : Run) (acked moment : ℕ) : Type 0 where
    opens : is_opened e ≡ true
    dials : run.desk.state ≡ Connecting
    silent : lines_at e ≡ []

  -- an entry, of either kind
  data Kind (h : History) (e : Entry) (run : Run) : List DeskCall → Type 0 where
    is_plain : (calls : List DeskCall) → IsPlainEntry h e run calls → Kind h e run calls
    is_opening_at : (acked moment : ℕ) → IsOpeningEntry e run acked moment → Kind h e run (Note acked fact.Opened moment ∷ [])

  abbrev Short : History → Type 0
  Short h = length (issued_of (sessions h) h) ≤ 18446744073709551615

  tells_kind : (h : History) (e : Entry) (run : Run) (calls : List DeskCall) → Kind h e run calls → Tells scripts p positive h run → Short (h ++ e ∷ []) →
      Tells scripts p positive (h ++ e ∷ []) (run_of calls run)
  tells_kind h e run _ (is_plain calls k) t few = tells_step scripts p positive h e run calls k.other t k.may k.plain k.lines few k.acked k.opened
  tells_kind h e run _ (is_opening_at acked moment k) t few = tells_opened scripts p positive h e run acked moment k.opens t k.dials k.silent

  -- a print that had ended
  abbrev Stays : History → Run → Fate → ℕ → ℕ → Type 0
  Stays h run f home a = (of_print p run.ends ≡ f ∷ []) × LivesIn p h home × (print_lines p (drop a (issued_of home h)) ≡ [])

  stays_kind : (h : History) (e : Entry) (run : Run) (calls : List DeskCall) → Kind h e run calls → Tells scripts p positive h run → Short (h ++ e ∷ []) →
      (f : Fate) (home a : ℕ) → home ≤ sessions h → Stays h run f home a → Stays (h ++ e ∷ []) (run_of calls run) f home a
  stays_kind h e run _ (is_plain calls k) t few f home a within s =
      stays_ended scripts p positive h e run calls k.other t k.may k.plain k.lines few k.acked k.opened f s.0 home within s.1 a s.2
  stays_kind h e run _ (is_opening_at acked moment k) t few f home a within s =
      opened_ended scripts p positive h e run acked moment k.opens t k.dials k.silent f s.0 home within s.1 a s.2

  -- an entry that is asked for
  asked_kind : (h : History) (worker : ℕ) (ask : _) (moment : ℕ) (x : _) (run : Run) (calls : List DeskCall) → AreAsked calls run.desk →
      Kind h (entry.Call worker ask moment x) run calls
  asked_kind h worker ask moment x run calls a =
      let r : AreRequests calls = are_requests calls run.desk a in
      is_plain calls (record {
        other = refl;
        may = may_run calls run (may_be_made calls run.desk a);
        plain = plain_requests scripts p positive calls run.desk r;
        lines = none_pulled calls run.desk a;
        acked = acked_requests scripts p positive calls run.desk r;
        opened = λ was shut. sym (open_requests scripts p positive calls was r) ∙ shut;
      })

  -- a turn that opens no session
  other_kind : (h : History) (note : declared_note.Note) (run : Run) → IsTurnAt note (calls_of note) run.desk → (note.fact ≡ fact.Opened → ⊥) →
      is_opening note.fact ≡ false → Kind h (entry.Note note) run (calls_of note)
  other_kind h note run t other is =
      let first : LinkFact = first_fact note.fact in
      let first_is : first ≡ fact.Opened → ⊥ = first_other note.fact other in
      let d : Data = (note_step note.acked first note.moment run.desk).1 in
      let told : d.acked ≡ note.acked = acked_note p positive note.acked first note.moment run.desk first_is in
      let rises : run.desk.acked ≤ note.acked = acked_rises note.fact note.acked run.desk other t.acked in
      is_plain (calls_of note) (record {
        other = is;
        may = may_run (calls_of note) run (tt, may_pulls note.fact note.acked note.moment note.issued.items d);
        plain = ((first_is, rises), plain_pulls scripts p positive note.fact note.acked note.moment note.issued.items d told);
        lines = t.issued;
        acked = acked_pulls scripts p positive note.fact note.acked note.moment note.issued.items d told;
        opened = λ was shut. sym (open_pulls scripts p positive note.fact note.acked note.moment note.issued.items was) ∙ shut;
      })

  -- a turn that opens one
  open_kind : (h : History) (note : declared_note.Note) (run : Run) → IsTurnAt note (calls_of note) run.desk → note.fact ≡ fact.Opened →
      Kind h (entry.Note note) run (calls_of note)
  open_kind h note run t opens =
      let dials : run.desk.state ≡ Connecting = t.dialled opens in
      let none : note.issued.items ≡ [] = opened_silent note.fact note.acked note.moment note.issued.items run.desk opens dials t.issued in
      let same : Note note.acked fact.Opened note.moment ∷ [] ≡ calls_of note = opened_calls note.fact note.acked note.moment note.issued.items opens none in
      subst (λ (calls : List DeskCall). Kind h (entry.Note note) run calls) same
      (is_opening_at note.acked note.moment (record { opens = ap is_opening opens; dials = dials; silent = ap (map line_of) none }))

  turn_kind : (h : History) (note : declared_note.Note) (run : Run) → IsTurnAt note (calls_of note) run.desk → Kind h (entry.Note note) run (calls_of note)
  turn_kind h note run t = by (opening_or note.fact)
    where
      by : (note.fact ≡ fact.Opened) ⊎ ((note.fact ≡ fact.Opened → ⊥) × (is_opening note.fact ≡ false)) → Kind h (entry.Note note) run (calls_of note)
      by (inl opens) = open_kind h note run t opens
      by (inr other) = other_kind h note run t other.0 other.1

  -- an entry of either kind
  kind_of : (h : History) (e : Entry) (calls : List DeskCall) (run : Run) → MayEnter e calls run.desk → Kind h e run calls
  kind_of h (entry.Call worker ask moment x) calls run a = asked_kind h worker ask moment x run calls a
  kind_of h (entry.Note note) calls run t =
      subst (λ (c : List DeskCall). Kind h (entry.Note note) run c) (sym t.calls_are)
      (turn_kind h note run (record { calls_are = refl; acked = t.acked; dialled = t.dialled; issued = t.issued }))
  kind_of h entry.Close calls run none =
      subst (λ (c : List DeskCall). Kind h entry.Close run c) (sym none)
      (is_plain [] (record { other = refl; may = tt; plain = tt; lines = refl; acked = refl; opened = λ was shut. refl }))

  -- what is left of the entries may be made at the desk of the run
  entered_rest : (one : DeskEntry) (all : List DeskEntry) (run : Run) → AreEntered (one ∷ all) run.desk → AreEntered all (run_of one.calls run).desk
  entered_rest one all run e = subst (λ (d : Data). AreEntered all d) (sym (desk_calls one.calls run)) e.1

  tells_all : (all : List DeskEntry) (h : History) (run : Run) → Tells scripts p positive h run → AreEntered all run.desk → IsShort (h ++ entries_in all) →
      Tells scripts p positive (h ++ entries_in all) (run_of (desk_calls_in all) run)
  tells_all [] h run t e short = subst (λ (x : History). Tells scripts p positive x run) (sym (append-nil h)) t
  tells_all (one ∷ all) h run t e short =
      let more : History = h ++ one.entry ∷ [] in
      let whole : more ++ entries_in all ≡ h ++ one.entry ∷ entries_in all = append_assoc h (one.entry ∷ []) (entries_in all) in
      let next = tells_kind h one.entry run one.calls (kind_of h one.entry one.calls run e.0) t (short more (entries_in all) (sym whole)) in
      let rest = tells_all all more (run_of one.calls run) next (entered_rest one all run e) (λ first later is. short first later (sym whole ∙ is)) in
      subst (λ (x : History). Tells scripts p positive x (run_of (one.calls ++ desk_calls_in all) run)) whole
      (subst (λ (r : Run). Tells scripts p positive (more ++ entries_in all) r) (sym (run_append one.calls (desk_calls_in all) run)) rest)

  stays_all : (all : List DeskEntry) (h : History) (run : Run) → Tells scripts p positive h run → AreEntered all run.desk → IsShort (h ++ entries_in all) →
      (f : Fate) (home a : ℕ) → home ≤ sessions h →
      Stays h run f home a → LivesIn p (h ++ entries_in all) home × (print_lines p (drop a (issued_of home (h ++ entries_in all))) ≡ [])
  stays_all [] h run t e short f home a within s =
      subst (λ (x : History). LivesIn p x home × (print_lines p (drop a (issued_of home x)) ≡ [])) (sym (append-nil h)) (s.1, s.2)
  stays_all (one ∷ all) h run t e short f home a within s =
      let more : History = h ++ one.entry ∷ [] in
      let whole : more ++ entries_in all ≡ h ++ one.entry ∷ entries_in all = append_assoc h (one.entry ∷ []) (entries_in all) in
      let kind = kind_of h one.entry one.calls run e.0 in
      let few = short more (entries_in all) (sym whole) in
      let next = tells_kind h one.entry run one.calls kind t few in
      subst (λ (x : History). LivesIn p x home × (print_lines p (drop a (issued_of home x)) ≡ [])) whole
      (stays_all all more (run_of one.calls run) next (entered_rest one all run e) (λ first later is. short first later (sym whole ∙ is)) f home a
      (omega (arith, within, sessions-append h (one.entry ∷ []))) (stays_kind h one.entry run one.calls kind t few f home a within s))

-- entries of which the first may be made, and then the others
pub entered_first : (first later : List DeskEntry) (d : Data) → AreEntered (first ++ later) d →
    AreEntered first d × AreEntered later (desk_after_all (desk_calls_in first) d)
entered_first [] later d e = (tt, e)
entered_first (one ∷ first) later d e =
    let rest = entered_first first later (desk_after_all one.calls d) e.1 in
    ((e.0, rest.0), subst (λ (x : Data). AreEntered later x) (sym (desk_append one.calls (desk_calls_in first) d)) rest.1)

pub entries-append : (first later : List DeskEntry) → entries_in (first ++ later) ≡ entries_in first ++ entries_in later
entries-append [] later = refl
entries-append (one ∷ first) later = ap (λ (h : History). one.entry ∷ h) (entries-append first later)

-- entries from a new desk
module _ (scripts : ScriptTexts) (limits : Limits) (poll_ms : ℕ) (numbered : Bool) (p : ℕ) (some : 0 < p) (d : Data) (new : d ≡ new_desk scripts limits poll_ms numbered) where
  pub positive_is : nat_eq 0 p ≡ false
  positive_is = below_test 0 p some

  pub begins_so : Tells scripts p positive_is [] (new_run d)
  begins_so = subst (λ (x : Data). Tells scripts p positive_is [] (new_run x)) (sym new) (record {
    pulled = refl;
    held = record {
      scripts_are = refl;
      known = inl (record { above = some; foreign = record { none = refl; other = inr (refl, tt) }; no_begin = refl; no_line = refl; no_fate = refl });
      marks = record { counted = refl; ahead = λ below. refl; marked = λ is. refl; paused = λ is. absurd (cc is) };
      clear = inl refl;
    };
    acked = refl;
    lives = inl (record { no_fate = refl; lives = record { alone = λ k off. none_issued k; all = refl } });
  })
    where
      none_issued : (k : ℕ) → print_lines p (issued_of k []) ≡ []
      none_issued zero = refl
      none_issued (suc k) = refl

  -- the print over entries
  pub lives_over : (all : List DeskEntry) → AreEntered all d → IsShort (entries_in all) → Tells scripts p positive_is (entries_in all) (run_over all d)
  lives_over all entered short = tells_all scripts p positive_is all [] (new_run d) begins_so entered short

  -- and over what follows, once it has ended
  pub stays_over : (first later : List DeskEntry) → AreEntered (first ++ later) d → IsShort (entries_in first ++ entries_in later) →
      (f : Fate) (home a : ℕ) → home ≤ sessions (entries_in first) →
      of_print p (run_over first d).ends ≡ f ∷ [] → LivesIn p (entries_in first) home → print_lines p (drop a (issued_of home (entries_in first))) ≡ [] →
      LivesIn p (entries_in first ++ entries_in later) home × (print_lines p (drop a (issued_of home (entries_in first ++ entries_in later))) ≡ [])
  stays_over first later entered short f home a within ends l none =
      let parts = entered_first first later d entered in
      let begun = lives_over first parts.0
      (λ one two is. short one (two ++ entries_in later) (ap (λ (x : History). x ++ entries_in later) is ∙ append_assoc one two (entries_in later))) in
      stays_all scripts p positive_is later (entries_in first) (run_over first d) begun
      (subst (λ (x : Data). AreEntered later x) (sym (desk_calls (desk_calls_in first) (new_run d))) parts.1) short f home a within (ends, l, none)
