-- What one printer did, part after part.
use Rattle.std.proofs.Common.{◌≡◌, ◌⊎◌, inl, inr, ℕ, ◌≤◌, Bool, true, false, cond, List, [], ◌∷◌, ◌++◌, Option, None, Some, refl, sym, ◌∙◌, ap, subst, append-nil, append_assoc, arith}
use Rattle.std.specs.Prelude.{Contains}
use Rattle.std.proofs.lemmas.List.Elements.{Contains-append_left, Contains-append_right}
use Rattle.gcode_lines.specs.Job.{texts_of}
use Rattle.job_desk.specs.Data.{Data}
use Rattle.job_desk.specs.Run.{Run, Fate}
use Rattle.job_desk.specs.declared.issued.Note.{Note}
use Rattle.job_desk.specs.declared.link_fact.LinkFact.{LinkFact}
use Rattle.job_desk.specs.declared.link_fact.LinkFact.TheVariants as fact
use Rattle.job_desk.specs.declared.state.State.{State}
use Rattle.job_desk.specs.declared.state.State.TheVariants as state
use Rattle.octo_keeper.specs.declared.shelf.ShelfFile.{ShelfFile}
use Rattle.octo_keeper.specs.declared.tables.Tables.{Tables}
use Rattle.octo_session.specs.Turn.{fact_of}
use Rattle.print_queue.specs.declared.ending.Ending.{Ending}
use Rattle.print_queue.specs.declared.entry.QueueEntry.{QueueEntry}
use Rattle.print_queue.specs.declared.row.PrintRow.{PrintRow}
use Rattle.printer_link.specs.Link.{LinkKind}
use Rattle.temp_rules.specs.declared.limits.Limits.{Limits}
use Rattle.octo_floor_bay.specs.Bay.{BayData, RunsOn, AreFates, IsQuietNote, AddsTurn, run_in}
use Rattle.octo_floor_bay.specs.Prints.{IsInStep}
use Rattle.octo_floor_bay.specs.declared.deed.Deed.{Deed}
use Rattle.octo_floor_bay.specs.declared.deed.Deed.TheVariants as deed
use Rattle.octo_floor_bay.specs.Events.{FloorHistory, notes_of}
use Rattle.octo_floor_bay.specs.declared.event.FloorEvent.TheVariants.{Started, Passed}
use Rattle.octo_floor.specs.Ledger.{LedgerData, noted_events, ended_events}
use Rattle.printer_link.specs.Calls.{LinkState}
use Rattle.octo_floor.specs.Phases.{lost, phase_in, phase_after, IsAtRest}
use Rattle.octo_floor.specs.Step.{IsBayTurn, Begins, faulty, passed, started, not_free, nothing_fits, takes}
use Rattle.octo_session.specs.declared.found.Turned.{Turned}
use Rattle.octo_floor.proofs.Faults.{rose_more, rose_later}
use Rattle.octo_floor.proofs.Turning.{phased_turn}
use Rattle.octo_floor.specs.Points.{starts_of, endings_of, AreBegun, AreEnded, HaveNotes, Loses, IsLostBy, Does}
use Rattle.octo_floor.specs.Round.{IsDialled, dialled}
use Rattle.octo_floor.proofs.Bays.{dial_connects}
use Rattle.octo_floor.proofs.Tells.{notes_more, starts_more, endings_of_more, is_own, IsOthers}

-- runs that go on
runs_then : (begun begun' : List (ℕ × List (List ℕ))) (ended ended' : List (ℕ × Fate)) (a b c : Run) → RunsOn begun ended a b → RunsOn begun' ended' b c →
    RunsOn (begun ++ begun') (ended ++ ended') a c
runs_then begun begun' ended ended' a b c first second = record {
  begun_are = second.begun_are ∙ ap (λ (xs : List (ℕ × List (List ℕ))). xs ++ begun') first.begun_are ∙ append_assoc a.begun begun begun';
  ended_are = second.ended_are ∙ ap (λ (xs : List (ℕ × Fate)). xs ++ ended') first.ended_are ∙ append_assoc a.ends ended ended';
}

begun_append : (limits : Limits) (files : Option (List ShelfFile)) (ss ts : List (PrintRow × QueueEntry)) (bs cs : List (ℕ × List (List ℕ))) →
    AreBegun limits files ss bs → AreBegun limits files ts cs → AreBegun limits files (ss ++ ts) (bs ++ cs)
begun_append limits files [] ts [] cs one other = other
begun_append limits files (s ∷ ss) ts (b ∷ bs) cs one other = (one.0, one.1, begun_append limits files ss ts bs cs one.2 other)
begun_append limits files [] ts (b ∷ bs) cs one other = absurd one
begun_append limits files (s ∷ ss) ts [] cs one other = absurd one

ended_append : (es fs : List Ending) (xs ys : List (ℕ × Fate)) → AreEnded es xs → AreEnded fs ys → AreEnded (es ++ fs) (xs ++ ys)
ended_append [] fs [] ys one other = other
ended_append (e ∷ es) fs (x ∷ xs) ys one other = (one.0, one.1, ended_append es fs xs ys one.2 other)
ended_append [] fs (x ∷ xs) ys one other = absurd one
ended_append (e ∷ es) fs [] ys one other = absurd one

have_append : (ns ms : List Note) (ds es : List Deed) → HaveNotes ns ds → HaveNotes ms es → HaveNotes (ns ++ ms) (ds ++ es)
have_append ns ms [] es one other = subst (λ (all : List Note). HaveNotes (all ++ ms) es) (sym one) other
have_append ns ms (deed.Turned note ∷ ds) es (inl noted) other =
    inl (noted.0 ++ ms, ap (λ (all : List Note). all ++ ms) noted.1, have_append noted.0 ms ds es noted.2 other)
have_append ns ms (deed.Turned note ∷ ds) es (inr silent) other = inr (silent.0, have_append ns ms ds es silent.1 other)
have_append ns ms (deed.Connected port ∷ ds) es one other = have_append ns ms ds es one other
have_append ns ms (deed.Disconnected ∷ ds) es one other = have_append ns ms ds es one other
have_append ns ms (deed.Started file job print ∷ ds) es one other = have_append ns ms ds es one other

loses_more : (f : LinkFact) (a b c : ℕ) → b ≤ c → Loses f a b → Loses f a c
loses_more fact.NoPort a b c more so = tt
loses_more fact.Failed a b c more so = rose_more a b c so more
loses_more (fact.Ended end) a b c more so = tt
loses_more fact.Quiet a b c more so = so
loses_more fact.Opened a b c more so = so
loses_more fact.Ready a b c more so = so
loses_more fact.Closed a b c more so = so

loses_before : (f : LinkFact) (a b c : ℕ) → a ≤ b → b ≤ c → Loses f b c → Loses f a c
loses_before fact.NoPort a b c less more so = tt
loses_before fact.Failed a b c less more so = rose_later a b c less more so
loses_before (fact.Ended end) a b c less more so = tt
loses_before fact.Quiet a b c less more so = so
loses_before fact.Opened a b c less more so = so
loses_before fact.Ready a b c less more so = so
loses_before fact.Closed a b c less more so = so

-- what may be there, as a list
abbrev note_list : Option Note → List Note
note_list None = []
note_list (Some note) = note ∷ []

abbrev ending_list : Option Ending → List Ending
ending_list None = []
ending_list (Some ending) = ending ∷ []

-- only one state is lost
lost_state : (s : State) → phase_in s ≡ lost → s ≡ state.Fault
lost_state state.Fault is = refl
lost_state state.Offline is = absurd (cc is)
lost_state state.Connecting is = absurd (cc is)
lost_state state.Operational is = absurd (cc is)
lost_state state.Printing is = absurd (cc is)
lost_state state.Pausing is = absurd (cc is)
lost_state state.Paused is = absurd (cc is)
lost_state state.Cancelling is = absurd (cc is)
lost_state state.Finishing is = absurd (cc is)
lost_state state.Closing is = absurd (cc is)

module _ (files : Option (List ShelfFile)) (printer : ℕ) where
  -- one part and then another
  pub does_then : (es fs : FloorHistory) (a b c : BayData) (k l m : LinkState) → Does files es printer a b k l → Does files fs printer b c l m →
      Does files (es ++ fs) printer a c k m
  does_then es fs a b c k l m first second = record {
    deeds = first.deeds ++ second.deeds;
    deeds_are = second.deeds_are ∙ ap (λ (ds : List Deed). ds ++ second.deeds) first.deeds_are ∙ append_assoc a.deeds first.deeds second.deeds;
    notes =
        subst (λ (ns : List Note). HaveNotes ns (first.deeds ++ second.deeds)) (sym notes_are)
        (have_append (notes_of printer es) (notes_of printer fs) first.deeds second.deeds first.notes second.notes);
    begun = first.begun ++ second.begun;
    ended = first.ended ++ second.ended;
    runs = runs_then first.begun second.begun first.ended second.ended (run_in a) (run_in b) (run_in c) first.runs second.runs;
    begun_are =
        subst (λ (ss : List (PrintRow × QueueEntry)). AreBegun a.session.desk.limits files ss (first.begun ++ second.begun)) (sym (starts_more printer es fs))
        (begun_append a.session.desk.limits files (starts_of printer es) (starts_of printer fs) first.begun second.begun first.begun_are
        (subst (λ (limits : Limits). AreBegun limits files (starts_of printer fs) second.begun) first.limits second.begun_are));
    ended_are =
        subst (λ (ends : List Ending). AreEnded ends (first.ended ++ second.ended)) (sym (endings_of_more printer es fs))
        (ended_append (endings_of printer es) (endings_of printer fs) first.ended second.ended first.ended_are second.ended_are);
    tied = λ front step. subst (λ (kind : LinkKind). IsInStep kind front m.past c) first.kind
        (second.tied front (subst (λ (kind : LinkKind). IsInStep kind front l.past b) (sym first.kind) (first.tied front step)));
    lost = λ is. by_second (second.lost is);
    limits = second.limits ∙ first.limits;
    kind = second.kind ∙ first.kind;
    faults = let x = first.faults in let y = second.faults in omega (arith, x, y);
    up = second.up;
  }
    where
      notes_are : notes_of printer (es ++ fs) ≡ notes_of printer es ++ notes_of printer fs
      notes_are = notes_more printer es fs

      wider : (note : Note) → Contains (notes_of printer es ++ notes_of printer fs) note → Loses note.fact k.faults m.faults →
          IsLostBy (notes_of printer (es ++ fs)) k m
      wider note among loses = record { note = note; among = subst (λ (ns : List Note). Contains ns note) (sym notes_are) among; loses = loses }

      by_first : (b.session.desk.state ≡ state.Fault → (a.session.desk.state ≡ state.Fault) ⊎ IsLostBy (notes_of printer es) k l) →
          b.session.desk.state ≡ state.Fault → (a.session.desk.state ≡ state.Fault) ⊎ IsLostBy (notes_of printer (es ++ fs)) k m
      by_first so is = choose (so is)
        where
          choose : (a.session.desk.state ≡ state.Fault) ⊎ IsLostBy (notes_of printer es) k l →
              (a.session.desk.state ≡ state.Fault) ⊎ IsLostBy (notes_of printer (es ++ fs)) k m
          choose (inl was) = inl was
          choose (inr lost_by) =
              inr (wider lost_by.note (Contains-append_left (notes_of printer es) (notes_of printer fs) lost_by.note lost_by.among)
              (loses_more lost_by.note.fact k.faults l.faults m.faults second.faults lost_by.loses))

      by_second : (b.session.desk.state ≡ state.Fault) ⊎ IsLostBy (notes_of printer fs) l m →
          (a.session.desk.state ≡ state.Fault) ⊎ IsLostBy (notes_of printer (es ++ fs)) k m
      by_second (inl was) = by_first first.lost was
      by_second (inr lost_by) =
          inr (wider lost_by.note (Contains-append_right (notes_of printer es) (notes_of printer fs) lost_by.note lost_by.among)
          (loses_before lost_by.note.fact k.faults l.faults m.faults first.faults second.faults lost_by.loses))

  -- nothing that is told of this printer
  pub does_nothing : (es : FloorHistory) (b : BayData) (l : LinkState) → IsOthers printer es → l.up ≡ b.session.up → Does files es printer b b l l
  does_nothing es b l none up = record {
    deeds = [];
    deeds_are = sym (append-nil b.deeds);
    notes = none.notes;
    begun = [];
    ended = [];
    runs = record { begun_are = sym (append-nil (run_in b).begun); ended_are = sym (append-nil (run_in b).ends) };
    begun_are = subst (λ (ss : List (PrintRow × QueueEntry)). AreBegun b.session.desk.limits files ss []) (sym none.starts) tt;
    ended_are = subst (λ (ends : List Ending). AreEnded ends []) (sym none.ends) tt;
    tied = λ front step. step;
    lost = λ is. inl is;
    limits = refl;
    kind = refl;
    faults = omega arith;
    up = up;
  }

  -- it begins to connect in the first round
  dialled_deeds : (began : Bool) (port : List ℕ) (b new : BayData) → new ≡ dialled began port b →
      (deeds : List Deed) × (new.deeds ≡ b.deeds ++ deeds) × HaveNotes [] deeds
  dialled_deeds true port b new is = ([], ap (λ (c : BayData). c.deeds) is ∙ sym (append-nil b.deeds), refl)
  dialled_deeds false port b new is = (deed.Connected port ∷ [], ap (λ (c : BayData). c.deeds) is, refl)

  pub does_dial : (began : Bool) (port : List ℕ) (b new : BayData) (l : LinkState) → IsDialled began port b new → IsAtRest b.session → l.up ≡ b.session.up →
      Does files [] printer b new l l
  does_dial began port b new l is rests up =
      let at = dial_connects began port b new is.bay_is rests in
      let deeds = dialled_deeds began port b new is.bay_is in
      record {
        deeds = deeds.0;
        deeds_are = deeds.1;
        notes = deeds.2;
        begun = [];
        ended = [];
        runs = is.run;
        begun_are = tt;
        ended_are = tt;
        tied = λ front step. is.tied l.kind front l.past step;
        lost = λ lost. inl (at.lost lost);
        limits = at.limits;
        kind = refl;
        faults = omega arith;
        up = up ∙ sym at.up;
      }

  -- its turn
  module _ (moment : ℕ) (l m : LinkState) (b c : BayData) (turned : Turned) (t : IsBayTurn moment l m b c turned) (still : b.session.desk.stopped ≡ false) where
    abbrev told : FloorHistory
    told = noted_events printer turned.note ++ ended_events printer turned.ending

    notes_by : (note : Option Note) (ending : Option Ending) → notes_of printer (noted_events printer note ++ ended_events printer ending) ≡ note_list note
    notes_by None None = refl
    notes_by None (Some ending) = refl
    notes_by (Some note) None = ap (λ (own : Bool). cond own (note ∷ []) []) (is_own printer)
    notes_by (Some note) (Some ending) = ap (λ (own : Bool). cond own (note ∷ []) []) (is_own printer)

    starts_by : (note : Option Note) (ending : Option Ending) → starts_of printer (noted_events printer note ++ ended_events printer ending) ≡ []
    starts_by None None = refl
    starts_by None (Some ending) = refl
    starts_by (Some note) None = refl
    starts_by (Some note) (Some ending) = refl

    ends_by : (note : Option Note) (ending : Option Ending) → endings_of printer (noted_events printer note ++ ended_events printer ending) ≡ ending_list ending
    ends_by None None = refl
    ends_by None (Some ending) = ap (λ (own : Bool). cond own (ending ∷ []) []) (is_own printer)
    ends_by (Some note) None = refl
    ends_by (Some note) (Some ending) = ap (λ (own : Bool). cond own (ending ∷ []) []) (is_own printer)

    deeds_by : (note : Option Note) → AddsTurn moment c.session.sender.acked b.session.desk.state c.session.desk.state note b.deeds c.deeds →
        (deeds : List Deed) × (c.deeds ≡ b.deeds ++ deeds) × HaveNotes (note_list note) deeds
    deeds_by None (inl same) = ([], same.1 ∙ sym (append-nil b.deeds), refl)
    deeds_by None (inr moved) =
        let q : IsQuietNote moment c.session.sender.acked moved.1.0 = moved.1.1 in
        (deed.Turned moved.1.0 ∷ [], moved.1.2, inr (record { no_line = q.its_lines; no_temps = q.its_temps; quiet = q.its_fact }, refl))
    deeds_by (Some note) added = (deed.Turned note ∷ [], added, inl ([], refl, refl))

    fates_by : (ending : Option Ending) (ended : List (ℕ × Fate)) → AreFates ending ended → AreEnded (ending_list ending) ended
    fates_by None ended none = subst (λ (xs : List (ℕ × Fate)). AreEnded [] xs) (sym none) tt
    fates_by (Some ending) ended fates = subst (λ (xs : List (ℕ × Fate)). AreEnded (ending ∷ []) xs) (sym fates.2) (refl, fates.1, tt)

    lost_by : (note : Option Note) → turned.note ≡ note → phase_in c.session.desk.state ≡ phase_after (fact_of note) (phase_in b.session.desk.state) →
        phase_in c.session.desk.state ≡ lost → (b.session.desk.state ≡ state.Fault) ⊎ IsLostBy (note_list note) l m
    lost_by None none phase is = inl (lost_state b.session.desk.state (sym phase ∙ is))
    lost_by (Some note) noted phase is = by note.fact refl
      where
        among : Contains (note ∷ []) note
        among = (0, omega arith, refl)

        at : (f : LinkFact) → note.fact ≡ f → phase_after f (phase_in b.session.desk.state) ≡ lost
        at f found = ap (λ (g : LinkFact). phase_after g (phase_in b.session.desk.state)) (sym found) ∙ sym phase ∙ is

        lost_so : (f : LinkFact) → note.fact ≡ f → Loses f l.faults m.faults → IsLostBy (note ∷ []) l m
        lost_so f found loses = record { note = note; among = among; loses = subst (λ (g : LinkFact). Loses g l.faults m.faults) (sym found) loses }

        by : (f : LinkFact) → note.fact ≡ f → (b.session.desk.state ≡ state.Fault) ⊎ IsLostBy (note ∷ []) l m
        by fact.Quiet found = inl (lost_state b.session.desk.state (at fact.Quiet found))
        by fact.Opened found = inl (lost_state b.session.desk.state (at fact.Opened found))
        by fact.Ready found = inl (lost_state b.session.desk.state (at fact.Ready found))
        by fact.Closed found = absurd (cc (at fact.Closed found))
        by fact.NoPort found = inr (lost_so fact.NoPort found tt)
        by fact.Failed found = inr (lost_so fact.Failed found (t.counts.rose (ap fact_of noted ∙ found)))
        by (fact.Ended end) found = inr (lost_so (fact.Ended end) found tt)

    pub does_turn : Does files told printer b c l m
    does_turn =
        let deeds = deeds_by turned.note t.added in
        let notes = notes_by turned.note turned.ending in
        let phased = phased_turn moment l.kind b.session c.session turned t.by_note still in
        record {
          deeds = deeds.0;
          deeds_are = deeds.1;
          notes = subst (λ (ns : List Note). HaveNotes ns deeds.0) (sym notes) deeds.2;
          begun = [];
          ended = t.ends.0;
          runs = t.ends.2;
          begun_are =
              subst (λ (ss : List (PrintRow × QueueEntry)). AreBegun b.session.desk.limits files ss []) (sym (starts_by turned.note turned.ending)) tt;
          ended_are =
              subst (λ (ends : List Ending). AreEnded ends t.ends.0) (sym (ends_by turned.note turned.ending)) (fates_by turned.ending t.ends.0 t.ends.1);
          tied = t.tied;
          lost = λ is. subst (λ (ns : List Note). (b.session.desk.state ≡ state.Fault) ⊎ IsLostBy ns l m) (sym notes)
              (lost_by turned.note refl phased.phase (ap phase_in is));
          limits = phased.limits;
          kind = t.kind;
          faults = t.counts.later;
          up = t.up;
        }

  -- what it begins
  pub does_begin : (material : List ℕ) (tables tables' : Option Tables) (old new : LedgerData) (b c : BayData) (l : LinkState) (events : FloorHistory) →
      Begins printer material files tables tables' old new b c events → l.up ≡ b.session.up → Does files events printer b c l l
  does_begin material tables tables' old new b c l events begins up = by begins
    where
      none : (es : FloorHistory) → IsOthers printer es → c ≡ b → events ≡ es → Does files events printer b c l l
      none es others same are =
          let Of : FloorHistory → Type 0 = λ fs. Does files fs printer b c l l in
          let At : BayData → Type 0 = λ d. Does files es printer b d l l in
          subst Of (sym are) (subst At (sym same) (does_nothing es b l others up))

      nothing : IsOthers printer []
      nothing = record { notes = refl; starts = refl; ends = refl }

      by : Begins printer material files tables tables' old new b c events → Does files events printer b c l l
      by (not_free busy is) = none [] nothing is.bay_is is.no_event
      by (nothing_fits free fits is) = none [] nothing is.bay_is is.no_event
      by (takes free lawful entry next (faulty is)) = none [] nothing is.bay_is is.no_event
      by (takes free lawful entry next (passed read is)) =
          none (Passed entry ∷ []) (record { notes = refl; starts = refl; ends = refl }) is.bay_is is.its_event
      by (takes free lawful entry next (started job read is)) =
          let Of : FloorHistory → Type 0 = λ fs. Does files fs printer b c l l in
          let own : starts_of printer (Started printer is.row entry ∷ []) ≡ (is.row, entry) ∷ [] =
          ap (λ (mine : Bool). cond mine ((is.row, entry) ∷ []) []) (is_own printer)
          in
          subst Of (sym is.its_event) (record {
            deeds = deed.Started entry.file job is.row.number ∷ [];
            deeds_are = ap (λ (d : BayData). d.deeds) is.bay_is;
            notes = refl;
            begun = (is.row.number, texts_of job) ∷ [];
            ended = [];
            runs = is.begun;
            begun_are =
                subst (λ (ss : List (PrintRow × QueueEntry)). AreBegun b.session.desk.limits files ss ((is.row.number, texts_of job) ∷ [])) (sym own)
                (refl, (job, refl, λ held at. sym (read held at)), tt);
            ended_are = tt;
            tied = λ front step. is.tied l.kind front l.past step;
            lost = λ lost. absurd (cc (sym lost ∙ ap (λ (d : Data). d.state) is.printing_is));
            limits = ap (λ (d : Data). d.limits) is.printing_is;
            kind = refl;
            faults = omega arith;
            up = up ∙ sym (ap (λ (d : BayData). d.session.up) is.bay_is);
          })
