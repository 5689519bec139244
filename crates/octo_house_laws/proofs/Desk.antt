-- A desk all of whose lines are cool stays so by every call.
use Rattle.std.proofs.Common.{◌≡◌, ℕ, Bool, true, false, cond, List, [], ◌∷◌, Option, Some, None, refl, sym, ◌∙◌, ap, subst}
use Rattle.std.specs.List.{AllByRecursion}
use Rattle.temp_rules.specs.Hot.{first_hot_of}
use Rattle.temp_rules.specs.declared.job.HotLine.{HotLine}
use Rattle.temp_rules.specs.declared.limits.Limits.{Limits}
use Rattle.std.specs.Prelude.{◌&&◌}
use Rattle.job_desk.specs.Data.{Data, File, Line, texts_at, tagged, script_lines, with_script, commands_of}
use Rattle.job_desk.specs.Endings.{has_print}
use Rattle.job_desk.specs.Note.{Noted, is_over, end_at, after_ending, after_open, ready_at, leave, fail, note_fact, note_step, with_acked, hung_up}
use Rattle.job_desk.specs.Pull.{is_issued, settle_at, settled}
use Rattle.job_desk.specs.Table.{connect_at, disconnect_at, closing, select_at, is_named, drop_file_step, printing, start_checked, start_file, start_at, restart_at, pause_at, resume_at, toggle_at, cancelling, cancel_at, add_manual, manual_at, take_manual, is_stop, may_stop_closing, stopping}
use Rattle.job_desk.specs.declared.link_fact.LinkFact.{LinkFact}
use Rattle.job_desk.specs.declared.link_fact.LinkFact.TheVariants as fact
use Rattle.job_desk.specs.declared.state.Point.{Point}
use Rattle.job_desk.specs.declared.state.Point.TheVariants as point
use Rattle.job_desk.specs.declared.state.State.{State}
use Rattle.job_desk.specs.declared.state.State.TheVariants.{Offline, Connecting, Operational, Printing, Pausing, Paused, Cancelling, Finishing, Closing, Fault}
use Rattle.job_desk.specs.declared.state.Tag.{Tag}
use Rattle.job_desk.specs.declared.state.Tag.TheVariants.{Script}
use Rattle.print_queue.specs.declared.ending.Outcome.{Outcome}
use Rattle.print_queue.specs.declared.ending.Outcome.TheVariants as outcome
use Rattle.octo_house_laws.specs.Limits.{IsCool}
use Rattle.octo_house_laws.proofs.Texts.{each_append, commands_cool}
use Rattle.std.proofs.lemmas.Bool.{cond_both}

-- the scripts, the lines that wait and, while there is a print, its file's commands are cool
pub record Cool (limits : Limits) (d : Data) : Type 0 where
  pub limits_are : d.limits ≡ limits
  pub scripts : (at : Point) → AllByRecursion (IsCool limits) (texts_at at d.scripts)
  pub waiting : AllByRecursion (λ (line : Line). IsCool limits line.text) d.waiting
  pub manual : AllByRecursion (IsCool limits) d.manual
  pub file : has_print d.state ≡ true → AllByRecursion (IsCool limits) (commands_of d.file)

module _ (limits : Limits) where
  -- the commands of a selection are cool
  abbrev HasCoolFile : Data → Type 0
  HasCoolFile d = AllByRecursion (IsCool limits) (commands_of d.file)

  -- in this state, if the desk is in it
  printed : (s : State) (d : Data) → d.state ≡ s → has_print s ≡ true → Cool limits d → HasCoolFile d
  printed s d is has h = h.file (ap has_print is ∙ has)

  unprinted : {A : Type 0} (s : State) (e : State) → e ≡ s → has_print s ≡ false → has_print e ≡ true → A
  unprinted s e is none has = let both : has_print e ≡ false = ap has_print is ∙ none in absurd (cc (sym both ∙ has))

  -- another state
  in_state : (s : State) (d : Data) → Cool limits d → (has_print s ≡ true → HasCoolFile d) → Cool limits (record d { state = s })
  in_state s d h f = record { limits_are = h.limits_are; scripts = h.scripts; waiting = h.waiting; manual = h.manual; file = f }

  tagged_cool : (tag : Tag) (texts : List (List ℕ)) → AllByRecursion (IsCool limits) texts
      → AllByRecursion (λ (line : Line). IsCool limits line.text) (tagged tag texts)
  tagged_cool tag [] h = tt
  tagged_cool tag (text ∷ texts) h = (h.0, tagged_cool tag texts h.1)

  -- a script joins those that wait
  joins_cool : (at : Point) (print : ℕ) (d : Data) → Cool limits d → Cool limits (with_script at print d)
  joins_cool at print d h = record {
    limits_are = h.limits_are;
    scripts = h.scripts;
    waiting = each_append (λ (line : Line). IsCool limits line.text) d.waiting (script_lines d.scripts at print) h.waiting (tagged_cool
        (Script at print) (texts_at at d.scripts) (h.scripts at));
    manual = h.manual;
    file = h.file;
  }

  pub cool_connect : (s : State) (port : List ℕ) (d : Data) → Cool limits d → Cool limits (connect_at s port d).1
  cool_connect Offline port d h = record {
    limits_are = h.limits_are;
    scripts = h.scripts;
    waiting = h.waiting;
    manual = h.manual;
    file = λ has. absurd (cc has);
  }
  cool_connect Fault port d h = record {
    limits_are = h.limits_are;
    scripts = h.scripts;
    waiting = h.waiting;
    manual = h.manual;
    file = λ has. absurd (cc has);
  }
  cool_connect _ port d h = h

  cool_closing : (d : Data) → Cool limits d → Cool limits (closing d)
  cool_closing d h = joins_cool point.Disconnect 0 (record d { state = Closing; manual = [] }) (record {
    limits_are = h.limits_are;
    scripts = h.scripts;
    waiting = h.waiting;
    manual = tt;
    file = λ has. absurd (cc has);
  })

  pub cool_disconnect : (s : State) (d : Data) → Cool limits d → Cool limits (disconnect_at s d)
  cool_disconnect Offline d h = h
  cool_disconnect Connecting d h = in_state Closing d h (λ has. absurd (cc has))
  cool_disconnect Closing d h = record {
    limits_are = h.limits_are;
    scripts = h.scripts;
    waiting = h.waiting;
    manual = h.manual;
    file = h.file;
  }
  cool_disconnect Fault d h = in_state Offline d h (λ has. absurd (cc has))
  cool_disconnect _ d h = cool_closing d h

  -- a file is selected if there is no print
  selected : (s : State) (file : Option File) (d : Data) → d.state ≡ s → has_print s ≡ false → Cool limits d → Cool limits (record d { file = file })
  selected s file d is none h = record {
    limits_are = h.limits_are;
    scripts = h.scripts;
    waiting = h.waiting;
    manual = h.manual;
    file = λ has. (unprinted s d.state is none has);
  }

  pub cool_select : (s : State) (file : File) (d : Data) → d.state ≡ s → Cool limits d → Cool limits (select_at s file d).1
  cool_select Offline file d is h = selected Offline (Some file) d is refl h
  cool_select Connecting file d is h = selected Connecting (Some file) d is refl h
  cool_select Operational file d is h = selected Operational (Some file) d is refl h
  cool_select Fault file d is h = selected Fault (Some file) d is refl h
  cool_select _ file d is h = h

  -- one of two desks
  pub choose_cool : {X : Type 0} (b : Bool) (x y : X × Data) → Cool limits x.1 → Cool limits y.1 → Cool limits (cond b x y).1
  choose_cool true x y hx hy = hx
  choose_cool false x y hx hy = hy

  pub cool_drop : (name : List ℕ) (d : Data) → Cool limits d → Cool limits (drop_file_step name d).1
  cool_drop name d h =
      choose_cool (is_named name d.file) _ _ (choose_cool d.active _ _ h
      (record { limits_are = h.limits_are; scripts = h.scripts; waiting = h.waiting; manual = h.manual; file = λ has. tt })) h

  -- a print of a selection begins
  cool_printing : (print : ℕ) (d : Data) → Cool limits d → HasCoolFile d → Cool limits (printing print d)
  cool_printing print d h f = joins_cool point.Started print (record d {
    state = Printing;
    greatest = print;
    active = true;
    cursor = 0;
    print_line = 0;
  }) (record { limits_are = h.limits_are; scripts = h.scripts; waiting = h.waiting; manual = h.manual; file = λ has. f })

  cool_checked : (hot : Option HotLine) (print : ℕ) (file : File) (d : Data) → first_hot_of limits file.job.commands ≡ hot → d.file ≡ Some file
      → Cool limits d → Cool limits (start_checked hot print d).1
  cool_checked None print file d none is h = cool_printing print d h (subst (λ o. AllByRecursion (IsCool limits) (commands_of o)) (sym is)
      (commands_cool limits file.job.commands none))
  cool_checked (Some hot) print file d none is h = h

  cool_start_file : (file : Option File) (print : ℕ) (d : Data) → d.file ≡ file → Cool limits d → Cool limits (start_file file print d).1
  cool_start_file None print d is h = h
  cool_start_file (Some file) print d is h = cool_checked (first_hot_of d.limits file.job.commands) print file d (ap
      (λ l. first_hot_of l file.job.commands) (sym h.limits_are)) is h

  pub cool_start : (s : State) (print : ℕ) (d : Data) → Cool limits d → Cool limits (start_at s print d).1
  cool_start Operational print d h = cool_start_file d.file print d refl h
  cool_start _ print d h = h

  -- the file of a paused print was tested when it began
  pub cool_restart : (s : State) (print : ℕ) (d : Data) → d.state ≡ s → Cool limits d → Cool limits (restart_at s print d).1
  cool_restart Paused print d is h = cool_printing print d h (printed Paused d is refl h)
  cool_restart _ print d is h = h

  cool_pausing : (d : Data) → Cool limits d → HasCoolFile d → Cool limits (with_script point.Paused d.greatest (record d { state = Pausing }))
  cool_pausing d h f = joins_cool point.Paused d.greatest (record d { state = Pausing }) (in_state Pausing d h (λ has. f))

  cool_resuming : (d : Data) → Cool limits d → HasCoolFile d → Cool limits (with_script point.Resumed d.greatest (record d { state = Printing }))
  cool_resuming d h f = joins_cool point.Resumed d.greatest (record d { state = Printing }) (in_state Printing d h (λ has. f))

  cool_cancelling : (d : Data) → Cool limits d → HasCoolFile d → Cool limits (cancelling d)
  cool_cancelling d h f = joins_cool point.Cancelled d.greatest (record d { state = Cancelling }) (in_state Cancelling d h (λ has. f))

  pub cool_pause : (s : State) (d : Data) → d.state ≡ s → Cool limits d → Cool limits (pause_at s d).1
  cool_pause Printing d is h = cool_pausing d h (printed Printing d is refl h)
  cool_pause _ d is h = h

  pub cool_resume : (s : State) (d : Data) → d.state ≡ s → Cool limits d → Cool limits (resume_at s d).1
  cool_resume Paused d is h = cool_resuming d h (printed Paused d is refl h)
  cool_resume _ d is h = h

  pub cool_toggle : (s : State) (d : Data) → d.state ≡ s → Cool limits d → Cool limits (toggle_at s d).1
  cool_toggle Printing d is h = cool_pausing d h (printed Printing d is refl h)
  cool_toggle Paused d is h = cool_resuming d h (printed Paused d is refl h)
  cool_toggle _ d is h = h

  pub cool_cancel : (s : State) (d : Data) → d.state ≡ s → Cool limits d → Cool limits (cancel_at s d).1
  cool_cancel Printing d is h = cool_cancelling d h (printed Printing d is refl h)
  cool_cancel Pausing d is h = cool_cancelling d h (printed Pausing d is refl h)
  cool_cancel Paused d is h = cool_cancelling d h (printed Paused d is refl h)
  cool_cancel _ d is h = h

  cool_adds : (texts : List (List ℕ)) (d : Data) → AllByRecursion (IsCool limits) texts → Cool limits d → Cool limits (add_manual texts d).1
  cool_adds texts d cool h =
      choose_cool _ _ _ h
      (record {
        limits_are = h.limits_are;
        scripts = h.scripts;
        waiting = h.waiting;
        manual = each_append (IsCool limits) d.manual texts h.manual cool;
        file = h.file;
      })

  cool_stopping : (texts : List (List ℕ)) (d : Data) → AllByRecursion (IsCool limits) texts → Cool limits d → Cool limits (stopping texts d)
  cool_stopping texts d cool h = record {
    limits_are = h.limits_are;
    scripts = h.scripts;
    waiting = h.waiting;
    manual = cool;
    file = λ has. absurd (cc has);
  }

  cool_takes : (texts : List (List ℕ)) (d : Data) → AllByRecursion (IsCool limits) texts → Cool limits d → Cool limits (take_manual texts d).1
  cool_takes texts d cool h = choose_cool (is_stop texts) _ _ (cool_stopping texts d cool h) (cool_adds texts d cool h)

  pub cool_manual : (s : State) (texts : List (List ℕ)) (d : Data) → AllByRecursion (IsCool limits) texts → Cool limits d
      → Cool limits (manual_at s texts d).1
  cool_manual Operational texts d cool h = cool_takes texts d cool h
  cool_manual Printing texts d cool h = cool_takes texts d cool h
  cool_manual Pausing texts d cool h = cool_takes texts d cool h
  cool_manual Paused texts d cool h = cool_takes texts d cool h
  cool_manual Cancelling texts d cool h = cool_takes texts d cool h
  cool_manual Finishing texts d cool h = cool_takes texts d cool h
  cool_manual Connecting texts d cool h = choose_cool (is_stop texts && d.linked) _ _ (cool_stopping texts d cool h) h
  cool_manual Closing texts d cool h = choose_cool (is_stop texts && may_stop_closing d) _ _ (cool_stopping texts d cool h) h
  cool_manual _ texts d cool h = h

  cool_finishing : (s : State) (d : Data) → d.state ≡ s → Cool limits d → Cool limits (settle_at s d)
  cool_finishing Printing d is h =
      cond_both (is_issued d) _ d (Cool limits) (λ _. joins_cool point.Done d.greatest (record d { state = Finishing }) (in_state Finishing d h (λ has.
      (printed Printing d is refl h)))) (λ _. h)
  cool_finishing _ d is h = h

  pub cool_settled : (d : Data) → Cool limits d → Cool limits (settled d)
  cool_settled d h = cool_finishing d.state d refl h

  -- a note
  cool_free : (d : Data) → Cool limits d → Cool limits (record d { state = Operational; active = false })
  cool_free d h = record { limits_are = h.limits_are; scripts = h.scripts; waiting = h.waiting; manual = h.manual; file = λ has. absurd (cc has) }

  cool_end : (s : State) (d : Data) → d.state ≡ s → Cool limits d → Cool limits (end_at s d).1
  cool_end Pausing d is h = choose_cool (is_over d) _ _ (in_state Paused d h (λ has. (printed Pausing d is refl h))) h
  cool_end Cancelling d is h = choose_cool (is_over d) _ _ (cool_free d h) h
  cool_end Finishing d is h = choose_cool (is_over d) _ _ (cool_free d h) h
  cool_end _ d is h = h

  cool_ended : (d : Data) → Cool limits d → Cool limits (after_ending d).1
  cool_ended d h = cool_end d.state d refl h

  cool_leave : (s : State) (how : Outcome) (d : Data) → has_print s ≡ false → Cool limits d → Cool limits (leave s how d).1
  cool_leave s how d none h = record {
    limits_are = h.limits_are;
    scripts = h.scripts;
    waiting = tt;
    manual = tt;
    file = λ has. (unprinted s s refl none has);
  }

  cool_hung : (b : Bool) (d : Data) → Cool limits d → Cool limits (hung_up b d).1
  cool_hung false d h = cool_leave Offline outcome.Cancelled d refl h
  cool_hung true d h = cool_leave Fault outcome.Failed d refl h

  cool_fail : (noted : Noted) → Cool limits noted.1 → Cool limits (fail noted).1
  cool_fail (None, d) h = cool_leave Fault outcome.Failed d refl h
  cool_fail (Some ending, d) h = cool_leave Fault outcome.Failed d refl h

  cool_ready : (s : State) (moment : ℕ) (d : Data) → Cool limits d → Cool limits (ready_at s moment d)
  cool_ready Connecting moment d h =
      joins_cool point.Connected 0 _ (record {
        limits_are = h.limits_are;
        scripts = h.scripts;
        waiting = h.waiting;
        manual = h.manual;
        file = λ has. absurd (cc has);
      })
  cool_ready _ moment d h = h

  -- a desk that differs in other fields
  pub alike_cool : (d e : Data) → (e.limits ≡ d.limits) × (e.scripts ≡ d.scripts) × (e.waiting ≡ d.waiting) × (e.manual ≡ d.manual) ×
      (e.file ≡ d.file) × (e.state ≡ d.state) → Cool limits d → Cool limits e
  alike_cool d e a h = record {
    limits_are = a.0 ∙ h.limits_are;
    scripts = λ at. (subst (λ t. AllByRecursion (IsCool limits) (texts_at at t)) (sym a.1) (h.scripts at));
    waiting = subst (λ w. AllByRecursion (λ (line : Line). IsCool limits line.text) w) (sym a.2) h.waiting;
    manual = subst (λ m. AllByRecursion (IsCool limits) m) (sym a.3) h.manual;
    file = λ has. (subst (λ f. AllByRecursion (IsCool limits) (commands_of f)) (sym a.4) (h.file (ap has_print (sym a.5) ∙ has)));
  }

  cool_fact : (f : LinkFact) (moment : ℕ) (d : Data) → Cool limits d → Cool limits (note_fact f moment d).1
  cool_fact fact.Quiet moment d h = cool_ended d h
  cool_fact fact.Opened moment d h = cool_ended (after_open d) (alike_cool d (after_open d) (refl, refl, refl, refl, refl, refl) h)
  cool_fact fact.Ready moment d h =
      let heard : Data = record d { ready = true } in
      cool_ended (ready_at heard.state moment heard) (cool_ready heard.state moment heard (alike_cool d heard (refl, refl, refl, refl, refl, refl) h))
  cool_fact fact.Closed moment d h = cool_hung d.stopped d h
  cool_fact fact.NoPort moment d h = cool_leave Fault outcome.Failed d refl h
  cool_fact fact.Failed moment d h = cool_fail (after_ending d) (cool_ended d h)
  cool_fact (fact.Ended end) moment d h = cool_fail (after_ending d) (cool_ended d h)

  pub cool_note : (acked : ℕ) (f : LinkFact) (moment : ℕ) (d : Data) → Cool limits d → Cool limits (note_step acked f moment d).1
  cool_note acked f moment d h =
      let told : Data = with_acked acked moment d in
      cool_settled (note_fact f moment told).1 (cool_fact f moment told (alike_cool d told (refl, refl, refl, refl, refl, refl) h))
