-- A turn of a print that goes on over a prompt link: it leaves one turn less.
use Rattle.std.proofs.Common.{◌≡◌, ◌⊎◌, inl, inr, ℕ, ◌+◌, ◌-◌, ◌<◌, ◌≤◌, Bool, true, false, List, [], ◌++◌, length, length-append, refl, sym, ◌∙◌, ap, subst, arith}
use Rattle.std.specs.Prelude.{Option, None, Some}
use Rattle.std.proofs.lemmas.List.{length-map}
use Rattle.job_desk.specs.Data.{Data, moment_after}
use Rattle.job_desk.specs.Table.{is_closable_at, disconnect_at}
use Rattle.job_desk.specs.Pull.{pull_step}
use Rattle.job_desk.specs.declared.link_fact.LinkFact.{LinkFact}
use Rattle.job_desk.specs.declared.link_fact.LinkFact.TheVariants as fact
use Rattle.job_desk.specs.declared.state.State.TheVariants.{Printing, Finishing, Closing}
use Rattle.print_queue.specs.declared.ending.Ending.{Ending}
use Rattle.printer_model.specs.World.{WorldData, world_from}
use Rattle.printer_model.specs.declared.event.WorldEvent.{WorldEvent}
use Rattle.printer_link.specs.Link.{LinkKind, world_in}
use Rattle.send_window.specs.Data.{SenderData, most_lines}
use Rattle.send_window.specs.Sending.{room_of}
use Rattle.send_window.specs.declared.session_end.SessionEnd.{SessionEnd}
use Rattle.octo_session.specs.Data.{SessionData, doing}
use Rattle.octo_session.specs.DeskTurn.{IsNoted}
use Rattle.octo_session.specs.Found.{Got, unasked, lost, nothing, whole, can_find, end_by, up_after}
use Rattle.octo_session.specs.Steps.{steps_over_link}
use Rattle.octo_session.specs.Turn.{fact_of, texts_in, IsSpent}
use Rattle.octo_session.specs.declared.found.Doing.TheVariants.{UsingLink}
use Rattle.octo_session.specs.declared.found.Turned.{Turned}
use Rattle.octo_session_print.specs.Prompt.{IsReadySession}
use Rattle.octo_session_print.proofs.Prompted.{HasGoneOn, prompt_talk, heard_goes_on, silence_goes_on}
use Rattle.octo_session_print.specs.Plan.{PrintData}
use Rattle.octo_session_print.specs.Underway.{standing, IsUnderway}
use Rattle.octo_session_print.specs.Remaining.{remaining, is_giving, planned_count, ArePaced}
use Rattle.octo_session_print.specs.Turned.{IsTurnOf}
use Rattle.octo_session_print.proofs.Calls.{disconnect-underway}
use Rattle.octo_session_print.proofs.Remaining.{disconnect-remaining}
use Rattle.octo_session_print.proofs.TurnsRemaining.{turn-remaining}
use Rattle.octo_session_print.proofs.Idle.{idle-remaining, done-next, closes-next}
use Rattle.octo_session_print.specs.OnWay.{IsAt, HasCourse, IsInPrint, Silences, starts, prints, leaves, closes, IsGoing, goes, LeadsOn}
use Rattle.octo_session_print.proofs.Parts.{some_room, all_spoken, below_or_same, some_silence, gives_in_print, finishes, closes_not}
use Rattle.octo_session_print.proofs.Desks.{IsQuietFor, goes as goes_on, ends as ends_so, closes as closes_on, quiet_ending, quiet_settles, quiet_prints, quiet_closes, quiet_paced}
use Rattle.octo_session_print.proofs.Turns.{HasTurned, HasAdded, at_world, talks_if, hangs_if, its_fact, may_find, not_failed, steps_for, noted_for, course_of, receives, more_acked, stays_ready, hangs_closed}
use Rattle.std.proofs.lemmas.Option.{none-some}

module _ (moment at poll_ms : ℕ) (kind : LinkKind) (old_past new_past : Option (List WorldEvent)) (old_calls new_calls : Option ℕ) (old mid : SessionData) (turned : Turned) (h : HasTurned moment at poll_ms kind old_past new_past old_calls new_calls old mid turned) (p : PrintData) (left : ℕ) (g : IsGoing kind p poll_ms moment left old_past old) where
  fact_is : fact_of turned.note ≡ h.turn.found
  fact_is = its_fact moment at poll_ms kind old_past new_past old_calls new_calls old mid turned h

  abbrev texts : List (List ℕ)
  texts = texts_in h.turn.lines

  abbrev w : WorldData
  w = world_in kind g.saying.now

  i : IsReadySession old.sender w
  i = g.saying.is

  few : old.sender.issued < most_lines
  few = omega (arith, g.enough, g.few)

  -- A turn that finds the connection open.

  module _ (unshut : is_closable_at old.desk.state old.desk ≡ false) where
    talks : doing old ≡ UsingLink
    talks = talks_if old g.up unshut

    asked : (h.turn.got ≡ unasked → ⊥) × (h.turn.got ≡ lost → ⊥)
    asked = receives moment at poll_ms kind old_past new_past old_calls new_calls old mid turned h talks

    steps : HasAdded moment kind (steps_over_link h.turn.got h.turn.found texts h.turn.steps.count) old.sender mid.sender g.saying.now new_past
    steps = steps_for moment at poll_ms kind old_past new_past old_calls new_calls old mid turned h UsingLink talks g.saying.now g.saying.recorded

    steps_got : (got : Got) → h.turn.got ≡ got → HasAdded moment kind (steps_over_link got h.turn.found texts h.turn.steps.count) old.sender mid.sender g.saying.now new_past
    steps_got got is =
        let G : Got → Type 0 = λ x. HasAdded moment kind (steps_over_link x h.turn.found texts h.turn.steps.count) old.sender mid.sender g.saying.now new_past in
        subst G is steps

    -- the session doesn't end
    unended : (got : Got) → h.turn.got ≡ got → end_by got moment old.sender ≡ None
    unended unasked is = absurd (asked.0 is)
    unended lost is = absurd (asked.1 is)
    unended nothing is =
        let a = steps_got nothing is in
        silence_goes_on moment texts h.turn.steps.count old.sender w a.added i g.spoken few h.small a.are.0 a.are.3.0 (a.are.3.1 refl)
    unended (whole bytes) is =
        let a = steps_got (whole bytes) is in
        heard_goes_on moment texts h.turn.steps.count old.sender w a.added i g.spoken few h.small bytes a.are.0 a.are.3.0 (a.are.3.1 refl)

    -- A quiet one.

    module _ (found : h.turn.found ≡ fact.Quiet) where
      added : HasAdded moment kind (steps_over_link h.turn.got fact.Quiet texts h.turn.steps.count) old.sender mid.sender g.saying.now new_past
      added =
          let F : LinkFact → Type 0 = λ x. HasAdded moment kind (steps_over_link h.turn.got x texts h.turn.steps.count) old.sender mid.sender g.saying.now new_past in
          subst F found steps

      gone : HasGoneOn h.turn.got old.sender mid.sender (world_from w added.added)
      gone =
          let S : SenderData → Type 0 = λ t. HasGoneOn h.turn.got old.sender t (world_from w added.added) in
          subst S (sym added.sender)
          (prompt_talk moment texts h.turn.steps.count old.sender w added.added i g.spoken few h.small h.turn.got asked.0 asked.1 added.allowed added.are)

      up : mid.up ≡ true
      up = h.kept.up ∙ ap (λ (f : LinkFact). up_after f old.up) (fact_is ∙ found) ∙ g.up

      spent : IsSpent moment old.desk mid.desk mid.sender
      spent = h.kept.spent up (fact_is ∙ found)

      spoken : mid.sender.cursor ≡ mid.sender.issued + 1
      spoken = all_spoken mid.sender gone.saying.running (gone.saying.sound.hello_before gone.saying.ready_is) gone.saying.sound.not_past spent.sent

      more : old.desk.acked ≤ mid.sender.acked
      more = more_acked moment at poll_ms kind old_past new_past old_calls new_calls old mid turned h
          (λ opens. (let no : fact.Quiet ≡ fact.Opened = sym found ∙ opens in absurd (cc)))

      noted : IsNoted moment mid.sender.acked fact.Quiet h.turn.lines old.desk turned.ending mid.desk
      noted =
          let N : LinkFact → Type 0 = λ x. IsNoted moment mid.sender.acked x h.turn.lines old.desk turned.ending mid.desk in
          subst N found (noted_for moment at poll_ms kind old_past new_past old_calls new_calls old mid turned h UsingLink talks)

      turn_course : IsTurnOf p fact.Quiet h.turn.lines g.desk.issued old.desk turned.ending mid.desk
      turn_course =
          let F : LinkFact → Type 0 = λ f. IsTurnOf p f h.turn.lines g.desk.issued old.desk turned.ending mid.desk in
          subst F found (course_of moment at poll_ms kind old_past new_past old_calls new_calls old mid turned h p g.desk.issued g.desk.course)

      abbrev now : List (List ℕ)
      now = g.desk.issued ++ texts_in h.turn.lines

      course : IsUnderway p mid.desk now
      course = turn_course.underway

      -- as many lines were issued as the desk returned
      issued_more : mid.sender.issued ≡ old.sender.issued + length h.turn.lines
      issued_more =
          let before = g.desk.course.counted (omega (arith, h.kept.before.issued, few)) in
          let after = course.counted (omega (arith, h.joined.issued, gone.saying.sound.few)) in
          let both : length now ≡ length g.desk.issued + length (texts_in h.turn.lines) = length-append g.desk.issued (texts_in h.turn.lines) in
          let each : length (texts_in h.turn.lines) ≡ length h.turn.lines = length-map h.turn.lines _ in
          omega (arith, before.all, after.all, both, each, h.kept.before.issued, h.joined.issued)

      planned : remaining p (standing mid.desk) + planned_count h.turn.lines ≡ remaining p (standing old.desk)
      planned = turn-remaining p moment mid.sender.acked h.turn.lines old.desk turned.ending mid.desk g.desk.issued more noted g.desk.course

      later : moment < moment_after moment old.desk.poll_ms
      later = subst (λ (ms : ℕ). moment < moment_after moment ms) (sym g.desk.its_ms) h.poll_later

      paced : ArePaced moment h.turn.lines old.desk mid.desk × (mid.desk.poll_ms ≡ old.desk.poll_ms)
      paced = quiet_paced p g.desk.plain moment mid.sender.acked h.turn.lines old.desk turned.ending mid.desk g.desk.issued later more noted g.desk.course

      still_few : mid.sender.issued < most_lines
      still_few = by paced.0
        where
          by : ArePaced moment h.turn.lines old.desk mid.desk → mid.sender.issued < most_lines
          by (inl same) = omega (arith, same.0, issued_more, planned, g.enough, g.few)
          by (inr polled) = omega (arith, polled.0, issued_more, planned, g.enough, g.few, g.due_is polled.1)

      -- with all acknowledged nothing waits and no command is left
      idle : is_giving mid.desk.state ≡ true → mid.sender.acked ≡ mid.sender.issued → (mid.desk.waiting ≡ []) × (mid.desk.state ≡ Printing → ⊥)
      idle gives all = by spent.issued
        where
          by : (room_of mid.sender ≡ 0) ⊎ ((pull_step moment mid.desk).0 ≡ None) → (mid.desk.waiting ≡ []) × (mid.desk.state ≡ Printing → ⊥)
          by (inl none) = absurd (some_room mid.sender gone.saying.running gone.saying.ready_is gone.saying.sound all still_few none)
          by (inr none) =
              idle-remaining p moment mid.desk now gives
              (quiet_settles moment mid.sender.acked h.turn.lines old.desk turned.ending mid.desk noted) none course

      -- the print with this desk, and this number of turns to come that hear nothing
      going_with : (e : Data) → HasCourse p poll_ms e → e.poll_at ≡ mid.desk.poll_at → remaining p (standing e) ≡ remaining p (standing mid.desk) →
          (n : ℕ) → Silences e mid.sender n → n ≤ g.silences → (old.sender.acked ≡ old.sender.issued → n + 1 ≤ g.silences) →
          IsGoing kind p poll_ms at (left - 1) new_past (record mid { desk = e })
      going_with e desk poll rest n phase fewer fewest =
          by (below_or_same (length old.sender.held) old.sender.acked old.sender.issued i.sound.counted) paced.0
        where
          saying : IsAt kind new_past (IsReadySession mid.sender)
          saying = at_world kind g.saying.now added.added new_past (λ v. IsReadySession mid.sender v) added.recorded gone.saying

          some : 1 ≤ n
          some = some_silence e mid.sender n phase

          unrested : old.sender.acked < old.sender.issued → at ≡ moment
          unrested unacked = h.at_heard (h.turn.heard ∙ (gone.more unacked).1)

          by : (old.sender.acked < old.sender.issued) ⊎ (old.sender.acked ≡ old.sender.issued) → ArePaced moment h.turn.lines old.desk mid.desk →
              IsGoing kind p poll_ms at (left - 1) new_past (record mid { desk = e })
          by (inl unacked) (inl same) =
              let one : mid.sender.acked ≡ old.sender.acked + 1 = (gone.more unacked).0 in
              record {
                up = up;
                desk = desk;
                saying = saying;
                spoken = spoken;
                due = g.due;
                due_is = λ due_now. g.due_is (omega (arith, due_now, poll, same.1, unrested unacked));
                silences = n;
                phase = phase;
                enough = omega (arith, one, same.0, issued_more, planned, rest, fewer, some, g.enough);
                few = omega (arith, one, unacked, some, fewer, g.enough, g.few, few);
              }
          by (inl unacked) (inr polled) =
              let one : mid.sender.acked ≡ old.sender.acked + 1 = (gone.more unacked).0 in
              record {
                up = up;
                desk = desk;
                saying = saying;
                spoken = spoken;
                due = 0;
                due_is = λ due_now. absurd (omega (arith, due_now, poll, polled.2, unrested unacked, later));
                silences = n;
                phase = phase;
                enough = omega (arith, one, polled.0, g.due_is polled.1, issued_more, planned, rest, fewer, some, g.enough);
                few = omega (arith, one, unacked, some, fewer, g.enough, g.few, few);
              }
          by (inr all) (inl same) =
              let none : mid.sender.acked ≡ old.sender.acked = (gone.same all).0 in
              record {
                up = up;
                desk = desk;
                saying = saying;
                spoken = spoken;
                due = 1;
                due_is = λ due_now. omega arith;
                silences = n;
                phase = phase;
                enough = omega (arith, none, all, same.0, issued_more, planned, rest, fewest all, some, g.enough);
                few = omega (arith, none, g.few);
              }
          by (inr all) (inr polled) =
              let none : mid.sender.acked ≡ old.sender.acked = (gone.same all).0 in
              record {
                up = up;
                desk = desk;
                saying = saying;
                spoken = spoken;
                due = 1;
                due_is = λ due_now. omega arith;
                silences = n;
                phase = phase;
                enough = omega (arith, none, all, polled.0, g.due_is polled.1, issued_more, planned, rest, fewest all, some, g.enough);
                few = omega (arith, none, g.few);
              }

      -- the desk stays as the turn left it
      goes_with : (n : ℕ) → Silences mid.desk mid.sender n → n ≤ g.silences → (old.sender.acked ≡ old.sender.issued → n + 1 ≤ g.silences) →
          turned.ending ≡ None → LeadsOn fact.Quiet turned.ending kind p poll_ms at (left - 1) new_past mid
      goes_with n phase fewer fewest none =
          let L : Option Ending → Type 0 = λ e. LeadsOn fact.Quiet e kind p poll_ms at (left - 1) new_past mid in
          let desk : HasCourse p poll_ms mid.desk = record { issued = now; course = course; cool = g.desk.cool; its_ms = paced.1 ∙ g.desk.its_ms; plain = g.desk.plain } in
          subst L (sym none) (goes (going_with mid.desk desk refl refl n phase fewer fewest))

      -- the print ended, and the desk disconnects
      leaves_with : 2 ≤ g.silences → (old.sender.acked ≡ old.sender.issued → 3 ≤ g.silences) → (e : Ending) → turned.ending ≡ Some e →
          LeadsOn fact.Quiet turned.ending kind p poll_ms at (left - 1) new_past mid
      leaves_with fewer fewest e is =
          let free = turn_course.leaves e refl is in
          let leaving : Data = disconnect_at mid.desk.state mid.desk in
          let L : Option Ending → Type 0 = λ x. LeadsOn fact.Quiet x kind p poll_ms at (left - 1) new_past mid in
          let ms : leaving.poll_ms ≡ mid.desk.poll_ms = ap (λ s. (disconnect_at s mid.desk).poll_ms) free.0 in
          let desk : HasCourse p poll_ms leaving =
          record { issued = now; course = disconnect-underway p mid.desk now free.0 free.1 course; cool = g.desk.cool; its_ms = ms ∙ paced.1 ∙ g.desk.its_ms; plain = g.desk.plain }
          in
          subst L (sym is)
          (goes (going_with leaving desk (ap (λ s. (disconnect_at s mid.desk).poll_at) free.0) (disconnect-remaining p mid.desk now free.0 free.1 course)
          2 (leaves (ap (λ s. (disconnect_at s mid.desk).state) free.0)) fewer fewest))

      -- the print is active
      print_leads : IsInPrint old.desk.state → 3 ≤ g.silences → (old.sender.acked ≡ old.sender.issued → turned.ending ≡ None → 4 ≤ g.silences) →
          LeadsOn fact.Quiet turned.ending kind p poll_ms at (left - 1) new_past mid
      print_leads in_print most unheard = by (quiet_prints moment mid.sender.acked h.turn.lines old.desk turned.ending mid.desk noted in_print)
        where
          by : IsQuietFor turned.ending old.desk mid.desk → LeadsOn fact.Quiet turned.ending kind p poll_ms at (left - 1) new_past mid
          by (goes_on was none state) =
              goes_with 3 (prints state (λ all. (let so = idle (gives_in_print mid.desk.state state) all in (so.0, finishes mid.desk.state state so.1))))
              most (λ all. unheard all none) none
          by (ends_so was e is) = leaves_with (omega (arith, most)) (λ all. most) e is
          by (closes_on was none state) = absurd (closes_not old.desk.state in_print was)

      -- the connection closes
      close_leads : old.desk.state ≡ Closing → 1 ≤ g.silences → (old.sender.acked ≡ old.sender.issued → 2 ≤ g.silences) →
          LeadsOn fact.Quiet turned.ending kind p poll_ms at (left - 1) new_past mid
      close_leads closing most unheard = by (quiet_closes moment mid.sender.acked h.turn.lines old.desk turned.ending mid.desk noted closing)
        where
          by : IsQuietFor turned.ending old.desk mid.desk → LeadsOn fact.Quiet turned.ending kind p poll_ms at (left - 1) new_past mid
          by (closes_on was none state) = goes_with 1 (closes state (λ all. (idle (ap is_giving state) all).0)) most unheard none
          by (goes_on was none state) = absurd (closes_not old.desk.state was closing)
          by (ends_so was e is) = absurd (closes_not old.desk.state was closing)

      all_acked : old.sender.acked ≡ old.sender.issued → old.desk.issued ≤ mid.sender.acked
      all_acked all = omega (arith, all, h.kept.before.issued, (gone.same all).0)

      -- with nothing waiting and all acknowledged this turn ends the print
      ends_now : old.desk.state ≡ Finishing → old.desk.waiting ≡ [] → old.sender.acked ≡ old.sender.issued → turned.ending ≡ None → ⊥
      ends_now state none all unended_print =
          let done = done-next p mid.sender.acked moment old.desk g.desk.issued state none (all_acked all) (omega (arith, h.kept.before.issued, few)) g.desk.course in
          none-some _ (sym unended_print ∙ quiet_ending moment mid.sender.acked h.turn.lines old.desk turned.ending mid.desk noted ∙ done)

      -- and the connection would be closed
      closed_now : old.desk.state ≡ Closing → old.desk.waiting ≡ [] → old.sender.acked ≡ old.sender.issued → ⊥
      closed_now state none all =
          let shut : is_closable_at old.desk.state old.desk ≡ true =
          closes-next p old.desk (g.desk.course.numbered_is ∙ g.desk.plain) state g.desk.course.unstopped none (omega (arith, all, h.kept.before.issued, h.kept.before.acked))
          in
          let no : true ≡ false = sym shut ∙ unshut in
          absurd (cc)

      quiet_leads : (n : ℕ) → n ≡ g.silences → Silences old.desk old.sender n → LeadsOn fact.Quiet turned.ending kind p poll_ms at (left - 1) new_past mid
      quiet_leads _ is (starts state) = print_leads (inl state) (omega (arith, is)) (λ all none. omega (arith, is))
      quiet_leads _ is (prints state rest) =
          print_leads state (omega (arith, is)) (λ all none. absurd (ends_now (rest all).1 (rest all).0 all none))
      quiet_leads _ is (leaves state) = close_leads state (omega (arith, is)) (λ all. omega (arith, is))
      quiet_leads _ is (closes state rest) = close_leads state (omega (arith, is)) (λ all. absurd (closed_now state (rest all) all))

    talk_leads : LeadsOn h.turn.found turned.ending kind p poll_ms at (left - 1) new_past mid
    talk_leads = by_fact h.turn.found refl (may_find moment at poll_ms kind old_past new_past old_calls new_calls old mid turned h UsingLink talks)
      where
        by_fact : (f : LinkFact) → h.turn.found ≡ f → can_find UsingLink f ≡ true → LeadsOn f turned.ending kind p poll_ms at (left - 1) new_past mid
        by_fact fact.Quiet found can = quiet_leads found g.silences refl g.phase
        by_fact fact.Ready found can =
            absurd (stays_ready moment at poll_ms kind old_past new_past old_calls new_calls old mid turned h i.ready_is found)
        by_fact fact.Failed found can =
            absurd (not_failed moment at poll_ms kind old_past new_past old_calls new_calls old mid turned h found)
        by_fact fact.Opened found can = absurd (cc)
        by_fact fact.NoPort found can = absurd (cc)
        by_fact fact.Closed found can = absurd (cc)
        by_fact (fact.Ended why) found can =
            let ended : end_by h.turn.got moment old.sender ≡ Some why = (h.turn.ended why).0 found in
            let no : ◌≡◌ {A = Option SessionEnd} None (Some why) = sym (unended h.turn.got refl) ∙ ended in
            absurd (cc)

  -- the turn leads the print on, or hangs up
  pub going_leads : LeadsOn h.turn.found turned.ending kind p poll_ms at (left - 1) new_past mid
  going_leads = by (is_closable_at old.desk.state old.desk) refl
    where
      by : (b : Bool) → is_closable_at old.desk.state old.desk ≡ b → LeadsOn h.turn.found turned.ending kind p poll_ms at (left - 1) new_past mid
      by true shut =
          let L : LinkFact → Type 0 = λ f. LeadsOn f turned.ending kind p poll_ms at (left - 1) new_past mid in
          let closed = hangs_closed moment at poll_ms kind old_past new_past old_calls new_calls old mid turned h (hangs_if old g.up shut) in
          subst L (sym closed) tt
      by false unshut = talk_leads unshut
