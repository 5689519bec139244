-- The turns of a print over a prompt link up to its start: the dial, the hello, and the hello's `ok`.
use Rattle.std.proofs.Common.{◌≡◌, ℕ, ◌-◌, ◌<◌, ◌≤◌, Bool, true, false, List, [], ◌∷◌, ◌++◌, refl, sym, ◌∙◌, ap, subst, append-nil, arith}
use Rattle.std.specs.Prelude.{Option, None, Some}
use Rattle.job_desk.specs.Data.{Data, Line, moment_after}
use Rattle.job_desk.specs.Table.{Answer, is_closable_at, printing, start_at}
use Rattle.job_desk.specs.Note.{Noted, note_step, with_acked}
use Rattle.job_desk.specs.Pull.{draw_at}
use Rattle.job_desk.proofs.Connecting.{none_ends}
use Rattle.job_desk.specs.declared.link_fact.LinkFact.{LinkFact}
use Rattle.job_desk.specs.declared.link_fact.LinkFact.TheVariants as fact
use Rattle.job_desk.specs.declared.state.State.TheVariants.{Connecting, Operational}
use Rattle.marlin_frame.specs.Numbering.{hello_frame}
use Rattle.print_queue.specs.declared.ending.Ending.{Ending}
use Rattle.printer_model.specs.World.{WorldData, world_from}
use Rattle.printer_model.specs.declared.event.WorldEvent.{WorldEvent}
use Rattle.printer_link.specs.Link.{LinkKind, IsSilence, world_in}
use Rattle.send_window.specs.Data.{SenderData, sender_after_dial}
use Rattle.send_window.specs.Hearing.{made_ready}
use Rattle.send_window.specs.Sending.{next_of}
use Rattle.send_window.specs.declared.session_end.SessionEnd.{SessionEnd}
use Rattle.octo_session.specs.Data.{SessionData, doing}
use Rattle.octo_session.specs.DeskTurn.{Pulls, IsNoted}
use Rattle.octo_session.specs.Found.{Got, unasked, lost, nothing, whole, can_find, end_by, may_have_issued, ready_after, up_after}
use Rattle.octo_session.specs.Steps.{after_steps, dial_steps, steps_over_link}
use Rattle.octo_session.specs.Turn.{fact_of, texts_in}
use Rattle.octo_session.specs.declared.found.Doing.TheVariants.{Dialling, UsingLink}
use Rattle.octo_session.specs.declared.found.Turned.{Turned}
use Rattle.octo_session_line_proof.specs.Issuing.{issued_in}
use Rattle.octo_session_print.specs.Prompt.{IsReadySession, IsGreeting}
use Rattle.octo_session_print.proofs.Greeting.{none_issued, dial_greeting}
use Rattle.octo_session_print.proofs.Greeted.{hello_unheard, hello_goes_on, hello_unready, hello_talk, greeting_answered, ok_goes_on, ok_readies, ok_talk}
use Rattle.octo_session_print.specs.Plan.{PrintData}
use Rattle.octo_session_print.specs.Underway.{standing}
use Rattle.octo_session_print.specs.Remaining.{remaining}
use Rattle.octo_session_print.specs.Turned.{IsTurnOf}
use Rattle.octo_session_print.proofs.Phases.{connecting_of}
use Rattle.octo_session_print.proofs.Calls.{start-underway}
use Rattle.octo_session_print.proofs.Remaining.{connecting-remaining, ready-remaining, start-remaining}
use Rattle.octo_session_print.specs.OnWay.{plan_length, starts, IsToDial, IsToGreet, IsGoing, greets, waits, goes, LeadsOn}
use Rattle.octo_session_print.proofs.Desks.{opened_ms, ready_ms, quiet_paced}
use Rattle.octo_session_print.proofs.Turns.{HasTurned, HasAdded, at_world, talks_if, its_fact, may_find, not_failed, steps_for, noted_for, course_of, receives, more_acked, none_said}
use Rattle.byte_text.proofs.OptionLaws.{some-if-true}

-- a note without lines
opened_alone : (moment acked : ℕ) (lines : List Line) (old : Data) (ending : Option Ending) (new : Data) → lines ≡ [] →
    IsNoted moment acked fact.Opened lines old ending new → new ≡ (note_step acked fact.Opened moment old).1
opened_alone moment acked lines old ending new none n =
    let L : List Line → Type 0 = λ l. IsNoted moment acked fact.Opened l old ending new in
    let m : IsNoted moment acked fact.Opened [] old ending new = subst L none n in
    ap (λ (q : Noted). q.1) m.is ∙ m.pulls

ready_alone : (moment acked : ℕ) (lines : List Line) (old : Data) (ending : Option Ending) (new : Data) → lines ≡ [] →
    IsNoted moment acked fact.Ready lines old ending new → new ≡ (note_step acked fact.Ready moment old).1
ready_alone moment acked lines old ending new none n =
    let L : List Line → Type 0 = λ l. IsNoted moment acked fact.Ready l old ending new in
    let m : IsNoted moment acked fact.Ready [] old ending new = subst L none n in
    ap (λ (q : Noted). q.1) m.is ∙ m.pulls

-- a desk that connects issues nothing
none_pulled : (moment : ℕ) (lines : List Line) (d e : Data) → d.state ≡ Connecting → Pulls moment lines d e → lines ≡ []
none_pulled moment [] d e connects pulls = refl
none_pulled moment (line ∷ lines) d e connects pulls =
    (let no : ◌≡◌ {A = Option Line} None (Some line) = sym (ap (λ s. (draw_at s moment d).0) connects) ∙ pulls.0 in absurd (cc))

connecting_silent : (moment acked : ℕ) (lines : List Line) (old : Data) (ending : Option Ending) (new : Data) → old.state ≡ Connecting →
    IsNoted moment acked fact.Quiet lines old ending new → lines ≡ []
connecting_silent moment acked lines old ending new connects n =
    none_pulled moment lines (note_step acked fact.Quiet moment old).1 n.pulled (none_ends (with_acked acked moment old) connects) n.pulls

module _ (moment at poll_ms : ℕ) (kind : LinkKind) (old_past new_past : Option (List WorldEvent)) (old_calls new_calls : Option ℕ) (old mid : SessionData) (turned : Turned) (h : HasTurned moment at poll_ms kind old_past new_past old_calls new_calls old mid turned) (p : PrintData) (left : ℕ) where
  fact_is : fact_of turned.note ≡ h.turn.found
  fact_is = its_fact moment at poll_ms kind old_past new_past old_calls new_calls old mid turned h

  unfailed : h.turn.found ≡ fact.Failed → ⊥
  unfailed = not_failed moment at poll_ms kind old_past new_past old_calls new_calls old mid turned h

  abbrev texts : List (List ℕ)
  texts = texts_in h.turn.lines

  up_by : (f : LinkFact) → h.turn.found ≡ f → mid.up ≡ up_after f old.up
  up_by f is = h.kept.up ∙ ap (λ (g : LinkFact). up_after g old.up) (fact_is ∙ is)

  -- The dial.

  module _ (d : IsToDial kind p poll_ms left old_past old) where
    turn_course : IsTurnOf p h.turn.found h.turn.lines d.desk.issued old.desk turned.ending mid.desk
    turn_course = course_of moment at poll_ms kind old_past new_past old_calls new_calls old mid turned h p d.desk.issued d.desk.course

    dialled : h.turn.found ≡ fact.Opened → IsToGreet kind p poll_ms (left - 1) 11 [] true new_past mid
    dialled is =
        let past = some-if-true old_past d.recorded in
        let w : WorldData = world_in kind past.0 in
        let F : LinkFact → Type 0 = λ f. HasAdded moment kind (dial_steps f) old.sender mid.sender past.0 new_past in
        let a : HasAdded moment kind (dial_steps fact.Opened) old.sender mid.sender past.0 new_past =
        subst F is (steps_for moment at poll_ms kind old_past new_past old_calls new_calls old mid turned h Dialling d.dials past.0 past.1)
        in
        let made = a.are.3.0 in
        let all : a.added ≡ a.are.0 = a.are.2 ∙ ap (λ (es : List WorldEvent). a.are.0 ++ es) a.are.4 ∙ append-nil a.are.0 in
        let new : IsGreeting [] true (sender_after_dial old.sender) (world_from w a.are.0) = dial_greeting old.sender w a.are.0 0 d.counts d.sound made.0 made.1.some made.1.few in
        let S : SenderData → Type 0 = λ s. IsGreeting [] true s (world_from w a.are.0) in
        let W : List WorldEvent → Type 0 = λ es. IsGreeting [] true mid.sender (world_from w es) in
        let N : LinkFact → Type 0 = λ f. IsNoted moment mid.sender.acked f h.turn.lines old.desk turned.ending mid.desk in
        let n : IsNoted moment mid.sender.acked fact.Opened h.turn.lines old.desk turned.ending mid.desk =
        subst N is (noted_for moment at poll_ms kind old_past new_past old_calls new_calls old mid turned h Dialling d.dials)
        in
        let none : h.turn.lines ≡ [] = none_said moment at poll_ms kind old_past new_past old_calls new_calls old mid turned h (ap may_have_issued is) in
        let desk : mid.desk ≡ (note_step mid.sender.acked fact.Opened moment old.desk).1 =
        opened_alone moment mid.sender.acked h.turn.lines old.desk turned.ending mid.desk none n
        in
        record {
          up = up_by fact.Opened is;
          connects = turn_course.opens is;
          desk = record {
            issued = issued_in h.turn.found (texts_in h.turn.lines) d.desk.issued;
            course = turn_course.underway;
            cool = d.desk.cool;
            plain = d.desk.plain;
            its_ms = ap (λ (x : Data). x.poll_ms) desk ∙ opened_ms mid.sender.acked moment old.desk ∙ d.desk.its_ms;
          };
          greeting = at_world kind past.0 a.added new_past (λ v. IsGreeting [] true mid.sender v) a.recorded (subst W (sym all) (subst S (sym a.sender) new));
          enough = omega (arith, d.enough);
          few = omega (arith, d.few);
        }

    pub dial_leads : LeadsOn h.turn.found turned.ending kind p poll_ms at (left - 1) new_past mid
    dial_leads = by_fact h.turn.found refl (may_find moment at poll_ms kind old_past new_past old_calls new_calls old mid turned h Dialling d.dials)
      where
        by_fact : (f : LinkFact) → h.turn.found ≡ f → can_find Dialling f ≡ true → LeadsOn f turned.ending kind p poll_ms at (left - 1) new_past mid
        by_fact fact.Opened is can = greets (dialled is)
        by_fact fact.NoPort is can =
            let none = h.no_port.0 (fact_is ∙ is) in
            let no : true ≡ false = sym d.listed ∙ none.1 in
            absurd (cc)
        by_fact fact.Failed is can = absurd (unfailed is)
        by_fact fact.Quiet is can = absurd (cc)
        by_fact fact.Ready is can = absurd (cc)
        by_fact fact.Closed is can = absurd (cc)
        by_fact (fact.Ended why) is can = absurd (cc)

  -- A turn that uses the link before the hello's `ok` is heard.

  module _ (more : ℕ) (wire : List (List ℕ)) (unsaid : Bool) (g : IsToGreet kind p poll_ms left more wire unsaid old_past old) where
    pub met_talks : doing old ≡ UsingLink
    met_talks = talks_if old g.up (ap (λ s. is_closable_at s old.desk) g.connects)

    met_course : IsTurnOf p h.turn.found h.turn.lines g.desk.issued old.desk turned.ending mid.desk
    met_course = course_of moment at poll_ms kind old_past new_past old_calls new_calls old mid turned h p g.desk.issued g.desk.course

    met_steps : (got : Got) → h.turn.got ≡ got → HasAdded moment kind (steps_over_link got h.turn.found texts h.turn.steps.count) old.sender mid.sender g.greeting.now new_past
    met_steps got is =
        let G : Got → Type 0 = λ x. HasAdded moment kind (steps_over_link x h.turn.found texts h.turn.steps.count) old.sender mid.sender g.greeting.now new_past in
        subst G is (steps_for moment at poll_ms kind old_past new_past old_calls new_calls old mid turned h UsingLink met_talks g.greeting.now g.greeting.recorded)

    met_found : (got : Got) (f : LinkFact) → h.turn.got ≡ got → h.turn.found ≡ f → HasAdded moment kind (steps_over_link got f texts h.turn.steps.count) old.sender mid.sender g.greeting.now new_past
    met_found got f is found =
        let F : LinkFact → Type 0 = λ x. HasAdded moment kind (steps_over_link got x texts h.turn.steps.count) old.sender mid.sender g.greeting.now new_past in
        subst F found (met_steps got is)

    met_noted : (f : LinkFact) → h.turn.found ≡ f → IsNoted moment mid.sender.acked f h.turn.lines old.desk turned.ending mid.desk
    met_noted f is =
        let N : LinkFact → Type 0 = λ x. IsNoted moment mid.sender.acked x h.turn.lines old.desk turned.ending mid.desk in
        subst N is (noted_for moment at poll_ms kind old_past new_past old_calls new_calls old mid turned h UsingLink met_talks)

    met_more : (f : LinkFact) → h.turn.found ≡ f → (f ≡ fact.Opened → ⊥) → old.desk.acked ≤ mid.sender.acked
    met_more f is other = more_acked moment at poll_ms kind old_past new_past old_calls new_calls old mid turned h (λ opens. other (sym is ∙ opens))

    -- it's quiet or makes the session ready, if it doesn't end it
    met_leads : (got : Got) → h.turn.got ≡ got → end_by got moment old.sender ≡ None →
        (h.turn.found ≡ fact.Quiet → LeadsOn fact.Quiet turned.ending kind p poll_ms at (left - 1) new_past mid) →
        (h.turn.found ≡ fact.Ready → LeadsOn fact.Ready turned.ending kind p poll_ms at (left - 1) new_past mid) →
        LeadsOn h.turn.found turned.ending kind p poll_ms at (left - 1) new_past mid
    met_leads got is goes_on quiet ready =
        by_fact h.turn.found refl (may_find moment at poll_ms kind old_past new_past old_calls new_calls old mid turned h UsingLink met_talks)
      where
        by_fact : (f : LinkFact) → h.turn.found ≡ f → can_find UsingLink f ≡ true → LeadsOn f turned.ending kind p poll_ms at (left - 1) new_past mid
        by_fact fact.Quiet found can = quiet found
        by_fact fact.Ready found can = ready found
        by_fact fact.Failed found can = absurd (unfailed found)
        by_fact fact.Opened found can = absurd (cc)
        by_fact fact.NoPort found can = absurd (cc)
        by_fact fact.Closed found can = absurd (cc)
        by_fact (fact.Ended why) found can =
            let ended : end_by h.turn.got moment old.sender ≡ Some why = (h.turn.ended why).0 found in
            let no : ◌≡◌ {A = Option SessionEnd} None (Some why) = sym goes_on ∙ ap (λ (x : Got). end_by x moment old.sender) (sym is) ∙ ended in
            absurd (cc)

  -- The hello.

  module _ (g : IsToGreet kind p poll_ms left 11 [] true old_past old) where
    hello_said : (found : h.turn.found ≡ fact.Quiet) → h.turn.got ≡ nothing → IsToGreet kind p poll_ms (left - 1) 10 (hello_frame ∷ []) false new_past mid
    hello_said found is =
        let w : WorldData = world_in kind g.greeting.now in
        let count : ℕ = h.turn.steps.count in
        let a : HasAdded moment kind (steps_over_link nothing fact.Quiet texts count) old.sender mid.sender g.greeting.now new_past = met_found 11 [] true g nothing fact.Quiet is found in
        let up : mid.up ≡ true = up_by fact.Quiet found ∙ g.up in
        let spent : next_of (after_steps moment (steps_over_link nothing fact.Quiet texts count) old.sender) ≡ None =
        ap next_of (sym a.sender) ∙ (h.kept.spent up (fact_is ∙ found)).sent
        in
        let silent : texts ≡ [] = ap texts_in (connecting_silent moment mid.sender.acked h.turn.lines old.desk turned.ending mid.desk g.connects (met_noted 11 [] true g fact.Quiet found)) in
        let said = hello_talk moment texts count old.sender w a.added silent g.greeting.is a.allowed a.are spent in
        let S : SenderData → Type 0 = λ s. IsGreeting (hello_frame ∷ []) false s (world_from w a.added) in
        let course = met_course 11 [] true g in
        let later : moment < moment_after moment old.desk.poll_ms = subst (λ (ms : ℕ). moment < moment_after moment ms) (sym g.desk.its_ms) h.poll_later in
        let paced = quiet_paced p g.desk.plain moment mid.sender.acked h.turn.lines old.desk turned.ending mid.desk g.desk.issued later
        (met_more 11 [] true g fact.Quiet found (λ no. absurd (cc))) (met_noted 11 [] true g fact.Quiet found) g.desk.course
        in
        record {
          up = up;
          connects = course.connects g.connects found;
          desk = record {
            issued = issued_in h.turn.found (texts_in h.turn.lines) g.desk.issued;
            course = course.underway;
            cool = g.desk.cool;
            plain = g.desk.plain;
            its_ms = paced.1 ∙ g.desk.its_ms;
          };
          greeting = at_world kind g.greeting.now a.added new_past (λ v. IsGreeting (hello_frame ∷ []) false mid.sender v) a.recorded (subst S (sym a.sender) said);
          enough = omega (arith, g.enough);
          few = omega (arith, g.few);
        }

    hello_quiet : h.turn.got ≡ nothing → (found : h.turn.found ≡ fact.Quiet) → (e : Option Ending) → turned.ending ≡ e →
        LeadsOn fact.Quiet e kind p poll_ms at (left - 1) new_past mid
    hello_quiet is found None ends = waits (hello_said found is)
    hello_quiet is found (Some e) ends =
        let course = met_course 11 [] true g in
        let no : Connecting ≡ Operational = sym (course.connects g.connects found) ∙ (course.leaves e found ends).0 in
        absurd (cc)

    -- nothing makes the session ready before its hello is sent
    hello_early : h.turn.got ≡ nothing → h.turn.found ≡ fact.Ready → ⊥
    hello_early is found =
        let a : HasAdded moment kind (steps_over_link nothing fact.Ready texts h.turn.steps.count) old.sender mid.sender g.greeting.now new_past = met_found 11 [] true g nothing fact.Ready is found in
        let unready : mid.sender.ready ≡ false = ap (λ (s : SenderData). s.ready) a.sender ∙ hello_unready moment old.sender (world_in kind g.greeting.now) g.greeting.is in
        let ready : mid.sender.ready ≡ true = h.ready_is ∙ ap (λ (f : LinkFact). ready_after f old.sender.ready) (fact_is ∙ found) in
        absurd (cc)

    pub hello_leads : LeadsOn h.turn.found turned.ending kind p poll_ms at (left - 1) new_past mid
    hello_leads = by_got h.turn.got refl
      where
        asked : (h.turn.got ≡ unasked → ⊥) × (h.turn.got ≡ lost → ⊥)
        asked = receives moment at poll_ms kind old_past new_past old_calls new_calls old mid turned h (met_talks 11 [] true g)

        by_got : (got : Got) → h.turn.got ≡ got → LeadsOn h.turn.found turned.ending kind p poll_ms at (left - 1) new_past mid
        by_got unasked is = absurd (asked.0 is)
        by_got lost is = absurd (asked.1 is)
        by_got (whole bytes) is =
            let a = met_steps 11 [] true g (whole bytes) is in
            absurd (hello_unheard bytes old.sender (world_in kind g.greeting.now) a.are.0 g.greeting.is a.are.3.0 (a.are.3.1 refl))
        by_got nothing is =
            met_leads 11 [] true g nothing is (hello_goes_on moment old.sender (world_in kind g.greeting.now) g.greeting.is)
            (λ found. hello_quiet is found turned.ending refl) (λ found. absurd (hello_early is found))

  -- The hello's `ok`.

  module _ (g : IsToGreet kind p poll_ms left 10 (hello_frame ∷ []) false old_past old) where
    abbrev w : WorldData
    w = world_in kind g.greeting.now

    i : IsGreeting (hello_frame ∷ []) false old.sender w
    i = g.greeting.is

    course : IsTurnOf p h.turn.found h.turn.lines g.desk.issued old.desk turned.ending mid.desk
    course = met_course 10 (hello_frame ∷ []) false g

    started : (bytes : List ℕ) → h.turn.got ≡ whole bytes → h.turn.found ≡ fact.Ready →
        IsGoing kind p poll_ms at (left - 1) new_past (record mid { desk = (start_at mid.desk.state 1 mid.desk).1 })
    started bytes is found =
        let count : ℕ = h.turn.steps.count in
        let a : HasAdded moment kind (steps_over_link (whole bytes) fact.Ready texts count) old.sender mid.sender g.greeting.now new_past = met_found 10 (hello_frame ∷ []) false g (whole bytes) fact.Ready is found in
        let heard = ok_talk old.sender w i moment bytes texts count a.added a.are in
        let sender : mid.sender ≡ made_ready old.sender = a.sender ∙ heard.0 in
        let S : SenderData → Type 0 = λ s. IsReadySession s (world_from w a.added) in
        let state : mid.desk.state ≡ Operational = course.readies g.connects found in
        let new : mid.desk.greatest ≡ 0 = h.greatest ∙ (connecting_of p (standing old.desk) g.desk.course.lines g.desk.course.phase g.connects).free.print_is in
        let issued : List (List ℕ) = issued_in h.turn.found (texts_in h.turn.lines) g.desk.issued in
        let so = start-underway p mid.desk issued state new g.desk.cool course.underway in
        let none : h.turn.lines ≡ [] = none_said moment at poll_ms kind old_past new_past old_calls new_calls old mid turned h (ap may_have_issued found) in
        let desk : mid.desk ≡ (note_step mid.sender.acked fact.Ready moment old.desk).1 =
        ready_alone moment mid.sender.acked h.turn.lines old.desk turned.ending mid.desk none (met_noted 10 (hello_frame ∷ []) false g fact.Ready found)
        in
        let more : old.desk.acked ≤ mid.sender.acked = met_more 10 (hello_frame ∷ []) false g fact.Ready found (λ no. absurd (cc)) in
        let left_over : remaining p (standing (printing 1 mid.desk)) ≡ plan_length p =
        start-remaining p mid.desk issued state new course.underway
        ∙ ap (λ (x : Data). remaining p (standing x)) desk
        ∙ ready-remaining p mid.sender.acked moment old.desk g.desk.issued more g.desk.course
        ∙ connecting-remaining p old.desk g.connects
        in
        let unissued : old.sender.issued ≡ 0 = none_issued old.sender i.sound i.unready i.none_held in
        let mid_issued : mid.sender.issued ≡ old.sender.issued = ap (λ (s : SenderData). s.issued) sender in
        let mid_acked : mid.sender.acked ≡ old.sender.acked = ap (λ (s : SenderData). s.acked) sender in
        let mid_cursor : mid.sender.cursor ≡ old.sender.cursor = ap (λ (s : SenderData). s.cursor) sender in
        let none_acked : old.sender.acked ≡ 0 = i.sound.none_acked i.unready in
        let G : Data → Type 0 = λ d. IsGoing kind p poll_ms at (left - 1) new_past (record mid { desk = d }) in
        subst G (sym (ap (λ (x : Answer). x.1) so.0)) (record {
          up = up_by fact.Ready found;
          desk = record {
            issued = issued;
            course = so.1;
            cool = g.desk.cool;
            plain = g.desk.plain;
            its_ms = ap (λ (x : Data). x.poll_ms) desk ∙ ready_ms mid.sender.acked moment old.desk g.connects ∙ g.desk.its_ms;
          };
          saying = at_world kind g.greeting.now a.added new_past (λ v. IsReadySession mid.sender v) a.recorded (subst S (sym sender) heard.1);
          spoken = omega (arith, mid_cursor, mid_issued, unissued, i.cursor_is);
          due = 1;
          due_is = λ now. omega arith;
          silences = 4;
          phase = starts refl;
          enough = omega (arith, g.enough, left_over, mid_issued, mid_acked, unissued, none_acked);
          few = omega (arith, g.few, mid_acked, none_acked);
        })

    pub ok_leads : LeadsOn h.turn.found turned.ending kind p poll_ms at (left - 1) new_past mid
    ok_leads = by_got h.turn.got refl
      where
        asked : (h.turn.got ≡ unasked → ⊥) × (h.turn.got ≡ lost → ⊥)
        asked = receives moment at poll_ms kind old_past new_past old_calls new_calls old mid turned h (met_talks 10 (hello_frame ∷ []) false g)

        -- the session is ready after it
        unquiet : (bytes : List ℕ) → h.turn.got ≡ whole bytes → h.turn.found ≡ fact.Quiet → ⊥
        unquiet bytes is found =
            let a : HasAdded moment kind (steps_over_link (whole bytes) fact.Quiet texts h.turn.steps.count) old.sender mid.sender g.greeting.now new_past = met_found 10 (hello_frame ∷ []) false g (whole bytes) fact.Quiet is found in
            let ready : mid.sender.ready ≡ true =
            ap (λ (s : SenderData). s.ready) a.sender ∙ ok_readies old.sender w i moment bytes texts h.turn.steps.count a.are.0 a.are.3.0 (a.are.3.1 refl)
            in
            let unready : mid.sender.ready ≡ false = h.ready_is ∙ ap (λ (f : LinkFact). ready_after f old.sender.ready) (fact_is ∙ found) ∙ i.unready in
            absurd (cc)

        by_got : (got : Got) → h.turn.got ≡ got → LeadsOn h.turn.found turned.ending kind p poll_ms at (left - 1) new_past mid
        by_got unasked is = absurd (asked.0 is)
        by_got lost is = absurd (asked.1 is)
        by_got nothing is =
            let a = met_steps 10 (hello_frame ∷ []) false g nothing is in
            let Q : List WorldEvent → Type 0 = λ es. IsSilence w es in
            absurd (greeting_answered old.sender w i (subst Q (a.are.3.1 refl) a.are.3.0))
        by_got (whole bytes) is =
            let a = met_steps 10 (hello_frame ∷ []) false g (whole bytes) is in
            met_leads 10 (hello_frame ∷ []) false g (whole bytes) is (ok_goes_on old.sender w i moment bytes a.are.0 a.are.3.0 (a.are.3.1 refl))
            (λ found. absurd (unquiet bytes is found)) (λ found. goes (started bytes is found))
