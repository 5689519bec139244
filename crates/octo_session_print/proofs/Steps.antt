-- How a turn leads a print on.
use Rattle.std.proofs.Common.{◌≡◌, ◌≢◌, ◌↔◌, ◌⊎◌, inl, inr, ℕ, ◌≤◌, Bool, true, false, List, [], refl, sym, ◌∙◌, ap, subst, arith}
use Rattle.std.specs.Prelude.{Option, Some, ◌&&◌, ◌<◌, length, take}
use Rattle.job_desk.specs.Data.{Line}
use Rattle.job_desk.specs.declared.state.State.TheVariants.{Offline, Operational}
use Rattle.job_desk.specs.declared.link_fact.LinkFact.{LinkFact}
use Rattle.job_desk.specs.declared.link_fact.LinkFact.TheVariants as fact
use Rattle.send_window.specs.declared.session_end.SessionEnd.{SessionEnd}
use Rattle.send_window.specs.declared.session_end.SessionEnd.TheVariants.{NoAnswer, LostOk, NumbersUsed}
use Rattle.print_queue.specs.declared.ending.Ending.{Ending}
use Rattle.printer_model.specs.declared.event.WorldEvent.{WorldEvent}
use Rattle.printer_link.specs.Link.{LinkKind, Recorded, world_in}
use Rattle.printer_link.specs.Suits.{SuitsAs}
use Rattle.printer_link.proofs.Grown.{recorded_then, recorded_so, recorded_if}
use Rattle.send_window.specs.Data.{SenderData, IsSound}
use Rattle.octo_session.specs.Data.{SessionData, IsSession, doing, port_of}
use Rattle.octo_session.specs.DeskTurn.{IsNoted}
use Rattle.octo_session.specs.Found.{is_got, may_have_issued, can_find, up_after, ready_after}
use Rattle.octo_session.specs.Steps.{after_steps, turn_steps}
use Rattle.octo_session.specs.Turn.{IsTurn, fact_of, note_lines, texts_in}
use Rattle.octo_session.specs.declared.found.Doing.{Doing}
use Rattle.octo_session.specs.declared.found.Doing.TheVariants.{Dialling, Resting}
use Rattle.octo_session.specs.declared.found.Turned.{Turned}
use Rattle.octo_session_print.specs.Plan.{PrintData, print_commands}
use Rattle.octo_session.specs.Plan.{plan, Weave}
use Rattle.octo_session_print.specs.Turned.{IsTurnOf}
use Rattle.octo_session_print.proofs.Turning.{turn-underway}
use Rattle.octo_session_print.specs.Underway.{IsUnderway}
use Rattle.octo_session_print.proofs.Results.{underway-part, underway-whole}
use Rattle.octo_session_line_proof.specs.Issuing.{issued_in}
use Rattle.octo_session_line_proof.specs.Linked.{IsLinked, LinkedAs, opened}
use Rattle.octo_session.proofs.Noting.{noted_fact, noted_lines, desk_noted}
use Rattle.octo_session.specs.Causes.{EndCausedAs}
use Rattle.octo_session_line_proof.proofs.Unchanged.{turn_numbered}
use Rattle.octo_session_line_proof.proofs.Recorded.{IsKept, turn_end_caused}
use Rattle.octo_session_line_proof.proofs.Turned.{IsTurned, dials_down, rests_down, opens_dialling}
use Rattle.octo_session_print.specs.Ends.{IsUnsent, end_of}
use Rattle.octo_session_print.specs.Printed.{HasPrinted, IsOver}
use Rattle.octo_session_line_proof.specs.AllSent.{AreAllSent}
use Rattle.octo_session_line_proof.specs.History.{IsMade}
use Rattle.send_window.specs.Patience.{FitsEnd}
use Rattle.octo_session_print.specs.BetweenTurns.{HasSentAll, IsOnCourse, IsDialling, IsOnLink, IsBetweenTurns, GoesOn}
use Rattle.octo_session_print.specs.declared.end.PrintEnd.{PrintEnd}
use Rattle.octo_session_print.specs.declared.end.PrintEnd.TheVariants as end
use Rattle.octo_session_line_proof.proofs.AllSent.{none_unsent}
use Rattle.octo_session_line_proof.proofs.Sent.{made_sends}
use Rattle.octo_session_line_proof.proofs.Histories.{none_printed, nothing_added}
use Rattle.octo_session_print.proofs.Printing.{printed_of, unanswered_of, missing_of, part_none, by_plan}
use Rattle.octo_session_line_proof.proofs.Turns.{ports_dialling, turned_all, made_on, made_now, none_made, none_added, made_printed}
use Rattle.octo_session_print.proofs.Course.{closed_off}
use Rattle.octo_session_line_proof.proofs.Lasting.{sound_steps, ended_turn}
use Rattle.std.proofs.lemmas.Bool.{and_right}
use Rattle.octo_session_print.proofs.Follows.{why_of}

-- what a turn promises of a print
pub record HasTurned (moment : ℕ) (kind : LinkKind) (old_past new_past : Option (List WorldEvent)) (old_calls new_calls : Option ℕ) (old mid : SessionData) (turned : Turned) : Type 0 where
  pub turn : IsTurn moment kind old_past new_past old_calls new_calls old mid turned
  pub kept : IsKept moment old mid turned
  pub joined : IsSession mid
  pub greatest : mid.desk.greatest ≡ old.desk.greatest
  pub ready_is : mid.sender.ready ≡ ready_after (fact_of turned.note) old.sender.ready
  pub not_fallen : (fact_of turned.note ≡ fact.Opened) ⊎ (old.sender.acked ≤ mid.sender.acked)
  pub no_port : (fact_of turned.note ≡ fact.NoPort) ↔ ((doing old ≡ Dialling) × (kind.listed (port_of old.desk) ≡ false))
  pub fits : (why : SessionEnd) → fact_of turned.note ≡ fact.Ended why → FitsEnd why mid.sender

module _ (moment : ℕ) (kind : LinkKind) (old_past new_past : Option (List WorldEvent)) (old_calls new_calls : Option ℕ) (old mid : SessionData) (turned : Turned) (h : HasTurned moment kind old_past new_past old_calls new_calls old mid turned) (p : PrintData) (port : List ℕ) (first : Option (List WorldEvent)) where
  -- the plan of the print
  abbrev whole : List (List ℕ)
  whole = plan p.scripts (print_commands p)

  abbrev texts : List (List ℕ)
  texts = texts_in h.turn.lines

  its_fact : fact_of turned.note ≡ h.turn.found
  its_fact = noted_fact turned.note moment old.sender.acked mid.sender.acked h.turn.lines h.turn.got h.turn.found h.turn.none h.turn.some

  all : Recorded old_past new_past (λ past added. IsTurned moment kind old mid h.turn.got h.turn.found texts (world_in kind past) added)
  all = turned_all moment kind old_past new_past old_calls new_calls old mid turned h.turn h.kept

  can : can_find (doing old) h.turn.found ≡ true
  can = (let F : LinkFact → Type 0 = λ f. can_find (doing old) f ≡ true in subst F its_fact h.kept.finds)

  -- a turn that may not issue has issued nothing
  no_lines : may_have_issued h.turn.found ≡ false → h.turn.lines ≡ []
  no_lines unsaid = h.turn.none_issued (ap (λ (b : Bool). is_got h.turn.got && b) unsaid ∙ and_right (is_got h.turn.got) false refl)

  noted : (doing old ≡ Resting → ⊥) → IsNoted moment mid.sender.acked h.turn.found h.turn.lines old.desk turned.ending mid.desk
  noted awake = desk_noted (doing old) moment mid.sender.acked h.turn.found h.turn.lines old.desk turned.ending mid.desk awake h.turn.desk

  sound : IsSound old.sender → IsSound mid.sender
  sound was =
      let S : SenderData → Type 0 = λ s. IsSound s in
      subst S (sym h.turn.steps.takes.sender) (sound_steps moment (turn_steps (doing old) old.up h.turn.got h.turn.found texts h.turn.steps.count) old.sender h.turn.steps.takes.allowed was)

  -- the sender counts as before
  numbered_stays : mid.sender.numbered ≡ old.sender.numbered
  numbered_stays = turn_numbered moment kind old_past new_past old_calls new_calls old mid turned h.turn

  kind_stays : {issued : List (List ℕ)} → IsOnCourse p issued old → mid.sender.numbered ≡ p.numbered
  kind_stays on = numbered_stays ∙ on.its_kind

  -- the course of the turn
  course : (issued : List (List ℕ)) → IsUnderway p old.desk issued →
      IsTurnOf p (fact_of turned.note) (note_lines turned.note) issued old.desk turned.ending mid.desk
  course issued h0 = turn-underway p moment kind old_past new_past old_calls new_calls old mid turned issued h.kept.before h.kept.finds h.not_fallen h.turn h0

  underway : (issued : List (List ℕ)) → IsUnderway p old.desk issued → IsUnderway p mid.desk (issued_in h.turn.found texts issued)
  underway issued h0 =
      let F : LinkFact → Type 0 = λ f. IsUnderway p mid.desk (issued_in f (texts_in (note_lines turned.note)) issued) in
      let L : List Line → Type 0 = λ l. IsUnderway p mid.desk (issued_in h.turn.found (texts_in l) issued) in
      subst L (noted_lines turned.note moment old.sender.acked mid.sender.acked h.turn.lines h.turn.got h.turn.found h.turn.none h.turn.some)
      (subst F its_fact (course issued h0).underway)

  -- the turn dials, and makes no link
  dial_over : (how : PrintEnd) → IsDialling p port first old_past old → (h.turn.found ≡ fact.Opened → ⊥) → (how ≡ end.Done → ⊥) →
      ((why : SessionEnd) → how ≡ end.Ended why → ⊥) → (IsUnsent how → h.turn.found ≡ fact.NoPort) → IsOver p.numbered kind whole how first new_past mid
  dial_over how d other undone unended none_sent =
      let P : List WorldEvent → List WorldEvent → Type 0 = λ past added. HasPrinted p.numbered kind whole how mid.sender.acked past added in
      let F : Option (List WorldEvent) → Type 0 = λ f. Recorded f new_past P in
      let printed : (past added : List WorldEvent) → IsTurned moment kind old mid h.turn.got h.turn.found texts (world_in kind past) added → P past added =
      λ past added t. (let none = none_made moment kind old mid h.turn.got h.turn.found texts past added other d.dials t in
      let A : ℕ → Type 0 = λ n. HasPrinted p.numbered kind whole how n past added in
      subst A (sym (ap (λ (s : SenderData). s.acked) none.1 ∙ d.none_acked))
      (printed_of p.numbered kind whole how [] 0 past added (part_none p.numbered whole) (λ is. absurd (undone is)) (λ count is. absurd (unended (NoAnswer count) is)) (λ count is. absurd (unended (LostOk count) is)) (λ all is. absurd (unended (NumbersUsed all) is))
      (λ whole_turn. none_unsent 0 added) (λ one. absurd (omega (arith, one, none.0))) (λ why is. absurd (unended why is)) (none_printed p.numbered kind past added none.0)))
      in
      record {
        printed = subst F d.nothing (recorded_so old_past new_past
            (λ past added. IsTurned moment kind old mid h.turn.got h.turn.found texts (world_in kind past) added) P all printed);
        ended = λ why is. absurd (unended why is);
        unsent = λ none. nothing_added old_past new_past (recorded_so old_past new_past
            (λ past added. IsTurned moment kind old mid h.turn.got h.turn.found texts (world_in kind past) added)
            (λ past added. added ≡ []) all
            (λ past added t. none_added moment kind old mid h.turn.got h.turn.found texts past added (none_sent none) t)) ∙ d.nothing;
      }

  -- the turn makes the link
  dial_made : SuitsAs old.sender.numbered first kind.oks → IsDialling p port first old_past old → fact_of turned.note ≡ fact.Opened → IsOnLink kind p port first new_past mid
  dial_made suits d is =
      let found : h.turn.found ≡ fact.Opened = sym its_fact ∙ is in
      let P : List WorldEvent → List WorldEvent → Type 0 = λ past added. HasSentAll kind [] mid past added in
      let F : Option (List WorldEvent) → Type 0 = λ f. Recorded f new_past P in
      let I : LinkFact → Type 0 = λ f. IsUnderway p mid.desk (issued_in f texts []) in
      let opened_course : IsUnderway p mid.desk [] = subst I found (underway [] d.on.course) in
      record {
        issued = [];
        on = record { course = opened_course; cool = d.on.cool; its_kind = kind_stays d.on; sound = sound d.on.sound };
        up = h.kept.up ∙ ap (λ (f : LinkFact). up_after f old.up) is;
        listed = listed_by (kind.listed port) refl;
        history = subst F d.nothing (recorded_if old_past new_past
            (λ past added. IsTurned moment kind old mid h.turn.got h.turn.found texts (world_in kind past) added) P all
            (λ past added so t. record {
              made = made_now moment kind old mid h.turn.got h.turn.found texts past added found d.on.sound (suits past (sym d.nothing ∙ so)) d.dials t;
              sent = none_unsent mid.sender.acked added;
            }));
        unstarted = λ unready. h.greatest ∙ d.unstarted;
      }
    where
      listed_by : (b : Bool) → kind.listed port ≡ b → kind.listed port ≡ true
      listed_by true e = e
      listed_by false e =
          let none : fact_of turned.note ≡ fact.NoPort = h.no_port.1 (d.dials, ap kind.listed d.its_port ∙ e) in
          let no : fact.Opened ≡ fact.NoPort = sym is ∙ none in
          absurd (cc)

  can_not : IsDialling p port first old_past old → (f : LinkFact) → fact_of turned.note ≡ f → can_find Dialling f ≡ false → ⊥
  can_not d f is none =
      let yes : can_find Dialling f ≡ true = ap (λ (x : Doing). can_find x f) (sym d.dials) ∙ ap (can_find (doing old)) (sym is) ∙ h.kept.finds in
      let no : true ≡ false = sym yes ∙ none in
      absurd (cc)

  dial_goes : SuitsAs old.sender.numbered first kind.oks → IsDialling p port first old_past old → (f : LinkFact) → fact_of turned.note ≡ f → GoesOn kind p port (end_of f) first new_past mid
  dial_goes suits d fact.Opened is = dial_made suits d is
  dial_goes suits d fact.NoPort is = dial_over end.NoPort d (λ opens. (let no : fact.NoPort ≡ fact.Opened = sym is ∙ its_fact ∙ opens in absurd (cc))) (λ e. absurd (cc)) (λ why e. absurd (cc)) (λ none. sym its_fact ∙ is)
  dial_goes suits d fact.Failed is = dial_over end.LinkFailed d (λ opens. (let no : fact.Failed ≡ fact.Opened = sym is ∙ its_fact ∙ opens in absurd (cc))) (λ e. absurd (cc)) (λ why e. absurd (cc)) (λ none. absurd none)
  dial_goes suits d fact.Quiet is = absurd (can_not d fact.Quiet is refl)
  dial_goes suits d fact.Ready is = absurd (can_not d fact.Ready is refl)
  dial_goes suits d fact.Closed is = absurd (can_not d fact.Closed is refl)
  dial_goes suits d (fact.Ended why) is = absurd (can_not d (fact.Ended why) is refl)

  -- the link was made in a turn before
  up_clash : {X : Type 0} → IsOnLink kind p port first old_past old → old.up ≡ false → X
  up_clash l down = (let up : old.up ≡ true = l.up in absurd (cc))

  talks : IsOnLink kind p port first old_past old → h.turn.found ≡ fact.Opened → ⊥
  talks l is =
      let F : LinkFact → Type 0 = λ f. can_find (doing old) f ≡ true in
      up_clash l (dials_down old (opens_dialling (doing old) (subst F is can)))

  listens_not : IsOnLink kind p port first old_past old → fact_of turned.note ≡ fact.NoPort → ⊥
  listens_not l is =
      let F : LinkFact → Type 0 = λ f. can_find (doing old) f ≡ true in
      up_clash l (dials_down old (ports_dialling (doing old) (subst F is h.kept.finds)))

  -- what the turn makes of the history, and that all is sent if no call failed
  talk_made : (Whole : Type 0) (l : IsOnLink kind p port first old_past old) → (Whole → h.turn.found ≡ fact.Failed → ⊥) →
      Recorded first new_past (λ past added. IsMade kind (issued_in h.turn.found texts l.issued) mid past added
      × (Whole → AreAllSent (issued_in h.turn.found texts l.issued) mid.sender.acked added))
  talk_made Whole l whole_turn =
      recorded_then first old_past new_past (λ past added. HasSentAll kind l.issued old past added)
      (λ past added. IsTurned moment kind old mid h.turn.got h.turn.found texts (world_in kind past) added)
      (λ past added. IsMade kind (issued_in h.turn.found texts l.issued) mid past added
      × (Whole → AreAllSent (issued_in h.turn.found texts l.issued) mid.sender.acked added))
      l.history all
      (λ past added more so t. (
        made_on moment kind old mid h.turn.got h.turn.found texts l.issued past added more (talks l) so.made t,
        λ whole. made_sends moment kind old mid h.turn.got h.turn.found texts l.issued past added more (whole_turn whole) (talks l) so.made so.sent t,
      ))

  talk_linked : (l : IsOnLink kind p port first old_past old) → LinkedAs kind old_past l.issued old
  talk_linked l now is =
      let grew = l.history.grew now is in
      let L : List WorldEvent → Type 0 = λ es. IsLinked kind l.issued old es in
      subst L (sym grew.3) (opened grew.4.made.opened)

  -- a turn that ends the session ends its sender so
  talk_ended : (why : SessionEnd) → h.turn.found ≡ fact.Ended why → mid.sender.ended ≡ Some why
  talk_ended why found =
      let F : LinkFact → Type 0 = λ f. can_find (doing old) f ≡ true in
      ap (λ (s : SenderData). s.ended) h.turn.steps.takes.sender
      ∙ ap (λ (f : LinkFact). (after_steps moment (turn_steps (doing old) old.up h.turn.got f texts h.turn.steps.count) old.sender).ended) found
      ∙ ended_turn moment why (doing old) old.up h.turn.got texts h.turn.steps.count old.sender (subst F found can) ((h.turn.ended why).0 found)

  -- a print that is done has issued the whole plan, and all of it is acknowledged
  talk_whole : (l : IsOnLink kind p port first old_past old) → h.turn.found ≡ fact.Closed →
      Weave p.numbered (issued_in h.turn.found texts l.issued) whole
      × Weave p.numbered (take mid.sender.acked (issued_in h.turn.found texts l.issued)) whole
      × (p.numbered ≡ false → mid.sender.acked ≡ length (issued_in h.turn.found texts l.issued))
  talk_whole l closed =
      let N : LinkFact → Type 0 = λ f. IsNoted moment mid.sender.acked f h.turn.lines old.desk turned.ending mid.desk in
      let n : IsNoted moment mid.sender.acked fact.Closed h.turn.lines old.desk turned.ending mid.desk = subst N closed (noted (λ rests. up_clash l (rests_down old rests))) in
      let off : mid.desk.state ≡ Offline = closed_off moment mid.sender.acked h.turn.lines old.desk turned.ending mid.desk (no_lines (ap may_have_issued closed))
      l.on.course.unstopped n in
      let done = underway-whole p mid.desk (issued_in h.turn.found texts l.issued) off (underway l.issued l.on.course) in
      let s : IsSound mid.sender = sound l.on.sound in
      let below : mid.desk.issued < 18446744073709551615 = omega (arith, h.joined.issued, s.few) in
      let A : ℕ → Type 0 = λ n. Weave p.numbered (take n (issued_in h.turn.found texts l.issued)) whole in (
        done.woven,
        subst A h.joined.acked (done.acknowledged below),
        λ plain. omega (arith, done.all_acked plain, done.all below, h.joined.issued, h.joined.acked, s.counted),
      )

  talk_over : (how : PrintEnd) → IsOnLink kind p port first old_past old → (how ≡ end.Done → h.turn.found ≡ fact.Closed) →
      ((why : SessionEnd) → how ≡ end.Ended why → fact_of turned.note ≡ fact.Ended why) → (IsUnsent how → ⊥) → (how ≢ end.LinkFailed → h.turn.found ≡ fact.Failed → ⊥) →
      mid.up ≡ false → IsOver p.numbered kind whole how first new_past mid
  talk_over how l closed ends sent whole_turn down =
      let now : List (List ℕ) = issued_in h.turn.found texts l.issued in
      record {
        printed = recorded_so first new_past (λ past added. IsMade kind now mid past added × (how ≢ end.LinkFailed → AreAllSent now mid.sender.acked added))
            (λ past added. HasPrinted p.numbered kind whole how mid.sender.acked past added) (talk_made (how ≢ end.LinkFailed) l whole_turn)
            (λ past added so. printed_of p.numbered kind whole how now mid.sender.acked past added (underway-part p mid.desk now (underway l.issued l.on.course))
            (λ done. talk_whole l (closed done))
            (λ count is. (let fits = h.fits (NoAnswer count) (ends (NoAnswer count) is) in (fits.0, unanswered_of kind now mid past added so.0 fits.1)))
            (λ count is. (let fits = h.fits (LostOk count) (ends (LostOk count) is) in (fits.0, missing_of kind now mid past added so.0 fits.1)))
            (λ all is. h.fits (NumbersUsed all) (ends (NumbersUsed all) is)) so.1 (λ one. so.0.opened.open_as ∙ down) (λ why is. so.0.once)
            (by_plan kind p now mid past added (kind_stays l.on) (made_printed kind now mid past added so.0)));
        ended = λ why is. record {
          its_end = talk_ended why (sym its_fact ∙ ends why is);
          fits = h.fits why (ends why is);
          caused = (let K : Bool → Type 0 = λ b. EndCausedAs b kind new_past why in subst K (sym numbered_stays) (turn_end_caused moment kind old_past new_past old_calls new_calls old mid turned h.turn h.kept why (ends why is) l.issued (talk_linked l)));
        };
        unsent = λ none. absurd (sent none);
      }

  talk_on : (l : IsOnLink kind p port first old_past old) → mid.up ≡ true → (h.turn.found ≡ fact.Failed → ⊥) → IsOnLink kind p port first new_past mid
  talk_on l up whole_turn = record {
    issued = issued_in h.turn.found texts l.issued;
    on = record { course = (underway l.issued l.on.course); cool = l.on.cool; its_kind = kind_stays l.on; sound = sound l.on.sound };
    up = up;
    listed = l.listed;
    history = recorded_so first new_past
        (λ past added. IsMade kind (issued_in h.turn.found texts l.issued) mid past added
        × (Unit {0} → AreAllSent (issued_in h.turn.found texts l.issued) mid.sender.acked added))
        (λ past added. HasSentAll kind (issued_in h.turn.found texts l.issued) mid past added) (talk_made (Unit {0}) l (λ _. whole_turn))
        (λ past added so. record { made = so.0; sent = so.1 tt });
    unstarted = λ unready. h.greatest ∙ l.unstarted (was_unready (fact_of turned.note) refl (sym h.ready_is ∙ unready));
  }
    where
      was_unready : (f : LinkFact) → fact_of turned.note ≡ f → ready_after (fact_of turned.note) old.sender.ready ≡ false → old.sender.ready ≡ false
      was_unready fact.Opened is unready = absurd (talks l (sym its_fact ∙ is))
      was_unready fact.Ready is unready =
          let no : true ≡ false = sym (ap (λ (f : LinkFact). ready_after f old.sender.ready) is) ∙ unready in
          absurd (cc)
      was_unready fact.Quiet is unready = sym (ap (λ (f : LinkFact). ready_after f old.sender.ready) is) ∙ unready
      was_unready fact.Closed is unready = sym (ap (λ (f : LinkFact). ready_after f old.sender.ready) is) ∙ unready
      was_unready fact.NoPort is unready = sym (ap (λ (f : LinkFact). ready_after f old.sender.ready) is) ∙ unready
      was_unready fact.Failed is unready = sym (ap (λ (f : LinkFact). ready_after f old.sender.ready) is) ∙ unready
      was_unready (fact.Ended why) is unready = sym (ap (λ (f : LinkFact). ready_after f old.sender.ready) is) ∙ unready

  -- no call failed in a turn that found something else
  unbroken : (f : LinkFact) → fact_of turned.note ≡ f → (f ≡ fact.Failed → ⊥) → h.turn.found ≡ fact.Failed → ⊥
  unbroken f is other failed = other (sym is ∙ its_fact ∙ failed)

  talk_goes : IsOnLink kind p port first old_past old → (f : LinkFact) → fact_of turned.note ≡ f → GoesOn kind p port (end_of f) first new_past mid
  unfolding why_of
  talk_goes l fact.Quiet is = talk_on l (h.kept.up ∙ ap (λ (f : LinkFact). up_after f old.up) is ∙ l.up) (unbroken fact.Quiet is (λ e. absurd (cc)))
  talk_goes l fact.Ready is = talk_on l (h.kept.up ∙ ap (λ (f : LinkFact). up_after f old.up) is) (unbroken fact.Ready is (λ e. absurd (cc)))
  talk_goes l fact.Opened is = absurd (talks l (sym its_fact ∙ is))
  talk_goes l fact.Closed is = talk_over end.Done l (λ e. sym its_fact ∙ is) (λ why e. absurd (cc)) (λ none. none) (λ whole. unbroken fact.Closed is (λ e. absurd (cc)))
      (h.kept.up ∙ ap (λ (f : LinkFact). up_after f old.up) is)
  talk_goes l fact.NoPort is = absurd (listens_not l is)
  talk_goes l fact.Failed is = talk_over end.LinkFailed l (λ e. absurd (cc)) (λ why e. absurd (cc)) (λ none. none) (λ whole e. whole refl)
      (h.kept.up ∙ ap (λ (f : LinkFact). up_after f old.up) is)
  talk_goes l (fact.Ended ends) is = talk_over (end.Ended ends) l (λ e. absurd (cc)) (λ why e. is ∙ ap fact.Ended (ap (why_of ends) e)) (λ none. none)
      (λ whole. unbroken (fact.Ended ends) is (λ e. absurd (cc))) (h.kept.up ∙ ap (λ (f : LinkFact). up_after f old.up) is)

  -- a turn leads a print on, or ends it
  pub turn_goes : SuitsAs old.sender.numbered first kind.oks → IsBetweenTurns kind p port first old_past old → GoesOn kind p port (end_of (fact_of turned.note)) first new_past mid
  turn_goes suits (inl d) = dial_goes suits d (fact_of turned.note) refl
  turn_goes suits (inr l) = talk_goes l (fact_of turned.note) refl

  -- what its ending says of the desk
  pub turn_free : IsBetweenTurns kind p port first old_past old → fact_of turned.note ≡ fact.Quiet → (x : Ending) → turned.ending ≡ Some x →
      (mid.desk.state ≡ Operational) × (mid.desk.greatest ≡ 1)
  turn_free (inl d) is x ends = absurd (can_not d fact.Quiet is refl)
  turn_free (inr l) is x ends = (course l.issued l.on.course).leaves x is ends
