-- The print over a whole turn of its session.
use Rattle.std.proofs.Common.{◌≡◌, ◌⊎◌, inl, inr, ℕ, ◌≤◌, Bool, true, false, cond, List, [], ◌∷◌, ◌++◌, Option, None, Some, refl, sym, ◌∙◌, ap, subst, arith, append_assoc}
use Rattle.std.specs.Option.{option_or}
use Rattle.std.proofs.lemmas.List.{append-nil}
use Rattle.std.proofs.lemmas.Bool.{false≢true}
use Rattle.job_desk.specs.declared.link_fact.LinkFact.{LinkFact}
use Rattle.job_desk.specs.declared.link_fact.LinkFact.TheVariants as fact
use Rattle.print_queue.specs.declared.ending.Ending.{Ending}
use Rattle.print_queue.specs.declared.ending.Outcome.{Outcome}
use Rattle.print_queue.specs.declared.ending.Outcome.TheVariants as outcome
use Rattle.job_desk.specs.Data.{Data, Line}
use Rattle.job_desk.specs.Pull.{pull_step}
use Rattle.job_desk.specs.Note.{Noted, after_ending, end_at, is_over, finish, note_step, first_fact, with_acked}
use Rattle.job_desk.specs.declared.state.State.{State}
use Rattle.job_desk.specs.declared.state.State.TheVariants.{Offline, Connecting, Operational, Printing, Pausing, Paused, Cancelling, Finishing, Closing, Fault}
use Rattle.job_desk.proofs.Connecting.{note_opened}
use Rattle.printer_link.specs.Link.{LinkKind}
use Rattle.printer_model.specs.declared.event.WorldEvent.{WorldEvent}
use Rattle.octo_session.specs.Data.{SessionData, IsSession, doing}
use Rattle.octo_session.specs.DeskTurn.{Pulls, last_noted, IsNoted}
use Rattle.octo_session.specs.Found.{Got, unasked, lost, nothing as silence, whole, can_find, may_issue}
use Rattle.octo_session.specs.Turn.{fact_of, note_lines, IsTurn, IsDeskTurn, texts_in}
use Rattle.octo_session.specs.declared.found.Doing.{Doing}
use Rattle.octo_session.specs.declared.found.Doing.TheVariants.{Dialling, HangingUp, UsingLink, Resting}
use Rattle.octo_session.proofs.Desk.{noted_greatest}
use Rattle.octo_session.proofs.Counts.{begins, counts_note}
use Rattle.octo_session.proofs.Choosing.{dials_at, hangs_up_at}
use Rattle.octo_session_line_proof.specs.Issuing.{issued_in}
use Rattle.octo_session.proofs.Noting.{noted_fact, noted_lines}
use Rattle.octo_session.specs.declared.found.Turned.{Turned}
use Rattle.octo_session_print.specs.Plan.{PrintData}
use Rattle.octo_session_print.specs.Underway.{standing, IsUnderway, Suits, ComesTo, EndsAs}
use Rattle.octo_session_print.specs.Progress.{after_pull, after_fact}
use Rattle.octo_session_print.specs.Turned.{IsTurnOf}
use Rattle.octo_session_print.proofs.Weaves.{part_of, part_after}
use Rattle.octo_session_print.proofs.Phases.{finishing_of, impossible}
use Rattle.octo_session_print.proofs.Pulling.{pull-underway}
use Rattle.octo_session_print.proofs.States.{stays_silent, acked_pulls, pulls_open, settled_open, note_connecting, note_ready, failed_state}
use Rattle.octo_session_print.proofs.Noting.{NotedSo, still_so, acked_more, note-underway}

-- What a turn does, by the desk.

suits : (now : Doing) (found : LinkFact) (x : SessionData) (acked : ℕ) → doing x ≡ now → can_find now found ≡ true
    → (begins found ≡ false → x.desk.acked ≤ acked) → Suits (first_fact found) acked x.desk
suits Dialling fact.Opened x acked at can more = dials_at x at
suits Dialling fact.NoPort x acked at can more = more refl
suits Dialling fact.Failed x acked at can more = more refl
suits Dialling fact.Quiet x acked at can more = more refl
suits Dialling fact.Ready x acked at can more = more refl
suits Dialling fact.Closed x acked at can more = absurd (false≢true can)
suits Dialling (fact.Ended end) x acked at can more = more refl
suits HangingUp fact.Closed x acked at can more = (hangs_up_at x at, more refl)
suits HangingUp fact.Opened x acked at can more = absurd (false≢true can)
suits HangingUp fact.NoPort x acked at can more = more refl
suits HangingUp fact.Failed x acked at can more = more refl
suits HangingUp fact.Quiet x acked at can more = more refl
suits HangingUp fact.Ready x acked at can more = more refl
suits HangingUp (fact.Ended end) x acked at can more = more refl
suits UsingLink fact.Opened x acked at can more = absurd (false≢true can)
suits UsingLink fact.Closed x acked at can more = absurd (false≢true can)
suits UsingLink fact.NoPort x acked at can more = more refl
suits UsingLink fact.Failed x acked at can more = more refl
suits UsingLink fact.Quiet x acked at can more = more refl
suits UsingLink fact.Ready x acked at can more = more refl
suits UsingLink (fact.Ended end) x acked at can more = more refl
suits Resting fact.Opened x acked at can more = absurd (false≢true can)
suits Resting fact.Closed x acked at can more = absurd (false≢true can)
suits Resting fact.NoPort x acked at can more = more refl
suits Resting fact.Failed x acked at can more = more refl
suits Resting fact.Quiet x acked at can more = more refl
suits Resting fact.Ready x acked at can more = more refl
suits Resting (fact.Ended end) x acked at can more = more refl

opened_last : (f : LinkFact) → begins f ≡ true → f ≡ fact.Opened
opened_last fact.Opened e = refl
opened_last fact.Quiet e = absurd (false≢true e)
opened_last fact.Ready e = absurd (false≢true e)
opened_last fact.Closed e = absurd (false≢true e)
opened_last fact.NoPort e = absurd (false≢true e)
opened_last fact.Failed e = absurd (false≢true e)
opened_last (fact.Ended end) e = absurd (false≢true e)

-- the texts of a turn
texts_after : (found : LinkFact) (lines : List Line) (issued : List (List ℕ)) → (begins found ≡ true → lines ≡ [])
    → after_fact (first_fact found) issued ++ texts_in lines ≡ issued_in found (texts_in lines) issued
texts_after fact.Opened lines issued none = ap texts_in (none refl)
texts_after fact.Quiet lines issued none = refl
texts_after fact.Ready lines issued none = refl
texts_after fact.Closed lines issued none = refl
texts_after fact.NoPort lines issued none = refl
texts_after fact.Failed lines issued none = refl
texts_after (fact.Ended end) lines issued none = refl

not_begun : (found : LinkFact) → begins found ≡ false → begins (first_fact found) ≡ false
not_begun fact.Opened e = absurd (false≢true (sym e))
not_begun fact.Quiet e = refl
not_begun fact.Ready e = refl
not_begun fact.Closed e = refl
not_begun fact.NoPort e = refl
not_begun fact.Failed e = refl
not_begun (fact.Ended end) e = refl

quiet_may_not : (got : Got) → may_issue got fact.Opened ≡ false
quiet_may_not unasked = refl
quiet_may_not lost = refl
quiet_may_not silence = refl
quiet_may_not (whole bytes) = refl

module _ (p : PrintData) where
  -- successive pulls issue their texts
  pub pulls-underway : (moment : ℕ) (lines : List Line) (old new : Data) (issued : List (List ℕ)) → Pulls moment lines old new
      → IsUnderway p old issued → IsUnderway p new (issued ++ texts_in lines)
  pulls-underway moment [] old new issued pulls h = subst (λ l. IsUnderway p new l) (sym (append-nil issued))
      (subst (λ (d : Data). IsUnderway p d issued) (sym pulls) h)
  pulls-underway moment (line ∷ lines) old new issued pulls h =
      let next : Data = (pull_step moment old).1 in
      let one : IsUnderway p next (issued ++ line.text ∷ []) =
      subst (λ (got : Option Line). IsUnderway p next (after_pull got issued)) pulls.0 (pull-underway p moment old issued h) in
      subst (λ l. IsUnderway p new l) (append_assoc issued (line.text ∷ []) (texts_in lines))
      (pulls-underway moment lines next new (issued ++ line.text ∷ []) pulls.1 one)

  comes_more : (how : Outcome) (moment : ℕ) (lines : List Line) (old new : Data) (issued : List (List ℕ)) → Pulls moment lines old new
      → ComesTo p how old.state issued → ComesTo p how new.state (issued ++ texts_in lines)
  comes_more outcome.Active moment lines old new issued pulls h = h
  comes_more outcome.Cancelled moment lines old new issued pulls h = h
  comes_more outcome.Done moment lines old new issued pulls h =
      record {
        first = h.first;
        is_part = part_of h.first issued (issued ++ texts_in lines) h.is_part (part_after issued (texts_in lines));
        woven = h.woven;
      }
  comes_more outcome.Failed moment lines old new issued pulls h = ap (λ (d : Data). d.state) (stays_silent Fault moment lines old new (λ d. refl) h pulls) ∙ h

  -- an ending stays what it was while lines are pulled
  ends_more : (ending : Option Ending) (moment : ℕ) (lines : List Line) (old new : Data) (issued : List (List ℕ)) → Pulls moment lines old new
      → EndsAs p ending old.state issued → EndsAs p ending new.state (issued ++ texts_in lines)
  ends_more None moment lines old new issued pulls h = tt
  ends_more (Some ending) moment lines old new issued pulls h = (h.0, comes_more ending.outcome moment lines old new issued pulls h.1)

  either_end : (first last : Option Ending) (state : State) (issued : List (List ℕ)) → EndsAs p first state issued → EndsAs p last Fault issued
      → EndsAs p (option_or first last) Fault issued
  either_end None last state issued h g = g
  either_end (Some ending) last state issued h g = (h.0, still_so p ending.outcome state issued h.1)

  -- a failure is noted last
  noted_last : (found : LinkFact) (acked moment : ℕ) (issued : List (List ℕ)) (noted : Noted) → (begins found ≡ false → noted.1.acked ≤ acked)
      → NotedSo p issued noted → NotedSo p issued (last_noted found acked moment noted)
  noted_last fact.Quiet acked moment issued noted below h = h
  noted_last fact.Opened acked moment issued noted below h = h
  noted_last fact.Ready acked moment issued noted below h = h
  noted_last fact.Closed acked moment issued noted below h = h
  noted_last fact.NoPort acked moment issued noted below h = h
  noted_last (fact.Ended end) acked moment issued noted below h = h
  noted_last fact.Failed acked moment issued noted below h =
      let last : Noted = note_step acked fact.Failed moment noted.1 in
      let so : NotedSo p issued last = note-underway p fact.Failed acked moment noted.1 issued (below refl) h.0 in
      let down : last.1.state ≡ Fault = failed_state (after_ending (with_acked acked moment noted.1)) in
      let its_end : EndsAs p last.0 Fault issued = subst (λ s. EndsAs p last.0 s issued) down so.1 in
      (so.0, subst (λ s. EndsAs p (option_or noted.0 last.0) s issued) (sym down) (either_end noted.0 last.0 noted.1.state issued h.1 its_end))

  -- a print that ends in a note leaves its desk for the next one
  ends_cond : (b : Bool) (d : Data) (end : Ending) → d.greatest ≡ 1 → (cond b (finish outcome.Done d) (None, d)).0 ≡ Some end
      → ((cond b (finish outcome.Done d) (None, d)).1.state ≡ Operational) × (d.greatest ≡ 1)
  ends_cond true d end one e = (refl, one)
  ends_cond false d end one e = absurd (cc e)

  none_some : (X : Type 0) (end : Ending) → ◌≡◌ {A = Option Ending} None (Some end) → X
  none_some X end e = absurd (cc e)

  ends_open : (s : State) (d : Data) (issued : List (List ℕ)) (end : Ending) → d.state ≡ s → IsUnderway p d issued → (end_at s d).0 ≡ Some end
      → ((end_at s d).1.state ≡ Operational) × (d.greatest ≡ 1)
  ends_open Finishing d issued end at h e = ends_cond (is_over d) d end (finishing_of p (standing d) h.lines h.phase at).on.print_is e
  ends_open Pausing d issued end at h e = impossible _ p (standing d) h.lines Pausing h.phase at refl
  ends_open Cancelling d issued end at h e = impossible _ p (standing d) h.lines Cancelling h.phase at refl
  ends_open Offline d issued end at h e = none_some _ end e
  ends_open Connecting d issued end at h e = none_some _ end e
  ends_open Operational d issued end at h e = none_some _ end e
  ends_open Printing d issued end at h e = none_some _ end e
  ends_open Paused d issued end at h e = none_some _ end e
  ends_open Closing d issued end at h e = none_some _ end e
  ends_open Fault d issued end at h e = none_some _ end e

  stays_connecting : (moment acked : ℕ) (lines : List Line) (old : Data) (ending : Option Ending) (new : Data) → old.state ≡ Connecting
      → IsNoted moment acked fact.Quiet lines old ending new → new.state ≡ Connecting
  stays_connecting moment acked lines old ending new at n =
      let first : Data = (note_step acked fact.Quiet moment old).1 in
      let there : first.state ≡ Connecting = note_connecting acked moment old at in
      ap (λ (x : Noted). x.1.state) n.is ∙ ap (λ (d : Data). d.state) (stays_silent Connecting moment lines first n.pulled (λ d. refl) there n.pulls) ∙ there

  stays_opened : (moment acked : ℕ) (lines : List Line) (old : Data) (ending : Option Ending) (new : Data) → old.state ≡ Connecting
      → IsNoted moment acked fact.Opened lines old ending new → new.state ≡ Connecting
  stays_opened moment acked lines old ending new at n =
      let first : Data = (note_step acked fact.Opened moment old).1 in
      let there : first.state ≡ Connecting = note_opened acked moment old at in
      ap (λ (x : Noted). x.1.state) n.is ∙ ap (λ (d : Data). d.state) (stays_silent Connecting moment lines first n.pulled (λ d. refl) there n.pulls) ∙ there

  is_ready : (moment acked : ℕ) (lines : List Line) (old : Data) (ending : Option Ending) (new : Data) → old.state ≡ Connecting
      → IsNoted moment acked fact.Ready lines old ending new → new.state ≡ Operational
  is_ready moment acked lines old ending new at n =
      ap (λ (x : Noted). x.1.state) n.is ∙ pulls_open moment lines (note_step acked fact.Ready moment old).1 n.pulled (note_ready acked moment old at) n.pulls

  opening_at : (found : LinkFact) (acked : ℕ) (old : Data) → found ≡ fact.Opened → Suits (first_fact found) acked old → old.state ≡ Connecting
  opening_at found acked old e s = subst (λ f. Suits (first_fact f) acked old) e s

  quiet_rises : (found : LinkFact) (acked : ℕ) (old : Data) → found ≡ fact.Quiet → Suits (first_fact found) acked old → old.acked ≤ acked
  quiet_rises found acked old e s = subst (λ f. Suits (first_fact f) acked old) e s

  leaves_open : (moment acked : ℕ) (lines : List Line) (issued : List (List ℕ)) (old : Data) (ending : Option Ending) (new : Data) (end : Ending)
      → old.acked ≤ acked → IsNoted moment acked fact.Quiet lines old ending new → IsUnderway p old issued → ending ≡ Some end
      → (new.state ≡ Operational) × (new.greatest ≡ 1)
  leaves_open moment acked lines issued old ending new end more n h is =
      let told : Data = with_acked acked moment old in
      let done : Noted = end_at told.state told in
      let at_end : done.0 ≡ Some end = sym (ap (λ (x : Noted). x.0) n.is) ∙ is in
      let so = ends_open told.state told issued end refl (acked_more p acked moment old issued (λ off. more) h) at_end in
      let first : (note_step acked fact.Quiet moment old).1.state ≡ Operational = settled_open done.1 so.0 in (
        ap (λ (x : Noted). x.1.state) n.is ∙ pulls_open moment lines (note_step acked fact.Quiet moment old).1 n.pulled first n.pulls,
        noted_greatest moment acked fact.Quiet lines old ending new n ∙ so.1,
      )

  -- a whole turn, as the desk notes it
  pub noted-turn : (moment acked : ℕ) (found : LinkFact) (lines : List Line) (issued : List (List ℕ)) (old : Data) (ending : Option Ending)
      (new : Data) → Suits (first_fact found) acked old → (begins found ≡ false → old.acked ≤ acked) → (begins found ≡ true → lines ≡ [])
      → IsNoted moment acked found lines old ending new → IsUnderway p old issued → IsTurnOf p found lines issued old ending new
  noted-turn moment acked found lines issued old ending new s rises none n h =
      let first : Noted = note_step acked (first_fact found) moment old in
      let texts : List (List ℕ) = after_fact (first_fact found) issued in
      let so : NotedSo p texts first = note-underway p (first_fact found) acked moment old issued s h in
      let pulled : NotedSo p (texts ++ texts_in lines) (first.0, n.pulled) =
      (pulls-underway moment lines first.1 n.pulled texts n.pulls so.0, ends_more first.0 moment lines first.1 n.pulled texts n.pulls so.1) in
      let below : begins found ≡ false → n.pulled.acked ≤ acked = λ e.
      (let same : n.pulled.acked ≡ acked = acked_pulls moment lines first.1 n.pulled n.pulls
      ∙ (counts_note acked (first_fact found) moment old (not_begun found e)).acked in omega (arith, same)) in
      let last : NotedSo p (texts ++ texts_in lines) (ending, new) =
      subst (λ x. NotedSo p (texts ++ texts_in lines) x) (sym n.is)
      (noted_last found acked moment (texts ++ texts_in lines) (first.0, n.pulled) below pulled) in
      let all : NotedSo p (issued_in found (texts_in lines) issued) (ending, new) =
      subst (λ l. NotedSo p l (ending, new)) (texts_after found lines issued none) last in
      record {
        underway = all.0;
        ends = all.1;
        same_print = noted_greatest moment acked found lines old ending new n;
        connects = λ at e. stays_connecting moment acked lines old ending new at (subst (λ f. IsNoted moment acked f lines old ending new) e n);
        opens = λ e. stays_opened moment acked lines old ending new (opening_at found acked old e s)
            (subst (λ f. IsNoted moment acked f lines old ending new) e n);
        readies = λ at e. is_ready moment acked lines old ending new at (subst (λ f. IsNoted moment acked f lines old ending new) e n);
        leaves = λ end e is. leaves_open moment acked lines issued old ending new end (quiet_rises found acked old e s)
            (subst (λ f. IsNoted moment acked f lines old ending new) e n) h is;
      }

  -- a turn that does nothing
  rests : (found : LinkFact) (issued : List (List ℕ)) (old : Data) → can_find Resting found ≡ true → IsUnderway p old issued
      → IsTurnOf p found [] issued old None old
  rests fact.Quiet issued old can h = record {
    underway = subst (λ l. IsUnderway p old l) (sym (append-nil issued)) h;
    ends = tt;
    same_print = refl;
    connects = λ at e. at;
    opens = λ e. absurd (cc e);
    readies = λ at e. absurd (cc e);
    leaves = λ end e is. absurd (cc is);
  }
  rests fact.Opened issued old can h = absurd (false≢true can)
  rests fact.Ready issued old can h = absurd (false≢true can)
  rests fact.Closed issued old can h = absurd (false≢true can)
  rests fact.NoPort issued old can h = absurd (false≢true can)
  rests fact.Failed issued old can h = absurd (false≢true can)
  rests (fact.Ended end) issued old can h = absurd (false≢true can)

  desk_turn : (now : Doing) (moment acked : ℕ) (found : LinkFact) (lines : List Line) (issued : List (List ℕ)) (old : Data) (ending : Option Ending)
      (new : Data) → can_find now found ≡ true → Suits (first_fact found) acked old → (begins found ≡ false → old.acked ≤ acked)
      → (begins found ≡ true → lines ≡ []) → IsDeskTurn now moment acked found lines old ending new → IsUnderway p old issued
      → IsTurnOf p found lines issued old ending new
  desk_turn Dialling moment acked found lines issued old ending new can s more none t h =
      noted-turn moment acked found lines issued old ending new s more none t h
  desk_turn HangingUp moment acked found lines issued old ending new can s more none t h =
      noted-turn moment acked found lines issued old ending new s more none t h
  desk_turn UsingLink moment acked found lines issued old ending new can s more none t h =
      noted-turn moment acked found lines issued old ending new s more none t h
  desk_turn Resting moment acked found lines issued old ending new can s more none t h =
      subst (λ l. IsTurnOf p found l issued old ending new) (sym t.0)
      (subst (λ e. IsTurnOf p found [] issued old e new) (sym t.1)
      (subst (λ (d : Data). IsTurnOf p found [] issued old None d) (sym t.2) (rests found issued old can h)))

  -- a whole turn of a session
  pub turn-underway : (moment : ℕ) (kind : LinkKind) (old_past new_past : Option (List WorldEvent)) (old_calls new_calls : Option ℕ)
      (old new : SessionData) (turned : Turned) (issued : List (List ℕ)) → IsSession old → can_find (doing old) (fact_of turned.note) ≡ true
      → (fact_of turned.note ≡ fact.Opened) ⊎ (old.sender.acked ≤ new.sender.acked)
      → IsTurn moment kind old_past new_past old_calls new_calls old new turned → IsUnderway p old.desk issued
      → IsTurnOf p (fact_of turned.note) (note_lines turned.note) issued old.desk turned.ending new.desk
  turn-underway moment kind old_past new_past old_calls new_calls old new turned issued joined can not_fallen t h =
      let found : fact_of turned.note ≡ t.found = noted_fact turned.note moment old.sender.acked new.sender.acked t.lines t.got t.found t.none t.some in
      let lines : note_lines turned.note ≡ t.lines = noted_lines turned.note moment old.sender.acked new.sender.acked t.lines t.got t.found t.none t.some in
      let may : can_find (doing old) t.found ≡ true = subst (λ f. can_find (doing old) f ≡ true) found can in
      let more : begins t.found ≡ false → old.desk.acked ≤ new.sender.acked = λ e.
      (elim not_fallen [
        | inl opened_now ↦ absurd (false≢true (sym e ∙ ap begins (sym found ∙ opened_now)))
        | inr up ↦ omega (arith, up, joined.acked)
      ]) in
      let none : begins t.found ≡ true → t.lines ≡ [] = λ e.
      t.none_issued (ap (λ f. may_issue t.got f) (opened_last t.found e) ∙ quiet_may_not t.got) in
      let s : Suits (first_fact t.found) new.sender.acked old.desk = suits (doing old) t.found old new.sender.acked refl may more in
      let so : IsTurnOf p t.found t.lines issued old.desk turned.ending new.desk =
      desk_turn (doing old) moment new.sender.acked t.found t.lines issued old.desk turned.ending new.desk may s more none t.desk h in
      subst (λ f. IsTurnOf p f (note_lines turned.note) issued old.desk turned.ending new.desk) (sym found)
      (subst (λ l. IsTurnOf p t.found l issued old.desk turned.ending new.desk) (sym lines) so)
