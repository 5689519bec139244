-- A turn of a print over a prompt link in which no call failed, as its steps and its note.
use Rattle.std.proofs.Common.{◌≡◌, ◌↔◌, ◌⊎◌, inl, inr, ℕ, ◌+◌, ◌<◌, ◌≤◌, Bool, true, false, List, [], ◌++◌, refl, sym, ◌∙◌, ap, subst, arith}
use Rattle.std.specs.Prelude.{Option, Some, is_some, ◌&&◌, if◌then◌else◌}
use Rattle.std.proofs.lemmas.Option.{same_Some}
use Rattle.job_desk.specs.Data.{Line, moment_after}
use Rattle.job_desk.specs.Table.{is_closable_at}
use Rattle.job_desk.specs.declared.link_fact.LinkFact.{LinkFact}
use Rattle.job_desk.specs.declared.link_fact.LinkFact.TheVariants as fact
use Rattle.printer_model.specs.declared.event.WorldEvent.{WorldEvent}
use Rattle.printer_model.specs.World.{WorldData, world_from}
use Rattle.printer_model.proofs.Laws.{world_of-append}
use Rattle.printer_link.specs.Link.{LinkKind, world_in}
use Rattle.send_window.specs.Data.{SenderData}
use Rattle.octo_session.specs.Data.{SessionData, IsSession, doing, port_of}
use Rattle.octo_session.specs.Found.{unasked, lost, is_got, may_have_issued, can_find, ready_after}
use Rattle.octo_session.specs.Steps.{Step, after_steps, AreAllowed, AreAdded, Takes, turn_steps}
use Rattle.octo_session.specs.Turn.{IsTurn, IsDeskTurn, fact_of, note_lines, texts_in}
use Rattle.octo_session.specs.declared.found.Doing.{Doing}
use Rattle.octo_session.specs.declared.found.Doing.TheVariants.{Dialling, HangingUp, UsingLink}
use Rattle.octo_session.specs.declared.found.Turned.{Turned}
use Rattle.octo_session.proofs.Noting.{noted_fact, noted_lines}
use Rattle.octo_session_line_proof.proofs.Recorded.{IsKept}
use Rattle.octo_session_print.specs.Plan.{PrintData}
use Rattle.octo_session_print.specs.Turned.{IsTurnOf}
use Rattle.octo_session_print.specs.Underway.{IsUnderway}
use Rattle.octo_session_print.proofs.Turning.{turn-underway}
use Rattle.octo_session_print.specs.OnWay.{IsAt}
use Rattle.byte_text.proofs.OptionLaws.{some-if-true}
use Rattle.std.proofs.lemmas.Bool.{and_right}

-- a turn over a prompt link in which no call failed; the clock, which shows `at` after it, rests only if nothing was heard
pub record HasTurned (moment at poll_ms : ℕ) (kind : LinkKind) (old_past new_past : Option (List WorldEvent)) (old_calls new_calls : Option ℕ)
    (old mid : SessionData) (turned : Turned) : Type 0 where
  pub turn : IsTurn moment kind old_past new_past old_calls new_calls old mid turned
  pub kept : IsKept moment old mid turned
  pub joined : IsSession mid
  pub greatest : mid.desk.greatest ≡ old.desk.greatest
  pub ready_is : mid.sender.ready ≡ ready_after (fact_of turned.note) old.sender.ready
  pub readies : fact_of turned.note ≡ fact.Ready → old.sender.ready ≡ false
  pub not_fallen : (fact_of turned.note ≡ fact.Opened) ⊎ (old.sender.acked ≤ mid.sender.acked)
  pub no_port : (fact_of turned.note ≡ fact.NoPort) ↔ ((doing old ≡ Dialling) × (kind.listed (port_of old.desk) ≡ false))
  pub unbroken : fact_of turned.note ≡ fact.Failed → ⊥
  pub prompt : kind.prompt ≡ true
  -- no sum of the moment saturates
  pub small : moment + old.sender.limit ≤ 18446744073709551615
  pub poll_later : moment < moment_after moment poll_ms
  pub at_heard : turned.heard ≡ true → at ≡ moment

-- what steps added to a recorded history
pub record HasAdded (moment : ℕ) (kind : LinkKind) (steps : List Step) (s t : SenderData) (now : List WorldEvent) (new_past : Option (List WorldEvent)) : Type 0 where
  pub added : List WorldEvent
  pub recorded : new_past ≡ Some (now ++ added)
  pub sender : t ≡ after_steps moment steps s
  pub allowed : AreAllowed moment steps s
  pub are : AreAdded moment true steps s (world_in kind now) added

added_by : (moment : ℕ) (kind : LinkKind) (old_past new_past : Option (List WorldEvent)) (old_calls new_calls : Option ℕ) (steps : List Step)
    (s t : SenderData) (now : List WorldEvent) → kind.prompt ≡ true → old_past ≡ Some now →
    Takes moment kind old_past new_past old_calls new_calls steps s t → HasAdded moment kind steps s t now new_past
added_by moment kind old_past new_past old_calls new_calls steps s t now prompt is takes =
    let later = some-if-true new_past (takes.past.stays ∙ ap is_some is) in
    let grew = takes.past.grew later.0 later.1 in
    let same : grew.0 ≡ now = same_Some grew.0 now (sym grew.2 ∙ is) in
    let B : Bool → Type 0 = λ b. AreAdded moment b steps s (world_in kind grew.0) grew.1 in
    let W : List WorldEvent → Type 0 = λ es. AreAdded moment true steps s (world_in kind es) grew.1 in
    record {
      added = grew.1;
      recorded = later.1 ∙ ap (λ (es : List WorldEvent). Some es) (grew.3 ∙ ap (λ (es : List WorldEvent). es ++ grew.1) same);
      sender = takes.sender;
      allowed = takes.allowed;
      are = subst W same (subst B prompt grew.4);
    }

-- the world afterwards is one of these
pub at_world : (kind : LinkKind) (now added : List WorldEvent) (past : Option (List WorldEvent)) (P : WorldData → Type 0) → past ≡ Some (now ++ added) →
    P (world_from (world_in kind now) added) → IsAt kind past P
at_world kind now added past P is so = record {
  now = now ++ added;
  recorded = is;
  is = subst P (sym (world_of-append kind.slots kind.oks now added)) so;
}

-- what the next turn does over a link that is up
pub up_doing : (x : SessionData) → x.up ≡ true → doing x ≡ (if is_closable_at x.desk.state x.desk then HangingUp else UsingLink)
up_doing x up = ap (λ (b : Bool). doing (record x { up = b })) up

pub talks_if : (x : SessionData) → x.up ≡ true → is_closable_at x.desk.state x.desk ≡ false → doing x ≡ UsingLink
talks_if x up unshut = up_doing x up ∙ ap (λ (b : Bool). if b then HangingUp else UsingLink) unshut

pub hangs_if : (x : SessionData) → x.up ≡ true → is_closable_at x.desk.state x.desk ≡ true → doing x ≡ HangingUp
hangs_if x up shut = up_doing x up ∙ ap (λ (b : Bool). if b then HangingUp else UsingLink) shut

module _ (moment at poll_ms : ℕ) (kind : LinkKind) (old_past new_past : Option (List WorldEvent)) (old_calls new_calls : Option ℕ) (old mid : SessionData) (turned : Turned) (h : HasTurned moment at poll_ms kind old_past new_past old_calls new_calls old mid turned) where
  pub its_fact : fact_of turned.note ≡ h.turn.found
  its_fact = noted_fact turned.note moment old.sender.acked mid.sender.acked h.turn.lines h.turn.got h.turn.found h.turn.none h.turn.some

  pub may_find : (d : Doing) → doing old ≡ d → can_find d h.turn.found ≡ true
  may_find d is =
      let F : LinkFact → Type 0 = λ f. can_find d f ≡ true in
      let D : Doing → Type 0 = λ e. can_find e (fact_of turned.note) ≡ true in
      subst F its_fact (subst D is h.kept.finds)

  pub not_failed : h.turn.found ≡ fact.Failed → ⊥
  not_failed is = h.unbroken (its_fact ∙ is)

  -- the steps of a turn that does this, over a recorded history
  pub steps_for : (d : Doing) → doing old ≡ d → (now : List WorldEvent) → old_past ≡ Some now →
      HasAdded moment kind (turn_steps d old.up h.turn.got h.turn.found (texts_in h.turn.lines) h.turn.steps.count) old.sender mid.sender now new_past
  steps_for d is now recorded =
      let T : Doing → Type 0 = λ e. Takes moment kind old_past new_past old_calls new_calls (turn_steps e old.up h.turn.got h.turn.found (texts_in h.turn.lines) h.turn.steps.count) old.sender mid.sender in
      added_by moment kind old_past new_past old_calls new_calls _ old.sender mid.sender now h.prompt recorded (subst T is h.turn.steps.takes)

  -- its note on the desk
  pub noted_for : (d : Doing) → doing old ≡ d → IsDeskTurn d moment mid.sender.acked h.turn.found h.turn.lines old.desk turned.ending mid.desk
  noted_for d is =
      let D : Doing → Type 0 = λ e. IsDeskTurn e moment mid.sender.acked h.turn.found h.turn.lines old.desk turned.ending mid.desk in
      subst D is h.turn.desk

  -- the course of the print over it
  pub course_of : (p : PrintData) (issued : List (List ℕ)) → IsUnderway p old.desk issued →
      IsTurnOf p h.turn.found h.turn.lines issued old.desk turned.ending mid.desk
  course_of p issued course =
      let lines : note_lines turned.note ≡ h.turn.lines = noted_lines turned.note moment old.sender.acked mid.sender.acked h.turn.lines h.turn.got h.turn.found h.turn.none h.turn.some in
      let F : LinkFact → Type 0 = λ f. IsTurnOf p f h.turn.lines issued old.desk turned.ending mid.desk in
      let L : List Line → Type 0 = λ l. IsTurnOf p (fact_of turned.note) l issued old.desk turned.ending mid.desk in
      subst F its_fact (subst L lines
      (turn-underway p moment kind old_past new_past old_calls new_calls old mid turned issued h.kept.before h.kept.finds h.not_fallen h.turn course))

  -- a turn that uses the link receives, and no call of it fails
  pub receives : doing old ≡ UsingLink → (h.turn.got ≡ unasked → ⊥) × (h.turn.got ≡ lost → ⊥)
  receives talks = (λ none. h.turn.asked.0 none talks, λ broken. not_failed (h.turn.broken broken))

  -- what is acknowledged doesn't fall, but for a link that is made
  pub more_acked : (h.turn.found ≡ fact.Opened → ⊥) → old.desk.acked ≤ mid.sender.acked
  more_acked other = by h.not_fallen
    where
      by : (fact_of turned.note ≡ fact.Opened) ⊎ (old.sender.acked ≤ mid.sender.acked) → old.desk.acked ≤ mid.sender.acked
      by (inl opens) = absurd (other (sym its_fact ∙ opens))
      by (inr up) = omega (arith, up, h.kept.before.acked)

  -- a turn that found no quiet issued nothing
  pub none_said : may_have_issued h.turn.found ≡ false → h.turn.lines ≡ []
  none_said unsaid = h.turn.none_issued (ap (λ (b : Bool). is_got h.turn.got && b) unsaid ∙ and_right (is_got h.turn.got) false refl)

  -- once a session is ready nothing makes it so
  pub stays_ready : old.sender.ready ≡ true → h.turn.found ≡ fact.Ready → ⊥
  stays_ready was is =
      let unready : old.sender.ready ≡ false = h.readies (its_fact ∙ is) in
      absurd (cc)

  -- a turn that hangs up closes the connection
  pub hangs_closed : doing old ≡ HangingUp → h.turn.found ≡ fact.Closed
  hangs_closed hangs = by_fact h.turn.found (may_find HangingUp hangs)
    where
      by_fact : (f : LinkFact) → can_find HangingUp f ≡ true → f ≡ fact.Closed
      by_fact fact.Closed can = refl
      by_fact fact.Quiet can = absurd (cc)
      by_fact fact.Opened can = absurd (cc)
      by_fact fact.Ready can = absurd (cc)
      by_fact fact.NoPort can = absurd (cc)
      by_fact fact.Failed can = absurd (cc)
      by_fact (fact.Ended why) can = absurd (cc)
