-- What a turn made of a session, by its steps.
use Rattle.std.proofs.Common.{◌≡◌, ◌≢◌, ◌⊎◌, inl, inr, ◌↔◌, ℕ, Bool, true, false, List, [], ◌∷◌, ◌++◌, refl, sym, ◌∙◌, ap, arith}
use Rattle.std.specs.Prelude.{◌==◌, length, None, Some}
use Rattle.std.proofs.lemmas.Grind.{common_steps}
use Rattle.job_desk.specs.declared.link_fact.LinkFact.{LinkFact}
use Rattle.job_desk.specs.declared.link_fact.LinkFact.TheVariants as fact
use Rattle.printer_model.specs.World.{WorldData, apply, world_from}
use Rattle.printer_model.specs.declared.event.WorldEvent.{WorldEvent}
use Rattle.printer_model.specs.declared.event.WorldEvent.TheVariants.{Opened}
use Rattle.printer_model.proofs.Laws.{world_of-append}
use Rattle.printer_link.specs.Link.{LinkKind, world_in}
use Rattle.send_window.specs.Data.{SenderData, IsSound, NoneEarly}
use Rattle.send_window.specs.Sending.{next_of}
use Rattle.octo_session.specs.Data.{SessionData, IsSession, IsStopped, doing}
use Rattle.job_desk.specs.Data.{Data}
use Rattle.job_desk.specs.Table.{is_closable, is_closable_at}
use Rattle.octo_session.specs.Found.{Got, unasked, lost, may_issue, end_by, can_find, up_after}
use Rattle.send_window.specs.declared.session_end.SessionEnd.{SessionEnd}
use Rattle.octo_session.specs.declared.found.Doing.{Doing}
use Rattle.octo_session.specs.declared.found.Doing.TheVariants.{Dialling, HangingUp, UsingLink, Resting}
use Rattle.octo_session.specs.Steps.{after_steps, AreAllowed, AreAdded, turn_steps}
use Rattle.octo_session_line_proof.specs.Linked.{start_of, IsLinked, unopened, opened}
use Rattle.octo_session_line_proof.proofs.Fitting.{fits_sound}
use Rattle.octo_session_line_proof.proofs.Open.{IsUpFor, steps_up, up_all, turn_up}
use Rattle.octo_session_line_proof.proofs.Quiet.{StaysUp}

-- what a turn made of a session, by its steps
pub record IsTurned (moment : ℕ) (kind : LinkKind) (old new : SessionData) (got : Got) (found : LinkFact) (texts : List (List ℕ)) (w : WorldData) (added : List WorldEvent) : Type 0 where
  pub count : ℕ
  pub joined : IsSession old
  pub can : can_find (doing old) found ≡ true
  pub asked : (got ≡ unasked) ↔ (doing old ≢ UsingLink)
  pub ended : (end : SessionEnd) → (found ≡ fact.Ended end) ↔ (end_by got moment old.sender ≡ Some end)
  pub broken : got ≡ lost → found ≡ fact.Failed
  pub none_issued : may_issue got found ≡ false → texts ≡ []
  pub up : new.up ≡ up_after found old.up
  pub unsent : new.up ≡ true → StaysUp found → next_of new.sender ≡ None
  pub sender : new.sender ≡ after_steps moment (turn_steps (doing old) old.up got found texts count) old.sender
  pub allowed : AreAllowed moment (turn_steps (doing old) old.up got found texts count) old.sender
  pub steps : AreAdded moment kind.prompt (turn_steps (doing old) old.up got found texts count) old.sender w added

-- a turn uses the link only if it is up, and dials only if it isn't
pub talks_up : (x : SessionData) → doing x ≡ UsingLink → x.up ≡ true
talks_up x is = grind (arith, common_steps)

-- and then no line was issued before the `ok` of the hello
talks_open : (x : SessionData) → doing x ≡ UsingLink → is_closable_at x.desk.state x.desk ≡ false
talks_open x is = grind (arith, common_steps)

stopped_closes : (d : Data) → IsStopped d → is_closable_at d.state d ≡ true
stopped_closes d st =
    ap (λ s. is_closable_at s d) st.closes ∙ ap (λ b. is_closable b d) st.stops ∙ ap (λ (m : List (List ℕ)). length m == 0) st.issued

pub talks_fresh : (x : SessionData) → IsSession x → doing x ≡ UsingLink → NoneEarly x.sender
talks_fresh x joined is = by (joined.early (talks_up x is))
  where
    by : NoneEarly x.sender ⊎ IsStopped x.desk → NoneEarly x.sender
    by (inl fresh) = fresh
    by (inr st) =
        let closes : is_closable_at x.desk.state x.desk ≡ true = stopped_closes x.desk st in
        let open_still : is_closable_at x.desk.state x.desk ≡ false = talks_open x is in
        absurd (cc)

pub dials_down : (x : SessionData) → doing x ≡ Dialling → x.up ≡ false
dials_down x is = grind (arith, common_steps)

pub rests_down : (x : SessionData) → doing x ≡ Resting → x.up ≡ false
rests_down x is = grind (arith, common_steps)

pub up_for : (x : SessionData) (d : Doing) → doing x ≡ d → IsUpFor d x.up
up_for x Dialling is = dials_down x is
up_for x HangingUp is = tt
up_for x UsingLink is = talks_up x is
up_for x Resting is = tt

-- the world after the turn is open exactly if the session is up
pub linked_after : (moment : ℕ) (kind : LinkKind) (old new : SessionData) (got : Got) (found : LinkFact) (texts : List (List ℕ)) (w : WorldData)
    (added : List WorldEvent) → IsTurned moment kind old new got found texts w added → w.linked ≡ old.up →
    (world_from w added).linked ≡ new.up
linked_after moment kind old new got found texts w added t is =
    let steps = turn_steps (doing old) old.up got found texts t.count in
    steps_up moment kind.prompt steps old.sender w added t.steps
    ∙ ap (up_all steps) is
    ∙ turn_up (doing old) old.up got found texts t.count t.can (up_for old (doing old) refl) (λ talks un. (t.asked.0 un) talks) t.broken
    ∙ sym t.up

-- a link is made in a turn that dials
pub opens_dialling : (d : Doing) → can_find d fact.Opened ≡ true → d ≡ Dialling
opens_dialling Dialling can = refl
opens_dialling HangingUp can = absurd (cc)
opens_dialling UsingLink can = absurd (cc)
opens_dialling Resting can = absurd (cc)

-- the world of a history from its last link on
pub world_since : (kind : LinkKind) (past front : List WorldEvent) (last : ℕ) (rest : List WorldEvent) →
    past ≡ front ++ Opened last ∷ rest → world_in kind past ≡ world_from (apply (world_in kind front) (Opened last)) rest
world_since kind past front last rest is =
    ap (world_in kind) is ∙ world_of-append kind.slots kind.oks front (Opened last ∷ rest)

pub sound_of : (kind : LinkKind) (issued : List (List ℕ)) (x : SessionData) (past : List WorldEvent) → IsLinked kind issued x past → IsSound x.sender
sound_of kind issued x past (unopened u) = u.sound
sound_of kind issued x past (opened o) =
    fits_sound (start_of kind o.front x.sender.numbered o.rest) issued x.sender (world_from (apply (world_in kind o.front) (Opened o.last)) o.rest) o.traced.meets

pub linked_as : (kind : LinkKind) (issued : List (List ℕ)) (x : SessionData) (past : List WorldEvent) → IsLinked kind issued x past →
    (world_in kind past).linked ≡ x.up
linked_as kind issued x past (unopened u) = u.closed ∙ sym u.down
linked_as kind issued x past (opened o) = o.open_as

-- the world after the turn
pub world_then : (kind : LinkKind) (past added : List WorldEvent) → world_in kind (past ++ added) ≡ world_from (world_in kind past) added
world_then kind past added = world_of-append kind.slots kind.oks past added

-- the steps that are made in a turn that makes no link, if the session isn't up, leave the sender
pub idle_steps : (moment : ℕ) (d : Doing) (was_up : Bool) (got : Got) (found : LinkFact) (texts : List (List ℕ)) (count : ℕ) (s : SenderData) →
    (d ≡ UsingLink → ⊥) → (found ≡ fact.Opened → ⊥) → after_steps moment (turn_steps d was_up got found texts count) s ≡ s
idle_steps moment Dialling was_up got fact.Quiet texts count s idle other = refl
idle_steps moment Dialling was_up got fact.Opened texts count s idle other = absurd (other refl)
idle_steps moment Dialling was_up got fact.Ready texts count s idle other = refl
idle_steps moment Dialling was_up got fact.Closed texts count s idle other = refl
idle_steps moment Dialling was_up got fact.NoPort texts count s idle other = refl
idle_steps moment Dialling was_up got fact.Failed texts count s idle other = refl
idle_steps moment Dialling was_up got (fact.Ended end) texts count s idle other = refl
idle_steps moment HangingUp was_up got found texts count s idle other = refl
idle_steps moment UsingLink was_up got found texts count s idle other = absurd (idle refl)
idle_steps moment Resting was_up got found texts count s idle other = refl

-- and the session down
pub down_after : (d : Doing) (found : LinkFact) (was_up : Bool) → can_find d found ≡ true → (d ≡ UsingLink → ⊥) → (found ≡ fact.Opened → ⊥) →
    was_up ≡ false → up_after found was_up ≡ false
down_after d fact.Quiet was_up can idle other down = down
down_after d fact.Opened was_up can idle other down = absurd (other refl)
down_after Dialling fact.Ready was_up can idle other down = absurd (cc)
down_after HangingUp fact.Ready was_up can idle other down = absurd (cc)
down_after UsingLink fact.Ready was_up can idle other down = absurd (idle refl)
down_after Resting fact.Ready was_up can idle other down = absurd (cc)
down_after d fact.Closed was_up can idle other down = refl
down_after d fact.NoPort was_up can idle other down = refl
down_after d fact.Failed was_up can idle other down = refl
down_after d (fact.Ended end) was_up can idle other down = refl
