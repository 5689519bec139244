-- A turn leaves session, issued texts and history linked.
use Rattle.std.proofs.Common.{◌≡◌, ◌⊎◌, inl, inr, ℕ, ◌≤◌, Bool, true, false, List, [], ◌∷◌, ◌++◌, refl, sym, ◌∙◌, ap, subst, append_assoc, append-nil, arith}
use Rattle.std.specs.Prelude.{None}
use Rattle.job_desk.specs.declared.link_fact.LinkFact.{LinkFact}
use Rattle.job_desk.specs.declared.link_fact.LinkFact.TheVariants as fact
use Rattle.printer_model.specs.World.{new_world, WorldData, can_happen, is_restart, apply, world_from}
use Rattle.printer_model.specs.Exchanged.{sends_since}
use Rattle.printer_model.specs.declared.event.WorldEvent.{WorldEvent}
use Rattle.printer_model.specs.declared.event.WorldEvent.TheVariants.{Opened}
use Rattle.printer_model.proofs.Laws.{happens, world_from-append, world_of-append, world_from-IsSameKind}
use Rattle.printer_model.proofs.Sessions.{opens-append}
use Rattle.printer_model.proofs.Starts.{sends_since-append}
use Rattle.printer_link.specs.Link.{LinkKind, world_in}
use Rattle.send_window.specs.Counting.{IsQuiet, Traffic}
use Rattle.send_window.specs.Data.{SenderData, IsSound, NoneEarly, sender_after_dial}
use Rattle.octo_session.specs.Data.{SessionData, doing}
use Rattle.octo_session.specs.Found.{Got, unasked, may_issue, can_find, up_after}
use Rattle.octo_session.specs.declared.found.Doing.{Doing}
use Rattle.octo_session.specs.declared.found.Doing.TheVariants.{Dialling, HangingUp, UsingLink, Resting}
use Rattle.octo_session.specs.Steps.{opens, after_steps, AreAllowed, AreAdded, dial_steps, steps_over_link, turn_steps}
use Rattle.std.specs.List.{list_any}
use Rattle.std.proofs.lemmas.Bool.{or_left, or_right}
use Rattle.std.proofs.lemmas.List.Folds.{list_any-append}
use Rattle.octo_session_line_proof.proofs.Fitting.{fits_kind, fits_sound, widen_fits}
use Rattle.octo_session_line_proof.specs.Wires.{Start}
use Rattle.octo_session_line_proof.specs.Stopped.{Fits, met}
use Rattle.octo_session_line_proof.specs.Traces.{HasCounted, HasGreeted, IsTallied, IsStartKnown, IsTraced}
use Rattle.octo_session_line_proof.specs.Pieces.{Each}
use Rattle.octo_session_line_proof.proofs.Sending.{opened_meets}
use Rattle.octo_session_line_proof.proofs.Tracing.{Leads, fits_append}
use Rattle.octo_session_line_proof.proofs.Traffic.{traffic_from-append}
use Rattle.octo_session.specs.Sends.{traffic_from}
use Rattle.octo_session_line_proof.specs.Issuing.{issued_after, issued_in}
use Rattle.octo_session_line_proof.specs.Linked.{start_of, IsUnopened, IsOpened, IsLinked, unopened, opened}
use Rattle.octo_session.specs.Causes.{IsCaused}
use Rattle.printer_link.specs.Suits.{Suits}
use Rattle.printer_model.specs.declared.oks.Oks.{Oks}
use Rattle.octo_session_line_proof.proofs.Causes.{talk_caused}
use Rattle.octo_session_line_proof.proofs.Unchanged.{steps_kind}
use Rattle.octo_session_line_proof.proofs.Ends.{IsStill, still_caused, idle_turn, still_idle}
use Rattle.octo_session_line_proof.proofs.Greets.{talk_greets}
use Rattle.octo_session_line_proof.proofs.Speech.{turn_leads, issued_turn}
use Rattle.octo_session_line_proof.proofs.Quiet.{StaysUp, talk_quiet}
use Rattle.octo_session_line_proof.proofs.Turned.{IsTurned, talks_up, talks_fresh, dials_down, rests_down, linked_after, opens_dialling, world_since, sound_of, linked_as, world_then, idle_steps, down_after}

suits_of : (kind : LinkKind) (issued : List (List ℕ)) (x : SessionData) (past : List WorldEvent) → IsLinked kind issued x past → Suits x.sender.numbered kind.oks
suits_of kind issued x past (unopened u) = u.suits
suits_of kind issued x past (opened o) = o.suits

-- a session that begins has counted no reply
none_counted : (s : SenderData) (numbered : Bool) → HasCounted numbered [] (sender_after_dial s)
none_counted s false = record { pending = refl; counted = refl }
none_counted s true = record { greeted = refl; named = refl }

none_greeted : (s : SenderData) (numbered : Bool) → HasGreeted numbered [] (sender_after_dial s)
none_greeted s false = tt
none_greeted s true = refl

-- a link is made
opened_by : (kind : LinkKind) (old new : SessionData) (past added runs : List WorldEvent) (last : ℕ) → IsSound old.sender → Suits old.sender.numbered kind.oks →
    (world_in kind past).printer.slots ≤ 16 → added ≡ runs ++ Opened last ∷ [] →
    can_happen (world_from (world_in kind past) runs) (Opened last) ≡ true → new.sender ≡ sender_after_dial old.sender →
    (world_in kind (past ++ added)).linked ≡ new.up → IsOpened kind [] new (past ++ added)
opened_by kind old new past added runs last sound suits few is can sender open_as =
    let front : List WorldEvent = past ++ runs in
    let here : world_in kind front ≡ world_from (world_in kind past) runs = world_of-append kind.slots kind.oks past runs in
    let Can : WorldData → Type 0 = λ w. can_happen w (Opened last) ≡ true in
    let Few : WorldData → Type 0 = λ w. w.printer.slots ≤ 16 in
    let can_here : can_happen (world_in kind front) (Opened last) ≡ true = subst Can (sym here) can in
    let few_there : (world_from (world_in kind past) runs).printer.slots ≤ 16 = omega (arith, few, (world_from-IsSameKind (world_in kind past) runs).slots) in
    let few_here : (world_in kind front).printer.slots ≤ 16 = subst Few (sym here) few_there in
    let O : Oks → Type 0 = λ oks. Suits old.sender.numbered oks in
    let suits_here : Suits old.sender.numbered (world_in kind front).printer.oks = subst O (sym (world_from-IsSameKind (new_world kind.slots kind.oks) front).oks) suits in
    let M : WorldData → Type 0 = λ w. Fits (start_of kind front old.sender.numbered []) [] (sender_after_dial old.sender) w in
    let fits : Fits (start_of kind front old.sender.numbered []) [] (sender_after_dial old.sender) (apply (world_in kind front) (Opened last)) =
    subst M (sym (happens (world_in kind front) (Opened last) can_here)) (met (opened_meets old.sender (world_in kind front) last sound few_here suits_here can_here))
    in
    let D : WorldData → Type 0 = λ w. Each (IsStartKnown []) w.down in
    let none_down : Each (IsStartKnown []) (apply (world_in kind front) (Opened last)).down = subst D (sym (happens (world_in kind front) (Opened last) can_here)) tt in
    let S : SenderData → Type 0 = λ s. IsTraced (start_of kind front s.numbered []) (apply (world_in kind front) (Opened last)) [] s [] in
    let Q : SenderData → Type 0 = λ s. IsQuiet 0 s in
    let C : SenderData → Type 0 = λ s. IsCaused s.numbered s.ended (apply (world_in kind front) (Opened last)) [] in
    let K : SenderData → Type 0 = λ s. Suits s.numbered kind.oks in
    let G : SenderData → Type 0 = λ s. HasGreeted s.numbered [] s in
    record {
      front = front;
      last = last;
      rest = [];
      is = ap (λ (es : List WorldEvent). past ++ es) is ∙ sym (append_assoc past runs (Opened last ∷ []));
      can = can_here;
      traced = subst S (sym sender) (record { same_session = refl; meets = fits; tallied = record { counts = none_counted old.sender old.sender.numbered; asked = λ (a : false ≡ true). absurd (cc) }; sends = tt; starts = none_down });
      open_as = open_as;
      quiet = λ up. subst Q (sym sender) (record { sent_enough = λ _ _ _. omega arith });
      greets = λ up fresh. subst G (sym sender) (none_greeted old.sender old.sender.numbered);
      caused = subst C (sym sender) tt;
      suits = subst K (sym sender) suits;
    }

-- no turn changes by what an `ok` counts
pub turn_kind : (moment : ℕ) (kind : LinkKind) (old new : SessionData) (got : Got) (found : LinkFact) (texts : List (List ℕ)) (w : WorldData) (added : List WorldEvent) →
    IsTurned moment kind old new got found texts w added → new.sender.numbered ≡ old.sender.numbered
turn_kind moment kind old new got found texts w added t =
    ap (λ (s : SenderData). s.numbered) t.sender ∙ steps_kind moment (turn_steps (doing old) old.up got found texts t.count) old.sender

-- whether a turn makes a link
pub is_opened_fact : (f : LinkFact) → (f ≡ fact.Opened) ⊎ (f ≡ fact.Opened → ⊥)
is_opened_fact fact.Quiet = inr (λ (e : fact.Quiet ≡ fact.Opened). absurd (cc))
is_opened_fact fact.Opened = inl refl
is_opened_fact fact.Ready = inr (λ (e : fact.Ready ≡ fact.Opened). absurd (cc))
is_opened_fact fact.Closed = inr (λ (e : fact.Closed ≡ fact.Opened). absurd (cc))
is_opened_fact fact.NoPort = inr (λ (e : fact.NoPort ≡ fact.Opened). absurd (cc))
is_opened_fact fact.Failed = inr (λ (e : fact.Failed ≡ fact.Opened). absurd (cc))
is_opened_fact (fact.Ended end) = inr (λ (e : fact.Ended end ≡ fact.Opened). absurd (cc))

module _ (moment : ℕ) (kind : LinkKind) (old new : SessionData) (got : Got) (found : LinkFact) (texts issued : List (List ℕ)) (past added : List WorldEvent) where
  -- the turn makes a link
  pub opening : found ≡ fact.Opened → IsTurned moment kind old new got found texts (world_in kind past) added → IsLinked kind issued old past →
      IsOpened kind (issued_in found texts issued) new (past ++ added)
  opening is t linked =
      let F : LinkFact → Type 0 = λ f. can_find (doing old) f ≡ true in
      let dials : doing old ≡ Dialling = opens_dialling (doing old) (subst F is t.can) in
      let S : Doing → Type 0 = λ d. AreAdded moment kind.prompt (turn_steps d old.up got found texts t.count) old.sender (world_in kind past) added in
      let T : LinkFact → Type 0 = λ f. AreAdded moment kind.prompt (dial_steps f) old.sender (world_in kind past) added in
      let step : AreAdded moment kind.prompt (opens ∷ []) old.sender (world_in kind past) added = subst T is (subst S dials t.steps) in
      let dial = step.3.0.0 in
      let all : added ≡ dial.runs ++ Opened dial.last ∷ [] =
      step.2 ∙ ap (λ (es : List WorldEvent). step.0 ++ es) step.4 ∙ append-nil step.0 ∙ dial.is
      in
      let sender : new.sender ≡ sender_after_dial old.sender =
      t.sender ∙ ap (λ (d : Doing). after_steps moment (turn_steps d old.up got found texts t.count) old.sender) dials ∙ ap (λ (f : LinkFact). after_steps moment (dial_steps f) old.sender) is
      in
      let open_as : (world_in kind (past ++ added)).linked ≡ new.up =
      ap (λ (w : WorldData). w.linked) (world_then kind past added) ∙ linked_after moment kind old new got found texts (world_in kind past) added t (linked_as kind issued old past linked)
      in
      let I : LinkFact → Type 0 = λ f. IsOpened kind (issued_in f texts issued) new (past ++ added) in
      subst I (sym is) (opened_by kind old new past added dial.runs dial.last (sound_of kind issued old past linked) (suits_of kind issued old past linked) step.3.0.1.few all dial.opens sender open_as)

  -- no turn has made one yet
  still_unopened : (found ≡ fact.Opened → ⊥) → IsTurned moment kind old new got found texts (world_in kind past) added →
      IsUnopened kind issued old past → IsUnopened kind (issued_in found texts issued) new (past ++ added)
  still_unopened other t u =
      let idle : doing old ≡ UsingLink → ⊥ = λ talks. (let up : old.up ≡ true = talks_up old talks in let down : old.up ≡ false = u.down in absurd (cc)) in
      let un : got ≡ unasked = t.asked.1 idle in
      let none : texts ≡ [] = t.none_issued (ap (λ (g : Got). may_issue g found) un) in
      let down : new.up ≡ false = t.up ∙ down_after (doing old) found old.up t.can idle other u.down in
      let same : new.sender ≡ old.sender = t.sender ∙ idle_steps moment (doing old) old.up got found texts t.count old.sender idle other in
      let S : SenderData → Type 0 = λ s. IsSound s in
      let K : SenderData → Type 0 = λ s. Suits s.numbered kind.oks in
      record {
        none_issued = sym (issued_turn (doing old) old.up got found texts t.count issued other t.none_issued (λ i. un)) ∙ issued_idle (doing old) old.up got found texts t.count idle other ∙ u.none_issued;
        down = down;
        closed = ap (λ (w : WorldData). w.linked) (world_then kind past added) ∙ linked_after moment kind old new got found texts (world_in kind past) added t (u.closed ∙ sym u.down) ∙ down;
        sound = subst S (sym same) u.sound;
        suits = subst K (sym same) u.suits;
      }
    where
      issued_idle : (d : Doing) (was_up : Bool) (g : Got) (f : LinkFact) (ts : List (List ℕ)) (count : ℕ) → (d ≡ UsingLink → ⊥) →
          (f ≡ fact.Opened → ⊥) → issued_after (turn_steps d was_up g f ts count) issued ≡ issued
      issued_idle Dialling was_up g fact.Quiet ts count i o = refl
      issued_idle Dialling was_up g fact.Opened ts count i o = absurd (o refl)
      issued_idle Dialling was_up g fact.Ready ts count i o = refl
      issued_idle Dialling was_up g fact.Closed ts count i o = refl
      issued_idle Dialling was_up g fact.NoPort ts count i o = refl
      issued_idle Dialling was_up g fact.Failed ts count i o = refl
      issued_idle Dialling was_up g (fact.Ended end) ts count i o = refl
      issued_idle HangingUp was_up g f ts count i o = refl
      issued_idle UsingLink was_up g f ts count i o = absurd (i refl)
      issued_idle Resting was_up g f ts count i o = refl

  -- the session of a link goes on
  pub going_on : (found ≡ fact.Opened → ⊥) → IsTurned moment kind old new got found texts (world_in kind past) added →
      IsOpened kind issued old past → IsOpened kind (issued_in found texts issued) new (past ++ added)
  going_on other t o =
      let start : Start = start_of kind o.front old.sender.numbered (o.rest ++ added) in
      let older : list_any is_restart o.rest ≡ true → list_any is_restart (o.rest ++ added) ≡ true =
      λ r. list_any-append is_restart o.rest added ∙ or_left (list_any is_restart o.rest) (list_any is_restart added) r in
      let newer : list_any is_restart added ≡ true → list_any is_restart (o.rest ++ added) ≡ true =
      λ r. list_any-append is_restart o.rest added ∙ or_right (list_any is_restart o.rest) (list_any is_restart added) r in
      let base : WorldData = apply (world_in kind o.front) (Opened o.last) in
      let here : world_in kind past ≡ world_from base o.rest = world_since kind past o.front o.last o.rest o.is in
      let steps = turn_steps (doing old) old.up got found texts t.count in
      let W : WorldData → Type 0 = λ w. AreAdded moment kind.prompt steps old.sender w added in
      let running : doing old ≡ UsingLink → old.sender.ended ≡ None = λ talks. t.joined.running (talks_up old talks) in
      let traffic : List Traffic = traffic_from base o.rest in
      let more : List (List ℕ) = issued_after steps issued in
      let fresh : doing old ≡ UsingLink → NoneEarly old.sender = talks_fresh old t.joined in
      let greets : doing old ≡ UsingLink → HasGreeted old.sender.numbered traffic old.sender = λ talks. o.greets (talks_up old talks) (fresh talks) in
      let led : Leads start issued more (after_steps moment steps old.sender) (world_from base o.rest) traffic added =
      turn_leads start moment kind.prompt issued old.sender (world_from base o.rest) traffic added (doing old) old.up got found texts t.count other running fresh greets t.allowed (subst W here t.steps) newer
      (widen_fits (start_of kind o.front old.sender.numbered o.rest) (list_any is_restart (o.rest ++ added)) issued old.sender (world_from base o.rest) older o.traced.meets) o.traced.tallied
      in
      let same : more ≡ issued_in found texts issued = issued_turn (doing old) old.up got found texts t.count issued other t.none_issued t.asked.1 in
      let rest : List WorldEvent = o.rest ++ added in
      let M : WorldData → Type 0 = λ w. Fits start more (after_steps moment steps old.sender) w in
      let E : WorldData → Type 0 = λ w. Each (IsStartKnown rest) w.down in
      let R : List Traffic → Type 0 = λ l. IsTallied l (after_steps moment steps old.sender) in
      let I : List (List ℕ) → Type 0 = λ l. IsTraced start base l (after_steps moment steps old.sender) rest in
      let S : SenderData → Type 0 = λ s. IsTraced (start_of kind o.front s.numbered rest) base (issued_in found texts issued) s rest in
      let B : Bool → Type 0 = λ b. IsTraced (start_of kind o.front b rest) base (issued_in found texts issued) (after_steps moment steps old.sender) rest in
      let K : Bool → Type 0 = λ b. Suits b kind.oks in
      record {
        front = o.front;
        last = o.last;
        rest = rest;
        is = ap (λ (es : List WorldEvent). es ++ added) o.is ∙ append_assoc o.front (Opened o.last ∷ o.rest) added;
        can = o.can;
        traced = subst S (sym t.sender) (subst B (sym (fits_kind start more (after_steps moment steps old.sender) (world_from (world_from base o.rest) added) led.meets)) (subst I same (record {
          same_session = omega (arith, opens-append o.rest added, o.traced.same_session, led.same_session);
          meets = subst M (sym (world_from-append base o.rest added)) led.meets;
          tallied = subst R (sym (traffic_from-append base o.rest added)) led.tallied;
          sends = fits_append start.numbered issued more [] base o.rest added led.extends o.traced.sends led.sends;
          starts = subst E (sym (world_from-append base o.rest added)) (led.starts o.rest o.traced.starts);
        })));
        open_as = ap (λ (w : WorldData). w.linked) (world_then kind past added) ∙ linked_after moment kind old new got found texts (world_in kind past) added t o.open_as;
        quiet = λ up. still_quiet up t o;
        greets = λ up fresh. still_greets up fresh t o;
        caused = caused_by (doing old) refl t o;
        suits = subst K (sym (turn_kind moment kind old new got found texts (world_in kind past) added t)) o.suits;
      }
    where
      caused_idle : (doing old ≡ UsingLink → ⊥) → (t : IsTurned moment kind old new got found texts (world_in kind past) added) →
          (o : IsOpened kind issued old past) →
          IsCaused new.sender.numbered new.sender.ended (apply (world_in kind o.front) (Opened o.last)) (o.rest ++ added)
      caused_idle idle t o =
          let made : WorldData = apply (world_in kind o.front) (Opened o.last) in
          let here : world_in kind past ≡ world_from made o.rest = world_since kind past o.front o.last o.rest o.is in
          let S : WorldData → Type 0 = λ w. IsStill w added in
          let C : SenderData → Type 0 = λ s. IsCaused s.numbered s.ended made (o.rest ++ added) in
          let same : new.sender ≡ old.sender = t.sender ∙ idle_steps moment (doing old) old.up got found texts t.count old.sender idle other in
          let free = idle_turn moment kind.prompt (doing old) old.up got found texts t.count old.sender (world_in kind past) added idle other t.steps in
          let still : IsStill (world_in kind past) added = still_idle (world_in kind past) added free in
          subst C (sym same) (still_caused old.sender.numbered old.sender.ended made o.rest added (subst S here still) o.caused)

      stays : (f : LinkFact) (was_up : Bool) → (f ≡ fact.Opened → ⊥) → up_after f was_up ≡ true → StaysUp f
      stays fact.Quiet was_up o up = tt
      stays fact.Opened was_up o up = absurd (o refl)
      stays fact.Ready was_up o up = tt
      stays fact.Closed was_up o up = absurd (cc)
      stays fact.NoPort was_up o up = absurd (cc)
      stays fact.Failed was_up o up = absurd (cc)
      stays (fact.Ended end) was_up o up = absurd (cc)

      talks : (d : Doing) → doing old ≡ d → IsTurned moment kind old new got found texts (world_in kind past) added → new.up ≡ true →
          doing old ≡ UsingLink
      talks Dialling is t up =
          let idle : doing old ≡ UsingLink → ⊥ = λ (i : doing old ≡ UsingLink). (let e : Dialling ≡ UsingLink = sym is ∙ i in absurd (cc)) in
          let down : new.up ≡ false = t.up ∙ down_after (doing old) found old.up t.can idle other (dials_down old is) in
          absurd (cc)
      talks HangingUp is t up =
          let F : Doing → Type 0 = λ d. can_find d found ≡ true in
          let down : up_after found old.up ≡ false = hung found old.up (subst F is t.can) in
          let off : new.up ≡ false = t.up ∙ down in
          absurd (cc)
        where
          hung : (f : LinkFact) (was_up : Bool) → can_find HangingUp f ≡ true → up_after f was_up ≡ false
          hung fact.Quiet was_up can = absurd (cc)
          hung fact.Opened was_up can = absurd (cc)
          hung fact.Ready was_up can = absurd (cc)
          hung fact.Closed was_up can = refl
          hung fact.NoPort was_up can = refl
          hung fact.Failed was_up can = refl
          hung (fact.Ended end) was_up can = refl
      talks UsingLink is t up = is
      talks Resting is t up =
          let idle : doing old ≡ UsingLink → ⊥ = λ (i : doing old ≡ UsingLink). (let e : Resting ≡ UsingLink = sym is ∙ i in absurd (cc)) in
          let down : new.up ≡ false = t.up ∙ down_after (doing old) found old.up t.can idle other (rests_down old is) in
          absurd (cc)

      caused_by : (d : Doing) → doing old ≡ d → (t : IsTurned moment kind old new got found texts (world_in kind past) added) →
          (o : IsOpened kind issued old past) →
          IsCaused new.sender.numbered new.sender.ended (apply (world_in kind o.front) (Opened o.last)) (o.rest ++ added)
      caused_by UsingLink is t o =
          let made : WorldData = apply (world_in kind o.front) (Opened o.last) in
          let here : world_in kind past ≡ world_from made o.rest = world_since kind past o.front o.last o.rest o.is in
          let F : Doing → Type 0 = λ d. can_find d found ≡ true in
          let B : Doing → Type 0 = λ d. AreAdded moment kind.prompt (turn_steps d old.up got found texts t.count) old.sender (world_in kind past) added in
          let W : WorldData → Type 0 = λ w. AreAdded moment kind.prompt (steps_over_link got found texts t.count) old.sender w added in
          let C : SenderData → Type 0 = λ s. IsCaused s.numbered s.ended made (o.rest ++ added) in
          let sender : new.sender ≡ after_steps moment (steps_over_link got found texts t.count) old.sender =
          t.sender ∙ ap (λ (d : Doing). after_steps moment (turn_steps d old.up got found texts t.count) old.sender) is
          in
          let K : Bool → Type 0 = λ b. IsCaused b (after_steps moment (steps_over_link got found texts t.count) old.sender).ended made (o.rest ++ added) in
          subst C (sym sender) (subst K (sym (steps_kind moment (steps_over_link got found texts t.count) old.sender)) (talk_caused moment kind.prompt found texts t.count (start_of kind o.front old.sender.numbered o.rest) made issued old.sender o.rest got added (subst F is t.can) (λ un. (t.asked.0 un) is) t.ended
          (t.joined.running (talks_up old is)) (o.quiet (talks_up old is)) (λ r. r) (talks_fresh old t.joined is) (o.greets (talks_up old is) (talks_fresh old t.joined is)) o.traced (subst W here (subst B is t.steps))))
      caused_by Dialling is t o = caused_idle (λ (i : doing old ≡ UsingLink). (let e : Dialling ≡ UsingLink = sym is ∙ i in absurd (cc))) t o
      caused_by HangingUp is t o = caused_idle (λ (i : doing old ≡ UsingLink). (let e : HangingUp ≡ UsingLink = sym is ∙ i in absurd (cc))) t o
      caused_by Resting is t o = caused_idle (λ (i : doing old ≡ UsingLink). (let e : Resting ≡ UsingLink = sym is ∙ i in absurd (cc))) t o

      still_quiet : new.up ≡ true → (t : IsTurned moment kind old new got found texts (world_in kind past) added) →
          (o : IsOpened kind issued old past) → IsQuiet (sends_since 0 (o.rest ++ added)) new.sender
      still_quiet up t o =
          let is : doing old ≡ UsingLink = talks (doing old) refl t up in
          let so : StaysUp found = stays found old.up other (sym t.up ∙ up) in
          let A : Doing → Type 0 = λ d. AreAllowed moment (turn_steps d old.up got found texts t.count) old.sender in
          let B : Doing → Type 0 = λ d. AreAdded moment kind.prompt (turn_steps d old.up got found texts t.count) old.sender (world_in kind past) added in
          let C : Doing → Type 0 = λ d. new.sender ≡ after_steps moment (turn_steps d old.up got found texts t.count) old.sender in
          let Q : ℕ → Type 0 = λ n. IsQuiet n new.sender in
          subst Q (sym (sends_since-append 0 o.rest added))
          (talk_quiet moment (sends_since 0 o.rest) kind.prompt got found texts t.count old.sender new.sender (world_in kind past) added (λ un. (t.asked.0 un) is) t.broken so
          (fits_sound (start_of kind o.front old.sender.numbered o.rest) issued old.sender (world_from (apply (world_in kind o.front) (Opened o.last)) o.rest) o.traced.meets) (o.quiet (talks_up old is)) (subst A is t.allowed) (subst B is t.steps) (subst C is t.sender) (t.unsent up so))

      still_greets : new.up ≡ true → NoneEarly new.sender → (t : IsTurned moment kind old new got found texts (world_in kind past) added) → (o : IsOpened kind issued old past) →
          HasGreeted new.sender.numbered (traffic_from (apply (world_in kind o.front) (Opened o.last)) (o.rest ++ added)) new.sender
      still_greets up early t o =
          let made : WorldData = apply (world_in kind o.front) (Opened o.last) in
          let here : world_in kind past ≡ world_from made o.rest = world_since kind past o.front o.last o.rest o.is in
          let is : doing old ≡ UsingLink = talks (doing old) refl t up in
          let F : Doing → Type 0 = λ d. can_find d found ≡ true in
          let A : Doing → Type 0 = λ d. AreAllowed moment (turn_steps d old.up got found texts t.count) old.sender in
          let B : Doing → Type 0 = λ d. AreAdded moment kind.prompt (turn_steps d old.up got found texts t.count) old.sender (world_in kind past) added in
          let C : Doing → Type 0 = λ d. new.sender ≡ after_steps moment (turn_steps d old.up got found texts t.count) old.sender in
          let W : WorldData → Type 0 = λ w. AreAdded moment kind.prompt (steps_over_link got found texts t.count) old.sender w added in
          let G : Bool → Type 0 = λ b. HasGreeted b (traffic_from made (o.rest ++ added)) new.sender in
          subst G (sym (turn_kind moment kind old new got found texts (world_in kind past) added t))
          (talk_greets moment kind.prompt made o.rest got found texts t.count old.sender new.sender added (λ un. (t.asked.0 un) is) t.broken
          (stays found old.up other (sym t.up ∙ up)) (subst F is t.can) (λ why. (t.ended why).1)
          (fits_sound (start_of kind o.front old.sender.numbered o.rest) issued old.sender (world_from made o.rest) o.traced.meets) (talks_fresh old t.joined is) early o.traced.tallied
          (o.greets (talks_up old is) (talks_fresh old t.joined is)) (subst A is t.allowed) (subst W here (subst B is t.steps)) (subst C is t.sender))

  linked_other : (found ≡ fact.Opened → ⊥) → IsTurned moment kind old new got found texts (world_in kind past) added →
      IsLinked kind issued old past → IsLinked kind (issued_in found texts issued) new (past ++ added)
  linked_other other t (unopened u) = unopened (still_unopened other t u)
  linked_other other t (opened o) = opened (going_on other t o)

  -- a turn
  pub turn_links : IsTurned moment kind old new got found texts (world_in kind past) added → IsLinked kind issued old past →
      IsLinked kind (issued_in found texts issued) new (past ++ added)
  turn_links t linked = links_by (is_opened_fact found) t linked
    where
      links_by : (found ≡ fact.Opened) ⊎ (found ≡ fact.Opened → ⊥) →
          IsTurned moment kind old new got found texts (world_in kind past) added → IsLinked kind issued old past →
          IsLinked kind (issued_in found texts issued) new (past ++ added)
      links_by (inl is) t linked = opened (opening is t linked)
      links_by (inr other) t linked = linked_other other t linked

  -- a turn after a link was made
  pub turn_keeps : IsTurned moment kind old new got found texts (world_in kind past) added → IsOpened kind issued old past →
      IsOpened kind (issued_in found texts issued) new (past ++ added)
  turn_keeps t o = keeps_by (is_opened_fact found) t o
    where
      keeps_by : (found ≡ fact.Opened) ⊎ (found ≡ fact.Opened → ⊥) → IsTurned moment kind old new got found texts (world_in kind past) added →
          IsOpened kind issued old past → IsOpened kind (issued_in found texts issued) new (past ++ added)
      keeps_by (inl is) t o = opening is t (opened o)
      keeps_by (inr other) t o = going_on other t o
