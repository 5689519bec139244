-- What a turn's note says of sender and desk.
use Rattle.std.proofs.Common.{◌≡◌, ◌≢◌, ◌⊎◌, ◌↔◌, inl, inr, ℕ, ◌+◌, ◌≤◌, Bool, true, false, List, [], map, refl, sym, ◌∙◌, ap, subst, arith}
use Rattle.std.specs.Prelude.{length, Option, None, Some, IfSome}
use Rattle.std.proofs.lemmas.Bool.{false≢true}
use Rattle.marlin_reply.specs.Kind.{kind_of}
use Rattle.printer_model.specs.declared.event.WorldEvent.{WorldEvent}
use Rattle.printer_link.specs.Link.{LinkKind}
use Rattle.job_desk.specs.Data.{Data, Line}
use Rattle.job_desk.specs.Issued.{line_of}
use Rattle.job_desk.specs.Endings.{IsActive}
use Rattle.job_desk.specs.declared.issued.Note.{Note}
use Rattle.job_desk.specs.declared.link_fact.LinkFact.{LinkFact}
use Rattle.job_desk.specs.declared.link_fact.LinkFact.TheVariants as fact
use Rattle.print_queue.specs.declared.ending.Ending.{Ending}
use Rattle.send_window.specs.Data.{SenderData, IsSound}
use Rattle.send_window.specs.Hearing.{hear_step, tick_step}
use Rattle.send_window.proofs.Soundness.{hears_sound}
use Rattle.octo_session.specs.Data.{SessionData, IsSession, doing}
use Rattle.octo_session.specs.DeskTurn.{IsNoted, IsQuietTurn, IsTurnEnding}
use Rattle.octo_session.specs.Found.{Got, unasked, lost, nothing, whole, can_find, temps_in, ready_after}
use Rattle.octo_session.specs.Steps.{after_steps, issuing, sends, issues_then_sends, clock_steps, dial_steps, steps_over_link, turn_steps}
use Rattle.octo_session.specs.Turn.{IsDeskTurn, IsNoteOf, IsNoteOn, IsTurn, IsUneventful, fact_of, note_lines, texts_in}
use Rattle.octo_session.specs.declared.found.Doing.{Doing}
use Rattle.octo_session.specs.declared.found.Doing.TheVariants.{Dialling, HangingUp, UsingLink, Resting}
use Rattle.octo_session.specs.declared.found.Turned.{Turned}
use Rattle.octo_session.proofs.Endings.{turn_ends}
use Rattle.octo_session.proofs.Keeping.{keeps_issuing, unmoved_sends, ticked_keeps, ready_lasts, acked_heard, issued_heard}
use Rattle.octo_session.proofs.Stepping.{after_steps-append}

-- the note says what the turn found and issued
pub noted_fact : (note : Option Note) (moment before acked : ℕ) (lines : List Line) (got : Got) (found : LinkFact) →
    (note ≡ None) ↔ IsUneventful lines before acked got found → IfSome note (λ n. IsNoteOf moment acked lines got found n) →
    fact_of note ≡ found
noted_fact None moment before acked lines got found none some = sym (none.0 refl).quiet
noted_fact (Some note) moment before acked lines got found none some = some.its_fact

pub noted_lines : (note : Option Note) (moment before acked : ℕ) (lines : List Line) (got : Got) (found : LinkFact) →
    (note ≡ None) ↔ IsUneventful lines before acked got found → IfSome note (λ n. IsNoteOf moment acked lines got found n) →
    note_lines note ≡ lines
noted_lines None moment before acked lines got found none some = sym (none.0 refl).no_line
noted_lines (Some note) moment before acked lines got found none some = some.its_lines

-- what the steps of a turn leave: acked doesn't fall, nor pass the lines issued before, and readiness lasts
record Rises (s t : SenderData) : Type 0 where
  acked : s.acked ≤ t.acked
  within : t.acked ≤ s.issued
  lasts : s.ready ≡ true → t.ready ≡ true

within_sound : (s : SenderData) → IsSound s → s.acked ≤ s.issued
within_sound s sound =
    let counted : s.acked + length s.held ≡ s.issued = sound.counted in
    omega (arith, counted)

rises_same : (s : SenderData) → IsSound s → Rises s s
rises_same s sound = record { acked = omega arith; within = within_sound s sound; lasts = λ ready. ready }

-- acked and readiness stay
record Stays (s t : SenderData) : Type 0 where
  acked : t.acked ≡ s.acked
  ready : t.ready ≡ s.ready

stays_then : (s t u : SenderData) → Stays s t → Stays t u → Stays s u
stays_then s t u a b = record { acked = b.acked ∙ a.acked; ready = b.ready ∙ a.ready }

rises_stays : (s t u : SenderData) → Rises s t → Stays t u → Rises s u
rises_stays s t u rises stays =
    let same : u.acked ≡ t.acked = stays.acked in
    record {
      acked = omega (arith, same, rises.acked);
      within = omega (arith, same, rises.within);
      lasts = λ ready. (stays.ready ∙ rises.lasts ready);
    }

stays_tick : (moment : ℕ) (s : SenderData) → Stays s (tick_step moment s)
stays_tick moment s = let ticked = ticked_keeps moment s in record { acked = ticked.acked; ready = ticked.ready }

stays_speech : (moment : ℕ) (all : Bool) (texts : List (List ℕ)) (count : ℕ) (s : SenderData) → Stays s (after_steps moment (issues_then_sends all texts count) s)
stays_speech moment all texts count s =
    let mid : SenderData = after_steps moment (issuing texts) s in
    let first = keeps_issuing moment texts s in
    let second = (unmoved_sends moment all count mid).keeps in
    let P : SenderData → Type 0 = λ t. Stays s t in
    subst P (sym (after_steps-append moment (issuing texts) (sends all count) s))
    (stays_then s mid (after_steps moment (sends all count) mid) (record { acked = first.acked; ready = first.ready })
    (record { acked = second.acked; ready = second.ready }))

stays_clock : (moment : ℕ) (found : LinkFact) (texts : List (List ℕ)) (count : ℕ) (s : SenderData) →
    Stays s (after_steps moment (clock_steps found texts count) s)
stays_clock moment fact.Quiet texts count s = stays_then s (tick_step moment s) _ (stays_tick moment s)
    (stays_speech moment true texts count (tick_step moment s))
stays_clock moment fact.Opened texts count s = record { acked = refl; ready = refl }
stays_clock moment fact.Ready texts count s = stays_tick moment s
stays_clock moment fact.Closed texts count s = record { acked = refl; ready = refl }
stays_clock moment fact.NoPort texts count s = record { acked = refl; ready = refl }
stays_clock moment fact.Failed texts count s = stays_then s (tick_step moment s) _ (stays_tick moment s)
    (stays_speech moment false texts count (tick_step moment s))
stays_clock moment (fact.Ended end) texts count s = stays_tick moment s

rises_heard : (moment : ℕ) (bytes : List ℕ) (s : SenderData) → IsSound s → Rises s (hear_step (kind_of bytes) moment s)
rises_heard moment bytes s sound =
    let t : SenderData = hear_step (kind_of bytes) moment s in
    let most : t.acked ≤ t.issued = within_sound t (hears_sound (kind_of bytes) moment s sound) in
    let issued : t.issued ≡ s.issued = issued_heard (kind_of bytes) moment s in
    record {
      acked = acked_heard (kind_of bytes) moment s;
      within = omega (arith, most, issued);
      lasts = ready_lasts (kind_of bytes) moment s;
    }

rises_talk : (moment : ℕ) (got : Got) (found : LinkFact) (texts : List (List ℕ)) (count : ℕ) (s : SenderData) → IsSound s →
    Rises s (after_steps moment (steps_over_link got found texts count) s)
rises_talk moment unasked found texts count s sound = rises_same s sound
rises_talk moment lost found texts count s sound = rises_same s sound
rises_talk moment nothing found texts count s sound = rises_stays s s _ (rises_same s sound) (stays_clock moment found texts count s)
rises_talk moment (whole bytes) found texts count s sound =
    let t : SenderData = hear_step (kind_of bytes) moment s in
    rises_stays s t _ (rises_heard moment bytes s sound) (stays_clock moment found texts count t)

-- a turn makes a link, or acked and readiness rise
abbrev RisesIn : LinkFact → SenderData → SenderData → Type 0
RisesIn found s t = ((found ≡ fact.Opened) × (t.acked ≡ 0) × (t.ready ≡ false)) ⊎ ((found ≢ fact.Opened) × Rises s t)

dial_rises : (moment : ℕ) (found : LinkFact) (s : SenderData) → IsSound s → RisesIn found s (after_steps moment (dial_steps found) s)
dial_rises moment fact.Opened s sound = inl (refl, refl, refl)
dial_rises moment fact.Quiet s sound = inr (λ e. cc e, rises_same s sound)
dial_rises moment fact.Ready s sound = inr (λ e. cc e, rises_same s sound)
dial_rises moment fact.Closed s sound = inr (λ e. cc e, rises_same s sound)
dial_rises moment fact.NoPort s sound = inr (λ e. cc e, rises_same s sound)
dial_rises moment fact.Failed s sound = inr (λ e. cc e, rises_same s sound)
dial_rises moment (fact.Ended end) s sound = inr (λ e. cc e, rises_same s sound)

-- only a turn that dials makes a link
not_opened : (doing_now : Doing) (found : LinkFact) → can_find doing_now found ≡ true → doing_now ≢ Dialling → found ≢ fact.Opened
not_opened Dialling found can other opens = other refl
not_opened HangingUp found can other opens = let no : can_find HangingUp fact.Opened ≡ true = sym (ap (can_find HangingUp) opens) ∙ can in false≢true no
not_opened UsingLink found can other opens = let no : can_find UsingLink fact.Opened ≡ true = sym (ap (can_find UsingLink) opens) ∙ can in false≢true no
not_opened Resting found can other opens = let no : can_find Resting fact.Opened ≡ true = sym (ap (can_find Resting) opens) ∙ can in false≢true no

turn_rises : (moment : ℕ) (doing_now : Doing) (was_up : Bool) (got : Got) (found : LinkFact) (texts : List (List ℕ)) (count : ℕ) (s : SenderData) →
    can_find doing_now found ≡ true → IsSound s → RisesIn found s (after_steps moment (turn_steps doing_now was_up got found texts count) s)
turn_rises moment Dialling was_up got found texts count s can sound = dial_rises moment found s sound
turn_rises moment HangingUp was_up got found texts count s can sound = inr (not_opened HangingUp found can (λ e. cc e), rises_same s sound)
turn_rises moment UsingLink was_up got found texts count s can sound = inr
    (not_opened UsingLink found can (λ e. cc e), rises_talk moment got found texts count s sound)
turn_rises moment Resting was_up got found texts count s can sound = inr (not_opened Resting found can (λ e. cc e), rises_same s sound)

-- readiness, by when it begins
ready_stays : (was is : Bool) → (was ≡ true → is ≡ true) → ((was ≡ false) × (is ≡ true) → ⊥) → is ≡ was
ready_stays true is lasts never = lasts refl
ready_stays false true lasts never = absurd (never (refl, refl))
ready_stays false false lasts never = refl

ready_as : (found : LinkFact) (was is : Bool) → found ≢ fact.Opened → (was ≡ true → is ≡ true) → (found ≡ fact.Ready) ↔ ((was ≡ false) × (is ≡ true)) →
    is ≡ ready_after found was
ready_as fact.Opened was is other lasts readies = absurd (other refl)
ready_as fact.Ready was is other lasts readies = (readies.0 refl).1
ready_as fact.Quiet was is other lasts readies = ready_stays was is lasts (λ both. (let no : fact.Quiet ≡ fact.Ready = readies.1 both in cc no))
ready_as fact.Closed was is other lasts readies = ready_stays was is lasts (λ both. (let no : fact.Closed ≡ fact.Ready = readies.1 both in cc no))
ready_as fact.NoPort was is other lasts readies = ready_stays was is lasts (λ both. (let no : fact.NoPort ≡ fact.Ready = readies.1 both in cc no))
ready_as fact.Failed was is other lasts readies = ready_stays was is lasts (λ both. (let no : fact.Failed ≡ fact.Ready = readies.1 both in cc no))
ready_as (fact.Ended end) was is other lasts readies = ready_stays was is lasts (λ both. (let no : fact.Ended end ≡ fact.Ready = readies.1 both in cc no))

-- a turn that rests finds nothing
rests_quiet : (found : LinkFact) → can_find Resting found ≡ true → found ≡ fact.Quiet
rests_quiet fact.Quiet can = refl
rests_quiet fact.Opened can = absurd (false≢true can)
rests_quiet fact.Ready can = absurd (false≢true can)
rests_quiet fact.Closed can = absurd (false≢true can)
rests_quiet fact.NoPort can = absurd (false≢true can)
rests_quiet fact.Failed can = absurd (false≢true can)
rests_quiet (fact.Ended end) can = absurd (false≢true can)

-- a turn that does something makes a note for the desk
pub desk_noted : (doing_now : Doing) (moment acked : ℕ) (found : LinkFact) (lines : List Line) (old : Data) (ending : Option Ending) (new : Data) →
    (doing_now ≡ Resting → ⊥) → IsDeskTurn doing_now moment acked found lines old ending new → IsNoted moment acked found lines old ending new
desk_noted Dialling moment acked found lines old ending new active desk = desk
desk_noted HangingUp moment acked found lines old ending new active desk = desk
desk_noted UsingLink moment acked found lines old ending new active desk = desk
desk_noted Resting moment acked found lines old ending new active desk = absurd (active refl)

-- a turn without a note, by what it does
quiet_turn : (doing_now : Doing) (moment : ℕ) (old : Data) (ending : Option Ending) (new : Data) → can_find doing_now fact.Quiet ≡ true →
    IsDeskTurn doing_now moment old.acked fact.Quiet [] old ending new → IsQuietTurn doing_now moment old ending new
quiet_turn Dialling moment old ending new can desk = absurd (false≢true can)
quiet_turn HangingUp moment old ending new can desk = absurd (false≢true can)
quiet_turn UsingLink moment old ending new can desk = (
  ap (λ (n : Option Ending × Data). n.0) desk.is,
  ap (λ (n : Option Ending × Data). n.1) desk.is ∙ desk.pulls,
)
quiet_turn Resting moment old ending new can desk = (desk.1, desk.2)

module _ (moment : ℕ) (kind : LinkKind) (old_past new_past : Option (List WorldEvent)) (old_calls new_calls : Option ℕ) (old new : SessionData)
    (turned : Turned)
    (t : IsTurn moment kind old_past new_past old_calls new_calls old new turned) (finds : can_find (doing old) (fact_of turned.note) ≡ true) where
  found_is : fact_of turned.note ≡ t.found
  found_is = noted_fact turned.note moment old.sender.acked new.sender.acked t.lines t.got t.found t.none t.some

  rises_in : IsSound old.sender → RisesIn (fact_of turned.note) old.sender new.sender
  rises_in sound =
      let P : SenderData → Type 0 = λ s. RisesIn (fact_of turned.note) old.sender s in
      let F : LinkFact → Type 0 = λ f. can_find (doing old) f ≡ true in
      let Q : LinkFact → Type 0 = λ f. RisesIn f old.sender (after_steps moment (turn_steps (doing old) old.up t.got t.found (texts_in t.lines) t.steps.count)
      old.sender) in
      subst P (sym t.steps.takes.sender) (subst Q (sym found_is) (turn_rises moment (doing old) old.up t.got t.found (texts_in t.lines) t.steps.count old.sender
      (subst F found_is finds) sound))

  pub turn_ready : IsSound old.sender → (fact_of turned.note ≡ fact.Ready) ↔ ((old.sender.ready ≡ false) × (new.sender.ready ≡ true)) →
      new.sender.ready ≡ ready_after (fact_of turned.note) old.sender.ready
  turn_ready sound readies = by (rises_in sound)
    where
      by : RisesIn (fact_of turned.note) old.sender new.sender → new.sender.ready ≡ ready_after (fact_of turned.note) old.sender.ready
      by (inl makes) = makes.2 ∙ sym (ap (λ (f : LinkFact). ready_after f old.sender.ready) makes.0)
      by (inr rises) = ready_as (fact_of turned.note) old.sender.ready new.sender.ready rises.0 rises.1.lasts readies

  pub turn_not_fallen : IsSound old.sender → (fact_of turned.note ≡ fact.Opened) ⊎ (old.sender.acked ≤ new.sender.acked)
  turn_not_fallen sound = by (rises_in sound)
    where
      by : RisesIn (fact_of turned.note) old.sender new.sender → (fact_of turned.note ≡ fact.Opened) ⊎ (old.sender.acked ≤ new.sender.acked)
      by (inl makes) = inl makes.0
      by (inr rises) = inr rises.1.acked

  pub turn_within : IsSound old.sender → new.sender.acked ≤ old.sender.issued
  turn_within sound = by (rises_in sound)
    where
      by : RisesIn (fact_of turned.note) old.sender new.sender → new.sender.acked ≤ old.sender.issued
      by (inl makes) = let none : new.sender.acked ≡ 0 = makes.1 in omega (arith, none)
      by (inr rises) = rises.1.within

  pub turn_none_acked : IsSound old.sender → fact_of turned.note ≡ fact.Opened → new.sender.acked ≡ 0
  turn_none_acked sound opens = by (rises_in sound)
    where
      by : RisesIn (fact_of turned.note) old.sender new.sender → new.sender.acked ≡ 0
      by (inl makes) = makes.1
      by (inr rises) = absurd (rises.0 opens)

  pub turn_still : IsSession old → turned.note ≡ None → IsQuietTurn (doing old) moment old.desk turned.ending new.desk
  turn_still joined none =
      let is = t.none.0 none in
      let same : new.sender.acked ≡ old.desk.acked = is.same_acked ∙ sym joined.acked in
      let F : LinkFact → Type 0 = λ f. can_find (doing old) f ≡ true in
      let A : ℕ → Type 0 = λ n. IsDeskTurn (doing old) moment n t.found t.lines old.desk turned.ending new.desk in
      let G : LinkFact → Type 0 = λ f. IsDeskTurn (doing old) moment old.desk.acked f t.lines old.desk turned.ending new.desk in
      let L : List Line → Type 0 = λ l. IsDeskTurn (doing old) moment old.desk.acked fact.Quiet l old.desk turned.ending new.desk in
      quiet_turn (doing old) moment old.desk turned.ending new.desk (subst F (found_is ∙ is.quiet) finds)
      (subst L is.no_line (subst G is.quiet (subst A same t.desk)))

  -- a turn that rests makes no note
  rests_still : doing old ≡ Resting → turned.note ≡ None
  rests_still rests =
      let F : LinkFact → Type 0 = λ f. can_find (doing old) f ≡ true in
      let D : Doing → Type 0 = λ d. can_find d t.found ≡ true in
      let E : Doing → Type 0 = λ d. IsDeskTurn d moment new.sender.acked t.found t.lines old.desk turned.ending new.desk in
      let S : Doing → Type 0 = λ d. new.sender ≡ after_steps moment (turn_steps d old.up t.got t.found (texts_in t.lines) t.steps.count) old.sender in
      let none_got : t.got ≡ unasked = t.asked.1 (λ talks. (let no : Resting ≡ UsingLink = sym rests ∙ talks in cc no)) in
      let desk = subst E rests t.desk in
      t.none.1 (record {
        no_line = desk.0;
        same_acked = ap (λ (s : SenderData). s.acked) (subst S rests t.steps.takes.sender);
        no_temps = ap temps_in none_got;
        quiet = rests_quiet t.found (subst D rests (subst F found_is finds));
      })

  pub turn_noted : IfSome turned.note (λ note. IsNoteOn moment new.sender.acked old.desk new.desk turned.ending note)
  turn_noted = by turned.note refl t.some
    where
      by : (note : Option Note) → turned.note ≡ note → IfSome note (λ n. IsNoteOf moment new.sender.acked t.lines t.got t.found n) →
          IfSome note (λ n. IsNoteOn moment new.sender.acked old.desk new.desk turned.ending n)
      by None is some = tt
      by (Some note) is some =
          let noted = desk_noted (doing old) moment new.sender.acked t.found t.lines old.desk turned.ending new.desk
          (λ rests. (let no : ◌≡◌ {A = Option Note} (Some note) None = sym is ∙ rests_still rests in cc no)) t.desk in
          let F : LinkFact → Type 0 = λ f. IsNoted moment new.sender.acked f (map line_of note.issued.items) old.desk turned.ending new.desk in
          let L : List Line → Type 0 = λ l. IsNoted moment new.sender.acked t.found l old.desk turned.ending new.desk in
          record {
            its_moment = some.its_moment;
            its_acked = some.its_acked;
            noted = subst F (sym some.its_fact) (subst L (sym some.its_lines) noted);
          }

  pub turn_ending : IsSession new → IsActive old.desk → IfSome turned.ending (λ ending. IsTurnEnding (fact_of turned.note) old.desk new.desk ending)
  turn_ending joined going =
      let P : LinkFact → Type 0 = λ f. IfSome turned.ending (λ ending. IsTurnEnding f old.desk new.desk ending) in
      subst P (sym found_is) (turn_ends moment new.sender.acked t.lines old.desk turned.ending new.desk joined.acked going (doing old) t.found t.desk)
