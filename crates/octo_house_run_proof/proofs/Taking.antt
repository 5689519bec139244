-- What a turn of a session promises is what leads a host on.
use Rattle.std.proofs.Common.{◌≡◌, ◌⊎◌, inl, inr, ℕ, ◌*◌, ◌<◌, ◌≤◌, true, false, List, [], ◌∷◌, Option, None, Some, refl, sym, ap, subst, ◌∙◌, arith}
use Rattle.std.specs.Prelude.{IfSome}
use Rattle.std.proofs.lemmas.Grind.{common_steps}
use Rattle.marlin_reply.specs.Kind.{kind_of}
use Rattle.marlin_reply.specs.declared.reply.Reply.{Reply}
use Rattle.marlin_reply.specs.declared.reply.Reply.TheVariants as reply
use Rattle.print_queue.specs.declared.ending.Ending.{Ending}
use Rattle.printer_link.specs.Link.{LinkKind}
use Rattle.printer_model.specs.declared.event.WorldEvent.{WorldEvent}
use Rattle.job_desk.specs.declared.link_fact.LinkFact.{LinkFact}
use Rattle.job_desk.specs.declared.link_fact.LinkFact.TheVariants as fact
use Rattle.job_desk.specs.declared.issued.Note as declared_note
use Rattle.send_window.specs.Data.{SenderData, IsSound, most_lines}
use Rattle.send_window.specs.Hearing.{later, hear_step, tick_step}
use Rattle.send_window.specs.Sending.{frame_step}
use Rattle.send_window.specs.declared.session_end.SessionEnd.{SessionEnd}
use Rattle.send_window.specs.declared.session_end.SessionEnd.TheVariants.{NoAnswer, LostOk, NumbersUsed}
use Rattle.send_window.proofs.Soundness.{begun_sound}
use Rattle.send_window.proofs.Waiting.{waits_five_limits}
use Rattle.octo_session.specs.Data.{SessionData, IsSession, doing}
use Rattle.octo_session.specs.Found.{Got, unasked, lost, nothing, whole, end_by, can_find, up_after, ready_after}
use Rattle.octo_session.specs.Steps.{Step, opens, finds_no_port, fails_to_dial, hears, listens, fails_to_receive, ticks, issues, gives, fails_to_send, hangs_up, after_step, after_steps, steps_over_link, turn_steps}
use Rattle.octo_session.specs.DeskTurn.{IsQuietTurn}
use Rattle.octo_session.specs.Turn.{IsTurn, IsNoteOn, IsNoteOf, IsSpent, IsUneventful, texts_in}
use Rattle.octo_session.specs.declared.found.Doing.{Doing}
use Rattle.octo_session.specs.declared.found.Doing.TheVariants.{Dialling, UsingLink}
use Rattle.octo_session.specs.declared.found.Turned.{Turned}
use Rattle.send_window.specs.Patience.{IsPatient, IsUnanswered}
use Rattle.octo_session_line_proof.proofs.Lasting.{sound_steps}
use Rattle.octo_session_line_proof.proofs.Numbers.{turn_used}
use Rattle.octo_session_line_proof.proofs.Waits.{Lasts, steps_last, turn_patient, turn_unanswered, turn_missing}
use Rattle.octo_session_line_proof.proofs.Turned.{talks_up, opens_dialling}
use Rattle.octo_house_run_proof.proofs.Quiet.{TookQuiet}
use Rattle.octo_house_run_proof.proofs.Rising.{Risen, risen_steps}
use Rattle.octo_house_run_proof.proofs.Turned.{TookTurn}
use Rattle.octo_session.proofs.Keeping.{issued_heard}
use Rattle.octo_session_line_proof.proofs.Promised.{ends_talking}

-- a turn that ends its session issues nothing
issued_ticked : (moment : ℕ) (s : SenderData) → (tick_step moment s).issued ≡ s.issued
issued_ticked moment s = grind (arith, common_steps)

ended_issues : (moment : ℕ) (got : Got) (end : SessionEnd) (texts : List (List ℕ)) (count : ℕ) (s : SenderData)
    → (after_steps moment (steps_over_link got (fact.Ended end) texts count) s).issued ≡ s.issued
ended_issues moment unasked end texts count s = refl
ended_issues moment lost end texts count s = refl
ended_issues moment nothing end texts count s = issued_ticked moment s
ended_issues moment (whole bytes) end texts count s = issued_ticked moment (hear_step (kind_of bytes) moment s) ∙ issued_heard (kind_of bytes) moment s

module _ (moment : ℕ) (kind : LinkKind) (past past' : Option (List WorldEvent)) (calls calls' : Option ℕ) (x y : SessionData) (turned : Turned)
    (t : IsTurn moment kind past past' calls calls' x y turned) (sound : IsSound x.sender) where
  -- the sender after the turn
  pub turn_sound : IsSound y.sender
  turn_sound =
      let Sound : SenderData → Type 0 = λ s. IsSound s in
      subst Sound (sym t.steps.takes.sender) (sound_steps moment _ x.sender t.steps.takes.allowed sound)

  pub turn_window : y.sender.window ≡ x.sender.window
  turn_window =
      ap (λ (s : SenderData). s.window) t.steps.takes.sender
      ∙ (steps_last moment (turn_steps (doing x) x.up t.got t.found (texts_in t.lines) t.steps.count) x.sender).window

  pub turn_limit : y.sender.limit ≡ x.sender.limit
  turn_limit =
      ap (λ (s : SenderData). s.limit) t.steps.takes.sender
      ∙ (steps_last moment (turn_steps (doing x) x.up t.got t.found (texts_in t.lines) t.steps.count) x.sender).limit

  pub turn_risen : IsPatient 0 x.sender.limit x.sender → Risen moment x.sender.limit x.sender.acked y.sender
  turn_risen p =
      let R : SenderData → Type 0 = λ s. Risen moment x.sender.limit x.sender.acked s in
      subst R (sym t.steps.takes.sender)
      (risen_steps moment x.sender.limit x.sender.acked (turn_steps (doing x) x.up t.got t.found (texts_in t.lines) t.steps.count) x.sender
      t.steps.takes.allowed p (inl (omega arith)))

  module _ (f : LinkFact) (found_is : t.found ≡ f) (can : can_find (doing x) f ≡ true) where
    -- the sender of a turn of that kind, which found this
    sender_is : (d : Doing) → doing x ≡ d → y.sender ≡ after_steps moment (turn_steps d x.up t.got f (texts_in t.lines) t.steps.count) x.sender
    sender_is d is =
        t.steps.takes.sender
        ∙ ap (λ (e : Doing). after_steps moment (turn_steps e x.up t.got t.found (texts_in t.lines) t.steps.count) x.sender) is
        ∙ ap (λ (g : LinkFact). after_steps moment (turn_steps d x.up t.got g (texts_in t.lines) t.steps.count) x.sender) found_is

  pub turn_opened : t.found ≡ fact.Opened → can_find (doing x) fact.Opened ≡ true → IsPatient moment x.sender.limit y.sender
  turn_opened is can =
      let P : SenderData → Type 0 = λ s. IsPatient moment x.sender.limit s in
      subst P (sym (sender_is fact.Opened is can Dialling (opens_dialling (doing x) can)))
      (record { sound = begun_sound x.sender sound; its_limit = refl; waits = waits_five_limits.0 moment x.sender })

  pub turn_silent : (count start : ℕ) → IsSession x → t.found ≡ fact.Ended (NoAnswer count) → can_find (doing x) (fact.Ended (NoAnswer count)) ≡ true
      → y.sender.ready ≡ x.sender.ready → start ≤ moment → IsPatient start x.sender.limit x.sender
      → (later start (5 * x.sender.limit) ≤ moment) × ((x.sender.ready ≡ false) ⊎ (y.sender.acked < x.sender.issued))
  turn_silent count start joined is can same since p =
      let Can : LinkFact → Type 0 = λ g. can_find (doing x) g ≡ true in
      let w = turn_unanswered moment kind past past' calls calls' x y turned t start x.sender.limit since count joined p is (subst Can (sym is) can) in
      let issued : y.sender.issued ≡ x.sender.issued =
      ap (λ (s : SenderData). s.issued) (sender_is (fact.Ended (NoAnswer count)) is can UsingLink (ends_talking (NoAnswer count) (doing x) can))
      ∙ ended_issues moment t.got (NoAnswer count) (texts_in t.lines) t.steps.count x.sender
      in
      (w.0, waiting issued w.1)
    where
      waiting : y.sender.issued ≡ x.sender.issued → IsUnanswered y.sender → (x.sender.ready ≡ false) ⊎ (y.sender.acked < x.sender.issued)
      waiting issued (inl unready) = inl (sym same ∙ unready)
      waiting issued (inr some) = inr (omega (arith, some, issued))

  pub turn_told : (count start : ℕ) → IsSession x → t.found ≡ fact.Ended (LostOk count) → can_find (doing x) (fact.Ended (LostOk count)) ≡ true
      → start ≤ moment → IsPatient start x.sender.limit x.sender → (later start (20 * x.sender.limit) ≤ moment) × (y.sender.acked < x.sender.issued)
  turn_told count start joined is can since p =
      let Can : LinkFact → Type 0 = λ g. can_find (doing x) g ≡ true in
      let w = turn_missing moment kind past past' calls calls' x y turned t start x.sender.limit since count joined p is (subst Can (sym is) can) in
      let issued : y.sender.issued ≡ x.sender.issued =
      ap (λ (s : SenderData). s.issued) (sender_is (fact.Ended (LostOk count)) is can UsingLink (ends_talking (LostOk count) (doing x) can))
      ∙ ended_issues moment t.got (LostOk count) (texts_in t.lines) t.steps.count x.sender
      in
      (w.0, omega (arith, issued, w.1.1))

  -- a turn that made a note
  pub took_turn : (ending : Option Ending) (note : declared_note.Note) → turned.note ≡ Some note → IsSession x → IsSession y
      → can_find (doing x) note.fact ≡ true → y.up ≡ up_after note.fact x.up → y.sender.ready ≡ ready_after note.fact x.sender.ready
      → (note.fact ≡ fact.Ready → x.sender.ready ≡ false) → (y.up ≡ true → note.fact ≡ fact.Quiet → IsSpent moment x.desk y.desk y.sender)
      → (note.fact ≡ fact.Opened) ⊎ (x.sender.acked ≤ y.sender.acked) → y.sender.acked ≤ x.sender.issued
      → (note.fact ≡ fact.Opened → y.sender.acked ≡ 0) → IsNoteOn moment y.sender.acked x.desk y.desk ending note
      → TookTurn moment x y ending note
  took_turn ending note is before joined can up ready unready spent kept within none_acked told =
      let Noted : Option declared_note.Note → Type 0 = λ n. IfSome n (λ one. IsNoteOf moment y.sender.acked t.lines t.got t.found one) in
      let Can : LinkFact → Type 0 = λ g. can_find (doing x) g ≡ true in
      let of : IsNoteOf moment y.sender.acked t.lines t.got t.found note = subst Noted is t.some in
      let found_is : t.found ≡ note.fact = sym of.its_fact in
      let Found : LinkFact → Type 0 = λ g. can_find (doing x) g ≡ true in
      record {
        before = before;
        joined = joined;
        can = can;
        up = up;
        ready_is = ready;
        unready = unready;
        spent = spent;
        kept = kept;
        within = within;
        none_acked = none_acked;
        told = told;
        sound = turn_sound;
        window = turn_window;
        limit = turn_limit;
        opened = λ e. turn_opened (found_is ∙ e) (subst Can e can);
        patient = λ start since p. turn_patient moment kind past past' calls calls' x y turned t start x.sender.limit since p;
        risen = turn_risen;
        silent = λ count start e since p. turn_silent count start before (found_is ∙ e) (subst Can e can) (ready ∙ ap (λ g. ready_after g x.sender.ready) e) since p;
        missing = λ count start e since p. turn_told count start before (found_is ∙ e) (subst Can e can) since p;
        numbers = λ count e. (turn_used moment kind past past' calls calls' x y turned t before count sound (found_is ∙ e) (subst Found (sym found_is) can)).1;
      }

  -- a turn that made none
  pub took_quiet : (ending : Option Ending) → turned.note ≡ None → IsSession x → IsSession y
      → y.up ≡ x.up → y.sender.ready ≡ x.sender.ready → (y.up ≡ true → IsSpent moment x.desk y.desk y.sender) → y.sender.acked ≤ x.sender.issued
      → IsQuietTurn (doing x) moment x.desk ending y.desk → TookQuiet moment x y ending
  took_quiet ending is before joined up ready spent within desk =
      let nothing_new : IsUneventful t.lines x.sender.acked y.sender.acked t.got t.found = t.none.0 is in
      record {
        before = before;
        joined = joined;
        desk = desk;
        up = up;
        ready_is = ready;
        spent = spent;
        acked = nothing_new.same_acked;
        within = within;
        sound = turn_sound;
        window = turn_window;
        limit = turn_limit;
        patient = λ start since p. turn_patient moment kind past past' calls calls' x y turned t start x.sender.limit since p;
        risen = turn_risen;
      }
