-- Each step of a turn leads the session on.
use Rattle.std.proofs.Common.{◌≡◌, ℕ, true, false, List, [], ◌∷◌, ◌++◌, refl, sym, ◌∙◌, ap, subst, append_assoc, append-nil}
use Rattle.std.specs.Prelude.{Option, None, Some}
use Rattle.std.specs.List.{list_all}
use Rattle.marlin_reply.specs.Kind.{kind_of}
use Rattle.printer_model.specs.World.{WorldData, is_free, can_happen, world_from}
use Rattle.printer_model.specs.declared.event.WorldEvent.{WorldEvent}
use Rattle.printer_model.specs.declared.event.WorldEvent.TheVariants.{Opened, Send, Arrive, Lose, LoseReply, Garble, Run, Restart, Chatter, Recv, Closed}
use Rattle.printer_model.proofs.Laws.{world_from-append, world_from-linked}
use Rattle.printer_model.proofs.Starts.{runs-free}
use Rattle.printer_link.specs.Link.{IsSendOf, IsHeard, MaySendFailing}
use Rattle.send_window.specs.Data.{SenderData, NoneEarly}
use Rattle.send_window.specs.Hearing.{hear_step, tick_step}
use Rattle.send_window.specs.Sending.{Outgoing, bytes_of_outgoing, next_of, frame_step, push_step}
use Rattle.octo_session.specs.Steps.{Step, opens, finds_no_port, fails_to_dial, hears, listens, fails_to_receive, ticks, issues, gives, fails_to_send, hangs_up, after_step, IsAllowed, IsGiven, IsDone}
use Rattle.octo_session_line_proof.specs.Pieces.{IsFit}
use Rattle.octo_session_line_proof.specs.Wires.{Start}
use Rattle.octo_session_line_proof.specs.Stopped.{Fits}
use Rattle.octo_session_line_proof.specs.Traces.{HasGreeted, IsTallied}
use Rattle.octo_session_line_proof.proofs.Traffic.{traffic_from-free}
use Rattle.octo_session.specs.Sends.{traffic_from}
use Rattle.octo_session_line_proof.proofs.Flags.{tick_flags}
use Rattle.octo_session_line_proof.proofs.Fitting.{tick_fits, issue_fits}
use Rattle.octo_session_line_proof.proofs.Tracing.{extends_none, Leads, leads_then, leads_none, leads_free, leads_recv, tally_same}
use Rattle.octo_session_line_proof.proofs.Free.{Allows, allows_left, allows_right, allows_rest}
use Rattle.octo_session_line_proof.proofs.Giving.{leads_closed, leads_loss, leads_given, leads_sent, leads_failing}
use Rattle.octo_session_line_proof.specs.Issuing.{issued_by}
use Rattle.byte_text.proofs.OptionLaws.{some-if-true}
use Rattle.send_window.specs.Counting.{Traffic}

-- a step that neither makes a link nor hears a reply
abbrev pub IsPlain : Step → Type 0
IsPlain opens = ⊥
IsPlain finds_no_port = Unit {0}
IsPlain fails_to_dial = Unit {0}
IsPlain (hears bytes) = ⊥
IsPlain listens = Unit {0}
IsPlain fails_to_receive = Unit {0}
IsPlain ticks = Unit {0}
IsPlain (issues text) = Unit {0}
IsPlain gives = Unit {0}
IsPlain fails_to_send = Unit {0}
IsPlain (hangs_up was_up) = Unit {0}

module _ (start : Start) (issued : List (List ℕ)) (moment : ℕ) (s : SenderData) (w : WorldData) (traffic : List Traffic) where
  -- three parts, the middle one of which may change the sender
  around : (t : SenderData) (before middle behind : List WorldEvent) → list_all is_free before ≡ true → list_all is_free behind ≡ true →
      Allows start before → Allows start behind → Fits start issued s w → IsTallied traffic s
      → (Fits start issued s (world_from w before) → IsTallied (traffic ++ traffic_from w before) s → Leads start issued issued t (world_from w before) (traffic ++ traffic_from w before) middle)
      → Leads start issued issued t w traffic (before ++ (middle ++ behind))
  around t before middle behind first last early late m tallied does =
      let one = leads_free start issued s w traffic before first early m tallied in
      let two = does one.meets one.tallied in
      let three = leads_free start issued t (world_from (world_from w before) middle) ((traffic ++ traffic_from w before) ++ traffic_from (world_from w before) middle) behind last late two.meets two.tallied in
      leads_then start issued issued issued s t w traffic before (middle ++ behind) one
      (leads_then start issued issued issued t t (world_from w before) (traffic ++ traffic_from w before) middle behind two three)

  -- a reply is received and heard
  pub hears_leads : (bytes : List ℕ) (added : List WorldEvent) → s.ended ≡ None → IsHeard bytes w added → Allows start added → Fits start issued s w → NoneEarly s →
      HasGreeted s.numbered traffic s → IsTallied traffic s → Leads start issued issued (hear_step (kind_of bytes) moment s) w traffic added
  hears_leads bytes added running is allows m fresh greets tallied =
      let A : List WorldEvent → Type 0 = λ es. Allows start es in
      let all : Allows start (is.before ++ Recv ∷ is.after) = subst A is.is allows in
      let L : List WorldEvent → Type 0 = λ es. Leads start issued issued (hear_step (kind_of bytes) moment s) w traffic es in
      let G : List Traffic → Type 0 = λ l. HasGreeted s.numbered l s in
      let same : traffic ≡ traffic ++ traffic_from w is.before = sym (append-nil traffic) ∙ ap (λ (l : List Traffic). traffic ++ l) (sym (traffic_from-free w is.before is.free_before)) in
      let B : List ℕ → Type 0 = λ b. Leads start issued issued (hear_step (kind_of b) moment s) w traffic (is.before ++ Recv ∷ is.after) in
      subst L (sym is.is) (subst B (sym is.whole) (around (hear_step (kind_of is.reply) moment s) is.before (Recv ∷ []) is.after is.free_before is.free_after (allows_left start is.before (Recv ∷ is.after) all)
      (allows_rest start Recv is.after (allows_right start is.before (Recv ∷ is.after) all)) m tallied
      (λ met told. leads_recv start issued moment s (world_from w is.before) (traffic ++ traffic_from w is.before) is.reply is.rest is.linked running is.front met fresh
      (subst G same greets) told)))

  sent_leads : (next : Outgoing) (before behind : List WorldEvent) (event : WorldEvent) → next_of s ≡ Some next →
      IsSendOf (bytes_of_outgoing next) event → can_happen (world_from w before) event ≡ true → list_all is_free before ≡ true →
      list_all is_free behind ≡ true → Allows start before → Allows start behind → Fits start issued s w → IsTallied traffic s →
      Leads start issued issued (frame_step moment s) w traffic (before ++ event ∷ behind)
  sent_leads next before behind (Send sent) is written can first last early late m tallied =
      around (frame_step moment s) before (Send sent ∷ []) behind first last early late m tallied
      (λ met told. leads_sent start issued moment s (world_from w before) (traffic ++ traffic_from w before) next sent is written can met told)
  sent_leads next before behind (Opened last_number) is written can first last early late m tallied = absurd written
  sent_leads next before behind Arrive is written can first last early late m tallied = absurd written
  sent_leads next before behind (Lose at) is written can first last early late m tallied = absurd written
  sent_leads next before behind (LoseReply at) is written can first last early late m tallied = absurd written
  sent_leads next before behind (Garble at line) is written can first last early late m tallied = absurd written
  sent_leads next before behind Run is written can first last early late m tallied = absurd written
  sent_leads next before behind Restart is written can first last early late m tallied = absurd written
  sent_leads next before behind (Chatter reply) is written can first last early late m tallied = absurd written
  sent_leads next before behind Recv is written can first last early late m tallied = absurd written
  sent_leads next before behind Closed is written can first last early late m tallied = absurd written

  given_leads : (next : Option Outgoing) (added : List WorldEvent) → next_of s ≡ next → IsGiven next w added → Allows start added → Fits start issued s w →
      IsTallied traffic s → Leads start issued issued (frame_step moment s) w traffic added
  given_leads None added is given allows m tallied = absurd given
  given_leads (Some next) added is given allows m tallied =
      let A : List WorldEvent → Type 0 = λ es. Allows start es in
      let all : Allows start (given.before ++ given.sent ∷ given.after) = subst A given.is allows in
      let L : List WorldEvent → Type 0 = λ es. Leads start issued issued (frame_step moment s) w traffic es in
      subst L (sym given.is) (sent_leads next given.before given.after given.sent is given.line_is given.sends given.free_before given.free_after
      (allows_left start given.before (given.sent ∷ given.after) all) (allows_rest start given.sent given.after (allows_right start given.before (given.sent ∷ given.after) all)) m tallied)

  -- a sending fails: nothing went out, or a line that fails
  lost_leads : (next : Outgoing) (before failing behind : List WorldEvent) → next_of s ≡ Some next →
      MaySendFailing (world_from w before) failing → list_all is_free before ≡ true → list_all is_free behind ≡ true →
      Allows start before → Allows start behind → (world_from w (before ++ failing ++ behind)).linked ≡ true → Fits start issued s w → IsTallied traffic s →
      Leads start issued issued (frame_step moment s) w traffic (before ++ (failing ++ (behind ++ Closed ∷ [])))
  lost_leads next before [] behind is may first last early late on m tallied =
      let t = frame_step moment s in
      let one = leads_free start issued s w traffic before first early m tallied in
      let given = leads_given start issued moment s (world_from w before) (traffic ++ traffic_from w before) one.meets one.tallied in
      let linked_before : (world_from w before).linked ≡ true =
      sym (world_from-linked (world_from w before) behind last) ∙ ap (λ (v : WorldData). v.linked) (sym (world_from-append w before behind)) ∙ ap (λ (es : List WorldEvent). (world_from w (es ++ behind)).linked) (sym (append-nil before)) ∙ on
      in
      let T : List Traffic → Type 0 = λ l. IsTallied l t in
      let told : IsTallied (traffic ++ traffic_from w before) t = subst T (append-nil (traffic ++ traffic_from w before)) given.tallied in
      let rest = leads_loss start issued t (world_from w before) (traffic ++ traffic_from w before) behind last late linked_before given.meets told in
      let joined = leads_then start issued issued issued t t (world_from w before) (traffic ++ traffic_from w before) [] (behind ++ Closed ∷ []) given
      (leads_loss start issued t (world_from w before) ((traffic ++ traffic_from w before) ++ []) behind last late linked_before given.meets given.tallied)
      in
      leads_then start issued issued issued s t w traffic before (behind ++ Closed ∷ []) one joined
  lost_leads next before (Send sent ∷ []) behind is may first last early late on m tallied =
      let one = leads_free start issued s w traffic before first early m tallied in
      leads_then start issued issued issued s (frame_step moment s) w traffic before (Send sent ∷ (behind ++ Closed ∷ [])) one
      (leads_failing start issued moment s (world_from w before) (traffic ++ traffic_from w before) next sent behind is may.0 may.1 last late one.meets one.tallied)
  lost_leads next before (Opened number ∷ []) behind is may first last early late on m tallied = absurd may
  lost_leads next before (Arrive ∷ []) behind is may first last early late on m tallied = absurd may
  lost_leads next before (Lose at ∷ []) behind is may first last early late on m tallied = absurd may
  lost_leads next before (LoseReply at ∷ []) behind is may first last early late on m tallied = absurd may
  lost_leads next before (Garble at line ∷ []) behind is may first last early late on m tallied = absurd may
  lost_leads next before (Run ∷ []) behind is may first last early late on m tallied = absurd may
  lost_leads next before (Restart ∷ []) behind is may first last early late on m tallied = absurd may
  lost_leads next before (Chatter reply ∷ []) behind is may first last early late on m tallied = absurd may
  lost_leads next before (Recv ∷ []) behind is may first last early late on m tallied = absurd may
  lost_leads next before (Closed ∷ []) behind is may first last early late on m tallied = absurd may
  lost_leads next before (one ∷ two ∷ more) behind is may first last early late on m tallied = absurd may

  regroup : (before failing behind : List WorldEvent) → before ++ failing ++ behind ++ Closed ∷ [] ≡ before ++ (failing ++ (behind ++ Closed ∷ []))
  regroup before failing behind = simp append_assoc

  -- the steps that neither make a link nor hear a reply
  pub plain_leads : (step : Step) (added : List WorldEvent) → IsPlain step → IsAllowed step s → IsDone step s w added → Allows start added →
      Fits start issued s w → IsTallied traffic s → Leads start issued (issued_by step issued) (after_step moment step s) w traffic added
  plain_leads opens added plain allowed is allows m tallied = absurd plain
  plain_leads (hears bytes) added plain allowed is allows m tallied = absurd plain
  plain_leads finds_no_port added plain allowed is allows m tallied =
      let L : List WorldEvent → Type 0 = λ es. Leads start issued issued s w traffic es in
      subst L (sym is) (leads_none start issued issued s w traffic (extends_none issued) m tallied)
  plain_leads fails_to_dial added plain allowed is allows m tallied = leads_free start issued s w traffic added (runs-free added is) allows m tallied
  plain_leads listens added plain allowed is allows m tallied = leads_free start issued s w traffic added is.free allows m tallied
  plain_leads fails_to_receive added plain allowed is allows m tallied =
      let L : List WorldEvent → Type 0 = λ es. Leads start issued issued s w traffic es in
      let on : w.linked ≡ true = sym (world_from-linked w is.before is.free) ∙ is.linked in
      let A : List WorldEvent → Type 0 = λ es. Allows start es in
      subst L (sym is.is) (leads_loss start issued s w traffic is.before is.free (allows_left start is.before (Closed ∷ []) (subst A is.is allows)) on m tallied)
  plain_leads ticks added plain allowed is allows m tallied =
      let t = tick_step moment s in
      let L : List WorldEvent → Type 0 = λ es. Leads start issued issued t w traffic es in
      let flags = tick_flags moment s in
      subst L (sym is) (leads_none start issued issued t w traffic (extends_none issued) (tick_fits start issued moment s w m) (tally_same start traffic s t flags.kind flags.swallow flags.ready flags.acked flags.asks tallied))
  plain_leads (issues text) added plain allowed is allows m tallied =
      let L : List WorldEvent → Type 0 = λ es. Leads start issued (issued ++ text ∷ []) (push_step text s) w traffic es in
      let fit : IsFit text = record { sendable = allowed.1; bytes = allowed.2 } in
      subst L (sym is) (leads_none start issued (issued ++ text ∷ []) (push_step text s) w traffic (record { added = text ∷ []; is = refl }) (issue_fits start issued text s w fit allowed.0 m)
      (tally_same start traffic s (push_step text s) refl refl refl refl (λ a. a) tallied))
  plain_leads gives added plain allowed is allows m tallied = given_leads (next_of s) added refl is allows m tallied
  plain_leads fails_to_send added plain allowed is allows m tallied =
      let L : List WorldEvent → Type 0 = λ es. Leads start issued issued (frame_step moment s) w traffic es in
      let some = some-if-true (next_of s) allowed in
      let A : List WorldEvent → Type 0 = λ es. Allows start es in
      let all : Allows start (is.before ++ (is.failing ++ (is.after ++ Closed ∷ []))) = subst A (is.is ∙ regroup is.before is.failing is.after) allows in
      let after : Allows start is.after = allows_left start is.after (Closed ∷ []) (allows_right start is.failing (is.after ++ Closed ∷ []) (allows_right start is.before (is.failing ++ (is.after ++ Closed ∷ [])) all)) in
      subst L (sym (is.is ∙ regroup is.before is.failing is.after))
      (lost_leads some.0 is.before is.failing is.after some.1 is.may_send is.free_before is.free_after (allows_left start is.before (is.failing ++ (is.after ++ Closed ∷ [])) all) after is.linked m tallied)
  plain_leads (hangs_up true) added plain allowed is allows m tallied =
      let L : List WorldEvent → Type 0 = λ es. Leads start issued issued s w traffic es in
      subst L (sym is.0) (leads_closed start issued s w traffic is.1 m tallied)
  plain_leads (hangs_up false) added plain allowed is allows m tallied =
      let L : List WorldEvent → Type 0 = λ es. Leads start issued issued s w traffic es in
      subst L (sym is) (leads_none start issued issued s w traffic (extends_none issued) m tallied)
