-- A turn with a note leads a host on.
use Rattle.std.proofs.Common.{◌≡◌, ◌+◌, ◌⊎◌, inl, inr, ℕ, ◌-◌, ◌*◌, ◌<◌, ◌≤◌, Bool, true, false, nat_lt, min, if◌then◌else◌, List, Option, None, Some, refl, sym, ap, subst, ◌∙◌, arith}
use Rattle.std.proofs.lemmas.Bool.Decides.{nat_tests}
use Rattle.octo_keeper.specs.declared.shelf.ShelfFile.{ShelfFile}
use Rattle.print_queue.specs.declared.ending.Ending.{Ending}
use Rattle.job_desk.specs.declared.link_fact.LinkFact.{LinkFact}
use Rattle.job_desk.specs.declared.link_fact.LinkFact.TheVariants as fact
use Rattle.job_desk.specs.declared.issued.Note as declared_note
use Rattle.job_desk.specs.Data.{Data, moment_after}
use Rattle.job_desk.specs.Pull.{pull_step}
use Rattle.send_window.specs.Data.{SenderData, IsSound, most_lines}
use Rattle.send_window.specs.Hearing.{later}
use Rattle.send_window.specs.Sending.{room_of as sender_room, room_at}
use Rattle.send_window.specs.declared.session_end.SessionEnd.{SessionEnd}
use Rattle.send_window.specs.declared.session_end.SessionEnd.TheVariants as session_end
use Rattle.octo_asks.specs.declared.entry.Entry.TheVariants as entry
use Rattle.octo_session.specs.Data.{SessionData, IsSession, doing}
use Rattle.octo_session.specs.Found as found
use Rattle.octo_session.specs.declared.found.Doing.{Doing}
use Rattle.octo_session.specs.declared.found.Doing.TheVariants.{UsingLink}
use Rattle.octo_session.specs.Turn.{IsNoteOn, IsSpent as SessionSpent}
use Rattle.octo_session_line_proof.proofs.Turned.{talks_up}
use Rattle.send_window.specs.Patience.{IsPatient}
use Rattle.octo_house_rules.specs.Known.{Known}
use Rattle.octo_house_rules.specs.Legal.{Standing, IsLegal, IsSpent, IsWaiting, MayEnd, MayFind, room_of, up_after, ready_after, raised_after, after_note, after_entry}
use Rattle.octo_house_rules.specs.Desk.{lines_pulled}
use Rattle.octo_house_rules.specs.Noted.{calls_of, known_after_note}
use Rattle.octo_house_rules.specs.Stands.{StandsAt}
use Rattle.octo_house_run_proof.proofs.Found.{desk_is, may_find}
use Rattle.octo_house_run_proof.proofs.Noted.{lines_legal, acked_well}
use Rattle.octo_house_run_proof.proofs.Rising.{Risen}

-- what a turn of a session at a moment, which made this note, says of the session before and after
pub record TookTurn (moment : ℕ) (x y : SessionData) (ending : Option Ending) (note : declared_note.Note) : Type 0 where
  pub before : IsSession x
  pub joined : IsSession y
  pub can : found.can_find (doing x) note.fact ≡ true
  pub up : y.up ≡ found.up_after note.fact x.up
  pub ready_is : y.sender.ready ≡ found.ready_after note.fact x.sender.ready
  pub unready : note.fact ≡ fact.Ready → x.sender.ready ≡ false
  pub spent : y.up ≡ true → note.fact ≡ fact.Quiet → SessionSpent moment x.desk y.desk y.sender
  pub kept : (note.fact ≡ fact.Opened) ⊎ (x.sender.acked ≤ y.sender.acked)
  pub within : y.sender.acked ≤ x.sender.issued
  pub none_acked : note.fact ≡ fact.Opened → y.sender.acked ≡ 0
  pub told : IsNoteOn moment y.sender.acked x.desk y.desk ending note
  pub sound : IsSound y.sender
  pub window : y.sender.window ≡ x.sender.window
  pub limit : y.sender.limit ≡ x.sender.limit
  pub opened : note.fact ≡ fact.Opened → IsPatient moment x.sender.limit y.sender
  pub patient : (start : ℕ) → start ≤ moment → IsPatient start x.sender.limit x.sender → IsPatient start x.sender.limit y.sender
  pub risen : IsPatient 0 x.sender.limit x.sender → Risen moment x.sender.limit x.sender.acked y.sender
  pub silent : (count start : ℕ) → note.fact ≡ fact.Ended (session_end.NoAnswer count) → start ≤ moment → IsPatient start x.sender.limit x.sender
      → (later start (5 * x.sender.limit) ≤ moment) × ((x.sender.ready ≡ false) ⊎ (y.sender.acked < x.sender.issued))
  pub missing : (count start : ℕ) → note.fact ≡ fact.Ended (session_end.LostOk count) → start ≤ moment → IsPatient start x.sender.limit x.sender
      → (later start (20 * x.sender.limit) ≤ moment) × (y.sender.acked < x.sender.issued)
  pub numbers : (count : ℕ) → note.fact ≡ fact.Ended (session_end.NumbersUsed count) → y.sender.acked ≡ most_lines

-- the words of sessions and of histories for the same
same_up : (f : LinkFact) (was : Bool) → (f ≡ fact.Ready → was ≡ true) → found.up_after f was ≡ up_after f was
same_up fact.Ready was opened = sym (opened refl)
same_up _ was opened = refl

-- an open link is ready after a fact as its history says
same_ready : (f : LinkFact) (up was now : Bool) → found.up_after f up ≡ true → (up ≡ true → now ≡ was) → ready_after f now ≡ found.ready_after f was
same_ready fact.Quiet up was now still e = e still
same_ready fact.Opened up was now still e = refl
same_ready fact.Ready up was now still e = refl
same_ready _ up was now still e = cc

-- only a turn that uses the link finds that a session is ready or ends
ready_talks : (d : Doing) → found.can_find d fact.Ready ≡ true → d ≡ UsingLink
ready_talks UsingLink can = refl
ready_talks _ can = cc

ended_talks : (d : Doing) (end : SessionEnd) → found.can_find d (fact.Ended end) ≡ true → d ≡ UsingLink
ended_talks UsingLink end can = refl
ended_talks _ end can = cc

-- who waits from a moment on waits from the first one on
waits_longer : (start limit : ℕ) (sender : SenderData) → IsPatient start limit sender → IsPatient 0 limit sender
unfolding later
waits_longer start limit sender p = record {
  sound = p.sound;
  its_limit = p.its_limit;
  waits = record {
    long_enough = λ wanted running set. omega (arith, p.waits.long_enough wanted running set);
    told_enough = λ wanted running set. omega (arith, p.waits.told_enough wanted running set);
  };
}

module _ (s : Standing) (known known' : Known) (x y : SessionData) (files : List ShelfFile) (moment at_moment : ℕ) (ending : Option Ending)
    (note : declared_note.Note) (at : StandsAt s known x files moment false) (t : TookTurn at_moment x y ending note) where
  -- no more is acknowledged than the note says
  acked_is : note.acked ≡ y.sender.acked
  acked_is = t.told.its_acked

  -- the desk that the history leads to had as many lines issued
  issued_is : s.known.desk.issued ≡ x.sender.issued
  issued_is = ap (λ (d : Data). d.issued) (desk_is s known x files moment at) ∙ t.before.issued

  -- the sender was patient since the last sign of life
  was_patient : x.up ≡ true → IsPatient s.raised_at x.sender.limit x.sender
  was_patient up =
      let Limit : ℕ → Type 0 = λ limit. IsPatient s.raised_at limit x.sender in
      subst Limit at.limit (at.patient up)

  -- what the sender's five limits say of the history's
  end_silent : (count : ℕ) → note.fact ≡ fact.Ended (session_end.NoAnswer count) → x.up ≡ true → s.raised_at ≤ at_moment
      → IsWaiting note.acked s × (moment_after s.raised_at (5 * s.limit) ≤ at_moment)
  unfolding later
  end_silent count is up below =
      let w = t.silent count s.raised_at is below (was_patient up) in
      let After : ℕ → Type 0 = λ limit. moment_after s.raised_at (5 * limit) ≤ at_moment in
      (waiting w.1, subst After (sym at.limit) w.0)
    where
      waiting : (x.sender.ready ≡ false) ⊎ (y.sender.acked < x.sender.issued) → IsWaiting note.acked s
      waiting (inl unready) = inl (at.ready up ∙ unready)
      waiting (inr some) = inr (omega (arith, some, acked_is, issued_is))

  -- and its twenty limits
  end_missing : (count : ℕ) → note.fact ≡ fact.Ended (session_end.LostOk count) → x.up ≡ true → s.raised_at ≤ at_moment
      → (note.acked < s.known.desk.issued) × (moment_after s.raised_at (20 * s.limit) ≤ at_moment)
  unfolding later
  end_missing count is up below =
      let w = t.missing count s.raised_at is below (was_patient up) in
      let After : ℕ → Type 0 = λ limit. moment_after s.raised_at (20 * limit) ≤ at_moment in
      (omega (arith, w.1, acked_is, issued_is), subst After (sym at.limit) w.0)

  -- each end of the session comes only if it may
  may_end : (end : SessionEnd) → note.fact ≡ fact.Ended end → x.up ≡ true → s.raised_at ≤ at_moment → MayEnd end note.acked at_moment s
  may_end (session_end.NoAnswer count) is up below = end_silent count is up below
  may_end (session_end.LostOk count) is up below = end_missing count is up below
  may_end (session_end.NumbersUsed count) is up below = acked_is ∙ t.numbers count is
  may_end _ is up below = tt

-- when more was acknowledged last, by whether the note acknowledged more
abbrev raised_if : LinkFact → Bool → ℕ → Standing → ℕ
raised_if fact.Opened rose moment s = moment
raised_if _ rose moment s = if rose then moment else s.raised_at

raised_is : (f : LinkFact) (acked moment : ℕ) (s : Standing) → raised_after f acked moment s ≡ raised_if f (nat_lt s.known.desk.acked acked) moment s
raised_is fact.Opened acked moment s = refl
raised_is fact.Quiet acked moment s = refl
raised_is fact.Ready acked moment s = refl
raised_is fact.Closed acked moment s = refl
raised_is fact.NoPort acked moment s = refl
raised_is fact.Failed acked moment s = refl
raised_is (fact.Ended end) acked moment s = refl

-- how many lines have room, by the window and by how many are issued and acknowledged
abbrev room_by : ℕ → ℕ → ℕ → ℕ
room_by window issued acked = min (window - (issued - acked)) (most_lines - issued)

room_open : (ended : Option SessionEnd) (ready : Bool) (sender : SenderData) → ended ≡ None → ready ≡ true
    → room_at ended ready sender ≡ room_by (sender.window + sender.extra) sender.issued sender.acked
room_open None true sender e r = refl
room_open None false sender e r = cc
room_open (Some end) true sender e r = cc
room_open (Some end) false sender e r = cc

same_room : (w w' i i' a a' : ℕ) → w ≡ w' → i ≡ i' → a ≡ a' → room_by w i a ≡ room_by w' i' a'
same_room w w' i i' a a' one two three =
    ap (λ n. room_by n i a) one ∙ ap (λ n. room_by w' n a) two ∙ ap (λ n. room_by w' i' n) three

module _ (s : Standing) (known known' : Known) (x y : SessionData) (files : List ShelfFile) (moment at_moment : ℕ) (ending : Option Ending)
    (note : declared_note.Note) (at : StandsAt s known x files moment false) (t : TookTurn at_moment x y ending note)
    (after : known' ≡ known_after_note note known) (desk : known'.desk ≡ y.desk) where
  -- what the history knows after the note
  known_then : known_after_note note s.known ≡ known'
  known_then = ap (λ (k : Known). known_after_note note k) at.known_is ∙ sym after

  desk_then : (known_after_note note s.known).desk ≡ y.desk
  desk_then = ap (λ (k : Known). k.desk) known_then ∙ desk

  -- a quiet turn of a ready session leaves no room, or nothing to issue
  spent_so : note.fact ≡ fact.Quiet → s.up ≡ true → s.ready ≡ true → IsSpent at_moment (after_note note s)
  spent_so quiet up ready = by (t.spent open_then quiet).issued
    where
      open_before : x.up ≡ true
      open_before = sym at.up ∙ up

      open_then : y.up ≡ true
      open_then = t.up ∙ ap (λ f. found.up_after f x.up) quiet ∙ open_before

      ready_then : y.sender.ready ≡ true
      ready_then = t.ready_is ∙ ap (λ f. found.ready_after f x.sender.ready) quiet ∙ sym (at.ready open_before) ∙ ready

      -- the window may have more than the settings say, never less
      room_less : room_of (after_note note s) ≤ sender_room y.sender
      room_less =
          let by_window : room_of (after_note note s) ≡ room_by y.sender.window y.sender.issued y.sender.acked =
          same_room s.window y.sender.window _ y.sender.issued _ y.sender.acked (at.window ∙ sym t.window)
          (ap (λ (d : Data). d.issued) desk_then ∙ t.joined.issued) (ap (λ (d : Data). d.acked) desk_then ∙ t.joined.acked)
          in
          omega (arith, by_window, room_open y.sender.ended y.sender.ready y.sender (t.joined.running open_then) ready_then)

      by : (sender_room y.sender ≡ 0) ⊎ ((pull_step at_moment y.desk).0 ≡ None) → IsSpent at_moment (after_note note s)
      by (inl full) = inl (omega (arith, room_less, full))
      by (inr none) = inr (ap (λ d. (pull_step at_moment d).0) desk_then ∙ none)

  -- a fact of an open session, if it isn't the one that opens it
  open_for : (f : LinkFact) → note.fact ≡ f → (f ≡ fact.Opened → ⊥) → found.up_after f x.up ≡ true → x.up ≡ true
  open_for fact.Quiet is other up = up
  open_for fact.Opened is other up = absurd (other refl)
  open_for fact.Ready is other up =
      let Can : LinkFact → Type 0 = λ g. found.can_find (doing x) g ≡ true in
      talks_up x (ready_talks (doing x) (subst Can is t.can))
  open_for fact.Closed is other up = cc
  open_for fact.NoPort is other up = cc
  open_for fact.Failed is other up = cc
  open_for (fact.Ended end) is other up = cc

  ended_up : (end : SessionEnd) → note.fact ≡ fact.Ended end → x.up ≡ true
  ended_up end is =
      let Can : LinkFact → Type 0 = λ g. found.can_find (doing x) g ≡ true in
      talks_up x (ended_talks (doing x) end (subst Can is t.can))

  -- the note is legal for the host as it is
  pub note_legal : moment ≤ at_moment → IsLegal (entry.Note note) s
  note_legal below =
      let May : ℕ → Type 0 = λ m. MayFind note.fact note.acked m s in
      let Spent : ℕ → Type 0 = λ m. IsSpent m (after_note note s) in
      let Kept : ℕ → Type 0 = λ a. (note.fact ≡ fact.Opened) ⊎ (x.sender.acked ≤ a) in
      let moment_is : note.moment ≡ at_moment = t.told.its_moment in
      let acked : note.acked ≡ y.sender.acked = t.told.its_acked in (
        at.closed_is,
        record {
          later = omega (arith, at.moment_is, below, moment_is);
          acked = acked_well s known x files moment note.fact note.acked at t.before (λ opened. acked ∙ t.none_acked opened) (subst Kept (sym acked) t.kept) (omega (arith, acked, t.within));
          found = subst May (sym moment_is) (may_find s known x files moment at (doing x) note.fact note.acked at_moment refl t.can t.unready
              (λ end is. may_end s known known' x y files moment at_moment ending note at t end is (ended_up end is) (omega (arith, at.raised, below))));
          lines = ap (λ d. lines_pulled (calls_of note) d) (desk_is s known x files moment at) ∙ lines_legal at_moment y.sender.acked x.desk y.desk ending note t.told;
          spent = λ quiet up ready. subst Spent (sym moment_is) (spent_so quiet up ready);
        },
      )

  -- the moment from which the sender waits five limits after the note
  raised_in_time : (f : LinkFact) (rose : Bool) → moment ≤ at_moment → note.moment ≡ at_moment → raised_if f rose note.moment s ≤ at_moment
  raised_in_time fact.Opened rose below is = omega (arith, is)
  raised_in_time fact.Quiet false below is = omega (arith, at.raised, below)
  raised_in_time fact.Ready false below is = omega (arith, at.raised, below)
  raised_in_time fact.Closed false below is = omega (arith, at.raised, below)
  raised_in_time fact.NoPort false below is = omega (arith, at.raised, below)
  raised_in_time fact.Failed false below is = omega (arith, at.raised, below)
  raised_in_time (fact.Ended end) false below is = omega (arith, at.raised, below)
  raised_in_time _ true below is = omega (arith, is)

  -- the note records the moment
  patient_at : (start : ℕ) → IsPatient at_moment x.sender.limit y.sender → IsPatient note.moment x.sender.limit y.sender
  patient_at start p =
      let At : ℕ → Type 0 = λ m. IsPatient m x.sender.limit y.sender in
      subst At (sym t.told.its_moment) p

  acked_before : s.known.desk.acked ≡ x.sender.acked
  acked_before = ap (λ (d : Data). d.acked) (desk_is s known x files moment at) ∙ t.before.acked

  risen_or : nat_lt s.known.desk.acked note.acked ≡ true → Risen at_moment x.sender.limit x.sender.acked y.sender
      → IsPatient note.moment x.sender.limit y.sender
  risen_or rises (inl few) =
      let more : s.known.desk.acked < note.acked = grind (arith, nat_tests) in
      absurd (omega (arith, more, few, acked_before, t.told.its_acked))
  risen_or rises (inr p) = patient_at 0 p

  -- the sender of a link that was open waits from that moment
  patient_more : (rose : Bool) → nat_lt s.known.desk.acked note.acked ≡ rose → moment ≤ at_moment → x.up ≡ true
      → IsPatient (if rose then note.moment else s.raised_at) x.sender.limit y.sender
  patient_more false none below up =
      t.patient s.raised_at (omega (arith, at.raised, below)) (was_patient s known known' x y files moment at_moment ending note at t up)
  patient_more true some below up =
      risen_or some (t.risen (waits_longer s.raised_at x.sender.limit x.sender (was_patient s known known' x y files moment at_moment ending note at t up)))

  -- the sender of an open link does
  patient_then : (f : LinkFact) (rose : Bool) → note.fact ≡ f → nat_lt s.known.desk.acked note.acked ≡ rose → moment ≤ at_moment
      → found.up_after f x.up ≡ true → IsPatient (raised_if f rose note.moment s) x.sender.limit y.sender
  patient_then fact.Opened rose is rises below up = patient_at 0 (t.opened is)
  patient_then fact.Quiet rose is rises below up = patient_more rose rises below (open_for fact.Quiet is (λ e. cc e) up)
  patient_then fact.Ready rose is rises below up = patient_more rose rises below (open_for fact.Ready is (λ e. cc e) up)
  patient_then _ rose is rises below up = absurd (cc up)

  -- and leads the host on
  pub note_leads : moment ≤ at_moment → StandsAt (after_entry (entry.Note note) s) known' y files at_moment false
  note_leads below =
      let rose = nat_lt s.known.desk.acked note.acked in
      let raised = raised_is note.fact note.acked note.moment s in
      let Limit : ℕ → Type 0 = λ limit. IsPatient (raised_if note.fact rose note.moment s) limit y.sender in
      let Raised : ℕ → Type 0 = λ r. IsPatient r s.limit y.sender in
      let Early : ℕ → Type 0 = λ r. r ≤ at_moment in
      record {
        window = at.window ∙ sym t.window;
        limit = at.limit ∙ sym t.limit;
        known_is = known_then;
        desk = desk;
        sound = t.sound;
        files_are = at.files_are;
        up = ap (λ was. up_after note.fact was) at.up ∙ sym (same_up note.fact x.up ready_up) ∙ sym t.up;
        ready = λ up. same_ready note.fact x.up x.sender.ready s.ready (sym t.up ∙ up) at.ready ∙ sym t.ready_is;
        patient = λ up. subst Raised (sym raised) (subst Limit (sym at.limit) (patient_then note.fact rose refl refl below (sym t.up ∙ up)));
        raised = subst Early (sym raised) (raised_in_time note.fact rose below t.told.its_moment);
        moment_is = omega (arith, t.told.its_moment);
        closed_is = at.closed_is;
      }
    where
      ready_up : note.fact ≡ fact.Ready → x.up ≡ true
      ready_up is =
          let Can : LinkFact → Type 0 = λ g. found.can_find (doing x) g ≡ true in
          talks_up x (ready_talks (doing x) (subst Can is t.can))
