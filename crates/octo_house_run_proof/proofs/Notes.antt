-- The calls of a history's entries, and what they leave.
use Rattle.std.proofs.Common.{◌≡◌, ◌⊎◌, inl, inr, ℕ, ◌≤◌, Bool, false, nat_eq, List, [], ◌∷◌, ◌++◌, length, map, Option, None, refl, sym, ◌∙◌, ap, subst, append-nil, arith}
use Rattle.job_desk.specs.Data.{ScriptTexts, Data, Line}
use Rattle.job_desk.specs.Issued.{line_of}
use Rattle.job_desk.specs.Note.{note_step, first_fact}
use Rattle.job_desk.specs.Pull.{pull_step, draw_at, settle_at}
use Rattle.job_desk.specs.Run.{DeskCall, Pull, Note}
use Rattle.job_desk.specs.declared.issued.Issued.{Issued}
use Rattle.job_desk.specs.declared.issued.Note as declared_note
use Rattle.job_desk.specs.declared.link_fact.LinkFact.{LinkFact}
use Rattle.job_desk.specs.declared.link_fact.LinkFact.TheVariants as fact
use Rattle.job_desk.specs.declared.state.State.{State}
use Rattle.job_desk.specs.declared.state.State.TheVariants.{Offline, Connecting, Printing, Fault}
use Rattle.job_desk.proofs.Steady.{Steady, steady-pull, steady-note}
use Rattle.job_desk.proofs.Connecting.{note_opened}
use Rattle.octo_house_rules.specs.Desk.{desk_after, desk_after_all, lines_pulled, with_line, ended_by}
use Rattle.octo_house_rules.specs.Known.{Known}
use Rattle.octo_house_rules.specs.Issued.{is_opening}
use Rattle.octo_house_rules.specs.Legal.{up_after, IsAckedWell}
use Rattle.octo_house_rules.specs.Noted.{known_after_call, known_after_calls, last_call, known_after_note}
use Rattle.octo_house_rules.proofs.Played.{IsNumbered}
use Rattle.octo_house_rules.proofs.Runs.{MayAll}
use Rattle.octo_house_run_proof.proofs.Marks.{IsRequest, acked_request}
use Rattle.octo_house_run_proof.proofs.Pulled.{acked_pull}
use Rattle.octo_house_run_proof.proofs.PrintNoted.{acked_note}
use Rattle.octo_house_run_proof.proofs.Requests.{AreRequests}
use Rattle.octo_house_run_proof.proofs.Calls.{ArePlain, open_by_all}
use Rattle.octo_house_run_proof.proofs.Plain.{IsPlain, open_by}
use Rattle.octo_house_rules.proofs.Histories.{as_many}

-- requests open no session and acknowledge nothing
module _ (scripts : ScriptTexts) (p : ℕ) (positive : nat_eq 0 p ≡ false) where
  plain_request : (call : DeskCall) (d : Data) → IsRequest call → IsPlain call d
  plain_request (Pull moment) d r = absurd r
  plain_request (Note acked f moment) d r = absurd r
  plain_request _ d r = tt

  open_request : (call : DeskCall) (was : Bool) → IsRequest call → open_by call was ≡ was
  open_request (Pull moment) was r = absurd r
  open_request (Note acked f moment) was r = absurd r
  open_request _ was r = refl

  pub plain_requests : (calls : List DeskCall) (d : Data) → AreRequests calls → ArePlain scripts p positive calls d
  plain_requests [] d r = tt
  plain_requests (call ∷ calls) d r = (plain_request call d r.0, plain_requests calls (desk_after call d) r.1)

  pub acked_requests : (calls : List DeskCall) (d : Data) → AreRequests calls → (desk_after_all calls d).acked ≡ d.acked
  acked_requests [] d r = refl
  acked_requests (call ∷ calls) d r = acked_requests calls (desk_after call d) r.1 ∙ acked_request call d r.0

  pub open_requests : (calls : List DeskCall) (was : Bool) → AreRequests calls → open_by_all scripts p positive calls was ≡ was
  open_requests [] was r = refl
  open_requests (call ∷ calls) was r = ap (λ (b : Bool). open_by_all scripts p positive calls b) (open_request call was r.0) ∙ open_requests calls was r.1

  -- a note that opens no session
  pub plain_pulls : (f : LinkFact) (acked moment : ℕ) (issued : List Issued) (d : Data) → d.acked ≡ acked →
      ArePlain scripts p positive (map (λ (one : Issued). Pull moment) issued ++ last_call f acked moment) d
  plain_pulls fact.Failed acked moment [] d is = (((λ (e : fact.Failed ≡ fact.Opened). absurd (cc e)), omega (arith, is)), tt)
  plain_pulls fact.Quiet acked moment [] d is = tt
  plain_pulls fact.Opened acked moment [] d is = tt
  plain_pulls fact.Ready acked moment [] d is = tt
  plain_pulls fact.Closed acked moment [] d is = tt
  plain_pulls fact.NoPort acked moment [] d is = tt
  plain_pulls (fact.Ended end) acked moment [] d is = tt
  plain_pulls f acked moment (one ∷ issued) d is = (tt, plain_pulls f acked moment issued (pull_step moment d).1 (acked_pull p positive moment d ∙ is))

  pub acked_pulls : (f : LinkFact) (acked moment : ℕ) (issued : List Issued) (d : Data) → d.acked ≡ acked →
      (desk_after_all (map (λ (one : Issued). Pull moment) issued ++ last_call f acked moment) d).acked ≡ acked
  acked_pulls fact.Failed acked moment [] d is = acked_note p positive acked fact.Failed moment d (λ (e : fact.Failed ≡ fact.Opened). absurd (cc e))
  acked_pulls fact.Quiet acked moment [] d is = is
  acked_pulls fact.Opened acked moment [] d is = is
  acked_pulls fact.Ready acked moment [] d is = is
  acked_pulls fact.Closed acked moment [] d is = is
  acked_pulls fact.NoPort acked moment [] d is = is
  acked_pulls (fact.Ended end) acked moment [] d is = is
  acked_pulls f acked moment (one ∷ issued) d is = acked_pulls f acked moment issued (pull_step moment d).1 (acked_pull p positive moment d ∙ is)

  pub open_pulls : (f : LinkFact) (acked moment : ℕ) (issued : List Issued) (was : Bool) →
      open_by_all scripts p positive (map (λ (one : Issued). Pull moment) issued ++ last_call f acked moment) (up_after (first_fact f) was) ≡ up_after f was
  open_pulls fact.Quiet acked moment [] was = refl
  open_pulls fact.Opened acked moment [] was = refl
  open_pulls fact.Ready acked moment [] was = refl
  open_pulls fact.Closed acked moment [] was = refl
  open_pulls fact.NoPort acked moment [] was = refl
  open_pulls fact.Failed acked moment [] was = refl
  open_pulls (fact.Ended end) acked moment [] was = refl
  open_pulls f acked moment (one ∷ issued) was = open_pulls f acked moment issued was

pub first_other : (f : LinkFact) → (f ≡ fact.Opened → ⊥) → first_fact f ≡ fact.Opened → ⊥
first_other fact.Opened other is = other refl
first_other _ other is = absurd (cc is)

pub acked_rises : (f : LinkFact) (acked : ℕ) (d : Data) → (f ≡ fact.Opened → ⊥) → IsAckedWell f acked d → d.acked ≤ acked
acked_rises fact.Opened acked d other well = absurd (other refl)
acked_rises _ acked d other well = well.0

pub may_pulls : (f : LinkFact) (acked moment : ℕ) (issued : List Issued) (d : Data)
    → MayAll (map (λ (one : Issued). Pull moment) issued ++ last_call f acked moment) d
may_pulls fact.Failed acked moment [] d = (tt, tt)
may_pulls fact.Quiet acked moment [] d = tt
may_pulls fact.Opened acked moment [] d = tt
may_pulls fact.Ready acked moment [] d = tt
may_pulls fact.Closed acked moment [] d = tt
may_pulls fact.NoPort acked moment [] d = tt
may_pulls (fact.Ended end) acked moment [] d = tt
may_pulls f acked moment (one ∷ issued) d = (tt, may_pulls f acked moment issued (pull_step moment d).1)

numbered_by : (call : DeskCall) (k : Known) → Steady k.desk (desk_after call k.desk) → IsNumbered k → IsNumbered (known_after_call call k)
numbered_by call k s n =
    subst (λ (count : ℕ). (desk_after call k.desk).greatest ≤ count) (sym (as_many (ended_by call k.desk) k.prints))
    (subst (λ (g : ℕ). g ≤ length k.prints) (sym s.greatest) n)

numbered_pulls : (f : LinkFact) (acked moment : ℕ) (issued : List Issued) (k : Known) → IsNumbered k →
    IsNumbered (known_after_calls (map (λ (one : Issued). Pull moment) issued ++ last_call f acked moment) k)
numbered_pulls fact.Failed acked moment [] k n = numbered_by (Note acked fact.Failed moment) k (steady-note acked fact.Failed moment k.desk) n
numbered_pulls _ acked moment [] k n = n
numbered_pulls f acked moment (one ∷ issued) k n =
    numbered_pulls f acked moment issued (known_after_call (Pull moment) k) (numbered_by (Pull moment) k (steady-pull moment k.desk) n)

pub numbered_note : (note : declared_note.Note) (k : Known) → IsNumbered k → IsNumbered (known_after_note note k)
numbered_note note k n =
    numbered_pulls note.fact note.acked note.moment note.issued.items (known_after_call (Note note.acked (first_fact note.fact) note.moment) k)
    (numbered_by (Note note.acked (first_fact note.fact) note.moment) k (steady-note note.acked (first_fact note.fact) note.moment k.desk) n)

-- while the desk connects it has no line
connecting_settle : (s : State) (d : Data) → s ≡ Connecting → (settle_at s d).state ≡ d.state
connecting_settle Printing d is = absurd (cc is)
connecting_settle _ d is = refl

connecting_draws : (s : State) (moment : ℕ) (d : Data) → s ≡ Connecting → ((draw_at s moment d).0 ≡ None) × ((draw_at s moment d).1 ≡ d)
connecting_draws Connecting moment d is = (refl, refl)
connecting_draws Offline moment d is = (refl, refl)
connecting_draws Fault moment d is = (refl, refl)
connecting_draws _ moment d is = absurd (cc is)

none_pulled : (moment : ℕ) (issued : List Issued) (d : Data) → d.state ≡ Connecting → lines_pulled (map (λ (one : Issued). Pull moment) issued) d ≡ []
none_pulled moment [] d is = refl
none_pulled moment (one ∷ issued) d is =
    let drawn = connecting_draws d.state moment d is in
    let same : (draw_at d.state moment d).1.state ≡ Connecting = ap (λ (e : Data). e.state) drawn.1 ∙ is in
    let there : (pull_step moment d).1.state ≡ Connecting = connecting_settle (draw_at d.state moment d).1.state (draw_at d.state moment d).1 same ∙ same in
    ap (λ (line : Option Line). with_line line (lines_pulled (map (λ (one : Issued). Pull moment) issued) (pull_step moment d).1)) drawn.0
    ∙ none_pulled moment issued (pull_step moment d).1 there

none_of : {X Y : Type 0} (f : X → Y) (xs : List X) → map f xs ≡ [] → xs ≡ []
none_of f [] none = refl
none_of f (x ∷ xs) none = absurd (cc none)

-- the note that opens a session issues nothing
pub opened_silent : (f : LinkFact) (acked moment : ℕ) (issued : List Issued) (d : Data) → f ≡ fact.Opened → d.state ≡ Connecting →
    lines_pulled (Note acked (first_fact f) moment ∷ (map (λ (one : Issued). Pull moment) issued ++ last_call f acked moment)) d ≡ map line_of issued
    → issued ≡ []
opened_silent fact.Opened acked moment issued d opens is lines =
    none_of line_of issued
    (sym lines ∙ ap (λ (calls : List DeskCall). lines_pulled calls (note_step acked fact.Opened moment d).1)
    (append-nil (map (λ (one : Issued). Pull moment) issued))
    ∙ none_pulled moment issued (note_step acked fact.Opened moment d).1 (note_opened acked moment d is))
opened_silent fact.Quiet acked moment issued d opens is lines = absurd (cc opens)
opened_silent fact.Ready acked moment issued d opens is lines = absurd (cc opens)
opened_silent fact.Closed acked moment issued d opens is lines = absurd (cc opens)
opened_silent fact.NoPort acked moment issued d opens is lines = absurd (cc opens)
opened_silent fact.Failed acked moment issued d opens is lines = absurd (cc opens)
opened_silent (fact.Ended end) acked moment issued d opens is lines = absurd (cc opens)

pub opened_calls : (f : LinkFact) (acked moment : ℕ) (issued : List Issued) → f ≡ fact.Opened → issued ≡ [] →
    Note acked fact.Opened moment ∷ [] ≡ Note acked (first_fact f) moment ∷ (map (λ (one : Issued). Pull moment) issued ++ last_call f acked moment)
opened_calls fact.Opened acked moment [] opens none = refl
opened_calls fact.Opened acked moment (one ∷ issued) opens none = absurd (cc none)
opened_calls _ acked moment issued opens none = absurd (cc opens)

pub opening_or : (f : LinkFact) → (f ≡ fact.Opened) ⊎ ((f ≡ fact.Opened → ⊥) × (is_opening f ≡ false))
opening_or fact.Opened = inl refl
opening_or fact.Quiet = inr ((λ (e : fact.Quiet ≡ fact.Opened). absurd (cc e)), refl)
opening_or fact.Ready = inr ((λ (e : fact.Ready ≡ fact.Opened). absurd (cc e)), refl)
opening_or fact.Closed = inr ((λ (e : fact.Closed ≡ fact.Opened). absurd (cc e)), refl)
opening_or fact.NoPort = inr ((λ (e : fact.NoPort ≡ fact.Opened). absurd (cc e)), refl)
opening_or fact.Failed = inr ((λ (e : fact.Failed ≡ fact.Opened). absurd (cc e)), refl)
opening_or (fact.Ended end) = inr ((λ (e : fact.Ended end ≡ fact.Opened). absurd (cc e)), refl)
