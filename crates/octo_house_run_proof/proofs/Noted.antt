-- What a note of a turn says of the desk of a host that a history has led there.
use Rattle.std.proofs.Common.{◌≡◌, ◌⊎◌, inl, inr, ℕ, ◌≤◌, false, List, [], ◌∷◌, ◌++◌, map, Option, refl, sym, ap, subst, ◌∙◌, arith, append-nil}
use Rattle.octo_keeper.specs.declared.shelf.ShelfFile.{ShelfFile}
use Rattle.print_queue.specs.declared.ending.Ending.{Ending}
use Rattle.job_desk.specs.declared.link_fact.LinkFact.{LinkFact}
use Rattle.job_desk.specs.declared.link_fact.LinkFact.TheVariants as fact
use Rattle.job_desk.specs.declared.issued.Issued.{Issued}
use Rattle.job_desk.specs.declared.issued.Note as declared_note
use Rattle.job_desk.specs.Data.{Data, Line}
use Rattle.job_desk.specs.Issued.{line_of}
use Rattle.job_desk.specs.Note.{note_step, first_fact}
use Rattle.job_desk.specs.Pull.{pull_step}
use Rattle.job_desk.specs.Run.{Pull}
use Rattle.octo_session.specs.Data.{SessionData, IsSession}
use Rattle.octo_session.specs.DeskTurn.{Pulls}
use Rattle.octo_session.specs.Turn.{IsNoteOn}
use Rattle.octo_house_rules.specs.Known.{Known}
use Rattle.octo_house_rules.specs.Desk.{desk_after_all, lines_pulled, with_line}
use Rattle.octo_house_rules.specs.Legal.{Standing, IsAckedWell}
use Rattle.octo_house_rules.specs.Noted.{calls_of, lines_in, last_call}
use Rattle.octo_house_rules.proofs.Runs.{lines_append}
use Rattle.octo_house_rules.specs.Stands.{StandsAt}
use Rattle.octo_house_run_proof.proofs.Found.{desk_is}

-- the pulls of a note draw the lines that it issued
pulled : (moment : ℕ) (issued : List Issued) (d e : Data) → Pulls moment (map line_of issued) d e
    → lines_pulled (map (λ (one : Issued). Pull moment) issued) d ≡ map line_of issued
pulled moment [] d e pulls = refl
pulled moment (one ∷ issued) d e pulls =
    let rest = map (λ (i : Issued). Pull moment) issued in
    ap (λ line. with_line line (lines_pulled rest (pull_step moment d).1)) pulls.0
    ∙ ap (λ lines. line_of one ∷ lines) (pulled moment issued (pull_step moment d).1 e pulls.1)

-- a failure that is noted last draws none
last_silent : (found : LinkFact) (acked moment : ℕ) (d : Data) → lines_pulled (last_call found acked moment) d ≡ []
last_silent fact.Quiet acked moment d = refl
last_silent fact.Opened acked moment d = refl
last_silent fact.Ready acked moment d = refl
last_silent fact.Closed acked moment d = refl
last_silent fact.NoPort acked moment d = refl
last_silent fact.Failed acked moment d = refl
last_silent (fact.Ended end) acked moment d = refl

-- successive pulls return the lines of a note
pub lines_legal : (moment acked : ℕ) (old new : Data) (ending : Option Ending) (note : declared_note.Note) → IsNoteOn moment acked old new ending note
    → lines_pulled (calls_of note) old ≡ lines_in note
lines_legal moment acked old new ending note n =
    let Moved : ℕ → Type 0 = λ m. Pulls m (map line_of note.issued.items) (note_step acked (first_fact note.fact) m old).1 n.noted.pulled in
    let Acked : ℕ → Type 0 = λ a. Pulls note.moment (map line_of note.issued.items) (note_step a (first_fact note.fact) note.moment old).1 n.noted.pulled in
    let First : LinkFact → Type 0 = λ f. Pulls note.moment (map line_of note.issued.items) (note_step note.acked f note.moment old).1 n.noted.pulled in
    let pulls : First (first_fact note.fact) =
    subst Acked (sym n.its_acked) (subst Moved (sym n.its_moment) n.noted.pulls)
    in
    let noted = (note_step note.acked (first_fact note.fact) note.moment old).1 in
    let calls = map (λ (one : Issued). Pull note.moment) note.issued.items in
    lines_append calls (last_call note.fact note.acked note.moment) noted
    ∙ ap (λ (front : List Line). front ++ lines_pulled (last_call note.fact note.acked note.moment) (desk_after_all calls noted))
    (pulled note.moment note.issued.items noted n.noted.pulled pulls)
    ∙ ap (λ (rest : List Line). map line_of note.issued.items ++ rest) (last_silent note.fact note.acked note.moment (desk_after_all calls noted))
    ∙ append-nil (map line_of note.issued.items)

-- the number of acknowledged lines falls only as a session begins, and is at most the number of issued ones
pub acked_at_desk : (x : SessionData) (found : LinkFact) (acked : ℕ) → IsSession x → (found ≡ fact.Opened → acked ≡ 0)
    → (found ≡ fact.Opened) ⊎ (x.sender.acked ≤ acked) → acked ≤ x.sender.issued → IsAckedWell found acked x.desk
acked_at_desk x found acked joined none kept most = by found none kept
  where
    more : (f : LinkFact) → (f ≡ fact.Opened) ⊎ (x.sender.acked ≤ acked) → (f ≡ fact.Opened → ⊥) → (x.desk.acked ≤ acked) × (acked ≤ x.desk.issued)
    more f (inl opened) unopened = absurd (unopened opened)
    more f (inr later) unopened = (omega (arith, joined.acked, later), omega (arith, joined.issued, most))

    by : (f : LinkFact) → (f ≡ fact.Opened → acked ≡ 0) → (f ≡ fact.Opened) ⊎ (x.sender.acked ≤ acked) → IsAckedWell f acked x.desk
    by fact.Opened zero k = zero refl
    by fact.Quiet zero k = more fact.Quiet k (λ e. cc e)
    by fact.Ready zero k = more fact.Ready k (λ e. cc e)
    by fact.Closed zero k = more fact.Closed k (λ e. cc e)
    by fact.NoPort zero k = more fact.NoPort k (λ e. cc e)
    by fact.Failed zero k = more fact.Failed k (λ e. cc e)
    by (fact.Ended end) zero k = more (fact.Ended end) k (λ e. cc e)

-- the same of the desk that a history led to
pub acked_well : (s : Standing) (known : Known) (x : SessionData) (files : List ShelfFile) (moment : ℕ) (found : LinkFact) (acked : ℕ)
    → StandsAt s known x files moment false → IsSession x
    → (found ≡ fact.Opened → acked ≡ 0) → (found ≡ fact.Opened) ⊎ (x.sender.acked ≤ acked) → acked ≤ x.sender.issued
    → IsAckedWell found acked s.known.desk
acked_well s known x files moment found acked at joined none kept most =
    let Well : Data → Type 0 = λ d. IsAckedWell found acked d in
    subst Well (sym (desk_is s known x files moment at)) (acked_at_desk x found acked joined none kept most)
