-- What a turn's note makes of what a host knows.
use Rattle.std.proofs.Common.{◌≡◌, ℕ, Bool, true, false, List, [], ◌∷◌, ◌++◌, map, IfSome, Option, None, Some, refl, sym, ap, ◌∙◌, subst}
use Rattle.std.specs.Option.{option_or}
use Rattle.job_desk.specs.Data.{Data, Line}
use Rattle.job_desk.specs.Endings.{IsActive, IsEnding}
use Rattle.job_desk.specs.Issued.{line_of}
use Rattle.job_desk.specs.Note.{Noted, note_step, first_fact}
use Rattle.job_desk.specs.Pull.{pull_step}
use Rattle.job_desk.specs.Run.{DeskCall, Pull}
use Rattle.job_desk.specs.Run as run
use Rattle.job_desk.specs.declared.issued.Issued.{Issued}
use Rattle.job_desk.specs.declared.issued.Note.{Note}
use Rattle.job_desk.specs.declared.link_fact.LinkFact.{LinkFact}
use Rattle.job_desk.specs.declared.link_fact.LinkFact.TheVariants as fact
use Rattle.job_desk.proofs.Endings.{ending_is, ending_rests}
use Rattle.job_desk.proofs.Going.{Goes, goes_then, goes_pull, goes_note}
use Rattle.print_queue.specs.declared.ending.Ending.{Ending}
use Rattle.print_queue.specs.declared.row.PrintRow.{PrintRow}
use Rattle.octo_keeper.specs.Tables.{with_due_end}
use Rattle.octo_session.specs.declared.found.Doing.{Doing}
use Rattle.octo_session.specs.declared.found.Doing.TheVariants.{Dialling, HangingUp, UsingLink, Resting}
use Rattle.octo_session.specs.DeskTurn.{Pulls, IsNoted, IsQuietTurn}
use Rattle.octo_house_rules.specs.Known.{Known}
use Rattle.octo_house_rules.specs.Noted.{last_call, known_after_calls, known_after_note, kept_unless, forgets, with_temps}
use Rattle.octo_session.proofs.Endings.{pulls_go}
use Rattle.byte_text.proofs.BoolLaws.{off_on}

-- a desk with the prints and the desk of a turn
abbrev pub turned_to : Data → Option Ending → Known → Known
turned_to desk ending k = record k { desk = desk; prints = with_due_end ending k.prints }

-- the pulls of issued lines
pulls-called : (moment : ℕ) (issued : List Issued) (k : Known) (pulled : Data) (more : List DeskCall) → Pulls moment (map line_of issued) k.desk pulled
    → known_after_calls (map (λ one. Pull moment) issued ++ more) k ≡ known_after_calls more (record k { desk = pulled })
pulls-called moment [] k pulled more same = ap (λ d. known_after_calls more (record k { desk = d })) (sym same)
pulls-called moment (one ∷ issued) k pulled more pulls = pulls-called moment issued (record k { desk = (pull_step moment k.desk).1 }) pulled more pulls.1

-- of two endings the second is none, since no print is active after the first
none-of : (acked : ℕ) (pulled : Data) (last : Option Ending) → pulled.active ≡ false → IfSome last (λ e. IsEnding acked fact.Failed pulled e) → last ≡ None
none-of acked pulled None off ends = refl
none-of acked pulled (Some ending) off ends = absurd (off_on pulled.active off ends.active)

still-off : (old new : Data) → Goes old new → old.active ≡ false → (b : Bool) → new.active ≡ b → new.active ≡ false
still-off old new goes off false is = is
still-off old new goes off true is = absurd (off_on old.active off (goes.before is))

-- the records after two endings
both-ends : (first last : Option Ending) (rows : List PrintRow) → ((e : Ending) → first ≡ Some e → last ≡ None)
    → with_due_end last (with_due_end first rows) ≡ with_due_end (option_or first last) rows
both-ends None last rows alone = refl
both-ends (Some ending) last rows alone = rw (alone ending refl) refl

rests-if : (first : Option Ending) (mid : Data) → IfSome first (λ ending. mid.active ≡ false) → (e : Ending) → first ≡ Some e → mid.active ≡ false
rests-if None mid rests e is = absurd (cc is)
rests-if (Some ending) mid rests e is = rests

module _ (moment acked : ℕ) (issued : List Issued) (k : Known) (ending : Option Ending) (new : Data) where
  -- after the first note and the pulls
  noted-plain : (found : LinkFact) (pulled : Data) → Pulls moment (map line_of issued) (note_step acked found moment k.desk).1 pulled
      → ◌≡◌ {A = Noted} (ending, new) ((note_step acked found moment k.desk).0, pulled)
      → known_after_calls (run.Note acked found moment ∷ (map (λ one. Pull moment) issued ++ [])) k ≡ turned_to new ending k
  noted-plain found pulled pulls both =
      let first : Noted = note_step acked found moment k.desk in
      pulls-called moment issued (record k { desk = first.1; prints = with_due_end first.0 k.prints }) pulled [] pulls
      ∙ ap (λ (n : Noted). turned_to n.1 n.0 k) (sym both)

  -- a failure is noted last
  noted-failed : IsActive k.desk → (pulled : Data) → Pulls moment (map line_of issued) (note_step acked fact.Quiet moment k.desk).1 pulled
      → ◌≡◌ {A = Noted} (ending, new)
      (option_or (note_step acked fact.Quiet moment k.desk).0 (note_step acked fact.Failed moment pulled).0, (note_step acked fact.Failed moment pulled).1)
      → known_after_calls (run.Note acked fact.Quiet moment ∷ (map (λ one. Pull moment) issued ++ run.Note acked fact.Failed moment ∷ [])) k ≡ turned_to new ending k
  noted-failed going pulled pulls both =
      let first : Noted = note_step acked fact.Quiet moment k.desk in
      let last : Noted = note_step acked fact.Failed moment pulled in
      let went : Goes first.1 pulled = pulls_go moment (map line_of issued) first.1 pulled pulls in
      let on : IsActive pulled = went.going ((goes_note acked fact.Quiet moment k.desk).going going) in
      let alone : (e : Ending) → first.0 ≡ Some e → last.0 ≡ None = λ e is.
      none-of acked pulled last.0
      (still-off first.1 pulled went (rests-if first.0 first.1 (ending_rests acked fact.Quiet moment k.desk going) e is) pulled.active refl)
      (ending_is acked fact.Failed moment pulled on) in
      pulls-called moment issued (record k { desk = first.1; prints = with_due_end first.0 k.prints }) pulled (run.Note acked fact.Failed moment ∷ []) pulls
      ∙ ap (λ rows. record k { desk = last.1; prints = rows }) (both-ends first.0 last.0 k.prints alone)
      ∙ ap (λ (n : Noted). turned_to n.1 n.0 k) (sym both)

  -- what is known after a note but for the temperatures
  noted-known : IsActive k.desk → (found : LinkFact) → IsNoted moment acked found (map line_of issued) k.desk ending new
      → known_after_calls (run.Note acked (first_fact found) moment ∷ (map (λ one. Pull moment) issued ++ last_call found acked moment)) k ≡ turned_to new ending k
  noted-known going fact.Quiet n = noted-plain fact.Quiet n.pulled n.pulls n.is
  noted-known going fact.Opened n = noted-plain fact.Opened n.pulled n.pulls n.is
  noted-known going fact.Ready n = noted-plain fact.Ready n.pulled n.pulls n.is
  noted-known going fact.Closed n = noted-plain fact.Closed n.pulled n.pulls n.is
  noted-known going fact.NoPort n = noted-plain fact.NoPort n.pulled n.pulls n.is
  noted-known going (fact.Ended end) n = noted-plain (fact.Ended end) n.pulled n.pulls n.is
  noted-known going fact.Failed n = noted-failed going n.pulled n.pulls n.is

-- what is known after a turn with a note
pub turned-noted : (note : Note) (k : Known) (ending : Option Ending) (new : Data) → IsActive k.desk
    → IsNoted note.moment note.acked note.fact (map line_of note.issued.items) k.desk ending new
    → known_after_note note k ≡ record (turned_to new ending k) { temps = kept_unless (forgets note.fact) (with_temps note.temps k.temps) }
turned-noted note k ending new going n =
    ap (λ (all : Known). record all { temps = kept_unless (forgets note.fact) (with_temps note.temps k.temps) })
    (noted-known note.moment note.acked note.issued.items k ending new going note.fact n)

-- a turn makes no print active
module _ (moment acked : ℕ) (lines : List Line) (old : Data) (ending : Option Ending) (new : Data) where
  goes-plain : (found : LinkFact) (pulled : Data) → Pulls moment lines (note_step acked found moment old).1 pulled
      → ◌≡◌ {A = Noted} (ending, new) ((note_step acked found moment old).0, pulled) → Goes old new
  goes-plain found pulled pulls both =
      let P : Noted → Type 0 = λ n. Goes old n.1 in
      subst P (sym both) (goes_then old (note_step acked found moment old).1 pulled (goes_note acked found moment old)
      (pulls_go moment lines (note_step acked found moment old).1 pulled pulls))

  pub goes-noted : (found : LinkFact) → IsNoted moment acked found lines old ending new → Goes old new
  goes-noted fact.Quiet n = goes-plain fact.Quiet n.pulled n.pulls n.is
  goes-noted fact.Opened n = goes-plain fact.Opened n.pulled n.pulls n.is
  goes-noted fact.Ready n = goes-plain fact.Ready n.pulled n.pulls n.is
  goes-noted fact.Closed n = goes-plain fact.Closed n.pulled n.pulls n.is
  goes-noted fact.NoPort n = goes-plain fact.NoPort n.pulled n.pulls n.is
  goes-noted (fact.Ended end) n = goes-plain (fact.Ended end) n.pulled n.pulls n.is
  goes-noted fact.Failed n =
      let P : Noted → Type 0 = λ m. Goes old m.1 in
      let first : Data = (note_step acked fact.Quiet moment old).1 in
      let last : Data = (note_step acked fact.Failed moment n.pulled).1 in
      subst P (sym n.is) (goes_then old first last (goes_note acked fact.Quiet moment old)
      (goes_then first n.pulled last (pulls_go moment lines first n.pulled n.pulls) (goes_note acked fact.Failed moment n.pulled)))

pub goes-quiet : (doing : Doing) (moment : ℕ) (old : Data) (ending : Option Ending) (new : Data) → IsQuietTurn doing moment old ending new → Goes old new
goes-quiet Dialling moment old ending new quiet = absurd quiet
goes-quiet HangingUp moment old ending new quiet = absurd quiet
goes-quiet UsingLink moment old ending new quiet =
    let P : Data → Type 0 = λ d. Goes old d in
    subst P (sym quiet.1) (goes_note old.acked fact.Quiet moment old)
goes-quiet Resting moment old ending new quiet =
    let P : Data → Type 0 = λ d. Goes old d in
    subst P (sym quiet.1) (record { going = λ g. g; before = λ h. h })
