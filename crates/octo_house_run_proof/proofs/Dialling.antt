-- How a round of a run uses its link, and how rounds do one after the other.
use Rattle.std.proofs.Common.{◌≡◌, ◌⊎◌, inl, inr, ℕ, ◌+◌, ◌-◌, ◌≤◌, Bool, true, false, not, ◌&&◌, if◌then◌else◌, List, [], ◌∷◌, ◌++◌, Option, None, Some, refl, sym, ap, subst, ◌∙◌, arith}
use Rattle.std.specs.Prelude.{cond, count_by}
use Rattle.job_desk.specs.Data.{Data}
use Rattle.job_desk.specs.Table.{is_closable_at}
use Rattle.job_desk.specs.declared.issued.Note as declared_note
use Rattle.job_desk.specs.declared.link_fact.LinkFact.{LinkFact}
use Rattle.job_desk.specs.declared.link_fact.LinkFact.TheVariants as fact
use Rattle.job_desk.specs.declared.state.State.{State}
use Rattle.job_desk.specs.declared.state.State.TheVariants.{Connecting}
use Rattle.octo_asks.specs.History.{History}
use Rattle.octo_asks.specs.declared.answer.Answer.{Answer}
use Rattle.octo_asks.specs.declared.entry.Entry.{Entry}
use Rattle.octo_asks.specs.declared.entry.Entry.TheVariants as entry
use Rattle.octo_asks.specs.declared.request.Ask.{Ask}
use Rattle.octo_session.specs.Data.{SessionData, doing, is_connecting, port_of}
use Rattle.octo_session.specs.Found.{can_find}
use Rattle.octo_session.specs.Turn.{fact_of}
use Rattle.octo_session.specs.declared.found.Doing.{Doing}
use Rattle.octo_session.specs.declared.found.Doing.TheVariants.{Dialling, HangingUp, UsingLink, Resting}
use Rattle.printer_link.specs.Link.{RoseBy}
use Rattle.octo_house_rules.specs.Legal.{Standing, after_entry, after_all, after_call}
use Rattle.octo_house_rules.specs.LinkUse.{is_of_dial, is_closing, is_close_note, IsUnlisted, AreUnlisted, BeginsWithDial, IsDialled, AreDialled, open_by, open_calls, UsesLink}
use Rattle.octo_house_run_proof.specs.Rounds.{AsksAt, NotesAt, TurnsAt, history_of_note, one_if}
use Rattle.octo_house_run_proof.proofs.Counting.{count_append}
use Rattle.printer_link.proofs.Calls.{rose_then, rose_none}

-- a count of calls that rose by a number, by fewer, and by more after that
pub rose_less : (n m : ℕ) (before now : Option ℕ) → m ≤ n → RoseBy n before now → RoseBy m before now
rose_less n m None None less rose = tt
rose_less n m None (Some now) less rose = rose
rose_less n m (Some before) None less rose = rose
rose_less n m (Some before) (Some now) less rose = λ shown. omega (arith, less, rose shown)

-- one history and then another
unlisted_append : (listed : List ℕ → Bool) (es fs : History) (s : Standing) → AreUnlisted listed es s → AreUnlisted listed fs (after_all es s) → AreUnlisted listed (es ++ fs) s
unlisted_append listed [] fs s first second = second
unlisted_append listed (e ∷ es) fs s first second = (first.0, unlisted_append listed es fs (after_entry e s) first.1 second)

begins_append : (es fs : History) → BeginsWithDial es → BeginsWithDial (es ++ fs)
begins_append [] fs begins = absurd begins
begins_append (entry.Call worker ask moment x ∷ es) fs begins = begins
begins_append (entry.Note note ∷ es) fs begins = begins
begins_append (entry.Close ∷ es) fs begins = begins

dialled_more : (e : Entry) (es fs : History) (after : Standing) → IsDialled e es after → IsDialled e (es ++ fs) after
dialled_more (entry.Call worker ask moment x) es fs after is = λ dials. begins_append es fs (is dials)
dialled_more (entry.Note note) es fs after is = tt
dialled_more entry.Close es fs after is = tt

dialled_append : (es fs : History) (s : Standing) → AreDialled es s → AreDialled fs (after_all es s) → AreDialled (es ++ fs) s
dialled_append [] fs s first second = second
dialled_append (e ∷ es) fs s first second =
    (dialled_more e es fs (after_entry e s) first.0, dialled_append es fs (after_entry e s) first.1 second)

open_append : (es fs : History) (s : Standing) → open_calls (es ++ fs) s ≡ open_calls es s + open_calls fs (after_all es s)
open_append [] fs s = omega arith
open_append (e ∷ es) fs s = omega (arith, open_append es fs (after_entry e s))

few : (a b c d e f : ℕ) → e ≡ a + b → f ≡ c + d → e - f ≤ (a - c) + (b - d)
few a b c d e f one two = omega (arith, one, two)

pub uses_then : (listed : List ℕ → Bool) (before mid now : Option ℕ) (es fs : History) (s : Standing) → UsesLink listed before mid es s
    → UsesLink listed mid now fs (after_all es s) → UsesLink listed before now (es ++ fs) s
uses_then listed before mid now es fs s first second = record {
  ports = unlisted_append listed es fs s first.ports second.ports;
  dials = dialled_append es fs s first.dials second.dials;
  calls_rose = rose_less _ _ before now
      (few (open_calls es s) (open_calls fs (after_all es s)) (count_by is_close_note es) (count_by is_close_note fs) (open_calls (es ++ fs) s)
      (count_by is_close_note (es ++ fs)) (open_append es fs s) (count_append is_close_note es fs))
      (rose_then _ _ before mid now first.calls_rose second.calls_rose);
}

-- nothing, and the end
pub uses_none : (listed : List ℕ → Bool) (calls : Option ℕ) (s : Standing) → UsesLink listed calls calls [] s
uses_none listed calls s = record { ports = tt; dials = tt; calls_rose = rose_none calls }

pub uses_end : (listed : List ℕ → Bool) (calls : Option ℕ) (s : Standing) → UsesLink listed calls calls (entry.Close ∷ []) s
uses_end listed calls s = record { ports = (tt, tt); dials = (tt, tt); calls_rose = rose_none calls }

-- a desk that connects over no open link dials at the next turn
pub dials_next : (x : SessionData) → x.desk.state ≡ Connecting → x.up ≡ false → doing x ≡ Dialling
dials_next x state down =
    let By : Bool → Bool → Doing = λ up connecting. if not up && connecting then Dialling else (if is_closable_at x.desk.state x.desk then HangingUp
    else (if up then UsingLink else Resting)) in
    ap (λ up. By up (is_connecting x.desk.state)) down ∙ ap (λ (state : State). By false (is_connecting state)) state

-- a turn that dials finds what a dial finds
pub finds_of_dial : (d : Doing) (found : LinkFact) → can_find d found ≡ true → d ≡ Dialling → is_of_dial found ≡ true
finds_of_dial Dialling fact.Quiet can is = cc
finds_of_dial Dialling fact.Opened can is = refl
finds_of_dial Dialling fact.Ready can is = cc
finds_of_dial Dialling fact.Closed can is = cc
finds_of_dial Dialling fact.NoPort can is = refl
finds_of_dial Dialling fact.Failed can is = refl
finds_of_dial Dialling (fact.Ended end) can is = cc
finds_of_dial HangingUp found can is = cc
finds_of_dial UsingLink found can is = cc
finds_of_dial Resting found can is = cc

module _ (listed : List ℕ → Bool) (x : SessionData) (calls calls' : Option ℕ) (moment link link' : ℕ) (s : Standing) (desk : s.known.desk ≡ x.desk) (up : s.up ≡ x.up) where
  -- a note alone
  note_port : (note : declared_note.Note) → (note.fact ≡ fact.NoPort → listed (port_of x.desk) ≡ false) → IsUnlisted listed (entry.Note note) s
  note_port note port is = subst (λ (d : Data). listed (port_of d) ≡ false) (sym desk) (port is)

  note_ports : (note : Option declared_note.Note) → NotesAt moment listed x calls calls' link link' note → AreUnlisted listed (history_of_note note) s
  note_ports None n = tt
  note_ports (Some note) n = (note_port note n.port, tt)

  note_dials : (note : Option declared_note.Note) → AreDialled (history_of_note note) s
  note_dials None = tt
  note_dials (Some note) = (tt, tt)

  note_opens : (note : Option declared_note.Note) → open_calls (history_of_note note) s ≡ 0
  note_opens None = refl
  note_opens (Some note) = refl

  note_closes : (note : Option declared_note.Note) → count_by is_close_note (history_of_note note) ≡ one_if (is_closing (fact_of note))
  note_closes None = refl
  note_closes (Some note) = by (is_closing note.fact)
    where
      by : (closes : Bool) → 0 + cond closes 1 0 ≡ one_if closes
      by true = refl
      by false = refl

  begins_so : (note : Option declared_note.Note) → is_of_dial (fact_of note) ≡ true → BeginsWithDial (history_of_note note)
  begins_so None is = cc
  begins_so (Some note) is = is

  -- a turn alone, after no call
  turn_uses : (h : History) → TurnsAt moment listed x calls calls' link link' h → UsesLink listed calls calls' h s
  turn_uses h t =
      let note = t.0 in
      subst (λ (es : History). UsesLink listed calls calls' es s) (sym t.1) (record {
        ports = note_ports note t.2;
        dials = note_dials note;
        calls_rose = rose_less _ _ calls calls'
            (omega (arith, note_opens note, note_closes note)) t.2.calls_rose;
      })

-- a call, and then a turn
module _ (listed : List ℕ → Bool) (x : SessionData) (calls calls' : Option ℕ) (moment link link' : ℕ) (s : Standing) (worker : ℕ) (ask : Ask) (at : ℕ) (answer : Answer)
    (desk : (after_call ask at answer s).known.desk ≡ x.desk) (up : (after_call ask at answer s).up ≡ x.up) where
  open_is : open_by (entry.Call worker ask at answer) (after_call ask at answer s) ≡ one_if x.up
  open_is = ap (λ b. if b then 1 else 0) up ∙ by x.up
    where
      by : (b : Bool) → (if b then 1 else 0) ≡ one_if b
      by true = refl
      by false = refl

  call_dials : (note : Option declared_note.Note) → NotesAt moment listed x calls calls' link link' note
      → IsDialled (entry.Call worker ask at answer) (history_of_note note) (after_call ask at answer s)
  call_dials note n dials =
      begins_so listed x calls calls' moment link link' (after_call ask at answer s) desk up note
      (n.dials (dials_next x (ap (λ (d : Data). d.state) (sym desk) ∙ dials.0) (sym up ∙ dials.1)))

  call_uses : (h : History) → TurnsAt moment listed x calls calls' link link' h → UsesLink listed calls calls' (entry.Call worker ask at answer ∷ h) s
  call_uses h t =
      let note = t.0 in
      let later = after_call ask at answer s in
      subst (λ (es : History). UsesLink listed calls calls' (entry.Call worker ask at answer ∷ es) s) (sym t.1) (record {
        ports = (tt, note_ports listed x calls calls' moment link link' later desk up note t.2);
        dials = (call_dials note t.2, note_dials listed x calls calls' moment link link' later desk up note);
        calls_rose = rose_less _ _ calls calls'
            (omega (
              arith,
              open_is,
              note_opens listed x calls calls' moment link link' later desk up note,
              note_closes listed x calls calls' moment link link' later desk up note,
              count_append is_close_note (entry.Call worker ask at answer ∷ []) (history_of_note note),
            ))
            t.2.calls_rose;
      })

-- a round: perhaps a call, and then a turn of the session that the call left
pub round_uses : (listed : List ℕ → Bool) (x : SessionData) (calls calls' : Option ℕ) (moment keeper keeper' shelf shelf' link link' : ℕ) (es fs : History) (s : Standing)
    → AsksAt moment keeper keeper' shelf shelf' es → (after_all es s).known.desk ≡ x.desk → (after_all es s).up ≡ x.up
    → TurnsAt moment listed x calls calls' link link' fs → UsesLink listed calls calls' (es ++ fs) s
round_uses listed x calls calls' moment keeper keeper' shelf shelf' link link' es fs s a desk up t = by a.asks
  where
    Uses : History → Type 0
    Uses hs = (after_all hs s).known.desk ≡ x.desk → (after_all hs s).up ≡ x.up → UsesLink listed calls calls' (hs ++ fs) s

    by : (es ≡ []) ⊎ ((worker : ℕ) × (ask : Ask) × (answer : Answer) × (es ≡ entry.Call worker ask moment answer ∷ [])) → UsesLink listed calls calls' (es ++ fs) s
    by (inl none) = subst Uses (sym none) (λ d u. turn_uses listed x calls calls' moment link link' s d u fs t) desk up
    by (inr one) = subst Uses (sym one.3) (λ d u. call_uses listed x calls calls' moment link link' s one.0 one.1 moment one.2 d u fs t) desk up
