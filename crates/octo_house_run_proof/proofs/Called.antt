-- A call that is answered as its verdict says leads a host on.
use Rattle.std.proofs.Common.{◌≡◌, ◌⊎◌, ℕ, ◌≤◌, Bool, true, false, List, sym, ap, subst, refl, ◌∙◌, arith}
use Rattle.octo_keeper.specs.declared.shelf.ShelfFile.{ShelfFile}
use Rattle.octo_asks.specs.declared.answer.Answer.{Answer}
use Rattle.octo_asks.specs.declared.answer.Answer.TheVariants as answer
use Rattle.octo_asks.specs.declared.entry.Entry.TheVariants as entry
use Rattle.octo_asks.specs.declared.request.Ask.{Ask}
use Rattle.octo_session.specs.Data.{SessionData}
use Rattle.send_window.specs.Data.{SenderData, IsSound}
use Rattle.send_window.specs.Patience.{IsPatient}
use Rattle.octo_house_rules.specs.Known.{Known}
use Rattle.octo_house_rules.specs.Verdict.{May, IsDone, after, files_after}
use Rattle.octo_house_rules.specs.Answers.{verdict}
use Rattle.octo_house_rules.specs.Legal.{Standing, IsLegal, after_entry}
use Rattle.octo_house_rules.specs.Stands.{StandsAt}

-- a function of two equal pairs
ap2 : {A B C : Type 0} (f : A → B → C) {a a' : A} {b b' : B} → a ≡ a' → b ≡ b' → f a b ≡ f a' b'
ap2 f {a} {a'} {b} {b'} one two = ap (λ x. f x b) one ∙ ap (λ y. f a' y) two

-- the answer is legal for the host as it is
call_legal : (s : Standing) (known : Known) (session : SessionData) (files : List ShelfFile) (moment later : ℕ) (worker : ℕ) (ask : Ask) (x : Answer)
    → StandsAt s known session files moment false → moment ≤ later
    → (x ≡ answer.NoMemory) ⊎ May (verdict ask files known) x → IsLegal (entry.Call worker ask later x) s
call_legal s known session files moment later worker ask x at below may =
    let Allowed : List ShelfFile → Type 0 = λ fs. (x ≡ answer.NoMemory) ⊎ May (verdict ask fs known) x in
    let AllowedOf : Known → Type 0 = λ k. (x ≡ answer.NoMemory) ⊎ May (verdict ask s.files k) x in (
      at.closed_is,
      record {
        later = omega (arith, at.moment_is, below);
        may = subst AllowedOf (sym at.known_is) (subst Allowed (sym at.files_are) may);
      },
    )

-- a call leads the host on: its sender and whether its link is up stay
pub call_leads : (s : Standing) (known known' : Known) (session session' : SessionData) (files files' : List ShelfFile) (moment later : ℕ) (worker : ℕ)
    (ask : Ask) (x : Answer)
    → StandsAt s known session files moment false → moment ≤ later
    → IsDone (verdict ask files known) x known known' → files' ≡ files_after (verdict ask files known) x files
    → session'.sender ≡ session.sender → session'.up ≡ session.up → known'.desk ≡ session'.desk
    → IsLegal (entry.Call worker ask later x) s × StandsAt (after_entry (entry.Call worker ask later x) s) known' session' files' later false
call_leads s known known' session session' files files' moment later worker ask x at below done stored sender up desk =
    let Up : Bool → Type 0 = λ is. is ≡ true in
    let Sound : SenderData → Type 0 = λ sent. IsSound sent in
    let Sent : SenderData → Type 0 = λ sent. IsPatient s.raised_at s.limit sent in (
      call_legal s known session files moment later worker ask x at below done.may,
      record {
        window = at.window ∙ ap (λ (sent : SenderData). sent.window) (sym sender);
        limit = at.limit ∙ ap (λ (sent : SenderData). sent.limit) (sym sender);
        known_is = ap2 (λ (fs : List ShelfFile) (k : Known). after (verdict ask fs k) k x) at.files_are at.known_is ∙ sym done.leaves;
        desk = desk;
        sound = subst Sound (sym sender) at.sound;
        files_are = ap2 (λ (fs : List ShelfFile) (k : Known). files_after (verdict ask fs k) x fs) at.files_are at.known_is ∙ sym stored;
        up = at.up ∙ sym up;
        ready = λ is. at.ready (subst Up up is) ∙ ap (λ (sent : SenderData). sent.ready) (sym sender);
        patient = λ is. subst Sent (sym sender) (at.patient (subst Up up is));
        raised = omega (arith, at.raised, below);
        moment_is = omega arith;
        closed_is = at.closed_is;
      },
    )

-- time goes on, and the history is closed or not; the host stays as it is
stands_on : (closed : Bool) (s : Standing) (known : Known) (session : SessionData) (files : List ShelfFile) (moment later : ℕ)
    → StandsAt s known session files moment false → moment ≤ later → StandsAt (record s { closed = closed }) known session files later closed
stands_on closed s known session files moment later at below = record {
  window = at.window;
  limit = at.limit;
  known_is = at.known_is;
  desk = at.desk;
  sound = at.sound;
  files_are = at.files_are;
  up = at.up;
  ready = at.ready;
  patient = at.patient;
  raised = omega (arith, at.raised, below);
  moment_is = omega (arith, at.moment_is, below);
  closed_is = refl;
}

pub stands_later : (s : Standing) (known : Known) (session : SessionData) (files : List ShelfFile) (moment later : ℕ)
    → StandsAt s known session files moment false → moment ≤ later → StandsAt s known session files later false
stands_later s known session files moment later at below =
    subst (λ (closed : Bool). StandsAt (record s { closed = closed }) known session files later false) (sym at.closed_is)
    (stands_on false s known session files moment later at below)

pub stands_closed : (s : Standing) (known : Known) (session : SessionData) (files : List ShelfFile) (moment : ℕ)
    → StandsAt s known session files moment false → StandsAt (after_entry entry.Close s) known session files moment true
stands_closed s known session files moment at = stands_on true s known session files moment moment at (omega arith)
