-- What the rounds of a run add up to.
use Rattle.std.proofs.Common.{◌≡◌, ℕ, ◌≤◌, Bool, List, [], ◌∷◌, Option, sym, ap, subst, ◌∙◌}
use Rattle.octo_outside.specs.Recorded.{Became, Adds}
use Rattle.octo_outside.proofs.Recorded.{became_then}
use Rattle.octo_keeper.specs.declared.shelf.ShelfFile.{ShelfFile}
use Rattle.octo_asks.specs.History.{History}
use Rattle.octo_asks.specs.declared.entry.Entry.TheVariants as entry
use Rattle.octo_session.specs.Data.{SessionData}
use Rattle.octo_house_rules.specs.Known.{Known}
use Rattle.octo_house_rules.specs.Legal.{Standing}
use Rattle.octo_house_rules.specs.Walks.{Walks}
use Rattle.printer_link.specs.Link.{LinkKind, IsHangUp, world_in}
use Rattle.printer_model.specs.declared.event.WorldEvent.{WorldEvent}
use Rattle.octo_house.specs.declared.house.House.{House}
use Rattle.octo_house.specs.State.{session_of}
use Rattle.octo_house_rules.specs.Faults.{AreCounted}
use Rattle.octo_house_rules.specs.LinkUse.{UsesLink}
use Rattle.octo_house_run_proof.specs.Rounds.{AsksAt, TurnsAt}
use Rattle.octo_house_rules.specs.Shows.{Shows}
use Rattle.octo_house_rules.specs.Temps.{NotesTemps}
use Rattle.octo_house_run_proof.proofs.Counting.{counted_then, asks_counted, turns_counted, end_counted}
use Rattle.octo_house_run_proof.proofs.Hearing.{temps_then, temps_end, temps_of_asks}
use Rattle.octo_house_run_proof.proofs.Showing.{uses_shows, round_shows, end_shows}
use Rattle.octo_house_run.specs.Runs.{stands_with, begins, Leads}

-- one round more of counted faults
pub counted_round : (first before mid after : Option History) (moment k l m n s t u x y z : ℕ) (listed : List ℕ → Bool) (session : SessionData) (calls calls' : Option ℕ)
    → Became first before (λ _ added. AreCounted k l s t x y added)
    → Became before mid (λ _ added. AsksAt moment l m t u added)
    → Became mid after (λ _ added. TurnsAt moment listed session calls calls' y z added)
    → m ≤ n → Became first after (λ _ added. AreCounted k n s u x z added)
counted_round first before mid after moment k l m n s t u x y z listed session calls calls' sooner asks turns later =
    became_then first mid after (λ _ added. AreCounted k m s u x y added) (λ _ added. TurnsAt moment listed session calls calls' y z added)
    (λ _ added. AreCounted k n s u x z added)
    (became_then first before mid (λ _ added. AreCounted k l s t x y added) (λ _ added. AsksAt moment l m t u added) (λ _ added. AreCounted k m s u x y added) sooner asks
    (λ old added more are a. counted_then k l m s t u x y y added more are (asks_counted moment l m t u y more a)))
    turns
    (λ old added more are it. counted_then k m n s u u x y z added more are (turns_counted moment listed session calls calls' m n u y z more later it))

pub counted_end : (first after last : Option History) (k n s u x z z' : ℕ) → Became first after (λ _ added. AreCounted k n s u x z added) → z' ≡ z
    → Adds after last (entry.Close ∷ []) → Became first last (λ _ added. AreCounted k n s u x z' added)
counted_end first after last k n s u x z z' sooner same adds =
    became_then first after last (λ _ added. AreCounted k n s u x z added) (λ _ added. added ≡ entry.Close ∷ []) (λ _ added. AreCounted k n s u x z' added) sooner adds
    (λ old added more are is. counted_then k n n s u u x z z' added more are
    (subst (λ (h : History). AreCounted n n u u z z' h) (sym is) (end_counted n u z z' same)))

-- one round more of a link that is used
pub uses_round : (kind kind' : LinkKind) → kind' ≡ kind → (start_house house house' : House) (m moment : ℕ) → m ≤ moment
    → (calls0 calls calls' : Option ℕ) (keeper keeper' shelf shelf' link link' : ℕ) (first before mid after : Option History) (start files held : Option (List ShelfFile))
    → Walks first before start files (begins start_house) (stands_with house m)
    → Shows first before start (begins start_house) (UsesLink kind.listed calls0 calls)
    → Leads before mid files held moment house house'
    → Became before mid (λ _ added. AsksAt moment keeper keeper' shelf shelf' added)
    → Became mid after (λ _ added. TurnsAt moment kind'.listed (session_of house') calls calls' link link' added)
    → Shows first after start (begins start_house) (UsesLink kind.listed calls0 calls')
uses_round kind kind' same start_house house house' m moment below calls0 calls calls' keeper keeper' shelf shelf' link link' first before mid after start files held
    walks uses leads asks turns =
    let Turns_of : LinkKind → Type 0 = λ k. Became mid after (λ _ added. TurnsAt moment k.listed (session_of house') calls calls' link link' added) in
    uses_shows kind.listed calls0 calls calls' first before after start files (begins start_house) (stands_with house m) walks uses
    (round_shows kind.listed (session_of house') calls calls' moment keeper keeper' shelf shelf' link link' before mid after files held (stands_with house m)
    (stands_with house' moment) (leads m below)
    (λ held s at. (ap (λ (k : Known). k.desk) at.known_is ∙ at.desk, at.up)) asks (subst Turns_of same turns))

pub uses_end : (listed : List ℕ → Bool) (calls0 calls calls' : Option ℕ) → calls' ≡ calls → (first after last : Option History) (start held : Option (List ShelfFile))
    (Before Mid : List ShelfFile → Standing → Type 0) → Walks first after start held Before Mid → Shows first after start Before (UsesLink listed calls0 calls)
    → Adds after last (entry.Close ∷ []) → Shows first last start Before (UsesLink listed calls0 calls')
uses_end listed calls0 calls calls' same first after last start held Before Mid walks uses adds =
    subst (λ (now : Option ℕ). Shows first last start Before (UsesLink listed calls0 now)) (sym same)
    (uses_shows listed calls0 calls calls first after last start held Before Mid walks uses (end_shows listed calls after last held Mid adds))

-- one round more of temperatures
pub temps_round : (kind kind' : LinkKind) → kind' ≡ kind → (first before mid after : Option History) (moment keeper keeper' shelf shelf' : ℕ)
    (link0 link link' : Option (List WorldEvent)) → Became first before (λ _ added. NotesTemps kind link0 link added)
    → Became before mid (λ _ added. AsksAt moment keeper keeper' shelf shelf' added)
    → Became mid after (λ _ added. NotesTemps kind' link link' added) → Became first after (λ _ added. NotesTemps kind link0 link' added)
temps_round kind kind' same first before mid after moment keeper keeper' shelf shelf' link0 link link' sooner asks turns =
    let Turns_of : LinkKind → Type 0 = λ k. Became mid after (λ _ added. NotesTemps k link link' added) in
    became_then first mid after (λ _ added. NotesTemps kind link0 link added) (λ _ added. NotesTemps kind link link' added)
    (λ _ added. NotesTemps kind link0 link' added)
    (became_then first before mid (λ _ added. NotesTemps kind link0 link added) (λ _ added. AsksAt moment keeper keeper' shelf shelf' added)
    (λ _ added. NotesTemps kind link0 link added) sooner asks
    (λ old added more are a. temps_then kind link0 link link added more are (temps_of_asks kind link moment keeper keeper' shelf shelf' more a)))
    (subst Turns_of same turns)
    (λ old added more are it. temps_then kind link0 link link' added more are it)

pub temps_end_of : (kind kind' : LinkKind) → kind' ≡ kind → (up : Bool) (first after last : Option History) (link0 link link' : Option (List WorldEvent))
    → Became first after (λ _ added. NotesTemps kind link0 link added) → Became link link' (λ past added. IsHangUp up (world_in kind' past) added)
    → Adds after last (entry.Close ∷ []) → Became first last (λ _ added. NotesTemps kind link0 link' added)
temps_end_of kind kind' same up first after last link0 link link' sooner hangs adds =
    let Hangs : LinkKind → Type 0 = λ k. Became link link' (λ past added. IsHangUp up (world_in k past) added) in
    became_then first after last (λ _ added. NotesTemps kind link0 link added) (λ _ added. added ≡ entry.Close ∷ []) (λ _ added. NotesTemps kind link0 link' added) sooner adds
    (λ old added more are is. temps_then kind link0 link link' added more are
    (subst (λ (h : History). NotesTemps kind link link' h) (sym is) (temps_end kind up link link' (subst Hangs same hangs))))
