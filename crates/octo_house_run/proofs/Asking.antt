-- An answered ask leads a host on.
use Rattle.std.proofs.Common.{◌≡◌, ℕ, ◌≤◌, false, List, [], ◌∷◌, Option, Some, refl, ap, subst}
use Rattle.std.proofs.lemmas.Option.{same_Some}
use Rattle.octo_outside.specs.Recorded.{Adds}
use Rattle.octo_keeper.specs.declared.shelf.ShelfFile.{ShelfFile}
use Rattle.octo_asks.specs.History.{History}
use Rattle.octo_asks.specs.declared.answer.Answer.{Answer}
use Rattle.octo_asks.specs.declared.entry.Entry.TheVariants as entry
use Rattle.octo_asks.specs.declared.request.Ask.{Ask}
use Rattle.octo_session.specs.Data.{SessionData}
use Rattle.octo_house_rules.specs.Answers.{verdict}
use Rattle.octo_house_rules.specs.Known.{Known}
use Rattle.octo_house_rules.specs.Verdict.{IsDone, files_after}
use Rattle.octo_house_rules.specs.Stands.{StandsAt}
use Rattle.octo_house_rules.specs.Walks.{Walks}
use Rattle.octo_house_run_proof.proofs.Called.{call_leads, stands_later}
use Rattle.octo_house_run_proof.proofs.Walking.{walks_none, walks_one}

module _ (known known' : Known) (x y : SessionData) (past past' : Option History) (files files' : Option (List ShelfFile)) (worker : ℕ) (ask : Ask) (moment : ℕ)
    (answer : Answer) (adds : Adds past past' (entry.Call worker ask moment answer ∷ []))
    (done : (held : List ShelfFile) → files ≡ Some held → IsDone (verdict ask held known) answer known known')
    (stored : (held : List ShelfFile) → files ≡ Some held → files' ≡ Some (files_after (verdict ask held known) answer held))
    (sender : y.sender ≡ x.sender) (up : y.up ≡ x.up) (desk : known'.desk ≡ y.desk) where
  -- the call is legal, and leads the host on
  pub call_walks : (before : ℕ) → before ≤ moment
      → Walks past past' files files' (λ held s. StandsAt s known x held before false) (λ held s. StandsAt s known' y held moment false)
  call_walks before below =
      walks_one past past' files files' _ _ (entry.Call worker ask moment answer) adds
      (λ was was_is. (
        files_after (verdict ask was known) answer was,
        stored was was_is,
        λ s at. call_leads s known known' x y was (files_after (verdict ask was known) answer was) before moment worker ask answer at below (done was was_is) refl sender up desk,
      ))

-- nothing was asked: the host is as it was, at a later moment
pub later_walks : (known : Known) (x : SessionData) (past past' : Option History) (files files' : Option (List ShelfFile)) (moment : ℕ)
    → past' ≡ past → files' ≡ files → (before : ℕ) → before ≤ moment
    → Walks past past' files files' (λ held s. StandsAt s known x held before false) (λ held s. StandsAt s known x held moment false)
later_walks known x past past' files files' moment same_past same_files before below =
    walks_none past past' files files' _ _ same_past same_files (λ held s at. stands_later s known x held before moment at below)

-- the same over some files, whatever the shelf records
pub some_walks : (known known' : Known) (x y : SessionData) (past past' : Option History) (worker : ℕ) (ask : Ask) (moment : ℕ) (answer : Answer)
    → Adds past past' (entry.Call worker ask moment answer ∷ [])
    → (files : List ShelfFile) × IsDone (verdict ask files known) answer known known'
    → y.sender ≡ x.sender → y.up ≡ x.up → known'.desk ≡ y.desk
    → (was : List ShelfFile) × (held : List ShelfFile) × ((before : ℕ) → before ≤ moment
    → Walks past past' (Some was) (Some held) (λ files s. StandsAt s known x files before false) (λ files s. StandsAt s known' y files moment false))
some_walks known known' x y past past' worker ask moment answer adds told sender up desk =
    let was : List ShelfFile = told.0 in
    let left = λ (files : List ShelfFile). files_after (verdict ask files known) answer files in (
      was,
      left was,
      call_walks known known' x y past past' (Some was) (Some (left was)) worker ask moment answer adds
          (λ files at. subst (λ (fs : List ShelfFile). IsDone (verdict ask fs known) answer known known') (same_Some was files at) told.1)
          (λ files at. ap (λ (fs : List ShelfFile). Some (left fs)) (same_Some was files at)) sender up desk,
    )
