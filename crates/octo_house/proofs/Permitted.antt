-- How an ask comes to the verdict of its request.
use Rattle.std.proofs.Common.{◌≡◌, ℕ, ◌==◌, true, false, refl, arith, List, [], ◌∷◌, length, Option, None, Some, ap, ◌∙◌}
use Rattle.std.proofs.lemmas.Bool.Decides.{nat_tests}
use Rattle.octo_access.specs.Rights.{caller}
use Rattle.octo_access.specs.declared.permission.Permission.{Permission}
use Rattle.octo_access.specs.declared.row.UserRow.{UserRow}
use Rattle.octo_keeper.specs.declared.shelf.ShelfFile.{ShelfFile}
use Rattle.octo_asks.specs.declared.request.Request.{Request}
use Rattle.octo_house_rules.specs.Answers.{verdict_by, verdict_of_caller, unless_lacking, lacking, request_verdict, free_verdict}
use Rattle.octo_house_rules.specs.Known.{Known}

some-left : (p : Permission) (ps : List Permission) → (length (p ∷ ps) == 0) ≡ true → ⊥
some-left p ps none = grind (arith, nat_tests)

-- nothing is needed
pub needs-none : (key : List ℕ) (asked : Request) (files : List ShelfFile) (k : Known) (permissions : List Permission) → (length permissions == 0) ≡ true
    → verdict_by permissions key asked files k ≡ free_verdict key asked k
needs-none key asked files k [] none = refl
needs-none key asked files k (p ∷ ps) none = absurd (some-left p ps none)

module _ (key : List ℕ) (asked : Request) (files : List ShelfFile) (k : Known) where
  -- nothing is lacking
  pub lacks-none : (permissions : List Permission) (user : UserRow) → (length permissions == 0) ≡ false → caller k.policy k.users key ≡ Some user
      → lacking k user permissions ≡ None → verdict_by permissions key asked files k ≡ request_verdict asked user files k
  lacks-none [] user some known lacks = absurd (cc some)
  lacks-none (p ∷ ps) user some known lacks =
      ap (λ (u : Option UserRow). verdict_of_caller u (p ∷ ps) k (λ v. request_verdict asked v files k)) known
      ∙ ap (λ (l : Option Permission). unless_lacking l (request_verdict asked user files k)) lacks
