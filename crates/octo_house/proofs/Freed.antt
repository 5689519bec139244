-- A request that needs no permission isn't denied, and leaves the files.
use Rattle.std.proofs.Common.{◌≡◌, ◌⊎◌, inl, inr, ℕ, ◌==◌, Bool, true, false, arith, List, length, Option, Some, refl, sym, ap, ◌∙◌, subst}
use Rattle.std.proofs.lemmas.Bool.{false≢true}
use Rattle.octo_outside.specs.Recorded.{Counts}
use Rattle.octo_access.specs.declared.permission.Permission.{Permission}
use Rattle.octo_keeper.specs.declared.shelf.ShelfFile.{ShelfFile}
use Rattle.octo_asks.specs.Rights.{needed}
use Rattle.octo_asks.specs.declared.answer.Answer.{Answer}
use Rattle.octo_asks.specs.declared.answer.Answer.TheVariants as answer
use Rattle.octo_asks.specs.declared.request.Ask.{Ask}
use Rattle.octo_house_rules.specs.Access.{is_denied}
use Rattle.octo_house_rules.specs.Answers.{verdict, free_verdict}
use Rattle.octo_house_rules.specs.Known.{Known}
use Rattle.octo_house_rules.specs.Verdict.{Verdict, May, IsDone, gives, files_after}
use Rattle.octo_house_rules.proofs.Denied.{free-undenied}
use Rattle.octo_house.proofs.Fileless.{left-after, free-leaves}
use Rattle.octo_house.proofs.Permitted.{needs-none}

-- an answer that is no fault needn't be counted as one
pub uncounted : (fault : Bool) (count : ℕ) → fault ≡ false → Counts (fault ≡ true) count count
uncounted fault count plain = record { later = omega arith; rose = λ is. absurd (false≢true (sym plain ∙ is)) }

module _ (ask : Ask) (k : Known) (free : (length (needed ask.request) == 0) ≡ true) where
  pub free-is : (files : List ShelfFile) → verdict ask files k ≡ free_verdict ask.key ask.request k
  free-is files = needs-none ask.key ask.request files k (needed ask.request) free

  pub free-granted : (x : Answer) → (x ≡ answer.NoMemory) ⊎ May (free_verdict ask.key ask.request k) x → is_denied x ≡ false
  free-granted x (inl out) = ap (λ (a : Answer). is_denied a) out
  free-granted x (inr allows) = free-undenied ask.key ask.request k x allows

  pub free-no-denial : (files : List ShelfFile) (p : Option Permission) → verdict ask files k ≡ gives (answer.Denied p) → ⊥
  free-no-denial files p is =
      let allows : May (free_verdict ask.key ask.request k) (answer.Denied p) =
      subst (λ (v : Verdict). May v (answer.Denied p)) (sym is ∙ free-is files) refl in
      false≢true (sym (free-undenied ask.key ask.request k (answer.Denied p) allows))

  pub free-done : (files : List ShelfFile) (x : Answer) (new : Known) → IsDone (free_verdict ask.key ask.request k) x k new
      → IsDone (verdict ask files k) x k new
  free-done files x new done = subst (λ (v : Verdict). IsDone v x k new) (sym (free-is files)) done

  pub free-files : (files : List ShelfFile) (x : Answer) → files ≡ files_after (verdict ask files k) x files
  free-files files x =
      sym (ap (λ (v : Verdict). files_after v x files) (free-is files)
      ∙ left-after (free_verdict ask.key ask.request k) x files (free-leaves ask.key ask.request files k))
