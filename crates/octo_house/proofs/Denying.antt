-- An ask is denied exactly if its verdict denies it.
use Rattle.std.proofs.Common.{◌≡◌, ◌⊎◌, inl, inr, ◌↔◌, Bool, true, false, List, [], Option, None, Some, refl, sym, ap, ◌∙◌, subst}
use Rattle.std.specs.Prelude.{if◌then◌else◌}
use Rattle.std.proofs.lemmas.Bool.{false≢true}
use Rattle.octo_access.specs.Rights.{caller}
use Rattle.octo_access.specs.declared.permission.Permission.{Permission}
use Rattle.octo_access.specs.declared.row.UserRow.{UserRow}
use Rattle.octo_keeper.specs.declared.shelf.ShelfFile.{ShelfFile}
use Rattle.octo_asks.specs.Rights.{needed}
use Rattle.octo_asks.specs.declared.answer.Answer.{Answer}
use Rattle.octo_asks.specs.declared.answer.Answer.TheVariants as answer
use Rattle.octo_asks.specs.declared.request.Ask.{Ask}
use Rattle.octo_house_rules.specs.Access.{is_denied, Accessed, free, nobody, lacks, may}
use Rattle.octo_house_rules.specs.Answers.{verdict, request_verdict, lacking}
use Rattle.octo_house_rules.specs.Known.{Known}
use Rattle.octo_house_rules.specs.Verdict.{Verdict, May, IsDone, gives, answer_in, is_fault, files_after}
use Rattle.octo_house_rules.proofs.Denied.{access}
use Rattle.octo_house.specs.Answered.{asks_files}
use Rattle.octo_house.specs.Groups.{is_reading}
use Rattle.octo_house.proofs.Fileless.{request-unasked}

-- a verdict that is this answer denies it exactly if the answer does
pub gives-denial : (x : Answer) (v : Verdict) (p : Option Permission) → v ≡ gives x → (x ≡ answer.Denied p) ↔ (v ≡ gives (answer.Denied p))
gives-denial x v p gave = (λ is. gave ∙ ap (λ (a : Answer). gives a) is, λ is. ap (λ (w : Verdict). answer_in w) (sym gave ∙ is))

either : {A : Type 0} (b : Bool) (a : A) → (if b then a else a) ≡ a
either true a = refl
either false a = refl

-- it changes nothing
pub gives-done : (x : Answer) (v : Verdict) (k : Known) → v ≡ gives x → IsDone v x k k
gives-done x v k gave = subst (λ (w : Verdict). IsDone w x k k) (sym gave) (record { may = inr refl; leaves = sym (either (is_fault x) k) })

-- nor the files
pub gives-files : (x : Answer) (v : Verdict) (files : List ShelfFile) → v ≡ gives x → files ≡ files_after v x files
gives-files x v files gave = subst (λ (w : Verdict). files ≡ files_after w x files) (sym gave) (sym (either (is_fault x) files))

-- neither verdict nor answer denies it
pub neither-denies : (x : Answer) (v : Verdict) (p : Option Permission) → is_denied x ≡ false → (v ≡ gives (answer.Denied p) → ⊥)
    → (x ≡ answer.Denied p) ↔ (v ≡ gives (answer.Denied p))
neither-denies x v p plain other =
    (λ is. absurd (false≢true (sym plain ∙ ap (λ (a : Answer). is_denied a) is)), λ is. absurd (other is))

module _ (ask : Ask) (k : Known) (user : UserRow) (known : caller k.policy k.users ask.key ≡ Some user)
    (none : lacking k user (needed ask.request) ≡ None) where
  by-access : (v : Verdict) (x : Answer) → Accessed ask v k x → is_denied x ≡ false
  by-access v x (free needs plain) = plain
  by-access v x (nobody unknown denied) = absurd (cc)
  by-access v x (lacks other permission asker one denied) = absurd (cc)
  by-access v x (may other asker all plain) = plain

  -- a caller who lacks nothing isn't denied
  undenied : (files : List ShelfFile) (x : Answer) → May (verdict ask files k) x → is_denied x ≡ false
  undenied files x allows = by-access (verdict ask files k) x (access ask files k x allows)

  pub no-denial : (files : List ShelfFile) (p : Option Permission) → verdict ask files k ≡ gives (answer.Denied p) → ⊥
  no-denial files p is =
      let allows : May (verdict ask files k) (answer.Denied p) = subst (λ (v : Verdict). May v (answer.Denied p)) (sym is) refl in
      false≢true (sym (undenied files (answer.Denied p) allows))

  module _ (x : Answer) (same : verdict ask [] k ≡ request_verdict ask.request user [] k)
      (granted : is_reading ask.request ≡ true → is_denied x ≡ false)
      (unread : asks_files (request_verdict ask.request user [] k) ≡ false → (x ≡ answer.NoMemory) ⊎ May (request_verdict ask.request user [] k) x) where
    by-may : (x ≡ answer.NoMemory) ⊎ May (request_verdict ask.request user [] k) x → is_denied x ≡ false
    by-may (inl out) = ap (λ (a : Answer). is_denied a) out
    by-may (inr allows) = undenied [] x (subst (λ (v : Verdict). May v x) (sym same) allows)

    by-reading : (reading : Bool) → is_reading ask.request ≡ reading → is_denied x ≡ false
    by-reading true is = granted is
    by-reading false is = by-may (unread (request-unasked ask.request user [] k is))

    pub answer-granted : is_denied x ≡ false
    answer-granted = by-reading (is_reading ask.request) refl
