-- Who is answered, and who is denied.
use Rattle.std.specs.Prelude.{◌≡◌, Bool, true, false, List, [], Option, None, Some}
use Rattle.octo_access.specs.Rights.{caller}
use Rattle.octo_access.specs.declared.permission.Permission.{Permission}
use Rattle.octo_access.specs.declared.row.UserRow.{UserRow}
use Rattle.octo_keeper.specs.declared.shelf.ShelfFile.{ShelfFile}
use Rattle.octo_asks.specs.Rights.{needed}
use Rattle.octo_asks.specs.declared.answer.Answer.{Answer}
use Rattle.octo_asks.specs.declared.answer.Answer.TheVariants as answer
use Rattle.octo_asks.specs.declared.request.Ask.{Ask}
use Rattle.octo_house_rules.specs.Known.{Known}
use Rattle.octo_house_rules.specs.Verdict.{Verdict, May, after}
use Rattle.octo_house_rules.specs.Answers.{verdict, lacking}

-- whether an answer denies a request
abbrev pub is_denied : Answer → Bool
is_denied (answer.Denied permission) = true
is_denied _ = false

-- denied with this permission, and nothing is changed
pub record IsDenied (permission : Option Permission) (v : Verdict) (k : Known) (x : Answer) : Type 0 where
  pub denied : x ≡ answer.Denied permission
  pub stays : after v k x ≡ k

-- How an ask is answered, out of memory aside.
pub data Accessed (ask : Ask) (v : Verdict) (k : Known) (x : Answer) : Type 0 where
  -- it needs no permission
  free : needed ask.request ≡ [] → is_denied x ≡ false → Accessed ask v k x
  -- its key names nobody
  nobody : caller k.policy k.users ask.key ≡ None → IsDenied None v k x → Accessed ask v k x
  -- its caller lacks a permission, the first one that is tested
  lacks : (user : UserRow) (permission : Permission) → caller k.policy k.users ask.key ≡ Some user
      → lacking k user (needed ask.request) ≡ Some permission → IsDenied (Some permission) v k x → Accessed ask v k x
  -- its caller has all that it needs
  may : (user : UserRow) → caller k.policy k.users ask.key ≡ Some user → lacking k user (needed ask.request) ≡ None → is_denied x ≡ false → Accessed ask v k x

-- the law: an ask is answered so, by each answer that its verdict allows
abbrev pub Access : Type 0
Access = (ask : Ask) (files : List ShelfFile) (k : Known) (x : Answer) → May (verdict ask files k) x → Accessed ask (verdict ask files k) k x
