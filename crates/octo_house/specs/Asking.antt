-- Who may ask, and who is turned away before anything is done.
use Rattle.std.specs.Prelude.{◌≡◌, ◌==◌, true, false, List, length, None, Some}
use Rattle.octo_access.specs.Rights.{caller}
use Rattle.octo_access.specs.declared.row.UserRow.{UserRow}
use Rattle.octo_asks.specs.Rights.{needed}
use Rattle.octo_asks.specs.declared.answer.Answer.{Answer}
use Rattle.octo_asks.specs.declared.request.Ask.{Ask}
use Rattle.octo_keeper.specs.declared.shelf.ShelfFile.{ShelfFile}
use Rattle.octo_house_rules.specs.Access.{is_denied}
use Rattle.octo_house_rules.specs.Faults.{is_keepers, is_shelfs}
use Rattle.octo_house_rules.specs.Answers.{lacking, verdict}
use Rattle.octo_house_rules.specs.Known.{Known}
use Rattle.octo_house_rules.specs.Verdict.{gives}

-- the ask needs permissions, and its key's user has them all
pub record IsPermitted (ask : Ask) (k : Known) (user : UserRow) : Type 0 where
  pub some : (length (needed ask.request) == 0) ≡ false
  pub known : caller k.policy k.users ask.key ≡ Some user
  pub all : lacking k user (needed ask.request) ≡ None

-- the verdict is this answer, which denies, whatever the files are
pub record IsTurnedAway (ask : Ask) (k : Known) (x : Answer) : Type 0 where
  pub denied : is_denied x ≡ true
  pub gave : (files : List ShelfFile) → verdict ask files k ≡ gives x
  pub keeper : is_keepers x ≡ false
  pub shelf : is_shelfs x ≡ false
