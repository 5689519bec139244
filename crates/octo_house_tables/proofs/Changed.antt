-- A user who is changed, held or not.
use Rattle.std.proofs.Common.{◌≡◌, ℕ, Bool, List, [], Option, None, Some, refl, sym, ap, ◌∙◌}
use Rattle.std.specs.Option.{option_or, unwrap_or}
use Rattle.arrayvec.specs.ArrayVec.{ArrayVec}
use Rattle.octo_access.specs.Changes.{bad_group, change_refusal, refusal_after}
use Rattle.std.specs.Cmp.Lexicographic.{bytes_decides}
use Rattle.octo_access.specs.Rows.{row_named, is_named, replaced}
use Rattle.octo_access.specs.declared.refusal.UserRefusal.{UserRefusal}
use Rattle.octo_access.specs.declared.refusal.UserRefusal.TheVariants as refusal
use Rattle.octo_access.specs.declared.row.UserRow.{UserRow}
use Rattle.octo_access.proofs.Found.{found-passes}
use Rattle.octo_house_rules.specs.Known.{Known}
use Rattle.octo_house_rules.specs.Refusals.{if_users_allow}
use Rattle.octo_asks.specs.declared.answer.Answer.TheVariants as answer
use Rattle.octo_house_rules.specs.Rows.{changed_user, change_user_verdict, replace_verdict, with_users}
use Rattle.octo_house_rules.specs.Verdict.{Verdict, writes}
use Rattle.octo_house_tables.specs.Users.{changed}

-- nobody of that name is changed
refused-by : (first : Option UserRefusal) (v w : Verdict)
    → if_users_allow (option_or first (Some refusal.NoUser)) v ≡ if_users_allow (option_or first (Some refusal.NoUser)) w
refused-by None v w = refl
refused-by (Some r) v w = refl

pub unheld-verdict : (row other : UserRow) (k : Known) → row.name ≡ other.name → row.groups ≡ other.groups → row_named row.name k.users ≡ None
    → replace_verdict row k ≡ replace_verdict other k
unheld-verdict row other k name groups none =
    let mine : change_refusal k.policy row k.users ≡ option_or (bad_group k.policy [] row) (Some refusal.NoUser) = ap
    (λ o. refusal_after k.policy o row k.users) none in
    let theirs : change_refusal k.policy other k.users ≡ option_or (bad_group k.policy [] row) (Some refusal.NoUser) =
    ap (λ o. refusal_after k.policy o other k.users) (ap (λ n. row_named n k.users) (sym name) ∙ none)
    ∙ ap (λ (gs : ArrayVec (List ℕ)). option_or (bad_group k.policy [] (record row { groups = gs })) (Some refusal.NoUser)) (sym groups) in
    ap (λ r. if_users_allow r (written row)) mine ∙ refused-by (bad_group k.policy [] row) (written row) (written other) ∙ sym
    (ap (λ r. if_users_allow r (written other)) theirs)
  where
    written : UserRow → Verdict
    written one = writes answer.Accepted (with_users (replaced one k.users) k)

module _ (name : List ℕ) (key : Option (List ℕ)) (groups : Option (ArrayVec (List ℕ))) (active : Option Bool) (former row : UserRow) (k : Known)
    (is : row ≡ changed former key groups active) where
  named : row_named name k.users ≡ Some former → former.name ≡ name
  named there = (bytes_decides former.name name).0 (found-passes (is_named name) former k.users there)

  pub verdict-held : row_named name k.users ≡ Some former → change_user_verdict name key groups active k ≡ replace_verdict row k
  verdict-held there =
      ap (λ o. replace_verdict (changed_user name key groups active o) k) there
      ∙ ap (λ n. replace_verdict (record (changed former key groups active) { name = n }) k) (sym (named there))
      ∙ ap (λ r. replace_verdict r k) (sym is)

  pub verdict-unheld : row_named name k.users ≡ None → former.name ≡ name → former.groups.items ≡ []
      → change_user_verdict name key groups active k ≡ replace_verdict row k
  verdict-unheld none same empty =
      let other : UserRow = changed_user name key groups active None in
      let rows : row.groups ≡ other.groups = ap (λ (r : UserRow). r.groups) is ∙ ap (λ items. unwrap_or groups (record { items = items })) empty in
      let names : row.name ≡ name = ap (λ (r : UserRow). r.name) is ∙ same in
      ap (λ o. replace_verdict (changed_user name key groups active o) k) none
      ∙ sym (unheld-verdict row other k names rows (ap (λ n. row_named n k.users) names ∙ none))
