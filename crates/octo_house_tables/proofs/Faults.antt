-- A change of users that the keeper couldn't write is undone.
use Rattle.std.proofs.Common.{◌≡◌, is_some, inl, inr, List, [], None, refl, sym, ap, ◌∙◌, subst}
use Rattle.octo_access.specs.Changes.{bad_group, name_taken, put_refusal, change_refusal}
use Rattle.octo_access.specs.Rows.{row_named, with_row, replaced}
use Rattle.octo_access.specs.declared.policy.Policy.{Policy}
use Rattle.octo_access.specs.declared.row.UserRow.{UserRow}
use Rattle.octo_asks.specs.Shown.{shown_user}
use Rattle.octo_asks.specs.declared.answer.Answer.{Answer}
use Rattle.octo_asks.specs.declared.answer.Answer.TheVariants as answer
use Rattle.octo_keeper.specs.declared.keeper.KeeperFault.{KeeperFault}
use Rattle.octo_keeper.specs.declared.keeper.KeeperFault.TheVariants as keeper_fault
use Rattle.octo_house_rules.specs.Known.{Known}
use Rattle.octo_house_rules.specs.Refusals.{if_users_allow}
use Rattle.octo_house_rules.specs.Rows.{put_user_verdict, replace_verdict, with_users}
use Rattle.octo_house_rules.specs.Verdict.{Deed, IsDone, writes}
use Rattle.octo_house_tables.specs.Faults.{answer_of_keeper_fault}
use Rattle.octo_house_tables.specs.Data.{TablesData, over}
use Rattle.octo_access.proofs.Refused.{second-false}
use Rattle.byte_text.proofs.OptionLaws.{first-none, second-none, none-if-false}

-- the name of a user who is added is free
pub put-new-name : (policy : Policy) (row : UserRow) (rows : List UserRow) → put_refusal policy row rows ≡ None → row_named row.name rows ≡ None
put-new-name policy row rows h =
    let taken : name_taken policy row.name rows ≡ None = first-none (name_taken policy row.name rows) _ (second-none (bad_group policy [] row) _ h) in
    none-if-false (row_named row.name rows) (second-false _ _ (is_some (row_named row.name rows)) taken)

fault-written : (a : Answer) (deed : Deed) (fault : KeeperFault) (k : Known) → IsDone (writes a deed) (answer_of_keeper_fault fault) k k
fault-written a deed keeper_fault.Failed k = record { may = inr (inr refl); leaves = refl }
fault-written a deed keeper_fault.NoMemory k = record { may = inl refl; leaves = refl }

module _ (row : UserRow) (policy : Policy) (fault : KeeperFault) (x : Answer) (old new : TablesData) (is : x ≡ answer_of_keeper_fault fault) (same : new ≡ old) where
  pub put-undone : put_refusal policy row old.users ≡ None → (k : Known) → k.policy ≡ policy
      → IsDone (put_user_verdict row (over k old)) x (over k old) (over k new)
  put-undone none k at =
      let free : put_refusal k.policy row old.users ≡ None = ap (λ p. put_refusal p row old.users) at ∙ none in
      subst (λ n. IsDone (put_user_verdict row (over k old)) x (over k old) (over k n)) (sym same)
      (subst (λ y. IsDone (put_user_verdict row (over k old)) y (over k old) (over k old)) (sym is)
      (subst (λ r. IsDone (if_users_allow r (writes (answer.User (shown_user row)) (with_users (with_row row old.users) (over k old))))
      (answer_of_keeper_fault fault) (over k old) (over k old)) (sym free)
      (fault-written (answer.User (shown_user row)) (with_users (with_row row old.users) (over k old)) fault (over k old))))

  pub set-undone : change_refusal policy row old.users ≡ None → (k : Known) → k.policy ≡ policy
      → IsDone (replace_verdict row (over k old)) x (over k old) (over k new)
  set-undone none k at =
      let free : change_refusal k.policy row old.users ≡ None = ap (λ p. change_refusal p row old.users) at ∙ none in
      subst (λ n. IsDone (replace_verdict row (over k old)) x (over k old) (over k n)) (sym same)
      (subst (λ y. IsDone (replace_verdict row (over k old)) y (over k old) (over k old)) (sym is)
      (subst (λ r. IsDone (if_users_allow r (writes answer.Accepted (with_users (replaced row old.users) (over k old)))) (answer_of_keeper_fault fault)
      (over k old) (over k old)) (sym free)
      (fault-written answer.Accepted (with_users (replaced row old.users) (over k old)) fault (over k old))))
