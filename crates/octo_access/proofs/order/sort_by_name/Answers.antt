use Rattle.std.proofs.Common.{◌≡◌, ap, ◌∙◌, rules}
use Rattle.std.proofs.lemmas.Fn.{always_returns_same}
use Rattle.std.specs.Cmp.Lexicographic.{slice_cmp}
use Rattle.std.specs.Ordering.{nat_cmp, is_lt}
use Rattle.octo_access.specs.Rows.{is_before}
use Rattle.octo_access.specs.declared.row.UserRow.{UserRow}
use Rattle.octo_access.proofs.Tables.{by_name}
use Rattle.octo_access.proofs.order.sort_by_name.Goals as goal

pub returns-clause-ordered : goal.returns-clause-ordered
returns-clause-ordered c =
    c.sort_unstable_by.ensures.sorted (λ (a b : UserRow). is_before a.name b.name) by_name (always_returns_same _ _ _ (λ a r f' k.
    let same : r ≡ slice_cmp nat_cmp a.0.now.name a.1.0.now.name = search rules in (ap is_lt same, search rules)))
