use Rattle.std.proofs.Common.{◌≡◌, length, refl, arith, inr, sym, ◌∙◌, nat_le, true, false}
use Rattle.std.proofs.lemmas.Bool.Decides.{nat_tests}
use Rattle.toml.specs.View.{table_view}
use Rattle.octo_access.specs.Groups.{most_groups}
use Rattle.octo_settings.specs.Values.{members_list}
use Rattle.octo_settings.proofs.Lines.{length-members}
use Rattle.octo_settings.proofs.groups.read_groups_in.Goals as goal

pub returns-then-len-gt-MOST_GROUPS : goal.returns-then-len-gt-MOST_GROUPS
returns-then-len-gt-MOST_GROUPS c =
    let long : length (members_list (table_view c.args.table.now)) ≡ c.len.result = length-members c.args.table.now.entries ∙ sym c.len.ensures.len in
    let many : nat_le (length (members_list (table_view c.args.table.now))) most_groups ≡ false = grind (arith, nat_tests) in
    inr (rw (many, c.out_of_range.ensures) refl)

pub read_group_list-requires : goal.read_group_list-requires
read_group_list-requires c =
    let long : length (members_list (table_view c.args.table.now)) ≡ c.len.result = length-members c.args.table.now.entries ∙ sym c.len.ensures.len in
    omega arith

pub returns : goal.returns
returns c =
    let long : length (members_list (table_view c.args.table.now)) ≡ c.len.result = length-members c.args.table.now.entries ∙ sym c.len.ensures.len in
    let few : nat_le (length (members_list (table_view c.args.table.now))) most_groups ≡ true = grind (arith, nat_tests) in
    rw few c.read_group_list.ensures
