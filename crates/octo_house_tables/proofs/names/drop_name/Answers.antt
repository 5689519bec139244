-- What is kept is what the test keeps.
use Rattle.std.proofs.Common.{not, bytes_eq, rules}
use Rattle.std.proofs.lemmas.Fn.{filter_same}
use Rattle.octo_house_tables.proofs.names.drop_name.Goals as goal

pub returns-clause-items : goal.returns-clause-items
returns-clause-items c =
    let kept = filter_same _ (λ n. not (bytes_eq n c.args.name.now)) _ (λ x b f' k. search rules) _ _ c.retain.ensures.filtered in
    cc
