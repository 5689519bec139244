-- What is kept is what the test keeps.
use Rattle.std.proofs.Common.{not, rules}
use Rattle.std.proofs.lemmas.Fn.{filter_same}
use Rattle.octo_keeper.specs.Files.{is_file}
use Rattle.octo_keeper.proofs.files.drop_file.Goals as goal

pub returns-clause-items : goal.returns-clause-items
returns-clause-items c =
    let kept = filter_same _ (λ file. not (is_file c.args.name.now file)) _ (λ x b f' k. search rules) _ _ c.retain.ensures.filtered in
    cc
