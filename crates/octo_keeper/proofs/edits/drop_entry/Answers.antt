-- What is kept is what the test keeps.
use Rattle.std.proofs.Common.{not, rules}
use Rattle.std.proofs.lemmas.Fn.{filter_same}
use Rattle.print_queue.specs.Rows.{is_key}
use Rattle.octo_keeper.proofs.edits.drop_entry.Goals as goal

pub returns : goal.returns
returns c =
    let kept = filter_same _ (λ row. not (is_key c.args.user.now c.args.name.now row)) _ (λ x b f' k. search rules) _ _ c.retain.ensures.filtered in
    cc
