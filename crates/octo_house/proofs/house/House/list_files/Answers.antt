use Rattle.std.proofs.Common.{◌≡◌, ℕ, List, sym, ap, ◌∙◌}
use Rattle.std.specs.Prelude.{map}
use Rattle.octo_asks.specs.declared.answer.Answer.TheVariants as answer
use Rattle.octo_asks.specs.declared.shown.ShownFile.{ShownFile}
use Rattle.octo_keeper.specs.Files.{sizes_of}
use Rattle.octo_house_rules.specs.Reads.{file_shown}
use Rattle.octo_house_tables.proofs.Contents.{some_sizes}
use Rattle.octo_house.specs.State.{known_of}
use Rattle.octo_house.proofs.ReadDone.{given, read-then}
use Rattle.octo_house.proofs.house.House.list_files.Goals as goal

pub returns-in-Ok-shown_files-clause-some : goal.returns-in-Ok-shown_files-clause-some
returns-in-Ok-shown_files-clause-some g c =
    let k = known_of c.args.self.now in
    let some = some_sizes c.in-Ok.files in
    let shown : List (List ℕ × ℕ) → List ShownFile = map (λ (file : List ℕ × ℕ). file_shown file.0 file.1) in
    let is : c.in-Ok-shown_files.files ≡ shown (sizes_of some.0) = c.in-Ok-shown_files.ensures ∙ ap shown (c.as_slice.ensures ∙ sym some.1) in
    (some.0, read-then _ _ k k (given _ _ k (ap (λ (list : List ShownFile). answer.Files list) is)))
