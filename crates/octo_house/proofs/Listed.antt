-- A host's names stay those of its shelf's files.
use Rattle.std.proofs.Common.{◌≡◌, ℕ, List, Option, None, Some, option_map, refl, sym, ap, ◌∙◌}
use Rattle.octo_keeper.specs.Files.{with_file, without_file}
use Rattle.octo_keeper.specs.declared.shelf.ShelfFile.{ShelfFile}
use Rattle.octo_house_rules.specs.Known.{names_of, with_name, without_name}
use Rattle.octo_house.proofs.Names.{names-with, names-without}

-- these are the names, if the shelf records its files
abbrev pub AreNames : Option (List ShelfFile) → List (List ℕ) → Type 0
AreNames held names = (files : List ShelfFile) → held ≡ Some files → names ≡ names_of files

listed-by : (f : List ShelfFile → List ShelfFile) (g : List (List ℕ) → List (List ℕ)) (was now : Option (List ShelfFile)) (old new : List (List ℕ))
    → ((files : List ShelfFile) → names_of (f files) ≡ g (names_of files)) → now ≡ option_map f was → new ≡ g old → AreNames was old → AreNames now new
listed-by f g None now old new same is named listed files at = absurd (cc)
listed-by f g (Some held) now old new same is named listed files at =
    let kept : f held ≡ files = cc in
    named ∙ ap g (listed held refl) ∙ sym (same held) ∙ ap names_of kept

pub listed-with : (name bytes : List ℕ) (was now : Option (List ShelfFile)) (old new : List (List ℕ)) → now ≡ option_map (with_file name bytes) was
    → new ≡ with_name name old → AreNames was old → AreNames now new
listed-with name bytes was now old new is named listed =
    listed-by (with_file name bytes) (with_name name) was now old new (names-with name bytes) is named listed

pub listed-without : (name : List ℕ) (was now : Option (List ShelfFile)) (old new : List (List ℕ)) → now ≡ option_map (without_file name) was
    → new ≡ without_name name old → AreNames was old → AreNames now new
listed-without name was now old new is named listed =
    listed-by (without_file name) (without_name name) was now old new (names-without name) is named listed
