-- Files that fit what a shelf returned, whatever it records.
use Rattle.std.proofs.Common.{◌≡◌, inl, ℕ, List, [], ◌∷◌, length, replicate, Some, Ok, refl, sym, ap, ◌∙◌}
use Rattle.std.proofs.lemmas.List.{length-replicate}
use Rattle.octo_keeper.specs.Files.{bytes_of, size_of, sizes_of}
use Rattle.octo_keeper.specs.declared.shelf.ShelfFile.{ShelfFile}
use Rattle.print_queue.proofs.Comparisons.{bytes_same}
use Rattle.octo_house_tables.specs.Reading.{IsReadOfSome, found_bytes, found_size, bytes_at, size_at}

-- one file alone
abbrev pub one_file : List ℕ → List ℕ → List ShelfFile
one_file name bytes = record { name = name; bytes = bytes } ∷ []

bytes_one : (name bytes : List ℕ) → bytes_of name (one_file name bytes) ≡ Some bytes
bytes_one name bytes = rw (bytes_same name) refl

size_one : (name bytes : List ℕ) → size_of name (one_file name bytes) ≡ Some (length bytes)
size_one name bytes = rw (bytes_same name) refl

-- bytes that were read
pub some_bytes : (name bytes : List ℕ) → IsReadOfSome (bytes_at name) (Ok bytes)
some_bytes name bytes = (one_file name bytes, inl (sym (ap found_bytes (bytes_one name bytes))))

-- a size that was read
pub some_size : (name : List ℕ) (size : ℕ) → IsReadOfSome (size_at name) (Ok size)
some_size name size =
    let bytes : List ℕ = replicate size 0 in
    let long : length bytes ≡ size = length-replicate size 0 in
    (one_file name bytes, inl (sym (ap found_size (size_one name bytes) ∙ ap (λ (n : ℕ). Ok n) long)))

-- names and sizes that were listed
pub some_sizes : (listed : List (List ℕ × ℕ)) → (files : List ShelfFile) × (sizes_of files ≡ listed)
some_sizes [] = ([], refl)
some_sizes (file ∷ listed) =
    let rest = some_sizes listed in
    let one : ◌≡◌ {A = List ℕ × ℕ} (file.0, length (replicate file.1 0)) file = ap (λ (n : ℕ). (file.0, n)) (length-replicate file.1 0) in (
      record { name = file.0; bytes = replicate file.1 0 } ∷ rest.0,
      ap (λ (first : List ℕ × ℕ). first ∷ sizes_of rest.0) one ∙ ap (λ (more : List (List ℕ × ℕ)). file ∷ more) rest.1,
    )
