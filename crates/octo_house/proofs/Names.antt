-- The names of files that are stored and deleted.
use Rattle.std.proofs.Common.{◌≡◌, ℕ, ◌+◌, Bool, true, false, not, bytes_eq, List, [], ◌∷◌, ◌++◌, take, drop, map, filter, insert, refl, sym, ap, ◌∙◌}
use Rattle.std.specs.List.{prefix_len}
use Rattle.std.proofs.lemmas.List.{map-append, take-map, drop-map}
use Rattle.octo_keeper.specs.Files.{sizes_of, with_file, without_file}
use Rattle.octo_keeper.specs.declared.shelf.ShelfFile.{ShelfFile}
use Rattle.octo_house_rules.specs.Known.{names_of, with_name, without_name}
use Rattle.octo_access.specs.Rows.{is_before}

module _ {X Y : Type 0} (f : X → Y) (p : Y → Bool) where
  filter-more : (x : X) (xs : List X) (b : Bool) → p (f x) ≡ b → map f (filter (λ y. p (f y)) xs) ≡ filter p (map f xs)
      → map f (filter (λ y. p (f y)) (x ∷ xs)) ≡ filter p (map f (x ∷ xs))
  filter-more x xs true is rest = rw is (ap (λ ys. f x ∷ ys) rest)
  filter-more x xs false is rest = rw is rest

  filter-map : (xs : List X) → map f (filter (λ y. p (f y)) xs) ≡ filter p (map f xs)
  filter-map [] = refl
  filter-map (x ∷ xs) = filter-more x xs (p (f x)) refl (filter-map xs)

  prefix-more : (x : X) (xs : List X) (b : Bool) → p (f x) ≡ b → prefix_len (λ y. p (f y)) xs ≡ prefix_len p (map f xs)
      → prefix_len (λ y. p (f y)) (x ∷ xs) ≡ prefix_len p (map f (x ∷ xs))
  prefix-more x xs true is rest = rw is (ap (λ n. 1 + n) rest)
  prefix-more x xs false is rest = rw is refl

  prefix-map : (xs : List X) → prefix_len (λ y. p (f y)) xs ≡ prefix_len p (map f xs)
  prefix-map [] = refl
  prefix-map (x ∷ xs) = prefix-more x xs (p (f x)) refl (prefix-map xs)

insert-map : {X Y : Type 0} (f : X → Y) (xs : List X) (i : ℕ) (x : X) → map f (insert xs i x) ≡ insert (map f xs) i (f x)
insert-map f xs i x =
    map-append f (take i xs) (x ∷ drop i xs)
    ∙ ap (λ ys. ys ++ f x ∷ map f (drop i xs)) (sym (take-map f i xs))
    ∙ ap (λ ys. take i (map f xs) ++ f x ∷ ys) (sym (drop-map f i xs))

pub names-without : (name : List ℕ) (files : List ShelfFile) → names_of (without_file name files) ≡ without_name name (names_of files)
names-without name files = filter-map (λ (file : ShelfFile). file.name) (λ n. not (bytes_eq n name)) files

pub names-with : (name bytes : List ℕ) (files : List ShelfFile) → names_of (with_file name bytes files) ≡ with_name name (names_of files)
names-with name bytes files =
    let named : ShelfFile → List ℕ = λ file. file.name in
    let left : List ShelfFile = without_file name files in
    let kept : List (List ℕ) = without_name name (names_of files) in
    insert-map named left (prefix_len (λ (other : ShelfFile). is_before other.name name) left) (record { name = name; bytes = bytes })
    ∙ ap (λ i. insert (names_of left) i name) (prefix-map named (λ n. is_before n name) left)
    ∙ ap (λ names. insert names (prefix_len (λ n. is_before n name) names) name) (names-without name files)

-- the names in a list of files with their sizes
pub names-sized : (files : List ShelfFile) → map (λ (one : List ℕ × ℕ). one.0) (sizes_of files) ≡ names_of files
names-sized [] = refl
names-sized (file ∷ files) = ap (λ names. file.name ∷ names) (names-sized files)
