-- What a host begins with.
use Rattle.std.proofs.Common.{◌≡◌, ℕ, zero, suc, ◌<◌, List, [], ◌∷◌, length, get_or, map, Option, None, Some, option_map, IfSome, refl, sym, ap, ◌∙◌, subst, arith}
use Rattle.std.proofs.lemmas.List.{length-map}
use Rattle.octo_access.specs.Rows.{IsUserTable}
use Rattle.octo_keeper.specs.Files.{sizes_of}
use Rattle.octo_keeper.specs.Tables.{AreNumbered, AreSound, with_due_end}
use Rattle.octo_keeper.specs.declared.shelf.ShelfFile.{ShelfFile}
use Rattle.octo_keeper.specs.declared.tables.Tables.{Tables}
use Rattle.print_queue.specs.Lawful.{IsLawful}
use Rattle.print_queue.specs.declared.row.PrintRow.{PrintRow}
use Rattle.octo_house_rules.specs.Known.{names_of}
use Rattle.octo_house_rules.specs.Begins.{row_read}
use Rattle.octo_house_tables.specs.Data.{TablesData, IsReadFrom}
use Rattle.octo_house_tables.specs.Kept.{AreRows, Kept}
use Rattle.octo_house_tables.specs.declared.tables.Unwritten.{Unwritten}
use Rattle.octo_house_tables.proofs.Records.{rows-read}
use Rattle.octo_house.proofs.Names.{names-sized}

-- what is recorded is what was read
pub read-is : {A : Type 0} (P : A → Type 0) (held : Option A) (a : A) → IfSome held P → held ≡ Some a → P a
read-is P None a p is = absurd (cc is)
read-is P (Some b) a p is = let same : b ≡ a = cc in subst P same p

-- the tables that a new host read
pub read-from : (loaded tables : Tables) (host : TablesData) → loaded ≡ tables → IsReadFrom loaded host → IsReadFrom tables host
read-from loaded tables host same read = subst (λ (t : Tables). IsReadFrom t host) same read

-- they are the keeper's
pub kept-begun : (loaded tables : Tables) (host : TablesData) → loaded ≡ tables → AreSound loaded → IsReadFrom loaded host
    → IsUserTable tables.users → IsLawful tables.queue → Kept (length tables.prints) tables host
kept-begun loaded tables host same sound read users queue =
    let read : IsReadFrom tables host = read-from loaded tables host same read in
    let sound : AreSound tables = subst (λ (t : Tables). AreSound t) same sound in
    record {
      users = sym (read.same_users users);
      queue = sym (read.same_queue queue);
      prints = subst (λ due. AreRows (length tables.prints) (with_due_end due tables.prints) host.prints)
          (sym (ap (option_map (λ (u : Unwritten). u.ending)) read.written))
          (subst (λ (rows : List PrintRow). AreRows (length tables.prints) tables.prints rows) (sym read.prints) (rows-read tables.prints sound.numbered));
    }

-- the names of the files
names-begun : (listed : List (List ℕ × ℕ)) (names : List (List ℕ)) (files : List ShelfFile) → listed ≡ sizes_of files
    → names ≡ map (λ (one : List ℕ × ℕ). one.0) listed → names ≡ names_of files
names-begun listed names files listed-is names-are = names-are ∙ ap (map (λ (one : List ℕ × ℕ). one.0)) listed-is ∙ names-sized files

-- the same, if the shelf records the files
pub names-held : (held : Option (List ShelfFile)) (listed : List (List ℕ × ℕ)) (names : List (List ℕ))
    → IfSome held (λ (files : List ShelfFile). listed ≡ sizes_of files) → names ≡ map (λ (one : List ℕ × ℕ). one.0) listed
    → IfSome held (λ (files : List ShelfFile). names ≡ names_of files)
names-held None listed names same names-are = same
names-held (Some files) listed names same names-are = names-begun listed names files same names-are

-- its records keep their numbers
number-read : (k : ℕ) (d : PrintRow) (rows : List PrintRow) → k < length rows → (get_or (map row_read rows) k d).number ≡ (get_or rows k d).number
number-read k d [] below = absurd (omega (arith, below))
number-read zero d (row ∷ rows) below = refl
number-read (suc k) d (row ∷ rows) below = number-read k d rows (omega (arith, below))

numbered-rows : (rows : List PrintRow) → AreNumbered rows → AreNumbered (map row_read rows)
numbered-rows rows numbered k d below =
    let within : k < length rows = omega (arith, below, length-map rows row_read) in
    number-read k d rows within ∙ numbered k d within

pub numbered-read : (loaded : Tables) (host : TablesData) → AreSound loaded → IsReadFrom loaded host → AreNumbered host.prints
numbered-read loaded host sound read = subst (λ (rows : List PrintRow). AreNumbered rows) (sym read.prints) (numbered-rows loaded.prints sound.numbered)
