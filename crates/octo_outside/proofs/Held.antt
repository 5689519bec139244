-- The file that a search by name finds.
use Rattle.std.proofs.Common.{◌≡◌, ℕ, ◌+◌, ◌<◌, suc, zero, List, [], ◌∷◌, length, drop, get_or, Bool, true, false, Some, sym, ◌∙◌, ap, subst, arith, add-one, drop-cons}
use Rattle.std.specs.Prelude.{if◌then◌else◌}
use Rattle.std.specs.Str.{bytes_eq}
use Rattle.octo_outside.specs.declared.memory_source.MemoryFile.{MemoryFile}
use Rattle.octo_outside.specs.Memory.{bytes_named, bytes_at}

-- the file at this place has the name
pub held_here : (files : List MemoryFile) (place : ℕ) (file : MemoryFile) (name : List ℕ) → place < length files → file ≡ get_or files place file → bytes_eq file.name name ≡ true → bytes_named (drop place files) name ≡ Some (bytes_at files place)
held_here [] place file name within same found = absurd (omega arith)
held_here (f ∷ fs) zero file name within same found =
    let Named : MemoryFile → Type 0 = λ g. bytes_eq g.name name ≡ true in
    let named : bytes_eq f.name name ≡ true = subst Named same found in
    ap (λ (b : Bool). if b then Some f.bytes else bytes_named fs name) named
held_here (f ∷ fs) (suc n) file name within same found = held_here fs n file name (omega arith) same found

-- the file at this place has another name
pub held_next : (files : List MemoryFile) (place : ℕ) (file : MemoryFile) (name : List ℕ) → place < length files → file ≡ get_or files place file → bytes_eq file.name name ≡ false → bytes_named (drop place files) name ≡ bytes_named (drop (place + 1) files) name
held_next files place file name within same found =
    let Named : MemoryFile → Type 0 = λ g. bytes_eq g.name name ≡ false in
    let named : bytes_eq (get_or files place file).name name ≡ false = subst Named same found in
    ap (λ (rest : List MemoryFile). bytes_named rest name) (drop-cons files place file within)
    ∙ ap (λ (b : Bool). if b then Some (get_or files place file).bytes else bytes_named (drop (suc place) files) name) named
    ∙ ap (λ (n : ℕ). bytes_named (drop n files) name) (sym (add-one place))
