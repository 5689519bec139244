-- A scan of a query, byte by byte.
use Rattle.std.proofs.Common.{◌≡◌, ℕ, ◌+◌, ◌<◌, ◌≤◌, Bool, List, [], ◌∷◌, length, take, drop, get_or, drop-cons, add-one, Some, None, refl, ap, sym, ◌∙◌}
use Rattle.std.specs.Prelude.{if◌then◌else◌, ◌&&◌, ◌==◌, bytes_eq, codes}
use Rattle.std.specs.List.{take_while}
use Rattle.std.proofs.lemmas.List.{drop_all}
use Rattle.octo_http.specs.Fields.{is_part_byte, query_key}

key_of_cons : (begins : Bool) (list : List ℕ) (byte : ℕ) (rest : List ℕ) → list ≡ byte ∷ rest
    → query_key begins list ≡ (if begins && bytes_eq (take 7 list) (codes "apikey=") then Some (take_while is_part_byte (drop 7 list)) else query_key (byte == 38) rest)
key_of_cons begins list byte rest e = rw e refl

-- one step of the scan
pub query_key_at : (begins : Bool) (query : List ℕ) (i : ℕ) → i < length query
    → query_key begins (drop i query)
    ≡ (if begins && bytes_eq (take 7 (drop i query)) (codes "apikey=") then Some (take_while is_part_byte (drop 7 (drop i query)))
    else query_key (get_or query i 0 == 38) (drop (i + 1) query))
query_key_at begins query i below =
    key_of_cons begins (drop i query) (get_or query i 0) (drop (i + 1) query)
    (drop-cons query i 0 below ∙ ap (λ k. get_or query i 0 ∷ drop k query) (sym (add-one i)))

-- and its end
pub query_key_end : (begins : Bool) (query : List ℕ) (i : ℕ) → length query ≤ i → query_key begins (drop i query) ≡ None
query_key_end begins query i past = ap (query_key begins) (drop_all i query past)

pub ruleset query_steps = (query_key_at, query_key_end)
