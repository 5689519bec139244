-- A command with parameters, byte by byte.
use Rattle.std.proofs.Common.{◌≡◌, ℕ, ◌+◌, ◌<◌, ◌≤◌, List, [], ◌∷◌, length, drop, get_or, drop-cons, add-one, Option, Some, None, refl, ap, sym, ◌∙◌}
use Rattle.std.specs.Prelude.{option_and_then}
use Rattle.std.proofs.lemmas.List.{drop_all}
use Rattle.serde_json.specs.Data.{Data}
use Rattle.octo_api_commands.specs.declared.commands.Brace.{Brace}
use Rattle.octo_api_commands.specs.Filled.{Filling, filling, after_byte, at_end, fill_on}

fill_of_cons : (parameters : Data) (list : List ℕ) (byte : ℕ) (rest written name : List ℕ) (brace : Brace) → list ≡ byte ∷ rest
    → fill_on parameters list written name brace
    ≡ option_and_then (λ (f : Filling). fill_on parameters rest f.written f.name f.brace) (after_byte parameters written name brace byte)
fill_of_cons parameters list byte rest written name brace e = rw e refl

-- one step
pub fill_at : (parameters : Data) (text written name : List ℕ) (brace : Brace) (i : ℕ) → i < length text
    → fill_on parameters (drop i text) written name brace
    ≡ option_and_then (λ (f : Filling). fill_on parameters (drop (i + 1) text) f.written f.name f.brace)
    (after_byte parameters written name brace (get_or text i 0))
fill_at parameters text written name brace i below =
    fill_of_cons parameters (drop i text) (get_or text i 0) (drop (i + 1) text) written name brace
    (drop-cons text i 0 below ∙ ap (λ k. get_or text i 0 ∷ drop k text) (sym (add-one i)))

-- and the end
pub fill_end : (parameters : Data) (text written name : List ℕ) (brace : Brace) (i : ℕ) → length text ≤ i
    → fill_on parameters (drop i text) written name brace ≡ at_end written brace
fill_end parameters text written name brace i past = ap (λ l. fill_on parameters l written name brace) (drop_all i text past)

pub ruleset fill_steps = (fill_at, fill_end)
