-- The items of an array that are left to read.
use Rattle.std.proofs.Common.{◌≡◌, ℕ, ◌+◌, ◌<◌, List, ◌∷◌, length, drop, get_or, Ok, refl, ap, sym, ◌∙◌, string_bytes, String, Global}
use Rattle.std.proofs.lemmas.List.{drop_more}
use Rattle.toml.specs.View.{view, items_view}
use Rattle.toml.specs.declared.value.Value.{Value}
use Rattle.toml.specs.declared.value.Value.TheVariants as value
use Rattle.toml.proofs.Views.{view-String}
use Rattle.octo_settings.specs.Values.{items_list, text_value}

-- the items from one on are that one and those after it
pub items-left : (items : List Value) (i : ℕ) (item : Value) → i < length items → item ≡ get_or items i item → items_list (items_view (drop i items)) ≡ view item ∷ items_list (items_view (drop (i + 1) items))
items-left items i item within is =
    ap (λ left. items_list (items_view left)) (drop_more items i item within)
    ∙ ap (λ value. view value ∷ items_list (items_view (drop (i + 1) items))) (sym is)

-- a text is read as its bytes
pub text-read : (key : List ℕ) (item : Value) (text : String Global) (bytes : List ℕ) → item ≡ value.String text → bytes ≡ string_bytes text → text_value key (view item) ≡ Ok bytes
text-read key item text bytes is read = rw (is, view-String text, read) refl
