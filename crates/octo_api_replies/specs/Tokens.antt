-- The tokens that are written for what replies show.
use Rattle.std.specs.Prelude.{ℕ, List, [], ◌∷◌, ◌++◌}
use Rattle.std.specs.Borrow.{Bor}
use Rattle.json.specs.Token.{Token, begin_object, end_object, key}
use Rattle.json.specs.Tree.{json_tokens}
use Rattle.serde_json.specs.Data.{Data}
use Rattle.serde_json.specs.Written.{outline}
use Rattle.octo_api_refusals.specs.declared.objects.Primitive.{Primitive}
use Rattle.octo_api_refusals.specs.Objects.{primitive_data}

-- the tokens of a value
abbrev pub tokens_of : Data → List Token
tokens_of value = json_tokens (outline value)

-- the tokens of a member
abbrev pub member_tokens : List ℕ → Data → List Token
member_tokens name value = key name ∷ tokens_of value

-- the tokens of the members of rows
abbrev pub rows_tokens : List (Bor (List ℕ) × Primitive) → List Token
rows_tokens [] = []
rows_tokens (row ∷ rows) = member_tokens row.0.now (primitive_data row.1) ++ rows_tokens rows

-- the tokens of an object whose members have these
abbrev pub object_tokens : List Token → List Token
object_tokens members = begin_object ∷ (members ++ end_object ∷ [])
