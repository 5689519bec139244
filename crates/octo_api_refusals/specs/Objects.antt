-- Objects of JSON made of rows: a name, and what is shown under it.
use Rattle.std.specs.Prelude.{ℕ, List, [], ◌∷◌}
use Rattle.std.specs.Borrow.{Bor}
use Rattle.serde_json.specs.Data.{Data, null, boolean, number, unsigned, string, object, Members, no_members, put}
use Rattle.serde_json.specs.Find.{of_integer}
use Rattle.octo_api_refusals.specs.declared.objects.Primitive.{Primitive}
use Rattle.octo_api_refusals.specs.declared.objects.Primitive.TheVariants as primitive

-- a value that holds no other one
abbrev pub primitive_data : Primitive → Data
primitive_data primitive.Null = null
primitive_data (primitive.Flag is_true) = boolean is_true
primitive_data (primitive.Count n) = number (unsigned n)
primitive_data (primitive.Whole z) = number (of_integer z)
primitive_data (primitive.Text text) = string text.now

-- the members, and after them those of the rows
abbrev pub with_rows : List (Bor (List ℕ) × Primitive) → Members → Members
with_rows [] members = members
with_rows (row ∷ rows) members = with_rows rows (put row.0.now (primitive_data row.1) members)

-- an object of rows
abbrev pub object_of : List (Bor (List ℕ) × Primitive) → Data
object_of rows = object (with_rows rows no_members)
