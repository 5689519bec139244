-- No value of a row has a number with a fraction, so each has its text.
use Rattle.std.proofs.Common.{◌≡◌, refl, ℕ, ℤ, pos, negsuc, Bool, false, true, ◌||◌, true≢false, List, [], ◌∷◌, Ordering, Less, Equal, Greater, nat_cmp}
use Rattle.std.specs.Borrow.{Bor}
use Rattle.std.specs.Cmp.Lexicographic.{slice_cmp}
use Rattle.std.specs.Ordering.{match_ordering}
use Rattle.serde_json.specs.Data.{Data, Members, no_members, member, put}
use Rattle.serde_json.specs.Find.{of_integer, is_float}
use Rattle.serde_json.specs.Written.{has_float, members_have_float}
use Rattle.octo_api_refusals.specs.Objects.{primitive_data, with_rows}
use Rattle.octo_api_refusals.specs.declared.objects.Primitive.{Primitive}
use Rattle.octo_api_refusals.specs.declared.objects.Primitive.TheVariants as primitive

-- members in any order
choice_whole : (o : Ordering) (a b c : Members) → members_have_float a ≡ false → members_have_float b ≡ false → members_have_float c ≡ false
    → members_have_float (match_ordering o a b c) ≡ false
choice_whole Less a b c first second third = first
choice_whole Equal a b c first second third = second
choice_whole Greater a b c first second third = third

first_none : (a b : Bool) → (a || b) ≡ false → a ≡ false
first_none true b is = is
first_none false b is = refl

second_none : (a b : Bool) → (a || b) ≡ false → b ≡ false
second_none true b is = absurd (true≢false is)
second_none false b is = is

-- the members with one more that has none
pub put_whole : (name : List ℕ) (value : Data) (members : Members) → has_float value ≡ false → members_have_float members ≡ false
    → members_have_float (put name value members) ≡ false
put_whole name value no_members one rest = rw one refl
put_whole name value (member k d ms) one rest =
    let here = first_none (has_float d) (members_have_float ms) rest in
    let later = second_none (has_float d) (members_have_float ms) rest in
    choice_whole (slice_cmp nat_cmp name k) _ _ _ (rw (one, here) later) (rw one later) (rw here (put_whole name value ms one later))

-- an integer
pub integer_whole : (z : ℤ) → is_float (of_integer z) ≡ false
integer_whole (pos n) = refl
integer_whole (negsuc n) = refl

primitive_whole : (value : Primitive) → has_float (primitive_data value) ≡ false
primitive_whole primitive.Null = refl
primitive_whole (primitive.Flag is_true) = refl
primitive_whole (primitive.Count n) = refl
primitive_whole (primitive.Whole z) = integer_whole z
primitive_whole (primitive.Text text) = refl

-- rows
with_rows_whole : (rows : List (Bor (List ℕ) × Primitive)) (members : Members) → members_have_float members ≡ false
    → members_have_float (with_rows rows members) ≡ false
with_rows_whole [] before rest = rest
with_rows_whole (row ∷ rows) before rest =
    with_rows_whole rows (put row.0.now (primitive_data row.1) before) (put_whole row.0.now (primitive_data row.1) before (primitive_whole row.1) rest)

pub rows_whole : (rows : List (Bor (List ℕ) × Primitive)) → members_have_float (with_rows rows no_members) ≡ false
rows_whole rows = with_rows_whole rows no_members refl
