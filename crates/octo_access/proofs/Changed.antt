-- A table with one of its rows replaced or taken out.
use Rattle.std.proofs.Common.{◌≡◌, ◌≢◌, ℕ, ◌+◌, ◌<◌, ◌≤◌, Bool, true, false, cond, not, List, [], length, get_or, Option, Some, None, IsSome, refl, sym, ap, ◌∙◌, arith, inl, inr}
use Rattle.std.proofs.Math.ListN.{set, length-set}
use Rattle.std.proofs.lemmas.Bool.{cases_eq}
use Rattle.std.proofs.lemmas.Grind.{get_or-set_at}
use Rattle.std.proofs.lemmas.List.{get_or-set_other, get_or_default}
use Rattle.std.proofs.lemmas.List.Kept.{IsSortedBy-filter}
use Rattle.std.proofs.lemmas.List.Sums.{sum_by-set, length-filter, count_by-le-length}
use Rattle.std.specs.Cmp.Lexicographic.{bytes_decides}
use Rattle.std.specs.List.{find, count_by, position_or_len, filter}
use Rattle.std.specs.Option.{IfSome}
use Rattle.std.specs.Str.{bytes_eq}
use Rattle.octo_access.specs.Changes.{change_refusal, refusal_after}
use Rattle.octo_access.specs.Rows.{is_before, is_named, has_digest, row_named, without, replaced, most_users, IsUserTable}
use Rattle.octo_access.specs.declared.policy.Policy.{Policy}
use Rattle.octo_access.specs.declared.row.UserRow.{UserRow}
use Rattle.octo_access.proofs.Found.{found-place, found-there, found-passes, only-one}
use Rattle.octo_access.proofs.Inserted.{count-none}
use Rattle.octo_access.proofs.Refused.{held-if-changed, key-if-changed}
use Rattle.octo_access.proofs.Tables.{by_name}
use Rattle.byte_text.proofs.ListLaws.{count-filter}

-- the names by place stay, if a row is put over one of its name
name-kept : (row former : UserRow) (rows : List UserRow) (i : ℕ) → i < length rows → get_or rows i former ≡ former → former.name ≡ row.name → (j : ℕ) (d : UserRow) → j < length rows → (get_or (set rows i row) j d).name ≡ (get_or rows j d).name
name-kept row former rows i within at same j d below =
    elim (cases_eq j i) [
      | inl here ↦ ap (λ (r : UserRow). r.name) (get_or-set_at rows i j row d here within) ∙ sym same ∙ ap (λ (r : UserRow). r.name) (sym (ap (λ k. get_or rows k d) here ∙ get_or_default rows i d former within ∙ at))
      | inr other ↦ ap (λ (r : UserRow). r.name) (get_or-set_other rows i j row d other)
    ]

count-set : (test : UserRow → Bool) (row former : UserRow) (rows : List UserRow) (i : ℕ) → i < length rows → get_or rows i former ≡ former → count_by test (set rows i row) + cond (test former) 1 0 ≡ count_by test rows + cond (test row) 1 0
count-set test row former rows i within at = rw at at (sum_by-set (λ r. cond (test r) 1 0) rows i row former within)

-- a count after a replacement: of what counts alike, and of what now counts one
as-before : (after out before into : ℕ) → after + out ≡ before + into → out ≡ into → before ≤ 1 → after ≤ 1
as-before after out before into counts alike few = omega arith

one-more : (after out before into : ℕ) → after + out ≡ before + into → into ≡ 1 → before ≤ out → after ≤ 1
one-more after out before into counts one own = omega arith

no-more : (after out before into : ℕ) → after + out ≡ before + into → into ≡ 0 → before ≤ 1 → after ≤ 1
no-more after out before into counts none few = omega arith

-- each name as often as before, if the row replaced has the name
names-replaced : (row former : UserRow) (rows : List UserRow) (i : ℕ) → i < length rows → get_or rows i former ≡ former → former.name ≡ row.name → (name : List ℕ) → count_by (is_named name) rows ≤ 1 → count_by (is_named name) (set rows i row) ≤ 1
names-replaced row former rows i within at same name few =
    as-before _ (cond (is_named name former) 1 0) _ (cond (is_named name row) 1 0) (count-set (is_named name) row former rows i within at) (ap (λ n. cond (bytes_eq n name) 1 0) same) few

keys-at : (row former : UserRow) (rows : List UserRow) (i : ℕ) (digest : List ℕ) (b : Bool) → has_digest digest row ≡ b → count_by (has_digest digest) (set rows i row) + cond (has_digest digest former) 1 0 ≡ count_by (has_digest digest) rows + cond (has_digest digest row) 1 0 → count_by (has_digest digest) rows ≤ 1 → (b ≡ true → count_by (has_digest digest) rows ≤ cond (has_digest digest former) 1 0) → count_by (has_digest digest) (set rows i row) ≤ 1
keys-at row former rows i digest true is counts few own = one-more _ (cond (has_digest digest former) 1 0) _ (cond (has_digest digest row) 1 0) counts (ap (λ b. cond b 1 0) is) (own refl)
keys-at row former rows i digest false is counts few own = no-more _ (cond (has_digest digest former) 1 0) _ (cond (has_digest digest row) 1 0) counts (ap (λ b. cond b 1 0) is) few

-- each key at most once, if no other row has the new one
keys-replaced : (row former : UserRow) (rows : List UserRow) (i : ℕ) → i < length rows → get_or rows i former ≡ former → count_by (has_digest row.digest) rows ≤ cond (has_digest row.digest former) 1 0 → (digest : List ℕ) → count_by (has_digest digest) rows ≤ 1 → count_by (has_digest digest) (set rows i row) ≤ 1
keys-replaced row former rows i within at own digest few =
    keys-at row former rows i digest (has_digest digest row) refl (count-set (has_digest digest) row former rows i within at) few
    (λ same. let e : row.digest ≡ digest = (bytes_decides row.digest digest).0 same in rw e at own)

-- a row in the place of one with its name
pub table-replaced : (row former : UserRow) (rows : List UserRow) → IsUserTable rows → row_named row.name rows ≡ Some former → count_by (has_digest row.digest) rows ≤ cond (has_digest row.digest former) 1 0 → IsUserTable (replaced row rows)
table-replaced row former rows table there own =
    let i : ℕ = position_or_len (is_named row.name) rows in
    let within : position_or_len (is_named row.name) rows < length rows = found-place (is_named row.name) former rows there in
    let at : get_or rows (position_or_len (is_named row.name) rows) former ≡ former = found-there (is_named row.name) former former rows there in
    let same : former.name ≡ row.name = (bytes_decides former.name row.name).0 (found-passes (is_named row.name) former rows there) in
    let few : length rows ≤ most_users = table.list.few in
    let long : length (replaced row rows) ≡ length rows = length-set rows (position_or_len (is_named row.name) rows) row in
    record {
      list = record {
        names = λ n. names-replaced row former rows i within at same n (table.list.names n);
        keys = λ k. keys-replaced row former rows i within at own k (table.list.keys k);
        few = rw long few;
      };
      ordered = λ k d low high.
          let inside : k + 1 < length rows = rw long at high in
          rw (name-kept row former rows i within at same (k + 1) d inside, name-kept row former rows i within at same k d (omega arith)) (table.ordered k d low inside);
    }

-- a change that isn't refused
pub table-changed : (policy : Policy) (row : UserRow) (rows : List UserRow) → IsUserTable rows → change_refusal policy row rows ≡ None → IsUserTable (replaced row rows)
table-changed policy row rows table h =
    let (former, there) = held-if-changed policy (row_named row.name rows) row rows h in
    table-replaced row former rows table there (key-if-changed policy former row rows table (rw there at h))

own-key : (row former : UserRow) (rows : List UserRow) (o : Option UserRow) → IsUserTable rows → find (has_digest row.digest) rows ≡ o → row_named row.name rows ≡ Some former → IfSome o (λ other. other.name ≡ row.name) → count_by (has_digest row.digest) rows ≤ cond (has_digest row.digest former) 1 0
own-key row former rows None table is there own = let none : count_by (has_digest row.digest) rows ≡ 0 = count-none (has_digest row.digest) rows is in omega arith
own-key row former rows (Some other) table is there own =
    let named : is_named row.name other ≡ true = (bytes_decides other.name row.name).1 own in
    let same : row_named row.name rows ≡ Some other = only-one (has_digest row.digest) (is_named row.name) other rows named is (table.list.names row.name) in
    let e : other ≡ former = cc in
    let passes : has_digest row.digest former ≡ true = rw e at (found-passes (has_digest row.digest) other rows is) in
    rw passes (table.list.keys row.digest)

some-held : (o : Option UserRow) → IsSome o → (row : UserRow) × (o ≡ Some row)
some-held None h = absurd (cc)
some-held (Some row) h = (row, refl)

-- a row that is put back
pub table-restored : (row : UserRow) (rows : List UserRow) → IsUserTable rows → IsSome (row_named row.name rows) → IfSome (find (has_digest row.digest) rows) (λ other. other.name ≡ row.name) → IsUserTable (replaced row rows)
table-restored row rows table there own =
    let (former, is) = some-held (row_named row.name rows) there in
    table-replaced row former rows table is (own-key row former rows (find (has_digest row.digest) rows) table refl is own)

-- the place of a row that exists
pub place-held : (name : List ℕ) (rows : List UserRow) → IsSome (row_named name rows) → position_or_len (is_named name) rows < length rows
place-held name rows there = let (former, is) = some-held (row_named name rows) there in found-place (is_named name) former rows is

pub place-changed : (policy : Policy) (row : UserRow) (rows : List UserRow) → change_refusal policy row rows ≡ None → position_or_len (is_named row.name) rows < length rows
place-changed policy row rows h =
    let (former, there) = held-if-changed policy (row_named row.name rows) row rows h in found-place (is_named row.name) former rows there

-- the rows but one
pub table-without : (name : List ℕ) (rows : List UserRow) → IsUserTable rows → IsUserTable (without name rows)
table-without name rows table =
    let kept : UserRow → Bool = λ row. not (is_named name row) in
    let few : length rows ≤ most_users = table.list.few in
    let shorter : length (without name rows) ≤ length rows = omega (arith, length-filter (λ row. not (is_named name row)) rows, count_by-le-length (λ row. not (is_named name row)) rows) in
    record {
      list = record {
        names = λ n. let all : count_by (is_named n) rows ≤ 1 = table.list.names n in omega (arith, count-filter (is_named n) (λ row. not (is_named name row)) rows);
        keys = λ k. let all : count_by (has_digest k) rows ≤ 1 = table.list.keys k in omega (arith, count-filter (has_digest k) (λ row. not (is_named name row)) rows);
        few = omega arith;
      };
      ordered = IsSortedBy-filter (λ (a b : UserRow). is_before a.name b.name) by_name (λ row. not (is_named name row)) rows table.ordered;
    }

-- The same for a place and rows as the calls have them.
pub index-changed : (policy : Policy) (row : UserRow) (rows inside : List UserRow) (place : ℕ) → inside ≡ rows → place ≡ position_or_len (is_named row.name) rows → change_refusal policy row rows ≡ None → place < length inside
index-changed policy row rows inside place is at h = rw (is, at) (place-changed policy row rows h)

pub set-changed : (policy : Policy) (row copy : UserRow) (rows inside : List UserRow) (place : ℕ) → IsUserTable inside → inside ≡ rows → place ≡ position_or_len (is_named row.name) rows → copy ≡ row → change_refusal policy row rows ≡ None → IsUserTable (set inside place copy)
set-changed policy row copy rows inside place table is at same h = rw (is, at, same) (table-changed policy row rows (rw is at table) h)

pub held-changed : (policy : Policy) (row found : UserRow) (rows inside : List UserRow) (place : ℕ) → inside ≡ rows → place ≡ position_or_len (is_named row.name) rows → found ≡ get_or inside place found → change_refusal policy row rows ≡ None → row_named row.name rows ≡ Some found
held-changed policy row found rows inside place is at there h =
    let (former, held_is) = held-if-changed policy (row_named row.name rows) row rows h in
    held_is ∙ ap (λ (r : UserRow). Some r) (sym (there ∙ ap (λ (rs : List UserRow). get_or rs place found) is ∙ ap (λ k. get_or rows k found) at ∙ found-there (is_named row.name) former found rows held_is))

pub index-restored : (name : List ℕ) (rows inside : List UserRow) (place : ℕ) → inside ≡ rows → place ≡ position_or_len (is_named name) rows → IsSome (row_named name rows) → place < length inside
index-restored name rows inside place is at there = rw (is, at) (place-held name rows there)

pub set-restored : (row copy : UserRow) (rows inside : List UserRow) (place : ℕ) → IsUserTable inside → inside ≡ rows → place ≡ position_or_len (is_named row.name) rows → copy ≡ row → IsSome (row_named row.name rows) → IfSome (find (has_digest row.digest) rows) (λ other. other.name ≡ row.name) → IsUserTable (set inside place copy)
set-restored row copy rows inside place table is at same there own = rw (is, at, same) (table-restored row rows (rw is at table) there own)

pub table-left : (name : List ℕ) (rows left : List UserRow) → IsUserTable rows → left ≡ without name rows → IsUserTable left
table-left name rows left table is = rw is (table-without name rows table)
