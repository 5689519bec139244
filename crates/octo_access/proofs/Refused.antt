-- What holds of a user who isn't refused.
use Rattle.std.proofs.Common.{◌≡◌, ◌≢◌, ℕ, ◌≤◌, Bool, true, false, cond, ◌||◌, List, [], length, Option, Some, None, IsSome, is_some, refl, arith}
use Rattle.std.proofs.lemmas.Bool.Decides.{nat_tests}
use Rattle.std.specs.List.{find, count_by, prefix_len, insert}
use Rattle.std.specs.Option.{option_or, option_map}
use Rattle.octo_access.specs.Changes.{bad_group, name_taken, holder, key_taken, full, put_refusal, new_key_taken, refusal_after, change_refusal}
use Rattle.octo_access.specs.Rights.{admin_if, admin_with_key}
use Rattle.octo_access.specs.Rows.{is_before, is_named, has_digest, row_named, with_row, replaced, most_users, IsUserTable}
use Rattle.octo_access.specs.declared.policy.Policy.{Policy}
use Rattle.octo_access.specs.declared.refusal.UserRefusal.{UserRefusal}
use Rattle.octo_access.specs.declared.refusal.UserRefusal.TheVariants.{Full}
use Rattle.octo_access.specs.declared.row.UserRow.{UserRow}
use Rattle.octo_access.proofs.Inserted.{count-none}
use Rattle.octo_access.proofs.Tables.{table-with_row}
use Rattle.byte_text.proofs.OptionLaws.{first-none, second-none, none-if-false}

map-none : {X Y : Type 0} (f : X → Y) (o : Option X) → option_map f o ≡ None → o ≡ None
map-none f None h = refl
map-none f (Some x) h = absurd (cc)

pub second-false : {X : Type 0} (x : X) (a b : Bool) → cond (a || b) (Some x) None ≡ None → b ≡ false
second-false x true b h = absurd (cc)
second-false x false true h = absurd (cc)
second-false x false false h = refl

name-free : (policy : Policy) (name : List ℕ) (rows : List UserRow) → name_taken policy name rows ≡ None → row_named name rows ≡ None
name-free policy name rows h = none-if-false (row_named name rows) (second-false _ _ (is_some (row_named name rows)) h)

pub key-free : (policy : Policy) (digest : List ℕ) (rows : List UserRow) → key_taken policy digest rows ≡ None → find (has_digest digest) rows ≡ None
key-free policy digest rows h =
    map-none (λ (r : UserRow). r.name) (find (has_digest digest) rows) (second-none _ (option_map (λ (r : UserRow). r.name) (find (has_digest digest) rows)) (map-none _ (holder policy digest rows) h))

has-room : (rows : List UserRow) → full rows ≡ None → length rows ≢ most_users
has-room rows h = λ e. absurd (let at : full rows ≡ Some (Full most_users) = rw e refl in cc)

-- a user who isn't refused makes a table with the others
pub table-put : (policy : Policy) (row : UserRow) (rows : List UserRow) → IsUserTable rows → put_refusal policy row rows ≡ None → IsUserTable (with_row row rows)
table-put policy row rows table h =
    let later : option_or (name_taken policy row.name rows) (option_or (key_taken policy row.digest rows) (full rows)) ≡ None = second-none (bad_group policy [] row) _ h in
    let last : option_or (key_taken policy row.digest rows) (full rows) ≡ None = second-none (name_taken policy row.name rows) _ later in
    table-with_row row rows table
    (name-free policy row.name rows (first-none (name_taken policy row.name rows) _ later))
    (key-free policy row.digest rows (first-none (key_taken policy row.digest rows) _ last))
    (has-room rows (second-none (key_taken policy row.digest rows) _ last))

-- the same for rows as the call has them, also if there was no memory
pub rows-put : (policy : Policy) (row copy : UserRow) (rows inside new : List UserRow) (place : ℕ) (ok : Bool) → IsUserTable inside → inside ≡ rows → place ≡ prefix_len (λ (r : UserRow). is_before r.name row.name) rows → copy ≡ row → put_refusal policy row rows ≡ None → new ≡ cond ok (insert inside place copy) inside → IsUserTable new
rows-put policy row copy rows inside new place true table is at same h made = rw (made, is, at, same) (table-put policy row rows (rw is at table) h)
rows-put policy row copy rows inside new place false table is at same h made = rw made table

-- a user who may be changed exists
pub held-if-changed : (policy : Policy) (o : Option UserRow) (row : UserRow) (rows : List UserRow) → refusal_after policy o row rows ≡ None → (former : UserRow) × (o ≡ Some former)
held-if-changed policy None row rows h = absurd (let no = second-none (bad_group policy [] row) _ h in cc)
held-if-changed policy (Some former) row rows h = (former, refl)

key-count : (policy : Policy) (former row : UserRow) (rows : List UserRow) (b : Bool) → IsUserTable rows → has_digest row.digest former ≡ b → cond b None (key_taken policy row.digest rows) ≡ None → count_by (has_digest row.digest) rows ≤ cond b 1 0
key-count policy former row rows true table is h = table.list.keys row.digest
key-count policy former row rows false table is h =
    let none : count_by (has_digest row.digest) rows ≡ 0 = count-none (has_digest row.digest) rows (key-free policy row.digest rows h) in omega arith

-- and only he may have the key
pub key-if-changed : (policy : Policy) (former row : UserRow) (rows : List UserRow) → IsUserTable rows → refusal_after policy (Some former) row rows ≡ None → count_by (has_digest row.digest) rows ≤ cond (has_digest row.digest former) 1 0
key-if-changed policy former row rows table h =
    key-count policy former row rows (has_digest row.digest former) table refl (second-none (bad_group policy former.groups.items row) (new_key_taken policy former row rows) h)
