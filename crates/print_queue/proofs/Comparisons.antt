-- The order of entries, and which entry one is.
use Rattle.std.proofs.Common.{◌≡◌, ◌≢◌, ℕ, true, false, List, refl, sym, ◌∙◌, subst, arith}
use Rattle.std.proofs.lemmas.Grind.{common_steps}
use Rattle.std.proofs.lemmas.Bool.{and_parts, and_from, false_from_ne_true, false≢true}
use Rattle.std.proofs.lemmas.Slice.Eq.{bytes_eq-Decides}
use Rattle.std.specs.Str.{bytes_eq}
use Rattle.print_queue.specs.declared.entry.QueueEntry.{QueueEntry}
use Rattle.print_queue.specs.Rows.{is_before, is_key}
use Rattle.print_queue.specs.Lawful.{IsApart}

-- an entry that isn't before another of another arrival comes after it
pub before_turned : (a b : QueueEntry) → is_before a b ≡ false → a.arrival ≢ b.arrival → is_before b a ≡ true
before_turned a b not_before apart = grind (arith, common_steps)

-- of two entries only one is before the other
pub before_one_way : (a b : QueueEntry) → is_before a b ≡ true → is_before b a ≡ false
before_one_way a b before = grind (arith, common_steps)

pub before_chain : (a b c : QueueEntry) → is_before a b ≡ true → is_before b c ≡ true → is_before a c ≡ true
before_chain a b c first second = grind (arith, common_steps)

-- bytes are equal to themselves
pub bytes_same : (bytes : List ℕ) → bytes_eq bytes bytes ≡ true
bytes_same bytes = (bytes_eq-Decides bytes bytes).1 refl

-- an entry of this key has this user and this name
pub key_user : (user name : List ℕ) (row : QueueEntry) → is_key user name row ≡ true → row.user ≡ user
key_user user name row key = (bytes_eq-Decides row.user user).0 (and_parts _ _ key).0

pub key_name : (user name : List ℕ) (row : QueueEntry) → is_key user name row ≡ true → row.name ≡ name
key_name user name row key = (bytes_eq-Decides row.name name).0 (and_parts _ _ key).1

-- an entry has its own key
pub key_own : (row : QueueEntry) → is_key row.user row.name row ≡ true
key_own row = and_from _ _ (bytes_same row.user) (bytes_same row.name)

-- a key that one entry has and another hasn't is not the key of both
pub key_other : (user name : List ℕ) (row other : QueueEntry) → is_key user name row ≡ true → is_key row.user row.name other ≡ false → is_key user name other ≡ false
key_other user name row other key apart =
    let P : List ℕ → List ℕ → Type 0 = λ u n. is_key u n other ≡ false in
    subst (λ (n : List ℕ). P user n) (key_name user name row key) (subst (λ (u : List ℕ). P u row.name) (key_user user name row key) apart)

-- two entries are apart either way
pub apart_turned : (a b : QueueEntry) → IsApart a b → IsApart b a
apart_turned a b apart = record {
  arrival = λ same. apart.arrival (sym same);
  key =
      false_from_ne_true _ (λ key.
      false≢true (
      sym apart.key
      ∙ subst (λ (n : List ℕ). is_key a.user n b ≡ true) (sym (key_name b.user b.name a key))
      (subst (λ (u : List ℕ). is_key u b.name b ≡ true) (sym (key_user b.user b.name a key)) (key_own b))
      ));
}
