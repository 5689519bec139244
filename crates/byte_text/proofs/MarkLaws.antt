-- Marks in joined bytes, and what is around the last place of a byte.
use Rattle.std.proofs.Common.{◌≡◌, ◌≢◌, ℕ, suc, ◌+◌, ◌-◌, ◌<◌, ◌≤◌, true, false, not, ◌||◌, ◌&&◌, ◌==◌, eqb, nat_eq, List, [], ◌∷◌, ◌++◌, length, get_or, take, drop, codes, sym, ap, ◌∙◌, refl, arith}
use Rattle.std.specs.List.{list_any, starts_with, before_last, after_last, suffix_len}
use Rattle.std.proofs.lemmas.Bool.{or_parts, or_from, and_left, ne_eqb, eq-eqb, eqb-false, false≢true}
use Rattle.std.proofs.Math.Bool.{or_assoc}
use Rattle.std.proofs.lemmas.List.{at_drop_more, drop_more, drop_all, drop_at, take_at, get_or_at, get_or_default, get_or-append_right, length-append, append_assoc, take_rest}
use Rattle.std.proofs.lemmas.List.Folds.{list_any-append, list_any_at, list_any_none}
use Rattle.std.proofs.lemmas.List.Sums.{suffix_len_is}
use Rattle.byte_text.specs.Marks.{contains_text, has_m110, has_byte}

pub has_byte-append : (byte : ℕ) (front back : List ℕ) → has_byte byte (front ++ back) ≡ (has_byte byte front || has_byte byte back)
unfolding has_byte
has_byte-append byte front back = list_any-append (λ b. b == byte) front back

-- whether `M110` is at the front doesn't change if a byte that isn't in it and more bytes follow
m110_in_front : (byte : ℕ) (front back : List ℕ) → eqb 77 byte ≡ false → eqb 49 byte ≡ false → eqb 48 byte ≡ false → starts_with nat_eq (front ++ byte ∷ back) (codes "M110") ≡ starts_with nat_eq front (codes "M110")
m110_in_front byte [] back m one zero = and_left _ _ m
m110_in_front byte (a ∷ []) back m one zero = ap (λ t. eqb 77 a && t) (and_left _ _ one)
m110_in_front byte (a ∷ b ∷ []) back m one zero = ap (λ t. eqb 77 a && (eqb 49 b && t)) (and_left _ _ one)
m110_in_front byte (a ∷ b ∷ c ∷ []) back m one zero = ap (λ t. eqb 77 a && (eqb 49 b && (eqb 49 c && t))) (and_left _ _ zero)
m110_in_front byte (a ∷ b ∷ c ∷ d ∷ front) back m one zero = refl

m110_around : (byte : ℕ) (front back : List ℕ) → eqb 77 byte ≡ false → eqb 49 byte ≡ false → eqb 48 byte ≡ false → contains_text (codes "M110") (front ++ byte ∷ back) ≡ (contains_text (codes "M110") front || contains_text (codes "M110") back)
m110_around byte [] back m one zero = ap (λ t. t || contains_text (codes "M110") back) (m110_in_front byte [] back m one zero)
m110_around byte (a ∷ front) back m one zero =
    ap (λ t. t || contains_text (codes "M110") (front ++ byte ∷ back)) (m110_in_front byte (a ∷ front) back m one zero)
    ∙ ap (λ t. starts_with nat_eq (a ∷ front) (codes "M110") || t) (m110_around byte front back m one zero)
    ∙ sym (or_assoc (starts_with nat_eq (a ∷ front) (codes "M110")) (contains_text (codes "M110") front) (contains_text (codes "M110") back))

pub has_m110-around : (byte : ℕ) (front back : List ℕ) → has_byte byte (codes "M110") ≡ false → has_m110 (front ++ byte ∷ back) ≡ (has_m110 front || has_m110 back)
unfolding has_m110 has_byte
has_m110-around byte front back apart =
    let m = or_parts _ _ apart in
    let one = or_parts _ _ m.1 in
    let zero = or_parts _ _ (or_parts _ _ one.1).1 in
    m110_around byte front back m.0 one.0 zero.0

m110_needs_m : (bytes : List ℕ) → list_any (λ b. b == 77) bytes ≡ false → contains_text (codes "M110") bytes ≡ false
m110_needs_m [] none = refl
m110_needs_m (byte ∷ bytes) none =
    let parts = or_parts (byte == 77) (list_any (λ b. b == 77) bytes) none in
    or_from _ _ (and_left _ _ (ne_eqb 77 byte (λ same. eqb-false byte 77 parts.0 (sym same)))) (m110_needs_m bytes parts.1)

pub has_m110-no_m : (bytes : List ℕ) → has_byte 77 bytes ≡ false → has_m110 bytes ≡ false
unfolding has_m110 has_byte
has_m110-no_m bytes none = m110_needs_m bytes none

-- one step of a search for `M110`
pub has_m110_at : (bytes : List ℕ) (i : ℕ) → i < length bytes → has_m110 (drop i bytes) ≡ (starts_with nat_eq (drop i bytes) (codes "M110") || has_m110 (drop (i + 1) bytes))
unfolding has_m110
has_m110_at bytes i within =
    at_drop_more (contains_text (codes "M110")) bytes i 0 within
    ∙ ap (λ rest. starts_with nat_eq rest (codes "M110") || contains_text (codes "M110") (drop (i + 1) bytes)) (sym (drop_more bytes i 0 within))

pub has_m110_end : (bytes : List ℕ) (i : ℕ) → length bytes ≤ i → has_m110 (drop i bytes) ≡ false
unfolding has_m110
has_m110_end bytes i past = ap (contains_text (codes "M110")) (drop_all i bytes past)

no_byte_suffix : (byte : ℕ) (bytes : List ℕ) (k : ℕ) → get_or bytes k 0 ≢ byte → not (get_or bytes k 0 == byte) ≡ true
no_byte_suffix byte bytes k other = ap not (ne_eqb (get_or bytes k 0) byte other)

-- how far the last place of a byte is from the end
pub last_place : (byte : ℕ) (bytes : List ℕ) (n : ℕ) → n < length bytes → get_or bytes n 0 ≡ byte → ((k : ℕ) → n < k → k < length bytes → get_or bytes k 0 ≢ byte) → suffix_len (λ b. not (b == byte)) bytes ≡ length bytes - (n + 1)
last_place byte bytes n within here others =
    suffix_len_is (λ b. not (b == byte)) bytes (n + 1) 0 (omega arith)
    (λ k low high. no_byte_suffix byte bytes k (others k (omega arith) high))
    (λ _. let e : n + 1 - 1 ≡ n = omega arith in rw e (ap not (eq-eqb (get_or bytes n 0) byte here)))

pub before_last_is : (byte : ℕ) (bytes : List ℕ) (n : ℕ) → n < length bytes → get_or bytes n 0 ≡ byte → ((k : ℕ) → n < k → k < length bytes → get_or bytes k 0 ≢ byte) → take n bytes ≡ before_last (λ b. b == byte) bytes
before_last_is byte bytes n within here others =
    let e = last_place byte bytes n within here others in
    ap (λ k. take k bytes) (omega (arith, e))

pub after_last_is : (byte : ℕ) (bytes : List ℕ) (n : ℕ) → n < length bytes → get_or bytes n 0 ≡ byte → ((k : ℕ) → n < k → k < length bytes → get_or bytes k 0 ≢ byte) → drop (n + 1) bytes ≡ after_last (λ b. b == byte) bytes
after_last_is byte bytes n within here others =
    let e = last_place byte bytes n within here others in
    ap (λ k. drop k bytes) (omega (arith, e))

pub has_byte_at : (byte : ℕ) (bytes : List ℕ) (n : ℕ) → n < length bytes → get_or bytes n 0 ≡ byte → has_byte byte bytes ≡ true
unfolding has_byte
has_byte_at byte bytes n within here = list_any_at (λ b. b == byte) bytes n 0 within (eq-eqb (get_or bytes n 0) byte here)

pub has_byte_nowhere : (byte : ℕ) (bytes : List ℕ) → ((k : ℕ) → k < length bytes → get_or bytes k 0 ≢ byte) → has_byte byte bytes ≡ false
unfolding has_byte
has_byte_nowhere byte bytes others =
    list_any_none (λ b. b == byte) bytes (λ k d within. ne_eqb (get_or bytes k d) byte (λ same. others k within (get_or_default bytes k 0 d within ∙ same)))

-- if a byte isn't in a list, it isn't what a place holds
pub has_byte_none : (byte : ℕ) (bytes : List ℕ) → has_byte byte bytes ≡ false → (k : ℕ) → k < length bytes → get_or bytes k 0 ≢ byte
has_byte_none byte bytes none k within = λ same. false≢true (sym none ∙ has_byte_at byte bytes k within same)

others_behind : (byte : ℕ) (front back : List ℕ) → has_byte byte back ≡ false → (k : ℕ) → length front < k → k < length (front ++ byte ∷ back) → get_or (front ++ byte ∷ back) k 0 ≢ byte
others_behind byte front back none k behind within =
    let there : k - length front - 1 < length back = omega (arith, length-append front (byte ∷ back)) in
    let at : k - length front ≡ suc (k - length front - 1) = omega arith in
    let moved : get_or (front ++ byte ∷ back) k 0 ≡ get_or back (k - length front - 1) 0 =
    get_or-append_right front (byte ∷ back) (length front) k 0 refl (omega arith) ∙ ap (λ j. get_or (byte ∷ back) j 0) at in
    λ same. has_byte_none byte back none (k - length front - 1) there (sym moved ∙ same)

pub before_last-append : (byte : ℕ) (front back : List ℕ) → has_byte byte back ≡ false → before_last (λ b. b == byte) (front ++ byte ∷ back) ≡ front
before_last-append byte front back none =
    sym (before_last_is byte (front ++ byte ∷ back) (length front) (omega (arith, length-append front (byte ∷ back))) (get_or_at front byte back 0 (length front) refl) (others_behind byte front back none))
    ∙ take_at front (byte ∷ back) (length front) refl

pub after_last-append : (byte : ℕ) (front back : List ℕ) → has_byte byte back ≡ false → after_last (λ b. b == byte) (front ++ byte ∷ back) ≡ back
after_last-append byte front back none =
    sym (after_last_is byte (front ++ byte ∷ back) (length front) (omega (arith, length-append front (byte ∷ back))) (get_or_at front byte back 0 (length front) refl) (others_behind byte front back none))
    ∙ ap (λ k. drop k (front ++ byte ∷ back)) (omega (arith, length-append front (byte ∷ [])))
    ∙ ap (drop (length (front ++ byte ∷ []))) (sym (append_assoc front (byte ∷ []) back))
    ∙ drop_at (front ++ byte ∷ []) back (length (front ++ byte ∷ [])) refl

-- if a byte isn't in a list, nothing is before its last place and all is after it
no_last_place : (byte : ℕ) (bytes : List ℕ) → has_byte byte bytes ≡ false → suffix_len (λ b. not (b == byte)) bytes ≡ length bytes
no_last_place byte bytes none =
    suffix_len_is (λ b. not (b == byte)) bytes 0 0 (omega arith) (λ k low high. no_byte_suffix byte bytes k (has_byte_none byte bytes none k high)) (λ some. absurd (omega arith))
    ∙ omega arith

pub before_last_none : (byte : ℕ) (bytes : List ℕ) → has_byte byte bytes ≡ false → before_last (λ b. b == byte) bytes ≡ []
before_last_none byte bytes none =
    let e = no_last_place byte bytes none in
    let zero : length bytes - suffix_len (λ b. not (b == byte)) bytes - 1 ≡ 0 = omega (arith, e) in
    ap (λ k. take k bytes) zero

pub after_last_none : (byte : ℕ) (bytes : List ℕ) → has_byte byte bytes ≡ false → after_last (λ b. b == byte) bytes ≡ bytes
after_last_none byte bytes none =
    let e = no_last_place byte bytes none in
    let zero : length bytes - suffix_len (λ b. not (b == byte)) bytes ≡ 0 = omega (arith, e) in
    ap (λ k. drop k bytes) zero

-- the steps and the end of a search for `M110`
pub ruleset m110_steps = (has_m110_at, has_m110_end, take_rest)
