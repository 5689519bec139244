-- The names in a text of groups are its pieces between the spaces.
use Rattle.std.proofs.Common.{◌≡◌, ◌≢◌, ℕ, ◌<◌, ◌≤◌, Bool, true, false, cond, eqb, List, [], ◌∷◌, length, get_or, All, refl, ap, sym, subst, ◌∙◌, arith, append-nil, true≢false, ne_eqb, eq-eqb, eqb-true}
use Rattle.std.specs.List.{slice_split, onto_first}
use Rattle.std.proofs.lemmas.List.Elements.{All-nil, All-cons, All-head, All-tail, All-weaker}
use Rattle.std.proofs.lemmas.List.Splits.{slice_split_none, slice_split_at, length-slice_split}
use Rattle.octo_keeper_sql.specs.Rows.{joined}
use Rattle.octo_keeper_sql.specs.Holds.{IsGroup, IsTextOf}

-- the pieces of a text between its spaces
abbrev pub pieces : List ℕ → List (List ℕ)
pieces text = slice_split (λ byte. eqb byte 32) text

abbrev pub HasNoSpace : List ℕ → Type 0
HasNoSpace name = All (λ byte. byte ≢ 32) name

unspaced : (name : List ℕ) → HasNoSpace name → All (λ byte. eqb byte 32 ≡ false) name
unspaced name = All-weaker (λ byte. byte ≢ 32) (λ byte. eqb byte 32 ≡ false) (λ byte other. ne_eqb byte 32 other) name

-- a text of names is cut into these names
pieces_of_joined : (name : List ℕ) (names : List (List ℕ)) → All HasNoSpace (name ∷ names) → pieces (joined (name ∷ names)) ≡ name ∷ names
pieces_of_joined name [] whole = ap pieces (append-nil name) ∙ slice_split_none (λ byte. eqb byte 32) name (unspaced name (All-head HasNoSpace name [] whole))
pieces_of_joined name (next ∷ names) whole =
    slice_split_at (λ byte. eqb byte 32) name 32 (joined (next ∷ names)) (unspaced name (All-head HasNoSpace name (next ∷ names) whole)) refl
    ∙ ap (λ rest. name ∷ rest) (pieces_of_joined next names (All-tail HasNoSpace name (next ∷ names) whole))

joined_after : (byte : ℕ) (parts : List (List ℕ)) (b : Bool) → 0 < length parts → eqb byte 32 ≡ b → joined (cond b ([] ∷ parts) (onto_first byte parts)) ≡ byte ∷ joined parts
joined_after byte [] b some is = absurd (omega arith)
joined_after byte (part ∷ parts) true some is = ap (λ first. first ∷ joined (part ∷ parts)) (sym (eqb-true byte 32 is))
joined_after byte (part ∷ parts) false some is = refl

-- the pieces make the text
pub joined_pieces : (text : List ℕ) → joined (pieces text) ≡ text
joined_pieces [] = refl
joined_pieces (byte ∷ text) =
    joined_after byte (pieces text) (eqb byte 32) (omega (arith, length-slice_split (λ b. eqb b 32) text)) refl ∙ ap (λ rest. byte ∷ rest) (joined_pieces text)

no_space_after : (byte : ℕ) (parts : List (List ℕ)) (b : Bool) → All HasNoSpace parts → eqb byte 32 ≡ b → All HasNoSpace (cond b ([] ∷ parts) (onto_first byte parts))
no_space_after byte parts true whole is = All-cons HasNoSpace [] parts (All-nil (λ b. b ≢ 32)) whole
no_space_after byte [] false whole is =
    All-cons HasNoSpace (byte ∷ []) [] (All-cons (λ b. b ≢ 32) byte [] (λ e. true≢false (sym (eq-eqb byte 32 e) ∙ is)) (All-nil (λ b. b ≢ 32))) (All-nil HasNoSpace)
no_space_after byte (part ∷ parts) false whole is =
    All-cons HasNoSpace (byte ∷ part) parts
    (All-cons (λ b. b ≢ 32) byte part (λ e. true≢false (sym (eq-eqb byte 32 e) ∙ is)) (All-head HasNoSpace part parts whole))
    (All-tail HasNoSpace part parts whole)

-- no piece has a space
pub no_space_in_pieces : (text : List ℕ) → All HasNoSpace (pieces text)
no_space_in_pieces [] = All-cons HasNoSpace [] [] (All-nil (λ b. b ≢ 32)) (All-nil HasNoSpace)
no_space_in_pieces (byte ∷ text) = no_space_after byte (pieces text) (eqb byte 32) (no_space_in_pieces text) refl

-- the groups of a text are its pieces
only_pieces : (text : List ℕ) (groups : List (List ℕ)) → 0 < length text → IsTextOf groups text → pieces text ≡ groups
only_pieces text [] some h = absurd (omega (arith, ap length h.is))
only_pieces text (name ∷ names) some h = ap pieces (sym h.is) ∙ pieces_of_joined name names (All-weaker IsGroup HasNoSpace (λ _ group. group.whole) (name ∷ names) h.each)

-- a text with a piece that is no group's name has no groups
pub unfit_piece : (text word : List ℕ) (k : ℕ) → 0 < length text → k < length (pieces text) → word ≡ get_or (pieces text) k word → ¬ IsGroup word
    → (groups : List (List ℕ)) → ¬ IsTextOf groups text
unfit_piece text word k some within is unfit groups h =
    let same = only_pieces text groups some h in
    let inside : k < length groups = omega (arith, ap length same) in
    unfit (subst IsGroup (sym (is ∙ ap (λ (parts : List (List ℕ)). get_or parts k word) same)) (h.each k word inside))

-- nor has one with more than eight pieces
pub too_many_pieces : (text : List ℕ) (k : ℕ) → 0 < length text → k < length (pieces text) → 8 ≤ k → (groups : List (List ℕ)) → ¬ IsTextOf groups text
too_many_pieces text k some within many groups h = omega (arith, ap length (only_pieces text groups some h), h.few)

-- a piece of 1 to 100 bytes is a group's name
pub fit_piece : (text word : List ℕ) (k : ℕ) → k < length (pieces text) → word ≡ get_or (pieces text) k word → 0 < length word → length word ≤ 100 → IsGroup word
fit_piece text word k within is some short = record { some = some; short = short; whole = subst HasNoSpace (sym is) (no_space_in_pieces text k word within) }
