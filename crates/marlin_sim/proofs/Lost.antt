-- Replies that are lost, and what is written of several.
use Rattle.std.proofs.Common.{◌≡◌, ℕ, Bool, true, false, cond, List, [], ◌∷◌, ◌++◌, refl, sym, ◌∙◌, ap, append_assoc, append-nil}
use Rattle.std.specs.Prelude.{Result, Ok, Err, OnErr}
use Rattle.std.specs.List.{flat_map}
use Rattle.std.proofs.lemmas.List.Concat.{flat_map-append}
use Rattle.octo_outside.specs.Memory.{one_more, is_listed}
use Rattle.octo_outside.specs.Lists.{with_line_feed}
use Rattle.marlin_sim.specs.Run.{start_text, unlost, number_after}
use Rattle.marlin_sim.specs.Sim.{RepliesData, with_replies}

-- the number after more replies
pub number_after-append : (n : ℕ) (xs ys : List (List ℕ)) → number_after n (xs ++ ys) ≡ number_after (number_after n xs) ys
number_after-append n [] ys = refl
number_after-append n (x ∷ xs) ys = number_after-append (one_more n) xs ys

-- what isn't lost of more replies
pub unlost-append : (lost : List ℕ) (n : ℕ) (xs ys : List (List ℕ)) → unlost lost n (xs ++ ys) ≡ unlost lost n xs ++ unlost lost (number_after n xs) ys
unlost-append lost n [] ys = refl
unlost-append lost n (x ∷ xs) ys =
    let more = unlost-append lost (one_more n) xs ys in
    elim (is_listed lost n) as (λ b. cond b (unlost lost (one_more n) (xs ++ ys)) (x ∷ unlost lost (one_more n) (xs ++ ys)) ≡ cond b (unlost lost (one_more n) xs) (x ∷ unlost lost (one_more n) xs) ++ unlost lost (number_after (one_more n) xs) ys) [
      | true ↦ more
      | false ↦ ap (λ (l : List (List ℕ)). x ∷ l) more
    ]

replies_of : List ℕ → List ℕ → ℕ → RepliesData
replies_of text lost next = record { text = text; lost = lost; next = next }

-- no replies
pub none_more : (r : RepliesData) → with_replies r [] ≡ r
unfolding replies_of
none_more r = ap (λ (text : List ℕ). replies_of text r.lost r.next) (append-nil r.text)

-- one reply, by whether it is lost
pub one_lost : (r : RepliesData) (line : List ℕ) → is_listed r.lost r.next ≡ true → with_replies r (line ∷ []) ≡ record r { next = one_more r.next }
unfolding replies_of
one_lost r line listed =
    ap (λ (b : Bool). replies_of (r.text ++ flat_map with_line_feed (cond b [] (line ∷ []))) r.lost (one_more r.next)) listed
    ∙ ap (λ (text : List ℕ). replies_of text r.lost (one_more r.next)) (append-nil r.text)

pub one_kept : (r : RepliesData) (line : List ℕ) → is_listed r.lost r.next ≡ false →
    with_replies r (line ∷ []) ≡ record { text = r.text ++ with_line_feed line; lost = r.lost; next = one_more r.next }
unfolding replies_of
one_kept r line other =
    ap (λ (b : Bool). replies_of (r.text ++ flat_map with_line_feed (cond b [] (line ∷ []))) r.lost (one_more r.next)) other
    ∙ ap (λ (text : List ℕ). replies_of (r.text ++ text) r.lost (one_more r.next)) (append-nil (with_line_feed line))

-- replies, and then more
pub more_then : (r : RepliesData) (xs ys : List (List ℕ)) → with_replies (with_replies r xs) ys ≡ with_replies r (xs ++ ys)
unfolding replies_of
more_then r xs ys =
    let first = unlost r.lost r.next xs in
    let later = unlost r.lost (number_after r.next xs) ys in
    let text : (r.text ++ flat_map with_line_feed first) ++ flat_map with_line_feed later ≡ r.text ++ flat_map with_line_feed (unlost r.lost r.next (xs ++ ys)) =
    append_assoc r.text (flat_map with_line_feed first) (flat_map with_line_feed later)
    ∙ ap (λ (l : List ℕ). r.text ++ l) (sym (flat_map-append with_line_feed first later))
    ∙ ap (λ (l : List (List ℕ)). r.text ++ flat_map with_line_feed l) (sym (unlost-append r.lost r.next xs ys))
    in
    ap (λ (t : List ℕ). replies_of t r.lost (number_after (number_after r.next xs) ys)) text
    ∙ ap (λ (n : ℕ). replies_of (r.text ++ flat_map with_line_feed (unlost r.lost r.next (xs ++ ys))) r.lost n) (sym (number_after-append r.next xs ys))

-- after an error
pub on_err : {T E : Type 0} {P Q : Type 0} (r : Result T E) → (P → Q) → OnErr r P → OnErr r Q
on_err (Ok x) so known = tt
on_err (Err e) so known = so known

-- after an error, and after none
pub after_err : {T E : Type 0} {P : Type 0} (r : Result T E) → P → OnErr r P
after_err (Ok x) known = tt
after_err (Err e) known = known

-- three replies, one by one
pub three_more : (r : RepliesData) (a b c : List ℕ) → with_replies (with_replies (with_replies r (a ∷ [])) (b ∷ [])) (c ∷ []) ≡ with_replies r (a ∷ b ∷ c ∷ [])
three_more r a b c =
    ap (λ (q : RepliesData). with_replies q (c ∷ [])) (more_then r (a ∷ []) (b ∷ [])) ∙ more_then r (a ∷ b ∷ []) (c ∷ [])

-- what is written after more replies of a run
pub more_written : (r : RepliesData) (lost wrote : List ℕ) (down more : List (List ℕ)) → r.lost ≡ lost → r.next ≡ number_after 1 down →
    start_text ++ flat_map with_line_feed (unlost lost 1 down) ≡ wrote ++ r.text →
    start_text ++ flat_map with_line_feed (unlost lost 1 (down ++ more)) ≡ wrote ++ (with_replies r more).text
more_written r lost wrote down more lost_is next_is wrote_is =
    let later = unlost r.lost r.next more in
    let all : unlost lost 1 (down ++ more) ≡ unlost lost 1 down ++ later =
    unlost-append lost 1 down more
    ∙ ap (λ (n : ℕ). unlost lost 1 down ++ unlost lost n more) (sym next_is)
    ∙ ap (λ (l : List ℕ). unlost lost 1 down ++ unlost l r.next more) (sym lost_is)
    in
    ap (λ (l : List (List ℕ)). start_text ++ flat_map with_line_feed l) all
    ∙ ap (λ (l : List ℕ). start_text ++ l) (flat_map-append with_line_feed (unlost lost 1 down) later)
    ∙ sym (append_assoc start_text (flat_map with_line_feed (unlost lost 1 down)) (flat_map with_line_feed later))
    ∙ ap (λ (l : List ℕ). l ++ flat_map with_line_feed later) wrote_is
    ∙ append_assoc wrote r.text (flat_map with_line_feed later)
