-- Lists of lines: what holds of each item, and that lines are the issued ones in order.
use Rattle.std.proofs.Common.{◌≡◌, ℕ, zero, suc, ◌+◌, ◌-◌, ◌<◌, ◌≤◌, List, [], ◌∷◌, ◌++◌, length, set, refl, sym, subst, arith}
use Rattle.std.specs.Prelude.{Some, slice_get}
use Rattle.std.specs.List.{remove}
use Rattle.std.proofs.lemmas.Option.{slice_get_within}
use Rattle.octo_session_line_proof.specs.Pieces.{Piece, greeting, command, Sent, intact, corrupted, Each, IsFit, IsGreeting, IsSentLate, IsLineAt, AreLinesFrom, AreAccepted}
use Rattle.send_window.specs.Data.{most_hellos}
use Rattle.octo_session.specs.Sends.{IsIssued}
use Rattle.octo_session_line_proof.specs.Wires.{lines_run}

pub each_push : {X : Type 0} (P : X → Type 0) (xs : List X) (x : X) → Each P xs → P x → Each P (xs ++ x ∷ [])
each_push P [] x all one = (one, tt)
each_push P (y ∷ xs) x all one = (all.0, each_push P xs x all.1 one)

pub each_so : {X : Type 0} (P Q : X → Type 0) → ((x : X) → P x → Q x) → (xs : List X) → Each P xs → Each Q xs
each_so P Q so [] all = tt
each_so P Q so (x ∷ xs) all = (so x all.0, each_so P Q so xs all.1)

pub each_remove : {X : Type 0} (P : X → Type 0) (xs : List X) (at : ℕ) → Each P xs → Each P (remove xs at)
each_remove P [] zero all = tt
each_remove P [] (suc at) all = tt
each_remove P (x ∷ xs) zero all = all.1
each_remove P (x ∷ xs) (suc at) all = (all.0, each_remove P xs at all.1)

pub each_set : {X : Type 0} (P : X → Type 0) (xs : List X) (at : ℕ) (x : X) → Each P xs → P x → Each P (set xs at x)
each_set P [] at x all one = tt
each_set P (y ∷ xs) zero x all one = (one, all.1)
each_set P (y ∷ xs) (suc at) x all one = (all.0, each_set P xs at x all.1 one)

pub each_at : {X : Type 0} (P : X → Type 0) (xs : List X) (at : ℕ) (x : X) → Each P xs → slice_get xs at ≡ Some x → P x
each_at P [] at x all found = absurd (cc)
each_at P (y ∷ xs) zero x all found = let same : y ≡ x = cc in subst P same all.0
each_at P (y ∷ xs) (suc at) x all found = each_at P xs at x all.1 found

pub length-remove_le : {X : Type 0} (xs : List X) (at : ℕ) → length (remove xs at) ≤ length xs
length-remove_le [] zero = omega arith
length-remove_le [] (suc at) = omega arith
length-remove_le (x ∷ xs) zero = omega arith
length-remove_le (x ∷ xs) (suc at) = omega (arith, length-remove_le xs at)

pub none_left : {X : Type 0} (xs : List X) → length xs ≤ 0 → xs ≡ []
none_left [] few = refl
none_left (x ∷ xs) few = absurd (omega arith)

-- a text that was issued stays at its place
pub slice_get-more : {X : Type 0} (xs ys : List X) (at : ℕ) (x : X) → slice_get xs at ≡ Some x → slice_get (xs ++ ys) at ≡ Some x
slice_get-more [] ys at x found = absurd (cc)
slice_get-more (y ∷ xs) ys zero x found = found
slice_get-more (y ∷ xs) ys (suc at) x found = slice_get-more xs ys at x found

pub issued_more : (issued more : List (List ℕ)) (place : ℕ) (text : List ℕ) → IsIssued issued place text → IsIssued (issued ++ more) place text
issued_more issued more place text is = record { counted = is.counted; found = slice_get-more issued more (place - 1) text is.found }

pub sent_more : (issued more : List (List ℕ)) (sent : Sent) → IsSentLate issued sent → IsSentLate (issued ++ more) sent
sent_more issued more (intact (greeting number)) is = absurd is
sent_more issued more (intact (command place text)) is = issued_more issued more place text is
sent_more issued more (corrupted bytes) is = is

-- the text of an issued line may be sent
pub issued_fit : (issued : List (List ℕ)) (place : ℕ) (text : List ℕ) → Each IsFit issued → IsIssued issued place text → IsFit text
issued_fit issued place text fit is = each_at IsFit issued (place - 1) text fit is.found

pub issued_within : (issued : List (List ℕ)) (place : ℕ) (text : List ℕ) → IsIssued issued place text → place ≤ length issued
issued_within issued place text is =
    let within : place - 1 < length issued = slice_get_within issued (place - 1) text is.found in
    omega (arith, is.counted)

-- one more line
pub lines_push : (issued : List (List ℕ)) (place : ℕ) (pieces : List Piece) (at : ℕ) (text : List ℕ) → AreLinesFrom issued place pieces →
    at ≡ place + length pieces → IsIssued issued at text → AreLinesFrom issued place (pieces ++ command at text ∷ [])
lines_push issued place [] at text lines is its = ((omega arith, its), tt)
lines_push issued place (piece ∷ pieces) at text lines is its = (lines.0, lines_push issued (suc place) pieces at text lines.1 (omega arith) its)

-- the first of them
pub lines_front : (issued : List (List ℕ)) (place : ℕ) (xs ys : List Piece) → AreLinesFrom issued place (xs ++ ys) → AreLinesFrom issued place xs
lines_front issued place [] ys lines = tt
lines_front issued place (x ∷ xs) ys lines = (lines.0, lines_front issued (suc place) xs ys lines.1)

-- the line after these
pub lines_at : (issued : List (List ℕ)) (place : ℕ) (xs : List Piece) (y : Piece) (ys : List Piece) → AreLinesFrom issued place (xs ++ y ∷ ys) →
    IsLineAt issued (place + length xs) y
lines_at issued place [] y ys lines =
    let P : ℕ → Type 0 = λ n. IsLineAt issued n y in
    let same : place ≡ place + 0 = omega arith in
    subst P same lines.0
lines_at issued place (x ∷ xs) y ys lines =
    let P : ℕ → Type 0 = λ n. IsLineAt issued n y in
    let same : suc place + length xs ≡ place + length (x ∷ xs) = omega arith in
    subst P same (lines_at issued (suc place) xs y ys lines.1)

line_more : (issued more : List (List ℕ)) (place : ℕ) (piece : Piece) → IsLineAt issued place piece → IsLineAt (issued ++ more) place piece
line_more issued more place (greeting number) is = absurd is
line_more issued more place (command at text) is = (is.0, issued_more issued more at text is.1)

-- more texts are issued
pub lines_more : (issued more : List (List ℕ)) (place : ℕ) (pieces : List Piece) → AreLinesFrom issued place pieces → AreLinesFrom (issued ++ more) place pieces
lines_more issued more place [] lines = tt
lines_more issued more place (piece ∷ pieces) lines = (line_more issued more place piece lines.0, lines_more issued more (suc place) pieces lines.1)

-- there are at most as many as were issued
pub lines_within : (issued : List (List ℕ)) (place : ℕ) (pieces : List Piece) → AreLinesFrom issued (suc place) pieces → place ≤ length issued →
    place + length pieces ≤ length issued
lines_within issued place [] lines within = omega arith
lines_within issued place (greeting number ∷ pieces) lines within = absurd lines.0
lines_within issued place (command at text ∷ pieces) lines within =
    let here : at ≤ length issued = issued_within issued at text lines.0.1 in
    let same : at ≡ suc place = lines.0.0 in
    let more : suc place + length pieces ≤ length issued = lines_within issued (suc place) pieces lines.1 (omega arith) in
    omega arith

-- how many lines two parts have
pub run_append : (xs ys : List Piece) → lines_run (xs ++ ys) ≡ lines_run xs + lines_run ys
run_append [] ys = omega arith
run_append (greeting number ∷ xs) ys = run_append xs ys
run_append (command place text ∷ xs) ys = omega (arith, run_append xs ys)

pub lines_all : (issued : List (List ℕ)) (place : ℕ) (pieces : List Piece) → AreLinesFrom issued place pieces → lines_run pieces ≡ length pieces
lines_all issued place [] lines = refl
lines_all issued place (greeting number ∷ pieces) lines = absurd lines.0
lines_all issued place (command at text ∷ pieces) lines = omega (arith, lines_all issued (suc place) pieces lines.1)

-- hellos alone are accepted, and are no lines
pub greetings_accepted : (issued : List (List ℕ)) (pieces : List Piece) → Each IsGreeting pieces → AreAccepted issued pieces
greetings_accepted issued [] all = tt
greetings_accepted issued (greeting number ∷ pieces) all = (all.0, greetings_accepted issued pieces all.1)
greetings_accepted issued (command place text ∷ pieces) all = absurd all.0

pub greetings_run : (pieces : List Piece) → Each IsGreeting pieces → lines_run pieces ≡ 0
greetings_run [] all = refl
greetings_run (greeting number ∷ pieces) all = greetings_run pieces all.1
greetings_run (command place text ∷ pieces) all = absurd all.0

-- while no line was accepted there are hellos alone
pub none_accepted : (issued : List (List ℕ)) (pieces : List Piece) → AreAccepted issued pieces → lines_run pieces ≡ 0 → Each IsGreeting pieces
none_accepted issued [] accepted none = tt
none_accepted issued (greeting number ∷ pieces) accepted none = (accepted.0, none_accepted issued pieces accepted.1 none)
none_accepted issued (command place text ∷ pieces) accepted none = absurd (omega (arith, none))

-- the first of what was accepted
pub accepted_front : (issued : List (List ℕ)) (xs ys : List Piece) → AreAccepted issued (xs ++ ys) → AreAccepted issued xs
accepted_front issued [] ys accepted = tt
accepted_front issued (greeting number ∷ xs) ys accepted = (accepted.0, accepted_front issued xs ys accepted.1)
accepted_front issued (command place text ∷ xs) ys accepted = lines_front issued 1 (command place text ∷ xs) ys accepted

-- the line after these
pub accepted_at : (issued : List (List ℕ)) (xs : List Piece) (place : ℕ) (text : List ℕ) (ys : List Piece) →
    AreAccepted issued (xs ++ command place text ∷ ys) → IsLineAt issued (1 + lines_run xs) (command place text)
accepted_at issued [] place text ys accepted = accepted.0
accepted_at issued (greeting number ∷ xs) place text ys accepted = accepted_at issued xs place text ys accepted.1
accepted_at issued (command at first ∷ xs) place text ys accepted =
    let count : lines_run (command at first ∷ xs) ≡ length (command at first ∷ xs) =
    lines_all issued 1 (command at first ∷ xs) (lines_front issued 1 (command at first ∷ xs) (command place text ∷ ys) accepted)
    in
    let P : ℕ → Type 0 = λ n. IsLineAt issued (1 + n) (command place text) in
    subst P (sym count) (lines_at issued 1 (command at first ∷ xs) (command place text) ys accepted)

-- a hello after these
pub accepted_greeting : (issued : List (List ℕ)) (xs : List Piece) (number : ℕ) (ys : List Piece) → AreAccepted issued (xs ++ greeting number ∷ ys) → number < most_hellos
accepted_greeting issued [] number ys accepted = accepted.0
accepted_greeting issued (greeting earlier ∷ xs) number ys accepted = accepted_greeting issued xs number ys accepted.1
accepted_greeting issued (command place text ∷ xs) number ys accepted = absurd (lines_at issued 1 (command place text ∷ xs) (greeting number) ys accepted)

-- one more line
pub accepted_push : (issued : List (List ℕ)) (pieces : List Piece) (at : ℕ) (text : List ℕ) → AreAccepted issued pieces →
    at ≡ 1 + lines_run pieces → IsIssued issued at text → AreAccepted issued (pieces ++ command at text ∷ [])
accepted_push issued [] at text accepted is its = ((is, its), tt)
accepted_push issued (greeting number ∷ pieces) at text accepted is its = (accepted.0, accepted_push issued pieces at text accepted.1 is its)
accepted_push issued (command place first ∷ pieces) at text accepted is its =
    lines_push issued 1 (command place first ∷ pieces) at text accepted (omega (arith, is, lines_all issued 1 (command place first ∷ pieces) accepted)) its

-- there are at most as many as were issued
pub accepted_within : (issued : List (List ℕ)) (pieces : List Piece) → AreAccepted issued pieces → lines_run pieces ≤ length issued
accepted_within issued [] accepted = omega arith
accepted_within issued (greeting number ∷ pieces) accepted = accepted_within issued pieces accepted.1
accepted_within issued (command place text ∷ pieces) accepted =
    omega (arith, lines_all issued 1 (command place text ∷ pieces) accepted, lines_within issued 0 (command place text ∷ pieces) accepted (omega arith))

-- more texts are issued
pub accepted_more : (issued more : List (List ℕ)) (pieces : List Piece) → AreAccepted issued pieces → AreAccepted (issued ++ more) pieces
accepted_more issued more [] accepted = tt
accepted_more issued more (greeting number ∷ pieces) accepted = (accepted.0, accepted_more issued more pieces accepted.1)
accepted_more issued more (command place text ∷ pieces) accepted = lines_more issued more 1 (command place text ∷ pieces) accepted
