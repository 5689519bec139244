-- What a look at the first bytes says of the parts of a chunked body.
use Rattle.std.proofs.Common.{◌≡◌, ℕ, ◌+◌, ◌<◌, ◌≤◌, Bool, true, false, ◌&&◌, List, [], ◌∷◌, ◌++◌, length, take, refl, sym, ◌∙◌, subst, append_assoc, arith, get_or}
use Rattle.std.proofs.lemmas.List.{get_or-take, length-take-le}
use Rattle.std.specs.Prelude.{◌==◌, if◌then◌else◌}
use Rattle.memchr.specs.Find.{OccursAt, NoneBefore}
use Rattle.octo_http.specs.Part.{crlf, crlf_crlf, TrailersEnd, at_once, later, IsFoundPart}
use Rattle.octo_http.specs.declared.part.Part.{Part}
use Rattle.octo_http.specs.declared.part.Part.TheVariants.{Line, LineEnd, Trailers}
use Rattle.octo_http.specs.declared.part.Ending.TheVariants.{Whole, Cut, Other}
use Rattle.octo_http.specs.Part.{ending_of, IsNoPart}
use Rattle.httparse.specs.Grammar.{HasNoChunkLine}

-- a byte of a front
front_byte : (n i : ℕ) (bytes : List ℕ) → i < n → get_or (take n bytes) i 0 ≡ get_or bytes i 0
front_byte n i bytes below = get_or-take n bytes i 0 below

-- what occurs within a front occurs in it
occurs_front : (bytes needle : List ℕ) (k n : ℕ) → n ≤ length bytes → k + length needle ≤ n → OccursAt bytes needle k → OccursAt (take n bytes) needle k
occurs_front bytes needle k n within fits occurs = record {
  fits = omega (arith, length-take-le n bytes within, fits);
  reads = λ j below. front_byte n (k + j) bytes (omega (arith, below, fits)) ∙ occurs.reads j below;
}

-- what occurs in a front occurs
occurs_whole : (bytes needle : List ℕ) (k n : ℕ) → n ≤ length bytes → OccursAt (take n bytes) needle k → OccursAt bytes needle k
occurs_whole bytes needle k n within occurs =
    let fits : k + length needle ≤ n = omega (arith, length-take-le n bytes within, occurs.fits) in
    record {
      fits = omega (arith, fits, within);
      reads = λ j below. sym (front_byte n (k + j) bytes (omega (arith, below, fits))) ∙ occurs.reads j below;
    }

-- an empty line at once
pub ends_at_once : (bytes : List ℕ) → length bytes ≤ 16384 → OccursAt bytes crlf 0 → IsFoundPart Trailers bytes (0, 2)
ends_at_once bytes short occurs =
    let two : 2 ≤ length bytes = occurs.fits in
    let long : length (take 2 bytes) ≡ 2 = length-take-le 2 bytes two in
    let End : ℕ → Type 0 = λ n. TrailersEnd (take 2 bytes) n in
    record {
      within = two;
      is = (omega (arith, long), subst End (sym long) (at_once (take 2 bytes) (occurs_front bytes crlf 0 2 two (omega arith) occurs)));
    }

-- an empty line after other lines
pub ends_later : (bytes : List ℕ) (place : ℕ) → length bytes ≤ 16384 → ¬ (OccursAt bytes crlf 0)
    → NoneBefore (OccursAt bytes crlf_crlf) 0 (length bytes + 1) place → OccursAt bytes crlf_crlf place → IsFoundPart Trailers bytes (0, place + 4)
ends_later bytes place short not_first none occurs =
    let n : ℕ = place + 4 in
    let within : place + 4 ≤ length bytes = occurs.fits in
    let long : length (take (place + 4) bytes) ≡ place + 4 = length-take-le (place + 4) bytes within in
    let End : ℕ → Type 0 = λ m. TrailersEnd (take (place + 4) bytes) m in
    record {
      within = within;
      is = (
        omega (arith, long, within, short),
        subst End (sym long) (later (take (place + 4) bytes) place
            (λ first. not_first (occurs_whole bytes crlf 0 (place + 4) within first))
            (λ k low high at. none.before k low high (occurs_whole bytes crlf_crlf k (place + 4) within at))
            (occurs_front bytes crlf_crlf place (place + 4) within (omega arith) occurs)),
      );
    }

-- bytes that can't become a part can't with more after them
pub never_more : (part : Part) (front rest : List ℕ) → IsNoPart part front → IsNoPart part (front ++ rest)
never_more Line front rest never = λ more.
    let No : List ℕ → Type 0 = λ text. HasNoChunkLine text in
    subst No (sym (append_assoc front rest more)) (never (rest ++ more))
never_more LineEnd front rest never = other_more front rest never
  where
    other_more : (a b : List ℕ) → ending_of a ≡ Other → ending_of (a ++ b) ≡ Other
    other_more [] b h = cc
    other_more (x ∷ []) [] h = h
    other_more (x ∷ []) (y ∷ b) h = one (x == 13) h
      where
        one : (t : Bool) → (if t then Cut else Other) ≡ Other → (if t && (y == 10) then Whole else Other) ≡ Other
        one true e = cc
        one false e = refl
    other_more (x ∷ y ∷ a) b h = h
never_more Trailers front rest never = absurd never
