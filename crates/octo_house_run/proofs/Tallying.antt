-- What a run counts as its history grows.
use Rattle.std.proofs.Common.{◌≡◌, ◌⊎◌, inl, inr, ℕ, ◌+◌, ◌≤◌, Bool, true, false, ◌||◌, ◌&&◌, not, nat_lt, [], ◌∷◌, ◌++◌, Option, Some, None, refl, sym, ap, subst, ◌∙◌, arith}
use Rattle.std.proofs.lemmas.Bool.Decides.{nat_tests}
use Rattle.job_desk.specs.Data.{Data}
use Rattle.job_desk.specs.declared.issued.Note.{Note}
use Rattle.octo_asks.specs.History.{History}
use Rattle.octo_asks.specs.declared.answer.Answer.{Answer}
use Rattle.octo_asks.specs.declared.entry.Entry.TheVariants as entry
use Rattle.octo_asks.specs.declared.request.Ask.{Ask}
use Rattle.octo_house_rules.specs.Counted.{is_leave, is_counted, is_shutdown, calls_made, leaves_made, is_shut}
use Rattle.octo_house_run.specs.declared.tally.Asked.{Asked}
use Rattle.octo_house_run.specs.declared.tally.Tally.{Tally}
use Rattle.octo_house_run.specs.Tallies.{counted, tally_of, AreOf, tally_after, is_over}
use Rattle.octo_house_run_proof.specs.Rounds.{one_if}
use Rattle.std.proofs.Math.Bool.{or-false}

or_assoc : (a b c : Bool) → ((a || b) || c) ≡ (a || (b || c))
or_assoc true b c = refl
or_assoc false b c = refl

-- what one call counts
module _ (worker : ℕ) (ask : Ask) (moment : ℕ) (x : Answer) (es : History) where
  calls_one : (counts : Bool) → is_counted ask.request ≡ counts → calls_made (entry.Call worker ask moment x ∷ es) ≡ one_if counts + calls_made es
  calls_one true is = rw is (omega arith)
  calls_one false is = rw is (omega arith)

  leaves_one : (leaves : Bool) → is_leave ask.request ≡ leaves → leaves_made (entry.Call worker ask moment x ∷ es) ≡ one_if leaves + leaves_made es
  leaves_one true is = rw is (omega arith)
  leaves_one false is = rw is (omega arith)

-- an answered ask
pub call_counts : (worker : ℕ) (ask : Ask) (moment : ℕ) (x : Answer) (asked : Asked)
    → is_leave ask.request ≡ asked.is_leave → is_counted ask.request ≡ asked.is_counted → is_shutdown ask.request x ≡ asked.is_shutdown
    → AreOf (Some asked) (entry.Call worker ask moment x ∷ [])
call_counts worker ask moment x asked leaves counts shuts = record {
  calls = omega (arith, calls_one worker ask moment x [] asked.is_counted counts);
  leaves = omega (arith, leaves_one worker ask moment x [] asked.is_leave leaves);
  shut = or-false (is_shutdown ask.request x) ∙ shuts;
}

-- nothing, or a note, or the end
pub none_counts : AreOf None []
none_counts = record { calls = refl; leaves = refl; shut = refl }

pub note_counts : (note : Note) → AreOf None (entry.Note note ∷ [])
note_counts note = record { calls = refl; leaves = refl; shut = refl }

-- one history and then another
pub calls_append : (es fs : History) → calls_made (es ++ fs) ≡ calls_made es + calls_made fs
calls_append [] fs = omega arith
calls_append (entry.Call worker ask moment x ∷ es) fs =
    omega (arith, calls_one worker ask moment x (es ++ fs) (is_counted ask.request) refl, calls_one worker ask moment x es (is_counted ask.request) refl, calls_append es fs)
calls_append (entry.Note note ∷ es) fs = calls_append es fs
calls_append (entry.Close ∷ es) fs = calls_append es fs

pub leaves_append : (es fs : History) → leaves_made (es ++ fs) ≡ leaves_made es + leaves_made fs
leaves_append [] fs = omega arith
leaves_append (entry.Call worker ask moment x ∷ es) fs =
    omega (arith, leaves_one worker ask moment x (es ++ fs) (is_leave ask.request) refl, leaves_one worker ask moment x es (is_leave ask.request) refl, leaves_append es fs)
leaves_append (entry.Note note ∷ es) fs = leaves_append es fs
leaves_append (entry.Close ∷ es) fs = leaves_append es fs

pub shut_append : (es fs : History) → is_shut (es ++ fs) ≡ (is_shut es || is_shut fs)
shut_append [] fs = refl
shut_append (entry.Call worker ask moment x ∷ es) fs =
    ap (λ b. is_shutdown ask.request x || b) (shut_append es fs) ∙ sym (or_assoc (is_shutdown ask.request x) (is_shut es) (is_shut fs))
shut_append (entry.Note note ∷ es) fs = shut_append es fs
shut_append (entry.Close ∷ es) fs = shut_append es fs

-- a tally by its parts
tally_by : ℕ → ℕ → Bool → Tally
tally_by calls leaves shut = record { calls = calls; leaves = leaves; is_shut = shut }

same_tally : (calls leaves : ℕ) (shut : Bool) (calls' leaves' : ℕ) (shut' : Bool) → calls ≡ calls' → leaves ≡ leaves' → shut ≡ shut'
    → ◌≡◌ {A = Tally} (record { calls = calls; leaves = leaves; is_shut = shut }) (record { calls = calls'; leaves = leaves'; is_shut = shut' })
same_tally calls leaves shut calls' leaves' shut' one two three = cc

counted_more : (n m more : ℕ) → m ≡ more → counted (n + m) ≡ counted (counted n + more)
counted_more n m more is = omega (arith, is)

counted_none : (n m : ℕ) → m ≡ 0 → counted (n + m) ≡ counted n
counted_none n m is = omega (arith, is)

-- the tally of a history that grew by an answered ask, or by entries of none
pub tally_grows : (asked : Option Asked) (h added : History) → AreOf asked added → tally_of (h ++ added) ≡ tally_after asked (tally_of h)
tally_grows None h added of =
    same_tally _ _ _ _ _ _
    (ap counted (calls_append h added) ∙ counted_none (calls_made h) (calls_made added) of.calls)
    (ap counted (leaves_append h added) ∙ counted_none (leaves_made h) (leaves_made added) of.leaves)
    (shut_append h added ∙ ap (λ b. is_shut h || b) of.shut ∙ or-false (is_shut h))
tally_grows (Some asked) h added of =
    same_tally _ _ _ _ _ _
    (ap counted (calls_append h added) ∙ counted_more (calls_made h) (calls_made added) (one_if asked.is_counted) of.calls)
    (ap counted (leaves_append h added) ∙ counted_more (leaves_made h) (leaves_made added) (one_if asked.is_leave) of.leaves)
    (shut_append h added ∙ ap (λ b. is_shut h || b) of.shut)

-- why a run is over
why_over : (shut active : Bool) (leaves : ℕ) → (shut || (nat_lt 3 (counted leaves) && not active)) ≡ true → (shut ≡ true) ⊎ ((4 ≤ leaves) × (active ≡ false))
why_over true active leaves over = inl refl
why_over false true leaves over = grind (arith, nat_tests)
why_over false false leaves over = inr (grind (arith, nat_tests), refl)

pub tally_over : (h : History) (t : Tally) (d : Data) → tally_of h ≡ t → is_over t d ≡ true → (is_shut h ≡ true) ⊎ ((4 ≤ leaves_made h) × (d.active ≡ false))
tally_over h t d is over =
    let Over : Tally → Type 0 = λ u. is_over u d ≡ true in
    why_over (is_shut h) d.active (leaves_made h) (subst Over (sym is) over)
