-- Faults that a history says, and the counts that rose with them.
use Rattle.std.proofs.Common.{◌≡◌, ◌⊎◌, inl, inr, ℕ, ◌+◌, ◌≤◌, Bool, true, false, List, [], ◌∷◌, ◌++◌, Option, None, Some, refl, sym, subst, arith}
use Rattle.std.specs.Prelude.{cond, count_by}
use Rattle.std.proofs.lemmas.List.Sums.{sum_by-append}
use Rattle.octo_outside.specs.Recorded.{Counts}
use Rattle.job_desk.specs.declared.issued.Note.{Note}
use Rattle.octo_asks.specs.History.{History}
use Rattle.octo_asks.specs.declared.answer.Answer.{Answer}
use Rattle.octo_asks.specs.declared.entry.Entry.{Entry}
use Rattle.octo_asks.specs.declared.entry.Entry.TheVariants as entry
use Rattle.octo_asks.specs.declared.request.Ask.{Ask}
use Rattle.octo_session.specs.Data.{SessionData}
use Rattle.octo_session.specs.Turn.{fact_of}
use Rattle.octo_house_rules.specs.Faults.{is_keepers, is_shelfs, HasRisen, AreCounted, is_failure, is_keepers_fault, is_shelfs_fault, is_links_fault}
use Rattle.octo_house_run_proof.specs.Rounds.{AsksAt, TurnsAt, history_of_note}

-- how many entries pass a test, of one history and then of another
pub count_append : (test : Entry → Bool) (es fs : History) → count_by test (es ++ fs) ≡ count_by test es + count_by test fs
count_append test es fs = sum_by-append (λ e. cond (test e) 1 0) es fs

-- a count that didn't rise
pub not_risen : (before : ℕ) → HasRisen 0 before before
not_risen before = record { later = omega arith; rose = λ shown. omega arith }

-- a count that didn't fall
pub not_fallen : (before now : ℕ) → before ≤ now → HasRisen 0 before now
not_fallen before now later = record { later = later; rose = λ shown. omega (arith, later) }

-- a count that rose, and then rose again
pub risen_then : (n m before mid now : ℕ) → HasRisen n before mid → HasRisen m mid now → HasRisen (n + m) before now
risen_then n m before mid now first second = record {
  later = omega (arith, first.later, second.later);
  rose = λ shown. omega (arith, first.rose (omega (arith, second.later, shown)), second.rose shown);
}

-- a call that may have failed was counted
pub risen_by : (failed : Bool) (before now : ℕ) → Counts (failed ≡ true) before now → HasRisen (0 + cond failed 1 0) before now
risen_by true before now c = record { later = c.later; rose = λ shown. omega (arith, c.rose refl (omega (arith, c.later, shown)), shown) }
risen_by false before now c = not_fallen before now c.later

-- the faults of one history, and then of another
pub counted_then : (k l m s t u x y z : ℕ) (es fs : History) → AreCounted k l s t x y es → AreCounted l m t u y z fs → AreCounted k m s u x z (es ++ fs)
counted_then k l m s t u x y z es fs first second =
    let By : (Entry → Bool) → ℕ → ℕ → Type 0 = λ test before now. HasRisen (count_by test (es ++ fs)) before now in
    let joined : (test : Entry → Bool) (before mid now : ℕ) → HasRisen (count_by test es) before mid → HasRisen (count_by test fs) mid now → By test before now =
    λ test before mid now one two. subst (λ n. HasRisen n before now) (sym (count_append test es fs)) (risen_then (count_by test es) (count_by test fs) before mid now one two) in
    record {
      keepers = joined is_keepers_fault k l m first.keepers second.keepers;
      shelfs = joined is_shelfs_fault s t u first.shelfs second.shelfs;
      links = joined is_links_fault x y z first.links second.links;
    }

-- no ask
pub none_asks : (moment keeper shelf : ℕ) → AsksAt moment keeper keeper shelf shelf []
none_asks moment keeper shelf = record { asks = inl refl; keepers = not_risen keeper; shelfs = not_risen shelf }

-- an answered ask
pub call_asks : (moment keeper keeper' shelf shelf' : ℕ) (worker : ℕ) (ask : Ask) (x : Answer) → Counts (is_keepers x ≡ true) keeper keeper' → Counts (is_shelfs x ≡ true) shelf shelf'
    → AsksAt moment keeper keeper' shelf shelf' (entry.Call worker ask moment x ∷ [])
call_asks moment keeper keeper' shelf shelf' worker ask x keepers shelfs = record {
  asks = inr (worker, ask, x, refl);
  keepers = risen_by (is_keepers x) keeper keeper' keepers;
  shelfs = risen_by (is_shelfs x) shelf shelf' shelfs;
}

-- no call and no note says that the link failed, or that keeper or shelf did
ask_links : (moment : ℕ) (h : History) (link : ℕ) (worker : ℕ) (ask : Ask) (x : Answer) → h ≡ entry.Call worker ask moment x ∷ [] → HasRisen (count_by is_links_fault h) link link
ask_links moment h link worker ask x is = subst (λ (es : History). HasRisen (count_by is_links_fault es) link link) (sym is) (not_risen link)

pub asks_counted : (moment keeper keeper' shelf shelf' link : ℕ) (h : History) → AsksAt moment keeper keeper' shelf shelf' h → AreCounted keeper keeper' shelf shelf' link link h
asks_counted moment keeper keeper' shelf shelf' link h a = record { keepers = a.keepers; shelfs = a.shelfs; links = by a.asks }
  where
    by : (h ≡ []) ⊎ ((worker : ℕ) × (ask : Ask) × (x : Answer) × (h ≡ entry.Call worker ask moment x ∷ [])) → HasRisen (count_by is_links_fault h) link link
    by (inl none) = subst (λ (es : History). HasRisen (count_by is_links_fault es) link link) (sym none) (not_risen link)
    by (inr one) = ask_links moment h link one.0 one.1 one.2 one.3

note_counted : (keeper keeper' shelf link link' : ℕ) (note : Option Note) → keeper ≤ keeper' → Counts (is_failure (fact_of note) ≡ true) link link'
    → AreCounted keeper keeper' shelf shelf link link' (history_of_note note)
note_counted keeper keeper' shelf link link' None later c = record {
  keepers = not_fallen keeper keeper' later;
  shelfs = not_risen shelf;
  links = not_fallen link link' c.later;
}
note_counted keeper keeper' shelf link link' (Some note) later c = record {
  keepers = not_fallen keeper keeper' later;
  shelfs = not_risen shelf;
  links = risen_by (is_failure note.fact) link link' c;
}

pub turns_counted : (moment : ℕ) (listed : List ℕ → Bool) (x : SessionData) (calls calls' : Option ℕ) (keeper keeper' shelf link link' : ℕ) (h : History) → keeper ≤ keeper'
    → TurnsAt moment listed x calls calls' link link' h → AreCounted keeper keeper' shelf shelf link link' h
turns_counted moment listed x calls calls' keeper keeper' shelf link link' h later t =
    subst (λ (es : History). AreCounted keeper keeper' shelf shelf link link' es) (sym t.1) (note_counted keeper keeper' shelf link link' t.0 later t.2.counts)

pub end_counted : (keeper shelf link link' : ℕ) → link' ≡ link → AreCounted keeper keeper shelf shelf link link' (entry.Close ∷ [])
end_counted keeper shelf link link' same = record { keepers = not_risen keeper; shelfs = not_risen shelf; links = not_fallen link link' (omega (arith, same)) }

pub none_counted : (keeper shelf link : ℕ) → AreCounted keeper keeper shelf shelf link link []
none_counted keeper shelf link = record { keepers = not_risen keeper; shelfs = not_risen shelf; links = not_risen link }
