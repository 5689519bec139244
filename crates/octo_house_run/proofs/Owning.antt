-- When a host's own calls are made: each at least the first wait after the one before.
use Rattle.std.proofs.Common.{◌≡◌, ℕ, ◌≤◌, Bool, true, false, List, [], ◌∷◌, ◌++◌, Option, Some, None, refl, sym, ap, subst, ◌∙◌, append-nil, arith}
use Rattle.std.specs.Prelude.{◌==◌, ◌&&◌, if◌then◌else◌, IfSome}
use Rattle.std.proofs.lemmas.Bool.{false≢true}
use Rattle.std.proofs.lemmas.Bool.Decides.{nat_tests}
use Rattle.octo_outside.specs.Recorded.{Became, Adds}
use Rattle.octo_outside.proofs.Recorded.{became_then, became_same, became_so}
use Rattle.job_desk.specs.declared.issued.Note.{Note}
use Rattle.job_desk.specs.declared.state.State.{State}
use Rattle.job_desk.specs.declared.state.State.TheVariants.{Offline, Connecting, Closing, Fault}
use Rattle.octo_asks.specs.History.{History, own_number}
use Rattle.octo_asks.specs.declared.answer.Answer.{Answer}
use Rattle.octo_asks.specs.declared.request.Ask.{Ask}
use Rattle.octo_asks.specs.declared.entry.Entry.TheVariants as entry
use Rattle.octo_house_run_proof.specs.Rounds.{TurnsAt, history_of_note}
use Rattle.octo_session.specs.Data.{SessionData}
use Rattle.octo_house_run.specs.declared.reconnect.Reconnect.{Reconnect}
use Rattle.octo_house_run.specs.declared.reconnect.Reconnect.TheVariants.{Off, First, Watching, Due, Stopped}
use Rattle.octo_house_run.specs.Own.{own_moments, AreApartAfter, ConnectsItself, Looks, asking_if, moment_if, last_after, HasPassed, Fits, Waits}
use Rattle.octo_house_run.specs.Reconnecting.{first_wait, new_reconnect, doubled, watched_in, is_running, seen_in, is_due, after_asking}
use Rattle.job_desk.specs.Data.{moment_after}

-- the own calls of one history and then another
call_append : (own : Bool) (moment : ℕ) (ms ns os : List ℕ) → ms ≡ ns ++ os
    → (if own then moment ∷ ms else ms) ≡ (if own then moment ∷ ns else ns) ++ os
call_append true moment ms ns os is = ap (λ (l : List ℕ). moment ∷ l) is
call_append false moment ms ns os is = is

pub own_append : (es fs : History) → own_moments (es ++ fs) ≡ own_moments es ++ own_moments fs
own_append [] fs = refl
own_append (entry.Call worker ask moment x ∷ es) fs =
    call_append (worker == own_number) moment (own_moments (es ++ fs)) (own_moments es) (own_moments fs) (own_append es fs)
own_append (entry.Note note ∷ es) fs = own_append es fs
own_append (entry.Close ∷ es) fs = own_append es fs

-- a call of another number isn't the host's own
pub call_none : (worker : ℕ) (ask : Ask) (moment : ℕ) (x : Answer) → (worker == own_number) ≡ false → own_moments (entry.Call worker ask moment x ∷ []) ≡ []
call_none worker ask moment x other = ap (λ (own : Bool). if own then moment ∷ [] else []) other

-- the first of two tests that both hold
pub first_holds : (a b : Bool) → (a && b) ≡ true → a ≡ true
first_holds true b both = refl
first_holds false b both = both

-- one moment more
last_one : (last : Option ℕ) (ms : List ℕ) (m : ℕ) → last_after last (ms ++ m ∷ []) ≡ Some m
last_one last [] m = refl
last_one last (n ∷ ms) m = last_one (Some n) ms m

apart_one : (last : Option ℕ) (ms : List ℕ) (m : ℕ) → AreApartAfter last ms → AreApartAfter (last_after last ms) (m ∷ []) → AreApartAfter last (ms ++ m ∷ [])
apart_one last [] m apart more = more
apart_one None (n ∷ ms) m apart more = apart_one (Some n) ms m apart more
apart_one (Some l) (n ∷ ms) m apart more = (apart.0, apart_one (Some n) ms m apart.1 more)

-- the moments that have passed stay so
if_later : (last : Option ℕ) (now later : ℕ) → now ≤ later → IfSome last (λ l. l ≤ now) → IfSome last (λ l. l ≤ later)
if_later None now later below has = tt
if_later (Some l) now later below has = omega (arith, below, has)

pub fits_later : (r : Reconnect) (now later : ℕ) (ms : List ℕ) → now ≤ later → Fits r now ms → Fits r later ms
fits_later Off now later ms below fits = fits
fits_later First now later ms below fits = fits
fits_later (Watching wait) now later ms below fits = (fits.0, if_later (last_after None ms) now later below fits.1)
fits_later (Due at wait) now later ms below fits = (fits.0, if_later (last_after None ms) now later below fits.1, fits.2)
fits_later Stopped now later ms below fits = if_later (last_after None ms) now later below fits

-- after the first wait
wait_later : (last : Option ℕ) (now wait : ℕ) → first_wait ≤ wait → IfSome last (λ l. l ≤ now) → IfSome last (λ l. moment_after l first_wait ≤ moment_after now wait)
wait_later None now wait long has = tt
wait_later (Some l) now wait long has = omega (arith, long, has)

-- what an error makes of a wait
error_fits : (now wait : ℕ) (ms : List ℕ) → first_wait ≤ wait → HasPassed now ms → Fits (Due (moment_after now wait) (doubled wait)) now ms
error_fits now wait ms long passed = (omega (arith, long), passed, wait_later (last_after None ms) now wait long passed)

first_fits : (now : ℕ) (ms : List ℕ) → HasPassed now ms → Fits (Watching first_wait) now ms
first_fits now ms passed = (omega arith, passed)

-- what each state makes of what a host waits for
watched_fits : (state : State) (now : ℕ) (r : Reconnect) (ms : List ℕ) → is_running r ≡ true → Fits r now ms → Fits (watched_in state now r) now ms
watched_fits state now Off ms runs fits = absurd (false≢true runs)
watched_fits state now First ms runs fits = absurd (false≢true runs)
watched_fits Offline now (Watching wait) ms runs fits = fits.1
watched_fits Connecting now (Watching wait) ms runs fits = fits
watched_fits Closing now (Watching wait) ms runs fits = fits.1
watched_fits Fault now (Watching wait) ms runs fits = error_fits now wait ms fits.0 fits.1
watched_fits _ now (Watching wait) ms runs fits = first_fits now ms fits.1
watched_fits Offline now (Due at wait) ms runs fits = fits.1
watched_fits Connecting now (Due at wait) ms runs fits = (fits.0, fits.1)
watched_fits Closing now (Due at wait) ms runs fits = fits.1
watched_fits Fault now (Due at wait) ms runs fits = fits
watched_fits _ now (Due at wait) ms runs fits = first_fits now ms fits.1
watched_fits Offline now Stopped ms runs fits = fits
watched_fits Connecting now Stopped ms runs fits = first_fits now ms fits
watched_fits Closing now Stopped ms runs fits = fits
watched_fits Fault now Stopped ms runs fits = fits
watched_fits _ now Stopped ms runs fits = first_fits now ms fits

seen_fits : (state : State) (now : ℕ) (r : Reconnect) (ms : List ℕ) → Fits r now ms → Fits (seen_in state now r) now ms
seen_fits state now Off ms fits = fits
seen_fits state now First ms fits = fits
seen_fits state now (Watching wait) ms fits = watched_fits state now (Watching wait) ms refl fits
seen_fits state now (Due at wait) ms fits = watched_fits state now (Due at wait) ms refl fits
seen_fits state now Stopped ms fits = watched_fits state now Stopped ms refl fits

-- what a host waits for after it has asked
just_passed : (now : ℕ) (ms : List ℕ) → HasPassed now (ms ++ now ∷ [])
just_passed now ms = subst (λ (last : Option ℕ). IfSome last (λ l. l ≤ now)) (sym (last_one None ms now)) (omega arith)

asked_fits : (now : ℕ) (r : Reconnect) (ms : List ℕ) → is_due now r ≡ true → Fits r now ms → Fits (after_asking r) now (ms ++ now ∷ [])
asked_fits now Off ms due fits = absurd (false≢true due)
asked_fits now First ms due fits = (omega arith, just_passed now ms)
asked_fits now (Watching wait) ms due fits = absurd (false≢true due)
asked_fits now (Due at wait) ms due fits = (fits.0, just_passed now ms)
asked_fits now Stopped ms due fits = absurd (false≢true due)

-- the call is far enough from the one before
due_apart : (last : Option ℕ) (at now : ℕ) → at ≤ now → IfSome last (λ l. moment_after l first_wait ≤ at) → AreApartAfter last (now ∷ [])
due_apart None at now due waited = tt
due_apart (Some l) at now due waited = (omega (arith, due, waited), tt)

asked_apart : (now : ℕ) (r : Reconnect) (ms : List ℕ) → is_due now r ≡ true → Fits r now ms → AreApartAfter (last_after None ms) (now ∷ [])
asked_apart now Off ms due fits = absurd (false≢true due)
asked_apart now First ms due fits = subst (λ (l : List ℕ). AreApartAfter (last_after None l) (now ∷ [])) (sym fits) tt
asked_apart now (Watching wait) ms due fits = absurd (false≢true due)
asked_apart now (Due at wait) ms due fits = due_apart (last_after None ms) at now (grind (arith, nat_tests, due)) fits.2
asked_apart now Stopped ms due fits = absurd (false≢true due)

-- a host that doesn't connect by itself goes on so
asking_off : (asks : Bool) → asking_if asks Off ≡ Off
asking_off true = refl
asking_off false = refl

-- what a host waits for after a look at its desk
look_waits : (connects asks : Bool) (state : State) (now : ℕ) (r : Reconnect) (ms : List ℕ) → (asks ≡ true → is_due now (seen_in state now r) ≡ true)
    → Waits connects r now ms → Waits connects (asking_if asks (seen_in state now r)) now (ms ++ moment_if asks now)
look_waits connects true state now r ms due waits =
    let seen = seen_fits state now r ms waits.fits in
    record {
      off = λ is. ap (λ (q : Reconnect). after_asking (seen_in state now q)) (waits.off is);
      apart = apart_one None ms now waits.apart (asked_apart now (seen_in state now r) ms (due refl) seen);
      fits = asked_fits now (seen_in state now r) ms (due refl) seen;
    }
look_waits connects false state now r ms due waits =
    subst (λ (l : List ℕ). Waits connects (seen_in state now r) now l) (sym (append-nil ms)) (record {
      off = λ is. ap (λ (q : Reconnect). seen_in state now q) (waits.off is);
      apart = waits.apart;
      fits = seen_fits state now r ms waits.fits;
    })

pub waits_later : (connects : Bool) (r : Reconnect) (now later : ℕ) (ms : List ℕ) → now ≤ later → Waits connects r now ms → Waits connects r later ms
waits_later connects r now later ms below waits = record { off = waits.off; apart = waits.apart; fits = fits_later r now later ms below waits.fits }

-- a host that begins
begin_waits : (connects : Bool) (now : ℕ) → Waits connects (new_reconnect connects) now []
begin_waits true now = record { off = λ is. absurd (false≢true (sym is)); apart = tt; fits = refl }
begin_waits false now = record { off = λ is. refl; apart = tt; fits = refl }

pub waits_begin : (connects : Bool) (r : Reconnect) (past : Option History) → r ≡ new_reconnect connects
    → Became past past (λ _ added. Waits connects r 0 (own_moments added))
waits_begin connects r past is =
    became_same past (λ _ added. Waits connects r 0 (own_moments added)) (λ old. subst (λ (q : Reconnect). Waits connects q 0 []) (sym is) (begin_waits connects 0))

-- a round: a look at the desk, and a turn of the link
turn_own : (note : Option Note) → own_moments (history_of_note note) ≡ []
turn_own None = refl
turn_own (Some note) = refl

pub waits_look : (connects : Bool) (r r' : Reconnect) (now later : ℕ) → now ≤ later → (first before mid : Option History)
    → Became first before (λ _ added. Waits connects r now (own_moments added)) → Became before mid (λ _ added. Looks later r r' added)
    → Became first mid (λ _ added. Waits connects r' later (own_moments added))
waits_look connects r r' now later below first before mid sooner looks =
    became_then first before mid (λ _ added. Waits connects r now (own_moments added)) (λ _ added. Looks later r r' added)
    (λ _ added. Waits connects r' later (own_moments added)) sooner looks
    (λ old added more waits look.
    subst (λ (q : Reconnect). Waits connects q later (own_moments (added ++ more))) (sym look.waits)
    (subst (λ (l : List ℕ). Waits connects (asking_if look.asks (seen_in look.state later r)) later l)
    (ap (λ (l : List ℕ). own_moments added ++ l) (sym look.moments) ∙ sym (own_append added more))
    (look_waits connects look.asks look.state later r (own_moments added) look.due (waits_later connects r now later (own_moments added) below waits))))

-- entries without a call of the host's own
pub waits_none : (connects : Bool) (r : Reconnect) (now : ℕ) (first mid after : Option History)
    → Became first mid (λ _ added. Waits connects r now (own_moments added)) → Became mid after (λ _ added. own_moments added ≡ [])
    → Became first after (λ _ added. Waits connects r now (own_moments added))
waits_none connects r now first mid after sooner none =
    became_then first mid after (λ _ added. Waits connects r now (own_moments added)) (λ _ added. own_moments added ≡ [])
    (λ _ added. Waits connects r now (own_moments added)) sooner none
    (λ old added more waits is.
    subst (λ (l : List ℕ). Waits connects r now l)
    (sym (own_append added more ∙ (ap (λ (l : List ℕ). own_moments added ++ l) is ∙ append-nil (own_moments added)))) waits)

pub turns_own : (moment : ℕ) (listed : List ℕ → Bool) (x : SessionData) (calls calls' : Option ℕ) (link link' : ℕ) (mid after : Option History)
    → Became mid after (λ _ added. TurnsAt moment listed x calls calls' link link' added) → Became mid after (λ _ added. own_moments added ≡ [])
turns_own moment listed x calls calls' link link' mid after turns =
    became_so mid after (λ _ added. TurnsAt moment listed x calls calls' link link' added) (λ _ added. own_moments added ≡ []) turns
    (λ old added t. ap own_moments t.1 ∙ turn_own t.0)

-- the end
off_none : (connects : Bool) (r : Reconnect) (now : ℕ) (ms : List ℕ) → Waits connects r now ms → connects ≡ false → ms ≡ []
off_none connects r now ms waits is = subst (λ (q : Reconnect). Fits q now ms) (waits.off is) waits.fits

close_own : (mid last : Option History) → Adds mid last (entry.Close ∷ []) → Became mid last (λ _ added. own_moments added ≡ [])
close_own mid last adds =
    became_so mid last (λ _ added. added ≡ entry.Close ∷ []) (λ _ added. own_moments added ≡ []) adds (λ old added is. ap own_moments is)

pub waits_end : (connects : Bool) (r : Reconnect) (now : ℕ) (first after last : Option History)
    → Became first after (λ _ added. Waits connects r now (own_moments added)) → Adds after last (entry.Close ∷ [])
    → Became first last (λ _ added. ConnectsItself connects added)
waits_end connects r now first after last sooner adds =
    became_so first last (λ _ added. Waits connects r now (own_moments added)) (λ _ added. ConnectsItself connects added)
    (waits_none connects r now first after last sooner (close_own after last adds))
    (λ old added waits. record { off = off_none connects r now (own_moments added) waits; apart = waits.apart })
