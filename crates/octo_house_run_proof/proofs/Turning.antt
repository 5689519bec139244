-- What a turn of a session says of its link.
use Rattle.std.proofs.Common.{◌≡◌, ℕ, ◌-◌, ◌≤◌, Bool, true, false, not, ◌&&◌, if◌then◌else◌, List, Option, refl, sym, ap, subst, ◌∙◌, arith}
use Rattle.std.specs.Prelude.{IfSome}
use Rattle.octo_outside.specs.Recorded.{Counts}
use Rattle.job_desk.specs.declared.issued.Note.{Note}
use Rattle.job_desk.specs.declared.link_fact.LinkFact.{LinkFact}
use Rattle.job_desk.specs.declared.link_fact.LinkFact.TheVariants as fact
use Rattle.octo_session.specs.Data.{SessionData, doing, is_calling, port_of}
use Rattle.octo_session.specs.Found.{Got, can_find}
use Rattle.octo_session.specs.Steps.{turn_steps, calls_after}
use Rattle.octo_session.specs.Turn.{fact_of, IsTurn, texts_in}
use Rattle.octo_session.specs.declared.found.Doing.{Doing}
use Rattle.octo_session.specs.declared.found.Doing.TheVariants.{Dialling, HangingUp, UsingLink, Resting}
use Rattle.octo_session.specs.declared.found.Turned.{Turned}
use Rattle.printer_link.specs.Link.{LinkKind, RoseBy}
use Rattle.printer_model.specs.declared.event.WorldEvent.{WorldEvent}
use Rattle.octo_house_rules.specs.Faults.{is_failure}
use Rattle.octo_house_rules.specs.LinkUse.{is_closing}
use Rattle.octo_house_run_proof.specs.Rounds.{NotesAt, one_if}
use Rattle.octo_house_run_proof.proofs.Dialling.{rose_less, finds_of_dial}
use Rattle.printer_link.proofs.Calls.{rose_none}

-- a turn that neither dials nor receives makes no call
calls_same : (d : Doing) (up : Bool) (got : Got) (found : LinkFact) (texts : List (List ℕ)) (count : ℕ) (calls calls' : Option ℕ) → is_calling d ≡ false
    → calls' ≡ calls_after (turn_steps d up got found texts count) calls → calls' ≡ calls
calls_same Dialling up got found texts count calls calls' idle is = cc
calls_same HangingUp up got found texts count calls calls' idle is = is
calls_same UsingLink up got found texts count calls calls' idle is = cc
calls_same Resting up got found texts count calls calls' idle is = is

-- a session over an open link doesn't rest
rests_down : (up connecting closable : Bool) → (if not up && connecting then Dialling else (if closable then HangingUp else (if up then UsingLink else Resting))) ≡ Resting
    → up ≡ false
rests_down true connecting true is = cc
rests_down true connecting false is = cc
rests_down false connecting closable is = refl

one_small : (up : Bool) → one_if up ≤ 1
one_small true = omega arith
one_small false = omega arith

one_none : (up : Bool) → up ≡ false → one_if up ≡ 0
one_none true is = cc
one_none false is = refl

closes : (found : LinkFact) → can_find HangingUp found ≡ true → is_closing found ≡ true
closes fact.Closed can = refl
closes _ can = cc

-- over an open link a turn makes a call, unless it closes the link
calls_rise : (d : Doing) (up : Bool) (found : LinkFact) (calls calls' : Option ℕ) → can_find d found ≡ true → (d ≡ Resting → up ≡ false)
    → (is_calling d ≡ true → RoseBy 1 calls calls') → (is_calling d ≡ false → calls' ≡ calls) → RoseBy (one_if up - one_if (is_closing found)) calls calls'
calls_rise Dialling up found calls calls' can rests rose same = rose_less 1 _ calls calls' (omega (arith, one_small up)) (rose refl)
calls_rise HangingUp up found calls calls' can rests rose same =
    let none : one_if (is_closing found) ≡ 1 = ap one_if (closes found can) in
    rose_less 0 _ calls calls' (omega (arith, none, one_small up)) (subst (λ (now : Option ℕ). RoseBy 0 calls now) (sym (same refl)) (rose_none calls))
calls_rise UsingLink up found calls calls' can rests rose same = rose_less 1 _ calls calls' (omega (arith, one_small up)) (rose refl)
calls_rise Resting up found calls calls' can rests rose same =
    rose_less 0 _ calls calls' (omega (arith, one_none up (rests refl))) (subst (λ (now : Option ℕ). RoseBy 0 calls now) (sym (same refl)) (rose_none calls))

failing : (found : LinkFact) → is_failure found ≡ true → found ≡ fact.Failed
failing fact.Failed is = refl
failing _ is = cc

-- what a turn promises of its link
pub record HasCalled (kind : LinkKind) (x : SessionData) (calls calls' : Option ℕ) (link link' : ℕ) (found : LinkFact) : Type 0 where
  pub can : can_find (doing x) found ≡ true
  pub no_port : found ≡ fact.NoPort → kind.listed (port_of x.desk) ≡ false
  pub calling : is_calling (doing x) ≡ true → RoseBy 1 calls calls'
  pub counts : Counts (found ≡ fact.Failed) link link'

-- a turn with this note, or a quiet one in its place
pub turn_notes : (moment : ℕ) (kind : LinkKind) (past past' : Option (List WorldEvent)) (calls calls' : Option ℕ) (x y : SessionData) (turned : Turned)
    → IsTurn moment kind past past' calls calls' x y turned → (link link' : ℕ) → HasCalled kind x calls calls' link link' (fact_of turned.note)
    → (note : Option Note) → fact_of note ≡ fact_of turned.note → IfSome note (λ n. n.moment ≡ moment)
    → NotesAt moment kind.listed x calls calls' link link' note
turn_notes moment kind past past' calls calls' x y turned t link link' h note same at =
    let found = fact_of turned.note in
    let Port : LinkFact → Type 0 = λ f. f ≡ fact.NoPort → kind.listed (port_of x.desk) ≡ false in
    let Calls : LinkFact → Type 0 = λ f. RoseBy (one_if x.up - one_if (is_closing f)) calls calls' in
    let Fails : LinkFact → Type 0 = λ f. Counts (is_failure f ≡ true) link link' in
    record {
      its_moment = at;
      port = subst Port (sym same) h.no_port;
      dials = λ is. finds_of_dial (doing x) (fact_of note) (ap (λ f. can_find (doing x) f) same ∙ h.can) is;
      calls_rose = subst Calls (sym same)
          (calls_rise (doing x) x.up found calls calls' h.can (λ is. rests_down x.up _ _ is) h.calling
          (λ idle. calls_same (doing x) x.up t.got t.found (texts_in t.lines) t.steps.count calls calls' idle t.steps.takes.calls));
      counts = subst Fails (sym same) (record { later = h.counts.later; rose = λ is. h.counts.rose (failing found is) });
    }
