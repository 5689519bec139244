use Rattle.std.proofs.Common.{◌≡◌, ◌↔◌, ℕ, List, [], ◌∷◌, true, false, sym, ap, ◌∙◌, refl, rules, map, subst}
use Rattle.std.specs.Prelude.{Option, None}
use Rattle.job_desk.specs.Issued.{line_of}
use Rattle.job_desk.specs.declared.issued.Issued.{Issued}
use Rattle.job_desk.specs.declared.link_fact.LinkFact.{LinkFact}
use Rattle.job_desk.specs.declared.link_fact.LinkFact.TheVariants as fact
use Rattle.job_desk.specs.declared.issued.Note.{Note}
use Rattle.send_window.specs.Data.{IsSound}
use Rattle.octo_session.specs.Data.{SessionData, IsSession, doing}
use Rattle.octo_session.specs.Found.{got_of, temps_in, temps_kept, can_find, up_after}
use Rattle.octo_session.specs.Turn.{IsStill, IsUneventful, fact_of}
use Rattle.octo_session.specs.declared.found.Found.{Found}
use Rattle.octo_session.proofs.Noting.{turn_ready, turn_not_fallen, turn_within, turn_none_acked, turn_noted, turn_still, turn_ending}
use Rattle.octo_session.proofs.session.Session.turn.Goals as goal

none_listed : (issued : List Issued) → map line_of issued ≡ [] → issued ≡ []
none_listed [] none = refl
none_listed (line ∷ lines) none = absurd (cc)

-- nothing happened, by what was kept and by what was received
uneventful : (found : Found) (before acked old new : ℕ) (bytes : List ℕ) (noted : Option Note) → (noted ≡ None) ↔ IsStill found before acked → before ≡ old →
    acked ≡ new → temps_kept found.received ≡ temps_in (got_of found.received bytes) →
    (noted ≡ None) ↔ IsUneventful (map line_of found.issued.items) old new (got_of found.received bytes) found.fact
uneventful found before acked old new bytes noted still b a temps = (
  λ none. (let is = still.0 none in record {
    no_line = ap (map line_of) is.no_line;
    same_acked = sym a ∙ is.same_acked ∙ b;
    no_temps = sym temps ∙ is.no_temps;
    quiet = is.quiet;
  }),
  λ is. still.1 (record {
    no_line = none_listed found.issued.items is.no_line;
    same_acked = a ∙ is.same_acked ∙ sym b;
    no_temps = temps ∙ is.no_temps;
    quiet = is.quiet;
  }),
)

pub returns-clause-turn : goal.returns-clause-turn
returns-clause-turn g c =
    let e = c.turn_by_kind-found.ensures in
    let bytes = c.turn_by_kind-found.new.line.items in
    record {
      got = got_of c.turn_by_kind-found.result.received bytes;
      found = c.turn_by_kind-found.result.fact;
      lines = map line_of c.turn_by_kind-found.result.issued.items;
      asked = e.asked;
      heard = search rules;
      none = uneventful c.turn_by_kind-found.result c.acked-before.result c.acked.result c.args.self.now.sender.acked c.turn_by_kind-found.new.self.sender.acked
          bytes c.turned_of.result.note c.turned_of.ensures.none (c.acked-before.ensures.acked ∙ ap (λ (x : SessionData). x.sender.acked) c.self.view_is)
          (c.acked.ensures.acked ∙ ap (λ (x : SessionData). x.sender.acked) c.self-2.view_is) e.found_by.temps;
      some = search rules;
      ended = search rules;
      broken = e.found_by.broken;
      none_issued = search rules;
      desk = search rules;
      steps = search rules;
    }

pub returns-clause-by_note : goal.returns-clause-by_note
returns-clause-by_note g c =
    let e = c.turn_by_kind-found.ensures in
    let old = c.args.self.now in
    let new = c.turn_by_kind-found.new.self in
    let turned = c.turned_of.result in
    let is : fact_of turned.note ≡ c.turn_by_kind-found.result.fact = c.turned_of.ensures.fact in
    let t = returns-clause-turn g c in
    let finds : can_find (doing old) (fact_of turned.note) ≡ true = subst (λ (f : LinkFact). can_find (doing old) f ≡ true) (sym is) e.finds in
    let ready : (fact_of turned.note ≡ fact.Ready) ↔ ((old.sender.ready ≡ false) × (new.sender.ready ≡ true)) =
    subst (λ (f : LinkFact). (f ≡ fact.Ready) ↔ ((old.sender.ready ≡ false) × (new.sender.ready ≡ true))) (sym is) e.found_by.ready in
    let sound : IsSound old.sender = subst (λ (x : SessionData). IsSound x.sender) c.self.view_is c.acked-before.ensures.sound in
    let before : IsSession old = subst IsSession c.self.view_is c.self.invariant in
    record {
      finds = finds;
      up = e.up ∙ ap (λ (f : LinkFact). up_after f old.up) (sym is);
      no_port = (λ none. e.no_port.0 (sym is ∙ none), λ unlisted. is ∙ e.no_port.1 unlisted);
      ready = ready;
      ready_is = turn_ready c.args.moment _ _ _ _ _ old new turned t finds sound ready;
      silent = λ readies. c.turned_of.ensures.lines ∙ ap (map line_of) (e.found_by.silent (sym is ∙ readies));
      sent = λ readies. e.found_by.sent (sym is ∙ readies);
      spent = λ open_link quiet. e.spent open_link (sym is ∙ quiet);
      not_fallen = turn_not_fallen c.args.moment _ _ _ _ _ old new turned t finds sound;
      within = turn_within c.args.moment _ _ _ _ _ old new turned t finds sound;
      none_acked = turn_none_acked c.args.moment _ _ _ _ _ old new turned t finds sound;
      noted = turn_noted c.args.moment _ _ _ _ _ old new turned t finds;
      still = turn_still c.args.moment _ _ _ _ _ old new turned t finds before;
      ends = turn_ending c.args.moment _ _ _ _ _ old new turned t finds e.joined e.active;
      greatest = e.greatest;
      before = before;
      joined = e.joined;
    }
