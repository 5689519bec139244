use Rattle.std.proofs.Common.{rules, ◌≡◌, ◌⊎◌, inl, inr, List, [], ◌∷◌, ◌++◌, map, Option, Some, sym, ◌∙◌, ap, subst, append_assoc}
use Rattle.std.specs.Prelude.{slice_get}
use Rattle.std.proofs.lemmas.List.Elements.{All-rest}
use Rattle.printer_link.specs.Link.{LinkKind}
use Rattle.printer_link.specs.Suits.{SuitsAs}
use Rattle.printer_model.specs.declared.event.WorldEvent.{WorldEvent}
use Rattle.octo_session.specs.Data.{SessionData}
use Rattle.octo_floor_bay.specs.Bay.{BayData, IsNewSession}
use Rattle.octo_floor_bay.specs.Prints.{IsInStep}
use Rattle.octo_floor.specs.Floor.{AreFresh, new_bay}
use Rattle.octo_floor.proofs.Places.{last_or}
use Rattle.octo_floor.proofs.floor.bays_of.Goals as goal

-- one bay more
fresh_more : (bays : List BayData) (one : BayData) → AreFresh bays →
    ((kind : LinkKind) (front : Option (List WorldEvent)) → SuitsAs one.session.sender.numbered front kind.oks → IsInStep kind front front one) →
    AreFresh (bays ++ one ∷ [])
fresh_more bays one fresh own printer b kind front at suits = by (last_or bays one printer b at)
  where
    by : (slice_get bays printer ≡ Some b) ⊎ (one ≡ b) → IsInStep kind front front b
    by (inl former) = fresh printer b kind front former suits
    by (inr same) =
        subst (λ (c : BayData). IsInStep kind front front c) same
        (own kind front (subst (λ (c : BayData). SuitsAs c.session.sender.numbered front kind.oks) (sym same) suits))

pub loop-session-preserved : goal.loop-session-preserved
loop-session-preserved c =
    let rest : List SessionData = c.next.new.self.rest.items in
    let goes : c.loop-session.session-iterator.rest.items ≡ c.in-Some.session ∷ rest = search rules in
    let one : c.in_ok-new.field-0 ≡ new_bay c.in-Some.session = search rules in
    let grown : c.push.new.self.items ≡ c.loop-session.bays.items ++ c.in_ok-new.field-0 ∷ [] = search rules in
    let tied = c.in_ok-new.ensures.tied in
    let own : (kind : LinkKind) (front : Option (List WorldEvent)) → SuitsAs c.in_ok-new.field-0.session.sender.numbered front kind.oks →
    IsInStep kind front front c.in_ok-new.field-0 =
    λ kind front suits. tied kind front (subst (λ (b : BayData). SuitsAs b.session.sender.numbered front kind.oks) one suits)
    in
    let bays : List BayData = c.loop-session.bays.items in
    record {
      bays =
          c.loop-session.invariant.bays ∙ ap (λ (xs : List SessionData). bays ++ map new_bay xs) goes
          ∙ sym (append_assoc bays (new_bay c.in-Some.session ∷ []) (map new_bay rest))
          ∙ ap (λ (b : BayData). (bays ++ b ∷ []) ++ map new_bay rest) (sym one) ∙ ap (λ (bs : List BayData). bs ++ map new_bay rest) (sym grown);
      new = All-rest IsNewSession c.in-Some.session rest c.loop-session.session-iterator.rest.items goes c.loop-session.invariant.new;
      fresh = subst AreFresh (sym grown) (fresh_more bays c.in_ok-new.field-0 c.loop-session.invariant.fresh own);
    }
