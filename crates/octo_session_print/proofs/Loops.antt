-- What a print between two turns says of the next one, and what it leaves if no turn is left.
use Rattle.std.proofs.Common.{◌≡◌, ◌⊎◌, inl, inr, ℕ, Bool, true, false, List, [], ◌++◌, Option, sym, ◌∙◌, ap, subst, append_assoc, arith}
use Rattle.printer_model.specs.declared.event.WorldEvent.{WorldEvent}
use Rattle.printer_model.specs.declared.event.WorldEvent.TheVariants.{Closed}
use Rattle.printer_model.specs.Executed.{opens}
use Rattle.printer_model.specs.World.{WorldData, world_from}
use Rattle.printer_model.proofs.Laws.{happens}
use Rattle.printer_link.specs.Link.{LinkKind, Recorded, Grows, IsHangUp, world_in}
use Rattle.printer_link.specs.Suits.{SuitsAs}
use Rattle.printer_link.proofs.Grown.{recorded_then, recorded_so}
use Rattle.octo_session.specs.Data.{SessionData, doing, port_of}
use Rattle.octo_session.specs.declared.found.Doing.TheVariants.{Dialling}
use Rattle.octo_session_line_proof.proofs.Turned.{dials_down, world_then}
use Rattle.octo_session_print.specs.Plan.{PrintData, print_commands}
use Rattle.octo_session.specs.Plan.{plan}
use Rattle.octo_session_print.proofs.Results.{underway-part}
use Rattle.octo_session_print.specs.Printed.{HasPrinted, IsOver}
use Rattle.octo_session_print.specs.BetweenTurns.{HasSentAll, IsDialling, IsOnLink, IsBetweenTurns}
use Rattle.octo_session_print.specs.declared.end.PrintEnd.{PrintEnd}
use Rattle.octo_session_print.specs.declared.end.PrintEnd.TheVariants as end
use Rattle.octo_session_line_proof.proofs.AllSent.{none_unsent, all_sent_later}
use Rattle.octo_session_line_proof.proofs.Histories.{none_printed}
use Rattle.octo_session_print.proofs.Printing.{printed_of, part_none, by_plan}
use Rattle.octo_session_line_proof.proofs.Turns.{hung_printed}

-- a print after this number of turns: only the first one dials
abbrev pub IsAfter : ℕ → LinkKind → PrintData → List ℕ → Option (List WorldEvent) → Option (List WorldEvent) → SessionData → Type 0
IsAfter count kind p port first now x = ((count ≡ 0) × IsDialling p port first now x) ⊎ IsOnLink kind p port first now x

turns_of : PrintEnd → ℕ
turns_of (end.TurnsUsed turns) = turns
turns_of _ = 0

pub same_turns : (a b : ℕ) → end.TurnsUsed a ≡ end.TurnsUsed b → a ≡ b
unfolding turns_of
same_turns a b is = ap turns_of is

-- a link that is hung up is closed
hung_shut : (kind : LinkKind) (past added more : List WorldEvent) → IsHangUp true (world_in kind (past ++ added)) more →
    (world_in kind (past ++ (added ++ more))).linked ≡ false
hung_shut kind past added more hung =
    let w : WorldData = world_in kind (past ++ added) in
    ap (λ (es : List WorldEvent). (world_in kind es).linked) (sym (append_assoc past added more))
    ∙ ap (λ (v : WorldData). v.linked) (world_then kind (past ++ added) more)
    ∙ ap (λ (es : List WorldEvent). (world_from w es).linked) hung.0
    ∙ ap (λ (v : WorldData). v.linked) (happens w Closed hung.1)

module _ (count : ℕ) (kind : LinkKind) (p : PrintData) (port : List ℕ) (first now : Option (List WorldEvent)) (x : SessionData) where
  pub under : IsAfter count kind p port first now x → IsBetweenTurns kind p port first now x
  under (inl d) = inl d.1
  under (inr l) = inr l

  pub awake : IsAfter count kind p port first now x → x.up ≡ false → doing x ≡ Dialling
  awake (inl d) down = d.1.dials
  awake (inr l) down = (let up : x.up ≡ true = l.up in absurd (cc))

  pub unstarted_in : IsAfter count kind p port first now x → x.sender.ready ≡ false → x.desk.greatest ≡ 0
  unstarted_in (inl d) unready = d.1.unstarted
  unstarted_in (inr l) unready = l.unstarted unready

  -- a port that isn't listed is found by the first turn
  pub found_unlisted : IsAfter count kind p port first now x → doing x ≡ Dialling → kind.listed (port_of x.desk) ≡ false →
      kind.listed port ≡ false
  found_unlisted (inl d) dials none = ap kind.listed (sym d.1.its_port) ∙ none
  found_unlisted (inr l) dials none =
      let down : x.up ≡ false = dials_down x dials in
      let up : x.up ≡ true = l.up in
      absurd (cc)

  pub unlisted_first : IsAfter count kind p port first now x → kind.listed port ≡ false →
      (count ≡ 0) × (doing x ≡ Dialling) × (kind.listed (port_of x.desk) ≡ false)
  unlisted_first (inl d) none = (d.0, d.1.dials, ap kind.listed d.1.its_port ∙ none)
  unlisted_first (inr l) none = (let some : kind.listed port ≡ true = l.listed in absurd (cc))

  -- no turn is left, and the link is hung up
  pub hung_over : (turns : ℕ) (last : Option (List WorldEvent)) → IsAfter count kind p port first now x →
      Grows kind now last (IsHangUp x.up) → IsOver p.numbered kind (plan p.scripts (print_commands p)) (end.TurnsUsed turns) first last x
  hung_over turns last (inl d) hung =
      let dial = d.1 in
      let whole : List (List ℕ) = plan p.scripts (print_commands p) in
      let P : List WorldEvent → List WorldEvent → Type 0 = λ past added. HasPrinted p.numbered kind whole (end.TurnsUsed turns) x.sender.acked past added in
      let F : Option (List WorldEvent) → Type 0 = λ f. Recorded f last P in
      let B : Bool → Type 0 = λ b. Grows kind now last (IsHangUp b) in
      let printed : (past added : List WorldEvent) → added ≡ [] → P past added =
      λ past added none. (let A : ℕ → Type 0 = λ n. HasPrinted p.numbered kind whole (end.TurnsUsed turns) n past added in
      subst A (sym dial.none_acked) (printed_of p.numbered kind whole (end.TurnsUsed turns) [] 0 past added (part_none p.numbered whole) (λ is. absurd (cc)) (λ count is. absurd (cc))
      (λ count is. absurd (cc)) (λ all is. absurd (cc)) (λ whole_print. none_unsent 0 added)
      (λ one. absurd (omega (arith, one, ap opens none))) (λ why is. absurd (cc)) (none_printed p.numbered kind past added (ap opens none))))
      in
      record {
        printed = subst F dial.nothing (recorded_so now last (λ past added. added ≡ []) P (subst B (dials_down x dial.dials) hung) printed);
        ended = λ why is. absurd (cc);
        unsent = λ none. absurd none;
      }
  hung_over turns last (inr l) hung =
      let whole : List (List ℕ) = plan p.scripts (print_commands p) in
      let B : Bool → Type 0 = λ b. Grows kind now last (IsHangUp b) in
      record {
        printed = recorded_then first now last (λ past added. HasSentAll kind l.issued x past added)
            (λ past added. IsHangUp true (world_in kind past) added)
            (λ past added. HasPrinted p.numbered kind whole (end.TurnsUsed turns) x.sender.acked past added)
            l.history (subst B l.up hung)
            (λ past added more so hangs. printed_of p.numbered kind whole (end.TurnsUsed turns) l.issued x.sender.acked past (added ++ more) (underway-part p x.desk l.issued l.on.course) (λ is. absurd (cc)) (λ count is. absurd (cc))
            (λ count is. absurd (cc)) (λ all is. absurd (cc)) (λ whole_print. all_sent_later l.issued x.sender.acked x.sender.acked added more (omega arith) so.sent)
            (λ one. hung_shut kind past added more hangs) (λ why is. absurd (cc)) (by_plan kind p l.issued x past (added ++ more) l.on.its_kind (hung_printed kind l.issued x past added more so.made hangs)));
        ended = λ why is. absurd (cc);
        unsent = λ none. absurd none;
      }

-- a link suits a sender while its kind and the sender's stay
pub suits_still : (before now : LinkKind) (first : Option (List WorldEvent)) (old new : Bool) → now ≡ before → new ≡ old → SuitsAs old first before.oks →
    SuitsAs new first now.oks
suits_still before now first old new same kind suits =
    let K : LinkKind → Type 0 = λ k. SuitsAs old first k.oks in
    let B : Bool → Type 0 = λ b. SuitsAs b first now.oks in
    subst B (sym kind) (subst K (sym same) suits)
