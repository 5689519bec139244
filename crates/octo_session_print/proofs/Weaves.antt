-- Weaves, and the plan as lines and as texts.
use Rattle.std.proofs.Common.{◌≡◌, Bool, true, cond, ℕ, zero, suc, ◌+◌, ◌≤◌, List, [], ◌∷◌, ◌++◌, length, take, drop, slice_get, Some, refl, sym, ◌∙◌, ap, arith, append_assoc}
use Rattle.std.proofs.lemmas.List.{append-nil, map-append, take-append-drop, take_all}
use Rattle.job_desk.specs.Data.{ScriptTexts, Line, tagged, script_lines}
use Rattle.job_desk.specs.Course.{job_line}
use Rattle.job_desk.specs.Plain.{numbered}
use Rattle.job_desk.specs.declared.state.Point.TheVariants as point
use Rattle.job_desk.specs.declared.state.Tag.{Tag}
use Rattle.octo_session_print.specs.Plan.{is_poll, without_polls, PrintData, print_commands, connected_lines, started_lines, printed_lines, done_lines, plan_lines}
use Rattle.octo_session.specs.Plan.{plan, poll, probe, Weave, empty, planned, polled, probed, IsPart}
use Rattle.octo_session.specs.Turn.{texts_in}

-- with numbers a probe is no text of the plan
probe_is : (n : Bool) → n ≡ true → is_poll n probe ≡ true
probe_is n on = ap (λ (b : Bool). is_poll b probe) on

-- the plan's next text is issued
pub weave_planned : (n : Bool) (list plan : List (List ℕ)) (text : List ℕ) → Weave n list plan → Weave n (list ++ text ∷ []) (plan ++ text ∷ [])
weave_planned n _ _ text empty = planned text [] [] empty
weave_planned n _ _ text (planned first list plan w) = planned first (list ++ text ∷ []) (plan ++ text ∷ []) (weave_planned n list plan text w)
weave_planned n _ _ text (polled list plan w) = polled (list ++ text ∷ []) (plan ++ text ∷ []) (weave_planned n list plan text w)
weave_planned n _ _ text (probed list plan on w) = probed (list ++ text ∷ []) (plan ++ text ∷ []) on (weave_planned n list plan text w)

-- a poll is issued
pub weave_polled : (n : Bool) (list plan : List (List ℕ)) → Weave n list plan → Weave n (list ++ poll ∷ []) plan
weave_polled n _ _ empty = polled [] [] empty
weave_polled n _ _ (planned first list plan w) = planned first (list ++ poll ∷ []) plan (weave_polled n list plan w)
weave_polled n _ _ (polled list plan w) = polled (list ++ poll ∷ []) plan (weave_polled n list plan w)
weave_polled n _ _ (probed list plan on w) = probed (list ++ poll ∷ []) plan on (weave_polled n list plan w)

-- a probe is issued
pub weave_probed : (n : Bool) (list plan : List (List ℕ)) → n ≡ true → Weave n list plan → Weave n (list ++ probe ∷ []) plan
weave_probed n _ _ on empty = probed [] [] on empty
weave_probed n _ _ on (planned first list plan w) = planned first (list ++ probe ∷ []) plan (weave_probed n list plan on w)
weave_probed n _ _ on (polled list plan w) = polled (list ++ probe ∷ []) plan (weave_probed n list plan on w)
weave_probed n _ _ on (probed list plan is w) = probed (list ++ probe ∷ []) plan is (weave_probed n list plan on w)

-- the texts of a weave but for polls and probes are those of its plan
pub weave_others : (n : Bool) (list plan : List (List ℕ)) → Weave n list plan → without_polls n list ≡ without_polls n plan
weave_others n _ _ empty = refl
weave_others n _ _ (planned text list plan w) = ap (λ (l : List (List ℕ)). cond (is_poll n text) l (text ∷ l)) (weave_others n list plan w)
weave_others n _ _ (polled list plan w) = weave_others n list plan w
weave_others n _ _ (probed list plan on w) =
    ap (λ (b : Bool). cond b (without_polls n list) (probe ∷ without_polls n list)) (probe_is n on) ∙ weave_others n list plan w

pub part_self : {X : Type 0} (xs : List X) → IsPart xs xs
part_self xs = record { rest = []; joined = append-nil xs }

pub part_after : {X : Type 0} (xs ys : List X) → IsPart xs (xs ++ ys)
part_after xs ys = record { rest = ys; joined = refl }

pub part_of : {X : Type 0} (xs ys zs : List X) → IsPart xs ys → IsPart ys zs → IsPart xs zs
part_of xs ys zs a b = record {
  rest = a.rest ++ b.rest;
  joined = sym (append_assoc xs a.rest b.rest) ∙ ap (λ l. l ++ b.rest) a.joined ∙ b.joined;
}

-- the texts of lines that are joined
pub texts_append : (xs ys : List Line) → texts_in (xs ++ ys) ≡ texts_in xs ++ texts_in ys
texts_append xs ys = map-append (λ (line : Line). line.text) xs ys

pub texts_tagged : (tag : Tag) (texts : List (List ℕ)) → texts_in (tagged tag texts) ≡ texts
texts_tagged tag [] = refl
texts_tagged tag (text ∷ texts) = ap (λ (l : List (List ℕ)). text ∷ l) (texts_tagged tag texts)

texts_numbered : (index : ℕ) (texts : List (List ℕ)) → texts_in (numbered 1 index texts) ≡ texts
texts_numbered index [] = refl
texts_numbered index (text ∷ texts) = ap (λ (l : List (List ℕ)). text ∷ l) (texts_numbered (index + 1) texts)

pub texts_part : (xs ys : List Line) → IsPart xs ys → IsPart (texts_in xs) (texts_in ys)
texts_part xs ys part = record { rest = texts_in part.rest; joined = sym (texts_append xs part.rest) ∙ ap texts_in part.joined }

-- the tagged lines are the plan
pub plan_is : (p : PrintData) → texts_in (plan_lines p) ≡ plan p.scripts (print_commands p)
plan_is p =
    let s : ScriptTexts = p.scripts in
    let c : texts_in (connected_lines p) ≡ s.connected = texts_tagged _ s.connected in
    let b : texts_in (started_lines p) ≡ s.connected ++ s.started =
    texts_append (connected_lines p) (script_lines s point.Started 1) ∙ ap (λ l. l ++ texts_in (script_lines s point.Started 1)) c
    ∙ ap (λ l. s.connected ++ l) (texts_tagged _ s.started) in
    let n : texts_in (started_lines p ++ numbered 1 0 (print_commands p)) ≡ s.connected ++ s.started ++ print_commands p =
    texts_append (started_lines p) (numbered 1 0 (print_commands p)) ∙ ap (λ l. l ++ texts_in (numbered 1 0 (print_commands p))) b
    ∙ ap (λ l. s.connected ++ s.started ++ l) (texts_numbered 0 (print_commands p)) in
    let d : texts_in (done_lines p) ≡ s.connected ++ s.started ++ print_commands p ++ s.done =
    texts_append (started_lines p ++ numbered 1 0 (print_commands p)) (script_lines s point.Done 1) ∙ ap (λ l. l ++ texts_in (script_lines s point.Done 1)) n
    ∙ ap (λ l. s.connected ++ s.started ++ print_commands p ++ l) (texts_tagged _ s.done) in
    texts_append (done_lines p) (script_lines s point.Disconnect 0) ∙ ap (λ l. l ++ texts_in (script_lines s point.Disconnect 0)) d
    ∙ ap (λ l. s.connected ++ s.started ++ print_commands p ++ s.done ++ l) (texts_tagged _ s.disconnect)

length-numbered : (index : ℕ) (texts : List (List ℕ)) → length (numbered 1 index texts) ≡ length texts
length-numbered index [] = refl
length-numbered index (text ∷ texts) = ap suc (length-numbered (index + 1) texts)

-- one command more
take_numbered : (index n place : ℕ) (texts : List (List ℕ)) (text : List ℕ) → slice_get texts n ≡ Some text → place ≡ index + n
    → take (suc n) (numbered 1 index texts) ≡ take n (numbered 1 index texts) ++ job_line 1 place text ∷ []
take_numbered index n place [] text e h = absurd (cc e)
take_numbered index zero place (first ∷ texts) text e h =
    let same : first ≡ text = cc e in
    let at : index ≡ place = omega arith in
    ap (λ (t : List ℕ). job_line 1 index t ∷ []) same ∙ ap (λ (k : ℕ). job_line 1 k text ∷ []) at
take_numbered index (suc n) place (first ∷ texts) text e h =
    ap (λ (l : List Line). job_line 1 index first ∷ l) (take_numbered (index + 1) n place texts text e (omega arith))

pub get_below : (texts : List (List ℕ)) (n : ℕ) (text : List ℕ) → slice_get texts n ≡ Some text → n + 1 ≤ length texts
get_below [] n text e = absurd (cc e)
get_below (first ∷ texts) zero text e = omega arith
get_below (first ∷ texts) (suc n) text e = let below = get_below texts n text e in omega arith

pub printed_more : (p : PrintData) (n : ℕ) (text : List ℕ) → slice_get (print_commands p) n ≡ Some text
    → printed_lines p (n + 1) ≡ printed_lines p n ++ job_line 1 n text ∷ []
printed_more p n text e =
    let one : n + 1 ≡ suc n = omega arith in
    ap (λ (k : ℕ). printed_lines p k) one ∙ ap (λ (l : List Line). started_lines p ++ l) (take_numbered 0 n n (print_commands p) text e (omega arith))
    ∙ sym (append_assoc (started_lines p) (take n (numbered 1 0 (print_commands p))) (job_line 1 n text ∷ []))

pub printed_all : (p : PrintData) (n : ℕ) → n ≡ length (print_commands p) → printed_lines p n ≡ started_lines p ++ numbered 1 0 (print_commands p)
printed_all p n e =
    let long : n ≡ length (numbered 1 0 (print_commands p)) = e ∙ sym (length-numbered 0 (print_commands p)) in
    ap (λ (l : List Line). started_lines p ++ l) (take_all n (numbered 1 0 (print_commands p)) (omega (arith, long)))

-- each stage begins the next one
pub printed_in_done : (p : PrintData) (n : ℕ) → IsPart (printed_lines p n) (done_lines p)
printed_in_done p n =
    let all : List Line = numbered 1 0 (print_commands p) in
    let some : IsPart (printed_lines p n) (started_lines p ++ all) = record {
      rest = drop n all;
      joined = append_assoc (started_lines p) (take n all) (drop n all) ∙ ap (λ (l : List Line). started_lines p ++ l) (take-append-drop n all);
    } in
    part_of (printed_lines p n) (started_lines p ++ all) (done_lines p) some (part_after (started_lines p ++ all) (script_lines p.scripts point.Done 1))

pub started_in_done : (p : PrintData) → IsPart (started_lines p) (done_lines p)
started_in_done p =
    part_of (started_lines p) (started_lines p ++ numbered 1 0 (print_commands p)) (done_lines p)
    (part_after (started_lines p) (numbered 1 0 (print_commands p)))
    (part_after (started_lines p ++ numbered 1 0 (print_commands p)) (script_lines p.scripts point.Done 1))

pub done_in_plan : (p : PrintData) → IsPart (done_lines p) (plan_lines p)
done_in_plan p = part_after (done_lines p) (script_lines p.scripts point.Disconnect 0)

pub connected_in_plan : (p : PrintData) → IsPart (connected_lines p) (plan_lines p)
connected_in_plan p =
    part_of (connected_lines p) (done_lines p) (plan_lines p)
    (part_of (connected_lines p) (started_lines p) (done_lines p) (part_after (connected_lines p) (script_lines p.scripts point.Started 1))
    (started_in_done p)) (done_in_plan p)
