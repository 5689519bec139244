-- One event of a kind alone: a receiving splits a history in one way, and what a line that is sent alone makes of the wire.
use Rattle.std.proofs.Common.{◌≡◌, ℕ, true, false, List, [], ◌∷◌, ◌++◌, drop, refl, sym, ◌∙◌, ap, subst, arith}
use Rattle.std.specs.Prelude.{slice_index_or}
use Rattle.std.specs.List.{list_all}
use Rattle.std.proofs.lemmas.Grind.{common_steps}
use Rattle.printer_model.specs.World.{WorldData, is_free, can_happen, apply, world_from}
use Rattle.printer_model.specs.declared.event.WorldEvent.{WorldEvent}
use Rattle.printer_model.specs.declared.event.WorldEvent.TheVariants.{Opened, Send, Arrive, Lose, LoseReply, Garble, Run, Restart, Chatter, Recv, Closed}
use Rattle.printer_model.proofs.Laws.{happens}
use Rattle.printer_link.specs.Link.{IsSend, IsSendOf}

-- a receiving splits a history in one way
pub split_free : (xs ys before behind : List WorldEvent) → list_all is_free xs ≡ true → list_all is_free before ≡ true →
    xs ++ Recv ∷ ys ≡ before ++ Recv ∷ behind → xs ≡ before
split_free [] ys [] behind free free' is = refl
split_free [] ys (b ∷ before) behind free free' is =
    let same : Recv ≡ b = ap (λ (l : List WorldEvent). slice_index_or l 0 Closed) is in
    let no : true ≡ false = sym (first_free b before free') ∙ ap is_free (sym same) in
    absurd (cc)
  where
    first_free : (e : WorldEvent) (es : List WorldEvent) → list_all is_free (e ∷ es) ≡ true → is_free e ≡ true
    first_free e es all = grind (arith, common_steps)
split_free (x ∷ xs) ys [] behind free free' is =
    let same : x ≡ Recv = ap (λ (l : List WorldEvent). slice_index_or l 0 Closed) is in
    let no : true ≡ false = sym (first_free x xs free) ∙ ap is_free same in
    absurd (cc)
  where
    first_free : (e : WorldEvent) (es : List WorldEvent) → list_all is_free (e ∷ es) ≡ true → is_free e ≡ true
    first_free e es all = grind (arith, common_steps)
split_free (x ∷ xs) ys (b ∷ before) behind free free' is =
    let same : x ≡ b = ap (λ (l : List WorldEvent). slice_index_or l 0 Closed) is in
    let rest : xs ≡ before = split_free xs ys before behind (rest_free x xs free) (rest_free b before free') (ap (drop 1) is) in
    ap (λ (e : WorldEvent). e ∷ xs) same ∙ ap (λ (l : List WorldEvent). b ∷ l) rest
  where
    rest_free : (e : WorldEvent) (es : List WorldEvent) → list_all is_free (e ∷ es) ≡ true → list_all is_free es ≡ true
    rest_free e es all = grind (arith, common_steps)

pub head_of : (x y : List ℕ) (xs ys : List (List ℕ)) → x ∷ xs ≡ y ∷ ys → x ≡ y
head_of x y xs ys is = ap (λ (l : List (List ℕ)). slice_index_or l 0 x) is

-- nothing else happens round a line that is sent alone
alone : (e : WorldEvent) (before : List WorldEvent) (f : WorldEvent) (behind : List WorldEvent) → e ∷ [] ≡ before ++ f ∷ behind → before ≡ []
alone e [] f behind is = refl
alone e (b ∷ before) f behind is = absurd (longer before (ap (drop 1) is))
  where
    longer : (xs : List WorldEvent) → [] ≡ xs ++ f ∷ behind → ⊥
    longer [] same = absurd (cc)
    longer (x ∷ xs) same = absurd (cc)

-- what a line that is sent makes of the wire
pub record HasSent (bytes : List ℕ) (w v : WorldData) : Type 0 where
  pub linked : v.linked ≡ w.linked
  pub printer : v.printer ≡ w.printer
  pub up : v.up ≡ w.up ++ bytes ∷ []
  pub down : v.down ≡ w.down

sent_alone : (bytes : List ℕ) (w : WorldData) (sent : WorldEvent) → IsSendOf bytes sent → can_happen w sent ≡ true → HasSent bytes w (apply w sent)
sent_alone bytes w (Send frame) of can =
    let is : apply w (Send frame) ≡ record w { up = w.up ++ frame.items ∷ [] } = happens w (Send frame) can in
    record {
      linked = ap (λ (v : WorldData). v.linked) is;
      printer = ap (λ (v : WorldData). v.printer) is;
      up = ap (λ (v : WorldData). v.up) is ∙ ap (λ (b : List ℕ). w.up ++ b ∷ []) of;
      down = ap (λ (v : WorldData). v.down) is;
    }
sent_alone bytes w (Opened last) of can = absurd of
sent_alone bytes w Arrive of can = absurd of
sent_alone bytes w (Lose at) of can = absurd of
sent_alone bytes w (LoseReply at) of can = absurd of
sent_alone bytes w (Garble at frame) of can = absurd of
sent_alone bytes w Run of can = absurd of
sent_alone bytes w Restart of can = absurd of
sent_alone bytes w (Chatter reply) of can = absurd of
sent_alone bytes w Recv of can = absurd of
sent_alone bytes w Closed of can = absurd of

pub sent_promptly : (bytes : List ℕ) (w : WorldData) (added : List WorldEvent) → IsSend bytes w added →
    (sent : WorldEvent) → added ≡ sent ∷ [] → IsSendOf bytes sent → HasSent bytes w (world_from w added)
sent_promptly bytes w added is sent only of =
    let none : is.before ≡ [] = alone sent is.before is.sent is.after (sym only ∙ is.is) in
    let same : sent ≡ is.sent =
    ap (λ (l : List WorldEvent). slice_index_or l 0 Closed) (sym only ∙ is.is ∙ ap (λ (l : List WorldEvent). l ++ is.sent ∷ is.after) none)
    in
    let C : WorldEvent → Type 0 = λ e. can_happen w e ≡ true in
    let can : can_happen w sent ≡ true = subst C (sym same) (ap (λ (l : List WorldEvent). can_happen (world_from w l) is.sent) (sym none) ∙ is.sends) in
    let H : List WorldEvent → Type 0 = λ es. HasSent bytes w (world_from w es) in
    subst H (sym only) (sent_alone bytes w sent of can)
