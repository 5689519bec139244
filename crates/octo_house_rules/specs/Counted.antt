-- What a run counts of the entries that it added.
use Rattle.std.specs.Prelude.{ℕ, suc, Bool, true, false, ◌||◌, [], ◌∷◌}
use Rattle.octo_asks.specs.declared.answer.Answer.{Answer}
use Rattle.octo_asks.specs.declared.answer.Answer.TheVariants as answer
use Rattle.octo_asks.specs.declared.request.Request.{Request}
use Rattle.octo_asks.specs.declared.request.Request.TheVariants.{Leave, AutoConnect, Shutdown}
use Rattle.octo_asks.specs.declared.entry.Entry.TheVariants as entry
use Rattle.octo_asks.specs.History.{History}

-- an ask with which a worker leaves
abbrev pub is_leave : Request → Bool
is_leave Leave = true
is_leave _ = false

-- an ask that counts: neither one with which a worker leaves nor the host's own
abbrev pub is_counted : Request → Bool
is_counted Leave = false
is_counted AutoConnect = false
is_counted _ = true

-- a shutdown that was accepted
abbrev pub is_shutdown : Request → Answer → Bool
is_shutdown Shutdown answer.Accepted = true
is_shutdown _ _ = false

-- the number of calls other than those with which a worker leaves and the host's own
abbrev pub calls_made : History → ℕ
calls_made [] = 0
calls_made (entry.Call worker ask moment x ∷ es) = by (is_counted ask.request) (calls_made es)
  where
    by : Bool → ℕ → ℕ
    by true rest = suc rest
    by false rest = rest
calls_made (entry.Note note ∷ es) = calls_made es
calls_made (entry.Close ∷ es) = calls_made es

-- the number of those with which a worker leaves
abbrev pub leaves_made : History → ℕ
leaves_made [] = 0
leaves_made (entry.Call worker ask moment x ∷ es) = by (is_leave ask.request) (leaves_made es)
  where
    by : Bool → ℕ → ℕ
    by true rest = suc rest
    by false rest = rest
leaves_made (entry.Note note ∷ es) = leaves_made es
leaves_made (entry.Close ∷ es) = leaves_made es

-- whether a shutdown was accepted
abbrev pub is_shut : History → Bool
is_shut [] = false
is_shut (entry.Call worker ask moment x ∷ es) = is_shutdown ask.request x || is_shut es
is_shut (entry.Note note ∷ es) = is_shut es
is_shut (entry.Close ∷ es) = is_shut es
