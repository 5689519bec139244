-- What one print issues, in order.
use Rattle.std.specs.Prelude.{◌≡◌, ℕ, Bool, true, codes, List, [], ◌∷◌, ◌++◌}
use Rattle.job_desk.specs.Data.{ScriptTexts}

-- the texts of a print that has a connection of its own: scripts and commands, each once
abbrev pub plan : ScriptTexts → List (List ℕ) → List (List ℕ)
plan scripts commands = scripts.connected ++ scripts.started ++ commands ++ scripts.done ++ scripts.disconnect

-- the text of a poll
abbrev pub poll : List ℕ
poll = codes "M105"

-- the text of a probe
abbrev pub probe : List ℕ
probe = codes "M400"

-- the list is the plan, with polls put in at any places, and, if the printer's `ok`s have numbers, with probes too
pub data Weave (numbered : Bool) : List (List ℕ) → List (List ℕ) → Type 0 where
  empty : Weave numbered [] []
  planned : (text : List ℕ) (list plan : List (List ℕ)) → Weave numbered list plan → Weave numbered (text ∷ list) (text ∷ plan)
  polled : (list plan : List (List ℕ)) → Weave numbered list plan → Weave numbered (poll ∷ list) plan
  probed : (list plan : List (List ℕ)) → numbered ≡ true → Weave numbered list plan → Weave numbered (probe ∷ list) plan

-- a list begins another one
pub record IsPart {X : Type 0} (part whole : List X) : Type 0 where
  pub rest : List X
  pub joined : part ++ rest ≡ whole

-- the list is a weave of the first part of a plan
pub record WeavesPart (numbered : Bool) (list plan : List (List ℕ)) : Type 0 where
  pub part : List (List ℕ)
  pub is_part : IsPart part plan
  pub woven : Weave numbered list part
