-- The texts that the steps of a turn issue.
use Rattle.std.specs.Prelude.{ℕ, List, [], ◌∷◌, ◌++◌}
use Rattle.job_desk.specs.declared.link_fact.LinkFact.{LinkFact}
use Rattle.job_desk.specs.declared.link_fact.LinkFact.TheVariants as fact
use Rattle.octo_session.specs.Steps.{Step, opens, issues}
use Rattle.octo_session.specs.Turn.{fact_of, note_lines, texts_in}
use Rattle.octo_session.specs.declared.found.Turned.{Turned}

-- the texts of a session's lines after a step: a link that is made begins with none
abbrev pub issued_by : Step → List (List ℕ) → List (List ℕ)
issued_by opens issued = []
issued_by (issues text) issued = issued ++ text ∷ []
issued_by _ issued = issued

-- after these steps
abbrev pub issued_after : List Step → List (List ℕ) → List (List ℕ)
issued_after [] issued = issued
issued_after (step ∷ steps) issued = issued_after steps (issued_by step issued)

-- after a turn that found this and issued these texts
abbrev pub issued_in : LinkFact → List (List ℕ) → List (List ℕ) → List (List ℕ)
issued_in fact.Opened texts issued = []
issued_in _ texts issued = issued ++ texts

-- after a turn that returned this
abbrev pub issued_by_turn : Turned → List (List ℕ) → List (List ℕ)
issued_by_turn turned issued = issued_in (fact_of turned.note) (texts_in (note_lines turned.note)) issued
