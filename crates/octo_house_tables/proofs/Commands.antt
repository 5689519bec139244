-- Texts read one by one as commands.
use Rattle.std.proofs.Common.{◌≡◌, ℕ, List, [], ◌∷◌, ◌++◌, Option, None, Some, Ok, Err, refl, ap, sym, append_assoc, append-nil}
use Rattle.gcode_lines.specs.Single.{single_of}
use Rattle.gcode_lines.specs.declared.fault.NotOne.{NotOne}
use Rattle.octo_house_rules.specs.Prints.{commands_in, then_command}

-- what is read is what was read so far and then this
abbrev pub prepended : List (List ℕ) → Option (List (List ℕ)) → Option (List (List ℕ))
prepended done None = None
prepended done (Some rest) = Some (done ++ rest)

one-more : (done : List (List ℕ)) (command : List ℕ) (rest : Option (List (List ℕ)))
    → prepended done (then_command (Ok command) rest) ≡ prepended (done ++ command ∷ []) rest
one-more done command None = refl
one-more done command (Some rest) = ap (λ all. Some all) (sym (append_assoc done (command ∷ []) rest))

-- one command more
pub commands-more : (done : List (List ℕ)) (text command : List ℕ) (texts left : List (List ℕ)) → left ≡ text ∷ texts → single_of text ≡ Ok command
    → prepended done (commands_in left) ≡ prepended (done ++ command ∷ []) (commands_in texts)
commands-more done text command texts left is found = rw (is, found) (one-more done command (commands_in texts))

-- a text that is none
pub commands-none : (done : List (List ℕ)) (text : List ℕ) (texts left : List (List ℕ)) (fault : NotOne) → left ≡ text ∷ texts → single_of text ≡ Err fault
    → prepended done (commands_in left) ≡ None
commands-none done text texts left fault is found = rw (is, found) refl

pub commands-start : (rest : Option (List (List ℕ))) → rest ≡ prepended [] rest
commands-start None = refl
commands-start (Some rest) = refl

pub commands-end : (done : List (List ℕ)) (left : List (List ℕ)) → left ≡ [] → prepended done (commands_in left) ≡ Some done
commands-end done left is = rw is (ap (λ all. Some all) (append-nil done))

pub ruleset command_steps = (commands-more, commands-none, commands-start, commands-end)
