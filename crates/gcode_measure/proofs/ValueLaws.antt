-- The first numbers of arguments, taken in one by one.
use Rattle.std.proofs.Common.{◌≡◌, ℕ, Bool, true, false, cond, ◌==◌, List, [], ◌∷◌, ℤ, Option, None, Some, refl}
use Rattle.std.specs.Option.{option_or}
use Rattle.gcode_words.specs.declared.word.CodeWord.{CodeWord}
use Rattle.gcode_measure.specs.Values.{first_number, with_numbers}
use Rattle.gcode_measure.specs.declared.values.Values.{Values}

or_by : (t : Bool) (found micro later : Option ℤ) → option_or found (cond t (option_or micro later) later) ≡ option_or
    (option_or found (cond t (option_or micro None) None)) later
or_by t (Some value) micro later = refl
or_by true None (Some value) later = refl
or_by true None None later = refl
or_by false None micro later = refl

first_number-cons : (letter : ℕ) (found : Option ℤ) (word : CodeWord) (words : List CodeWord) →
    option_or found (first_number letter (word ∷ words)) ≡ option_or (option_or found (first_number letter (word ∷ []))) (first_number letter words)
first_number-cons letter found word words = or_by (word.letter == letter) found word.micro (first_number letter words)

-- the numbers of arguments are those of the first and then of the others
pub with_numbers-cons : (values : Values) (word : CodeWord) (words : List CodeWord) →
    with_numbers values (word ∷ words) ≡ with_numbers (with_numbers values (word ∷ [])) words
with_numbers-cons values word words =
    let x = first_number-cons 88 values.x word words in
    let y = first_number-cons 89 values.y word words in
    let z = first_number-cons 90 values.z word words in
    let e = first_number-cons 69 values.e word words in
    rw (x, y, z, e) refl

pub ruleset number_steps = (with_numbers-cons)
