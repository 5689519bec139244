-- Texts that ask no heater for more than its limit.
use Rattle.std.proofs.Common.{◌≡◌, ℕ, zero, suc, List, [], ◌∷◌, ◌++◌, map, slice_get, codes, Option, Some, None, refl, subst}
use Rattle.std.specs.List.{AllByRecursion}
use Rattle.std.specs.Option.{option_map}
use Rattle.gcode_lines.specs.Job.{Command}
use Rattle.byte_text.specs.Number as numbers
use Rattle.gcode_words.specs.Value as values
use Rattle.gcode_words.specs.Words.{value_at}
use Rattle.temp_rules.specs.Asked.{asked_of, asking_of}
use Rattle.temp_rules.specs.Hot.{hot_of, hot_line, first_hot_of}
use Rattle.temp_rules.specs.declared.job.HotLine.{HotLine}
use Rattle.temp_rules.specs.declared.limits.Limits.{Limits}
use Rattle.temp_rules.specs.declared.limits.TooHot.{TooHot}
use Rattle.octo_house_rules.specs.Prints.{first_hot_text}
use Rattle.octo_house_laws.specs.Limits.{IsCool}
use Rattle.byte_text.proofs.OptionLaws.{first-none, second-none}

module _ {X : Type 0} (P : X → Type 0) where
  pub each_append : (xs ys : List X) → AllByRecursion P xs → AllByRecursion P ys → AllByRecursion P (xs ++ ys)
  each_append [] ys hx hy = hy
  each_append (x ∷ xs) ys hx hy = (hx.0, each_append xs ys hx.1 hy)

  pub each_at : (xs : List X) (i : ℕ) (x : X) → AllByRecursion P xs → slice_get xs i ≡ Some x → P x
  each_at [] i x h e = absurd (cc e)
  each_at (y ∷ xs) zero x h e = let same : y ≡ x = cc e in subst P same h.0
  each_at (y ∷ xs) (suc i) x h e = each_at xs i x h.1 e

module _ (limits : Limits) where
  -- the desk's own question
  pub poll_cool : IsCool limits (codes "M105")
  unfolding hot_of asked_of asking_of value_at values.number_at values.magnitude_at numbers.leading_digits values.decimals_at values.after_digits values.micro_of numbers.decimal_value values.millionths
  poll_cool = refl

  -- and its probe
  pub probe_cool : IsCool limits (codes "M400")
  unfolding hot_of asked_of asking_of value_at values.number_at values.magnitude_at numbers.leading_digits values.decimals_at values.after_digits values.micro_of numbers.decimal_value values.millionths
  probe_cool = refl

  not_hot : (line : ℕ) (hot : Option TooHot) → option_map (λ (h : TooHot). let made : HotLine = record {
    line = line;
    asked = h.asked;
    limit = h.limit;
  } in made) hot ≡ None → hot ≡ None
  not_hot line None h = refl
  not_hot line (Some hot) h = absurd (cc h)

  -- the commands of a job that has no hot one
  pub commands_cool : (commands : List Command) → first_hot_of limits commands ≡ None
      → AllByRecursion (IsCool limits) (map (λ (c : Command). c.text) commands)
  commands_cool [] h = tt
  commands_cool (c ∷ commands) h = (
    not_hot c.line (hot_of limits c.text) (first-none (hot_line limits c) (first_hot_of limits commands) h),
    commands_cool commands (second-none (hot_line limits c) (first_hot_of limits commands) h),
  )

  -- the texts of which none is hot
  pub texts_cool : (texts : List (List ℕ)) → first_hot_text limits texts ≡ None → AllByRecursion (IsCool limits) texts
  texts_cool [] h = tt
  texts_cool (text ∷ texts) h = (
    first-none (hot_of limits text) (first_hot_text limits texts) h,
    texts_cool texts (second-none (hot_of limits text) (first_hot_text limits texts) h),
  )
