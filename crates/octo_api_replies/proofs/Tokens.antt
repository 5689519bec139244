-- The text of the tokens of a value.
use Rattle.std.proofs.Common.{◌≡◌, ℕ, List, [], ◌++◌, ap₂, ◌∙◌}
use Rattle.json.specs.Token.{Token}
use Rattle.json.specs.Print.{print}
use Rattle.serde_json.specs.Data.{Data}
use Rattle.serde_json.specs.Written.{compact_text}
use Rattle.serde_json.proofs.Texts.{print-outline}
use Rattle.octo_api_replies.specs.Tokens.{tokens_of}

-- what is printed after nothing
pub text_of_tokens : (before : List ℕ) (tokens : List Token) (value : Data) → before ≡ [] → tokens ≡ tokens_of value
    → before ++ print tokens ≡ compact_text value
text_of_tokens before tokens value none same = ap₂ (λ a b. a ++ print b) none same ∙ print-outline value
