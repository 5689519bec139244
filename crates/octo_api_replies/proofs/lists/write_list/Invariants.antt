use Rattle.std.proofs.Common.{◌≡◌, ◌++◌, map, drop}
use Rattle.json.specs.Tree.{items_tokens}
use Rattle.serde_json.specs.Data.{array}
use Rattle.serde_json.specs.View.{items_of}
use Rattle.serde_json.specs.Written.{items_outline}
use Rattle.octo_api_replies.specs.Tokens.{tokens_of}
use Rattle.octo_api_replies.proofs.lists.write_list.Given as goal

-- the tokens so far and those of the items that are left make the tokens of the list
abbrev pub invariant-loop-item : goal.invariant-loop-item
invariant-loop-item g l =
    (l.out.tokens ++ items_tokens (items_outline (items_of (map g.T.ToJson.json (drop l.item-index l.items))))
    ≡ l.fn.out.tokens ++ tokens_of (array (items_of (map g.T.ToJson.json l.items)))) × (l.out.before ≡ l.fn.out.before)
