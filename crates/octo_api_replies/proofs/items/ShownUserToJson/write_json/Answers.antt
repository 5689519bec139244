use Rattle.std.proofs.Common.{◌≡◌, ◌++◌, ◌∷◌, [], ◌∙◌, codes, rules, append_assoc}
use Rattle.std.proofs.lemmas.Result.{on_ok_weaker}
use Rattle.json.specs.Token.{begin_object, end_object, key, string, boolean}
use Rattle.octo_api_replies.specs.Items.{texts_data, user_data}
use Rattle.octo_api_replies.specs.Tokens.{tokens_of}
use Rattle.octo_api_replies.proofs.items.ShownUserToJson.write_json.Goals as goal

pub returns-clause-tokens : goal.returns-clause-tokens
returns-clause-tokens c =
    let begun : c.begin_object.new.self.tokens ≡ c.args.out.now.tokens ++ begin_object ∷ [] = search rules in
    let active : c.key.new.self.tokens ≡ c.begin_object.new.self.tokens ++ key (codes "active") ∷ [] = search rules in
    let flag : c.boolean.new.self.tokens ≡ c.key.new.self.tokens ++ boolean c.args.self.now.active ∷ [] = search rules in
    let groups : c.key-2.new.self.tokens ≡ c.boolean.new.self.tokens ++ key (codes "groups") ∷ [] = search rules in
    let list : c.write_list.new.out.tokens ≡ c.key-2.new.self.tokens ++ tokens_of (texts_data c.args.self.now.groups.items) = search rules in
    let name : c.key-3.new.self.tokens ≡ c.write_list.new.out.tokens ++ key (codes "name") ∷ [] = search rules in
    let text : c.string.new.self.tokens ≡ c.key-3.new.self.tokens ++ string c.args.self.now.name ∷ [] = search rules in
    let last : c.string.new.self.tokens ++ end_object ∷ [] ≡ c.args.out.now.tokens ++ tokens_of (user_data c.args.self.now) =
    rw (text, name, list, groups, flag, active, begun) (simp append_assoc) in
    on_ok_weaker c.end_object.result (λ end. end ∙ last) c.end_object.ensures.ok
