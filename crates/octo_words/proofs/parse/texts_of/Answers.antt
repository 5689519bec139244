use Rattle.std.proofs.Common.{◌≡◌, ◌∙◌, ◌<◌, ◌++◌, ◌∷◌, [], ℕ, List, length, map, take, ap, sym, arith}
use Rattle.std.specs.Borrow.{Bor}
use Rattle.std.proofs.lemmas.List.{map-append, take_more}
use Rattle.std.proofs.lemmas.Option.{get_or_from_slice_get}
use Rattle.octo_words.proofs.parse.texts_of.Goals as goal

pub loop-i-preserved : goal.loop-i-preserved
loop-i-preserved c =
    let seen = λ (w : Bor (List ℕ)). w.now in
    let words = c.args.words.now in
    let word = c.get.result.now in
    let within : c.loop-i.i < length words = omega arith in
    let added : map seen c.push.new.self.items ≡ map seen c.loop-i.texts.items ++ word ∷ [] =
    ap (map seen) c.in_ok-push.ensures.items ∙ map-append seen c.loop-i.texts.items (c.get.result ∷ []) in
    let more = take_more words c.loop-i.i word within ∙ ap (λ (w : List ℕ). take c.loop-i.i words ++ w ∷ []) (get_or_from_slice_get words c.loop-i.i word word c.get.ensures) in
    added ∙ ap (λ (front : List (List ℕ)). front ++ word ∷ []) c.loop-i.invariant ∙ sym more
