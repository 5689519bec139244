use Rattle.std.proofs.Common.{◌≡◌, List, sym, ◌∙◌, refl}
use Rattle.octo_keeper.specs.declared.shelf.ShelfFile.{ShelfFile}
use Rattle.octo_keeper.specs.declared.tables.Tables.{Tables}
use Rattle.octo_house_rules.specs.Known.{names_of}
use Rattle.octo_house.proofs.Begun.{read-is, read-from, kept-begun, numbered-read}
use Rattle.octo_house.proofs.house.House.begin.Goals as goal

pub returns-in-Ok-clause-made : goal.returns-in-Ok-clause-made
returns-in-Ok-clause-made g c =
    let read = c.in-Ok.ensures.read in
    record {
      session_is = refl;
      policy_is = refl;
      ports_are = refl;
      material_is = refl;
      temps = refl;
      written = read.read.written;
      numbered = numbered-read read.loaded c.in-Ok.tables read.sound read.read;
    }

pub returns-in-Ok-clause-begins : goal.returns-in-Ok-clause-begins
returns-in-Ok-clause-begins g c = λ tables held files listed.
    let kept = c.in-Ok.ensures.read in
    let same : kept.loaded ≡ tables = read-is (λ (one : Tables). kept.loaded ≡ one) (g.K.Keeper.state c.args.keeper.now).tables tables kept.same held in
    let read = read-from kept.loaded tables c.in-Ok.tables same kept.read in
    record {
      policy_is = refl;
      ports_are = refl;
      material_is = refl;
      desk = c.requires.new_desk;
      temps = refl;
      users = read.users;
      user_table = read.user_table;
      queue = read.queue;
      lawful = read.lawful;
      prints = read.prints;
      names = read-is (λ (one : List ShelfFile). c.in-Ok.names.items ≡ names_of one) (g.S.Shelf.state c.args.shelf.now).files files c.in-Ok.ensures.names listed;
    }

pub returns-in-Ok-clause-kept : goal.returns-in-Ok-clause-kept
returns-in-Ok-clause-kept g c = λ tables held users queue other again.
    let kept = c.in-Ok.ensures.read in
    let same : tables ≡ other = cc (held, again) in
    let loaded : kept.loaded ≡ tables =
    read-is (λ (one : Tables). kept.loaded ≡ one) (g.K.Keeper.state c.args.keeper.now).tables tables kept.same (sym c.in-Ok.ensures.tables ∙ held) in
    rw (← same) (kept-begun kept.loaded tables c.in-Ok.tables loaded kept.sound kept.read users queue)

pub returns-in-Ok-clause-listed : goal.returns-in-Ok-clause-listed
returns-in-Ok-clause-listed g c = λ files listed.
    read-is (λ (one : List ShelfFile). c.in-Ok.names.items ≡ names_of one) (g.S.Shelf.state c.args.shelf.now).files files c.in-Ok.ensures.names
    (sym c.in-Ok.ensures.files ∙ listed)
