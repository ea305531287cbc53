use Rattle.forms.proofs.FormLaws.{whole_text}
use Rattle.rules.specs.Layout.{edition, edition_in, block_at}
use Rattle.rules.specs.Bytes.{Bytes, byte_at}
use mathlib.Core.Path.{◌≡◌, refl, subst}
use borrow.Author.Rules.{rules}
use Rattle.texts.specs.Printer.{printed}
use Rattle.letters.specs.Wrote.{Wrote}
use Rattle.forms.proofs.put_text.Goals as goal

pub returns : goal.returns
unfolding edition edition_in block_at byte_at
returns c =
    let w = whole_text _ _ _ refl c.requires.2 c.edition_word.ensures c.form.ensures c.put.ensures in
    let e : c.put.new.self.room.now ≡ c.room-1.given.0 = search rules in
    subst (λ (r : Bytes). Wrote c.args.room.now 0 (printed c.args.q.now) r c.put.new.self.at) e w.wrote
