use Rattle.std.proofs.Common.{ℤ, ◌*ℤ◌, ap, ◌∙◌, arith, w64, to_z, of_z}
use mir.ValLaws.{to_z-of_z}
use Rattle.rules.specs.Words.{signed, outside}
use Rattle.words.proofs.Leaving.{product_back, word_product_fits}
use Rattle.words.proofs.product.Goals as goal

pub overflow_mul-exact : goal.overflow_mul-exact
overflow_mul-exact c = let x = c.args.x in
    let y = c.args.y in
    rw (product_back x y (omega arith) (omega arith) c.integer.ensures c.integer-2.ensures) (word_product_fits x y (omega arith) (omega arith))

pub returns : goal.returns
returns c = let x = c.args.x in
    let y = c.args.y in
    let back = product_back x y (omega arith) (omega arith) c.integer.ensures c.integer-2.ensures in
    let read = to_z-of_z w64 (signed x *ℤ signed y) (word_product_fits x y (omega arith) (omega arith)) in
    (c.times.ensures, c.is_outside.ensures ∙ ap outside (ap (λ (z : ℤ). to_z w64 (of_z w64 z)) back ∙ read))
