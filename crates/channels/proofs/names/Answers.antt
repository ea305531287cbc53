use Rattle.std.proofs.Common.{refl, ◌∙◌, arith, rules, tests}
use Rattle.std.proofs.lemmas.Iterator.{YieldsList-from_range}
use Rattle.std.proofs.lemmas.Iterator.Search.{any_from_yields_List}
use Rattle.channels.specs.Named.{input_of}
use Rattle.channels.proofs.NamedLaws.{any_below}
use Rattle.channels.proofs.names.Goals as goal

pub returns : goal.returns
returns c =
    let test = input_of c.args.p.now c.args.k in
    any_from_yields_List test _ _ c.any.result c.any.ensures.ran (YieldsList-from_range 0 c.args.n c.args.n refl (omega arith)) (λ x b q k. search (rules, tests))
    ∙ any_below test c.args.n
