use Rattle.state.proofs.StartLaws.{headed, rooted, start_is}
use mathlib.Core.Path.{◌∙◌}
use Rattle.state.proofs.fill_start.Goals as goal

pub put_header-requires : goal.put_header-requires
put_header-requires c = headed c.args.p.now _ (c.clear_all.auto.st ∙ c.requires.3)

pub reset_s-requires : goal.reset_s-requires
reset_s-requires c = rooted c.args.p.now c.args.index.now _ c.args.count c.requires.0 c.requires.1 c.requires.2 (c.put_header.auto.st ∙ c.clear_all.auto.st ∙ c.requires.3)

pub returns : goal.returns
returns c = cc (start_is c.args.p.now _ c.requires.3)
