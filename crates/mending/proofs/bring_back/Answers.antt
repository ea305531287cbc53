use mathlib.Core.Path.{ap, ◌∙◌}
use Prim.Native.Nat.{◌-◌}
use Rattle.rules.specs.Tree.{signal_at}
use Rattle.state.proofs.StartLaws.{headed, rooted}
use Rattle.mends.specs.Mend.{mend_s}
use Rattle.mending.proofs.MendLaws.{mended_is}
use Rattle.mending.proofs.bring_back.Goals as goal

pub mend_time-requires : goal.mend_time-requires
mend_time-requires c = headed c.args.p.now _ c.requires.3

pub mend_s-requires : goal.mend_s-requires
mend_s-requires c = rooted c.args.p.now c.args.index.now _ c.args.count c.requires.0 c.requires.1 c.requires.2 (c.mend_time.auto.st ∙ c.requires.3)

pub shape_of-st : goal.shape_of-st
shape_of-st c = c.mend_s.auto.st ∙ c.mend_time.auto.st

pub returns : goal.returns
returns c = c.mend_s.ensures ∙ ap (mend_s (signal_at c.args.p.now (c.args.count - 1))) c.mend_time.ensures
    ∙ mended_is c.args.p.now c.args.count c.args.st.now c.requires.2
