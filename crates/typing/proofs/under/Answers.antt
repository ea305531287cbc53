use Rattle.typing.proofs.under.Goals as goal

pub returns : goal.returns
returns c = cc
