use Rattle.shape.proofs.one.Goals as goal

pub returns : goal.returns
returns c = (c.child_wrong.ensures, c.counted.ensures)
