use Rattle.cells.proofs.Rows.{stores}
use Rattle.cells.proofs.store.Goals as goal

pub returns : goal.returns
returns c = stores _ _ _ c.requires
