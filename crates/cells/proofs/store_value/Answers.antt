use Rattle.cells.proofs.Rows.{spreads}
use mathlib.Core.Path.{refl}
use Rattle.cells.proofs.store_value.Goals as goal

pub returns : goal.returns
returns c = spreads c.args.at c.args.v _ _ refl refl c.store.ensures c.store-2.ensures c.store-3.ensures c.store-4.ensures
