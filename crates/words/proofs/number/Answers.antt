use Rattle.words.proofs.Leaving.{as_sum, as_difference, as_product}
use Rattle.words.proofs.number.Goals as goal

pub returns-in-18 : goal.returns-in-18
returns-in-18 c = as_sum _ _ _ c.in-18.is c.sum.ensures

pub returns-in-19 : goal.returns-in-19
returns-in-19 c = as_difference _ _ _ c.in-19.is c.difference.ensures

pub returns-in_default : goal.returns-in_default
returns-in_default c = let rest = c.in_default.in_default-own.rest in as_product _ _ _ c.requires rest.0.1 rest.1 c.product.ensures
