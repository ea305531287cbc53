use Rattle.rules.specs.Bytes.{u64_at}
use borrow.Author.Rules.{rules}
use Rattle.format.proofs.low_at.Goals as goal

pub u32_at-requires : goal.u32_at-requires
unfolding u64_at
u32_at-requires c = search rules

pub overflow_cast-result : goal.overflow_cast-result
unfolding u64_at
overflow_cast-result c = search rules

pub overflow_add-at : goal.overflow_add-at
unfolding u64_at
overflow_add-at c = search rules

pub u32_at-requires-2 : goal.u32_at-requires-2
unfolding u64_at
u32_at-requires-2 c = search rules

pub overflow_cast-result-2 : goal.overflow_cast-result-2
unfolding u64_at
overflow_cast-result-2 c = search rules

pub overflow_mul-result : goal.overflow_mul-result
unfolding u64_at
overflow_mul-result c = search rules

pub overflow_add-result : goal.overflow_add-result
unfolding u64_at
overflow_add-result c = search rules

pub returns : goal.returns
unfolding u64_at
returns c = search rules
