use Rattle.rules.specs.Typing.{type_fault, type_s, types_s}
use Rattle.rules.specs.Tree.{root, signal_at}
use Prim.Native.Nat.{ℕ, ◌-◌}
use mathlib.Core.Path.{ap, ◌∙◌}
use Rattle.typing.proofs.type_root.Goals as goal

pub type_s-root-requires : goal.type_s-root-requires
type_s-root-requires c = c.requires.2

pub returns : goal.returns
unfolding type_fault root
returns c = let e = c.requires.0 in (
  c.type_in.ensures ∙ c.type_s-root.ensures.0 ∙ ap (λ (k : ℕ). type_s (signal_at c.args.p.now (k - 1))) e,
  c.place.ensures ∙ c.place_in.ensures ∙ c.type_s-root.ensures.1 ∙ ap (λ (k : ℕ). types_s (signal_at c.args.p.now (k - 1))) e,
)
