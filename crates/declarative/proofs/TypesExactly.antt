-- Below a bound the definitions find no fault of type exactly when every node there keeps its own rule, and none of readiness exactly when
-- every let there is ready.
-- Assumes nothing.
use Prim.Native.Nat.{◌-◌}
use native.Mathlib.Omega.{arith}
use Rattle.rules.specs.Bytes.{Bytes}
use Rattle.rules.specs.Layout.{nodes}
use Rattle.rules.specs.Kinds.{is_signal}
use Rattle.rules.specs.Shaped.{NodeOf}
use Rattle.rules.specs.Tree.{root}
use Rattle.rules.specs.Typing.{type_fault}
use Rattle.rules.specs.Ready.{ready_fault}
use Rattle.declarative.specs.Shapes.{WellShaped}
use Rattle.declarative.specs.HasType.{OwnTypeRight}
use Rattle.declarative.specs.NeedsAt.{LetRight}
use Rattle.declarative.proofs.Free.{free_zero, Finds}
use Rattle.declarative.proofs.ScopeExactly.{table}
use Rattle.declarative.proofs.Clean.{clean_s, all_clean}
use Rattle.declarative.proofs.TypesEach.{type_right, ready_right}
use Rattle.declarative.proofs.TypesDown.{types_down}

module _ (p : Bytes) (w : NodeOf is_signal p (nodes p - 1)) (s : WellShaped p) where
  -- Code 7.
  pub finds_types : Finds (type_fault p) (OwnTypeRight p) (nodes p)
  unfolding type_fault root
  finds_types = record {
    only_if = λ b f. type_right p (table p w s) b 0 (all_clean p b 0 (table p w s) (clean_s w f (free_zero _)));
    if₀ = λ b h. (types_down p (table p w s) b 0 h (λ n i l. absurd (omega arith)) (nodes p - 1) w).0;
  }

  -- Code 8.
  pub finds_ready : Finds (ready_fault p) (LetRight p) (nodes p)
  unfolding ready_fault root
  finds_ready = record {
    only_if = λ b f. ready_right p (table p w s) 0 b (all_clean p 0 b (table p w s) (clean_s w (free_zero _) f));
    if₀ = λ b h. (types_down p (table p w s) 0 b (λ n i l. absurd (omega arith)) h (nodes p - 1) w).1;
  }
