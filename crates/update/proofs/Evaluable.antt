-- A part that is to be updated and evaluated may be evaluated; an input, time or ext outright.
-- Assumes nothing.
use mathlib.Core.List.{List}
use Prim.Native.Nat.{ℕ, ◌≤◌}
use lib.ListN.{length}
use Rattle.rules.specs.Bytes.{Bytes}
use Rattle.rules.specs.Layout.{kind_at}
use Rattle.rules.specs.Evaluate.{Env}
use Rattle.moves.proofs.ReadyLaws.{Part, seen_small}
use Rattle.evaluate.specs.Ready.{ReadyO, ReadyS}

pub evaluable : {p : Bytes} {index : List ℕ} (st : Bytes) (env : Env) {i x : ℕ} → Part p index (length st) env i x → ReadyS p index st env x
evaluable st env k =
    record {
      node = k.ready.node;
      indexed = k.ready.lent.table;
      state = k.ready.lent.cells;
      slots = k.ready.lent.slots;
      small = seen_small k.ready;
    }

pub at_once : {p : Bytes} {index : List ℕ} {s : ℕ} (env : Env) {i x : ℕ} → Part p index s env i x → kind_at p x ≤ 3 → ReadyO p index env x
at_once env k l =
    record {
      node = k.ready.node;
      indexed = k.ready.lent.table;
      slots = k.ready.lent.slots;
      small = seen_small k.ready;
      low = l;
    }
