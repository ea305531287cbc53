-- A node's own rule over the places below it: what a combinator answers is what its callees answer, put together.
-- Assumes nothing.
use Rattle.std.specs.Prelude.{Option, ℕ}
use mathlib.Core.Path.{◌≡◌}
use mathlib.Core.Bool.{Bool}
use Prim.Native.Nat.{ℕ}
use lib.Dec.{eqb}
use Rattle.rules.specs.Bytes.{◌and◌}
use Rattle.rules.specs.Values.{maybe_of}
use Rattle.rules.specs.Places.{sooner, wrong_unless}

-- The rule: one test of types or two, the first perhaps of a maybe.
pub test_right : (v : ℕ) {u x : ℕ} → u ≡ x → eqb u v ≡ eqb x v
test_right v e = cc

pub tests_right : {u v w z a b c d : ℕ} {r : Bool} → u ≡ a → v ≡ b → w ≡ c → z ≡ d → r ≡ (eqb u v and eqb w z) → r ≡ (eqb a b and eqb c d)
tests_right eu ev ew ez e = cc

pub maybe_right : (t : ℕ) {u w z a c d : ℕ} {m r : Bool} → m ≡ eqb u (maybe_of t) → u ≡ a → w ≡ c → z ≡ d → r ≡ (m and eqb w z)
    → r ≡ (eqb a (maybe_of t) and eqb c d)
maybe_right t em eu ew ez e = cc

-- The type, and the smallest place: of the node over one place, over two, and over three.
pub over_one : (i : ℕ) {r right : Bool} {s t type : ℕ} {x at here least q : Option ℕ} → here ≡ wrong_unless r i → r ≡ right → at ≡ x → least ≡ sooner here at → s ≡ type
    → (t ≡ s) × (q ≡ least)
    → (t ≡ type) × (q ≡ sooner (wrong_unless right i) x)
over_one i eh er ex el et e = (cc (e.0, et), cc (e.1, el, eh, er, ex))

pub over_two : (i : ℕ) {r right : Bool} {s t type : ℕ} {x at y after least q : Option ℕ} → r ≡ right → at ≡ x → after ≡ y → s ≡ type
    → least ≡ sooner (wrong_unless r i) (sooner at after) → (t ≡ s) × (q ≡ least)
    → (t ≡ type) × (q ≡ sooner (wrong_unless right i) (sooner x y))
over_two i er ex ey et el e = (cc (e.0, et), cc (e.1, el, er, ex, ey))

pub over_three : (i : ℕ) {r right : Bool} {s t type : ℕ} {x at y after z last below least q : Option ℕ} → r ≡ right → at ≡ x → after ≡ y → last ≡ z → below ≡ sooner after last → s ≡ type
    → least ≡ sooner (wrong_unless r i) (sooner at below) → (t ≡ s) × (q ≡ least)
    → (t ≡ type) × (q ≡ sooner (wrong_unless right i) (sooner x (sooner y z)))
over_three i er ex ey ez eb et el e = (cc (e.0, et), cc (e.1, el, eb, er, ex, ey, ez))
