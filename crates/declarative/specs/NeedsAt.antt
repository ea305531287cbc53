-- Readiness over the table of nodes, as document 01 says it: code 8.
-- Assumes nothing: these are definitions.
use Rattle.std.specs.Prelude.{◌≡◌, ℕ, ◌<◌}
use Rattle.rules.specs.Bytes.{Bytes}
use Rattle.rules.specs.Layout.{nodes, kind_at, a_at, b_at}
use Rattle.declarative.specs.WayUp.{Above}

-- A child that counts: ".. except that a delay needs nothing, and the events of switch and until are not counted." (An until's b is its list
-- of cases, which hold its events.)
pub record Counted (p : Bytes) (n c : ℕ) : Type 0 where
  pub child : Above p n c
  pub no_delay : kind_at p n ≡ 4 → ⊥
  pub no_switch_event : kind_at p n ≡ 6 → b_at p n ≡ c → ⊥
  pub no_until_event : kind_at p n ≡ 8 → b_at p n ≡ c → ⊥

-- "A node needs a variable at once if it is that variable or if a child needs it at once": NeedsAt p x n, of the variable that node x binds.
pub data NeedsAt (p : Bytes) (x : ℕ) : ℕ → Type 0 where
  itself : {n : ℕ} → kind_at p n ≡ 16 → a_at p n ≡ x → NeedsAt p x n
  a_child : {n : ℕ} (c : ℕ) → c < nodes p → Counted p n c → NeedsAt p x c → NeedsAt p x n

-- Node n's own rule: "A let's definition never needs the let's own variable at once."
pub record LetRight (p : Bytes) (n : ℕ) : Type 0 where
  pub ready : kind_at p n ≡ 5 → NeedsAt p n (a_at p n) → ⊥

-- Code 8: every let.
pub record LetsReady (p : Bytes) : Type 0 where
  pub each : (n : ℕ) → n < nodes p → LetRight p n
