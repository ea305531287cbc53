-- What has no word. (Crate spell has the rows of those that have one.)
-- Assumes nothing.
use mathlib.Core.Path.{◌≡◌}
use mathlib.Core.List.{[]}
use Prim.Native.Nat.{ℕ, ◌≤◌}
use native.Mathlib.Omega.{arith}
use borrow.Author.Tests.{ne_eqb}
use Rattle.texts.specs.Spelling.{type_word}

pub no_type : (t : ℕ) → 8 ≤ t → [] ≡ type_word t
unfolding type_word
no_type t h =
    simp (ne_eqb t 1 (λ e. omega arith), ne_eqb t 2 (λ e. omega arith), ne_eqb t 3 (λ e. omega arith), ne_eqb t 5 (λ e. omega arith), ne_eqb t 6 (λ e. omega arith), ne_eqb t 7 (λ e. omega arith))
