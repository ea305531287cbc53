-- One byte more in what stands before a position. Assumes nothing.
use Rattle.std.specs.Prelude.{if◌then◌else◌}
use Prim.Native.Nat.{ℕ, ◌+◌}
use mathlib.Core.Path.{◌≡◌, refl, sym, ap, ◌∙◌}
use mathlib.Core.Bool.{Bool, true, false}
use native.Mathlib.Numerals.{unary_clauses}
use native.Mathlib.Omega.{arith}
use Rattle.rules.specs.Bytes.{Bytes}
use Rattle.spots.specs.Standing.{ends_at, lines_before, line_start}

pub more_lines : (text : Bytes) (i : ℕ) → lines_before text (i + 1) ≡ lines_before text i + (if ends_at text i then 1 else 0)
unfolding lines_before
more_lines text i = simp unary_clauses refl

pub more_start : (text : Bytes) (i : ℕ) → line_start text (i + 1) ≡ (if ends_at text i then i + 1 else line_start text i)
unfolding line_start
more_start text i = simp unary_clauses refl

-- One byte on, where a line ends with it,
pub ended : (text : Bytes) (i line : ℕ) → line ≡ lines_before text i + 1 → ends_at text i ≡ true
    → (line + 1 ≡ lines_before text (i + 1) + 1) × (i + 1 ≡ line_start text (i + 1))
ended text i line e so =
    let more = more_lines text i ∙ ap (λ (b : Bool). lines_before text i + (if b then 1 else 0)) so in
    (omega (arith, e, more), sym (more_start text i ∙ ap (λ (b : Bool). if b then i + 1 else line_start text i) so))

-- and where none does.
pub stayed : (text : Bytes) (i line start : ℕ) → line ≡ lines_before text i + 1 → start ≡ line_start text i → ends_at text i ≡ false
    → (line ≡ lines_before text (i + 1) + 1) × (start ≡ line_start text (i + 1))
stayed text i line start e f so =
    let more = more_lines text i ∙ ap (λ (b : Bool). lines_before text i + (if b then 1 else 0)) so in
    (omega (arith, e, more), f ∙ sym (more_start text i ∙ ap (λ (b : Bool). if b then i + 1 else line_start text i) so))
