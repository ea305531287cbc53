-- One entry more of a row, put behind those before it; and that a line with no entry is the step's own. Assumes nothing.
use Prim.Native.Nat.{ℕ, ◌+◌, ◌*◌}
use mathlib.Core.Path.{◌≡◌, refl, sym, ap, ◌∙◌}
use mathlib.Core.List.{List, [], ◌∷◌, ◌++◌, append-nil, append_assoc}
use native.Mathlib.Nat.{add-zero}
use native.Mathlib.Numerals.{unary_clauses}
use lib.ListN.{take}
use Rattle.rules.specs.Bytes.{Bytes, u64_at}
use Rattle.rules.specs.declared.Value.{Value}
use Rattle.wire.specs.Text.{decimal, field}
use Rattle.lines.specs.declared.pen.Pen.{Pen}
use Rattle.lines.specs.Pen.{Puts}
use Rattle.lines.proofs.PenLaws.{puts_as, puts_behind}
use Rattle.lines.specs.Print.{value_words, step_line}
use Rattle.lines.specs.Shown.{entry_words, row_words, step_words, shown_line}

-- no entry is put by doing nothing
pub none_put : (row : Bytes) (s : Pen) → Puts s (row_words row 0) s
unfolding row_words
none_put row s = record { put = record { place = sym (add-zero s.at); holds = sym (append-nil (take s.at s.line.now)) }; lent = refl; long = refl }

more_row : (row : Bytes) (j : ℕ) → row_words row (j + 1) ≡ row_words row j ++ entry_words (u64_at row (8 * j))
unfolding row_words
more_row row j = simp unary_clauses refl

pub entry_put : {s s₁ s₂ : Pen} {m : ℕ} (row : Bytes) (j : ℕ) → Puts s (row_words row j) s₁ → m ≡ u64_at row (8 * j) → Puts s₁ (entry_words m) s₂
    → Puts s (row_words row (j + 1)) s₂
entry_put row j p e q = puts_as (sym (more_row row j)) (puts_behind p (puts_as (ap entry_words e) q))

-- the line of a step without its end, and its end
stepped : (time : ℕ) (v : Value) (work : ℕ) → step_words time v work ++ (10 ∷ []) ≡ step_line time v work
unfolding step_words step_line field
stepped time v work = append_assoc (field time 32 ++ value_words v ++ (32 ∷ [])) (decimal work) (10 ∷ [])

-- a line with no entry is the step's own
pub no_entry : (time : ℕ) (v : Value) (work : ℕ) (row : Bytes) → shown_line time v work row 0 ≡ step_line time v work
unfolding shown_line row_words
no_entry time v work row = ap (λ (l : List ℕ). l ++ (10 ∷ [])) (append-nil (step_words time v work)) ∙ stepped time v work
