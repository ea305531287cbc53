-- The line of a watched step (document 02, l): the step's own line, and behind it what the listed nodes gave.
-- Assumes nothing: these are definitions.
use Rattle.std.specs.Prelude.{ℕ, zero, suc, ◌*◌, List, [], ◌∷◌, ◌++◌, eqb, if◌then◌else◌}
use Rattle.rules.specs.Bytes.{Bytes, u64_at}
use Rattle.rules.specs.Values.{unpacked}
use Rattle.rules.specs.declared.Value.{Value}
use Rattle.wire.specs.Text.{decimal, field}
use Rattle.lines.specs.Print.{value_words}

-- An entry of the second room, its 8 bytes as a number, behind a space: the value, or `-` for 8 zero bytes, where the evaluation did not come to
-- the node.
unfoldable pub entry_words : ℕ → List ℕ
entry_words m = if eqb m 0 then 32 ∷ 45 ∷ [] else (32 ∷ []) ++ value_words (unpacked m)

-- The first n entries of a step's row, in list order.
unfoldable pub row_words : Bytes → ℕ → List ℕ
row_words row zero = []
row_words row (suc n) = row_words row n ++ entry_words (u64_at row (8 * n))

-- Time, value, work: a step's line without its end.
unfoldable pub step_words : ℕ → Value → ℕ → List ℕ
step_words time v work = field time 32 ++ value_words v ++ (32 ∷ []) ++ decimal work

unfoldable pub shown_line : ℕ → Value → ℕ → Bytes → ℕ → List ℕ
shown_line time v work row entries = step_words time v work ++ row_words row entries ++ (10 ∷ [])
