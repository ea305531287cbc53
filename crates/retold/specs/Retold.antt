-- "Printing an accepted program and reading it gives the same program under that numbering, and the printed text again."
-- Assumes nothing: these are definitions.
use Rattle.std.specs.Prelude.{ℕ, ◌≤◌, ◌≡◌, length, take, Ok}
use Rattle.rules.specs.Bytes.{Bytes}
use Rattle.rules.specs.Layout.{nodes}
use Rattle.texts.specs.Numbering.{renumbered}
use Rattle.texts.specs.Calls.{read_call, print_call}

-- The text that printing into a room left there, if it answers so many bytes; and the program that reading left.
abbrev pub text_in : Bytes → Bytes → ℕ → Bytes
text_in p room n = take n (print_call p room).room

abbrev pub program_in : Bytes → Bytes → ℕ → Bytes
program_in text room n = take n (read_call text room).room

-- Printed into one room, read into a second and printed again into a third, whatever the rooms held.
pub record Retold (p : Bytes) : Type 0 where
  -- A room that is long enough gets the program under that numbering.
  pub reads : (room₁ room₂ : Bytes) (n : ℕ) → (print_call p room₁).answer ≡ Ok n → length (renumbered p) ≤ length room₂
      → (read_call (text_in p room₁ n) room₂).answer ≡ Ok (record { nodes = nodes (renumbered p); bytes = length (renumbered p) })
  pub same_program : (room₁ room₂ : Bytes) (n count size : ℕ) → (print_call p room₁).answer ≡ Ok n → (read_call (text_in p room₁ n) room₂).answer ≡ Ok (record { nodes = count; bytes = size })
      → program_in (text_in p room₁ n) room₂ size ≡ renumbered p
  pub same_text : (room₁ room₂ room₃ : Bytes) (n count size m : ℕ) → (print_call p room₁).answer ≡ Ok n → (read_call (text_in p room₁ n) room₂).answer ≡ Ok (record { nodes = count; bytes = size })
      → (print_call (program_in (text_in p room₁ n) room₂ size) room₃).answer ≡ Ok m
      → text_in (program_in (text_in p room₁ n) room₂ size) room₃ m ≡ text_in p room₁ n
