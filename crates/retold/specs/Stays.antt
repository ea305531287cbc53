-- A program that is numbered so already, as each is that a text gives: it comes back byte for byte.
-- Assumes nothing: these are definitions.
use Rattle.std.specs.Prelude.{ℕ, zero, suc, ◌≡◌, List, [], ◌∷◌, Ok}
use Rattle.rules.specs.Bytes.{Bytes}
use Rattle.rules.specs.Layout.{nodes}
use Rattle.rules.specs.Tree.{root}
use Rattle.written.specs.Order.{order_s}
use Rattle.promises.specs.Small.{Small}
use Rattle.texts.specs.Calls.{read_call, print_call}
use Rattle.retold.specs.Retold.{text_in, program_in}

-- So many numbers from one on.
unfoldable pub up_from : ℕ → ℕ → List ℕ
up_from lo zero = []
up_from lo (suc n) = lo ∷ up_from (suc lo) n

-- "Nodes are numbered children first, in field order": taken in that order its nodes are 0, 1, .. N - 1.
abbrev pub NumberedSo : Bytes → Type 0
NumberedSo p = order_s (root p) ≡ up_from 0 (nodes p)

-- What reading leaves in a room is numbered so; and printed and read again it is there byte for byte, whatever the rooms held. (Bytes are below
-- 256 in every slice.)
pub record Reread (text room₁ : Bytes) (count size : ℕ) : Type 0 where
  pub numbered : NumberedSo (program_in text room₁ size)
  pub same_program : (room₂ room₃ : Bytes) (n count₂ size₂ : ℕ) → Small (program_in text room₁ size) → (print_call (program_in text room₁ size) room₂).answer ≡ Ok n
      → (read_call (text_in (program_in text room₁ size) room₂ n) room₃).answer ≡ Ok (record { nodes = count₂; bytes = size₂ })
      → program_in (text_in (program_in text room₁ size) room₂ n) room₃ size₂ ≡ program_in text room₁ size
