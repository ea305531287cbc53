-- What is written is bytes.
-- Assumes nothing.
use mathlib.Core.Path.{◌≡◌, refl, sym, ap, ◌∙◌}
use mathlib.Core.List.{List, [], ◌∷◌, ◌++◌}
use Prim.Native.Nat.{ℕ, zero, suc, ◌+◌, ◌-◌, ◌<◌, ◌≤◌}
use native.Mathlib.Omega.{arith}
use lib.ListN.{length, take, drop, replicate}
use Rattle.rules.specs.Bytes.{Bytes, bytes_of}
use Rattle.rules.specs.Tree.{Signal}
use Rattle.written.specs.Parts.{Part, size_p, rows_p}
use Rattle.written.specs.Table.{rows_bytes, block_of, blocks_from, blocks_for, table_of}
use Rattle.written.specs.Written.{new_number, part_s, written}
use Rattle.written.specs.Right.{RightP, Sound}
use Rattle.written.proofs.ListLaws.{Small, small_nil, small_cons, small_app, small_number, small_zeros, small_take, small_drop}
use Rattle.written.proofs.Tabled.{part_small}
use Rattle.written.proofs.Parted.{part_s_right, part_s_size}
use Rattle.written.proofs.Sounded.{sound_right}

block_small : (edition count j : ℕ) (s : Bytes) → edition < 256 → count < 256 → Small s → Small (block_of edition count j s)
unfolding block_of
block_small edition count j s h g l =
    small_app _ _
    (small_app (bytes_of 2 j) _ (small_number 2 j) (small_cons count _ g (small_cons edition _ h (small_app s _ l (small_zeros (504 - length s))))))
    (small_number 4 _)

blocks_small : (left edition count j : ℕ) (s : Bytes) → edition < 256 → count < 256 → Small s → Small (blocks_from left edition count j s)
unfolding blocks_from
blocks_small zero edition count j s h g l = small_nil
blocks_small (suc left) edition count j s h g l =
    small_app (block_of edition count j (take 504 s)) _ (block_small edition count j (take 504 s) h g (small_take 504 s l))
    (blocks_small left edition count (suc j) (drop 504 s) h g (small_drop 504 s l))

few_blocks : (n : ℕ) → n ≤ 1008 → blocks_for n < 256
unfolding blocks_for
few_blocks n h = omega arith

pub written_small : (τ : ℕ → ℕ) (s : Signal) → Sound τ s → (edition : ℕ) → edition < 256 → Small (written edition s)
unfolding written table_of
written_small τ s sound edition h =
    blocks_small _ edition _ 0 _ h (few_blocks (size_p (part_s s (new_number s))) (omega (arith, part_s_size s (new_number s), sound.few)))
    (part_small (part_s s (new_number s)) 0 (part_s_right s (new_number s) (sound_right τ s sound)).right)
