-- A program that is numbered so already comes back byte for byte.
-- Assumes nothing.
use Rattle.std.specs.Prelude.{Ok}
use mathlib.Core.Path.{◌≡◌, refl, sym, ap, subst, ◌∙◌}
use mathlib.Core.List.{List}
use Prim.Native.Nat.{ℕ, zero, suc, ◌+◌, ◌-◌, ◌<◌, ◌≤◌}
use native.Mathlib.Decide.{dec_lt, ℕ_discrete}
use native.Mathlib.Omega.{arith}
use lib.ListN.{length}
use Rattle.rules.specs.Bytes.{Bytes}
use Rattle.rules.specs.Layout.{nodes, type_at, edition}
use Rattle.rules.specs.Tree.{Signal, root}
use Rattle.rules.specs.Accepted.{Accepted}
use Rattle.rules.proofs.Rooted.{root_of}
use Rattle.rules.proofs.Established.{nodes_within}
use Rattle.promises.specs.Small.{Small}
use Rattle.declarative.proofs.EachRecord.{each_format}
use Rattle.written.specs.Order.{order_s, In}
use Rattle.written.specs.Parts.{Part, part, Slot, holds, child, size_p, size_k, row_p}
use Rattle.written.specs.Written.{part_s, new_number, place_in, written}
use Rattle.written.specs.Right.{HoldsP, HoldsK, EachS, Sound}
use Rattle.written.proofs.Places.{entry, Along, in_placed, order_s_length}
use Rattle.written.proofs.Parted.{part_s_size}
use Rattle.written.proofs.Typed.{each_map}
use Rattle.written.proofs.Read.{written_held}
use Rattle.written.proofs.Sounded.{accepted_sound, sound_right, sound_nodes, sound_edition}
use Rattle.rewritten.specs.Rewritten as R
use Rattle.rewritten.proofs.Renumbered.{renumbered_accepted, renumbered_small}
use Rattle.texts.specs.Numbering.{renumbered}
use Rattle.texts.specs.Calls.{read_call, print_call}
use Rattle.retold.specs.Retold.{text_in, program_in}
use Rattle.retold.specs.Stays.{up_from, NumberedSo}
use Rattle.retold.proofs.OneTable.{Same, one_table}
use Rattle.retold.proofs.Numbered.{signal_held}
use Rattle.retold.proofs.AtCalls.{printing, retold}

-- The numbers from one on.
pub up_length : (lo n : ℕ) → length (up_from lo n) ≡ n
unfolding up_from
up_length lo zero = refl
up_length lo (suc n) = ap suc (up_length (suc lo) n)

pub up_entry : (lo n i : ℕ) → i < n → entry (up_from lo n) i ≡ lo + i
unfolding up_from entry
up_entry lo zero i h = absurd (omega arith)
up_entry lo (suc n) zero h = omega arith
up_entry lo (suc n) (suc i) h = up_entry (suc lo) n i (omega arith) ∙ omega arith

-- Two programs that hold the records of one part have the same records.
mutual
  unfolding size_p row_p

  part_same : (s : Part) (p q : Bytes) (lo : ℕ) → HoldsP s p lo → HoldsP s q lo → (r : ℕ) → lo ≤ r → r < lo + size_p s → Same p q r
  part_same (part k t w a b c) p q lo h g r l u = go (ℕ_discrete r (lo + (size_k a + size_k b + size_k c))) (dec_lt r (lo + size_k a)) (dec_lt r (lo + size_k a + size_k b))
      (λ i. slot_same a p q lo h.0 g.0 r l i)
      (λ i j. slot_same b p q (lo + size_k a) h.1 g.1 r i j)
      (λ i j. slot_same c p q (lo + size_k a + size_k b) h.2 g.2 r i j)
    where
      go : Dec (r ≡ lo + (size_k a + size_k b + size_k c)) → Dec (r < lo + size_k a) → Dec (r < lo + size_k a + size_k b)
          → (r < lo + size_k a → Same p q r) → (lo + size_k a ≤ r → r < lo + size_k a + size_k b → Same p q r)
          → (lo + size_k a + size_k b ≤ r → r < lo + size_k a + size_k b + size_k c → Same p q r) → Same p q r
      go (yes e) x y fa fb fc = subst (Same p q) (sym e) (record {
        kind = sym h.3.kind_is ∙ g.3.kind_is;
        type = sym h.3.type_is ∙ g.3.type_is;
        a = sym h.3.a_is ∙ g.3.a_is;
        b = sym h.3.b_is ∙ g.3.b_is;
        c = sym h.3.c_is ∙ g.3.c_is;
        word = sym h.3.word_is ∙ g.3.word_is;
      })
      go (no d) (yes i) y fa fb fc = fa i
      go (no d) (no i) (yes j) fa fb fc = fb (omega arith) j
      go (no d) (no i) (no j) fa fb fc = fc (omega arith) (omega arith)

  slot_same : (s : Slot) (p q : Bytes) (lo : ℕ) → HoldsK s p lo → HoldsK s q lo → (r : ℕ) → lo ≤ r → r < lo + size_k s → Same p q r
  slot_same (holds x) p q lo h g r l u = absurd (omega arith)
  slot_same (child s) p q lo h g r l u = part_same s p q lo h g r l u

module _ (p : Bytes) (small : Small p) (a : Accepted p) (so : NumberedSo p) where
  abbrev s : Signal
  s = root p

  abbrev q : Bytes
  q = written (edition p) (root p)

  sound : Sound (type_at p) s
  sound = accepted_sound p a small.small

  long : length (order_s s) ≡ nodes p
  long = ap length so ∙ up_length 0 (nodes p)

  at_place : (i : ℕ) → i < length (order_s s) → entry (order_s s) i ≡ 0 + i
  at_place i l = ap (λ (xs : List ℕ). entry xs i) so ∙ up_entry 0 (nodes p) i (omega (arith, long))

  -- New numbers are the old ones.
  fixed : (b : ℕ) → In b (order_s s) → new_number s b ≡ b
  unfolding new_number
  fixed b i = let z = in_placed (order_s s) b i in omega (arith, at_place (place_in (order_s s) b) z.inside, z.found)

  all_fixed : EachS s (λ b. new_number s b ≡ b)
  all_fixed = each_map (λ b. In b (order_s s)) (λ b. new_number s b ≡ b) fixed s sound.named

  own : HoldsP (part_s s (new_number s)) p 0
  unfolding root Along
  own = (signal_held p a.formed small.small (new_number s) (nodes p - 1) (root_of p a) 0 at_place all_fixed).0

  new : HoldsP (part_s s (new_number s)) q 0
  new = written_held (edition p) s (sound_right (type_at p) s sound) sound.few

  size : size_p (part_s s (new_number s)) ≡ nodes p
  size = part_s_size s (new_number s) ∙ sym (order_s_length s) ∙ long

  new_nodes : nodes q ≡ nodes p
  new_nodes = sound_nodes (type_at p) s sound (edition p) ∙ sym (order_s_length s) ∙ long

  is_accepted : Accepted q
  unfolding R.renumbered
  is_accepted = renumbered_accepted p small a

  is_small : Small q
  unfolding R.renumbered
  is_small = renumbered_small p small a

  -- Renumbering leaves it.
  pub stays : renumbered p ≡ p
  unfolding renumbered
  stays =
      sym (one_table p q (each_format p a.formed) (each_format q is_accepted.formed) (nodes_within p) (nodes_within q) small.small is_small.small
      (sym (sound_edition (type_at p) s sound (edition p))) (sym new_nodes)
      (λ r l. part_same (part_s s (new_number s)) p q 0 own new r (omega arith) (omega (arith, size))))

-- At the calls: printed and read, it is there again.
pub comes_back : (p room₁ room₂ : Bytes) (n count size : ℕ) → Small p → NumberedSo p → (print_call p room₁).answer ≡ Ok n → (read_call (text_in p room₁ n) room₂).answer ≡ Ok (record { nodes = count; bytes = size })
    → program_in (text_in p room₁ n) room₂ size ≡ p
comes_back p room₁ room₂ n count size small so is again =
    (retold p small).same_program room₁ room₂ n count size is again ∙ stays p small (printing p room₁ n is).accepts so
