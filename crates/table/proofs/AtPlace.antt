-- What is read at a record's place are the record's fields.
-- Assumes nothing.
use mathlib.Core.Path.{◌≡◌, ap, ◌∙◌}
use Prim.Native.Nat.{ℕ, ◌+◌}
use Rattle.rules.specs.Bytes.{Bytes, byte_at, u16_at, u32_at}
use Rattle.rules.specs.Layout.{record_at, kind_at, type_at, a_at, b_at, c_at, word_at}
use Rattle.rules.specs.Node.{IsNode}
use Rattle.rules.specs.declared.Node.{Node}

pub at_place : (p : Bytes) (i : ℕ) {at : ℕ} {n : Node} → at ≡ record_at i
    → (n.kind ≡ byte_at p at) × (n.ty ≡ byte_at p (at + 1)) × (n.a ≡ u16_at p (at + 2)) × (n.b ≡ u16_at p (at + 4)) × (n.c ≡ u16_at p (at + 6)) × (n.word ≡ u32_at p (at + 8))
    → IsNode p i n
unfolding kind_at type_at a_at b_at c_at word_at
at_place p i e f =
    record {
      kind_is = f.0 ∙ ap (λ (k : ℕ). byte_at p k) e;
      type_is = f.1 ∙ ap (λ (k : ℕ). byte_at p (k + 1)) e;
      a_is = f.2 ∙ ap (λ (k : ℕ). u16_at p (k + 2)) e;
      b_is = f.3 ∙ ap (λ (k : ℕ). u16_at p (k + 4)) e;
      c_is = f.4 ∙ ap (λ (k : ℕ). u16_at p (k + 6)) e;
      word_is = f.5 ∙ ap (λ (k : ℕ). u32_at p (k + 8)) e;
    }
