-- The tests of an entry, one after the other.
-- Assumes nothing.
use mathlib.Core.Path.{◌≡◌, refl, sym, ap, ◌∙◌}
use mathlib.Core.Bool.{Bool, true, false, not}
use mathlib.Core.List.{List}
use Prim.Native.Nat.{ℕ, ◌-◌, ◌<◌, ◌≤◌}
use lib.Dec.{eqb, ltb}
use lib.ListN.{length, get_or}
use borrow.Author.Tests.{eq-eqb, ne_eqb, lt-ltb, le-ltb}
use Rattle.rules.specs.Bytes.{Bytes, ◌and◌, ◌or◌}
use Rattle.rules.specs.Layout.{nodes, kind_at}
use Rattle.rules.specs.Kinds.{is_signal}
use Rattle.watched.specs.Watch.{list_wrong, entry_off}

pub none_wrong : (l : List ℕ) → length l ≡ 0 → true ≡ list_wrong l
unfolding list_wrong ◌or◌
none_wrong l e = rw (eq-eqb (length l) 0 e)

pub some_wrong : (l : List ℕ) → (length l ≡ 0 → ⊥) → ltb 8 (length l) ≡ list_wrong l
unfolding list_wrong ◌or◌
some_wrong l e = rw (ne_eqb (length l) 0 e)

module _ (p : Bytes) (l : List ℕ) (j : ℕ) where
  pub off_beyond : nodes p ≤ get_or l j 0 → true ≡ entry_off p l j
  unfolding entry_off ◌and◌ ◌or◌
  off_beyond h = rw (le-ltb (get_or l j 0) (nodes p) h)

  module _ (h : get_or l j 0 < nodes p) where
    pub off_kind : is_signal (kind_at p (get_or l j 0)) ≡ false → true ≡ entry_off p l j
    unfolding entry_off ◌and◌ ◌or◌
    off_kind k = rw (lt-ltb (get_or l j 0) (nodes p) h, k)

    module _ (k : is_signal (kind_at p (get_or l j 0)) ≡ true) where
      pub on_first : j ≡ 0 → false ≡ entry_off p l j
      unfolding entry_off ◌and◌ ◌or◌
      on_first z = rw (lt-ltb (get_or l j 0) (nodes p) h, k, eq-eqb j 0 z)

      pub on_above : (j ≡ 0 → ⊥) → get_or l (j - 1) 0 < get_or l j 0 → false ≡ entry_off p l j
      unfolding entry_off ◌and◌ ◌or◌
      on_above z a = rw (lt-ltb (get_or l j 0) (nodes p) h, k, ne_eqb j 0 z, lt-ltb (get_or l (j - 1) 0) (get_or l j 0) a)

      pub off_above : (j ≡ 0 → ⊥) → get_or l j 0 ≤ get_or l (j - 1) 0 → true ≡ entry_off p l j
      unfolding entry_off ◌and◌ ◌or◌
      off_above z a = rw (lt-ltb (get_or l j 0) (nodes p) h, k, ne_eqb j 0 z, le-ltb (get_or l (j - 1) 0) (get_or l j 0) a)

pub not_yes : (b : Bool) → not b ≡ true → b ≡ false
not_yes true e = sym e
not_yes false e = refl

pub not_no : (b : Bool) → not b ≡ false → b ≡ true
not_no true e = refl
not_no false e = sym e
