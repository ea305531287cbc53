-- What was counted, as a number of 16 bits: read back, with more counted, together with another, and marked.
-- Assumes nothing.
use Rattle.std.specs.Prelude.{if◌then◌else◌}
use mathlib.Core.Path.{◌≡◌, refl, sym, ap, ◌∙◌}
use mathlib.Core.Bool.{Bool, true, false, ◌||◌, true≢false}
use Prim.Native.Nat.{ℕ, ◌+◌, ◌-◌, ◌*◌, ◌%◌, ◌<◌, ◌≤◌}
use native.Mathlib.Omega.{arith}
use lib.Dec.{leb, ltb}
use borrow.Author.Tests.{leb-true, leb-false, le-leb, lt-leb, ltb-true, ltb-false}
use Rattle.rules.specs.Bytes.{◌or◌}
use Rattle.rules.specs.Work.{nothing, noted, one_rule, ◌plus◌}
use Rattle.rules.specs.declared.Tally.{Tally}
use Rattle.outcomes.specs.Outcome.{tally_in, tally_of}

-- So much work, and no mark.
abbrev pub counted : ℕ → Tally
counted n = record { work = n; wrapped = false }

-- A tally by its parts.
pub same_tally : {m n : ℕ} {b c : Bool} → m ≡ n → b ≡ c → ◌≡◌ {A = Tally} (record { work = m; wrapped = b }) (record { work = n; wrapped = c })
same_tally e f = λ i. record { work = e i; wrapped = f i }

pub tally_back : (t : ℕ) → t < 65536 → tally_of (tally_in t) ≡ t
unfolding tally_of tally_in
tally_back t h = go (leb 32768 t) refl
  where
    go : (b : Bool) → leb 32768 t ≡ b → t % 32768 + (if b then 32768 else 0) ≡ t
    go true e = let l : 32768 ≤ t = leb-true _ _ e in omega arith
    go false e = let l : t < 32768 = leb-false _ _ e in omega arith

-- Two tests that hold together.
pub same_leb : (a b c d : ℕ) → (a ≤ b → c ≤ d) → (b < a → d < c) → leb a b ≡ leb c d
same_leb a b c d f g = go _ refl
  where
    go : (t : Bool) → leb a b ≡ t → leb a b ≡ leb c d
    go true e = e ∙ sym (le-leb _ _ (f (leb-true _ _ e)))
    go false e = e ∙ sym (lt-leb _ _ (g (leb-false _ _ e)))

-- So much more work.
pub more_tally : (t k : ℕ) → k + t % 32768 < 32768 → t < 65536 → tally_in (t + k) ≡ counted k plus tally_in t
unfolding tally_in ◌plus◌ ◌or◌
more_tally t k h l = same_tally (omega arith) (same_leb 32768 (t + k) 32768 t (λ e. omega arith) (λ e. omega arith))

-- Two counts together, by which of them are marked.
module _ (a b : ℕ) (h : a < 65536) (g : b < 65536) where
  pub joined_first : a % 32768 + b % 32768 < 32767 → a < 32768 → (tally_in (a + b) ≡ tally_in a plus tally_in b) × (a + b < 65535)
  unfolding tally_in ◌plus◌ ◌or◌
  joined_first s l =
      (rw (lt-leb 32768 a l) (same_tally (omega arith) (same_leb 32768 (a + b) 32768 b (λ e. omega arith) (λ e. omega arith))), omega arith)

  pub joined_second : a % 32768 + b % 32768 < 32767 → 32768 ≤ a → b < 32768 → (tally_in (a + b) ≡ tally_in a plus tally_in b) × (a + b < 65535)
  unfolding tally_in ◌plus◌ ◌or◌
  joined_second s l k = (rw (le-leb 32768 a l, le-leb 32768 (a + b) (omega arith)) (same_tally (omega arith) refl), omega arith)

  pub joined_both : a % 32768 + b % 32768 < 32767 → 32768 ≤ a → 32768 ≤ b → (tally_in (a + b - 32768) ≡ tally_in a plus tally_in b) × (a + b - 32768 < 65535)
  unfolding tally_in ◌plus◌ ◌or◌
  joined_both s l k = (rw (le-leb 32768 a l, le-leb 32768 (a + b - 32768) (omega arith)) (same_tally (omega arith) refl), omega arith)

  -- By both tests at once.
  pub joined_once : a % 32768 + b % 32768 < 32767 → (ltb a 32768 || ltb b 32768) ≡ true → (tally_in (a + b) ≡ tally_in a plus tally_in b) × (a + b < 65535)
  joined_once s once = go (ltb a 32768) refl
    where
      go : (t : Bool) → ltb a 32768 ≡ t → (tally_in (a + b) ≡ tally_in a plus tally_in b) × (a + b < 65535)
      go true e = joined_first s (ltb-true _ _ e)
      go false e = joined_second s (ltb-false _ _ e) (ltb-true _ _ (ap (λ (x : Bool). x || ltb b 32768) (sym e) ∙ once))

  pub neither : (ltb a 32768 || ltb b 32768) ≡ false → (32768 ≤ a) × (32768 ≤ b)
  neither once = go (ltb a 32768) refl
    where
      go : (t : Bool) → ltb a 32768 ≡ t → (32768 ≤ a) × (32768 ≤ b)
      go true e = absurd (true≢false (ap (λ (x : Bool). x || ltb b 32768) (sym e) ∙ once))
      go false e = (ltb-false _ _ e, ltb-false _ _ (ap (λ (x : Bool). x || ltb b 32768) (sym e) ∙ once))

-- Marked, where it is not yet and where it is.
pub marked_new : (t : ℕ) → t < 32768 → tally_in (t + 32768) ≡ noted true plus tally_in t
unfolding tally_in noted ◌plus◌ ◌or◌
marked_new t h = rw (le-leb 32768 (t + 32768) (omega arith)) (same_tally (omega arith) refl)

pub marked_yet : (t : ℕ) → 32768 ≤ t → tally_in t ≡ noted true plus tally_in t
unfolding tally_in noted ◌plus◌ ◌or◌
marked_yet t h = rw (le-leb 32768 t h) (same_tally (omega arith) refl)

-- Nothing more is counted.
pub or_no : (b : Bool) → b or false ≡ b
unfolding ◌or◌
or_no true = refl
or_no false = refl

pub or_yes : (b : Bool) → b or true ≡ true
unfolding ◌or◌
or_yes true = refl
or_yes false = refl

pub no_more : (w : Tally) → w plus nothing ≡ w
unfolding ◌plus◌ nothing
no_more w = same_tally (omega arith) (or_no w.wrapped)

-- Together in three parts.
or_assoc : (a b c : Bool) → (a or b) or c ≡ a or (b or c)
unfolding ◌or◌
or_assoc true b c = refl
or_assoc false b c = refl

pub plus_assoc : (u v w : Tally) → (u plus v) plus w ≡ u plus (v plus w)
unfolding ◌plus◌
plus_assoc u v w = same_tally (omega arith) (or_assoc u.wrapped v.wrapped w.wrapped)

-- The laws that a list of counts cites.
pub yes_or : (b : Bool) → true or b ≡ true
unfolding ◌or◌
yes_or b = refl

pub no_or : (b : Bool) → false or b ≡ b
unfolding ◌or◌
no_or b = refl

pub one_first : (w : Tally) → counted 1 plus w ≡ w plus counted 1
unfolding ◌plus◌
one_first w = same_tally (omega arith) (no_or w.wrapped ∙ sym (or_no w.wrapped))

no_more_or : (x y z : Bool) → x or (false or (y or (false or z))) ≡ (x or y) or (false or z)
unfolding ◌or◌
no_more_or true y z = refl
no_more_or false y z = refl

pub four_parts : (a b w : Tally) (k : ℕ) → a plus (counted k plus (b plus (counted 1 plus w))) ≡ (a plus b) plus (counted (k + 1) plus w)
unfolding ◌plus◌
four_parts a b w k = same_tally (omega arith) (no_more_or a.wrapped b.wrapped w.wrapped)
