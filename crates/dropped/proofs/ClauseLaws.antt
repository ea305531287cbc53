-- An entry breaks no clause exactly when it is right; so the entry that code 28 names breaks one.
-- Assumes nothing.
use Rattle.std.specs.Prelude.{if◌then◌else◌, Err}
use mathlib.Core.Path.{◌≡◌, refl, ◌∙◌}
use mathlib.Core.Bool.{Bool, true, false, not}
use Prim.Native.Nat.{ℕ, suc, ◌-◌, ◌<◌, ◌≤◌}
use native.Mathlib.Omega.{arith}
use lib.Dec.{eqb, ltb}
use borrow.Author.Tests.{ne_eqb, eqb-true, eqb-false, lt-ltb}
use Rattle.rules.specs.Bytes.{Bytes, ◌and◌, ◌or◌}
use Rattle.rules.specs.Layout.{nodes, kind_at, type_at, a_at, b_at, c_at, word_at, no_next}
use Rattle.rules.specs.Kinds.{fields_of}
use Rattle.rules.specs.declared.Field.{Field}
use Rattle.rules.specs.declared.Field.TheVariants.{Unused, Channel, PresentByte, Signal, Expression, FirstBranch, NextBranch, FirstCase, NextCase, Binder, Target}
use Rattle.rules.proofs.Verdicts.{fine_verdict}
use Rattle.dropped.specs.declared.Unpaired.TheVariants.{EntryWrong}
use Rattle.dropped.specs.Pairing.{Pairing, old_of, reaches, field_right, entry_right}
use Rattle.dropped.specs.PairedCall.{paired_call}
use Rattle.dropped.specs.Clauses.{unless, earlier, next_broken, field_broken, fields_broken, node_broken, entry_broken, clause_of, clause_call}
use Rattle.dropped.proofs.OneAnswer.{wrong_entry}

none_broken : (right : Bool) (c : ℕ) → eqb (unless right (suc c)) 0 ≡ right
unfolding unless
none_broken true c = refl
none_broken false c = ne_eqb (suc c) 0 (λ e. omega arith)

neither_broken : (a b : ℕ) → eqb (earlier a b) 0 ≡ (eqb a 0 and eqb b 0)
unfolding earlier ◌and◌
neither_broken a b = go (eqb a 0) refl (eqb b 0) refl (ltb b a)
  where
    go : (x : Bool) → eqb a 0 ≡ x → (y : Bool) → eqb b 0 ≡ y → (z : Bool) → eqb (if x then b else if y then a else if z then b else a) 0 ≡ (x and y)
    go true e y f z = f
    go false e true f z = e
    go false e false f true = f
    go false e false f false = e

next_broken_lem : (p : Bytes) (π : ℕ → ℕ) (c x y : ℕ)
    → eqb (next_broken p π (suc c) x y) 0 ≡ (if eqb x no_next then eqb y no_next else not (eqb y no_next) and reaches p y (π x))
unfolding next_broken ◌and◌
next_broken_lem p π c x y = go (eqb x no_next) (eqb y no_next)
  where
    go : (a b : Bool) → eqb (if a then unless b 3 else if b then 3 else unless (reaches p y (π x)) (suc c)) 0 ≡ (if a then b else not b and reaches p y (π x))
    go true b = none_broken b 2
    go false true = refl
    go false false = none_broken (reaches p y (π x)) c

field_broken_lem : (p : Bytes) (count : ℕ) (π : ℕ → ℕ) (c : ℕ) (f : Field) (x y : ℕ) → eqb (field_broken p count π (suc c) f x y) 0 ≡ field_right p count π f x y
unfolding field_broken field_right
field_broken_lem p count π c Unused x y = none_broken (eqb x y) 1
field_broken_lem p count π c Channel x y = none_broken (eqb x y) 1
field_broken_lem p count π c PresentByte x y = none_broken (eqb x y) 1
field_broken_lem p count π c Signal x y = none_broken (reaches p y (π x)) c
field_broken_lem p count π c Expression x y = none_broken (reaches p y (π x)) c
field_broken_lem p count π c FirstBranch x y = none_broken (reaches p y (π x)) c
field_broken_lem p count π c NextBranch x y = next_broken_lem p π c x y
field_broken_lem p count π c FirstCase x y = none_broken (reaches p y (π x)) c
field_broken_lem p count π c NextCase x y = next_broken_lem p π c x y
field_broken_lem p count π c Binder x y = none_broken (ltb x count and eqb (π x) y) 6
field_broken_lem p count π c Target x y = none_broken (ltb x count and eqb (π x) y) 6

regroup : (t w a b c l : Bool) → ((t and w) and ((a and (b and c)) and l)) ≡ (t and w and a and b and c and l)
unfolding ◌and◌
regroup true true true true c l = refl
regroup true true true false c l = refl
regroup true true false b c l = refl
regroup true false a b c l = refl
regroup false w a b c l = refl

module _ (p q : Bytes) (π : ℕ → ℕ) (i : ℕ) where
  -- The clauses of a node of the kind of its old one, as tests.
  abbrev ty : Bool
  ty = eqb (type_at q i) (type_at p (π i))

  abbrev word : Bool
  word = eqb (word_at q i) (word_at p (π i))

  abbrev last : Bool
  last = not (eqb (suc i) (nodes q)) or reaches p (nodes p - 1) (π i)

  abbrev a : ℕ → ℕ
  a child = field_broken p (nodes q) π child (fields_of (kind_at q i)).a (a_at q i) (a_at p (π i))

  abbrev b : ℕ → ℕ
  b child = field_broken p (nodes q) π child (fields_of (kind_at q i)).b (b_at q i) (b_at p (π i))

  abbrev c : ℕ → ℕ
  c child = field_broken p (nodes q) π child (fields_of (kind_at q i)).c (c_at q i) (c_at p (π i))

  abbrev a_right : Bool
  a_right = field_right p (nodes q) π (fields_of (kind_at q i)).a (a_at q i) (a_at p (π i))

  abbrev b_right : Bool
  b_right = field_right p (nodes q) π (fields_of (kind_at q i)).b (b_at q i) (b_at p (π i))

  abbrev c_right : Bool
  c_right = field_right p (nodes q) π (fields_of (kind_at q i)).c (c_at q i) (c_at p (π i))

  node_broken_lem : eqb (node_broken p q π i (π i)) 0 ≡ (ty and word and a_right and b_right and c_right and last)
  unfolding node_broken fields_broken
  node_broken_lem =
      neither_broken (unless (ty and word) 2) (earlier (earlier (a 4) (earlier (b 5) (c 6))) (unless last 8))
      ∙ rw (
        neither_broken (earlier (a 4) (earlier (b 5) (c 6))) (unless last 8),
        neither_broken (a 4) (earlier (b 5) (c 6)),
        neither_broken (b 5) (c 6),
        none_broken (ty and word) 1,
        none_broken last 7,
        field_broken_lem p (nodes q) π 3 (fields_of (kind_at q i)).a (a_at q i) (a_at p (π i)),
        field_broken_lem p (nodes q) π 4 (fields_of (kind_at q i)).b (b_at q i) (b_at p (π i)),
        field_broken_lem p (nodes q) π 5 (fields_of (kind_at q i)).c (c_at q i) (c_at p (π i)),
      ) (regroup ty word a_right b_right c_right last)

  -- An entry breaks no clause exactly when it is right.
  pub entry_broken_lem : eqb (entry_broken p q π i) 0 ≡ entry_right p q π i
  unfolding entry_broken entry_right ◌and◌
  entry_broken_lem = go (ltb (π i) (nodes p)) (eqb (kind_at q i) (kind_at p (π i)))
    where
      go : (x y : Bool) → eqb (if x then (if y then node_broken p q π i (π i) else 2) else 1) 0
          ≡ (x and y and ty and word and a_right and b_right and c_right and last)
      go true true = node_broken_lem
      go true false = refl
      go false y = refl

-- The entry that code 28 names breaks a clause, and the smaller ones break none.
pub record Tells (p q : Bytes) (l : Pairing) (i : ℕ) : Type 0 where
  pub broken : 1 ≤ clause_call p q l i
  pub before : (j : ℕ) → j < i → clause_call p q l j ≡ 0

pub tells : (p q : Bytes) (l : Pairing) (i : ℕ) → paired_call p q l ≡ Err (EntryWrong i) → Tells p q l i
unfolding clause_call clause_of
tells p q l i e =
    let w = wrong_entry p q l i e in
    let f = w.fit in
    let at : (j : ℕ) → j < nodes q → clause_call p q l j ≡ entry_broken p q (old_of l) j =
    λ j h. rw (fine_verdict p f.old_accepted, fine_verdict q f.new_accepted, lt-ltb j (nodes q) h) refl in
    record {
      broken = omega (arith, at i w.inside, eqb-false (entry_broken p q (old_of l) i) 0 (entry_broken_lem p q (old_of l) i ∙ w.wrong));
      before = λ j h. at j (omega (arith, w.inside)) ∙ eqb-true (entry_broken p q (old_of l) j) 0 (entry_broken_lem p q (old_of l) j ∙ w.right j h);
    }
