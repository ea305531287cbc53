-- What the fields and types of a kind are, by tests of its number: they agree on the kinds up to 29, and hold of no other.
-- Assumes nothing.
use Rattle.std.specs.Prelude.{None}
use mathlib.Core.Path.{◌≡◌, refl, sym, ap}
use mathlib.Core.Bool.{Bool, true, false}
use mathlib.Core.List.{[]}
use Prim.Native.Nat.{ℕ, ◌+◌, ◌≤◌, ◌<◌}
use native.Mathlib.Omega.{arith}
use lib.Dec.{eqb, ltb}
use borrow.Author.Tests.{lt-leb, le-leb, le-ltb, ltb-true, ltb-false, ne_eqb}
use Rattle.rules.specs.Bytes.{◌and◌, ◌or◌, first_from}
use Rattle.rules.specs.Kinds.{row, is_signal, is_branch, is_case, is_expression, is_kind, fields_of}
use Rattle.rules.specs.declared.Field.{Field}
use Rattle.rules.specs.declared.Field.TheVariants.{Unused, Channel, PresentByte, Signal, Expression, FirstBranch, NextBranch, FirstCase, NextCase, Binder, Target}
use Rattle.rules.proofs.Established.{nowhere_from}
use Rattle.kinds.proofs.Digits.{no_fields}
use Rattle.texts.specs.Spelling.{kind_word, edition_word}
use Rattle.spell.specs.Vocabulary.{listed}
use Rattle.forms.specs.Laying.{is_binding, is_valued}

-- Fields that are printed and are no child: a channel and a target.
unfoldable pub is_said : Field → Bool
is_said Unused = false
is_said Channel = true
is_said PresentByte = false
is_said Signal = false
is_said Expression = false
is_said FirstBranch = false
is_said NextBranch = false
is_said FirstCase = false
is_said NextCase = false
is_said Binder = false
is_said Target = true

-- Two tests differ.
abbrev differ : Bool → Bool → Bool
differ true true = false
differ true false = true
differ false true = true
differ false false = false

same : (a b : Bool) → differ a b ≡ false → a ≡ b
same true true e = refl
same true false e = e
same false true e = sym e
same false false e = refl

by_kinds : (one two : ℕ → Bool) → first_from (λ j. differ (one j) (two j)) 0 30 ≡ None → ((k : ℕ) → 30 ≤ k → one k ≡ two k) → (k : ℕ) → one k ≡ two k
by_kinds one two near far k = go (ltb k 30) refl
  where
    go : (b : Bool) → ltb k 30 ≡ b → one k ≡ two k
    go true e = same _ _ (nowhere_from (λ j. differ (one j) (two j)) 30 0 k near (omega arith) (omega (arith, ltb-true k 30 e)))
    go false e = far k (ltb-false k 30 e)

-- No kind is above 29.
no_kind : (k : ℕ) → 30 ≤ k → is_kind k ≡ false
unfolding is_kind is_signal is_branch is_case is_expression ◌and◌ ◌or◌
no_kind k h =
    simp (le-leb 1 k (omega arith), lt-leb k 8 (omega arith), ne_eqb k 9 (λ e. omega arith), ne_eqb k 10 (λ e. omega arith), le-leb 16 k (omega arith), lt-leb k 29 (omega arith))

far_said_a : (k : ℕ) → 30 ≤ k → eqb k 1 ≡ is_said (fields_of k).a
unfolding row is_said
far_said_a k h = simp (no_fields k (no_kind k h), ne_eqb k 1 (λ e. omega arith))

pub said_a : (k : ℕ) → eqb k 1 ≡ is_said (fields_of k).a
unfolding ◌and◌ ◌or◌ fields_of row first_from is_said
said_a = by_kinds (λ k. eqb k 1) (λ k. is_said (fields_of k).a) refl far_said_a

far_said_b : (k : ℕ) → 30 ≤ k → false ≡ is_said (fields_of k).b
unfolding row is_said
far_said_b k h = simp (no_fields k (no_kind k h))

pub said_b : (k : ℕ) → false ≡ is_said (fields_of k).b
unfolding ◌and◌ ◌or◌ fields_of row first_from is_said
said_b = by_kinds (λ k. false) (λ k. is_said (fields_of k).b) refl far_said_b

far_said_c : (k : ℕ) → 30 ≤ k → eqb k 10 ≡ is_said (fields_of k).c
unfolding row is_said
far_said_c k h = simp (no_fields k (no_kind k h), ne_eqb k 10 (λ e. omega arith))

pub said_c : (k : ℕ) → eqb k 10 ≡ is_said (fields_of k).c
unfolding ◌and◌ ◌or◌ fields_of row first_from is_said
said_c = by_kinds (λ k. eqb k 10) (λ k. is_said (fields_of k).c) refl far_said_c

far_binding : (k : ℕ) → 30 ≤ k → ((eqb k 5 or eqb k 6) or (eqb k 9 or eqb k 29)) ≡ is_binding (fields_of k).ty
unfolding row is_binding ◌or◌
far_binding k h = simp (no_fields k (no_kind k h), ne_eqb k 5 (λ e. omega arith), ne_eqb k 6 (λ e. omega arith), ne_eqb k 9 (λ e. omega arith), ne_eqb k 29 (λ e. omega arith))

pub binding : (k : ℕ) → ((eqb k 5 or eqb k 6) or (eqb k 9 or eqb k 29)) ≡ is_binding (fields_of k).ty
unfolding ◌and◌ ◌or◌ fields_of row first_from is_binding
binding = by_kinds (λ k. ((eqb k 5 or eqb k 6) or (eqb k 9 or eqb k 29))) (λ k. is_binding (fields_of k).ty) refl far_binding

far_valued : (k : ℕ) → 30 ≤ k → (eqb k 4 or eqb k 17) ≡ is_valued (fields_of k).ty
unfolding row is_valued ◌or◌
far_valued k h = simp (no_fields k (no_kind k h), ne_eqb k 4 (λ e. omega arith), ne_eqb k 17 (λ e. omega arith))

pub valued : (k : ℕ) → (eqb k 4 or eqb k 17) ≡ is_valued (fields_of k).ty
unfolding ◌and◌ ◌or◌ fields_of row first_from is_valued
valued = by_kinds (λ k. (eqb k 4 or eqb k 17)) (λ k. is_valued (fields_of k).ty) refl far_valued

-- What has no word.
pub no_kind_word : (k : ℕ) → 30 ≤ k → [] ≡ kind_word k
unfolding kind_word
no_kind_word k h =
    simp (
      ne_eqb k 1 (λ e. omega arith),
      ne_eqb k 2 (λ e. omega arith),
      ne_eqb k 3 (λ e. omega arith),
      ne_eqb k 4 (λ e. omega arith),
      ne_eqb k 5 (λ e. omega arith),
      ne_eqb k 6 (λ e. omega arith),
      ne_eqb k 7 (λ e. omega arith),
      ne_eqb k 8 (λ e. omega arith),
      ne_eqb k 9 (λ e. omega arith),
      ne_eqb k 10 (λ e. omega arith),
      ne_eqb k 18 (λ e. omega arith),
      ne_eqb k 19 (λ e. omega arith),
      ne_eqb k 20 (λ e. omega arith),
      ne_eqb k 21 (λ e. omega arith),
      ne_eqb k 22 (λ e. omega arith),
      ne_eqb k 23 (λ e. omega arith),
      ne_eqb k 24 (λ e. omega arith),
      ne_eqb k 25 (λ e. omega arith),
      ne_eqb k 26 (λ e. omega arith),
      ne_eqb k 27 (λ e. omega arith),
      ne_eqb k 28 (λ e. omega arith),
      ne_eqb k 29 (λ e. omega arith),
    )

pub no_edition_word : (e : ℕ) → 2 ≤ e → [] ≡ edition_word e
unfolding edition_word
no_edition_word e h = simp (ne_eqb e 0 (λ z. omega arith), ne_eqb e 1 (λ z. omega arith))

pub edition_row : (e : ℕ) → e < 2 → listed (42 + e) ≡ edition_word e
unfolding listed
edition_row e h =
    simp (
      le-ltb (42 + e) 30 (omega arith),
      le-ltb (42 + e) 38 (omega arith),
      ne_eqb (42 + e) 38 (λ z. omega arith),
      ne_eqb (42 + e) 39 (λ z. omega arith),
      ne_eqb (42 + e) 40 (λ z. omega arith),
      ne_eqb (42 + e) 41 (λ z. omega arith),
    )
    (ap edition_word (omega arith))
