-- The records of a tree by two ways to number that agree on what the tree names.
-- Assumes nothing.
use mathlib.Core.Path.{◌≡◌, refl, ap}
use Prim.Native.Nat.{ℕ}
use Rattle.rules.specs.Values.{type_of}
use Rattle.rules.specs.Tree.{Expr, variable, constant, operation, negation, choice, just, taking, Signal, input, time, ext, delay, let_signal, switch, group, until, Branches, no_branch, branch, Cases, no_case, case}
use Rattle.written.specs.Parts.{Part, part, Slot, holds, child}
use Rattle.written.specs.Written.{present_of, word_of, part_e, part_s, slot_b, slot_c}
use Rattle.written.specs.Right.{EachE, EachS, EachB, EachC}

module _ (φ ψ : ℕ → ℕ) where
  abbrev Agree : ℕ → Type 0
  Agree b = φ b ≡ ψ b

  agree_e : (e : Expr) → EachE Agree e → part_e φ e ≡ part_e ψ e
  unfolding part_e
  agree_e (variable n b t) h = ap (λ (x : ℕ). part 16 0 0 (holds x) (holds 0) (holds 0)) h
  agree_e (constant n v) h = refl
  agree_e (operation n k x y) h = let a = agree_e x h.0 in let b = agree_e y h.1 in λ i. part k 0 0 (child (a i)) (child (b i)) (holds 0)
  agree_e (negation n x) h = let a = agree_e x h in λ i. part 24 0 0 (child (a i)) (holds 0) (holds 0)
  agree_e (choice n x y z) h =
      let a = agree_e x h.0 in let b = agree_e y h.1 in let c = agree_e z h.2 in λ i. part 27 0 0 (child (a i)) (child (b i)) (child (c i))
  agree_e (just n x) h = let a = agree_e x h in λ i. part 28 0 0 (child (a i)) (holds 0) (holds 0)
  agree_e (taking n t x y z) h =
      let a = agree_e x h.0 in let b = agree_e y h.1 in let c = agree_e z h.2 in λ i. part 29 t 0 (child (a i)) (child (b i)) (child (c i))

  mutual
    unfolding part_s

    pub agree_s : (s : Signal) → EachS s Agree → part_s s φ ≡ part_s s ψ
    agree_s (input n c) h = refl
    agree_s (time n) h = refl
    agree_s (ext n e) h = let a = agree_e e h in λ i. part 3 0 0 (child (a i)) (holds 0) (holds 0)
    agree_s (delay n k v s) h = let a = agree_s s h in λ i. part 4 (type_of v) (word_of v) (child (a i)) (holds (present_of v)) (holds 0)
    agree_s (let_signal n t x y) h = let a = agree_s x h.0 in let b = agree_s y h.1 in λ i. part 5 t 0 (child (a i)) (child (b i)) (holds 0)
    agree_s (switch n k t x y z) h =
        let a = agree_s x h.0 in let b = agree_s y h.1 in let c = agree_s z h.2 in λ i. part 6 t 0 (child (a i)) (child (b i)) (child (c i))
    agree_s (group n k x brs) h = let a = agree_s x h.0 in let b = agree_b brs h.1 in λ i. part 7 0 0 (child (a i)) (b i) (holds 0)
    agree_s (until n x cs) h = let a = agree_s x h.0 in let b = agree_c cs h.1 in λ i. part 8 0 0 (child (a i)) (b i) (holds 0)

    agree_b : (s : Branches) → EachB s Agree → slot_b s φ ≡ slot_b s ψ
    agree_b no_branch h = refl
    agree_b (branch n t x brs) h = let a = agree_s x h.0 in let b = agree_b brs h.1 in λ i. child (part 9 t 0 (child (a i)) (b i) (holds 0))

    agree_c : (s : Cases) → EachC s Agree → slot_c s φ ≡ slot_c s ψ
    agree_c no_case h = refl
    agree_c (case n x target t cs) h =
        let a = agree_s x h.1 in let b = agree_c cs h.2 in λ i. child (part 10 0 0 (child (a i)) (b i) (holds (h.0 i)))
