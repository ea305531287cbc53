use Rattle.std.proofs.Common.{◌≡◌, ℕ, ◌<◌, ◌≤◌, ℤ, nat_abs, sym, ap, ◌∙◌, arith, w64, to_z, of_z}
use Rattle.rules.specs.Words.{wrap, signed, word_of, floor_z}
use Rattle.rules.specs.declared.Value.TheVariants.{Present}
use Rattle.words.proofs.Signs.{size_small, size_some, quotient_none, quotient_some}
use Rattle.words.proofs.Wide.{read_back, floor_small}
use Rattle.words.proofs.divide.Goals as goal

-- An integer of a word, in 64 bits and read back.
word_back : (x : ℕ) {a : ℤ} → x < wrap → a ≡ signed x → to_z w64 (of_z w64 a) ≡ signed x
word_back x h e = rw e (read_back (signed x) (omega (arith, size_small x h)))

-- The quotient of two of them, rounded down, likewise.
floor_back : (x y : ℕ) {a b q : ℤ} → x < wrap → y < wrap → a ≡ signed x → b ≡ signed y → q ≡ floor_z (to_z w64 (of_z w64 a)) (to_z w64 (of_z w64 b))
    → to_z w64 (of_z w64 q) ≡ floor_z (signed x) (signed y)
floor_back x y h k e f g =
    rw (g, word_back x h e, word_back y k f) (read_back (floor_z (signed x) (signed y)) (omega (arith, floor_small (signed x) (signed y), size_small x h)))

pub returns-then-y-eq0 : goal.returns-then-y-eq0
returns-then-y-eq0 c = sym (quotient_none _ _ c.if-y-eq0.true)

pub rounded_down-requires : goal.rounded_down-requires
rounded_down-requires c = let args = c.args in let x : ℕ = args.x in let y : ℕ = args.y in
    rw (word_back x (omega arith) c.integer-a.ensures, word_back y (omega arith) c.integer-b.ensures)
    (size_some y (omega arith) (omega arith), size_small x (omega arith), size_small y (omega arith))

pub word-requires : goal.word-requires
word-requires c = let args = c.args in let x : ℕ = args.x in let y : ℕ = args.y in
    let s : nat_abs (floor_z (signed x) (signed y)) ≤ 2147483648 = omega (arith, floor_small (signed x) (signed y), size_small x (omega arith)) in
    rw (floor_back x y (omega arith) (omega arith) c.integer-a.ensures c.integer-b.ensures c.rounded_down.ensures) s

pub returns : goal.returns
returns c = let args = c.args in let x : ℕ = args.x in let y : ℕ = args.y in
    ap (Present 7)
    (c.word.ensures
    ∙ ap word_of (floor_back x y (omega arith) (omega arith) c.integer-a.ensures c.integer-b.ensures c.rounded_down.ensures))
    ∙ sym (quotient_some x y (omega arith))
