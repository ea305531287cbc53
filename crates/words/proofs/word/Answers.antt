use Rattle.std.proofs.Common.{◌≡◌, ◌<◌, ◌≤◌, true, false, T, ℤ, pos, nat_abs, sym, ap, ◌∙◌, subst, arith, w32, Fits}
use lib.Signed.{non_neg}
use Rattle.rules.specs.Words.{word_of}
use Rattle.words.proofs.Floor.{word_below}
use Rattle.words.proofs.Wide.{small_fits, read_back, summed, summed_back, word_high, below_zero}
use Rattle.words.proofs.word.Goals as goal

-- an integer that is not negative and at most 2 to the 31st
plain : (q : ℤ) → nat_abs q ≤ 2147483648 → non_neg q ≡ true → T (non_neg q) × Fits w32 (nat_abs q)
plain q h e = (subst T (sym e) tt, record { fits = let l : nat_abs q < 4294967296 = omega arith in l })

pub overflow_add-result : goal.overflow_add-result
overflow_add-result c = let w = word_below c.args.q in
    rw (summed c.args.q c.requires (below_zero c.args.q c.requires true c.if-q-lt0.true)) (small_fits (pos (word_of c.args.q)) (omega arith))

pub overflow_cast-result : goal.overflow_cast-result
overflow_cast-result c = rw (summed_back c.args.q c.requires (below_zero c.args.q c.requires true c.if-q-lt0.true)) (tt, record { fits = word_below c.args.q })

pub returns-then-q-lt0 : goal.returns-then-q-lt0
returns-then-q-lt0 c = ap nat_abs (summed_back c.args.q c.requires (below_zero c.args.q c.requires true c.if-q-lt0.true))

pub overflow_cast-result-2 : goal.overflow_cast-result-2
overflow_cast-result-2 c = let h : nat_abs c.args.q ≤ 2147483648 = c.requires in rw (read_back c.args.q (omega arith)) (plain c.args.q h (below_zero c.args.q h false c.if-q-lt0.false))

pub returns : goal.returns
returns c = let h : nat_abs c.args.q ≤ 2147483648 = c.requires in ap nat_abs (read_back c.args.q (omega arith)) ∙ word_high c.args.q h (below_zero c.args.q h false c.if-q-lt0.false)
