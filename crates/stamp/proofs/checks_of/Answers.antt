-- `stamp::checks_of` meets its contract. The invariant: the sum so far is that of the checks of the blocks before.
use Rattle.std.proofs.Common.{◌≡◌, ℕ, suc, ◌+◌, ◌*◌, ◌/◌, ◌%◌, length, refl, ap, ◌∙◌, arith}
use Rattle.rules.specs.Bytes.{Bytes, u32_at}
use Rattle.rules.specs.Layout.{blocks, block_at, check_in, checks_below, checks_of}
use Rattle.stamp.proofs.checks_of.Goals as goal

-- One block more.
next_check : (p : Bytes) (j : ℕ) → checks_below p (j + 1) ≡ checks_below p j + u32_at p (512 * j + 508)
unfolding checks_below check_in block_at
next_check p j = ap (checks_below p) (let e : j + 1 ≡ suc j = omega arith in e)

none_yet : (p : Bytes) → checks_below p 0 ≡ 0
unfolding checks_below
none_yet p = refl

pub loop-j-init : goal.loop-j-init
loop-j-init c = omega (arith, none_yet c.args.p.now)

pub u32_at-requires : goal.u32_at-requires
u32_at-requires c = omega arith

pub loop-j-preserved : goal.loop-j-preserved
loop-j-preserved c = let loop = c.loop-j in
    let next = next_check c.args.p.now loop.j in
    omega (arith, c.wrapping_add_u32-sum.ensures.value, c.u32_at.ensures, next, loop.invariant)

pub returns : goal.returns
unfolding checks_of blocks
returns c = let p : Bytes = c.args.p.now in
    let loop = c.loop-j in
    let e : loop.j ≡ length p / 512 = omega arith in
    loop.invariant ∙ ap (λ (k : ℕ). checks_below p k % 4294967296) e
