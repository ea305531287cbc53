-- A switch that catches a value and a group that catches a jump: to put to start the part that is left is to put to start all parts, where the
-- other parts rest.
-- Assumes nothing.
use Rattle.std.specs.Prelude.{if◌then◌else◌}
use mathlib.Core.Path.{◌≡◌, refl, sym, ap, ◌∙◌}
use mathlib.Core.Bool.{Bool, true, false}
use Prim.Native.Nat.{ℕ, ◌+◌, ◌≤◌}
use native.Mathlib.Omega.{arith}
use lib.ListN.{length}
use Rattle.rules.specs.Bytes.{Bytes, ◌and◌}
use Rattle.rules.specs.Layout.{cell, cell_at, set_cell, hold, is_clear, hold_branch}
use Rattle.rules.specs.Work.{Updated, Next, Jump}
use Rattle.rules.specs.Tree.{Signal, switch, Branches}
use Rattle.rules.specs.Scope.{Offers, has_branch}
use Rattle.rules.specs.Reset.{reset_s, reset_b, rests_s}
use Rattle.rules.specs.WellFormed.{content_fits, well_s}
use Rattle.rules.specs.Size.{is_cell, times_s}
use Rattle.rules.specs.Update.{caught}
use Rattle.rules.specs.declared.Value.{Value}
use Rattle.rules.proofs.Static.{and_both}
use Rattle.rules.proofs.Cells.{cell_other, time_stays, sum_stays, length_set_cell}
use Rattle.promises.specs.Small.{Small}
use Rattle.promises.specs.Sits.{SitsS}
use Rattle.promises.specs.Kept.{Kept}
use Rattle.promises.proofs.SmallLaws.{small_set_cell}
use Rattle.promises.proofs.Frames.{cell_another, kept_then, apart_agree, rests_agree}
use Rattle.promises.proofs.Rests.{reset_rests}
use Rattle.promises.proofs.Goes.{Goes, next, jump}
use Rattle.current.specs.Current.{leaves, swapped}
use Rattle.current.proofs.Resting.{rests_reset}

-- One of two parts, with what the state says of it.
pub either : (P : Bool → Type 0) (b p q : Bool) → (if b then p else q) ≡ true → (p ≡ true → P true) → (q ≡ true → P false) → P b
either P true p q e g h = g e
either P false p q e g h = h e

-- Whatever is stored in a cell, no other is changed.
set_kept : (st : Bytes) (k m : ℕ) → Small st → Kept (λ j. is_cell j k) st (set_cell st k m)
set_kept st k m s = record {
  long = length_set_cell st k m;
  bytes = small_set_cell st k m s;
  moment = time_stays st k m;
  stamp = sum_stays st k m;
  others = λ j e. cell_other st k j m (cell_another j k e);
}

-- A switch that has not switched leaves first, and puts it to start;
left_first : (k : ℕ) (x y : Signal) (st : Bytes) (v : Value) → is_clear st k ≡ true → swapped k x y st v ≡ reset_s x (hold st k v)
unfolding swapped
left_first k x y st v e = rw e

-- one that has leaves second.
left_second : (k : ℕ) (x y : Signal) (st : Bytes) (v : Value) → is_clear st k ≡ false → swapped k x y st v ≡ reset_s y (hold st k v)
unfolding swapped
left_second k x y st v e = rw e

-- A switch that catches a value: st is the state after its event's update.
pub swapped_same : (count cells : ℕ) (τ : ℕ → ℕ) (n k t : ℕ) (x e y : Signal) → SitsS count cells τ (switch n k t x e y)
    → ((j : ℕ) → times_s j (switch n k t x e y) ≤ 1) → (st : Bytes) → Small st → length st ≡ cell_at cells
    → (if is_clear st k then well_s st x and rests_s st y else content_fits t 0 (cell st k) and rests_s st x and well_s st y) ≡ true
    → (v : Value) → swapped k x y st v ≡ reset_s y (reset_s x (hold st k v))
unfolding hold times_s
swapped_same count cells τ n k t x e y sits once st s l w v =
    let q : Bytes = hold st k v in
    let a : Kept (λ j. is_cell j k) st q = set_kept st k _ s in
    let b = (reset_rests x count cells τ q sits.2 (λ j. omega (arith, once j)) a.bytes (a.long ∙ l)).kept in
    either (λ c. is_clear st k ≡ c → swapped k x y st v ≡ reset_s y (reset_s x q)) (is_clear st k) _ _ w
    (λ p f.
    let far : Kept (λ j. is_cell j k + times_s j x) st (reset_s x q) = kept_then (λ j z. omega arith) (λ j z. omega arith) a b in
    left_first k x y st v f
    ∙ sym (rests_reset y (reset_s x q) b.bytes
    (rests_agree y st (reset_s x q) (apart_agree (λ j. omega (arith, once j)) far) ∙ (and_both _ _ p).1)))
    (λ p f.
    let rests : rests_s st x ≡ true = (and_both _ _ (and_both _ _ p).0).1 in
    left_second k x y st v f
    ∙ ap (reset_s y) (sym (rests_reset x q a.bytes (rests_agree x st q (apart_agree (λ j. omega (arith, once j)) a) ∙ rests))))
    refl

-- A group that catches a jump out of a part: rest says that the reset of all parts is the reset of that one.
pub leaves_same : {Δ : Offers} {τ : ℕ → ℕ} {test : Bytes → Bool} {st : Bytes} (k : ℕ) (part body : Signal) (all : Branches) {r : Updated}
    → Goes Δ τ (λ j. times_s j part) test st r
    → ((q : Bytes) → Kept (λ j. is_cell j k + times_s j part) st q → reset_b all (reset_s body q) ≡ reset_s part q)
    → leaves k part all r ≡ caught k body all r
unfolding leaves caught hold_branch
leaves_same k part body all (next a e) rest = refl
leaves_same k part body all (jump {target} {v} {st₁} {w} o valid typed a) rest =
    let e = sym (rest (hold_branch st₁ k target v) (kept_then (λ j z. omega arith) (λ j z. omega arith) a (set_kept st₁ k _ a.bytes))) in
    λ i. if has_branch target all then Next (e i) w else Jump target v st₁ w
