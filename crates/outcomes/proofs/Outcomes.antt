-- Laws for those who call, with those of the other files that they cite: the arm of an if, the parts of a maybe, an outcome taken apart,
-- and that no count is too large.
-- Assumes nothing.
use Rattle.std.specs.Prelude.{if◌then◌else◌, Option, Some, None}
use mathlib.Core.Path.{◌≡◌, refl, ap, subst, sym, ◌∙◌}
use mathlib.Core.Bool.{Bool, true, false}
use Prim.Native.Nat.{ℕ, ◌≤◌, ◌-◌, ◌+◌, ◌*◌}
use native.Mathlib.Omega.{arith}
use lib.Dec.{eqb}
use borrow.Author.Tests.{leb-true, eqb-false}
use Rattle.rules.specs.Values.{bool_t, is_maybe, packed, unpacked, value_from, type_in, present_in, middle_in, word_in}
use Rattle.rules.specs.Operations.{is_true}
use Rattle.rules.specs.Work.{after}
use Rattle.rules.specs.Evaluate.{plain_word, opened, arm_of as pickArm, chosen, take_arm, taken}
use Rattle.rules.specs.declared.Value.{Value}
use Rattle.rules.specs.declared.Value.TheVariants.{Plain, Absent, Present}
use Rattle.rules.specs.declared.Tally.{Tally}
use Rattle.rules.specs.Opened.{Opened, Here, Gone, Amiss}
use Rattle.rules.specs.Evaluated.{Evaluated, Done, Stuck}
use Rattle.rules.proofs.Round.{plain_yes}
use Rattle.rules.proofs.Static.{and_both}
use Rattle.rules.proofs.Within.{Within}
use Rattle.outcomes.specs.Combine.{work_of, arm, arm_by, arm_in, parts, parts_by, parts_of}
use Rattle.outcomes.specs.Outcome.{IsValue, IsProper, tally_in, outcome_in, IsOutcome, value_in, shown, shown_in}
use Rattle.std.proofs.lemmas.Option.{same_Some, none-some}
use Rattle.outcomes.specs.declared.Arm.{Arm}
use Rattle.outcomes.specs.declared.Parts.{Parts}
use Rattle.outcomes.specs.declared.Shown.{Shown}
use Rattle.outcomes.proofs.Numbers.{proper_plain, exact_value}
use Rattle.outcomes.proofs.Counted.{outcome_done, work_is, outcome_exact}
pub use Rattle.outcomes.proofs.Numbers.{proper_from, proper_int, proper_channel, proper_value, exact_same, exact_value}
pub use Rattle.outcomes.proofs.Slots.{slots_none, slots_set, bind_value}
pub use Rattle.outcomes.proofs.Counted.{work_is}

-- The fields of what is there, of two that are the same.
arm_same : {m n : ℕ} {w u : Tally} → arm m w ≡ arm n u → (m ≡ n) × (w ≡ u)
arm_same e = let q = same_Some _ _ e in (ap (λ (a : Arm). a.at) q, ap (λ (a : Arm). a.count) q)

pub parts_same : {d e : Option ℕ} {w u : Tally} → parts d w ≡ parts e u → (d ≡ e) × (w ≡ u)
parts_same e = let q = same_Some _ _ e in (ap (λ (a : Parts). a.event) q, ap (λ (a : Parts). a.count) q)

-- One that is absent is none that is present.
pub parts_apart : {v : ℕ} {u w : Tally} → parts (Some v) u ≡ parts None w → ⊥
parts_apart e = none-some _ (sym (parts_same e).0)

shown_same : {v n : ℕ} {w u : Tally} → shown v w ≡ shown n u → (v ≡ n) × (w ≡ u)
shown_same e = let q = same_Some _ _ e in (ap (λ (a : Shown). a.value) q, ap (λ (a : Shown). a.count) q)

-- A maybe by what it holds.
pub parts_with : {o : Option Parts} {q : Parts} {e : Option ℕ} → o ≡ Some q → q.event ≡ e → o ≡ parts e q.count
parts_with {q = q} h g = h ∙ ap (λ (x : Option ℕ). parts x q.count) g

-- If: the arm that is evaluated, after what its test counted.
module _ (x y : ℕ) where
  arm_by_lem : (b : Option ℕ) (w : Tally) (f : ℕ → Evaluated) {m : ℕ} {u : Tally} → arm_by b w x y ≡ arm m u
      → after w (pickArm b (f x) (f y)) ≡ after u (f m)
  unfolding arm_by pickArm
  arm_by_lem (Some b) w f {m} {u} e = go (is_true b) e
    where
      go : (t : Bool) → arm (if t then x else y) w ≡ arm m u → after w (if t then f x else f y) ≡ after u (f m)
      go true e = let q = arm_same e in cc (q.0, q.1)
      go false e = let q = arm_same e in cc (q.0, q.1)
  arm_by_lem None w f e = cc

  pub arm_goes : (r : Evaluated) (f : ℕ → Evaluated) {m : ℕ} {u : Tally} → arm_in r x y ≡ arm m u → chosen r (f x) (f y) ≡ after u (f m)
  unfolding arm_in chosen
  arm_goes (Done v w) f e = arm_by_lem (plain_word bool_t v) w f e
  arm_goes Stuck f e = cc

  none_by : (b : Option ℕ) (w : Tally) (r s : Evaluated) → arm_by b w x y ≡ None → after w (pickArm b r s) ≡ Stuck
  unfolding arm_by pickArm after
  none_by (Some b) w r s e = cc
  none_by None w r s e = refl

  pub arm_none : (q r s : Evaluated) → arm_in q x y ≡ None → chosen q r s ≡ Stuck
  unfolding arm_in chosen
  arm_none (Done v w) r s e = none_by (plain_word bool_t v) w r s e
  arm_none Stuck r s e = refl

  -- it is one of the two
  one_by : (P : ℕ → Type 0) (b : Option ℕ) (w : Tally) {m : ℕ} {u : Tally} → arm_by b w x y ≡ arm m u → P x → P y → P m
  unfolding arm_by
  one_by P (Some b) w {m} {u} e h g = go (is_true b) e h g
    where
      go : (t : Bool) → arm (if t then x else y) w ≡ arm m u → P x → P y → P m
      go true e h g = subst P (arm_same e).0 h
      go false e h g = subst P (arm_same e).0 g
  one_by P None w e h g = cc

  pub arm_one : (P : ℕ → Type 0) (r : Evaluated) {m : ℕ} {u : Tally} → arm_in r x y ≡ arm m u → P x → P y → P m
  unfolding arm_in
  arm_one P (Done v w) e h g = one_by P (plain_word bool_t v) w e h g
  arm_one P Stuck e h g = cc

  -- the test's count
  count_by : (b : Option ℕ) (w : Tally) {m : ℕ} {u : Tally} → arm_by b w x y ≡ arm m u → u ≡ w
  unfolding arm_by
  count_by (Some b) w e = sym (arm_same e).1
  count_by None w e = cc

  pub arm_work : (r : Evaluated) {m : ℕ} {u : Tally} → arm_in r x y ≡ arm m u → u.work ≡ work_of r
  unfolding arm_in
  arm_work (Done v w) e = ap (λ (t : Tally). t.work) (count_by (plain_word bool_t v) w e)
  arm_work Stuck e = cc

-- Take: the arm for present or for absent, after what its maybe counted.
-- the maybe's count
taken_by : (o : Opened) (w : Tally) {q : Option ℕ} {u : Tally} → parts_by o w ≡ parts q u → u ≡ w
unfolding parts_by
taken_by (Here v) w e = sym (parts_same e).1
taken_by Gone w e = sym (parts_same e).1
taken_by Amiss w e = cc

-- what a maybe holds is read back from its 8 bytes
proper_held : (t w : ℕ) → is_maybe t ≡ true → IsProper (Plain (t - 4) w)
unfolding is_maybe
proper_held t w h =
    let l : 5 ≤ t = leb-true 5 t (and_both _ _ h).0 in
    let g : t ≤ 7 = leb-true t 7 (and_both _ _ h).1 in
    proper_plain (t - 4) (omega arith) w (plain_yes (t - 4) (omega arith) (omega arith))

open_proper : (v : Value) (x : Value) → opened v ≡ Here x → IsProper x
unfolding opened
open_proper (Plain t w) x e = cc
open_proper (Absent t) x e = cc
open_proper (Present t w) x e = go (is_maybe t) refl e
  where
    go : (b : Bool) → is_maybe t ≡ b → (if b then Here (Plain (t - 4) w) else Amiss) ≡ Here x → IsProper x
    go true h g = subst (λ (v : Value). IsProper v) (let q : Plain (t - 4) w ≡ x = cc in q) (proper_held t w h)
    go false h g = cc

parts_value : (o : Opened) (w : Tally) → ((x : Value) → o ≡ Here x → IsProper x) → {m : ℕ} {u : Tally} → parts_by o w ≡ parts (Some m) u
    → (o ≡ Here (unpacked m)) × IsValue m
unfolding parts_by
parts_value (Here v) w h {m} e =
    let q : packed v ≡ m = same_Some _ _ (parts_same e).0 in
    let g : IsProper v = h v refl in
    (rw (← q, g), rw (← q, g))
parts_value Gone w h e = absurd (parts_apart (sym e))
parts_value Amiss w h e = cc

-- a present one: what it holds, and the count
pub parts_here : (v : Value) (w : Tally) {m : ℕ} {u : Tally} → parts_by (opened v) w ≡ parts (Some m) u → (opened v ≡ Here (unpacked m)) × (w ≡ u)
parts_here v w e = ((parts_value (opened v) w (open_proper v) e).0, sym (taken_by (opened v) w e))

pub take_value : (r : Evaluated) {q : Option ℕ} {u : Tally} {m : ℕ} → parts_of r ≡ parts q u → q ≡ Some m → IsValue m
unfolding parts_of
take_value (Done v w) e h = (parts_value (opened v) w (open_proper v) (rw h at e)).1
take_value Stuck e h = cc

module _ (a : Evaluated) (f : Value → Evaluated) where
  here_by : (o : Opened) (w : Tally) {m : ℕ} {u : Tally} → parts_by o w ≡ parts (Some m) u → o ≡ Here (unpacked m)
      → after w (take_arm o a f) ≡ after u (f (unpacked m))
  unfolding take_arm
  here_by o w {m} e h = let c = taken_by o w e in rw (h, c)

  pub take_present : (r : Evaluated) {m : ℕ} {u : Tally} → parts_of r ≡ parts (Some m) u → taken r a f ≡ after u (f (unpacked m))
  unfolding parts_of taken
  take_present (Done v w) e = here_by (opened v) w e (parts_value (opened v) w (open_proper v) e).0
  take_present Stuck e = cc

  gone_by : (o : Opened) (w : Tally) {u : Tally} → parts_by o w ≡ parts None u → after w (take_arm o a f) ≡ after u a
  unfolding parts_by take_arm
  gone_by (Here v) w e = absurd (parts_apart e)
  gone_by Gone w e = let q = (parts_same e).1 in cc
  gone_by Amiss w e = cc

  pub take_absent : (r : Evaluated) {u : Tally} → parts_of r ≡ parts None u → taken r a f ≡ after u a
  unfolding parts_of taken
  take_absent (Done v w) e = gone_by (opened v) w e
  take_absent Stuck e = cc

  wrong_by : (o : Opened) (w : Tally) → parts_by o w ≡ None → after w (take_arm o a f) ≡ Stuck
  unfolding parts_by take_arm after
  wrong_by (Here v) w e = cc
  wrong_by Gone w e = cc
  wrong_by Amiss w e = refl

  pub take_wrong : (r : Evaluated) → parts_of r ≡ None → taken r a f ≡ Stuck
  unfolding parts_of taken
  take_wrong (Done v w) e = wrong_by (opened v) w e
  take_wrong Stuck e = refl

pub take_work : (r : Evaluated) {q : Option ℕ} {u : Tally} → parts_of r ≡ parts q u → u.work ≡ work_of r
unfolding parts_of
take_work (Done v w) e = ap (λ (t : Tally). t.work) (taken_by (opened v) w e)
take_work Stuck e = cc

-- An outcome within a bound has counted at most that.
pub work_within : (r : Evaluated) {b : ℕ} → Within r b → work_of r ≤ b
work_within (Done v w) h = h.most
work_within Stuck h = omega arith

-- An outcome taken apart: its value has the bytes, and what was counted left out.
same_value : (m : ℕ) → unpacked (value_in m) ≡ unpacked m
unfolding unpacked type_in present_in word_in value_in
same_value m =
    let n : ℕ = value_in m in
    λ i. value_from
    ((let e : type_in n ≡ type_in m = omega arith in e) i)
    ((let e : present_in n ≡ present_in m = omega arith in e) i)
    ((let e : word_in n ≡ word_in m = omega arith in e) i)

value_parts : (m : ℕ) → m ≡ value_in m + 65536 * middle_in m
unfolding value_in middle_in
value_parts m = omega arith

value_exact : (m : ℕ) → (m ≡ 0 → ⊥) → IsOutcome m → IsValue (value_in m)
value_exact m n h = let e : packed (unpacked m) ≡ value_in m = omega (arith, outcome_exact m n h, value_parts m) in rw (← e) (exact_value m)

-- by its number: 0, or another
shown_some : (m : ℕ) {v : ℕ} {u : Tally} → shown_in m ≡ shown v u → ((m ≡ 0 → ⊥) × (v ≡ value_in m)) × (u ≡ tally_in (middle_in m))
unfolding shown_in
shown_some m {v} {u} h = go (eqb m 0) refl h
  where
    go : (b : Bool) → eqb m 0 ≡ b → (if b then None else shown (value_in m) (tally_in (middle_in m))) ≡ shown v u
        → ((m ≡ 0 → ⊥) × (v ≡ value_in m)) × (u ≡ tally_in (middle_in m))
    go true e g = cc
    go false e g = let q = shown_same g in ((eqb-false m 0 e, sym q.0), sym q.1)

pub shown_value : (m : ℕ) {v : ℕ} {u : Tally} → shown_in m ≡ shown v u → outcome_in m ≡ Done (unpacked v) u
shown_value m h =
    let g = shown_some m h in
    cc (outcome_done m g.0.0, same_value m, g.0.1, g.1)

pub shown_exact : (m : ℕ) {v : ℕ} {u : Tally} → IsOutcome m → shown_in m ≡ shown v u → IsValue v
shown_exact m e h = let g = shown_some m h in rw g.0.1 (value_exact m g.0.0 e)

pub shown_work : (m : ℕ) {v : ℕ} {u : Tally} → shown_in m ≡ shown v u → u.work ≡ work_of (outcome_in m)
unfolding tally_in
shown_work m h = let g = shown_some m h in ap (λ (t : Tally). t.work) g.1 ∙ sym (work_is m)

pub shown_stuck : (m : ℕ) → shown_in m ≡ None → outcome_in m ≡ Stuck
unfolding shown_in outcome_in
shown_stuck m h = go (eqb m 0) h
  where
    go : (b : Bool) → (if b then None else shown (value_in m) (tally_in (middle_in m))) ≡ None
        → (if b then Stuck else Done (unpacked m) (tally_in (middle_in m))) ≡ Stuck
    go true e = refl
    go false e = cc
