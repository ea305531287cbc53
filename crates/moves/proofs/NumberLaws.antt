-- The number of an update's outcome: the outcome by its size, its value's 8 bytes, and so much more counted.
-- Assumes nothing.
use Rattle.std.specs.Prelude.{if◌then◌else◌, Some, None}
use mathlib.Core.Path.{◌≡◌, refl, sym, ap, ◌∙◌}
use mathlib.Core.Bool.{Bool, true, false, true≢false, ◌||◌}
use Prim.Native.Nat.{ℕ, ◌+◌, ◌*◌, ◌/◌, ◌%◌, ◌<◌, ◌≤◌}
use native.Mathlib.Omega.{arith}
use lib.Dec.{eqb, ltb, leb}
use borrow.Author.Tests.{leb-true, le-leb, lt-leb, eqb-true, eqb-false, ne_eqb, ltb-true, ltb-false, lt-ltb, le-ltb}
use Rattle.rules.specs.Bytes.{Bytes, ◌or◌}
use Rattle.rules.specs.Values.{is_plain, packed, unpacked, type_in, present_in, word_in}
use Rattle.rules.specs.Work.{Updated, Next, Jump, Halted, moved, stays, leave, nothing, noted, one_rule, afterᵘ, ruleᵘ, ◌plus◌}
use Rattle.rules.specs.declared.Value.{Value}
use Rattle.rules.specs.declared.Value.TheVariants.{Plain}
use Rattle.rules.specs.declared.Tally.{Tally}
use Rattle.rules.specs.Moved.{Moved, Stay}
use Rattle.rules.proofs.Static.{and_both}
use Rattle.outcomes.specs.Outcome.{IsValue}
use Rattle.outcomes.proofs.Numbers.{sort_of, plain_in, plain_known, other_known, exact_plain, exact_present}
use Rattle.outcomes.proofs.Combining.{plain_most}
use Rattle.outcomes.proofs.Tallies.{counted, same_tally, same_leb, no_more, plus_assoc}
use Rattle.current.specs.Current.{shortly}
use Rattle.moves.specs.Outcomes.{work_of, calm_of, count_in, tally_in, target_in, jump_value, moved_in}

-- The outcome of 0, of another number below 1,048,576, and of one from there on.
pub moved_stuck : moved_in 0 ≡ Moved.Stuck
unfolding moved_in
moved_stuck = refl

pub moved_stays : (m : ℕ) → 0 < m → m < 1048576 → moved_in m ≡ Stay (tally_in m)
unfolding moved_in
moved_stays m h g = simp (ne_eqb m 0 (λ z. omega arith), lt-ltb m 1048576 g)

pub moved_jumps : (m : ℕ) → 1048576 ≤ m → moved_in m ≡ Moved.Jump (target_in m) (unpacked (jump_value m)) (tally_in m)
unfolding moved_in
moved_jumps m h = simp (ne_eqb m 0 (λ z. omega arith), le-ltb m 1048576 h)

-- What a number has counted.
pub count_most : (m : ℕ) → count_in m < 524288
unfolding count_in
count_most m = omega arith

pub count_is : (m : ℕ) → (tally_in m).work ≡ count_in m
unfolding tally_in count_in
count_is m = refl

pub count_of : (m : ℕ) → work_of (moved_in m) ≡ count_in m
unfolding moved_in tally_in count_in
count_of m = go (eqb m 0) refl (ltb m 1048576)
  where
    go : (b : Bool) → eqb m 0 ≡ b → (s : Bool)
        → work_of (if b then Moved.Stuck else if s then Stay (tally_in m) else Moved.Jump (target_in m) (unpacked (jump_value m)) (tally_in m)) ≡ count_in m
    go true e s = let z : m ≡ 0 = eqb-true m 0 e in omega arith
    go false e true = refl
    go false e false = refl

-- The 8 bytes of a jump's value are a value's: its present byte is 1.
module _ (m : ℕ) where
  jump_type : type_in (jump_value m) < 4
  unfolding type_in jump_value
  jump_type = omega arith

  jump_present : present_in (jump_value m) ≡ 1
  unfolding present_in jump_value
  jump_present = omega arith

  jump_parts : jump_value m ≡ type_in (jump_value m) + 256 + 4294967296 * word_in (jump_value m)
  unfolding type_in word_in jump_value
  jump_parts = omega arith

  pub jump_value_lem : IsValue (jump_value m)
  jump_value_lem = go (is_plain (type_in (jump_value m))) refl
    where
      go : (b : Bool) → is_plain (type_in (jump_value m)) ≡ b → IsValue (jump_value m)
      go true e = sym (exact_plain (jump_value m) e jump_parts)
      go false e = sym (exact_present (jump_value m) e (λ z. omega (arith, jump_present)) jump_parts)

-- What was counted, as a number of 20 bits: with more work, and with its mark set.
room : (t k : ℕ) → t < 1048576 → k + t % 524288 < 524288 → t + k < 1048576
room t k h l = omega arith

more_20 : (t k : ℕ) → t < 1048576 → k + t % 524288 < 524288 → ((t + k) % 524288 ≡ k + t % 524288) × (leb 524288 (t + k) ≡ leb 524288 t)
more_20 t k h l = (omega arith, same_leb 524288 (t + k) 524288 t (λ e. omega arith) (λ e. omega arith))

-- More work of a number, if its count has room: the same mark, target and value.
module _ (m k : ℕ) (h : k + count_in m < 524288) where
  fits : m % 1048576 + k < 1048576
  unfolding count_in
  fits = room (m % 1048576) k (omega arith) h

  pub more_fits : m < 18446744073709551616 → m + k < 18446744073709551616
  more_fits l = omega (arith, fits)

  low_is : (m + k) % 1048576 ≡ m % 1048576 + k
  low_is = omega (arith, fits)

  pub more_count : count_in (m + k) ≡ k + count_in m
  unfolding count_in
  more_count = ap (λ (t : ℕ). t % 524288) low_is ∙ (more_20 (m % 1048576) k (omega arith) h).0

  more_tally : tally_in (m + k) ≡ counted k plus tally_in m
  unfolding count_in tally_in ◌plus◌ ◌or◌
  more_tally =
      let e = more_20 (m % 1048576) k (omega arith) h in
      same_tally (ap (λ (t : ℕ). t % 524288) low_is ∙ e.0) (ap (λ (t : ℕ). leb 524288 t) low_is ∙ e.1)

  more_target : target_in (m + k) ≡ target_in m
  unfolding target_in
  more_target = omega (arith, fits)

  more_value : jump_value (m + k) ≡ jump_value m
  unfolding jump_value
  more_value = omega (arith, fits)

  more_stays : m < 1048576 → m + k < 1048576
  more_stays l = omega (arith, fits)

  pub more_moved : (0 < m) → (st : Bytes) → moved (moved_in (m + k)) st ≡ afterᵘ (counted k) (moved (moved_in m) st)
  unfolding moved afterᵘ
  more_moved n st = go (ltb m 1048576) refl
    where
      go : (b : Bool) → ltb m 1048576 ≡ b → moved (moved_in (m + k)) st ≡ afterᵘ (counted k) (moved (moved_in m) st)
      go true e =
          let l : m < 1048576 = ltb-true m 1048576 e in
          rw (moved_stays (m + k) (omega arith) (more_stays l), moved_stays m n l, more_tally)
      go false e =
          let l : 1048576 ≤ m = ltb-false m 1048576 e in
          rw (moved_jumps (m + k) (omega arith), moved_jumps m l, more_target, more_value, more_tally)

-- A number with its mark set: the same work, target and value.
module _ (m : ℕ) (h : m % 1048576 < 524288) where
  pub mark_fits : m < 18446744073709551616 → m + 524288 < 18446744073709551616
  mark_fits l = omega arith

  high_is : (m + 524288) % 1048576 ≡ m % 1048576 + 524288
  high_is = omega arith

  pub mark_count : count_in (m + 524288) ≡ count_in m
  unfolding count_in
  mark_count = ap (λ (t : ℕ). t % 524288) high_is ∙ mark_20 (m % 1048576)
    where
      mark_20 : (t : ℕ) → (t + 524288) % 524288 ≡ t % 524288
      mark_20 t = omega arith

  mark_tally : tally_in (m + 524288) ≡ noted true plus tally_in m
  unfolding tally_in noted ◌plus◌ ◌or◌
  mark_tally = same_tally (omega (arith, mark_count)) (ap (λ (t : ℕ). leb 524288 t) high_is ∙ le-leb 524288 (m % 1048576 + 524288) (omega arith))

  mark_target : target_in (m + 524288) ≡ target_in m
  unfolding target_in
  mark_target = omega arith

  mark_value : jump_value (m + 524288) ≡ jump_value m
  unfolding jump_value
  mark_value = omega arith

  pub mark_moved : (0 < m) → (st : Bytes) → moved (moved_in (m + 524288)) st ≡ afterᵘ (noted true) (moved (moved_in m) st)
  unfolding moved afterᵘ
  mark_moved n st = go (ltb m 1048576) refl
    where
      go : (b : Bool) → ltb m 1048576 ≡ b → moved (moved_in (m + 524288)) st ≡ afterᵘ (noted true) (moved (moved_in m) st)
      go true e =
          let l : m < 1048576 = ltb-true m 1048576 e in
          rw (moved_stays (m + 524288) (omega arith) (omega arith), moved_stays m n l, mark_tally)
      go false e =
          let l : 1048576 ≤ m = ltb-false m 1048576 e in
          rw (moved_jumps (m + 524288) (omega arith), moved_jumps m l, mark_target, mark_value, mark_tally)

-- It is set already.
mark_yet : (m : ℕ) → 524288 ≤ m % 1048576 → tally_in m ≡ noted true plus tally_in m
unfolding tally_in noted ◌plus◌ ◌or◌
mark_yet m h = same_tally (omega arith) (le-leb 524288 (m % 1048576) h)

pub marked_same : (m : ℕ) → 524288 ≤ m % 1048576 → (0 < m) → (st : Bytes) → moved (moved_in m) st ≡ afterᵘ (noted true) (moved (moved_in m) st)
unfolding moved afterᵘ
marked_same m h n st = go (ltb m 1048576) refl
  where
    go : (b : Bool) → ltb m 1048576 ≡ b → moved (moved_in m) st ≡ afterᵘ (noted true) (moved (moved_in m) st)
    go true e = rw (moved_stays m n (ltb-true m 1048576 e), ← mark_yet m h)
    go false e = rw (moved_jumps m (ltb-false m 1048576 e), ← mark_yet m h)

-- More counted, with a mark or not.
pub after_parts : (u : Tally) (r : Updated) → u.wrapped ≡ true → afterᵘ (noted true) (afterᵘ (counted u.work) r) ≡ afterᵘ u r
unfolding afterᵘ noted ◌plus◌ ◌or◌
after_parts u (Next st t) e = rw e (ap (Next st) (same_tally (omega arith) refl))
after_parts u (Jump target v st t) e = rw e (ap (Jump target v st) (same_tally (omega arith) refl))
after_parts u Halted e = refl

pub after_plain : (u : Tally) (r : Updated) → u.wrapped ≡ false → afterᵘ (counted u.work) r ≡ afterᵘ u r
unfolding afterᵘ ◌plus◌
after_plain u (Next st t) e = rw e
after_plain u (Jump target v st t) e = rw e
after_plain u Halted e = refl

-- The eager or of the code is the definitions'.
pub or_same : (a b : Bool) → (a || b) ≡ a or b
unfolding ◌or◌
or_same true b = refl
or_same false b = refl

-- Two counts and one rule, with so much more.
pub later_fits : (u w : Tally) (n : ℕ) {t : Tally} → t ≡ one_rule plus (u plus w) → u.work + w.work + n < 524287 → t.work + n < 524288
unfolding one_rule ◌plus◌
later_fits u w n {t} e h = let z : t.work ≡ 1 + (u.work + w.work) = ap (λ (x : Tally). x.work) e in omega arith

-- More counted by a rule after two counts; and an update that stays so.
pub later_is : (u w : Tally) (r : Updated) → afterᵘ (one_rule plus (u plus w)) r ≡ ruleᵘ (afterᵘ u (afterᵘ w r))
unfolding afterᵘ ruleᵘ
later_is u w (Next st t) = ap (Next st) (plus_assoc one_rule (u plus w) t ∙ ap (λ (x : Tally). one_rule plus x) (plus_assoc u w t))
later_is u w (Jump target v st t) = ap (Jump target v st) (plus_assoc one_rule (u plus w) t ∙ ap (λ (x : Tally). one_rule plus x) (plus_assoc u w t))
later_is u w Halted = refl

-- The same after two counts and one rule.
pub later_by : (u w : Tally) {t : Tally} (m : ℕ) (st : Bytes) → t ≡ one_rule plus (u plus w)
    → afterᵘ t (moved (moved_in m) st) ≡ ruleᵘ (afterᵘ u (afterᵘ w (moved (moved_in m) st)))
later_by u w m st e = ap (λ (x : Tally). afterᵘ x (moved (moved_in m) st)) e ∙ later_is u w (moved (moved_in m) st)

pub stayed_is : (u w : Tally) {m : ℕ} {t : Tally} → tally_in m ≡ t → t.work ≤ m → m < 1048576 → t ≡ one_rule plus (u plus w) → (st : Bytes)
    → moved (moved_in m) st ≡ ruleᵘ (afterᵘ u (afterᵘ w (leave st)))
unfolding moved afterᵘ ruleᵘ leave
stayed_is u w {m} {t} e l g f st =
    let one : 1 ≤ t.work = rw f (at_least u w) in
    rw (moved_stays m (omega arith) g, e, f) (ap (Next st) (ap (λ (x : Tally). one_rule plus x) (ap (λ (x : Tally). u plus x) (sym (no_more w)))))
  where
    at_least : (u w : Tally) → 1 ≤ (one_rule plus (u plus w)).work
    at_least u w = unfold ◌plus◌ one_rule in omega arith

-- What was counted, as a number.
pub counted_plain : (u : Tally) → u.work < 524288 → u.wrapped ≡ false → (tally_in u.work ≡ u) × (u.work ≤ u.work) × (u.work < 1048576)
unfolding tally_in count_in
counted_plain u h e = (same_tally (omega arith) (lt-leb 524288 (u.work % 1048576) (omega arith) ∙ sym e), omega arith, omega arith)

pub counted_marked : (u : Tally) → u.work < 524288 → u.wrapped ≡ true
    → (tally_in (u.work + 524288) ≡ u) × (u.work ≤ u.work + 524288) × (u.work + 524288 < 1048576)
unfolding tally_in count_in
counted_marked u h e =
    (same_tally (omega arith) (le-leb 524288 ((u.work + 524288) % 1048576) (omega arith) ∙ sym e), omega arith, omega arith)

-- A jump that is caught: its count by one more rule.
pub caught_is : (m : ℕ) → count_in m < 524287 → moved_in (m % 1048576 + 1) ≡ Stay (one_rule plus tally_in m)
unfolding tally_in one_rule ◌plus◌ ◌or◌ count_in
caught_is m h =
    let t : ℕ = m % 1048576 in
    let l : t < 1048576 = omega arith in
    let s = room t 1 l (omega arith) in
    let e = more_20 t 1 l (omega arith) in
    let z : (t + 1) % 1048576 ≡ t + 1 = omega arith in
    moved_stays (t + 1) (omega arith) s
    ∙ ap Stay (same_tally (ap (λ (x : ℕ). x % 524288) z ∙ e.0) (ap (λ (x : ℕ). leb 524288 x) z ∙ e.1))

-- A number that stays or is stuck, and a jump: what is settled, and what no jump leaves.
module _ (m : ℕ) where
  pub settled_stays : 0 < m → m < 1048576 → Some (record { work = m % 524288; wrapped = leb 524288 m }) ≡ calm_of (moved_in m)
  unfolding calm_of tally_in count_in
  settled_stays n h =
      let z : m ≡ m % 1048576 = omega arith in
      rw (moved_stays m n h) (ap Some (same_tally (ap (λ (x : ℕ). x % 524288) z) (ap (λ (x : ℕ). leb 524288 x) z)))

  pub settled_jumps : 1048576 ≤ m → None ≡ calm_of (moved_in m)
  unfolding calm_of
  settled_jumps h = rw (moved_jumps m h)

  pub stays_same : m < 1048576 → (st : Bytes) → moved (moved_in m) st ≡ stays (moved (moved_in m) st)
  unfolding moved stays
  stays_same h st = go (eqb m 0) refl
    where
      go : (b : Bool) → eqb m 0 ≡ b → moved (moved_in m) st ≡ stays (moved (moved_in m) st)
      go true e = rw (eqb-true m 0 e, moved_stuck)
      go false e = rw (moved_stays m (omega (arith, eqb-false m 0 e)) h)

  pub stays_none : 1048576 ≤ m → (st : Bytes) → moved (moved_in 0) st ≡ stays (moved (moved_in m) st)
  unfolding moved stays
  stays_none h st = rw (moved_stuck, moved_jumps m h)

-- A target of 10 bits.
pub short_small : (t : ℕ) → t < 1023 → t ≡ shortly t
unfolding shortly
short_small t h = rw (lt-ltb t 1023 h)

pub short_large : (t : ℕ) → 1023 ≤ t → 1023 ≡ shortly t
unfolding shortly
short_large t h = rw (le-ltb t 1023 h)

-- The parts of a number: a count of 20 bits, a type of 2, a target of 10 and a word.
module _ (w t s q : ℕ) (f : w < 1048576) (g : t < 4) (h : s < 1024) where
  abbrev number : ℕ
  number = w + 1048576 * t + (4194304 * s + 4294967296 * q)

  tally_part : tally_in number ≡ tally_in w
  unfolding tally_in count_in
  tally_part =
      let z : number % 1048576 ≡ w % 1048576 = omega arith in
      same_tally (ap (λ (x : ℕ). x % 524288) z) (ap (λ (x : ℕ). leb 524288 x) z)

  type_part : number / 1048576 % 4 ≡ t
  type_part = omega arith

  target_part : target_in number ≡ s
  unfolding target_in
  target_part = omega arith

  word_part : number / 4294967296 ≡ q
  word_part = omega arith

  value_part : jump_value number ≡ t + 256 + 4294967296 * q
  unfolding jump_value
  value_part = rw (type_part, word_part)

-- The number of a jump with a plain value.
module _ (v : ℕ) (e : IsValue v) (h : is_plain (type_in v) ≡ true) where
  plain_type_lem : (0 < v % 4) × (type_in v ≡ v % 4)
  unfolding is_plain type_in
  plain_type_lem =
      let q = and_both _ _ h in
      let l : 1 ≤ v % 256 = leb-true 1 (v % 256) q.0 in
      let g : v % 256 ≤ 3 = leb-true (v % 256) 3 q.1 in
      (omega arith, omega arith)

  plain_parts : v % 4 + 256 + 4294967296 * (v / 4294967296) ≡ v
  unfolding packed word_in
  plain_parts = rw (plain_in v h, plain_type_lem.1) at e

  pub number_jumps : {t x i q : ℕ} → unpacked v ≡ Plain t x → i ≡ t → q ≡ x → (s w : ℕ) → s < 1024 → w < 1048576 → (st : Bytes)
      → moved (moved_in (w + 1048576 * i + (4194304 * s + 4294967296 * q))) st ≡ Jump s (unpacked v) st (tally_in w)
  unfolding moved word_in
  number_jumps {t} {x} {i} {q} d f n s w l g st =
      let known = plain_known v d in
      let i-is : i ≡ v % 4 = f ∙ known.0 ∙ plain_type_lem.1 in
      let q-is : q ≡ v / 4294967296 = n ∙ known.1 in
      let k : i < 4 = omega arith in
      rw (moved_jumps (number w i s q g k l) (omega (arith, plain_type_lem.0)), value_part w i s q g k l, target_part w i s q g k l, tally_part w i s q g k l, i-is, q-is, plain_parts)

  pub no_jump : {u : Value} → unpacked v ≡ u → (sort_of u ≡ 0 → ⊥) → ⊥
  no_jump d n = true≢false (sym h ∙ other_known v d n)

-- The type of a plain value is at most 3.
pub plain_small : (v : ℕ) {t x : ℕ} → unpacked v ≡ Plain t x → t < 4
plain_small v d = let known = plain_known v d in omega (arith, known.0, plain_most (type_in v) known.2)
