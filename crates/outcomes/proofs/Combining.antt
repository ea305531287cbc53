-- Each combinator by the parts of the numbers that it is given.
-- Assumes nothing.
use Rattle.std.specs.Prelude.{if◌then◌else◌, Some, None, Option}
use mathlib.Core.Path.{◌≡◌, refl, ap, sym, ◌∙◌}
use mathlib.Core.Bool.{Bool, true, false}
use Prim.Native.Nat.{ℕ, ◌+◌, ◌-◌, ◌%◌, ◌<◌, ◌≤◌}
use native.Mathlib.Omega.{arith}
use lib.Dec.{eqb, leb}
use borrow.Author.Tests.{leb-true, leb-false, le-leb, lt-leb, eqb-true, eq-eqb, ne_eqb}
use Rattle.rules.specs.Bytes.{◌and◌, ◌or◌}
use Rattle.rules.specs.Values.{bool_t, maybe_of, is_plain, is_maybe, value_from, packed, unpacked, type_in, present_in, middle_in, word_in}
use Rattle.rules.specs.Words.{quotient_of}
use Rattle.rules.specs.Operations.{truth, is_true, operand_type, number_of, truth_of, meaning, leaves_range}
use Rattle.rules.specs.Work.{nothing, noted, one_rule, ◌plus◌, give, after, rule}
use Rattle.rules.specs.Evaluate.{plain_word, opened, meant, on_words, operate, operated, not_of, negated, just_of, lifted}
use Rattle.rules.specs.declared.Value.{Value}
use Rattle.rules.specs.declared.Value.TheVariants.{Plain, Absent, Present}
use Rattle.rules.specs.declared.Tally.{Tally}
use Rattle.rules.specs.Evaluated.{Evaluated, Done, Stuck}
use Rattle.rules.proofs.Static.{and_both}
use Rattle.rules.proofs.Round.{plain_no}
use Rattle.outcomes.specs.Combine.{count_of, work_of, word_by, arm, arm_by, arm_in, parts, parts_by, parts_of}
use Rattle.outcomes.specs.Outcome.{tally_in, outcome_in, IsProper}
use Rattle.outcomes.proofs.Tallies.{same_tally, or_no, or_yes, more_tally, no_more, plus_assoc}
use Rattle.outcomes.proofs.Numbers.{plain_in, proper_present}
use Rattle.outcomes.proofs.Counted.{Gives, gives_stuck, outcome_done, outcome_stuck, count_is, work_is, middle_small}

pub plain_most : (t : ℕ) → is_plain t ≡ true → t ≤ 3
unfolding is_plain
plain_most t e = leb-true t 3 (and_both _ _ e).1

plain_least : (t : ℕ) → is_plain t ≡ true → 1 ≤ t
unfolding is_plain
plain_least t e = leb-true 1 t (and_both _ _ e).0

pub maybe_least : (t : ℕ) → is_maybe t ≡ true → 5 ≤ t
unfolding is_maybe
maybe_least t e = leb-true 5 t (and_both _ _ e).0

-- Stuck has type 0, which is not plain.
pub plain_some : (m : ℕ) → is_plain (type_in m) ≡ true → m ≡ 0 → ⊥
unfolding type_in
plain_some m e z = omega (arith, plain_least (type_in m) e)

-- The word of an outcome, by its value: stuck has none, and its number reads as absent.
nothing_in : unpacked 0 ≡ Absent 0
unfolding unpacked value_from type_in present_in word_in is_plain ◌and◌
nothing_in = refl

word_of_lem : (t m : ℕ) → plain_word t (unpacked m) ≡ word_by t (outcome_in m)
unfolding word_by plain_word outcome_in
word_of_lem t m = go (eqb m 0) refl
  where
    go : (b : Bool) → eqb m 0 ≡ b → plain_word t (unpacked m) ≡ word_by t (if b then Stuck else Done (unpacked m) (tally_in (middle_in m)))
    go true e = ap (λ (n : ℕ). plain_word t (unpacked n)) (eqb-true m 0 e) ∙ ap (plain_word t) nothing_in
    go false e = refl

module _ (t m : ℕ) {v : Value} (d : v ≡ unpacked m) where
  pub word_yes : {u w : ℕ} → v ≡ Plain u w → u ≡ t → Some w ≡ word_by t (outcome_in m)
  unfolding plain_word
  word_yes e f = rw (← word_of_lem t m, ← d, e, eq-eqb _ _ f)

  pub word_no : {u w : ℕ} → v ≡ Plain u w → (u ≡ t → ⊥) → None ≡ word_by t (outcome_in m)
  unfolding plain_word
  word_no e n = rw (← word_of_lem t m, ← d, e, ne_eqb _ _ n)

  pub word_absent : {u : ℕ} → v ≡ Absent u → None ≡ word_by t (outcome_in m)
  unfolding plain_word
  word_absent e = rw (← word_of_lem t m, ← d, e)

  pub word_present : {u w : ℕ} → v ≡ Present u w → None ≡ word_by t (outcome_in m)
  unfolding plain_word
  word_present e = rw (← word_of_lem t m, ← d, e)

-- The result of an operation, after so much was counted.
pub result_gives : (k x y : ℕ) (w : Tally) {m : ℕ} {v : Value} {l : Bool} → v ≡ meaning k x y → l ≡ leaves_range k x y
    → Gives m (after w (Done v (noted l))) → Gives m (after w (meant k x y))
unfolding meant
result_gives k x y w e f d = (d.0 ∙ (λ i. after w (Done (e i) (noted (f i)))), d.1)

-- A value with what was counted, marked or not.
pub if_left : {o m : ℕ} {v : Value} {w : Tally} {l : Bool} → l ≡ true → Gives o (Done v w) → Gives m (after (noted true) (outcome_in o))
    → Gives m (after w (Done v (noted l)))
unfolding after noted ◌plus◌ ◌or◌
if_left {v = v} {w} e f d =
    (d.0 ∙ rw (f.0, e) (ap (λ (x : Tally). Done v x) (same_tally (omega arith) (sym (or_yes w.wrapped)))), d.1)

pub if_not_left : {m : ℕ} {v : Value} {w : Tally} {l : Bool} → l ≡ false → Gives m (Done v w) → Gives m (after w (Done v (noted l)))
unfolding after noted ◌plus◌
if_not_left {v = v} {w} e d =
    (d.0 ∙ rw e (ap (λ (x : Tally). Done v x) (same_tally (omega arith) (sym (or_no w.wrapped)))), d.1)

-- What an operation means, by its kind, and that a test does not leave the range.
pub stays_in_range : (k x y : ℕ) → 20 < k → (k ≡ 21 → ⊥) → false ≡ leaves_range k x y
unfolding leaves_range ◌and◌
stays_in_range k x y h n = rw (lt-leb k 21 (above k h n))
  where
    above : (k : ℕ) → 20 < k → (k ≡ 21 → ⊥) → 21 < k
    above k h n = go _ refl
      where
        go : (b : Bool) → leb k 21 ≡ b → 21 < k
        go true e = absurd (n (let l : k ≤ 21 = leb-true _ _ e in omega arith))
        go false e = leb-false _ _ e

pub means_number : (k x y : ℕ) {n : ℕ} → k ≤ 20 → n ≡ number_of k x y → Plain 3 n ≡ meaning k x y
unfolding meaning
means_number k x y h e = rw e (simp (le-leb k 20 h))

pub left_as : {k : ℕ} (x y : ℕ) → k ≡ 21 → leaves_range k x y ≡ leaves_range 21 x y
left_as x y e = ap (λ (n : ℕ). leaves_range n x y) e

pub means_quotient : (k x y : ℕ) → k ≡ 21 → quotient_of x y ≡ meaning k x y
unfolding meaning
means_quotient k x y e = simp (lt-leb k 20 (omega arith), eq-eqb k 21 e)

pub means_truth : (k x y : ℕ) (b : Bool) → 20 < k → (k ≡ 21 → ⊥) → b ≡ truth_of k x y → Plain 2 (if b then 1 else 0) ≡ meaning k x y
unfolding meaning truth
means_truth k x y b h n e = simp (lt-leb k 20 h, ne_eqb k 21 n) (ap (λ (t : Bool). Plain 2 (if t then 1 else 0)) e)

-- A truth value, by the test that was made; and with what was counted it is what a test gives.
pub truth_said : {m : ℕ} {w : Tally} {t b : Bool} → t ≡ b → Gives m (Done (Plain 2 (if b then 1 else 0)) w) → Gives m (Done (truth t) w)
unfolding truth
truth_said {w = w} e d = (d.0 ∙ ap (λ (x : Bool). Done (Plain 2 (if x then 1 else 0)) w) (sym e), d.1)

pub truth_gives : (k x y : ℕ) (w : Tally) {m : ℕ} {t : Bool} → 20 < k → (k ≡ 21 → ⊥) → t ≡ truth_of k x y → Gives m (Done (truth t) w)
    → Gives m (after w (meant k x y))
unfolding truth
truth_gives k x y w h n e d = result_gives k x y w (means_truth k x y _ h n e) (stays_in_range k x y h n) (if_not_left refl d)

-- The type that an operation takes.
pub takes_ints : (k : ℕ) → k ≤ 23 → operand_type k ≡ 3
unfolding operand_type
takes_ints k h = simp (le-leb k 23 h)

pub takes_bools : (k : ℕ) → 23 < k → operand_type k ≡ 2
unfolding operand_type
takes_bools k h = simp (lt-leb k 23 h)

-- A combinator of one outcome or two, by their words and what they counted.
operated_by : (k : ℕ) (r s : Evaluated)
    → operated k r s ≡ after (count_of r plus count_of s) (on_words (meant k) (word_by (operand_type k) r) (word_by (operand_type k) s))
unfolding operated operate word_by on_words after
operated_by k (Done u x) (Done v y) = refl
operated_by k (Done u x) Stuck = go (plain_word (operand_type k) u)
  where
    go : (a : Option ℕ) → Stuck ≡ after (x plus nothing) (on_words (meant k) a None)
    go (Some a) = refl
    go None = refl
operated_by k Stuck s = refl

negated_by : (r : Evaluated) → negated r ≡ after (count_of r) (not_of (word_by bool_t r))
unfolding negated not_of word_by after
negated_by (Done u x) = refl
negated_by Stuck = refl

arm_by_word : (r : Evaluated) (yes₀ no₀ : ℕ) → arm_in r yes₀ no₀ ≡ arm_by (word_by bool_t r) (count_of r) yes₀ no₀
unfolding arm_in arm_by word_by
arm_by_word (Done u x) yes₀ no₀ = refl
arm_by_word Stuck yes₀ no₀ = refl

-- One more rule, after what an outcome counted.
one_more : (r : ℕ) → work_of (outcome_in r) < 32767 → tally_in (middle_in r + 1) ≡ one_rule plus (count_of (outcome_in r) plus nothing)
unfolding one_rule
one_more r l =
    more_tally (middle_in r) 1 (omega (arith, work_is r)) (middle_small r)
    ∙ ap (λ (w : Tally). one_rule plus w) (sym (no_more (count_of (outcome_in r)) ∙ count_is r))

-- What two outcomes counted together leaves room for one rule.
few_counted : (r s c : ℕ) {i j : ℕ} → work_of (outcome_in r) + work_of (outcome_in s) < 32767 → i ≡ middle_in r → j ≡ middle_in s
    → tally_in c ≡ tally_in i plus tally_in j → c % 32768 < 32767
unfolding tally_in ◌plus◌
few_counted r s c {i} {j} l p q t =
    let e : c % 32768 ≡ i % 32768 + j % 32768 = ap (λ (w : Tally). w.work) t in
    omega (arith, work_is r, work_is s)

-- An operation on two outcomes that have its words: its result, after what they counted together and one rule.
pub operated_done : (k r s : ℕ) {a b i j c m : ℕ} → word_by (operand_type k) (outcome_in r) ≡ Some a → word_by (operand_type k) (outcome_in s) ≡ Some b
    → work_of (outcome_in r) + work_of (outcome_in s) < 32767 → i ≡ middle_in r → j ≡ middle_in s → tally_in c ≡ tally_in i plus tally_in j → c < 65535
    → Gives m (after (tally_in (c + 1)) (meant k a b)) → Gives m (rule (operated k (outcome_in r) (outcome_in s)))
unfolding rule after on_words meant
operated_done k r s {a} {b} {i} {j} {c} f g l p q t h d =
    let both : tally_in c ≡ count_of (outcome_in r) plus count_of (outcome_in s) = t ∙ rw (p, q, ← count_is r, ← count_is s) in
    let few : c % 32768 < 32767 = few_counted r s c l p q t in
    let more : tally_in (c + 1) ≡ one_rule plus tally_in c = unfold one_rule in more_tally c 1 (omega arith) (omega arith) in (
      d.0
          ∙ rw (operated_by k (outcome_in r) (outcome_in s), f, g, more, both)
          (ap (λ (x : Tally). Done (meaning k a b) x) (plus_assoc one_rule (count_of (outcome_in r) plus count_of (outcome_in s)) (noted (leaves_range k a b)))),
      d.1,
    )

-- The word of an outcome by the type that an operation takes.
pub word_by_lem : (k m : ℕ) {t a : ℕ} {x : Option ℕ} → operand_type k ≡ t → x ≡ word_by t (outcome_in m) → x ≡ Some a → word_by (operand_type k) (outcome_in m) ≡ Some a
word_by_lem k m e f h = rw (e, ← f) h

module _ (k r s : ℕ) {t : ℕ} {x y : Option ℕ} (e : t ≡ operand_type k) (f : x ≡ word_by t (outcome_in r)) (g : y ≡ word_by t (outcome_in s)) where
  pub operated_left : x ≡ None → Gives 0 (rule (operated k (outcome_in r) (outcome_in s)))
  unfolding rule after on_words
  operated_left h = gives_stuck (rw (operated_by k (outcome_in r) (outcome_in s), ← e, ← f, h))

  pub operated_right : {a : ℕ} → x ≡ Some a → y ≡ None → Gives 0 (rule (operated k (outcome_in r) (outcome_in s)))
  unfolding rule after on_words
  operated_right h i = gives_stuck (rw (operated_by k (outcome_in r) (outcome_in s), ← e, ← f, h, ← g, i))

module _ (r : ℕ) {x : Option ℕ} (f : x ≡ word_by bool_t (outcome_in r)) where
  pub negated_none : x ≡ None → Gives 0 (rule (negated (outcome_in r)))
  unfolding rule after not_of
  negated_none h = gives_stuck (rw (negated_by (outcome_in r), ← f, h))

  pub negated_done : {a i m : ℕ} → x ≡ Some a → i ≡ middle_in r → work_of (outcome_in r) < 32767 → Gives m (Done (truth (eqb a 0)) (tally_in (i + 1)))
      → Gives m (rule (negated (outcome_in r)))
  unfolding rule after not_of give
  negated_done {a} h u l d =
      (d.0 ∙ rw (negated_by (outcome_in r), ← f, h, u) (ap (λ (x : Tally). Done (truth (eqb a 0)) x) (one_more r l)), d.1)

-- The arm, by the word of the test.
module _ (r yes₀ no₀ : ℕ) {x : Option ℕ} (f : x ≡ word_by bool_t (outcome_in r)) where
  pub arm_neither : x ≡ None → None ≡ arm_in (outcome_in r) yes₀ no₀
  unfolding arm_by
  arm_neither h = rw (arm_by_word (outcome_in r) yes₀ no₀, ← f, h)

  pub arm_first : {a : ℕ} {w : Tally} → x ≡ Some a → a ≡ 1 → w ≡ tally_in (middle_in r) → arm yes₀ w ≡ arm_in (outcome_in r) yes₀ no₀
  unfolding arm_by is_true
  arm_first h z u = rw (arm_by_word (outcome_in r) yes₀ no₀, ← f, h, eq-eqb _ _ z, count_is r, u)

  pub arm_second : {a : ℕ} {w : Tally} → x ≡ Some a → (a ≡ 1 → ⊥) → w ≡ tally_in (middle_in r) → arm no₀ w ≡ arm_in (outcome_in r) yes₀ no₀
  unfolding arm_by is_true
  arm_second h z u = rw (arm_by_word (outcome_in r) yes₀ no₀, ← f, h, ne_eqb _ _ z, count_is r, u)

-- Just, by the type.
pub lifted_no : (r : ℕ) → is_plain (type_in r) ≡ false → Gives 0 (rule (lifted (outcome_in r)))
unfolding rule after lifted just_of outcome_in unpacked value_from
lifted_no r e = gives_stuck (simp e (go (eqb r 0) (eqb (present_in r) 0)))
  where
    go : (z q : Bool)
        → rule
        (lifted
        (if z then Stuck
        else Done (if q then Absent (type_in r) else Present (type_in r) (word_in r)) (tally_in (middle_in r))))
        ≡ Stuck
    go true q = refl
    go false true = refl
    go false false = refl

pub lifted_yes : (r : ℕ) {t w i m : ℕ} → t ≡ type_in r → is_plain t ≡ true → w ≡ word_in r → i ≡ middle_in r → work_of (outcome_in r) < 32767
    → Gives m (Done (Present (t + 4) w) (tally_in (i + 1))) → Gives m (rule (lifted (outcome_in r)))
unfolding rule after lifted just_of give maybe_of
lifted_yes r {t} {w} {i} {m} e p g u l d =
    let q : is_plain (type_in r) ≡ true = rw (← e) p in
    let more = one_more r l ∙ ap (λ (x : Tally). one_rule plus (x plus nothing)) (count_is r) in (
      d.0 ∙ rw (outcome_done r (plain_some r q), plain_in r q, q, e, g, u) (ap (λ (x : Tally). Done (Present (type_in r + 4) (word_in r)) x) more),
      d.1,
    )

pub lifted_proper : (t w : ℕ) → is_plain t ≡ true → IsProper (Present (t + 4) w)
lifted_proper t w p =
    let l : t ≤ 3 = plain_most t p in
    let g : 1 ≤ t = plain_least t p in
    proper_present (t + 4) (omega arith) w (plain_no (t + 4) (omega arith))

-- The parts of a maybe, by its value.
module _ (r : ℕ) where
  pub parts_stuck : r ≡ 0 → None ≡ parts_of (outcome_in r)
  unfolding parts_of
  parts_stuck z = rw (z, outcome_stuck)

  module _ (n : r ≡ 0 → ⊥) {v : Value} (d : v ≡ unpacked r) {c : Tally} (u : c ≡ tally_in (middle_in r)) where
    parts_by_lem : parts_by (opened v) c ≡ parts_of (outcome_in r)
    unfolding parts_of
    parts_by_lem = rw (outcome_done r n, d, u)

    pub parts_plain : {t w : ℕ} → v ≡ Plain t w → None ≡ parts_of (outcome_in r)
    unfolding parts_by opened
    parts_plain e = ap (λ (x : Value). parts_by (opened x) c) (sym e) ∙ parts_by_lem

    pub parts_quiet : {t : ℕ} → v ≡ Absent t → parts None c ≡ parts_of (outcome_in r)
    unfolding parts_by opened
    parts_quiet e = ap (λ (x : Value). parts_by (opened x) c) (sym e) ∙ parts_by_lem

    pub parts_occurs : {t w m : ℕ} → v ≡ Present t w → is_maybe t ≡ true → m ≡ packed (Plain (t - 4) w)
        → parts (Some m) c ≡ parts_of (outcome_in r)
    unfolding parts_by opened
    parts_occurs e b f = rw (← parts_by_lem, e, b, f)

    pub parts_other : {t w : ℕ} → v ≡ Present t w → is_maybe t ≡ false → None ≡ parts_of (outcome_in r)
    unfolding parts_by opened
    parts_other e b = rw (← parts_by_lem, e, b)
