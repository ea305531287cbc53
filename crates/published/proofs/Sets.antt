-- Values, words and outcomes are sets, so that a side condition of a rule has one proof and fixes what it names.
-- Assumes nothing.
use Rattle.std.specs.Prelude.{Option, Some, None, ℕ}
use mathlib.Core.Path.{◌≡◌, refl, sym, ap, subst, ◌∙◌, path_j, PathP}
use mathlib.Core.HLevel.{Σ_set, Σ_prop_path, ×_prop}
use mathlib.Core.Bool.{Bool, true, false, Bool-set}
use Prim.Native.Nat.{ℕ, zero, suc}
use native.Mathlib.Nat.{ℕ_set}
use ghost.Sets.{retract_set}
use Rattle.rules.specs.Values.{is_plain}
use Rattle.rules.specs.Work.{give}
use Rattle.rules.specs.Evaluate.{Env, look, plain_word}
use Rattle.rules.specs.declared.Value.{Value}
use Rattle.rules.specs.declared.Value.TheVariants.{Plain, Absent, Present}
use Rattle.rules.specs.Opened.{Opened, Here, Gone, Amiss}
use Rattle.rules.specs.Evaluated.{Evaluated, Done, Stuck}
use Rattle.rules.proofs.Static.{not_both}
use Rattle.published.proofs.ExpressionsSound.{plain_of}

pair_set : {A B : Type 0} → IsSet A → IsSet B → IsSet (A × B)
pair_set s t = Σ_set s (λ a. t)

-- a value as three numbers
abbrev three : Value → ℕ × (ℕ × ℕ)
three (Plain t w) = (0, (t, w))
three (Absent t) = (1, (t, 0))
three (Present t w) = (2, (t, w))

abbrev value_of : ℕ → ℕ → ℕ → Value
value_of zero t w = Plain t w
value_of (suc zero) t w = Absent t
value_of (suc (suc k)) t w = Present t w

value_back : (v : Value) → value_of (three v).0 (three v).1.0 (three v).1.1 ≡ v
value_back (Plain t w) = refl
value_back (Absent t) = refl
value_back (Present t w) = refl

pub Value-set : IsSet Value
Value-set = retract_set three (λ p. value_of p.0 p.1.0 p.1.1) value_back (pair_set ℕ_set (pair_set ℕ_set ℕ_set))

pub Result-set : IsSet (Value × ℕ)
Result-set = pair_set Value-set ℕ_set

-- a word, if there is one, as two numbers
abbrev word_code : Option ℕ → ℕ × ℕ
word_code (Some a) = (0, a)
word_code None = (1, 0)

abbrev word_from : ℕ → ℕ → Option ℕ
word_from zero a = Some a
word_from (suc k) a = None

word_back : (w : Option ℕ) → word_from (word_code w).0 (word_code w).1 ≡ w
word_back (Some a) = refl
word_back None = refl

Word-set : IsSet (Option ℕ)
Word-set = retract_set word_code (λ p. word_from p.0 p.1) word_back (pair_set ℕ_set ℕ_set)

-- a maybe taken apart, as a number and a value
abbrev opened_code : Opened → ℕ × Value
opened_code (Here v) = (0, v)
opened_code Gone = (1, Plain 0 0)
opened_code Amiss = (2, Plain 0 0)

abbrev opened_from : ℕ → Value → Opened
opened_from zero v = Here v
opened_from (suc zero) v = Gone
opened_from (suc (suc k)) v = Amiss

opened_back : (o : Opened) → opened_from (opened_code o).0 (opened_code o).1 ≡ o
opened_back (Here v) = refl
opened_back Gone = refl
opened_back Amiss = refl

Opened-set : IsSet Opened
Opened-set = retract_set opened_code (λ p. opened_from p.0 p.1) opened_back (pair_set ℕ_set Value-set)

-- an outcome as two numbers, a value and a mark
abbrev outcome_code : Evaluated → ℕ × (Value × (ℕ × Bool))
outcome_code (Done v w) = (0, (v, (w.work, w.wrapped)))
outcome_code Stuck = (1, (Plain 0 0, (0, false)))

abbrev outcome_from : ℕ → Value → ℕ → Bool → Evaluated
outcome_from zero v n b = Done v (record { work = n; wrapped = b })
outcome_from (suc k) v n b = Stuck

outcome_back : (r : Evaluated) → outcome_from (outcome_code r).0 (outcome_code r).1.0 (outcome_code r).1.1.0 (outcome_code r).1.1.1 ≡ r
outcome_back (Done v w) = refl
outcome_back Stuck = refl

Evaluated-set : IsSet Evaluated
Evaluated-set =
    retract_set outcome_code (λ p. outcome_from p.0 p.1.0 p.1.1.0 p.1.1.1) outcome_back
    (pair_set ℕ_set (pair_set Value-set (pair_set ℕ_set Bool-set)))

-- what a constructor was given is fixed by what it made
image_prop : {A B : Type 0} (f : A → B) (g : B → A) → ((a : A) → g (f a) ≡ a) → IsSet B → (b : B) → IsProp ((a : A) × (b ≡ f a))
image_prop f g h s b p q = Σ_prop_path (λ a. s b (f a)) (sym (h p.0) ∙ ap g (sym p.1 ∙ q.1) ∙ h q.0)

pub word_prop : (w : Option ℕ) → IsProp ((a : ℕ) × (w ≡ Some a))
word_prop w = image_prop Some (λ w. (word_code w).1) (λ a. refl) Word-set w

pub here_prop : (o : Opened) → IsProp ((v : Value) × (o ≡ Here v))
here_prop o = image_prop Here (λ o. (opened_code o).1) (λ v. refl) Opened-set o

pub gone_prop : (o : Opened) → IsProp (o ≡ Gone)
gone_prop o = Opened-set o Gone

pub look_prop : (env : Env) (b : ℕ) → IsProp ((v : Value) × (look env b ≡ give v))
unfolding give
look_prop env b = image_prop give (λ r. (outcome_code r).1.0) (λ v. refl) Evaluated-set (look env b)

-- the type and the word of a plain value
abbrev pub IsPlainValue : Value → Type 0
IsPlainValue u = (p : ℕ × ℕ) × ((plain_word p.0 u ≡ Some p.1) × (is_plain p.0 ≡ true))

pub plain_prop : (u : Value) → IsProp (IsPlainValue u)
plain_prop u p q =
    Σ_prop_path (λ r. ×_prop (Word-set (plain_word r.0 u) (Some r.1)) (Bool-set (is_plain r.0) true))
    (ap (λ v. (three v).1) (sym (plain_of p.0.0 p.0.1 u p.1.0) ∙ plain_of q.0.0 q.0.1 u q.1.0))

-- no maybe is both absent and present, and no bool true and false
abbrev IsGone : Opened → Type 0
IsGone (Here v) = ⊥
IsGone Gone = Unit {0}
IsGone Amiss = ⊥

pub gone_not_here : {o : Opened} {v : Value} → o ≡ Gone → o ≡ Here v → ⊥
gone_not_here e f = subst IsGone (sym e ∙ f) tt

pub true_not_false : {b : Bool} → b ≡ true → b ≡ false → ⊥
true_not_false e f = not_both (sym f ∙ e)

-- two uses of a rule are equal where its first premises are and its last premise is the only one of its kind
pub along : {A C : Type 0} {B : A → Type 0} (f : (a : A) → B a → C) {a a₁ : A} → a ≡ a₁ → (b : B a) → ((b₁ : B a) → b ≡ b₁) → (b₁ : B a₁)
    → f a b ≡ f a₁ b₁
along {B = B} f {a} p b h = path_j (λ a₁ p. (b₁ : B a₁) → f a b ≡ f a₁ b₁) (λ b₁. ap (f a) (h b₁)) p

-- where there is one derivation of all results, there is one of each
pub each_prop : {A : Type 0} {B : A → Type 0} → IsSet A → IsProp ((a : A) × B a) → (a : A) → IsProp (B a)
each_prop {A} {B} s h a b c =
    let p = h (a, b) (a, c) in
    subst (λ (q : a ≡ a). PathP (λ i. B (q i)) b c) (s a a (ap (λ (t : (a : A) × B a). t.0) p) refl) (λ i. (p i).1)
