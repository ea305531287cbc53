-- An expression that is in scope and typed is never stuck, and gives a value of its type, where every variable in scope that it needs at once
-- is bound to a value of its declared type.
-- Assumes nothing.
use Rattle.std.specs.Prelude.{if◌then◌else◌, Some, None}
use mathlib.Core.Path.{◌≡◌, refl, sym, ap, ◌∙◌}
use mathlib.Core.Logic.{◌≢◌}
use mathlib.Core.Bool.{Bool, true, false}
use Prim.Native.Nat.{ℕ, ◌+◌, ◌-◌, ◌%◌, ◌<◌, ◌≤◌}
use native.Mathlib.Decide.{ℕ_discrete}
use native.Mathlib.Omega.{arith}
use lib.Dec.{eqb, leb}
use lib.IntN.{ℤ, pos, negsuc}
use lib.ListN.{length, length-set}
use lib.Seq.{get_or-set_other}
use borrow.Author.Tests.{eq-eqb, eqb-true, leb-true}
use Rattle.rules.specs.Values.{bool_t, maybe_of, is_plain, type_of, packed}
use Rattle.rules.specs.Words.{signed, word_of, sum_of, difference_of, product_of, floor_z, quotient_of}
use Rattle.rules.specs.Operations.{truth, is_true, operand_type, result_type, number_of, meaning}
use Rattle.rules.specs.Work.{nothing, one_rule, ◌plus◌, give, after, rule}
use Rattle.rules.specs.Tree.{Expr, variable, constant, operation, negation, choice, just, taking}
use Rattle.rules.specs.Scope.{Marks, mark, is_marked, scope_e}
use Rattle.rules.specs.Typing.{just_type, type_e, types_e}
use Rattle.rules.specs.Ready.{needs_e}
use Rattle.rules.specs.Evaluate.{Env, bind, look, plain_word, opened, meant, on_words, operate, operated, not_of, negated, arm_of, chosen, just_of, lifted, take_arm, taken, eval_e}
use Rattle.rules.specs.declared.Value.{Value}
use Rattle.rules.specs.declared.Value.TheVariants.{Plain, Absent, Present}
use Rattle.rules.specs.declared.Tally.{Tally}
use Rattle.rules.specs.Opened.{Opened, Here, Gone}
use Rattle.rules.specs.Evaluated.{Evaluated, Done}
use Rattle.rules.proofs.Round.{plain_yes, maybe_yes, look_bind}
use Rattle.rules.proofs.Static.{both, holds, and_both, or_left, or_right}
use Rattle.promises.specs.Valid.{Valid}
use Rattle.promises.specs.Sits.{SitsE}
use Rattle.promises.proofs.ValidLaws.{OfType, valid_fits, int_of, some_of, none_of, truth_of, just_valid, inner_valid}

-- An evaluation that gives a value of a type.
pub record Gives (r : Evaluated) (t : ℕ) : Type 0 where
  pub value : Value
  pub tally : Tally
  pub done : r ≡ Done value tally
  pub valid : Valid value
  pub typed : type_of value ≡ t

-- A variable that is bound to a value of its declared type.
pub record Bound (env : Env) (τ : ℕ → ℕ) (b : ℕ) : Type 0 where
  pub value : Value
  pub looked : look env b ≡ give value
  pub valid : Valid value
  pub typed : type_of value ≡ τ b

-- What is bound: the variables in scope that are needed at once.
pub record Known (Γ : Marks) (τ : ℕ → ℕ) (env : Env) (needs : ℕ → Bool) : Type 0 where
  pub known : (b : ℕ) → is_marked Γ b ≡ true → needs b ≡ true → Bound env τ b

-- A value that is valid and of a type is given.
gives : (v : Value) (w : Tally) {t : ℕ} → Valid v → type_of v ≡ t → Gives (Done v w) t
gives v w f e = record { value = v; tally = w; done = refl; valid = f; typed = e }

-- After so much was counted.
pub after_gives : (u : Tally) {r : Evaluated} {t : ℕ} → Gives r t → Gives (after u r) t
unfolding after
after_gives u g =
    record { value = g.value; tally = u plus g.tally; done = ap (after u) g.done; valid = g.valid; typed = g.typed }

-- By one more rule.
pub rule_gives : {r : Evaluated} {t : ℕ} → Gives r t → Gives (rule r) t
unfolding rule
rule_gives g = after_gives one_rule g

-- A value given by itself.
pub give_gives : (v : Value) {t : ℕ} → Valid v → type_of v ≡ t → Gives (give v) t
unfolding give
give_gives v f e = gives v nothing f e

-- A type by another name.
pub retype : {r : Evaluated} {t u : ℕ} → t ≡ u → Gives r t → Gives r u
retype e g = record { value = g.value; tally = g.tally; done = g.done; valid = g.valid; typed = g.typed ∙ e }

-- The word of a value of a plain type.
record IsWord (t : ℕ) (v : Value) : Type 0 where
  word : ℕ
  is : plain_word t v ≡ Some word
  small : word < 4294967296

-- A valid value of a plain type has a word of 32 bits.
is_word_lem : (t : ℕ) → t ≤ 3 → (v : Value) → Valid v → type_of v ≡ t → IsWord t v
unfolding plain_word type_of
is_word_lem t h (Plain u w) f e = record { word = w; is = simp (eq-eqb u t e); small = f.valid.1.0 }
is_word_lem t h (Absent u) f e = absurd (omega (arith, f.valid.0))
is_word_lem t h (Present u w) f e = absurd (omega (arith, f.valid.0.0))

-- Operations take plain types.
operand_plain : (k : ℕ) → operand_type k ≤ 3
unfolding operand_type
operand_plain k = go (leb k 23)
  where
    go : (t : Bool) → (if t then 3 else 2) ≤ 3
    go true = omega arith
    go false = omega arith

-- What an operation means is of its type.
word_if : (t : Bool) (a b : ℕ) → a < 4294967296 → b < 4294967296 → (if t then a else b) < 4294967296
word_if true a b h g = h
word_if false a b h g = g

-- A number wrapped to 32 bits.
wrapped : (n : ℕ) → n % 4294967296 < 4294967296
wrapped n = omega arith

-- An integer wrapped to 32 bits.
word_of_small : (z : ℤ) → word_of z < 4294967296
unfolding word_of
word_of_small (pos n) = wrapped n
word_of_small (negsuc n) = omega arith

-- Divide gives a maybe int.
quotient_typed : (x y : ℕ) → OfType (quotient_of x y) 7
unfolding quotient_of maybe_of type_of
quotient_typed x y = go (eqb y 0)
  where
    go : (t : Bool) → OfType (if t then Absent 7 else Present 7 (word_of (floor_z (signed x) (signed y)))) 7
    go true = none_of
    go false = some_of _ (word_of_small _)

-- An operation gives a valid value of its type.
meaning_typed : (k x y : ℕ) → OfType (meaning k x y) (result_type k)
unfolding meaning number_of result_type maybe_of sum_of difference_of product_of
meaning_typed k x y = go (leb k 20) (eqb k 21) _ (word_if (eqb k 18) _ _ (wrapped _) (word_if (eqb k 19) _ _ (wrapped _) (wrapped _))) _
  where
    go : (t s : Bool) (w : ℕ) → w < 4294967296 → (b : Bool)
        → OfType (if t then Plain 3 w else if s then quotient_of x y else truth b) (if t then 3 else if s then 7 else 2)
    go true s w h b = int_of w h
    go false true w h b = quotient_typed x y
    go false false w h b = truth_of b

-- An operation on two evaluations.
operated_gives : (k : ℕ) {r s : Evaluated} → Gives r (operand_type k) → Gives s (operand_type k) → Gives (operated k r s) (result_type k)
unfolding operated operate on_words meant
operated_gives k g h =
    let x = is_word_lem (operand_type k) (operand_plain k) g.value g.valid g.typed in
    let y = is_word_lem (operand_type k) (operand_plain k) h.value h.valid h.typed in
    let m = meaning_typed k x.word y.word in
    rw (g.done, h.done) (after_gives (g.tally plus h.tally) (rw (x.is, y.is) (gives _ _ m.valid m.typed)))

-- Not of an evaluation.
negated_gives : {r : Evaluated} → Gives r bool_t → Gives (negated r) bool_t
unfolding negated not_of
negated_gives g =
    let x = is_word_lem 2 (omega arith) g.value g.valid g.typed in
    let m = truth_of (eqb x.word 0) in
    rw g.done (after_gives g.tally (rw x.is (give_gives _ m.valid m.typed)))

-- If, by its test.
chosen_gives : {q r s : Evaluated} {t : ℕ} → Gives q bool_t → Gives r t → Gives s t → Gives (chosen q r s) t
unfolding chosen arm_of
chosen_gives {q} {r} {s} {t} e g h =
    let x = is_word_lem 2 (omega arith) e.value e.valid e.typed in
    rw e.done (after_gives e.tally (rw x.is (go (is_true x.word))))
  where
    go : (b : Bool) → Gives (if b then r else s) t
    go true = g
    go false = h

-- Just of a value.
just_of_gives : (v : Value) (t : ℕ) → Valid v → type_of v ≡ t → t ≤ 3 → Gives (just_of v) (maybe_of t)
unfolding just_of type_of maybe_of
just_of_gives (Plain u w) t f e h =
    rw (plain_yes u f.valid.0.0 f.valid.0.1) (give_gives (Present (u + 4) w) (just_valid u w f) (ap (λ (k : ℕ). k + 4) e))
just_of_gives (Absent u) t f e h = absurd (omega (arith, f.valid.0))
just_of_gives (Present u w) t f e h = absurd (omega (arith, f.valid.0.0))

-- Just of an evaluation.
lifted_gives : {r : Evaluated} {t : ℕ} → t ≤ 3 → Gives r t → Gives (lifted r) (maybe_of t)
unfolding lifted
lifted_gives h g = rw g.done (after_gives g.tally (just_of_gives g.value _ g.valid g.typed h))

-- A maybe is absent, or present with a plain value of the type below.
pub opened_cases : (P : Opened → Type 0) (t : ℕ) (v : Value) → Valid v → type_of v ≡ maybe_of t
    → P Gone → ((u : Value) → Valid u → type_of u ≡ t → P (Here u)) → P (opened v)
unfolding opened type_of maybe_of
opened_cases P t (Plain u w) f e a b = absurd (omega (arith, f.valid.0.1))
opened_cases P t (Absent u) f e a b = a
opened_cases P t (Present u w) f e a b =
    rw (maybe_yes u f.valid.0.0 f.valid.0.1) (b (Plain (u - 4) w) (inner_valid u w f) (omega arith))

-- Take, by its maybe.
taken_gives : {q r : Evaluated} (f : Value → Evaluated) (t : ℕ) {u : ℕ} → Gives q (maybe_of t) → Gives r u
    → ((v : Value) → Valid v → type_of v ≡ t → Gives (f v) u) → Gives (taken q r f) u
unfolding taken take_arm
taken_gives {r = r} f t {u} e g h =
    rw e.done
    (after_gives e.tally (opened_cases (λ o. Gives (take_arm o r f) u) t e.value e.valid e.typed g h))

-- What is bound goes on being bound.
pub known_part : {Γ : Marks} {τ : ℕ → ℕ} {env : Env} {needs : ℕ → Bool} (some : ℕ → Bool) → Known Γ τ env needs
    → ((b : ℕ) → some b ≡ true → needs b ≡ true) → Known Γ τ env some
known_part some k part = record { known = λ b m s. k.known b m (part b s) }

-- Binding a variable leaves the others.
look_other : (env : Env) (n b : ℕ) (v : Value) → b ≢ n → look (bind env n v) b ≡ look env b
unfolding look bind
look_other env n b v h = simp (get_or-set_other env n b (packed v) 0 h)

-- Marking a binder leaves the others.
pub mark_other : (Γ : Marks) (n b : ℕ) → b ≢ n → is_marked (mark Γ n) b ≡ is_marked Γ b
unfolding is_marked mark
mark_other Γ n b h = simp (get_or-set_other Γ n b 1 0 h)

-- One variable more is in scope, and bound.
pub known_bind : (Γ : Marks) {τ : ℕ → ℕ} (env : Env) (n : ℕ) (v : Value) (some : ℕ → Bool) → n < length env → Valid v → type_of v ≡ τ n
    → ((b : ℕ) → is_marked Γ b ≡ true → some b ≡ true → b ≢ n → Bound env τ b)
    → Known (mark Γ n) τ (bind env n v) some
known_bind Γ {τ} env n v some l f e k = record { known = λ b m s. go b m s (ℕ_discrete b n) }
  where
    go : (b : ℕ) → is_marked (mark Γ n) b ≡ true → some b ≡ true → Dec (b ≡ n) → Bound (bind env n v) τ b
    go b m s (yes p) =
        record { value = v; looked = ap (look (bind env n v)) p ∙ look_bind env n v (valid_fits v f) l; valid = f; typed = e ∙ ap τ (sym p) }
    go b m s (no p) =
        let q = k b (sym (mark_other Γ n b p) ∙ m) s p in
        record { value = q.value; looked = look_other env n b v p ∙ q.looked; valid = q.valid; typed = q.typed }

-- A variable that is bound gives its value.
variable_gives : (env : Env) (τ : ℕ → ℕ) (b : ℕ) {t : ℕ} → t ≡ τ b → Bound env τ b → Gives (look env b) t
variable_gives env τ b e k = rw k.looked (give_gives k.value k.valid (k.typed ∙ sym e))

-- Binding leaves the number of variables.
pub bind_length : (env : Env) (n : ℕ) (v : Value) → length (bind env n v) ≡ length env
unfolding bind
bind_length env n v = length-set env n _

-- A plain type is at most 3.
plain_most : (t : ℕ) → is_plain t ≡ true → t ≤ 3
unfolding is_plain
plain_most t e = leb-true t 3 (and_both _ _ e).1

-- Just of a plain type is its maybe.
just_plain : (t : ℕ) → is_plain t ≡ true → just_type t ≡ maybe_of t
unfolding just_type
just_plain t e = rw e

-- Expressions.
pub sound_e : (count : ℕ) (τ : ℕ → ℕ) (e : Expr) → SitsE count τ e → (Γ : Marks) (env : Env) → length env ≡ count
    → scope_e Γ e ≡ None → types_e e ≡ None → Known Γ τ env (λ b. needs_e b e) → Gives (eval_e env e) (type_e e)
unfolding eval_e type_e scope_e types_e needs_e
sound_e count τ (variable n binder t) sits Γ env l sc ty k =
    rule_gives (variable_gives env τ binder sits (k.known binder (holds _ n sc) (eq-eqb binder binder refl)))
sound_e count τ (constant n v) sits Γ env l sc ty k = rule_gives (give_gives v sits refl)
sound_e count τ (operation n op x y) sits Γ env l sc ty k =
    let s = both _ _ sc in
    let t = both _ _ ty in
    let u = both _ _ t.1 in
    let h = and_both _ _ (holds _ n t.0) in
    rule_gives (operated_gives op
    (retype (eqb-true _ _ h.0) (sound_e count τ x sits.0 Γ env l s.0 u.0 (known_part _ k λ b p. or_left _ _ p)))
    (retype (eqb-true _ _ h.1) (sound_e count τ y sits.1 Γ env l s.1 u.1 (known_part _ k λ b p. or_right _ _ p))))
sound_e count τ (negation n x) sits Γ env l sc ty k =
    let t = both _ _ ty in
    rule_gives (negated_gives (retype (eqb-true _ _ (holds _ n t.0)) (sound_e count τ x sits Γ env l sc t.1 k)))
sound_e count τ (choice n test x y) sits Γ env l sc ty k =
    let s = both _ _ sc in
    let s₁ = both _ _ s.1 in
    let t = both _ _ ty in
    let u = both _ _ t.1 in
    let u₁ = both _ _ u.1 in
    let h = and_both _ _ (holds _ n t.0) in
    rule_gives (chosen_gives
    (retype (eqb-true _ _ h.0) (sound_e count τ test sits.0 Γ env l s.0 u.0 (known_part _ k λ b p. or_left _ _ (or_left _ _ p))))
    (sound_e count τ x sits.1 Γ env l s₁.0 u₁.0 (known_part _ k λ b p. or_left _ _ (or_right _ _ p)))
    (retype (sym (eqb-true _ _ h.1)) (sound_e count τ y sits.2 Γ env l s₁.1 u₁.1 (known_part _ k λ b p. or_right _ _ p))))
sound_e count τ (just n x) sits Γ env l sc ty k =
    let t = both _ _ ty in
    retype (sym (just_plain _ (holds _ n t.0))) (rule_gives (lifted_gives (plain_most _ (holds _ n t.0)) (sound_e count τ x sits Γ env l sc t.1 k)))
sound_e count τ (taking n t m x y) sits Γ env l sc ty k =
    let s = both _ _ sc in
    let s₁ = both _ _ s.1 in
    let q = both _ _ ty in
    let u = both _ _ q.1 in
    let u₁ = both _ _ u.1 in
    let h = and_both _ _ (holds _ n q.0) in
    rule_gives (taken_gives _ t
    (retype (eqb-true _ _ h.0) (sound_e count τ m sits.1 Γ env l s.0 u.0 (known_part _ k λ b p. or_left _ _ (or_left _ _ p))))
    (sound_e count τ x sits.2 Γ env l s₁.0 u₁.0 (known_part _ k λ b p. or_left _ _ (or_right _ _ p)))
    λ v f e. retype (sym (eqb-true _ _ h.1))
    (sound_e count τ y sits.3 (mark Γ n) (bind env n v) (bind_length env n v ∙ l) s₁.1 u₁.1
    (known_bind Γ env n v _ (rw l sits.0.binds.below) f (e ∙ sits.0.binds.declared) λ b mk p ne. k.known b mk (or_right _ _ p))))
