-- What a memory holds after an evaluation, and that it holds it still where neither the state's cells nor the memory's slots of the signal changed.
-- Assumes nothing.
use Rattle.std.specs.Prelude.{if◌then◌else◌}
use mathlib.Core.Path.{◌≡◌, refl, sym, ap, ◌∙◌, subst}
use mathlib.Core.Logic.{◌≢◌}
use mathlib.Core.Bool.{Bool, true, false}
use Prim.Native.Nat.{ℕ, zero, suc, ◌+◌, ◌≤◌}
use native.Mathlib.Omega.{arith}
use lib.Dec.{eqb}
use borrow.Author.Tests.{eq-eqb}
use Rattle.rules.specs.Bytes.{Bytes}
use Rattle.rules.specs.Values.{packed, unpacked, middle_in}
use Rattle.rules.specs.Layout.{cell, held, is_clear, branch_in}
use Rattle.rules.specs.Work.{after, rule, one_rule, ◌then◌}
use Rattle.rules.specs.Tree.{Signal, input, time, ext, delay, let_signal, switch, group, until, Branches, no_branch, branch, Cases, no_case, case}
use Rattle.rules.specs.Size.{is_cell, times_s, times_b}
use Rattle.rules.specs.Evaluate.{Env, bind, opened, eval_s, eval_b}
use Rattle.rules.specs.declared.Value.{Value}
use Rattle.rules.specs.declared.Tally.{Tally}
use Rattle.rules.specs.Evaluated.{Evaluated, Done, Stuck}
use Rattle.rules.specs.Opened.{Opened, Here, Gone, Amiss}
use Rattle.promises.specs.Kept.{Agree}
use Rattle.promises.proofs.Frames.{cell_itself, agree_part}
use Rattle.recalled.specs.Recall.{Memory, note, noted, past, past_if, fill_s, fill_b, fill_c, binds_s, binds_b, binds_c}
use Rattle.recalled.proofs.More.{More, same, stuck, Under, under_bind, eval_s_more, eval_b_more}

-- An evaluation that gave a value.
pub data IsDone : Evaluated → Type 0 where
  done : {v : Value} {u : Tally} → IsDone (Done v u)

pub done_so : {r : Evaluated} {v : Value} {u : Tally} → r ≡ Done v u → IsDone r
done_so e = subst IsDone (sym e) done

pub after_done : (u : Tally) (r : Evaluated) → IsDone (after u r) → IsDone r
unfolding after
after_done u (Done v w) d = done
after_done u Stuck d = d

pub rule_done : (r : Evaluated) → IsDone (rule r) → IsDone r
unfolding rule
rule_done r d = after_done one_rule r d

pub then_first : (r : Evaluated) (f : Value → Evaluated) → IsDone (r then f) → IsDone r
unfolding ◌then◌
then_first (Done v u) f d = done
then_first Stuck f d = d

pub then_second : (r : Evaluated) (f : Value → Evaluated) (v : Value) (u : Tally) → r ≡ Done v u → IsDone (r then f) → IsDone (f v)
unfolding ◌then◌
then_second r f v u e d = after_done u (f v) (subst (λ q. IsDone (q then f)) e d)

-- Where the first is a value, both are the same.
pub more_same : {r q : Evaluated} → More r q → IsDone r → q ≡ r
more_same same d = refl
more_same {q = q} stuck d = elim d [ ]

pub more_done : {r q : Evaluated} → More r q → IsDone r → IsDone q
more_done m d = subst IsDone (sym (more_same m d)) d

-- The memory holds the outcome of each definition that an evaluation comes to.
abbrev mutual
  pub RemembersS : Memory → Bytes → Bytes → Env → Signal → Type 0
  RemembersS m rec st env (input n c) = Unit {0}
  RemembersS m rec st env (time n) = Unit {0}
  RemembersS m rec st env (ext n e) = Unit {0}
  RemembersS m rec st env (delay n k v s) = Unit {0}
  RemembersS m rec st env (let_signal n t d b) =
      (m n ≡ eval_s rec st env d) × RemembersS m rec st env d × ((v : Value) (u : Tally) → eval_s rec st env d ≡ Done v u → RemembersS m rec st (bind env n v) b)
  RemembersS m rec st env (switch n k t x e y) =
      (is_clear st k ≡ true → RemembersS m rec st env x) × (is_clear st k ≡ false → RemembersS m rec st (bind env n (held st k)) y)
  RemembersS m rec st env (group n k body brs) =
      (is_clear st k ≡ true → RemembersS m rec st env body) × (is_clear st k ≡ false → RemembersB m rec st env (branch_in st k) (held st k) brs)
  RemembersS m rec st env (until n s cs) = RemembersS m rec st env s

  pub RemembersB : Memory → Bytes → Bytes → Env → ℕ → Value → Branches → Type 0
  RemembersB m rec st env which v no_branch = Unit {0}
  RemembersB m rec st env which v (branch n t body next) =
      (eqb n which ≡ true → RemembersS m rec st (bind env n v) body) × (eqb n which ≡ false → RemembersB m rec st env which v next)

-- Of the events of an until each, all of which gave a value.
abbrev pub RemembersC : Memory → Bytes → Bytes → Env → Cases → Type 0
RemembersC m rec st env no_case = Unit {0}
RemembersC m rec st env (case n event target t next) =
    RemembersS m rec st env event × IsDone (eval_s rec st env event) × RemembersC m rec st env next

-- A memory that has the same in the signal's slots.
module _ (m m₁ : Memory) (rec st : Bytes) where
  mutual
    unfolding binds_s

    pub slots_same : (s : Signal) (env : Env) → ((j : ℕ) → 1 ≤ binds_s j s → m₁ j ≡ m j) → RemembersS m rec st env s → RemembersS m₁ rec st env s
    slots_same (input n c) env h r = tt
    slots_same (time n) env h r = tt
    slots_same (ext n e) env h r = tt
    slots_same (delay n k v s) env h r = tt
    slots_same (let_signal n t d b) env h r = (
      h n (omega (arith, cell_itself n)) ∙ r.0,
      slots_same d env (λ j l. h j (omega arith)) r.1,
      λ v u e. slots_same b _ (λ j l. h j (omega arith)) (r.2 v u e),
    )
    slots_same (switch n k t x e y) env h r =
        (λ c. slots_same x env (λ j l. h j (omega arith)) (r.0 c), λ c. slots_same y _ (λ j l. h j (omega arith)) (r.1 c))
    slots_same (group n k body brs) env h r =
        (λ c. slots_same body env (λ j l. h j (omega arith)) (r.0 c), λ c. slots_same_b brs env _ _ (λ j l. h j (omega arith)) (r.1 c))
    slots_same (until n s cs) env h r = slots_same s env (λ j l. h j (omega arith)) r

    slots_same_b : (brs : Branches) (env : Env) (which : ℕ) (v : Value) → ((j : ℕ) → 1 ≤ binds_b j brs → m₁ j ≡ m j)
        → RemembersB m rec st env which v brs → RemembersB m₁ rec st env which v brs
    slots_same_b no_branch env which v h r = tt
    slots_same_b (branch n t body next) env which v h r =
        (λ c. slots_same body _ (λ j l. h j (omega arith)) (r.0 c), λ c. slots_same_b next env which v (λ j l. h j (omega arith)) (r.1 c))

-- A state that agrees on the signal's cells, and more variables bound.
pub clear_agrees : (st st₁ : Bytes) (k : ℕ) (b : Bool) → cell st₁ k ≡ cell st k → is_clear st₁ k ≡ b → is_clear st k ≡ b
unfolding is_clear
clear_agrees st st₁ k b e h = ap (λ (c : ℕ). eqb c 0) (sym e) ∙ h

pub true_done : (c : Bool) (r s : Evaluated) → c ≡ true → IsDone (if c then r else s) → IsDone r
true_done c r s e d = subst (λ (x : Bool). IsDone (if x then r else s)) e d

pub false_done : (c : Bool) (r s : Evaluated) → c ≡ false → IsDone (if c then r else s) → IsDone s
false_done c r s e d = subst (λ (x : Bool). IsDone (if x then r else s)) e d

module _ (m : Memory) (rec st st₁ : Bytes) where
  mutual
    unfolding eval_s times_s held branch_in

    pub still : (s : Signal) → Agree (λ k. times_s k s) st st₁ → (env env₁ : Env) → Under env env₁ → IsDone (eval_s rec st env s)
        → RemembersS m rec st env s → RemembersS m rec st₁ env₁ s
    still (input n c) a env env₁ h d r = tt
    still (time n) a env env₁ h d r = tt
    still (ext n e) a env env₁ h d r = tt
    still (delay n k v s) a env env₁ h d r = tt
    still (let_signal n t x y) a env env₁ h d r =
        let a₁ = agree_part {f = λ j. times_s j x} (λ j. omega arith) a in
        let d₁ = rule_done _ d in
        let e = more_same (eval_s_more rec st st₁ x a₁ env env₁ h) (then_first _ _ d₁) in (
          r.0 ∙ sym e,
          still x a₁ env env₁ h (then_first _ _ d₁) r.1,
          λ v u q. still y (agree_part (λ j. omega arith) a) _ _ (under_bind n v h) (then_second _ _ v u (sym e ∙ q) d₁) (r.2 v u (sym e ∙ q)),
        )
    still (switch n k t x e y) a env env₁ h d r =
        let c : cell st₁ k ≡ cell st k = a.same k (omega (arith, cell_itself k)) in
        let d₁ = rule_done _ d in (
          λ q.
              let q₁ = clear_agrees st st₁ k true c q in
              still x (agree_part (λ j. omega arith) a) env env₁ h (true_done _ _ _ q₁ d₁) (r.0 q₁),
          λ q.
              let q₁ = clear_agrees st st₁ k false c q in
              let z = still y (agree_part (λ j. omega arith) a) _ (bind env₁ n (unpacked (cell st k))) (under_bind n _ h) (false_done _ _ _ q₁ d₁) (r.1 q₁) in
              subst (λ (i : ℕ). RemembersS m rec st₁ (bind env₁ n (unpacked i)) y) (sym c) z,
        )
    still (group n k body brs) a env env₁ h d r =
        let c : cell st₁ k ≡ cell st k = a.same k (omega (arith, cell_itself k)) in
        let d₁ = rule_done _ d in (
          λ q.
              let q₁ = clear_agrees st st₁ k true c q in
              still body (agree_part (λ j. omega arith) a) env env₁ h (true_done _ _ _ q₁ d₁) (r.0 q₁),
          λ q.
              let q₁ = clear_agrees st st₁ k false c q in
              let z = still_b brs (agree_part (λ j. omega arith) a) env env₁ h _ _ (false_done _ _ _ q₁ d₁) (r.1 q₁) in
              subst (λ (i : ℕ). RemembersB m rec st₁ env₁ (middle_in i) (unpacked i) brs) (sym c) z,
        )
    still (until n s cs) a env env₁ h d r = still s (agree_part (λ j. omega arith) a) env env₁ h (rule_done _ d) r

    still_b : (brs : Branches) → Agree (λ k. times_b k brs) st st₁ → (env env₁ : Env) → Under env env₁ → (which : ℕ) (v : Value)
        → IsDone (eval_b rec st env which v brs) → RemembersB m rec st env which v brs → RemembersB m rec st₁ env₁ which v brs
    still_b no_branch a env env₁ h which v d r = tt
    still_b (branch n t body next) a env env₁ h which v d r = (
      λ q. still body (agree_part (λ j. omega arith) a) _ _ (under_bind n v h) (true_done _ _ _ q d) (r.0 q),
      λ q. still_b next (agree_part (λ j. omega arith) a) env env₁ h which v (false_done _ _ _ q d) (r.1 q),
    )

-- Values of equal outcomes.
value_in : Value → Evaluated → Value
value_in x (Done v u) = v
value_in x Stuck = x

value_of : {v w : Value} {u x : Tally} → Done v u ≡ Done w x → v ≡ w
unfolding value_in
value_of {v} e = ap (value_in v) e

none : IsDone Stuck → ⊥
none = elim [ ]

no_value : {v : Value} {u : Tally} → Stuck ≡ Done v u → ⊥
no_value e = none (done_so e)

-- What is noted of one let is not noted of another.
note_other : (m : Memory) (n : ℕ) (r : Evaluated) (j : ℕ) → is_cell j n ≡ 0 → note m n r j ≡ m j
unfolding note is_cell
note_other m n r j h = go (eqb n j) h
  where
    go : (b : Bool) → ◌≡◌ {A = ℕ} (if b then 1 else 0) 0 → (if b then r else m j) ≡ m j
    go true e = absurd (omega arith)
    go false e = refl

note_own : (m : Memory) (n : ℕ) (r : Evaluated) → note m n r n ≡ r
unfolding note
note_own m n r = simp (eq-eqb n n refl)

pub if_memory : (b : Bool) (m q : Memory) {x : Evaluated} (j : ℕ) → m j ≡ x → q j ≡ x → (if b then m else q) j ≡ x
if_memory true m q j h g = h
if_memory false m q j h g = g

noted_keeps : (r : Evaluated) (m : Memory) (f : Value → Memory) {x : Evaluated} (j : ℕ) → m j ≡ x → ((v : Value) → f v j ≡ x) → noted r m f j ≡ x
unfolding noted
noted_keeps (Done v u) m f j h g = g v
noted_keeps Stuck m f j h g = h

past_keeps : (r : Evaluated) (m q : Memory) {x : Evaluated} (j : ℕ) → m j ≡ x → q j ≡ x → past r m q j ≡ x
unfolding past past_if
past_keeps (Done v u) m q {x} j h g = go (opened v)
  where
    go : (o : Opened) → past_if o m q j ≡ x
    go (Here w) = h
    go Gone = g
    go Amiss = h
past_keeps Stuck m q j h g = h

-- An evaluation notes nothing but its own lets.
module _ (rec st : Bytes) where
  mutual
    unfolding fill_s binds_s

    pub fill_keeps : (s : Signal) (env : Env) (m : Memory) (j : ℕ) → binds_s j s ≡ 0 → fill_s rec st env s m j ≡ m j
    fill_keeps (input n c) env m j h = refl
    fill_keeps (time n) env m j h = refl
    fill_keeps (ext n e) env m j h = refl
    fill_keeps (delay n k v s) env m j h = refl
    fill_keeps (let_signal n t d b) env m j h =
        let e = note_other (fill_s rec st env d m) n (eval_s rec st env d) j (omega arith) ∙ fill_keeps d env m j (omega arith) in
        noted_keeps (eval_s rec st env d) _ _ j e λ v. fill_keeps b _ _ j (omega arith) ∙ e
    fill_keeps (switch n k t x e y) env m j h =
        if_memory (is_clear st k) _ _ j (fill_keeps x env m j (omega arith)) (fill_keeps y _ m j (omega arith))
    fill_keeps (group n k body brs) env m j h =
        if_memory (is_clear st k) _ _ j (fill_keeps body env m j (omega arith)) (fill_b_keeps brs env _ _ m j (omega arith))
    fill_keeps (until n s cs) env m j h = fill_keeps s env m j (omega arith)

    pub fill_b_keeps : (brs : Branches) (env : Env) (which : ℕ) (v : Value) (m : Memory) (j : ℕ) → binds_b j brs ≡ 0 → fill_b rec st env which v brs m j ≡ m j
    fill_b_keeps no_branch env which v m j h = refl
    fill_b_keeps (branch n t body next) env which v m j h =
        if_memory (eqb n which) _ _ j (fill_keeps body _ m j (omega arith)) (fill_b_keeps next env which v m j (omega arith))

  pub fill_c_keeps : (cs : Cases) (env : Env) (m : Memory) (j : ℕ) → binds_c j cs ≡ 0 → fill_c rec st env cs m j ≡ m j
  unfolding fill_c binds_s
  fill_c_keeps no_case env m j h = refl
  fill_c_keeps (case n event target t next) env m j h =
      let e = fill_keeps event env m j (omega arith) in
      past_keeps (eval_s rec st env event) _ _ j e (fill_c_keeps next env _ j (omega arith) ∙ e)

  if_true : {A : Type 0} (b : Bool) (x y : A) → b ≡ true → (if b then x else y) ≡ x
  if_true b x y e = simp e

  if_false : {A : Type 0} (b : Bool) (x y : A) → b ≡ false → (if b then x else y) ≡ y
  if_false b x y e = simp e

  let_remembers : (n t : ℕ) (d b : Signal) → ((j : ℕ) → binds_s j (let_signal n t d b) ≤ 1) → (env : Env) (m : Memory) → RemembersS m rec st env d
      → ((v : Value) (q : Memory) → RemembersS (fill_s rec st (bind env n v) b q) rec st (bind env n v) b)
      → (r : Evaluated) → eval_s rec st env d ≡ r
      → RemembersS (noted r (note m n r) λ v. fill_s rec st (bind env n v) b (note m n r)) rec st env (let_signal n t d b)
  unfolding noted binds_s
  let_remembers n t d b once env m h g (Done v u) e =
      let first = slots_same m (note m n (Done v u)) rec st d env (λ j l. note_other m n (Done v u) j (omega (arith, once j))) h in (
        fill_keeps b _ (note m n (Done v u)) n (omega (arith, once n, cell_itself n)) ∙ note_own m n _ ∙ sym e,
        slots_same _ _ rec st d env (λ j l. fill_keeps b _ _ j (omega (arith, once j))) first,
        λ w x q. subst (λ (z : Value). RemembersS (fill_s rec st (bind env n v) b (note m n (Done v u))) rec st (bind env n z) b) (value_of (sym e ∙ q)) (g v _),
      )
  let_remembers n t d b once env m h g Stuck e = (
    note_own m n Stuck ∙ sym e,
    slots_same m (note m n Stuck) rec st d env (λ j l. note_other m n Stuck j (omega (arith, once j))) h,
    λ w x q. absurd (no_value (sym e ∙ q)),
  )

  -- After an evaluation the memory holds what it came to.
  mutual
    unfolding fill_s binds_s noted

    pub remembers : (s : Signal) → ((j : ℕ) → binds_s j s ≤ 1) → (env : Env) (m : Memory) → RemembersS (fill_s rec st env s m) rec st env s
    remembers (input n c) once env m = tt
    remembers (time n) once env m = tt
    remembers (ext n e) once env m = tt
    remembers (delay n k v s) once env m = tt
    remembers (let_signal n t d b) once env m =
        let_remembers n t d b once env _ (remembers d (λ j. omega (arith, once j)) env m) (λ v q. remembers b (λ j. omega (arith, once j)) _ q)
        (eval_s rec st env d) refl
    remembers (switch n k t x e y) once env m = (
      λ c. subst (λ q. RemembersS q rec st env x) (sym (if_true _ _ _ c)) (remembers x (λ j. omega (arith, once j)) env m),
      λ c. subst (λ q. RemembersS q rec st (bind env n (held st k)) y) (sym (if_false _ _ _ c)) (remembers y (λ j. omega (arith, once j)) _ m),
    )
    remembers (group n k body brs) once env m = (
      λ c. subst (λ q. RemembersS q rec st env body) (sym (if_true _ _ _ c)) (remembers body (λ j. omega (arith, once j)) env m),
      λ c. subst (λ q. RemembersB q rec st env (branch_in st k) (held st k) brs) (sym (if_false _ _ _ c)) (remembers_b brs (λ j. omega (arith, once j)) env _ _ m),
    )
    remembers (until n s cs) once env m = remembers s (λ j. omega (arith, once j)) env m

    remembers_b : (brs : Branches) → ((j : ℕ) → binds_b j brs ≤ 1) → (env : Env) (which : ℕ) (v : Value) (m : Memory)
        → RemembersB (fill_b rec st env which v brs m) rec st env which v brs
    remembers_b no_branch once env which v m = tt
    remembers_b (branch n t body next) once env which v m = (
      λ c. subst (λ q. RemembersS q rec st (bind env n v) body) (sym (if_true _ _ _ c)) (remembers body (λ j. omega (arith, once j)) _ m),
      λ c. subst (λ q. RemembersB q rec st env which v next) (sym (if_false _ _ _ c)) (remembers_b next (λ j. omega (arith, once j)) env which v m),
    )
