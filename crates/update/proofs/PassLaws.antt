-- The cases that a loop passes: from case to case, with what was counted on the way.
-- Assumes nothing.
use Rattle.std.specs.Prelude.{None}
use mathlib.Core.Path.{◌≡◌, refl, sym, ap, ◌∙◌, subst}
use mathlib.Core.Bool.{Bool, true, false}
use mathlib.Core.List.{List}
use Prim.Native.Nat.{ℕ, zero, suc, ◌+◌, ◌*◌, ◌%◌, ◌≤◌, ◌<◌}
use native.Mathlib.Omega.{arith}
use lib.ListN.{length}
use lib.Dec.{leb}
use borrow.Author.Tests.{eq-eqb, ne_eqb, leb-true, leb-false, le-leb, lt-leb}
use Rattle.rules.specs.Bytes.{Bytes, ◌or◌}
use Rattle.rules.specs.Values.{unpacked}
use Rattle.rules.specs.Layout.{kind_at, type_at, a_at, b_at, c_at, word_at, most_nodes}
use Rattle.rules.specs.Kinds.{is_case}
use Rattle.rules.specs.Node.{IsNode}
use Rattle.rules.specs.Shaped.{NodeOf}
use Rattle.rules.specs.Tree.{signal_at, cases_at}
use Rattle.rules.specs.Work.{◌plus◌, Updated, Next, Jump, Halted, moved, stays, afterᵘ}
use Rattle.rules.specs.Evaluate.{Env, eval_s}
use Rattle.rules.specs.declared.Node.{Node}
use Rattle.rules.specs.declared.Tally.{Tally}
use Rattle.rules.specs.Moved.{Moved, Stay}
use Rattle.outcomes.specs.Combine.{parts, parts_of}
use Rattle.outcomes.proofs.Tallies.{counted, same_tally, or_no, yes_or, no_or, plus_assoc, one_first, four_parts}
use Rattle.recalled.specs.Recall.{Memory, Recalled, fill_s, leaving, on_outcome, recall_s}
use Rattle.noted.specs.Noted.{memory_in, Noted}
use Rattle.moves.specs.Outcomes.{work_of, calm_of, count_in, tally_in, target_in, jump_value, moved_in, walked}
use Rattle.moves.specs.Lent.{ReadyC, CaseAs}
use Rattle.moves.proofs.KindLaws.{low_fills, low_updates}
use Rattle.moves.proofs.ReadyLaws.{case_part, case_rest}
use Rattle.moves.proofs.NumberLaws.{moved_stays, moved_jumps, more_moved, more_count}
use Rattle.moves.proofs.WalkLaws.{walk_quiet, walk_count, goes_on, broken_on}
use Rattle.update.specs.Passes.{Fits, seen_in, keeping, quietly, quiet_work, onward, passed_from}
use Rattle.update.specs.declared.Passed.{Passed}
use Rattle.update.proofs.QuietLaws.{IsQuiet, quiet_tells}

-- Nothing counted before a walk, and one event more.
quietly_none : (X : Updated) → X ≡ quietly 0 0 X
unfolding quietly keeping seen_in afterᵘ ◌plus◌ ◌or◌
quietly_none (Next st w) = ap (Next st) (same_tally (omega arith) refl)
quietly_none (Jump target v st w) = ap (Jump target v st) (same_tally (omega arith) refl)
quietly_none Halted = refl

-- What events counted, of two numbers together: their work has room in 32 bits.
seen_more : (s u : ℕ) → s % 4294967296 + u % 4294967296 < 4294967296 → seen_in (s + u) ≡ seen_in s plus seen_in u
unfolding seen_in ◌plus◌
seen_more s u h = same_tally (omega arith) (go (leb 4294967296 s) (leb 4294967296 u) refl refl)
  where
    go : (a b : Bool) → leb 4294967296 s ≡ a → leb 4294967296 u ≡ b → leb 4294967296 (s + u) ≡ a or b
    go true b e f = let l : 4294967296 ≤ s = leb-true _ _ e in le-leb 4294967296 (s + u) (omega arith) ∙ sym (yes_or b)
    go false true e f = let l : 4294967296 ≤ u = leb-true _ _ f in le-leb 4294967296 (s + u) (omega arith) ∙ sym (no_or true)
    go false false e f =
        let k : s < 4294967296 = leb-false _ _ e in
        let l : u < 4294967296 = leb-false _ _ f in
        lt-leb 4294967296 (s + u) (omega arith) ∙ sym (no_or false)

quietly_more : (s k u : ℕ) (X : Updated) → s % 4294967296 + u % 4294967296 < 4294967296 → quietly s k (quietly u 1 X) ≡ quietly (s + u) (k + 1) X
unfolding quietly keeping afterᵘ
quietly_more s k u (Next st w) h = rw (seen_more s u h) (ap (Next st) (tallies (seen_in s) (seen_in u)))
  where
    tallies : (a b : Tally) → a plus (counted k plus (b plus (counted 1 plus w))) ≡ (a plus b) plus (counted (k + 1) plus w)
    tallies a b = four_parts a b w k
quietly_more s k u (Jump target v st w) h = rw (seen_more s u h) (ap (Jump target v st) (sym (plus_assoc (seen_in s) (seen_in u) w)))
quietly_more s k u Halted h = refl

-- The walk from a case that is quiet so, by the walk from the next one.
module _ {p : Bytes} {index : List ℕ} (rec st : Bytes) {env : Env} {j : ℕ} {n : Node} (r : CaseAs p index (length st) env j n)
    {u : ℕ} (e : u ≡ quiet_work p rec st env j) (o : 0 < u) where
  q : IsQuiet p rec st env j u
  q = quiet_tells rec st r e

  on : n.b ≡ 65535 → ⊥
  on h = q.follows o (sym r.fields.b_is ∙ h)

  gone : parts_of (eval_s rec st env (signal_at p n.a)) ≡ parts None (seen_in u)
  gone = rw r.fields.a_is (q.absent o)

  idle : (mem : Memory) → mem ≡ fill_s rec st env (signal_at p n.a) mem
  idle mem = low_fills p n.a (case_part r).ready.node rec env st mem (rw r.fields.a_is (q.idle o))

  updates : (s : Bytes) (mem : Memory) → leaving (moved (moved_in 1) s) mem ≡ recall_s rec env (signal_at p n.a) s mem
  updates s mem = low_updates p n.a (case_part r).ready.node rec env s mem refl (rw r.fields.a_is (q.idle o))

  passed_by : (mem : Memory) (X : Updated) (y : Memory) → leaving X y ≡ walked rec env (cases_at p n.b) st mem
      → leaving (quietly u 1 X) y ≡ walked rec env (cases_at p j) st mem
  unfolding quietly keeping afterᵘ moved moved_in tally_in count_in stays calm_of
  passed_by mem (Next s w) y h =
      walk_quiet p j r.ready.node r.fields rec env st mem refl (idle mem) gone refl (Stay (w plus counted 1)) s
      (goes_on p j r.ready.node r.fields rec env st mem on (Stay w) s h refl refl (moved_in 1) s (updates s y) refl refl)
      (ap (λ (x : Tally). Next s (seen_in u plus x)) (one_first w))
  passed_by mem (Jump target v s w) y h =
      walk_quiet p j r.ready.node r.fields rec env st mem refl (idle mem) gone refl (Moved.Jump target v w) s
      (broken_on p j r.ready.node r.fields rec env st mem on (Moved.Jump target v w) s h refl) refl
  passed_by mem Halted y h =
      walk_quiet p j r.ready.node r.fields rec env st mem refl (idle mem) gone refl Moved.Stuck st
      (broken_on p j r.ready.node r.fields rec env st mem on Moved.Stuck st h refl) refl

  pub pass_one : (mem : Memory) → walked rec env (cases_at p j) st mem ≡ on_outcome (quietly u 1) (walked rec env (cases_at p n.b) st mem)
  unfolding on_outcome
  pass_one mem = let W = walked rec env (cases_at p n.b) st mem in sym (passed_by mem W.outcome W.memory refl)

  pub counted_small : u % 4294967296 < 65536
  counted_small = q.small

  pub counted_once : u < 8589934592
  counted_once = q.once

  pub next_ready : (n.b < j) × ReadyC p index (length st) env n.b
  next_ready = case_rest r on

-- The loop at a case, with what it has counted.
pub record Passing (p : Bytes) (index : List ℕ) (rec st : Bytes) (env : Env) (j i seen kept : ℕ) : Type 0 where
  pub ready : ReadyC p index (length st) env i
  pub same : (mem : Memory) → walked rec env (cases_at p j) st mem ≡ on_outcome (quietly seen kept) (walked rec env (cases_at p i) st mem)
  pub down : kept + i ≤ j
  pub few : seen % 4294967296 ≤ 65536 * kept
  pub marks : seen < 4294967296 * kept + 4294967296

-- The same of what leaves a memory too.
quiet_none : (r : Recalled) → r ≡ on_outcome (quietly 0 0) r
unfolding on_outcome
quiet_none r = ap (λ (o : Updated). leaving o r.memory) (quietly_none r.outcome)

quiet_more : (s k u : ℕ) (r : Recalled) → s % 4294967296 + u % 4294967296 < 4294967296
    → on_outcome (quietly s k) (on_outcome (quietly u 1) r) ≡ on_outcome (quietly (s + u) (k + 1)) r
unfolding on_outcome
quiet_more s k u r h = ap (λ (o : Updated). leaving o r.memory) (quietly_more s k u r.outcome h)

pub pass_start : {p : Bytes} {index : List ℕ} (rec st : Bytes) {env : Env} {j : ℕ} → ReadyC p index (length st) env j → Passing p index rec st env j j 0 0
pass_start rec st r = record { ready = r; same = λ mem. quiet_none _; down = omega arith; few = omega arith; marks = omega arith }

-- The counts stay small: no more cases are passed than there are nodes.
low_sum : (seen u kept : ℕ) → seen % 4294967296 ≤ 65536 * kept → u % 4294967296 < 65536 → kept < 1008
    → (seen % 4294967296 + u % 4294967296 < 4294967296) × ((seen + u) % 4294967296 ≤ 65536 * (kept + 1))
low_sum seen u kept h g l = (omega arith, omega arith)

pub pass_next : {p : Bytes} {index : List ℕ} {rec st : Bytes} {env : Env} {j i seen kept : ℕ} → NodeOf is_case p j → Passing p index rec st env j i seen kept
    → {n : Node} → IsNode p i n → {u : ℕ} → u ≡ quiet_work p rec st env i → 0 < u
    → (n.b < i) × Passing p index rec st env j n.b (seen + u) (kept + 1)
pass_next {p} {index} {rec} {st} {env} {j} {i} {seen} {kept} w s {n} f {u} q o =
    let r : CaseAs p index (length st) env i n = record { ready = s.ready; fields = f } in
    let k = next_ready rec st r q o in
    let room = low_sum seen u kept s.few (counted_small rec st r q o) (omega (arith, w.inside, w.shaped.small, s.down, k.0)) in (
      k.0,
      record {
        ready = k.1;
        same = λ mem. s.same mem ∙ ap (on_outcome (quietly seen kept)) (pass_one rec st r q o mem) ∙ quiet_more seen kept u (walked rec env (cases_at p n.b) st mem) room.0;
        down = omega (arith, s.down, k.0);
        few = room.1;
        marks = omega (arith, s.marks, counted_once rec st r q o);
      },
    )

pub pass_room : {p : Bytes} {index : List ℕ} {rec st : Bytes} {env : Env} {j i seen kept : ℕ} → NodeOf is_case p j → Passing p index rec st env j i seen kept
    → (seen + 8589934592 < 18446744073709551616) × (kept + 1 < 4294967296)
pass_room w s = (
  omega (arith, w.inside, w.shaped.small, s.down, s.marks),
  omega (arith, w.inside, w.shaped.small, s.down),
)

-- What a case counted, by slots that hold what they held at first.
pub quiet_again : {p : Bytes} {index : List ℕ} {rec st : Bytes} {e₀ : Env} {j i seen kept : ℕ} → Passing p index rec st e₀ j i seen kept
    → {e : Env} {u : ℕ} → u ≡ quiet_work p rec st e i → e ≡ e₀ → u ≡ quiet_work p rec st e₀ i
quiet_again {p} {rec = rec} {st = st} {i = i} s q h = q ∙ ap (λ (x : Env). quiet_work p rec st x i) h

-- From case j the walk is as from the case where the loop has come to, with what was counted.
pub record Passes (p : Bytes) (index : List ℕ) (rec st : Bytes) (env : Env) (j : ℕ) (s : Passed) : Type 0 where
  pub ready : ReadyC p index (length st) env s.at
  pub down : s.at ≤ j
  pub same : (mem : Memory) → walked rec env (cases_at p j) st mem ≡ on_outcome (quietly s.seen s.kept) (walked rec env (cases_at p s.at) st mem)
  pub few_kept : s.kept < 4294967296

pass_end : {p : Bytes} {index : List ℕ} {rec st : Bytes} {env : Env} {j : ℕ} (s : Passed) → NodeOf is_case p j
    → Passing p index rec st env j s.at s.seen s.kept → Passes p index rec st env j s
pass_end s w x =
    let k = pass_room w x in
    record {
      ready = x.ready;
      down = omega (arith, x.down);
      same = x.same;
      few_kept = omega (arith, k.1);
    }

-- What is passed, by its three numbers; and what was counted before, added to it.
abbrev pub made : ℕ → ℕ → ℕ → Passed
made i a b = record { at = i; seen = a; kept = b }

abbrev further : ℕ → ℕ → Passed → Passed
further a b s = made s.at (a + s.seen) (b + s.kept)

made_same : (i : ℕ) {a b x y : ℕ} → a ≡ x → b ≡ y → made i a b ≡ made i x y
made_same i {b = b} {x = x} e f = ap (λ (k : ℕ). made i k b) e ∙ ap (made i x) f

-- The definition by its tests: a case that is not quiet ends it, with turns left or not; from a quiet one it goes on.
module _ (p rec st : Bytes) (env : Env) where
  passed_stop : (fuel j : ℕ) → quiet_work p rec st env j ≡ 0 → passed_from p rec st env fuel j ≡ made j 0 0
  unfolding passed_from
  passed_stop zero j e = refl
  passed_stop (suc fuel) j e = rw (eq-eqb _ _ e) refl

  passed_on : (fuel j : ℕ) → 0 < quiet_work p rec st env j
      → passed_from p rec st env (suc fuel) j ≡ onward (quiet_work p rec st env j) (passed_from p rec st env fuel (b_at p j))
  unfolding passed_from
  passed_on fuel j h = rw (ne_eqb (quiet_work p rec st env j) 0 (λ z. omega (arith, z, h))) refl

  passed_none : (j : ℕ) → passed_from p rec st env zero j ≡ made j 0 0
  unfolding passed_from
  passed_none j = refl

further_none : (s : Passed) → s ≡ further 0 0 s
further_none s =
    made_same s.at (let e : s.seen ≡ 0 + s.seen = omega arith in e) (let e : s.kept ≡ 0 + s.kept = omega arith in e)

further_more : (a b u : ℕ) (s : Passed) → further a b (onward u s) ≡ further (a + u) (b + 1) s
unfolding onward
further_more a b u s =
    made_same s.at (let e : a + (u + s.seen) ≡ a + u + s.seen = omega arith in e) (let e : b + (1 + s.kept) ≡ b + 1 + s.kept = omega arith in e)

-- The loop at case i, by the definition: what is passed from case j is what was counted and what the turns that are left pass from case i.
pub record Turned (p rec st : Bytes) (env : Env) (j i seen kept : ℕ) : Type 0 where
  pub left : ℕ
  pub budget : left + kept ≡ most_nodes
  pub all : passed_from p rec st env most_nodes j ≡ further seen kept (passed_from p rec st env left i)

pub turn_start : (p rec st : Bytes) (env : Env) (j : ℕ) → Turned p rec st env j j 0 0
turn_start p rec st env j = record { left = most_nodes; budget = omega arith; all = further_none _ }

module _ {p rec st : Bytes} {env : Env} {j i seen kept : ℕ} where
  pub turn_next : {index : List ℕ} → NodeOf is_case p j → Passing p index rec st env j i seen kept → Turned p rec st env j i seen kept
      → {n : Node} → IsNode p i n → {u : ℕ} → u ≡ quiet_work p rec st env i → 0 < u → Turned p rec st env j n.b (seen + u) (kept + 1)
  turn_next w s t {n} f {u} q o = go t.left t.budget t.all
    where
      go : (l : ℕ) → l + kept ≡ most_nodes → passed_from p rec st env most_nodes j ≡ further seen kept (passed_from p rec st env l i)
          → Turned p rec st env j n.b (seen + u) (kept + 1)
      go zero e a = absurd (omega (arith, e, s.down, w.inside, w.shaped.small))
      go (suc l) e a =
          rw (f.b_is, q)
          (record {
            left = l;
            budget = omega (arith, e);
            all = a ∙ ap (further seen kept) (passed_on p rec st env l i (rw (← q) o)) ∙ further_more seen kept (quiet_work p rec st env i) (passed_from p rec st env l (b_at p i));
          })

  pub turn_end : Turned p rec st env j i seen kept → quiet_work p rec st env i ≡ 0 → made i seen kept ≡ passed_from p rec st env most_nodes j
  turn_end t e =
      sym (t.all ∙ ap (further seen kept) (passed_stop p rec st env t.left i e)
      ∙ made_same i (let z : seen + 0 ≡ seen = omega arith in z) (let z : kept + 0 ≡ kept = omega arith in z))

-- What the definition passes, from a case where the loop may stand: by the turns, each as the loop's.
module _ (p : Bytes) (index : List ℕ) (rec st : Bytes) (env : Env) (j : ℕ) (case-node : NodeOf is_case p j) where
  abbrev Through : ℕ → ℕ → Passed → Type 0
  Through a b s = Passing p index rec st env j s.at (a + s.seen) (b + s.kept)

  recounted : (i : ℕ) {a b x y : ℕ} → a ≡ x → b ≡ y → Passing p index rec st env j i a b → Passing p index rec st env j i x y
  recounted i e f s = rw (← e, ← f) s

  stopped : {i a b : ℕ} → Passing p index rec st env j i a b → {s : Passed} → s ≡ made i 0 0 → Through a b s
  stopped {i} {a} {b} x e =
      subst (Through a b) (sym e) (recounted i (let z : a ≡ a + 0 = omega arith in z) (let z : b ≡ b + 0 = omega arith in z) x)

  one_more : (fuel : ℕ) → ((i a b : ℕ) → Passing p index rec st env j i a b → Through a b (passed_from p rec st env fuel i))
      → {i a b : ℕ} → Passing p index rec st env j i a b → (u : ℕ) → u ≡ quiet_work p rec st env i → Through a b (passed_from p rec st env (suc fuel) i)
  unfolding onward
  one_more fuel rest {i} x zero e = stopped x (passed_stop p rec st env (suc fuel) i (sym e))
  one_more fuel rest {i} {a} {b} x (suc k) e =
      let n : Node = record { kind = kind_at p i; ty = type_at p i; a = a_at p i; b = b_at p i; c = c_at p i; word = word_at p i } in
      let f : IsNode p i n = record { kind_is = refl; type_is = refl; a_is = refl; b_is = refl; c_is = refl; word_is = refl } in
      let o : 0 < suc k = omega arith in
      let S = passed_from p rec st env fuel (b_at p i) in
      let W = quiet_work p rec st env i in
      subst (Through a b) (sym (passed_on p rec st env fuel i (rw (← e) o)))
      (recounted S.at (let z : a + suc k + S.seen ≡ a + (W + S.seen) = omega (arith, e) in z) (let z : b + 1 + S.kept ≡ b + (1 + S.kept) = omega arith in z)
      (rest (b_at p i) (a + suc k) (b + 1) (pass_next case-node x f e o).1))

  through : (fuel i a b : ℕ) → Passing p index rec st env j i a b → Through a b (passed_from p rec st env fuel i)
  through zero i a b x = stopped x (passed_none p rec st env i)
  through (suc fuel) i a b x = one_more fuel (through fuel) x (quiet_work p rec st env i) refl

pub passes_from : {p : Bytes} {index : List ℕ} (rec st : Bytes) {env : Env} {j : ℕ} → ReadyC p index (length st) env j
    → {s : Passed} → s ≡ passed_from p rec st env most_nodes j → Passes p index rec st env j s
passes_from {p} {index} rec st {env} {j} r {s} e =
    pass_end s r.node
    (recounted p index rec st env j r.node s.at (let z : 0 + s.seen ≡ s.seen = omega arith in z) (let z : 0 + s.kept ≡ s.kept = omega arith in z)
    (subst (Through p index rec st env j r.node 0 0) (sym e) (through p index rec st env j r.node most_nodes j 0 0 (pass_start rec st r))))

-- What was passed may be added to the walk's outcome: both together are the walk from case j, whose count is within its bound.
pub passes_fit : {p : Bytes} {index : List ℕ} {rec st : Bytes} {env : Env} {j : ℕ} {s : Passed} → ReadyC p index (length st) env j
    → Passes p index rec st env j s → {l : List ℕ} → Noted p l → (o : ℕ) (st₁ : Bytes) {y : Memory}
    → leaving (moved (moved_in o) st₁) y ≡ walked rec env (cases_at p s.at) st (memory_in l) → Fits s o
unfolding quietly keeping seen_in afterᵘ ◌plus◌ moved tally_in on_outcome
passes_fit {p} {index} {rec} {st} {env} {j} {s} r x {l} g o st₁ {y} e =
    record {
      still = λ n l. small (Stay (seen_in s.seen plus (counted s.kept plus tally_in o))) (rw (moved_stays o n l) at whole);
      jumps = λ l. small (Moved.Jump (target_in o) (unpacked (jump_value o)) (seen_in s.seen plus tally_in o)) (rw (moved_jumps o l) at whole);
    }
  where
    whole : leaving (quietly s.seen s.kept (moved (moved_in o) st₁)) y ≡ walked rec env (cases_at p j) st (memory_in l)
    whole = ap (on_outcome (quietly s.seen s.kept)) e ∙ sym (x.same (memory_in l))

    small : (m : Moved) → leaving (moved m st₁) y ≡ walked rec env (cases_at p j) st (memory_in l) → work_of m < 524288
    small m h = omega (arith, r.small, walk_count j r.node g rec env st m st₁ h)

-- And so the walk from case j is what was passed and the walk from there, by slots that hold what they held at first.
pub walk_passed : {p : Bytes} {index : List ℕ} (rec st : Bytes) {env : Env} {j : ℕ} {s : Passed} → Passes p index rec st env j s → (mem : Memory) {env₁ : Env} → env₁ ≡ env
    → {o : Updated} {y : Memory} → leaving o y ≡ walked rec env₁ (cases_at p s.at) st mem → {t : Updated} → t ≡ quietly s.seen s.kept o
    → leaving t y ≡ walked rec env (cases_at p j) st mem
unfolding on_outcome
walk_passed {p} rec st {s = s} x mem h {y = y} e z =
    ap (λ (o : Updated). leaving o y) z
    ∙ ap (on_outcome (quietly s.seen s.kept)) (e ∙ ap (λ (a : Env). walked rec a (cases_at p s.at) st mem) h) ∙ sym (x.same mem)

-- The sum, by what the outcome's number is.
module _ (s : Passed) (o : ℕ) (f : Fits s o) {u : Tally} (e : u ≡ seen_in s.seen) (st : Bytes) where
  pub added_stays : 0 < o → o < 1048576 → afterᵘ u (moved (moved_in (s.kept + o)) st) ≡ quietly s.seen s.kept (moved (moved_in o) st)
  unfolding quietly keeping moved afterᵘ
  added_stays n l =
      let c : s.kept + o ≡ o + s.kept = omega arith in
      let more = more_moved o s.kept (omega (arith, f.still n l)) n st in
      rw (c, e, more, moved_stays o n l)

  pub added_jumps : 1048576 ≤ o → afterᵘ u (moved (moved_in o) st) ≡ quietly s.seen s.kept (moved (moved_in o) st)
  unfolding quietly keeping moved
  added_jumps l = rw (e, moved_jumps o l)

  -- there is room for it
  pub fits_stays : 0 < o → o < 1048576 → u.work + count_in (s.kept + o) < 524288
  unfolding seen_in
  fits_stays n l =
      let c : s.kept + o ≡ o + s.kept = omega arith in
      let z : u.work ≡ s.seen % 4294967296 = ap (λ (x : Tally). x.work) e in
      rw c (omega (arith, f.still n l, more_count o s.kept (omega (arith, f.still n l))))

  pub fits_jumps : 1048576 ≤ o → u.work + count_in o < 524288
  unfolding seen_in
  fits_jumps l = let z : u.work ≡ s.seen % 4294967296 = ap (λ (x : Tally). x.work) e in omega (arith, f.jumps l)
