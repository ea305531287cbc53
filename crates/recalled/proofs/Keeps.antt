-- An update changes no cells but the signal's own, whatever the environment, the record and the state.
-- Assumes nothing.
use Rattle.std.specs.Prelude.{if◌then◌else◌}
use mathlib.Core.Path.{◌≡◌, refl, sym, ap, ◌∙◌}
use mathlib.Core.Bool.{Bool, true, false}
use Prim.Native.Nat.{ℕ, ◌+◌, ◌<◌, ◌≤◌}
use native.Mathlib.Omega.{arith}
use lib.Dec.{eqb}
use lib.ListN.{length}
use Rattle.rules.specs.Bytes.{Bytes}
use Rattle.rules.specs.Layout.{cell, set_cell, held, hold, clear, is_clear, branch_in, hold_branch}
use Rattle.rules.specs.Work.{Updated, Next, Jump, Halted, stays, leave, one_rule, afterᵘ, ruleᵘ, ◌with◌, ◌thenᵘ◌}
use Rattle.rules.specs.Tree.{Signal, input, time, ext, delay, let_signal, switch, group, until, Branches, no_branch, branch, Cases, no_case, case}
use Rattle.rules.specs.Scope.{has_branch}
use Rattle.rules.specs.Reset.{reset_s, reset_b, reset_c}
use Rattle.rules.specs.Size.{is_cell, times_s, times_b, times_c}
use Rattle.rules.specs.Evaluate.{Env, bind, opened, eval_s}
use Rattle.rules.specs.Update.{on_occurrence, on_event}
use Rattle.rules.specs.declared.Value.{Value}
use Rattle.rules.specs.declared.Tally.{Tally}
use Rattle.rules.specs.Opened.{Opened, Here, Gone, Amiss}
use Rattle.rules.specs.Evaluated.{Evaluated, Done, Stuck}
use Rattle.rules.specs.Occurrence.{Occurrence, Took, Quiet}
use Rattle.rules.proofs.Cells.{cell_other, time_stays, sum_stays, length_set_cell}
use Rattle.current.specs.Current.{soonest, leaves, swapped, go_s, go_b, go_c}
use Rattle.promises.specs.Small.{Small}
use Rattle.promises.specs.Kept.{Kept}
use Rattle.promises.proofs.SmallLaws.{small_set_cell}
use Rattle.promises.proofs.Frames.{cell_another, kept_self, kept_then, kept_more}

-- Whatever is stored in a cell, no other is changed.
pub set_kept : (st : Bytes) (k m : ℕ) → Small st → Kept (λ j. is_cell j k) st (set_cell st k m)
set_kept st k m s = record {
  long = length_set_cell st k m;
  bytes = small_set_cell st k m s;
  moment = time_stays st k m;
  stamp = sum_stays st k m;
  others = λ j e. cell_other st k j m (cell_another j k e);
}

-- A reset.
mutual
  unfolding reset_s times_s hold clear

  pub reset_s_kept : (s : Signal) (st : Bytes) → Small st → Kept (λ j. times_s j s) st (reset_s s st)
  reset_s_kept (input n c) st h = kept_self _ st h
  reset_s_kept (time n) st h = kept_self _ st h
  reset_s_kept (ext n e) st h = kept_self _ st h
  reset_s_kept (delay n k v s) st h =
      let a = set_kept st k _ h in
      kept_then (λ j z. omega arith) (λ j z. omega arith) a (reset_s_kept s _ a.bytes)
  reset_s_kept (let_signal n t d b) st h =
      let a = reset_s_kept d st h in
      kept_then (λ j z. omega arith) (λ j z. omega arith) a (reset_s_kept b _ a.bytes)
  reset_s_kept (switch n k t x e y) st h =
      let a = set_kept st k 0 h in
      let b = reset_s_kept x _ a.bytes in
      let c = reset_s_kept e _ b.bytes in
      let ab : Kept (λ j. is_cell j k + times_s j x) st _ = kept_then (λ j z. omega arith) (λ j z. omega arith) a b in
      let abc : Kept (λ j. is_cell j k + times_s j x + times_s j e) st _ = kept_then (λ j z. omega arith) (λ j z. omega arith) ab c in
      kept_then (λ j z. omega arith) (λ j z. omega arith) abc (reset_s_kept y _ c.bytes)
  reset_s_kept (group n k body brs) st h =
      let a = set_kept st k 0 h in
      let b = reset_s_kept body _ a.bytes in
      let ab : Kept (λ j. is_cell j k + times_s j body) st _ = kept_then (λ j z. omega arith) (λ j z. omega arith) a b in
      kept_then (λ j z. omega arith) (λ j z. omega arith) ab (reset_b_kept brs _ b.bytes)
  reset_s_kept (until n s cs) st h =
      let a = reset_s_kept s st h in
      kept_then (λ j z. omega arith) (λ j z. omega arith) a (reset_c_kept cs _ a.bytes)

  pub reset_b_kept : (brs : Branches) (st : Bytes) → Small st → Kept (λ j. times_b j brs) st (reset_b brs st)
  reset_b_kept no_branch st h = kept_self _ st h
  reset_b_kept (branch n t body next) st h =
      let a = reset_s_kept body st h in
      kept_then (λ j z. omega arith) (λ j z. omega arith) a (reset_b_kept next _ a.bytes)

  reset_c_kept : (cs : Cases) (st : Bytes) → Small st → Kept (λ j. times_c j cs) st (reset_c cs st)
  reset_c_kept no_case st h = kept_self _ st h
  reset_c_kept (case n event target t next) st h =
      let a = reset_s_kept event st h in
      kept_then (λ j z. omega arith) (λ j z. omega arith) a (reset_c_kept next _ a.bytes)

-- An outcome that keeps.
pub data Keeps (own : ℕ → ℕ) (st : Bytes) : Updated → Type 0 where
  next : {st₁ : Bytes} {w : Tally} → Kept own st st₁ → Keeps own st (Next st₁ w)
  jump : {target : ℕ} {v : Value} {st₁ : Bytes} {w : Tally} → Kept own st st₁ → Keeps own st (Jump target v st₁ w)
  halted : Keeps own st Halted

module _ {own : ℕ → ℕ} {st : Bytes} where
  after_keeps : (u : Tally) {r : Updated} → Keeps own st r → Keeps own st (afterᵘ u r)
  unfolding afterᵘ
  after_keeps u (next k) = next k
  after_keeps u (jump k) = jump k
  after_keeps u halted = halted

  rule_keeps : {r : Updated} → Keeps own st r → Keeps own st (ruleᵘ r)
  unfolding ruleᵘ
  rule_keeps h = after_keeps one_rule h

  leave_keeps : {st₁ : Bytes} → Kept own st st₁ → Keeps own st (leave st₁)
  unfolding leave
  leave_keeps k = next k

  with_keeps : (r : Evaluated) (f : Value → Updated) → ((v : Value) → Keeps own st (f v)) → Keeps own st (r with f)
  unfolding ◌with◌
  with_keeps (Done v u) f h = after_keeps u (h v)
  with_keeps Stuck f h = halted

  then_keeps : {part : ℕ → ℕ} {r : Updated} (f : Bytes → Updated) → Keeps part st r → ((st₁ : Bytes) → Kept part st st₁ → Keeps own st (f st₁))
      → Keeps own st (r thenᵘ f)
  unfolding ◌thenᵘ◌
  then_keeps f (next {st₁} {w} k) h = after_keeps w (h st₁ k)
  then_keeps f (jump k) h = halted
  then_keeps f halted h = halted

  stays_keeps : {r : Updated} → Keeps own st r → Keeps own st (stays r)
  unfolding stays
  stays_keeps (next k) = next k
  stays_keeps (jump k) = halted
  stays_keeps halted = halted

  either_keeps : (b : Bool) {r s : Updated} → Keeps own st r → Keeps own st s → Keeps own st (if b then r else s)
  either_keeps true h g = h
  either_keeps false h g = g

  from_keeps : {f g : ℕ → ℕ} {st₁ : Bytes} {r : Updated} → ((k : ℕ) → own k ≡ 0 → f k ≡ 0) → ((k : ℕ) → own k ≡ 0 → g k ≡ 0) → Kept f st st₁
      → Keeps g st₁ r → Keeps own st r
  from_keeps hf hg a (next k) = next (kept_then hf hg a k)
  from_keeps hf hg a (jump k) = jump (kept_then hf hg a k)
  from_keeps hf hg a halted = halted

  part_keeps : {g : ℕ → ℕ} {r : Updated} → ((k : ℕ) → own k ≡ 0 → g k ≡ 0) → Keeps g st r → Keeps own st r
  part_keeps hg (next k) = next (kept_more hg k)
  part_keeps hg (jump k) = jump (kept_more hg k)
  part_keeps hg halted = halted

  event_keeps : (o : Opened) (f : Value → Updated) {q : Updated} → ((v : Value) → Keeps own st (f v)) → Keeps own st q → Keeps own st (on_event o f q)
  unfolding on_event
  event_keeps (Here v) f h g = h v
  event_keeps Gone f h g = g
  event_keeps Amiss f h g = halted

  occurrence_keeps : (o : Occurrence) {q : Updated} → Small st → Keeps own st q → Keeps own st (on_occurrence o st q)
  unfolding on_occurrence
  occurrence_keeps (Took target v u) s h = jump (kept_self _ st s)
  occurrence_keeps (Quiet u) s h = after_keeps u h
  occurrence_keeps Occurrence.Stuck s h = halted

  leaves_keeps : (k : ℕ) (part : Signal) (brs : Branches) {r : Updated} → ((j : ℕ) → own j ≡ 0 → is_cell j k + times_s j part ≡ 0)
      → Keeps own st r → Keeps own st (leaves k part brs r)
  unfolding leaves hold_branch
  leaves_keeps k part brs h (next a) = next a
  leaves_keeps k part brs h (jump {target} {v} {st₁} a) =
      let b = set_kept st₁ k _ a.bytes in
      let c = reset_s_kept part _ b.bytes in
      let bc : Kept (λ j. is_cell j k + times_s j part) st₁ _ = kept_then (λ j z. omega arith) (λ j z. omega arith) b c in
      either_keeps (has_branch target brs) (next (kept_then (λ j z. z) (λ j z. h j z) a bc)) (jump a)
  leaves_keeps k part brs h halted = halted

-- A switch that catches a value.
swapped_kept : (k : ℕ) (x y : Signal) (st : Bytes) (v : Value) → Small st → Kept (λ j. is_cell j k + times_s j x + times_s j y) st (swapped k x y st v)
unfolding swapped hold
swapped_kept k x y st v h = go (is_clear st k)
  where
    a : Kept (λ j. is_cell j k) st (hold st k v)
    a = set_kept st k _ h

    go : (c : Bool) → Kept (λ j. is_cell j k + times_s j x + times_s j y) st (if c then reset_s x (hold st k v) else reset_s y (hold st k v))
    go true = kept_then (λ j z. omega arith) (λ j z. omega arith) a (reset_s_kept x _ a.bytes)
    go false = kept_then (λ j z. omega arith) (λ j z. omega arith) a (reset_s_kept y _ a.bytes)

mutual
  unfolding go_s times_s hold

  pub go_s_keeps : (rec : Bytes) (env : Env) (s : Signal) (st : Bytes) → Small st → Keeps (λ j. times_s j s) st (go_s rec env s st)
  go_s_keeps rec env (input n c) st h = rule_keeps (leave_keeps (kept_self _ st h))
  go_s_keeps rec env (time n) st h = rule_keeps (leave_keeps (kept_self _ st h))
  go_s_keeps rec env (ext n e) st h = rule_keeps (leave_keeps (kept_self _ st h))
  go_s_keeps rec env (delay n k v s) st h =
      rule_keeps (with_keeps _ _ λ w. then_keeps _ (go_s_keeps rec env s st h) λ st₁ a.
      leave_keeps (kept_then (λ j z. omega arith) (λ j z. omega arith) a (set_kept st₁ k _ a.bytes)))
  go_s_keeps rec env (let_signal n t d b) st h =
      rule_keeps (with_keeps _ _ λ v. then_keeps _ (go_s_keeps rec _ d st h) λ st₁ a.
      from_keeps (λ j z. omega arith) (λ j z. omega arith) a (go_s_keeps rec _ b st₁ a.bytes))
  go_s_keeps rec env (switch n k t x e y) st h =
      rule_keeps (with_keeps _ _ λ event. then_keeps _ (go_s_keeps rec _ e st h) λ st₁ a.
      event_keeps (opened event) _
      (λ v. leave_keeps (kept_then (λ j z. omega arith) (λ j z. omega arith) a (swapped_kept k x y st₁ v a.bytes)))
      (stays_keeps (either_keeps (is_clear st₁ k)
      (from_keeps (λ j z. omega arith) (λ j z. omega arith) a (go_s_keeps rec _ x st₁ a.bytes))
      (from_keeps (λ j z. omega arith) (λ j z. omega arith) a (go_s_keeps rec _ y st₁ a.bytes)))))
  go_s_keeps rec env (group n k body brs) st h =
      rule_keeps (either_keeps (is_clear st k)
      (leaves_keeps k body brs (λ j z. omega arith) (part_keeps (λ j z. omega arith) (go_s_keeps rec _ body st h)))
      (part_keeps (λ j z. omega arith) (go_b_keeps rec _ k _ _ brs brs st h)))
  go_s_keeps rec env (until n s cs) st h =
      rule_keeps (occurrence_keeps (soonest rec st env cs) h
      (then_keeps _ (go_c_keeps rec env cs st h) λ st₁ a.
      from_keeps (λ j z. omega arith) (λ j z. omega arith) a (stays_keeps (go_s_keeps rec env s st₁ a.bytes))))

  pub go_b_keeps : (rec : Bytes) (env : Env) (k which : ℕ) (v : Value) (all brs : Branches) (st : Bytes) → Small st
      → Keeps (λ j. is_cell j k + times_b j brs) st (go_b rec env k which v all brs st)
  go_b_keeps rec env k which v all no_branch st h = halted
  go_b_keeps rec env k which v all (branch n t body more) st h =
      either_keeps (eqb n which)
      (leaves_keeps k body all (λ j z. omega arith) (part_keeps (λ j z. omega arith) (go_s_keeps rec _ body st h)))
      (part_keeps (λ j z. omega arith) (go_b_keeps rec env k which v all more st h))

  pub go_c_keeps : (rec : Bytes) (env : Env) (cs : Cases) (st : Bytes) → Small st → Keeps (λ j. times_c j cs) st (go_c rec env cs st)
  go_c_keeps rec env no_case st h = leave_keeps (kept_self _ st h)
  go_c_keeps rec env (case n event target t more) st h =
      then_keeps _ (go_c_keeps rec env more st h) λ st₁ a.
      from_keeps (λ j z. omega arith) (λ j z. omega arith) a (stays_keeps (go_s_keeps rec env event st₁ a.bytes))
