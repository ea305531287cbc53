-- Updates of an old tree and of a new one with lets dropped, of all kinds.
-- Assumes nothing.
use Rattle.std.specs.Prelude.{if◌then◌else◌, None}
use mathlib.Core.Path.{◌≡◌, refl, sym, ◌∙◌}
use mathlib.Core.List.{[], ◌∷◌}
use mathlib.Core.Bool.{true}
use Prim.Native.Nat.{ℕ, ◌+◌, ◌≤◌}
use native.Mathlib.Omega.{arith}
use lib.ListN.{length}
use Rattle.rules.specs.Bytes.{Bytes}
use Rattle.rules.specs.Values.{packed}
use Rattle.rules.specs.Layout.{cell, cell_at, set_cell, held, hold, is_clear, branch_in}
use Rattle.rules.specs.Work.{Updated}
use Rattle.rules.specs.Tree.{Signal, Branches, Cases}
use Rattle.rules.specs.Scope.{Marks, mark, Offers, has_branch, onward, scope_s, scope_b, scope_c}
use Rattle.rules.specs.Reset.{reset_s, rests_s}
use Rattle.rules.specs.Size.{is_cell, times_s, times_b, times_c}
use Rattle.rules.specs.Evaluate.{Env, bind, eval_s}
use Rattle.rules.specs.Update.{first_present, upd_s, upd_b, upd_c}
use Rattle.rules.specs.declared.Value.{Value}
use Rattle.rules.proofs.Static.{both, holds, not_both}
use Rattle.promises.specs.Small.{Small}
use Rattle.promises.specs.Sits.{SitsS, SitsB, SitsC}
use Rattle.promises.specs.Kept.{Kept}
use Rattle.promises.proofs.SoundE.{bind_length}
use Rattle.promises.proofs.Frames.{cell_itself, kept_self, kept_then, apart_agree, rests_agree}
use Rattle.promises.proofs.Rests.{reset_rests}
use Rattle.dropped.specs.Less.{LessS, inputs, times, exts, delays, lets, dropped, switches, groups, untils, LessB, no_branches, branches, LessC, no_cases, cases}
use Rattle.dropped.specs.Falls.{FallsS, FallsB, FallsC}
use Rattle.dropped.specs.Alike.{GroupCell, in_body, in_branch, AlikeS, AlikeB, AlikeC, Envs}
use Rattle.dropped.proofs.SameEval.{eval_s_same, envs_below, envs_own, envs_bind, envs_drop, pick_same}
use Rattle.written.proofs.Counted.{sum_s, sum_c, is}
use Rattle.dropped.proofs.Lone.{Lone, lone_part, lone_apart, sum_bodies, lone_body, lone_branches, not_its_own}
use Rattle.dropped.proofs.Keeps.{set_kept, upd_s_keeps}
use Rattle.dropped.proofs.Contents.{cell_stored}
use Rattle.dropped.proofs.SameParts.{group_agree, alike_agree, alike_b_agree, alike_c_agree, rests_alike}
use Rattle.dropped.proofs.SameUpdate.{SameU, rule_same, rule_old, leave_same, with_same, with_old, then_same, then_old, stays_same, from_same, part_same, either_same, event_same, SameO, quiet, occurs_same, occurrence_same, caught_same}

-- A switch that has switched: its cell, and its parts at rest.
record Switched (k m : ℕ) (x y : Signal) (st st₁ : Bytes) : Type 0 where
  kept : Kept (λ j. is_cell j k + times_s j x + times_s j y) st st₁
  stored : cell st₁ k ≡ cell (set_cell st k m) k
  rests_x : rests_s st₁ x ≡ true
  rests_y : rests_s st₁ y ≡ true

switched : (count cells : ℕ) (τ : ℕ → ℕ) (k m : ℕ) (x y : Signal) → SitsS count cells τ x → SitsS count cells τ y
    → ((j : ℕ) → is_cell j k + times_s j x + times_s j y ≤ 1) → (st : Bytes) → Small st → length st ≡ cell_at cells
    → Switched k m x y st (reset_s y (reset_s x (set_cell st k m)))
switched count cells τ k m x y sx sy once st s l =
    let a = set_kept st k m s in
    let b = reset_rests x count cells τ (set_cell st k m) sx (λ j. omega (arith, once j)) a.bytes (a.long ∙ l) in
    let c = reset_rests y count cells τ (reset_s x (set_cell st k m)) sy (λ j. omega (arith, once j)) b.kept.bytes (b.kept.long ∙ a.long ∙ l) in
    let bc : Kept (λ j. times_s j x + times_s j y) (set_cell st k m) _ = kept_then (λ j z. omega arith) (λ j z. omega arith) b.kept c.kept in
    record {
      kept = kept_then (λ j z. omega arith) (λ j z. omega arith) a bc;
      stored = bc.others k (omega (arith, once k, cell_itself k));
      rests_x = rests_agree x _ _ (apart_agree (λ j. omega (arith, once j)) c.kept) ∙ b.holds;
      rests_y = c.holds;
    }

-- A switch's part.
part_of : {π : ℕ → ℕ} {Δ : Offers} {own own' : ℕ → ℕ} {R : Bytes → Bytes → Type 0} {st st' : Bytes} (q q' : Bytes) (k k' : ℕ) → cell q k ≡ cell q' k'
    → {r z : Updated} (f g : Value → Updated)
    → SameU π Δ own own' R st st' r z → ((v : Value) → SameU π Δ own own' R st st' (f v) (g v))
    → SameU π Δ own own' R st st' (if is_clear q k then r else f (held q k)) (if is_clear q' k' then z else g (held q' k'))
unfolding is_clear held
part_of q q' k k' e f z h g = rw e (either_same (is_clear q' k') h (g _))

-- A group's part.
group_of : {π : ℕ → ℕ} {Δ : Offers} {own own' : ℕ → ℕ} {R : Bytes → Bytes → Type 0} {st st' : Bytes} {k k' : ℕ} {brs' : Branches} → GroupCell π st st' k k' brs'
    → {r z : Updated} (f g : ℕ → Value → Updated)
    → SameU π Δ own own' R st st' r z → ((which : ℕ) (v : Value) → has_branch which brs' ≡ true → SameU π Δ own own' R st st' (f (π which) v) (g which v))
    → SameU π Δ own own' R st st' (if is_clear st k then r else f (branch_in st k) (held st k)) (if is_clear st' k' then z else g (branch_in st' k') (held st' k'))
group_of (in_body c c') f z h g = rw (c, c') h
group_of (in_branch c c' e b has) f z h g = rw (c, c', e, b) (g _ _ has)

module _ (ed count cells cells' : ℕ) (τ τ' : ℕ → ℕ) (π : ℕ → ℕ) (rec : Bytes) where
  -- The events of an until, in list order up to the first present one.
  first_same : {s s' : Cases} (x : LessC π s s') (st st' : Bytes) → AlikeC st st' x → (m : ℕ) → FallsC m s → SitsC count cells τ s → SitsC count cells' τ' s'
      → (Γ : Marks) (Δ : Offers) → scope_c ed Γ Δ s' ≡ None → (env env' : Env) → length env ≡ count → length env' ≡ count → Envs π m Γ env env'
      → SameO π Δ (first_present rec st env s) (first_present rec st' env' s')
  unfolding first_present scope_s
  first_same no_cases st st' al m f s s' Γ Δ sc env env' l l' h = quiet
  first_same (cases {n' = n'} {target = target} {target' = target'} a g e cs) st st' al m f s s' Γ Δ sc env env' l l' h =
      let z = both _ _ sc in
      let z₁ = both _ _ z.1 in
      occurs_same target target'
      (eval_s_same ed count cells cells' τ τ' π rec st st' e al.0 _ f.1 s.1 s'.1 Γ [] z₁.0 env env' l l' (envs_below f.0 h))
      g (holds _ n' z.0) (first_same cs st st' al.1 _ f.2 s.2 s'.2 Γ Δ z₁.1 env env' l l' (envs_below f.0 h))

  mutual
    unfolding upd_s scope_s times_s sum_s sum_bodies hold held branch_in is_clear has_branch

    pub upd_s_same : {s s' : Signal} (x : LessS π s s') (m : ℕ) → FallsS m s → SitsS count cells τ s → SitsS count cells' τ' s'
        → ((j : ℕ) → times_s j s ≤ 1) → ((j : ℕ) → times_s j s' ≤ 1)
        → (Γ : Marks) (Δ : Offers) → scope_s ed Γ Δ s' ≡ None → Lone π Δ (λ x. sum_s s (is x)) → (env env' : Env) → length env ≡ count → length env' ≡ count → Envs π m Γ env env'
        → (st st' : Bytes) → Small st → Small st' → length st ≡ cell_at cells → length st' ≡ cell_at cells' → AlikeS st st' x
        → SameU π Δ (λ j. times_s j s) (λ j. times_s j s') (λ p q. AlikeS p q x) st st' (upd_s rec env s st) (upd_s rec env' s' st')
    upd_s_same (inputs a) m f s s' o o' Γ Δ sc lo env env' l l' h st st' hs hs' ls ls' al =
        rule_same (leave_same (kept_self _ st hs) (kept_self _ st' hs') tt)
    upd_s_same (times a) m f s s' o o' Γ Δ sc lo env env' l l' h st st' hs hs' ls ls' al =
        rule_same (leave_same (kept_self _ st hs) (kept_self _ st' hs') tt)
    upd_s_same (exts a e) m f s s' o o' Γ Δ sc lo env env' l l' h st st' hs hs' ls ls' al =
        rule_same (leave_same (kept_self _ st hs) (kept_self _ st' hs') tt)
    upd_s_same (delays {k = k} {k' = k'} a x) m f s s' o o' Γ Δ sc lo env env' l l' h st st' hs hs' ls ls' al =
        let g = envs_below f.0 h in
        rule_same (with_same _ _ (eval_s_same ed count cells cells' τ τ' π rec st st' x al.1 _ f.1 s.2 s'.2 Γ [] sc env env' l l' g) λ v.
        then_same _ _ (upd_s_same x _ f.1 s.2 s'.2 (λ j. omega (arith, o j)) (λ j. omega (arith, o' j)) Γ [] sc (lone_apart (λ x. omega arith) lo) env env' l l' g st st' hs hs' ls ls' al.1) λ st₁ st₁' b b' al₁.
        let c = set_kept st₁ k (packed v) b.bytes in
        let c' = set_kept st₁' k' (packed v) b'.bytes in
        leave_same (kept_then (λ j z. omega arith) (λ j z. omega arith) b c) (kept_then (λ j z. omega arith) (λ j z. omega arith) b' c') (
          cell_stored st₁ k (packed v) cells s.0 (b.long ∙ ls) ∙ sym (cell_stored st₁' k' (packed v) cells' s'.0 (b'.long ∙ ls')),
          alike_agree st₁ st₁' _ _ x (apart_agree (λ j. o j) c) (apart_agree (λ j. o' j) c') al₁,
        ))
    upd_s_same (lets {n = n} {n' = n'} a d b) m f s s' o o' Γ Δ sc lo env env' l l' h st st' hs hs' ls ls' al =
        let z = both _ _ sc in
        rule_same (with_same _ _ (eval_s_same ed count cells cells' τ τ' π rec st st' d al.0 _ f.1 s.1 s'.1 (mark Γ n') [] z.0 env env' l l' (envs_own n' Γ a f.0 h)) λ v.
        let g = envs_bind n' Γ a f.0 h v (rw l s.0.below) (rw l' s'.0.below) in
        then_same _ _
        (upd_s_same d _ f.1 s.1 s'.1 (λ j. omega (arith, o j)) (λ j. omega (arith, o' j)) (mark Γ n') [] z.0 (lone_apart (λ x. omega arith) lo) (bind env n v) (bind env' n' v)
        (bind_length env n v ∙ l) (bind_length env' n' v ∙ l') g st st' hs hs' ls ls' al.0) λ st₁ st₁' p p' al₁.
        from_same (λ j z. omega arith) (λ j z. omega arith) (λ j z. omega arith) (λ j z. omega arith) p p'
        (λ st₂ st₂' q q' al₂. (alike_agree st₁ st₁' st₂ st₂' d (apart_agree (λ j. omega (arith, o j)) q) (apart_agree (λ j. omega (arith, o' j)) q') al₁, al₂))
        (upd_s_same b _ f.2 s.2 s'.2 (λ j. omega (arith, o j)) (λ j. omega (arith, o' j)) (mark Γ n') Δ z.1 (lone_part (λ x. omega arith) lo) (bind env n v) (bind env' n' v)
        (bind_length env n v ∙ l) (bind_length env' n' v ∙ l') g st₁ st₁' p.bytes p'.bytes (p.long ∙ ls) (p'.long ∙ ls')
        (alike_agree st st' st₁ st₁' b (apart_agree (λ j. o j) p) (apart_agree (λ j. o' j) p') al.1)))
    upd_s_same (dropped {n = n} {d = d} b) m f s s' o o' Γ Δ sc lo env env' l l' h st st' hs hs' ls ls' al =
        rule_old (with_old (eval_s rec st env d) _ λ v.
        then_old _ (upd_s_keeps rec (bind env n v) d st hs) λ st₁ p.
        from_same (λ j z. omega arith) (λ j z. omega arith) (λ j z. refl) (λ j z. z) p (kept_self (λ j. 0) st' hs') (λ st₂ st₂' q q' al₂. al₂)
        (upd_s_same b _ f.2 s.2 s' (λ j. omega (arith, o j)) o' Γ Δ sc (lone_part (λ x. omega arith) lo) (bind env n v) env' (bind_length env n v ∙ l) l' (envs_drop v f.0 h)
        st₁ st' p.bytes hs' (p.long ∙ ls) ls'
        (alike_agree st st' st₁ st' b (apart_agree (λ j. o j) p) (record { same = λ j i. refl }) al)))
    upd_s_same (switches {n = n} {n' = n'} {k = k} {k' = k'} {x = px} {y = py} {x' = qx} {y' = qy} a x e y) m f s s' o o' Γ Δ sc lo env env' l l' h st st' hs hs' ls ls' al =
        let z = both _ _ sc in
        let z₁ = both _ _ z.1 in
        let g = envs_below f.0 h in
        rule_same (with_same _ _ (eval_s_same ed count cells cells' τ τ' π rec st st' e al.2 _ f.2 s.3 s'.3 Γ [] z₁.0 env env' l l' g) λ event.
        then_same _ _
        (upd_s_same e _ f.2 s.3 s'.3 (λ j. omega (arith, o j)) (λ j. omega (arith, o' j)) Γ [] z₁.0 (lone_apart (λ x. omega arith) lo) env env' l l' g st st' hs hs' ls ls' al.2) λ st₁ st₁' p p' al₁.
        let c : cell st₁ k ≡ cell st₁' k' = p.others k (omega (arith, o k, cell_itself k)) ∙ al.0 ∙ sym (p'.others k' (omega (arith, o' k', cell_itself k'))) in
        let ax = alike_agree st st' st₁ st₁' x (apart_agree (λ j. omega (arith, o j)) p) (apart_agree (λ j. omega (arith, o' j)) p') al.1 in
        let ay = alike_agree st st' st₁ st₁' y (apart_agree (λ j. omega (arith, o j)) p) (apart_agree (λ j. omega (arith, o' j)) p') al.3 in
        event_same event _ _
        (λ v w.
        let t = switched count cells τ k (packed v) px py s.2 s.4 (λ j. omega (arith, o j)) st₁ p.bytes (p.long ∙ ls) in
        let t' = switched count cells' τ' k' (packed v) qx qy s'.2 s'.4 (λ j. omega (arith, o' j)) st₁' p'.bytes (p'.long ∙ ls') in
        leave_same (kept_then (λ j i. omega arith) (λ j i. omega arith) p t.kept) (kept_then (λ j i. omega arith) (λ j i. omega arith) p' t'.kept) (
          t.stored ∙ cell_stored st₁ k (packed v) cells s.0 (p.long ∙ ls) ∙ sym (t'.stored ∙ cell_stored st₁' k' (packed v) cells' s'.0 (p'.long ∙ ls')),
          rests_alike _ _ x t.rests_x t'.rests_x,
          alike_agree st₁ st₁' _ _ e (apart_agree (λ j. omega (arith, o j)) t.kept) (apart_agree (λ j. omega (arith, o' j)) t'.kept) al₁,
          rests_alike _ _ y t.rests_y t'.rests_y,
        ))
        (stays_same (part_of st₁ st₁' k k' c (λ v. upd_s rec (bind env n v) py st₁) (λ v. upd_s rec (bind env' n' v) qy st₁')
        (from_same (λ j i. omega arith) (λ j i. omega arith) (λ j i. omega arith) (λ j i. omega arith) p p'
        (λ st₂ st₂' q q' al₂. (
          q.others k (omega (arith, o k, cell_itself k)) ∙ c ∙ sym (q'.others k' (omega (arith, o' k', cell_itself k'))),
          al₂,
          alike_agree st₁ st₁' st₂ st₂' e (apart_agree (λ j. omega (arith, o j)) q) (apart_agree (λ j. omega (arith, o' j)) q') al₁,
          alike_agree st₁ st₁' st₂ st₂' y (apart_agree (λ j. omega (arith, o j)) q) (apart_agree (λ j. omega (arith, o' j)) q') ay,
        ))
        (upd_s_same x _ f.1 s.2 s'.2 (λ j. omega (arith, o j)) (λ j. omega (arith, o' j)) Γ [] z.0 (lone_apart (λ x. omega arith) lo) env env' l l' g st₁ st₁' p.bytes p'.bytes (p.long ∙ ls) (p'.long ∙ ls') ax))
        λ v.
        from_same (λ j i. omega arith) (λ j i. omega arith) (λ j i. omega arith) (λ j i. omega arith) p p'
        (λ st₂ st₂' q q' al₂. (
          q.others k (omega (arith, o k, cell_itself k)) ∙ c ∙ sym (q'.others k' (omega (arith, o' k', cell_itself k'))),
          alike_agree st₁ st₁' st₂ st₂' x (apart_agree (λ j. omega (arith, o j)) q) (apart_agree (λ j. omega (arith, o' j)) q') ax,
          alike_agree st₁ st₁' st₂ st₂' e (apart_agree (λ j. omega (arith, o j)) q) (apart_agree (λ j. omega (arith, o' j)) q') al₁,
          al₂,
        ))
        (upd_s_same y _ f.3 s.4 s'.4 (λ j. omega (arith, o j)) (λ j. omega (arith, o' j)) (mark Γ n') [] z₁.1 (lone_apart (λ x. omega arith) lo) (bind env n v) (bind env' n' v)
        (bind_length env n v ∙ l) (bind_length env' n' v ∙ l') (envs_bind n' Γ a f.0 h v (rw l s.1.binds.below) (rw l' s'.1.binds.below))
        st₁ st₁' p.bytes p'.bytes (p.long ∙ ls) (p'.long ∙ ls') ay))))
    upd_s_same (groups {n = n} {k = k} {k' = k'} {body = body} {brs = brs} {brs' = brs'} a b bs) m f s s' o o' Γ Δ sc lo env env' l l' h st st' hs hs' ls ls' al =
        let z = both _ _ sc in
        let g = envs_below f.0 h in
        rule_same (caught_same ed Δ count cells cells' τ τ' k k' b bs s.0 s'.0 s.1 s'.1 s.2 s'.2 o o' (not_its_own ed n body bs lo) st st' ls ls'
        (group_of al.0 (λ which v. upd_b rec env which v brs st) (λ which v. upd_b rec env' which v brs' st')
        (part_same (λ j i. omega arith) (λ j i. omega arith)
        (λ st₁ st₁' p p' al₁. (
          group_agree st₁ st₁' (p.others k (omega (arith, o k, cell_itself k))) (p'.others k' (omega (arith, o' k', cell_itself k'))) al.0,
          al₁,
          alike_b_agree st st' st₁ st₁' bs (apart_agree (λ j. omega (arith, o j)) p) (apart_agree (λ j. omega (arith, o' j)) p') al.2,
        ))
        (upd_s_same b _ f.1 s.1 s'.1 (λ j. omega (arith, o j)) (λ j. omega (arith, o' j)) Γ (brs' ∷ onward ed Δ) z.0 (lone_body ed n body bs lo) env env' l l' g st st' hs hs' ls ls' al.1))
        λ which v has.
        part_same (λ j i. omega arith) (λ j i. omega arith)
        (λ st₁ st₁' p p' al₁. (
          group_agree st₁ st₁' (p.others k (omega (arith, o k, cell_itself k))) (p'.others k' (omega (arith, o' k', cell_itself k'))) al.0,
          alike_agree st st' st₁ st₁' b (apart_agree (λ j. omega (arith, o j)) p) (apart_agree (λ j. omega (arith, o' j)) p') al.1,
          al₁,
        ))
        (upd_b_same bs _ f.2 s.2 s'.2 (λ j. omega (arith, o j)) (λ j. omega (arith, o' j)) Γ (brs' ∷ onward ed Δ) z.1 (lone_branches ed n body bs lo) env env' l l' g st st' hs hs' ls ls' al.2 which v has)))
    upd_s_same (untils a x cs) m f s s' o o' Γ Δ sc lo env env' l l' h st st' hs hs' ls ls' al =
        let z = both _ _ sc in
        let g = envs_below f.0 h in
        rule_same (occurrence_same hs hs' (first_same cs st st' al.1 _ f.2 s.1 s'.1 Γ Δ z.1 env env' l l' g)
        (then_same _ _
        (upd_c_same cs _ f.2 s.1 s'.1 (λ j. omega (arith, o j)) (λ j. omega (arith, o' j)) Γ Δ z.1 (lone_apart (λ x. omega arith) lo) env env' l l' g st st' hs hs' ls ls' al.1) λ st₁ st₁' p p' al₁.
        from_same (λ j i. omega arith) (λ j i. omega arith) (λ j i. omega arith) (λ j i. omega arith) p p'
        (λ st₂ st₂' q q' al₂.
        (al₂, alike_c_agree st₁ st₁' st₂ st₂' cs (apart_agree (λ j. omega (arith, o j)) q) (apart_agree (λ j. omega (arith, o' j)) q') al₁))
        (stays_same (upd_s_same x _ f.1 s.0 s'.0 (λ j. omega (arith, o j)) (λ j. omega (arith, o' j)) Γ [] z.0 (lone_apart (λ x. omega arith) lo) env env' l l' g st₁ st₁' p.bytes p'.bytes
        (p.long ∙ ls) (p'.long ∙ ls')
        (alike_agree st st' st₁ st₁' x (apart_agree (λ j. omega (arith, o j)) p) (apart_agree (λ j. omega (arith, o' j)) p') al.0)))))

    upd_b_same : {s s' : Branches} (x : LessB π s s') (m : ℕ) → FallsB m s → SitsB count cells τ s → SitsB count cells' τ' s'
        → ((j : ℕ) → times_b j s ≤ 1) → ((j : ℕ) → times_b j s' ≤ 1)
        → (Γ : Marks) (Δ : Offers) → scope_b ed Γ Δ s' ≡ None → Lone π Δ (λ x. sum_bodies s (is x)) → (env env' : Env) → length env ≡ count → length env' ≡ count → Envs π m Γ env env'
        → (st st' : Bytes) → Small st → Small st' → length st ≡ cell_at cells → length st' ≡ cell_at cells' → AlikeB st st' x
        → (which : ℕ) (v : Value) → has_branch which s' ≡ true
        → SameU π Δ (λ j. times_b j s) (λ j. times_b j s') (λ p q. AlikeB p q x) st st' (upd_b rec env (π which) v s st) (upd_b rec env' which v s' st')
    upd_b_same no_branches m f s s' o o' Γ Δ sc lo env env' l l' h st st' hs hs' ls ls' al which v has = absurd (not_both has)
    upd_b_same (branches {n = n} {n' = n'} {body = u} {body' = u'} {next = w} {next' = w'} a b bs) m f s s' o o' Γ Δ sc lo env env' l l' h st st' hs hs' ls ls' al which v has =
        let z = both _ _ sc in
        pick_same n n' which a bs f.2 has Updated
        (SameU π Δ (λ j. times_s j u + times_b j w) (λ j. times_s j u' + times_b j w') (λ p q. AlikeS p q b × AlikeB p q bs) st st') _ _ _ _
        (part_same (λ j i. omega arith) (λ j i. omega arith)
        (λ st₁ st₁' p p' al₁.
        (al₁, alike_b_agree st st' st₁ st₁' bs (apart_agree (λ j. omega (arith, o j)) p) (apart_agree (λ j. omega (arith, o' j)) p') al.1))
        (upd_s_same b _ f.1 s.2 s'.2 (λ j. omega (arith, o j)) (λ j. omega (arith, o' j)) (mark Γ n') Δ z.0 (lone_part (λ x. omega arith) lo) (bind env n v) (bind env' n' v)
        (bind_length env n v ∙ l) (bind_length env' n' v ∙ l') (envs_bind n' Γ a f.0 h v (rw l s.1.binds.below) (rw l' s'.1.binds.below))
        st st' hs hs' ls ls' al.0))
        λ more.
        part_same (λ j i. omega arith) (λ j i. omega arith)
        (λ st₁ st₁' p p' al₁.
        (alike_agree st st' st₁ st₁' b (apart_agree (λ j. omega (arith, o j)) p) (apart_agree (λ j. omega (arith, o' j)) p') al.0, al₁))
        (upd_b_same bs _ f.2 s.3 s'.3 (λ j. omega (arith, o j)) (λ j. omega (arith, o' j)) Γ Δ z.1 (lone_part (λ x. omega arith) lo) env env' l l' (envs_below f.0 h)
        st st' hs hs' ls ls' al.1 which v more)

    upd_c_same : {s s' : Cases} (x : LessC π s s') (m : ℕ) → FallsC m s → SitsC count cells τ s → SitsC count cells' τ' s'
        → ((j : ℕ) → times_c j s ≤ 1) → ((j : ℕ) → times_c j s' ≤ 1)
        → (Γ : Marks) (Δ : Offers) → scope_c ed Γ Δ s' ≡ None → Lone π [] (λ x. sum_c s (is x)) → (env env' : Env) → length env ≡ count → length env' ≡ count → Envs π m Γ env env'
        → (st st' : Bytes) → Small st → Small st' → length st ≡ cell_at cells → length st' ≡ cell_at cells' → AlikeC st st' x
        → SameU π [] (λ j. times_c j s) (λ j. times_c j s') (λ p q. AlikeC p q x) st st' (upd_c rec env s st) (upd_c rec env' s' st')
    upd_c_same no_cases m f s s' o o' Γ Δ sc lo env env' l l' h st st' hs hs' ls ls' al = leave_same (kept_self _ st hs) (kept_self _ st' hs') tt
    upd_c_same (cases a t e cs) m f s s' o o' Γ Δ sc lo env env' l l' h st st' hs hs' ls ls' al =
        let z = both _ _ (both _ _ sc).1 in
        let g = envs_below f.0 h in
        then_same _ _
        (upd_c_same cs _ f.2 s.2 s'.2 (λ j. omega (arith, o j)) (λ j. omega (arith, o' j)) Γ Δ z.1 (lone_apart (λ x. omega arith) lo) env env' l l' g st st' hs hs' ls ls' al.1) λ st₁ st₁' p p' al₁.
        from_same (λ j i. omega arith) (λ j i. omega arith) (λ j i. omega arith) (λ j i. omega arith) p p'
        (λ st₂ st₂' q q' al₂.
        (al₂, alike_c_agree st₁ st₁' st₂ st₂' cs (apart_agree (λ j. omega (arith, o j)) q) (apart_agree (λ j. omega (arith, o' j)) q') al₁))
        (stays_same (upd_s_same e _ f.1 s.1 s'.1 (λ j. omega (arith, o j)) (λ j. omega (arith, o' j)) Γ [] z.0 (lone_apart (λ x. omega arith) lo) env env' l l' g st₁ st₁' p.bytes p'.bytes
        (p.long ∙ ls) (p'.long ∙ ls')
        (alike_agree st st' st₁ st₁' e (apart_agree (λ j. omega (arith, o j)) p) (apart_agree (λ j. omega (arith, o' j)) p') al.0)))
