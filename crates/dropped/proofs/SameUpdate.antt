-- An update of the new tree goes as the old one's, wherever that goes on: alike states after it, or a jump to the paired branch with the same
-- value. Each changes no cells but its own.
-- Assumes nothing.
use Rattle.std.specs.Prelude.{if◌then◌else◌}
use mathlib.Core.Path.{◌≡◌, refl, sym, ap, ◌∙◌}
use mathlib.Core.Logic.{◌⊎◌, inl, inr}
use mathlib.Core.List.{◌∷◌}
use mathlib.Core.Bool.{Bool, true, false}
use Prim.Native.Nat.{ℕ, ◌+◌, ◌-◌, ◌*◌, ◌<◌, ◌≤◌}
use native.Mathlib.Omega.{arith}
use lib.Dec.{eqb, leb}
use lib.ListN.{length}
use borrow.Author.Tests.{eqb-true, leb-true}
use Rattle.rules.specs.Bytes.{Bytes, ◌or◌, ◌and◌}
use Rattle.rules.specs.Values.{packed, unpacked, middle_in, is_maybe}
use Rattle.rules.specs.Layout.{cell, cell_at, set_cell, held, is_clear, branch_in, hold_branch}
use Rattle.rules.specs.Work.{Updated, Next, Jump, Halted, stays, leave, one_rule, afterᵘ, ruleᵘ, ◌with◌, ◌thenᵘ◌}
use Rattle.rules.specs.Tree.{Signal, Branches, no_branch, branch}
use Rattle.rules.specs.Scope.{Offers, has_branch, is_offered, onward}
use Rattle.rules.specs.Reset.{reset_s, reset_b, rests_s, rests_b}
use Rattle.rules.specs.Size.{is_cell, times_s, times_b}
use Rattle.rules.specs.Evaluate.{opened}
use Rattle.rules.specs.Update.{laterᵒ, occurs_if, occurs, on_occurrence, caught, on_event}
use Rattle.rules.specs.declared.Value.{Value}
use Rattle.rules.specs.declared.Value.TheVariants.{Plain, Absent, Present}
use Rattle.rules.specs.declared.Tally.{Tally}
use Rattle.rules.specs.Opened.{Opened, Here, Gone, Amiss}
use Rattle.rules.specs.Evaluated.{Evaluated, Done, Stuck}
use Rattle.rules.specs.Occurrence.{Occurrence, Took, Quiet}
use Rattle.rules.proofs.Static.{holds, not_both, and_both}
use Rattle.promises.specs.Small.{Small}
use Rattle.promises.specs.Sits.{SitsS, SitsB}
use Rattle.promises.specs.Kept.{Kept}
use Rattle.promises.proofs.ValidLaws.{or_cases}
use Rattle.promises.proofs.Frames.{cell_itself, kept_self, kept_then, kept_more, apart_agree, rests_agree}
use Rattle.promises.proofs.Rests.{reset_rests, reset_b_rests}
use Rattle.dropped.specs.Less.{LessS, LessB}
use Rattle.dropped.specs.Alike.{GroupCell, in_branch, AlikeS, AlikeB}
use Rattle.dropped.proofs.SameEval.{SameE, done, stuck, has_paired}
use Rattle.dropped.proofs.Lone.{handed_on}
use Rattle.dropped.proofs.Keeps.{set_kept, Keeps}
use Rattle.dropped.proofs.Contents.{content, cell_stored, branch_filled, branch_named, branch_held}
use Rattle.dropped.proofs.SameParts.{rests_alike, rests_b_alike}

-- A value that was caught is plain.
pub record Caught (v : Value) : Type 0 where
  pub type : ℕ
  pub word : ℕ
  pub is : v ≡ Plain type word
  pub most : type ≤ 3

pub data SameU (π : ℕ → ℕ) (Δ : Offers) (own own' : ℕ → ℕ) (R : Bytes → Bytes → Type 0) (st st' : Bytes) : Updated → Updated → Type 0 where
  next : {st₁ st₁' : Bytes} {w w' : Tally} → Kept own st st₁ → Kept own' st' st₁' → R st₁ st₁'
      → SameU π Δ own own' R st st' (Next st₁ w) (Next st₁' w')
  jump : {target target' : ℕ} {v : Value} {st₁ st₁' : Bytes} {w w' : Tally} → target ≡ π target' → is_offered target' Δ ≡ true → Caught v
      → Kept own st st₁ → Kept own' st' st₁' → SameU π Δ own own' R st st' (Jump target v st₁ w) (Jump target' v st₁' w')
  halted : {r : Updated} → SameU π Δ own own' R st st' Halted r

module _ {π : ℕ → ℕ} {Δ : Offers} {own own' : ℕ → ℕ} {R : Bytes → Bytes → Type 0} {st st' : Bytes} where
  pub after_same : (u w : Tally) {r q : Updated} → SameU π Δ own own' R st st' r q → SameU π Δ own own' R st st' (afterᵘ u r) (afterᵘ w q)
  unfolding afterᵘ
  after_same u w (next a b h) = next a b h
  after_same u w (jump e o c a b) = jump e o c a b
  after_same u w halted = halted

  after_old : (u : Tally) {r q : Updated} → SameU π Δ own own' R st st' r q → SameU π Δ own own' R st st' (afterᵘ u r) q
  unfolding afterᵘ
  after_old u (next a b h) = next a b h
  after_old u (jump e o c a b) = jump e o c a b
  after_old u halted = halted

  pub rule_same : {r q : Updated} → SameU π Δ own own' R st st' r q → SameU π Δ own own' R st st' (ruleᵘ r) (ruleᵘ q)
  unfolding ruleᵘ
  rule_same h = after_same one_rule one_rule h

  pub rule_old : {r q : Updated} → SameU π Δ own own' R st st' r q → SameU π Δ own own' R st st' (ruleᵘ r) q
  unfolding ruleᵘ
  rule_old h = after_old one_rule h

  pub leave_same : {st₁ st₁' : Bytes} → Kept own st st₁ → Kept own' st' st₁' → R st₁ st₁' → SameU π Δ own own' R st st' (leave st₁) (leave st₁')
  unfolding leave
  leave_same a b h = next a b h

  pub with_same : {r q : Evaluated} (f g : Value → Updated) → SameE r q → ((v : Value) → SameU π Δ own own' R st st' (f v) (g v))
      → SameU π Δ own own' R st st' (r with f) (q with g)
  unfolding ◌with◌
  with_same f g (done {v} {u} {w}) h = after_same u w (h v)
  with_same f g stuck h = halted

  pub with_old : (r : Evaluated) (f : Value → Updated) {q : Updated} → ((v : Value) → SameU π Δ own own' R st st' (f v) q)
      → SameU π Δ own own' R st st' (r with f) q
  unfolding ◌with◌
  with_old (Done v u) f h = after_old u (h v)
  with_old Stuck f h = halted

  pub then_same : {Δ₁ : Offers} {part part' : ℕ → ℕ} {P : Bytes → Bytes → Type 0} {r q : Updated} (f g : Bytes → Updated)
      → SameU π Δ₁ part part' P st st' r q
      → ((st₁ st₁' : Bytes) → Kept part st st₁ → Kept part' st' st₁' → P st₁ st₁' → SameU π Δ own own' R st st' (f st₁) (g st₁'))
      → SameU π Δ own own' R st st' (r thenᵘ f) (q thenᵘ g)
  unfolding ◌thenᵘ◌
  then_same f g (next {st₁} {st₁'} {w} {w'} a b h) k = after_same w w' (k st₁ st₁' a b h)
  then_same f g (jump e o c a b) k = halted
  then_same f g halted k = halted

  pub then_old : {part : ℕ → ℕ} {r : Updated} (f : Bytes → Updated) {q : Updated} → Keeps part st r
      → ((st₁ : Bytes) → Kept part st st₁ → SameU π Δ own own' R st st' (f st₁) q) → SameU π Δ own own' R st st' (r thenᵘ f) q
  unfolding ◌thenᵘ◌
  then_old f (Keeps.next {st₁} {w} a) k = after_old w (k st₁ a)
  then_old f (Keeps.jump a) k = halted
  then_old f Keeps.halted k = halted

  pub stays_same : {Δ₁ : Offers} {r q : Updated} → SameU π Δ₁ own own' R st st' r q → SameU π Δ own own' R st st' (stays r) (stays q)
  unfolding stays
  stays_same (next a b h) = next a b h
  stays_same (jump e o c a b) = halted
  stays_same halted = halted

  pub from_same : {f f' g g' : ℕ → ℕ} {P : Bytes → Bytes → Type 0} {st₁ st₁' : Bytes} {r q : Updated}
      → ((k : ℕ) → own k ≡ 0 → f k ≡ 0) → ((k : ℕ) → own k ≡ 0 → g k ≡ 0) → ((k : ℕ) → own' k ≡ 0 → f' k ≡ 0) → ((k : ℕ) → own' k ≡ 0 → g' k ≡ 0)
      → Kept f st st₁ → Kept f' st' st₁'
      → ((st₂ st₂' : Bytes) → Kept g st₁ st₂ → Kept g' st₁' st₂' → P st₂ st₂' → R st₂ st₂')
      → SameU π Δ g g' P st₁ st₁' r q → SameU π Δ own own' R st st' r q
  from_same hf hg hf' hg' a a' k (next {st₁ = st₂} {st₁' = st₂'} b b' h) = next (kept_then hf hg a b) (kept_then hf' hg' a' b') (k st₂ st₂' b b' h)
  from_same hf hg hf' hg' a a' k (jump e o c b b') = jump e o c (kept_then hf hg a b) (kept_then hf' hg' a' b')
  from_same hf hg hf' hg' a a' k halted = halted

  pub part_same : {g g' : ℕ → ℕ} {P : Bytes → Bytes → Type 0} {r q : Updated}
      → ((k : ℕ) → own k ≡ 0 → g k ≡ 0) → ((k : ℕ) → own' k ≡ 0 → g' k ≡ 0)
      → ((st₂ st₂' : Bytes) → Kept g st st₂ → Kept g' st' st₂' → P st₂ st₂' → R st₂ st₂')
      → SameU π Δ g g' P st st' r q → SameU π Δ own own' R st st' r q
  part_same hg hg' k (next {st₁ = st₂} {st₁' = st₂'} b b' h) = next (kept_more hg b) (kept_more hg' b') (k st₂ st₂' b b' h)
  part_same hg hg' k (jump e o c b b') = jump e o c (kept_more hg b) (kept_more hg' b')
  part_same hg hg' k halted = halted

  pub either_same : (b : Bool) {r q s z : Updated} → SameU π Δ own own' R st st' r q → SameU π Δ own own' R st st' s z
      → SameU π Δ own own' R st st' (if b then r else s) (if b then q else z)
  either_same true h g = h
  either_same false h g = g

-- A maybe taken apart.
opened_by : (P : Opened → Type 0) → ((x : Value) → Caught x → P (Here x)) → P Gone → P Amiss → (v : Value) → P (opened v)
unfolding opened is_maybe
opened_by P h g a (Plain t w) = a
opened_by P h g a (Absent t) = g
opened_by P h g a (Present t w) = go (leb 5 t and leb t 7) refl
  where
    go : (b : Bool) → (leb 5 t and leb t 7) ≡ b → P (if b then Here (Plain (t - 4) w) else Amiss)
    go true e = h (Plain (t - 4) w) (record { type = t - 4; word = w; is = refl; most = omega (arith, leb-true t 7 (and_both _ _ e).1) })
    go false e = a

pub event_same : {π : ℕ → ℕ} {Δ : Offers} {own own' : ℕ → ℕ} {R : Bytes → Bytes → Type 0} {st st' : Bytes} (event : Value) (f g : Value → Updated) {q z : Updated}
    → ((v : Value) → Caught v → SameU π Δ own own' R st st' (f v) (g v)) → SameU π Δ own own' R st st' q z
    → SameU π Δ own own' R st st' (on_event (opened event) f q) (on_event (opened event) g z)
unfolding on_event
event_same {π} {Δ} {own} {own'} {R} {st} {st'} event f g {q} {z} h k =
    opened_by (λ o. SameU π Δ own own' R st st' (on_event o f q) (on_event o g z)) (λ v c. h v c) k halted event

-- The events of an until: the same case is present, or none is.
pub data SameO (π : ℕ → ℕ) (Δ : Offers) : Occurrence → Occurrence → Type 0 where
  took : {target target' : ℕ} {v : Value} {u w : Tally} → target ≡ π target' → is_offered target' Δ ≡ true → Caught v
      → SameO π Δ (Took target v u) (Took target' v w)
  quiet : {u w : Tally} → SameO π Δ (Quiet u) (Quiet w)
  amiss : {o : Occurrence} → SameO π Δ Occurrence.Stuck o

later_same : {π : ℕ → ℕ} {Δ : Offers} (u w : Tally) {o p : Occurrence} → SameO π Δ o p → SameO π Δ (laterᵒ u o) (laterᵒ w p)
unfolding laterᵒ
later_same u w (took e o c) = took e o c
later_same u w quiet = quiet
later_same u w amiss = amiss

pub occurs_same : {π : ℕ → ℕ} {Δ : Offers} {r q : Evaluated} (target target' : ℕ) {o p : Occurrence} → SameE r q → target ≡ π target' → is_offered target' Δ ≡ true
    → SameO π Δ o p → SameO π Δ (occurs r target o) (occurs q target' p)
unfolding occurs occurs_if
occurs_same {π} {Δ} target target' {o} {p} (done {v} {u} {w}) e i h =
    opened_by (λ z. SameO π Δ (occurs_if z u target o) (occurs_if z w target' p)) (λ x c. took e i c) (later_same u w h) amiss v
occurs_same target target' stuck e i h = amiss

pub occurrence_same : {π : ℕ → ℕ} {Δ : Offers} {own own' : ℕ → ℕ} {R : Bytes → Bytes → Type 0} {st st' : Bytes} {o p : Occurrence} {q z : Updated}
    → Small st → Small st' → SameO π Δ o p → SameU π Δ own own' R st st' q z
    → SameU π Δ own own' R st st' (on_occurrence o st q) (on_occurrence p st' z)
unfolding on_occurrence
occurrence_same {st = st} {st'} s s' (took e i c) h = jump e i c (kept_self _ st s) (kept_self _ st' s')
occurrence_same s s' (quiet {u} {w}) h = after_same u w h
occurrence_same s s' amiss h = halted

-- A group that takes a branch: its cell, and its parts at rest.
record Entered (k m : ℕ) (body : Signal) (brs : Branches) (st st₁ : Bytes) : Type 0 where
  kept : Kept (λ j. is_cell j k + times_s j body + times_b j brs) st st₁
  stored : cell st₁ k ≡ content m
  rests : rests_s st₁ body ≡ true
  rests_b : rests_b st₁ brs ≡ true

entered : (count cells : ℕ) (τ : ℕ → ℕ) (k m : ℕ) (body : Signal) (brs : Branches) → k < cells → SitsS count cells τ body → SitsB count cells τ brs
    → ((j : ℕ) → is_cell j k + times_s j body + times_b j brs ≤ 1) → (st : Bytes) → Small st → length st ≡ cell_at cells
    → Entered k m body brs st (reset_b brs (reset_s body (set_cell st k m)))
entered count cells τ k m body brs lk sits sitsB once st s l =
    let a = set_kept st k m s in
    let b = reset_rests body count cells τ (set_cell st k m) sits (λ j. omega (arith, once j)) a.bytes (a.long ∙ l) in
    let c = reset_b_rests brs count cells τ (reset_s body (set_cell st k m)) sitsB (λ j. omega (arith, once j)) b.kept.bytes (b.kept.long ∙ a.long ∙ l) in
    let bc : Kept (λ j. times_s j body + times_b j brs) (set_cell st k m) _ = kept_then (λ j z. omega arith) (λ j z. omega arith) b.kept c.kept in
    record {
      kept = kept_then (λ j z. omega arith) (λ j z. omega arith) a bc;
      stored = bc.others k (omega (arith, once k, cell_itself k)) ∙ cell_stored st k m cells lk l;
      rests = rests_agree body _ _ (apart_agree (λ j. omega (arith, once j)) c.kept) ∙ b.holds;
      rests_b = c.holds;
    }

-- A branch of a list that sits in its table.
branch_small : (brs : Branches) (count cells : ℕ) (τ : ℕ → ℕ) → SitsB count cells τ brs → (target : ℕ) → has_branch target brs ≡ true → target < 65536
unfolding has_branch
branch_small no_branch count cells τ sits target h = absurd (not_both h)
branch_small (branch n t body more) count cells τ sits target h = go (or_cases _ _ h) (branch_small more count cells τ sits.3 target)
  where
    go : (eqb n target ≡ true) ⊎ (has_branch target more ≡ true) → (has_branch target more ≡ true → target < 65536) → target < 65536
    go (inl e) k = let q : n ≡ target = eqb-true n target e in omega (arith, sits.0.small)
    go (inr e) k = k e

-- The cells of a group that took a branch.
taken_cell : {π : ℕ → ℕ} {brs' : Branches} (st st' : Bytes) (k k' target' : ℕ) (v : Value) → Caught v → π target' < 65536 → target' < 65536
    → has_branch target' brs' ≡ true → cell st k ≡ content (packed v + 65536 * π target') → cell st' k' ≡ content (packed v + 65536 * target')
    → GroupCell π st st' k k' brs'
unfolding is_clear held branch_in packed
taken_cell {π} {brs'} st st' k k' target' v c l l' has e e' =
    let t = c.type in
    let w = c.word in
    let q : cell st k ≡ content (t + 256 + 4294967296 * w + 65536 * π target') = e ∙ ap (λ (x : Value). content (packed x + 65536 * π target')) c.is in
    let q' : cell st' k' ≡ content (t + 256 + 4294967296 * w + 65536 * target') = e' ∙ ap (λ (x : Value). content (packed x + 65536 * target')) c.is in
    let n' : middle_in (cell st' k') ≡ target' = ap middle_in q' ∙ branch_named t w target' c.most l' in
    in_branch (ap (λ (x : ℕ). eqb x 0) q ∙ branch_filled t w (π target') c.most l) (ap (λ (x : ℕ). eqb x 0) q' ∙ branch_filled t w target' c.most l')
    (ap unpacked q ∙ branch_held t w (π target') c.most l ∙ sym (ap unpacked q' ∙ branch_held t w target' c.most l'))
    (ap middle_in q ∙ branch_named t w (π target') c.most l ∙ ap π (sym n'))
    (ap (λ (x : ℕ). has_branch x brs') n' ∙ has)

-- A jump to one of the group's branches is caught on both sides, and one to a branch that it hands on passes it on both.
module _ {π : ℕ → ℕ} (ed : ℕ) (Δ : Offers) (count cells cells' : ℕ) (τ τ' : ℕ → ℕ) (k k' : ℕ) {body body' : Signal} {brs brs' : Branches}
    (b : LessS π body body') (bs : LessB π brs brs') (lk : k < cells) (lk' : k' < cells')
    (sb : SitsS count cells τ body) (sb' : SitsS count cells' τ' body') (sl : SitsB count cells τ brs) (sl' : SitsB count cells' τ' brs')
    (once : (j : ℕ) → is_cell j k + times_s j body + times_b j brs ≤ 1) (once' : (j : ℕ) → is_cell j k' + times_s j body' + times_b j brs' ≤ 1)
    (passed : (x : ℕ) → is_offered x (onward ed Δ) ≡ true → has_branch (π x) brs ≡ false)
    (st st' : Bytes) (l : length st ≡ cell_at cells) (l' : length st' ≡ cell_at cells') where
  abbrev own : ℕ → ℕ
  own j = is_cell j k + times_s j body + times_b j brs

  abbrev own' : ℕ → ℕ
  own' j = is_cell j k' + times_s j body' + times_b j brs'

  abbrev After : Bytes → Bytes → Type 0
  After x y = GroupCell π x y k k' brs' × AlikeS x y b × AlikeB x y bs

  caught_here : {target target' : ℕ} {v : Value} {st₁ st₁' : Bytes} (w w' : Tally) → target ≡ π target' → has_branch target' brs' ≡ true → Caught v
      → Kept own st st₁ → Kept own' st' st₁'
      → SameU π Δ own own' After st st' (caught k body brs (Jump target v st₁ w)) (caught k' body' brs' (Jump target' v st₁' w'))
  unfolding caught hold_branch
  caught_here {target} {target'} {v} {st₁} {st₁'} w w' e has' c a a' =
      let paired : has_branch (π target') brs ≡ true = has_paired bs target' has' in
      let has : has_branch target brs ≡ true = ap (λ (x : ℕ). has_branch x brs) e ∙ paired in
      let x = entered count cells τ k (packed v + 65536 * target) body brs lk sb sl once st₁ a.bytes (a.long ∙ l) in
      let x' = entered count cells' τ' k' (packed v + 65536 * target') body' brs' lk' sb' sl' once' st₁' a'.bytes (a'.long ∙ l') in
      rw (has, has')
      (next (kept_then (λ j z. z) (λ j z. z) a x.kept) (kept_then (λ j z. z) (λ j z. z) a' x'.kept) (
        taken_cell _ _ k k' target' v c (branch_small brs count cells τ sl (π target') paired) (branch_small brs' count cells' τ' sl' target' has') has'
            (x.stored ∙ ap (λ (y : ℕ). content (packed v + 65536 * y)) e) x'.stored,
        rests_alike _ _ b x.rests x'.rests,
        rests_b_alike _ _ bs x.rests_b x'.rests_b,
      ))

  passed_on : {target target' : ℕ} {v : Value} {st₁ st₁' : Bytes} (w w' : Tally) → target ≡ π target' → has_branch target' brs' ≡ false
      → is_offered target' (onward ed Δ) ≡ true → Caught v → Kept own st st₁ → Kept own' st' st₁'
      → SameU π Δ own own' After st st' (caught k body brs (Jump target v st₁ w)) (caught k' body' brs' (Jump target' v st₁' w'))
  unfolding caught
  passed_on {target} {target'} w w' e not' o c a a' =
      let not₀ : has_branch target brs ≡ false = ap (λ (x : ℕ). has_branch x brs) e ∙ passed target' o in
      rw (not₀, not') (jump e (handed_on ed Δ target' o) c a a')

  pub caught_same : {r q : Updated} → SameU π (brs' ∷ onward ed Δ) own own' After st st' r q
      → SameU π Δ own own' After st st' (caught k body brs r) (caught k' body' brs' q)
  unfolding caught is_offered ◌or◌
  caught_same (next a a' h) = next a a' h
  caught_same halted = halted
  caught_same (jump {target} {target'} {v} {st₁} {st₁'} {w} {w'} e o c a a') = go (has_branch target' brs') refl o
    where
      go : (has : Bool) → has_branch target' brs' ≡ has → (has or is_offered target' (onward ed Δ)) ≡ true
          → SameU π Δ own own' After st st' (caught k body brs (Jump target v st₁ w)) (caught k' body' brs' (Jump target' v st₁' w'))
      go true h i = caught_here w w' e h c a a'
      go false h i = passed_on w w' e h i c a a'
