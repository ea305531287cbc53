-- What the event of a case counted, where the case is quiet: the count by the case's fields, and what a count above 0 tells.
-- Assumes nothing.
use Rattle.std.specs.Prelude.{if◌then◌else◌, Option, Some, None}
use Rattle.std.proofs.lemmas.Option.{same_Some, none-some}
use mathlib.Core.Path.{◌≡◌, refl, sym, ap, ◌∙◌, subst}
use mathlib.Core.Bool.{Bool, true, false}
use mathlib.Core.List.{List}
use Prim.Native.Nat.{ℕ, ◌+◌, ◌%◌, ◌≤◌, ◌<◌}
use native.Mathlib.Omega.{arith}
use lib.Dec.{eqb, ltb, leb}
use lib.ListN.{length}
use borrow.Author.Tests.{eq-eqb, ne_eqb, eqb-true, eqb-false, lt-ltb, le-ltb, ltb-true, ltb-false, le-leb, lt-leb}
use Rattle.rules.specs.Bytes.{Bytes}
use Rattle.rules.specs.Layout.{kind_at, a_at, b_at, no_next}
use Rattle.rules.specs.Tree.{signal_at}
use Rattle.rules.specs.Evaluate.{Env, eval_s}
use Rattle.rules.specs.Kinds.{is_signal}
use Rattle.rules.specs.Shaped.{NodeOf}
use Rattle.rules.specs.Work.{one_rule, ◌plus◌, after, rule}
use Rattle.rules.specs.Evaluated.{Done, Stuck}
use Rattle.evaluate.proofs.SignalLaws.{input_eval, time_eval, ext_eval, time_alone}
use Rattle.rules.specs.declared.Node.{Node}
use Rattle.rules.specs.declared.Tally.{Tally}
use Rattle.rules.specs.Evaluated.{Evaluated}
use Rattle.rules.proofs.Within.{eval_s_within}
use Rattle.outcomes.specs.Combine.{work_of, parts, parts_of}
use Rattle.outcomes.specs.Outcome.{outcome_in, IsOutcome}
use Rattle.outcomes.specs.declared.Parts.{Parts}
use Rattle.outcomes.proofs.Outcomes.{work_within, take_work, parts_with}
use Rattle.outcomes.proofs.Tallies.{same_tally}
use Rattle.moves.specs.Lent.{CaseAs}
use Rattle.moves.proofs.ReadyLaws.{case_part, seen_small}
use Rattle.update.specs.Passes.{seen_of, seen_in, absent_count, absent_work, quiet_work, Known, IsKnown}

-- The count by tests: of the last case, of an event of another kind, and of an event that is looked at.
module _ (p rec st : Bytes) (env : Env) (j : ℕ) where
  work_last : b_at p j ≡ no_next → quiet_work p rec st env j ≡ 0
  unfolding quiet_work
  work_last e = rw (eq-eqb _ _ e) refl

  work_high : (b_at p j ≡ no_next → ⊥) → 3 < kind_at p (a_at p j) → quiet_work p rec st env j ≡ 0
  unfolding quiet_work
  work_high d h = rw (ne_eqb _ _ d, lt-ltb _ _ h) refl

  work_low : (b_at p j ≡ no_next → ⊥) → kind_at p (a_at p j) ≤ 3 → quiet_work p rec st env j ≡ absent_work (parts_of (eval_s rec st env (signal_at p (a_at p j))))
  unfolding quiet_work
  work_low d h = rw (ne_eqb _ _ d, le-ltb _ _ h) refl

-- The same by the fields that were read.
module _ {p : Bytes} {index : List ℕ} (rec st : Bytes) {env : Env} {j : ℕ} {n : Node} (r : CaseAs p index (length st) env j n) where
  pub last_quiet : n.b ≡ 65535 → 0 ≡ quiet_work p rec st env j
  last_quiet e = sym (work_last p rec st env j (sym r.fields.b_is ∙ e))

  module _ (d : n.b ≡ 65535 → ⊥) {k : ℕ} (e : k ≡ kind_at p n.a) where
    pub high_quiet : 3 < k → 0 ≡ quiet_work p rec st env j
    high_quiet h = sym (work_high p rec st env j (λ z. d (r.fields.b_is ∙ z)) (rw (← r.fields.a_is) (rw (← e) h)))

    pub low_quiet : k ≤ 3 → {x : Evaluated} → x ≡ eval_s rec st env (signal_at p n.a) → {a : Option Parts} → parts_of x ≡ a
        → absent_work a ≡ quiet_work p rec st env j
    low_quiet h q a =
        ap absent_work (sym a ∙ ap parts_of q) ∙ ap (λ (i : ℕ). absent_work (parts_of (eval_s rec st env (signal_at p i)))) r.fields.a_is
        ∙ sym (work_low p rec st env j (λ z. d (r.fields.b_is ∙ z)) (rw (← r.fields.a_is) (rw (← e) h)))

-- What is known of an event, by its number and by slots that are the same; where nothing is; and of one that was evaluated.
pub known_by : {p rec st : Bytes} {env : Env} {i k : ℕ} {o : Option ℕ} → i ≡ k → Known p rec st env k o → Known p rec st env i o
known_by {p} {rec} {st} {env} {o = o} h g = subst (λ (x : ℕ). Known p rec st env x o) (sym h) g

pub known_again : {p rec st : Bytes} {env env₁ : Env} {i : ℕ} {o : Option ℕ} → env₁ ≡ env → Known p rec st env i o → Known p rec st env₁ i o
known_again {p} {rec} {st} {i = i} {o = o} h g = subst (λ (x : Env). Known p rec st x i o) (sym h) g

pub known_none : {p rec st : Bytes} {env : Env} {i : ℕ} → Known p rec st env i None
known_none = record { given = λ e h. absurd (none-some e h) }

pub event_known : {p : Bytes} {index : List ℕ} (rec st : Bytes) {env : Env} {j : ℕ} {n : Node} → CaseAs p index (length st) env j n
    → {k : ℕ} → k ≡ kind_at p n.a → k ≤ 3 → {e : ℕ} → outcome_in e ≡ eval_s rec st env (signal_at p n.a) → IsOutcome e → Known p rec st env (a_at p j) (Some e)
event_known {p} rec st {env} {j = j} r h l {e = e} q i =
    let k : IsKnown p rec st env (a_at p j) e = subst (λ (x : ℕ). IsKnown p rec st env x e) r.fields.a_is (record { low = rw (← h) l; same = q; number = i }) in
    record { given = λ x g. subst (λ (y : ℕ). IsKnown p rec st env (a_at p j) y) (same_Some _ _ g) k }

-- What the event of a case counted is small.
pub few_seen : {p : Bytes} {index : List ℕ} (rec st : Bytes) {env : Env} {j : ℕ} {n : Node} → CaseAs p index (length st) env j n
    → {x : Evaluated} → x ≡ eval_s rec st env (signal_at p n.a) → {e : Option ℕ} {u : Tally} → parts_of x ≡ parts e u → u.work < 4294967296
few_seen {p} rec st {env} {n = n} r q d =
    omega (arith, take_work _ d, ap work_of q, work_within _ (eval_s_within rec st env (signal_at p n.a)), seen_small (case_part r).ready)

-- An event of a low kind that is evaluated counts a rule at least.
rule_counts : (x : Evaluated) {m : Parts} → parts_of (rule x) ≡ Some m → 0 < m.count.work
unfolding rule after one_rule ◌plus◌ parts_of
rule_counts (Done v w) e = omega (arith, take_work (rule (Done v w)) e)
rule_counts Stuck e = cc

pub low_counts : {p : Bytes} {i : ℕ} (rec st : Bytes) (env : Env) → NodeOf is_signal p i → kind_at p i ≤ 3 → {x : Evaluated} → x ≡ eval_s rec st env (signal_at p i)
    → {m : Parts} → parts_of x ≡ Some m → 0 < m.count.work
low_counts {p} {i} rec st env w l {x} q {m} e = go (eqb (kind_at p i) 1) (eqb (kind_at p i) 3) refl refl
  where
    counts : (y : Evaluated) → eval_s rec st env (signal_at p i) ≡ rule y → 0 < m.count.work
    counts y h = rule_counts y (sym (ap parts_of (q ∙ h)) ∙ e)

    go : (a b : Bool) → eqb (kind_at p i) 1 ≡ a → eqb (kind_at p i) 3 ≡ b → 0 < m.count.work
    go true b f g = counts _ (input_eval p i w rec st env (eqb-true _ _ f))
    go false true f g = counts _ (ext_eval p i w rec st env (eqb-true _ _ g))
    go false false f g = counts _ (time_eval p i w rec st env (time_alone p i w refl l (eqb-false _ _ f) (eqb-false _ _ g)))

-- What an event counted is read back from its number.
pub seen_back : (w : Tally) → w.work < 65536 → (seen_in (seen_of w) ≡ w) × (seen_of w % 4294967296 < 65536) × (seen_of w < 8589934592)
unfolding seen_in seen_of
seen_back w h = go w.wrapped refl
  where
    go : (b : Bool) → w.wrapped ≡ b
        → (◌≡◌ {A = Tally} (record { work = (w.work + (if b then 4294967296 else 0)) % 4294967296; wrapped = leb 4294967296 (w.work + (if b then 4294967296 else 0)) }) w)
        × ((w.work + (if b then 4294967296 else 0)) % 4294967296 < 65536) × (w.work + (if b then 4294967296 else 0) < 8589934592)
    go true e = (same_tally (omega arith) (le-leb 4294967296 (w.work + 4294967296) (omega arith) ∙ sym e), omega arith, omega arith)
    go false e = (same_tally (omega arith) (lt-leb 4294967296 (w.work + 0) (omega arith) ∙ sym e), omega arith, omega arith)

-- What a count u of case j tells: it is small, and where it is above 0 a case follows and the event, of a low kind, is absent.
pub record IsQuiet (p rec st : Bytes) (env : Env) (j u : ℕ) : Type 0 where
  pub small : u % 4294967296 < 65536
  pub once : u < 8589934592
  pub follows : 0 < u → b_at p j ≡ no_next → ⊥
  pub idle : 0 < u → kind_at p (a_at p j) ≤ 3
  pub absent : 0 < u → parts_of (eval_s rec st env (signal_at p (a_at p j))) ≡ parts None (seen_in u)

none_quiet : {p rec st : Bytes} {env : Env} {j u : ℕ} → u ≡ 0 → IsQuiet p rec st env j u
none_quiet {u = u} e =
    record {
      small = omega (arith, e);
      once = omega (arith, e);
      follows = λ h. absurd (none h);
      idle = λ h. absurd (none h);
      absent = λ h. absurd (none h);
    }
  where
    none : 0 < u → ⊥
    none h = omega (arith, h, e)

module _ {p : Bytes} {index : List ℕ} (rec st : Bytes) {env : Env} {j : ℕ} {n : Node} (r : CaseAs p index (length st) env j n) where
  by_parts : (b_at p j ≡ no_next → ⊥) → kind_at p (a_at p j) ≤ 3 → {u : ℕ} (a : Option Parts) → parts_of (eval_s rec st env (signal_at p (a_at p j))) ≡ a
      → u ≡ absent_work a → IsQuiet p rec st env j u
  unfolding absent_work absent_count
  by_parts d l {u} (Some m) e f = go m.event refl f
    where
      go : (o : Option ℕ) → m.event ≡ o → u ≡ absent_count o m.count → IsQuiet p rec st env j u
      go (Some v) g h = none_quiet h
      go None g h =
          let w = m.count in
          let s : parts_of (eval_s rec st env (signal_at p n.a)) ≡ parts None w = rw r.fields.a_is (parts_with e g) in
          let few : w.work < 65536 = omega (arith, take_work _ s, work_within _ (eval_s_within rec st env (signal_at p n.a)), seen_small (case_part r).ready) in
          let back = seen_back w few in
          record {
            small = omega (arith, h, back.1);
            once = omega (arith, h, back.2);
            follows = λ _. d;
            idle = λ _. l;
            absent = λ _. rw (h, back.0) (parts_with e g);
          }
  by_parts d l None e f = none_quiet f

  by_tests : (b k : Bool) → eqb (b_at p j) no_next ≡ b → ltb 3 (kind_at p (a_at p j)) ≡ k → IsQuiet p rec st env j (quiet_work p rec st env j)
  by_tests true k e f = none_quiet (work_last p rec st env j (eqb-true _ _ e))
  by_tests false true e f = none_quiet (work_high p rec st env j (eqb-false _ _ e) (ltb-true _ _ f))
  by_tests false false e f =
      let d = eqb-false _ _ e in
      let l = ltb-false _ _ f in
      by_parts d l (parts_of (eval_s rec st env (signal_at p (a_at p j)))) refl (work_low p rec st env j d l)

  pub quiet_tells : {u : ℕ} → u ≡ quiet_work p rec st env j → IsQuiet p rec st env j u
  quiet_tells e = subst (IsQuiet p rec st env j) (sym e) (by_tests _ _ refl refl)
