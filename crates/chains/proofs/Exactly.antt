-- For each let a chain exists exactly when it is not ready; the function's is the first; and code 8 names such a let.
-- Assumes nothing.
use Rattle.std.specs.Prelude.{Some}
use mathlib.Core.Path.{◌≡◌, refl, sym, ap, subst, ◌∙◌}
use mathlib.Core.Bool.{Bool, true, false}
use mathlib.Core.List.{List, [], ◌∷◌}
use Prim.Native.Nat.{ℕ, ◌-◌, ◌≤◌, ◌<◌}
use native.Mathlib.Omega.{arith}
use lib.ListN.{length}
use Rattle.rules.specs.Bytes.{Bytes, ◌and◌}
use Rattle.rules.specs.Layout.{nodes, kind_at, a_at}
use Rattle.rules.specs.Kinds.{is_signal}
use Rattle.rules.specs.Shaped.{Shaped, NodeOf}
use Rattle.rules.specs.Tree.{signal_at, root}
use Rattle.rules.specs.Ready.{needs_s, ready_fault}
use Rattle.rules.proofs.Static.{not_both}
use Rattle.rules.proofs.Kids.{Child}
use Rattle.rules.proofs.Signals.{let_kids}
use Rattle.chains.specs.Chain.{Which, chain, chain_of}
use Rattle.chains.specs.Leads.{Leads, FirstChain}
use Rattle.chains.specs.Explains.{IsLet, NotReady, HasChain, ExactlyNotReady}
use Rattle.chains.proofs.Firsts.{Best, Right, right, falls, best_one}
use Rattle.chains.proofs.Needed.{some, chain_needs}
use Rattle.chains.proofs.Named.{Unready, place_unready}

-- A definition's chain.
module _ (p : Bytes) (x : ℕ) (w : NodeOf is_signal p (a_at p x)) where
  best_first : (ns : List ℕ) → Best p x (a_at p x) ns → FirstChain p x (a_at p x) ns
  best_first ns b = record {
    fields = b.fields;
    leads = b.leads;
    first = b.first;
    short = omega (arith, falls p x (a_at p x) ns b.fields b.leads, w.inside, w.shaped.small);
  }

  first_best : (ns : List ℕ) → FirstChain p x (a_at p x) ns → Best p x (a_at p x) ns
  first_best ns f = record { fields = f.fields; leads = f.leads; first = f.first }

  has_chain : NotReady p x → HasChain p x
  unfolding chain_of
  has_chain e = go (chain p x (a_at p x)) refl (chain_needs p x (a_at p x) w ∙ e) (right p x (a_at p x))
    where
      go : (c : List ℕ) → chain p x (a_at p x) ≡ c → some (chain p x (a_at p x)) ≡ true → Right p x (a_at p x) (chain p x (a_at p x)) → HasChain p x
      go [] q s r = absurd (not_both (sym (ap some q) ∙ s))
      go (m ∷ ns) q s r =
          let h = subst (Right p x (a_at p x)) q r in
          record { rest = ns; is = q ∙ ap (λ (k : ℕ). k ∷ ns) h.0; first = best_first ns h.1 }

  only_chain : (ns : List ℕ) (fs : List Which) → Leads p x (a_at p x) ns fs → NotReady p x
  only_chain ns fs l = sym (chain_needs p x (a_at p x) w) ∙ go (chain p x (a_at p x)) (right p x (a_at p x))
    where
      go : (c : List ℕ) → Right p x (a_at p x) c → some c ≡ true
      go [] r = absurd (r ns fs l)
      go (m ∷ ms) r = refl

  pub exactly_at : ExactlyNotReady p x
  exactly_at = record {
    has = has_chain;
    only = only_chain;
    one = λ ns ms f g. best_one p x (a_at p x) ns ms (first_best ns f) (first_best ms g);
  }

-- A let's definition is a signal.
definition : (p : Bytes) (x : ℕ) → Shaped p → IsLet p x → NodeOf is_signal p (a_at p x)
unfolding is_signal ◌and◌
definition p x s l = (let_kids p x (record { shaped = s; inside = l.inside; sorted = ap is_signal l.kind }) l.kind).0.node

-- For each let of a shaped program.
pub exactly_not_ready : (p : Bytes) (x : ℕ) → Shaped p → IsLet p x → ExactlyNotReady p x
exactly_not_ready p x s l = exactly_at p x (definition p x s l)

-- The let that code 8 names: it is one, it is not ready, and so it has a chain.
pub record Named (p : Bytes) (n : ℕ) : Type 0 where
  pub is_let : IsLet p n
  pub not_ready : NotReady p n
  pub explained : HasChain p n

pub named_let : (p : Bytes) (n : ℕ) → NodeOf is_signal p (nodes p - 1) → ready_fault p ≡ Some n → Named p n
unfolding ready_fault root
named_let p n w e =
    let u : Unready p n = place_unready p (nodes p - 1) n w e in
    let l : IsLet p n = record { inside = u.node.inside; kind = u.kind } in
    record { is_let = l; not_ready = u.needed; explained = (exactly_not_ready p n w.shaped l).has u.needed }
