-- A new node's entry, as the code tries it; and where an old node's children stand.
-- Assumes nothing.
use Rattle.std.specs.Prelude.{Option, Some, None, is_some}
use mathlib.Core.Path.{◌≡◌, refl, sym, ap, ◌∙◌, subst}
use mathlib.Core.List.{List, [], ◌∷◌}
use mathlib.Core.Bool.{Bool, true, false, not}
use Prim.Native.Nat.{ℕ, zero, suc, ◌+◌, ◌-◌, ◌<◌, ◌≤◌}
use native.Mathlib.Nat.{not-suc-le-zero}
use native.Mathlib.Omega.{arith}
use lib.Dec.{eqb}
use lib.ListN.{length, get_or}
use borrow.Author.Tests.{eq-eqb, ne_eqb, lt-ltb, le-ltb}
use Rattle.rules.specs.Bytes.{Bytes, ◌and◌, ◌or◌}
use Rattle.rules.specs.Layout.{blocks, records, nodes, kind_at}
use Rattle.rules.specs.Kinds.{fields_of}
use Rattle.rules.specs.Node.{IsNode}
use Rattle.rules.specs.Shape.{is_child, may_stop}
use Rattle.rules.specs.Shaped.{Shaped}
use Rattle.rules.specs.Accepted.{Accepted}
use Rattle.rules.specs.declared.Field.{Field}
use Rattle.rules.specs.declared.Field.TheVariants.{Unused, Channel, PresentByte, Signal, Expression, FirstBranch, NextBranch, FirstCase, NextCase, Binder, Target}
use Rattle.rules.specs.declared.Fields.{Fields}
use Rattle.rules.specs.declared.Node.{Node}
use Rattle.rules.proofs.Static.{not_both}
use Rattle.rules.proofs.Kids.{Kid, kids}
use Rattle.rules.proofs.Rooted.{some_node, shaped_of}
use Rattle.dropped.specs.Pairing.{Pairing, old_of, reaches, entry_wrong}
use Rattle.dropped.specs.Clauses.{unless, earlier, field_broken, fields_broken, node_broken, entry_broken, number_in}
use Rattle.dropped.specs.declared.Clause.{Clause}
use Rattle.dropped.specs.declared.Clause.TheVariants.{OldNode, PlainFields, Next, ChildA, ChildB, ChildC, Named, Root}
use Rattle.dropped.proofs.ClauseLaws.{entry_broken_lem}
use Rattle.reaching.specs.Leads.{InField, InFields}
use Rattle.pairing.proofs.AskedLaws.{Alike}

in_field : (p : Bytes) (n : ℕ) (f : Field) (x : ℕ) → Kid f p n x → InField p f x
unfolding is_child may_stop
in_field p n Unused x k = λ c d. absurd (not_both c)
in_field p n Channel x k = λ c d. absurd (not_both c)
in_field p n PresentByte x k = λ c d. absurd (not_both c)
in_field p n Signal x k = λ c d. k.node.inside
in_field p n Expression x k = λ c d. k.node.inside
in_field p n FirstBranch x k = λ c d. k.node.inside
in_field p n NextBranch x k = λ c d. (k (d refl)).node.inside
in_field p n FirstCase x k = λ c d. k.node.inside
in_field p n NextCase x k = λ c d. (k (d refl)).node.inside
in_field p n Binder x k = λ c d. absurd (not_both c)
in_field p n Target x k = λ c d. absurd (not_both c)

-- The children of an old node, of the kind k.
pub in_fields : (p : Bytes) (j k : ℕ) (o : Node) → Shaped p → j < nodes p → IsNode p j o → k ≡ o.kind → InFields p (fields_of k) o.a o.b o.c
in_fields p j k o s h is e =
    let x = kids p j s h (kind_at p j) refl in
    rw (e, is.kind_is, is.a_is, is.b_is, is.c_is) (record { in_a = in_field p j _ _ x.0; in_b = in_field p j _ _ x.1; in_c = in_field p j _ _ x.2 })

-- A child's field, by its variant.
pub in_child : (p : Bytes) {f g : Field} (y : ℕ) → f ≡ g → is_child g ≡ true → may_stop g ≡ false → InField p f y → y < nodes p
in_child p y e c s h = h (ap is_child e ∙ c) (λ t. absurd (not_both (sym s ∙ sym (ap may_stop e) ∙ t)))

pub in_next : (p : Bytes) {f g : Field} (y : ℕ) → f ≡ g → is_child g ≡ true → InField p f y → (y ≡ 65535 → ⊥) → y < nodes p
in_next p y e c h d = h (ap is_child e ∙ c) (λ t. d)

-- The three fields.
pub fields_are : (p : Bytes) (count : ℕ) (π : ℕ → ℕ) (f : Fields) (a b c a' b' c' : ℕ) {r x y z w : ℕ} {fa fb fc : Field} → Alike fa f.a → Alike fb f.b
    → Alike fc f.c → x ≡ field_broken p count π 4 fa a a' → y ≡ field_broken p count π 5 fb b b' → z ≡ field_broken p count π 6 fc c c'
    → w ≡ earlier y z → r ≡ earlier x w → r ≡ fields_broken p count π f a b c a' b' c'
unfolding fields_broken
fields_are p count π f a b c a' b' c' ka kb kc ex ey ez ew er =
    er ∙ rw (ew, ex ∙ ka.broken p count π 4 a a', ey ∙ kb.broken p count π 5 b b', ez ∙ kc.broken p count π 6 c c')

-- The last entry, and any other.
pub last_is : (i count : ℕ) {r : ℕ} {v s : Bool} → i + 1 ≡ count → v ≡ s → r ≡ unless v 8 → r ≡ unless (not (eqb (suc i) count) or s) 8
unfolding ◌or◌
last_is i count e h f = let z : suc i ≡ count = omega (arith, e) in f ∙ rw (eq-eqb (suc i) count z, h)

pub last_not : (i count : ℕ) (s : Bool) → (i + 1 ≡ count → ⊥) → 0 ≡ unless (not (eqb (suc i) count) or s) 8
unfolding ◌or◌ unless
last_not i count s d = let z : suc i ≡ count → ⊥ = λ e. d (omega (arith, e)) in simp (ne_eqb (suc i) count z)

-- A node by its number.
pub node_by : {p : Bytes} {j k : ℕ} {o : Node} → j ≡ k → IsNode p j o → IsNode p k o
node_by {p} {o} e h = subst (λ (m : ℕ). IsNode p m o) e h

module _ (p q : Bytes) (π : ℕ → ℕ) (i : ℕ) where
  -- No old node.
  pub entry_far : nodes p ≤ π i → 1 ≡ entry_broken p q π i
  unfolding entry_broken
  entry_far h = simp (le-ltb (π i) (nodes p) h)

  -- Another kind.
  pub entry_other : π i < nodes p → (kind_at q i ≡ kind_at p (π i) → ⊥) → 2 ≡ entry_broken p q π i
  unfolding entry_broken
  entry_other h d = simp (lt-ltb (π i) (nodes p) h, ne_eqb (kind_at q i) (kind_at p (π i)) d)

  -- The same kind.
  together : (n o : Node) → π i < nodes p → IsNode q i n → IsNode p (π i) o → n.kind ≡ o.kind
      → earlier (unless (eqb n.ty o.ty and eqb n.word o.word) 2)
      (earlier (fields_broken p (nodes q) π (fields_of n.kind) n.a n.b n.c o.a o.b o.c)
      (unless (not (eqb (suc i) (nodes q)) or reaches p (nodes p - 1) (π i)) 8))
      ≡ entry_broken p q π i
  unfolding entry_broken node_broken
  together n o h is os e =
      let k : kind_at q i ≡ kind_at p (π i) = sym is.kind_is ∙ e ∙ os.kind_is in
      rw (is.kind_is, is.type_is, is.word_is, is.a_is, is.b_is, is.c_is, os.type_is, os.word_is, os.a_is, os.b_is, os.c_is, lt-ltb (π i) (nodes p) h, eq-eqb _ _ k)

  pub entry_same : (n o : Node) (count olds j : ℕ) {r x a f l : ℕ} {t : Bool} → count ≡ nodes q → olds ≡ nodes p → j ≡ π i → j < olds
      → IsNode q i n → IsNode p j o → n.kind ≡ o.kind
      → t ≡ (eqb n.ty o.ty and eqb n.word o.word) → a ≡ unless t 2
      → f ≡ fields_broken p count π (fields_of n.kind) n.a n.b n.c o.a o.b o.c
      → l ≡ unless (not (eqb (suc i) count) or reaches p (olds - 1) j) 8
      → x ≡ earlier f l → r ≡ earlier a x
      → r ≡ entry_broken p q π i
  entry_same n o count olds j ec eo ej h is os e et ea ef el ex er =
      er ∙ rw (ex, ea, et, ef, el, ec, eo, ej) (together n o (omega (arith, h, eo, ej)) is (node_by ej os) e)

-- Some clause has a number that is not 0.
pub some_number : (o : Option Clause) → is_some o ≡ true → number_in o ≡ 0 → ⊥
some_number None s e = absurd (not_both s)
some_number (Some OldNode) s e = cc
some_number (Some PlainFields) s e = cc
some_number (Some Next) s e = cc
some_number (Some ChildA) s e = cc
some_number (Some ChildB) s e = cc
some_number (Some ChildC) s e = cc
some_number (Some Named) s e = cc
some_number (Some Root) s e = cc

pub no_number : (o : Option Clause) → is_some o ≡ false → number_in o ≡ 0
no_number None s = refl
no_number (Some clause) s = absurd (not_both (sym s))

-- An entry that breaks a clause is wrong, and one that breaks none is not.
pub wrong_when : (p q : Bytes) (l : Pairing) (i : ℕ) {r : ℕ} → r ≡ entry_broken p q (old_of l) i → (r ≡ 0 → ⊥) → entry_wrong p q l i ≡ true
unfolding entry_wrong
wrong_when p q l i e d = ap not (sym (entry_broken_lem p q (old_of l) i) ∙ ne_eqb _ 0 (λ z. d (e ∙ z)))

pub right_when : (p q : Bytes) (l : Pairing) (i : ℕ) {r : ℕ} → r ≡ entry_broken p q (old_of l) i → r ≡ 0 → entry_wrong p q l i ≡ false
unfolding entry_wrong
right_when p q l i e z = ap not (sym (entry_broken_lem p q (old_of l) i) ∙ eq-eqb _ 0 (sym e ∙ z))

-- An accepted program has byte 3.
pub four_bytes : (p : Bytes) → Accepted p → 4 ≤ length p
unfolding blocks records
four_bytes p a = let s = shaped_of p a in let n = some_node p a.formed in omega (arith, s.within)
