-- A field, what stands behind a form, and a node, as the scratch holds them.
-- Assumes nothing.
use mathlib.Core.Path.{◌≡◌, refl, sym, ap, subst, ◌∙◌}
use mathlib.Core.Bool.{true, false}
use mathlib.Core.List.{List, [], ◌∷◌}
use Prim.Native.Nat.{ℕ, zero, suc, ◌+◌, ◌-◌, ◌<◌}
use native.Mathlib.Omega.{arith}
use lib.Dec.{T, ltb}
use lib.ListN.{length, get_or, set}
use lib.Seq.{get_or-set_same, get_or-set_other}
use borrow.Author.Tests.{lt-ltb}
use Rattle.rules.specs.Bytes.{Bytes}
use Rattle.rules.specs.declared.Field.{Field}
use Rattle.rules.specs.declared.Field.TheVariants.{Unused, Channel, PresentByte, Signal, Expression, FirstBranch, NextBranch, FirstCase, NextCase, Binder, Target}
use Rattle.texts.specs.Tokens.{Token, from}
use Rattle.texts.specs.Rows.{Sofar, Got, got, stopped, ◌onward◌}
use Rattle.texts.specs.Steps as S
use Rattle.texts.specs.Reader as R
use Rattle.texts.specs.Reader.{Held, Nodes, plainly}
use Rattle.texts.specs.declared.Unread.{Unread}
use Rattle.phrases.specs.Gave.{number, gave, with_names}
use Rattle.std.specs.Prelude.{Result}
use Rattle.phrases.specs.declared.Read.{Read}
use Rattle.reader.specs.Held.{Ready, Grew, BelowKinds, gave_in, held_as, sofar_in, past_in, rows_in, places_in, is_inside, is_behind, ends_list, stop_put, step_put, flag, begun_in, entry₀, entered_as}
use Rattle.reader.specs.declared.Entered.{Entered}
use Rattle.reader.proofs.SofarLaws.{rows_same, places_same, note_sofar}
use Rattle.reader.proofs.StepIn.{stop_why, stop_same, stepped_in, stepped_same}
use Rattle.reader.proofs.GrewLaws.{begun_one, begun_at, grew_same}

-- A field inside the parentheses.
inside_held : (text : Bytes) (f : Field) (x at : ℕ) → is_inside f ≡ true → held_as text f x at ≡ record { number = x; name = [] }
unfolding is_inside held_as
inside_held text Unused x at e = refl
inside_held text Channel x at e = refl
inside_held text PresentByte x at e = refl
inside_held text Signal x at e = refl
inside_held text Expression x at e = refl
inside_held text FirstBranch x at e = refl
inside_held text NextBranch x at e = refl
inside_held text FirstCase x at e = refl
inside_held text NextCase x at e = refl
inside_held text Binder x at e = refl
inside_held text Target x at e = absurd (subst T (sym e) tt)

inside_field : (node : Nodes) (bs : List Bytes) (f : Field) (p finish : ℕ) (ts : List Token) (so : Sofar) → is_inside f ≡ true
    → R.field node bs f p finish ts so ≡ plainly (node f ts so)
unfolding is_inside R.field
inside_field node bs Unused p finish ts so e = absurd (subst T (sym e) tt)
inside_field node bs Channel p finish ts so e = absurd (subst T (sym e) tt)
inside_field node bs PresentByte p finish ts so e = absurd (subst T (sym e) tt)
inside_field node bs Signal p finish ts so e = refl
inside_field node bs Expression p finish ts so e = refl
inside_field node bs FirstBranch p finish ts so e = refl
inside_field node bs NextBranch p finish ts so e = absurd (subst T (sym e) tt)
inside_field node bs FirstCase p finish ts so e = refl
inside_field node bs NextCase p finish ts so e = absurd (subst T (sym e) tt)
inside_field node bs Binder p finish ts so e = absurd (subst T (sym e) tt)
inside_field node bs Target p finish ts so e = absurd (subst T (sym e) tt)

gave_plainly : (text : Bytes) (f : Field) (xs names : List ℕ) (r : ℕ) → is_inside f ≡ true → gave_in (held_as text f) text xs names r ≡ plainly (gave_in number text xs names r)
unfolding gave_in plainly ◌onward◌
gave_plainly text f xs names zero e = refl
gave_plainly text f xs names (suc r) e =
    ap (λ (x : Held). got x (from text (get_or xs 2 0)) (sofar_in text xs names)) (inside_held text f (get_or xs 3 0) (get_or xs 2 0) e)

pub field_inside : (text : Bytes) (node : Nodes) (bs : List Bytes) (f : Field) (p finish : ℕ) (ts : List Token) (so : Sofar) (xs names : List ℕ) (r : ℕ) → is_inside f ≡ true
    → gave_in number text xs names r ≡ node f ts so → gave_in (held_as text f) text xs names r ≡ R.field node bs f p finish ts so
field_inside text node bs f p finish ts so xs names r i e =
    gave_plainly text f xs names r i ∙ ap plainly e ∙ sym (inside_field node bs f p finish ts so i)

-- Behind a form.
behind_still : (node : Nodes) (f : Field) (x : ℕ) (ts : List Token) (so : Sofar) → is_behind f ≡ false → R.behind node f x ts so ≡ got x ts so
unfolding is_behind R.behind
behind_still node Unused x ts so e = refl
behind_still node Channel x ts so e = refl
behind_still node PresentByte x ts so e = refl
behind_still node Signal x ts so e = refl
behind_still node Expression x ts so e = refl
behind_still node FirstBranch x ts so e = refl
behind_still node NextBranch x ts so e = absurd (subst T e tt)
behind_still node FirstCase x ts so e = refl
behind_still node NextCase x ts so e = absurd (subst T e tt)
behind_still node Binder x ts so e = refl
behind_still node Target x ts so e = refl

behind_follows : (node : Nodes) (f : Field) (x : ℕ) (ts : List Token) (so : Sofar) → is_behind f ≡ true → R.behind node f x ts so ≡ R.following node f ts so
unfolding is_behind R.behind
behind_follows node Unused x ts so e = absurd (subst T (sym e) tt)
behind_follows node Channel x ts so e = absurd (subst T (sym e) tt)
behind_follows node PresentByte x ts so e = absurd (subst T (sym e) tt)
behind_follows node Signal x ts so e = absurd (subst T (sym e) tt)
behind_follows node Expression x ts so e = absurd (subst T (sym e) tt)
behind_follows node FirstBranch x ts so e = absurd (subst T (sym e) tt)
behind_follows node NextBranch x ts so e = refl
behind_follows node FirstCase x ts so e = absurd (subst T (sym e) tt)
behind_follows node NextCase x ts so e = refl
behind_follows node Binder x ts so e = absurd (subst T (sym e) tt)
behind_follows node Target x ts so e = absurd (subst T (sym e) tt)

list_ends : (node : Nodes) (f : Field) (ts : List Token) (so : Sofar) → ends_list ts ≡ true → R.following node f ts so ≡ got 65535 ts so
unfolding ends_list R.following
list_ends node f [] so e = absurd (subst T (sym e) tt)
list_ends node f (t ∷ ts) so e = rw (e, R.following) refl

list_on : (node : Nodes) (f : Field) (ts : List Token) (so : Sofar) → ends_list ts ≡ false → R.following node f ts so ≡ node f ts so
unfolding ends_list R.following
list_on node f [] so e = refl
list_on node f (t ∷ ts) so e = rw (e, R.following) refl

module _ (text : Bytes) (node : Nodes) (f : Field) (xs names : List ℕ) where
  abbrev next₀ : Got ℕ
  next₀ = R.behind node f (get_or xs 3 0) (from text (get_or xs 2 0)) (sofar_in text xs names)

  pub next_none : is_behind f ≡ false → gave_in number text xs names 1 ≡ next₀
  unfolding gave_in
  next_none e = sym (behind_still node f (get_or xs 3 0) (from text (get_or xs 2 0)) (sofar_in text xs names) e)

  pub next_ends : Ready xs names → is_behind f ≡ true → ends_list (from text (get_or xs 2 0)) ≡ true → gave_in number text (set xs 3 65535) names 1 ≡ next₀
  unfolding gave_in
  next_ends r e g =
      let a = get_or-set_same xs 3 65535 0 (omega (arith, r.long)) in
      let b = get_or-set_other xs 3 2 65535 0 (λ e. absurd (omega (arith, e))) in
      let c = note_sofar xs 3 65535 (omega arith) (omega arith) text names in
      (λ i. got (a i) (from text (b i)) (c i))
      ∙ sym (behind_follows node f (get_or xs 3 0) (from text (get_or xs 2 0)) (sofar_in text xs names) e ∙ list_ends node f (from text (get_or xs 2 0)) (sofar_in text xs names) g)

  pub next_node : Ready xs names → (ys ns : List ℕ) (r : ℕ) → is_behind f ≡ true → ends_list (from text (get_or xs 2 0)) ≡ false
      → gave_in number text ys ns r ≡ node f (from text (get_or xs 2 0)) (sofar_in text xs names) → gave_in number text ys ns r ≡ next₀
  next_node ready ys ns r e g h =
      h ∙ sym (behind_follows node f (get_or xs 3 0) (from text (get_or xs 2 0)) (sofar_in text xs names) e ∙ list_on node f (from text (get_or xs 2 0)) (sofar_in text xs names) g)

-- A node.
module _ (text : Bytes) (bs : List Bytes) (f : Field) (xs names : List ℕ) where
  abbrev node₀ : ℕ → Got ℕ
  node₀ g = R.node_f g bs (length text) f (from text (get_or xs 2 0)) (sofar_in text xs names)

  pub no_level : (g p : ℕ) → length xs ≡ 13118 → g ≡ 0 → p ≡ S.position (length text) (from text (get_or xs 2 0)) → gave_in number text (stop_put xs (Unread.Word p)) names 0 ≡ node₀ g
  unfolding gave_in R.node_f
  no_level zero p l z e = ap stopped (stop_why xs l (Unread.Word p) ∙ ap Unread.Word e)
  no_level (suc g) p l z e = absurd (omega (arith, z))

  pub no_node : (g p : ℕ) → length xs ≡ 13118 → (g ≡ 0 → ⊥) → ltb (get_or xs 0 0) 1008 ≡ false → p ≡ S.position (length text) (from text (get_or xs 2 0)) → gave_in number text (stop_put xs (Unread.Word p)) names 0 ≡ node₀ g
  unfolding gave_in R.node_f R.begins ◌onward◌ sofar_in past_in with_names
  no_node zero p l z t e = absurd (z refl)
  no_node (suc g) p l z t e = ap stopped (stop_why xs l (Unread.Word p) ∙ ap Unread.Word e) ∙ rw (t, R.begins) refl

  module _ (r : Ready xs names) (l : get_or xs 0 0 < 1008) where
    begun_past : past_in text (begun_in xs) ≡ record { begun = suc (get_or xs 0 0); rows = rows_in text xs (get_or xs 1 0); places = places_in xs (get_or xs 1 0) }
    unfolding past_in
    begun_past =
        let one : get_or xs 0 0 + 1 ≡ suc (get_or xs 0 0) = omega arith in
        let count = begun_at xs names r l 1 (omega arith) in
        λ i. record {
          begun = (begun_one xs names r l ∙ one) i;
          rows = (ap (rows_in text (begun_in xs)) count ∙ rows_same text (begun_in xs) xs (get_or xs 1 0) (λ j m n. begun_at xs names r l j (omega (arith, m)))) i;
          places = (ap (places_in (begun_in xs)) count ∙ places_same (begun_in xs) xs (get_or xs 1 0) (λ j m n. begun_at xs names r l j (omega (arith, m)))) i;
        }

    pub node_begins : (g : ℕ) → (g ≡ 0 → ⊥)
        → node₀ g ≡ entry₀ (R.node_f (g - 1) bs (length text)) bs (length text) f (from text (get_or (begun_in xs) 2 0)) (sofar_in text (begun_in xs) names)
    unfolding R.node_f R.begins ◌onward◌ sofar_in with_names past_in entry₀
    node_begins zero z = absurd (z refl)
    node_begins (suc g) z =
        let at = sym (begun_at xs names r l 2 (omega arith)) in
        let past = sym begun_past in
        let less : g ≡ suc g - 1 = omega arith in
        rw (lt-ltb (get_or xs 0 0) 1008 l, R.begins)
        (λ i. entry₀ (R.node_f (less i) bs (length text)) bs (length text) f (from text (at i)) (with_names (past i) text names))

-- What a node gives, entered.
module _ (node : Nodes) (bs : List Bytes) (text : Bytes) (xs names : List ℕ) (r : Entered) (g : Got ℕ) (e : entered_as node bs text xs names r ≡ g) where
  pub entered_form : (k : ℕ) → r ≡ Entered.Form k → R.form node bs (length text) (get_or xs 6 0) k (from text (get_or xs 2 0)) (sofar_in text xs names) ≡ g
  unfolding entered_as
  entered_form k q = ap (entered_as node bs text xs names) (sym q) ∙ e

  pub entered_done : (n : ℕ) → r ≡ Entered.Done n → gave_in number text xs names n ≡ g
  unfolding entered_as
  entered_done n q = ap (entered_as node bs text xs names) (sym q) ∙ e

pub below_kinds : (xs ys : List ℕ) (r : Entered) (k : ℕ) → r ≡ Entered.Form k → BelowKinds xs ys r → (k < 30) × (get_or ys 1 0 ≡ get_or xs 1 0)
below_kinds xs ys r k e b =
    let f : BelowKinds xs ys (Entered.Form k) = subst (BelowKinds xs ys) e b in
    (f.0, f.1.rows)

-- A step that is put gives what it gave; a stop, that it is none.
pub step_held : (text : Bytes) (node : Nodes) (bs : List Bytes) (f : Field) (p : ℕ) (xs ys names : List ℕ) (s : Result (Read ℕ) Unread) (r : ℕ) → length xs ≡ 13118
    → ((m : Nodes) (so : Sofar) → gave (held_as text f) text so s ≡ R.field m bs f p (length text) (from text (get_or xs 2 0)) so)
    → r ≡ flag s → ys ≡ step_put xs s
    → gave_in (held_as text f) text ys names r ≡ R.field node bs f p (length text) (from text (get_or xs 2 0)) (sofar_in text xs names)
step_held text node bs f p xs ys names s r l g e q =
    stepped_in xs l (held_as text f) text names s ys r q e ∙ g node (sofar_in text xs names)

pub grew_step : (xs ys names : List ℕ) (s : Result (Read ℕ) Unread) → Ready xs names → ys ≡ step_put xs s → Grew xs names ys names
grew_step xs ys names s r e = grew_same xs ys names r (stepped_same xs r.long s ys e)

pub grew_stop : (xs ys names : List ℕ) (why : Unread) → Ready xs names → ys ≡ stop_put xs why → Grew xs names ys names
grew_stop xs ys names why r e = subst (λ zs. Grew xs names zs names) (sym e) (grew_same xs (stop_put xs why) names r (stop_same xs r.long why))

pub stop_as : (text : Bytes) (xs ys names : List ℕ) (why : Unread) (r : ℕ) (g : Got ℕ) → r ≡ 0 → ys ≡ stop_put xs why → gave_in number text (stop_put xs why) names 0 ≡ g
    → gave_in number text ys names r ≡ g
stop_as text xs ys names why r g z e q = (λ i. gave_in number text (e i) names (z i)) ∙ q

-- Where no node may begin, the scratch is as it was.
pub begun_none : (xs ys : List ℕ) → ltb (get_or xs 0 0) 1008 ≡ false → ys ≡ begun_in xs → ys ≡ xs
unfolding begun_in
begun_none xs ys t e = e ∙ rw (t) refl
