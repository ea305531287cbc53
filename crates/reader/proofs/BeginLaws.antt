-- A node that begins: what it is entered with, and what it gives.
-- Assumes nothing.
use mathlib.Core.Path.{◌≡◌, sym, ap, subst, ◌∙◌}
use mathlib.Core.Bool.{false}
use mathlib.Core.List.{List}
use Prim.Native.Nat.{ℕ, ◌+◌, ◌-◌, ◌≤◌, ◌<◌}
use native.Mathlib.Omega.{arith}
use lib.Dec.{ltb}
use lib.ListN.{length, get_or}
use Rattle.rules.specs.Bytes.{Bytes}
use Rattle.rules.specs.declared.Field.{Field}
use Rattle.texts.specs.Tokens.{from}
use Rattle.texts.specs.Rows.{Got}
use Rattle.texts.specs.Steps as S
use Rattle.texts.specs.Reader as R
use Rattle.texts.specs.Reader.{Nodes}
use Rattle.texts.specs.declared.Unread.{Unread}
use Rattle.phrases.specs.Gave.{number}
use Rattle.reader.specs.Held.{Ready, Grew, Ended, gave_in, sofar_in, names_put, stop_put, begun_in, entry₀, entered_as}
use Rattle.reader.specs.declared.Entered.{Entered}
use Rattle.reader.proofs.RowLaws.{names_count, names_length}
use Rattle.reader.proofs.GrewLaws.{begun_room, begun_names, entered_ready, entered_room, entered_grew, ended_grew}
use Rattle.reader.proofs.NodeLaws.{no_node, node_begins, begun_none, grew_stop, stop_as, entered_form, entered_done}

-- The names of a row leave its room.
pub put_room : (xs ys : List ℕ) (p q r s : ℕ) → ys ≡ names_put xs p q r s → (length xs ≡ 13118) × (get_or xs 1 0 < 1008) → (length ys ≡ 13118) × (get_or ys 1 0 < 1008)
put_room xs ys p q r s e l =
    (ap length e ∙ names_length xs p q r s ∙ l.0, omega (arith, ap (λ (zs : List ℕ). get_or zs 1 0) e, names_count xs p q r s, l.1))

-- No node may begin.
pub none_begun : (text : Bytes) (bs : List Bytes) (f : Field) (xs names ys zs : List ℕ) (g p o : ℕ) → Ready xs names → (g ≡ 0 → ⊥) → ltb (get_or xs 0 0) 1008 ≡ false → ys ≡ begun_in xs
    → p ≡ S.position (length text) (from text (get_or ys 2 0)) → o ≡ 0 → zs ≡ stop_put ys (Unread.Word p)
    → (gave_in number text zs names o ≡ R.node_f g bs (length text) f (from text (get_or xs 2 0)) (sofar_in text xs names)) × Grew xs names zs names
none_begun text bs f xs names ys zs g p o r z t e q y w =
    let same = begun_none xs ys t e in
    let w' : zs ≡ stop_put xs (Unread.Word p) = w ∙ ap (λ (l : List ℕ). stop_put l (Unread.Word p)) same in
    let q' : p ≡ S.position (length text) (from text (get_or xs 2 0)) = q ∙ ap (λ (l : List ℕ). S.position (length text) (from text (get_or l 2 0))) same in
    (stop_as text xs zs names (Unread.Word p) o _ y w' (no_node text bs f xs names g p r.long z t q'), grew_stop xs zs names (Unread.Word p) r w')

module _ (xs ys names : List ℕ) (r : Ready xs names) (l : get_or xs 0 0 < 1008) (e : ys ≡ begun_in xs) where
  pub enter_room : ((length ys ≡ 13118) × (get_or ys 1 0 < 1008)) × ((get_or names 0 0 ≤ 1008) × (length names ≡ 4034))
  enter_room = (subst (λ zs. (length zs ≡ 13118) × (get_or zs 1 0 < 1008)) (sym e) (begun_room xs names r l), begun_names xs names r l)

  as_begun : (zs : List ℕ) → Ended ys zs → Ended (begun_in xs) zs
  as_begun zs = subst (λ ws. Ended ws zs) e

  still : (zs : List ℕ) → get_or zs 1 0 ≡ get_or ys 1 0 → get_or zs 1 0 ≡ get_or (begun_in xs) 1 0
  still zs q = q ∙ ap (λ (ws : List ℕ). get_or ws 1 0) e

pub form_entered : (xs ys zs names : List ℕ) (r : Ready xs names) (l : get_or xs 0 0 < 1008) (e : ys ≡ begun_in xs) → Ended ys zs → (k : ℕ) → (k < 30) × (get_or zs 1 0 ≡ get_or ys 1 0)
    → Ready zs names × ((k < 30) × ((get_or zs 1 0 < get_or zs 0 0) × (get_or names 0 0 < get_or zs 0 0) × (get_or names 2017 0 < get_or zs 0 0)))
form_entered xs ys zs names r l e d k b =
    let d' = as_begun xs ys names r l e zs d in
    let s' = still xs ys names r l e zs b.1 in
    (entered_ready xs names r l zs d' s', (b.0, entered_room xs names r l zs d' s'))

module _ (text : Bytes) (bs : List Bytes) (f : Field) (xs ys zs names : List ℕ) (g : ℕ) (v : Entered) where
  abbrev node₁ : Got ℕ
  node₁ = R.node_f g bs (length text) f (from text (get_or xs 2 0)) (sofar_in text xs names)

  abbrev Told : Type 0
  Told = (node : Nodes) (cs : List Bytes) → entered_as node cs text zs names v ≡ entry₀ node cs (length text) f (from text (get_or ys 2 0)) (sofar_in text ys names)

  begins_as : Ready xs names → get_or xs 0 0 < 1008 → (g ≡ 0 → ⊥) → ys ≡ begun_in xs → Told → entered_as (R.node_f (g - 1) bs (length text)) bs text zs names v ≡ node₁
  begins_as r l z e t =
      t (R.node_f (g - 1) bs (length text)) bs
      ∙ ap (λ (ws : List ℕ). entry₀ (R.node_f (g - 1) bs (length text)) bs (length text) f (from text (get_or ws 2 0)) (sofar_in text ws names)) e
      ∙ sym (node_begins text bs f xs names r l g z)

  -- A form.
  pub node_form : (r : Ready xs names) → get_or xs 0 0 < 1008 → (g ≡ 0 → ⊥) → ys ≡ begun_in xs → Told → Ended ys zs → (k : ℕ) → v ≡ Entered.Form k → get_or zs 1 0 ≡ get_or ys 1 0
      → (ws ns : List ℕ) (o : ℕ)
      → (gave_in number text ws ns o ≡ R.form (R.node_f (g - 1) bs (length text)) bs (length text) (get_or zs 6 0) k (from text (get_or zs 2 0)) (sofar_in text zs names))
      × Ready ws ns × (get_or ws 1 0 + get_or zs 0 0 ≤ get_or zs 1 0 + get_or ws 0 0 + 1) × (get_or zs 0 0 ≤ get_or ws 0 0)
      → (gave_in number text ws ns o ≡ node₁) × Grew xs names ws ns
  node_form r l z e t d k q s ws ns o h =
      let d' = as_begun xs ys names r l e zs d in
      let s' = still xs ys names r l e zs s in (
        h.0 ∙ entered_form (R.node_f (g - 1) bs (length text)) bs text zs names v node₁ (begins_as r l z e t) k q,
        entered_grew xs names r l zs ws ns d' s' h.1 h.2 h.3,
      )

  -- A word, or none.
  pub node_done : (r : Ready xs names) → get_or xs 0 0 < 1008 → (g ≡ 0 → ⊥) → ys ≡ begun_in xs → Told → Ended ys zs → (n : ℕ) → v ≡ Entered.Done n
      → (gave_in number text zs names n ≡ node₁) × Grew xs names zs names
  node_done r l z e t d n q = (
    entered_done (R.node_f (g - 1) bs (length text)) bs text zs names v node₁ (begins_as r l z e t) n q,
    ended_grew xs names r l zs (as_begun xs ys names r l e zs d),
  )
