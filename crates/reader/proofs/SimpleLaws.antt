-- A field that is for no node, each as the step that was taken says.
-- Assumes nothing.
use mathlib.Core.Path.{◌≡◌, refl, sym, ap, subst, ◌∙◌}
use mathlib.Core.Bool.{true, false}
use mathlib.Core.List.{List}
use Prim.Native.Nat.{ℕ, ◌≤◌, ◌<◌}
use native.Mathlib.Omega.{arith}
use lib.ListN.{length}
use lib.Dec.{T}
use Rattle.rules.specs.Bytes.{Bytes}
use Rattle.rules.specs.declared.Field.{Field}
use Rattle.rules.specs.declared.Field.TheVariants.{Unused, Channel, PresentByte, NextBranch, NextCase, Binder, Target}
use Rattle.texts.specs.Tokens.{from, part}
use Rattle.texts.specs.Rows.{Sofar, Got, got, ◌onward◌}
use Rattle.texts.specs.Steps as S
use Rattle.texts.specs.Reader as R
use Rattle.texts.specs.Reader.{Held, Nodes, plainly}
use Rattle.labels.proofs.NoteLaws.{named_part}
use Rattle.std.specs.Prelude.{Result, Ok, Err}
use Rattle.phrases.specs.declared.Read.{Read}
use Rattle.tokens.specs.declared.Span.{Span}
use Rattle.texts.specs.declared.Unread.{Unread}
use Rattle.phrases.specs.Gave.{gave, gave_word, number, NamePart}
use Rattle.reader.specs.Held.{held_as, is_inside}

-- A number of a channel, and a name of a target, are what the field gives.
held_channel : (text : Bytes) (so : Sofar) (r : Result (Read ℕ) Unread) → gave (held_as text Channel) text so r ≡ plainly (gave number text so r)
unfolding gave held_as plainly ◌onward◌
held_channel text so (Ok r) = refl
held_channel text so (Err why) = refl

held_target : (text : Bytes) (so : Sofar) (r : Result Span Unread) → NamePart text r → (w : Span) → r ≡ Ok w
    → gave (held_as text Target) text so (Ok (record { value = w.first; behind = w.end })) ≡ (gave_word (λ s e. part text s e) text so r onward λ w ts so. got (record { number = 0; name = w }) ts so)
unfolding gave gave_word held_as ◌onward◌
held_target text so r p w e =
    let q : (w.first < w.end) × (w.end ≤ length text) = subst (NamePart text) e p in
    ap (λ (v : Bytes). got (record { number = 0; name = v }) (from text w.end) so) (named_part text w.first w.end (omega (arith, q.0)) q.1)
    ∙ ap (λ (x : Result Span Unread). gave_word (λ s e. part text s e) text so x onward λ w ts so. got (record { number = 0; name = w }) ts so) (sym e)

module _ (text : Bytes) (bs : List Bytes) (f : Field) (present finish at : ℕ) where
  -- What a step says of a field, if it says it of the variant that the field is.
  abbrev Says : Field → Result (Read ℕ) Unread → Type 0
  Says g r = (node : Nodes) (so : Sofar) → gave (held_as text g) text so r ≡ R.field node bs g present finish (from text at) so

  pub says_unused : f ≡ Unused → Says f (Ok (record { value = 0; behind = at }))
  unfolding gave held_as R.field
  says_unused e = subst (λ (g : Field). Says g (Ok (record { value = 0; behind = at }))) (sym e) (λ node so. refl)

  pub says_binder : f ≡ Binder → Says f (Ok (record { value = 0; behind = at }))
  unfolding gave held_as R.field
  says_binder e = subst (λ (g : Field). Says g (Ok (record { value = 0; behind = at }))) (sym e) (λ node so. refl)

  pub says_present : f ≡ PresentByte → Says f (Ok (record { value = present; behind = at }))
  unfolding gave held_as R.field
  says_present e = subst (λ (g : Field). Says g (Ok (record { value = present; behind = at }))) (sym e) (λ node so. refl)

  pub says_next_branch : f ≡ NextBranch → Says f (Ok (record { value = 65535; behind = at }))
  unfolding gave held_as R.field
  says_next_branch e = subst (λ (g : Field). Says g (Ok (record { value = 65535; behind = at }))) (sym e) (λ node so. refl)

  pub says_next_case : f ≡ NextCase → Says f (Ok (record { value = 65535; behind = at }))
  unfolding gave held_as R.field
  says_next_case e = subst (λ (g : Field). Says g (Ok (record { value = 65535; behind = at }))) (sym e) (λ node so. refl)

  pub says_channel : f ≡ Channel → (r : Result (Read ℕ) Unread) → ((so : Sofar) → gave number text so r ≡ S.channel finish (from text at) so) → Says f r
  unfolding R.field
  says_channel e r h = subst (λ (g : Field). Says g r) (sym e) (λ node so. held_channel text so r ∙ ap plainly (h so))

  pub says_target : f ≡ Target → (r : Result Span Unread) → ((so : Sofar) → gave_word (λ s e. part text s e) text so r ≡ S.target bs finish (from text at) so) → NamePart text r
      → (w : Span) → r ≡ Ok w → Says f (Ok (record { value = w.first; behind = w.end }))
  unfolding R.field
  says_target e r h p w q =
      subst (λ (g : Field). Says g (Ok (record { value = w.first; behind = w.end }))) (sym e)
      (λ node so. held_target text so r p w q ∙ ap (λ (m : Got Bytes). m onward λ w ts so. got (record { number = 0; name = w }) ts so) (h so))

  pub says_no_target : f ≡ Target → (r : Result Span Unread) → ((so : Sofar) → gave_word (λ s e. part text s e) text so r ≡ S.target bs finish (from text at) so)
      → (why : Unread) → r ≡ Err why → (r' : Result (Read ℕ) Unread) → r' ≡ Err why → Says f r'
  unfolding R.field gave gave_word ◌onward◌
  says_no_target e r h why q r' q' =
      subst (λ (g : Field). Says g r') (sym e)
      (λ node so. ap (gave (held_as text Target) text so) q' ∙ ap (λ (m : Got Bytes). m onward λ w ts so. got (record { number = 0; name = w }) ts so) (ap (gave_word (λ s e. part text s e) text so) (sym q) ∙ h so))

-- A field for a node is none of these.
pub no_inside : (f g : Field) → f ≡ g → is_inside g ≡ true → is_inside f ≡ false → ⊥
no_inside f g e t n = subst T (sym t ∙ ap is_inside (sym e) ∙ n) tt
