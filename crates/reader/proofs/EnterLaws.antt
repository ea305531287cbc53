-- Where a node begins.
-- Assumes nothing.
use Rattle.std.specs.Prelude.{Option, Some, None, ℕ}
use mathlib.Core.Path.{◌≡◌, refl, sym, ap, ap₂, subst, ◌∙◌}
use mathlib.Core.Bool.{Bool, true, false}
use mathlib.Core.List.{List}
use Prim.Native.Nat.{ℕ, ◌<◌}
use native.Mathlib.Omega.{arith}
use lib.ListN.{length, get_or, set, length-set}
use lib.Seq.{get_or-set_same, get_or-set_other}
use Rattle.rules.specs.Bytes.{Bytes, first}
use Rattle.rules.specs.declared.Field.{Field}
use Rattle.texts.specs.Tokens.{Token, token, from}
use Rattle.texts.specs.Spelled.{same}
use Rattle.texts.specs.Spelling.{open₀, kind_named}
use Rattle.texts.specs.Rows.{Sofar, Got, stopped, ◌onward◌}
use Rattle.texts.specs.Steps as S
use Rattle.texts.specs.Reader as R
use Rattle.texts.specs.declared.Unread.{Unread}
use Rattle.std.specs.Prelude.{Result}
use Rattle.phrases.specs.declared.Read.{Read}
use Rattle.phrases.specs.Gave.{gave, number}
use Rattle.phrases.proofs.StepLaws.{from_below}
use Rattle.reader.specs.declared.Entered.{Entered}
use Rattle.reader.specs.Held.{sofar_in, gave_in, stop_put, step_put, flag, Same, Ended, entered_as, other_as, bare_as}
use Rattle.reader.proofs.SofarLaws.{note_sofar}
use Rattle.reader.proofs.StepIn.{stop_why, stop_same, stepped_in, stepped_same, two_same}

same_ended : (xs xs' : List ℕ) → Same xs xs' → Ended xs xs'
same_ended xs xs' s = record { long = s.long; begun = s.begun; rows = omega (arith, s.rows) }

module _ (xs : List ℕ) (long : length xs ≡ 13118) (node : R.Nodes) (bs : List Bytes) (text : Bytes) (ns : List ℕ) where
  pub stopped_in : (why : Unread) (xs' : List ℕ) (n : ℕ) → xs' ≡ stop_put xs why → n ≡ 0 → entered_as node bs text xs' ns (Entered.Done n) ≡ stopped why
  unfolding entered_as gave_in
  stopped_in why xs' n e g =
      ap₂ (λ (ys : List ℕ) (k : ℕ). entered_as node bs text ys ns (Entered.Done k)) e g ∙ ap (λ (w : Unread). stopped w) (stop_why xs long why)

  pub done_in : (s : Result (Read ℕ) Unread) (xs' : List ℕ) (n : ℕ) → xs' ≡ step_put xs s → n ≡ flag s → entered_as node bs text xs' ns (Entered.Done n) ≡ gave number text (sofar_in text xs ns) s
  unfolding entered_as
  done_in s xs' n e g = stepped_in xs long number text ns s xs' n e g

  pub form_in : (e place k : ℕ) → entered_as node bs text (set (set xs 2 e) 6 place) ns (Entered.Form k) ≡ R.form node bs (length text) place k (from text e) (sofar_in text xs ns)
  unfolding entered_as
  form_in e place k =
      let a : get_or (set (set xs 2 e) 6 place) 6 0 ≡ place = get_or-set_same (set xs 2 e) 6 place 0 (omega (arith, length-set xs 2 e)) in
      let b : get_or (set (set xs 2 e) 6 place) 2 0 ≡ e = get_or-set_other (set xs 2 e) 6 2 place 0 (omega arith) ∙ get_or-set_same xs 2 e 0 (omega arith) in
      let s : sofar_in text (set (set xs 2 e) 6 place) ns ≡ sofar_in text xs ns = note_sofar (set xs 2 e) 6 place (omega arith) (omega arith) text ns ∙ note_sofar xs 2 e (omega arith) (omega arith) text ns in
      rw (a, b, s) refl

module _ (xs : List ℕ) (long : length xs ≡ 13118) where
  pub stop_ended : (why : Unread) (xs' : List ℕ) → xs' ≡ stop_put xs why → Ended xs xs'
  stop_ended why xs' e = subst (Ended xs) (sym e) (same_ended xs (stop_put xs why) (stop_same xs long why))

  pub form_ended : (e place : ℕ) → Ended xs (set (set xs 2 e) 6 place)
  form_ended e place = same_ended xs (set (set xs 2 e) 6 place) (two_same xs long 2 6 e place (omega arith) (omega arith))

pub then_ended : (xs xs₁ xs₂ : List ℕ) (s : Result (Read ℕ) Unread) → length xs ≡ 13118 → Ended xs xs₁ → xs₂ ≡ step_put xs₁ s → Ended xs xs₂
then_ended xs xs₁ xs₂ s long d e =
    let t = stepped_same xs₁ (d.long ∙ long) s xs₂ e in
    record { long = t.long ∙ d.long; begun = t.begun ∙ d.begun; rows = omega (arith, t.rows, d.rows) }

-- A kind's word, or not.
module _ (node : R.Nodes) (bs : List Bytes) (finish : ℕ) (f : Field) (place : ℕ) (w : Bytes) (at : ℕ) (ts : List Token) (so : Sofar) where
  abbrev wordly_by : Option ℕ → Got ℕ
  wordly_by q = elim q [ Some k ↦ R.form node bs finish place k ts so | None ↦ other_as f place w at finish ts so ]

  pub wordly_kind : (q : Option ℕ) (k : ℕ) → q ≡ kind_named f w → q ≡ Some k → R.form node bs finish place k ts so ≡ R.wordly node bs finish f place (token at w) ts so
  unfolding R.wordly token other_as
  wordly_kind q k e z = ap wordly_by (sym z ∙ e)

  pub wordly_other : (q : Option ℕ) → q ≡ kind_named f w → q ≡ None → other_as f place w at finish ts so ≡ R.wordly node bs finish f place (token at w) ts so
  unfolding R.wordly token other_as
  wordly_other q e z = ap wordly_by (sym z ∙ e)

pub kind_small : (f : Field) (w : Bytes) (q : Option ℕ) (k : ℕ) → q ≡ kind_named f w → q ≡ Some k → k < 30
unfolding kind_named first
kind_small f w q k e z = from_below _ 0 30 k (sym e ∙ z)

-- A parenthesis, or a word.
module _ (node : R.Nodes) (bs : List Bytes) (finish : ℕ) (f : Field) (w : Bytes) (at : ℕ) (ts : List Token) (so : Sofar) where
  abbrev pub enter_by : Bool → Got ℕ
  enter_by b = elim b [ true ↦ S.next finish ts so onward (λ u ts so. R.wordly node bs finish f at u ts so) | false ↦ bare_as f w at finish ts so ]

  pub enter_open : same w open₀ ≡ true → (S.next finish ts so onward λ u ts so. R.wordly node bs finish f at u ts so) ≡ enter_by (same w open₀)
  enter_open e = ap enter_by (sym e)

  pub enter_bare : same w open₀ ≡ false → bare_as f w at finish ts so ≡ enter_by (same w open₀)
  enter_bare e = ap enter_by (sym e)
