-- A step's result in the scratch says what the step says.
-- Assumes nothing.
use mathlib.Core.Path.{◌≡◌, refl, sym, ap, ap₂, subst, ◌∙◌}
use mathlib.Core.Bool.{Bool, true, false}
use mathlib.Core.List.{List}
use Prim.Native.Nat.{ℕ, ◌≤◌}
use native.Mathlib.Omega.{arith}
use lib.ListN.{length, get_or, set, length-set}
use lib.Seq.{get_or-set_same, get_or-set_other}
use Rattle.rules.specs.Bytes.{Bytes}
use Rattle.texts.specs.Tokens.{Token, token}
use Rattle.texts.specs.Rows.{Sofar, Got, stopped, ◌onward◌}
use Rattle.texts.specs.Steps as S
use Rattle.texts.specs.Reader as R
use Rattle.texts.specs.declared.Unread.{Unread}
use Rattle.std.specs.Prelude.{Result, Ok, Err}
use Rattle.phrases.specs.declared.Read.{Read}
use Rattle.tokens.specs.declared.Span.{Span}
use Rattle.phrases.specs.Gave.{gave, gave_word, nothing}
use Rattle.reader.specs.Held.{sofar_in, why_in, gave_in, stop_put, step_put, flag, Same, used_as}
use Rattle.reader.proofs.SofarLaws.{note_sofar}

module _ (xs : List ℕ) (long : length xs ≡ 13118) where
  put_code : (k at : ℕ) → get_or (set (set xs 4 k) 5 at) 4 0 ≡ k
  put_code k at = get_or-set_other (set xs 4 k) 5 4 at 0 (omega arith) ∙ get_or-set_same xs 4 k 0 (omega arith)

  put_at : (k at : ℕ) → get_or (set (set xs 4 k) 5 at) 5 0 ≡ at
  put_at k at = get_or-set_same (set xs 4 k) 5 at 0 (omega (arith, length-set xs 4 k))

  pub stop_why : (why : Unread) → why_in (stop_put xs why) ≡ why
  unfolding why_in stop_put
  stop_why (Unread.Word at) = rw (put_code 0 at, put_at 0 at) refl
  stop_why (Unread.Name at) = rw (put_code 1 at, put_at 1 at) refl
  stop_why (Unread.Range at) = rw (put_code 2 at, put_at 2 at) refl

  pub two_same : (i j v w : ℕ) → 2 ≤ i → 2 ≤ j → Same xs (set (set xs i v) j w)
  two_same i j v w l m = record {
    long = length-set (set xs i v) j w ∙ length-set xs i v;
    begun = get_or-set_other (set xs i v) j 0 w 0 (omega arith) ∙ get_or-set_other xs i 0 v 0 (omega arith);
    rows = get_or-set_other (set xs i v) j 1 w 0 (omega arith) ∙ get_or-set_other xs i 1 v 0 (omega arith);
  }

  pub stop_same : (why : Unread) → Same xs (stop_put xs why)
  unfolding stop_put
  stop_same (Unread.Word at) = two_same 4 5 0 at (omega arith) (omega arith)
  stop_same (Unread.Name at) = two_same 4 5 1 at (omega arith) (omega arith)
  stop_same (Unread.Range at) = two_same 4 5 2 at (omega arith) (omega arith)

  step_same : (s : Result (Read ℕ) Unread) → Same xs (step_put xs s)
  unfolding step_put
  step_same (Ok r) = two_same 2 3 r.behind r.value (omega arith) (omega arith)
  step_same (Err why) = stop_same why

  -- A closing parenthesis that was read, or not.
  pub closed_same : (at : ℕ) → Same xs (set xs 2 at)
  closed_same at = record { long = length-set xs 2 at; begun = get_or-set_other xs 2 0 at 0 (omega arith); rows = get_or-set_other xs 2 1 at 0 (omega arith) }

  module _ (text : Bytes) (names : List ℕ) (r : Result Span Unread) where
    pub closed_in : (w : Span) → r ≡ Ok w → gave_in nothing text (set xs 2 w.end) names 1 ≡ gave_word nothing text (sofar_in text xs names) r
    unfolding gave_in gave_word
    closed_in w e =
        let a : get_or (set xs 2 w.end) 2 0 ≡ w.end = get_or-set_same xs 2 w.end 0 (omega arith) in
        rw (a, note_sofar xs 2 w.end (omega arith) (omega arith) text names) (ap (gave_word nothing text (sofar_in text xs names)) (sym e))

    pub unclosed_in : (why : Unread) (xs' : List ℕ) (n : ℕ) → xs' ≡ stop_put xs why → n ≡ 0 → r ≡ Err why → gave_in nothing text xs' names n ≡ gave_word nothing text (sofar_in text xs names) r
    unfolding gave_in gave_word
    unclosed_in why xs' n e z q =
        ap₂ (λ (ys : List ℕ) (k : ℕ). gave_in nothing text ys names k) e z ∙ ap (λ (w : Unread). stopped w) (stop_why why)
        ∙ ap (gave_word nothing text (sofar_in text xs names)) (sym q)

  pub unclosed_same : (why : Unread) (xs' : List ℕ) → xs' ≡ stop_put xs why → Same xs xs'
  unclosed_same why xs' e = subst (Same xs) (sym e) (stop_same why)

  module _ {A : Type 0} (f : ℕ → ℕ → A) (text : Bytes) (names : List ℕ) where
    step_in : (s : Result (Read ℕ) Unread) → gave_in f text (step_put xs s) names (flag s) ≡ gave f text (sofar_in text xs names) s
    unfolding gave_in gave step_put flag
    step_in (Ok r) =
        let a : get_or (set (set xs 2 r.behind) 3 r.value) 2 0 ≡ r.behind = get_or-set_other (set xs 2 r.behind) 3 2 r.value 0 (omega arith) ∙ get_or-set_same xs 2 r.behind 0 (omega arith) in
        let b : get_or (set (set xs 2 r.behind) 3 r.value) 3 0 ≡ r.value = get_or-set_same (set xs 2 r.behind) 3 r.value 0 (omega (arith, length-set xs 2 r.behind)) in
        let s : sofar_in text (set (set xs 2 r.behind) 3 r.value) names ≡ sofar_in text xs names = note_sofar (set xs 2 r.behind) 3 r.value (omega arith) (omega arith) text names ∙ note_sofar xs 2 r.behind (omega arith) (omega arith) text names in
        rw (a, b, s) refl
    step_in (Err why) = ap (λ (w : Unread). stopped w) (stop_why why)

    pub stepped_in : (s : Result (Read ℕ) Unread) (xs' : List ℕ) (n : ℕ) → xs' ≡ step_put xs s → n ≡ flag s → gave_in f text xs' names n ≡ gave f text (sofar_in text xs names) s
    stepped_in s xs' n e g = ap₂ (λ (ys : List ℕ) (k : ℕ). gave_in f text ys names k) e g ∙ step_in s

  pub stepped_same : (s : Result (Read ℕ) Unread) (xs' : List ℕ) → xs' ≡ step_put xs s → Same xs xs'
  stepped_same s xs' e = subst (Same xs) (sym e) (step_same s)

-- A word as a node: a plain value, or a name.
abbrev bare_by : Bool → Bytes → ℕ → ℕ → List Token → Sofar → Got ℕ
bare_by b w at finish ts so =
    elim b [
      | true ↦ S.plain_value (token at w) finish ts so onward λ v ts so. R.ends at (R.constant_row v) ts so
      | false ↦ used_as w at ts so
    ]

module _ (w : Bytes) (at finish : ℕ) (ts : List Token) (so : Sofar) where
  pub bare_value : S.is_plain_value w ≡ true → (S.plain_value (token at w) finish ts so onward λ v ts so. R.ends at (R.constant_row v) ts so) ≡ R.bare (token at w) finish ts so
  unfolding R.bare token used_as
  bare_value e = ap (λ (b : Bool). bare_by b w at finish ts so) (sym e)

  pub bare_name : S.is_plain_value w ≡ false → used_as w at ts so ≡ R.bare (token at w) finish ts so
  unfolding R.bare token used_as
  bare_name e = ap (λ (b : Bool). bare_by b w at finish ts so) (sym e)
