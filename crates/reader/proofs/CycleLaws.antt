-- A form's parts as the scratch holds them, one behind the other.
-- Assumes nothing.
use mathlib.Core.Path.{◌≡◌, refl, sym, ap, subst, ◌∙◌}
use mathlib.Core.Bool.{Bool, true, false}
use mathlib.Core.List.{List, [], ◌∷◌}
use Prim.Native.Nat.{ℕ, ◌+◌, ◌*◌, ◌≤◌, ◌<◌}
use native.Mathlib.Omega.{arith}
use lib.Dec.{eqb}
use lib.ListN.{length, get_or, set}
use lib.Seq.{get_or-set_same, get_or-set_other}
use borrow.Author.Tests.{eqb-true, eqb-false}
use Rattle.rules.specs.Bytes.{Bytes, write_at}
use Rattle.rules.specs.Kinds.{fields_of}
use Rattle.rules.specs.declared.Field.{Field}
use Rattle.texts.specs.Tokens.{Token, from}
use Rattle.texts.specs.Spelling.{close₀}
use Rattle.texts.specs.Rows.{Sofar, Got, stopped, ◌onward◌}
use Rattle.texts.specs.Steps as S
use Rattle.texts.specs.Reader as R
use Rattle.texts.specs.Reader.{Held, Heading, Nodes, plainly, ends}
use Rattle.labels.specs.Noted.{named_by}
use Rattle.phrases.specs.Gave.{number, nothing}
use Rattle.phrases.proofs.StepLaws.{no_name}
use Rattle.reader.specs.Held.{Ready, Grew, Same, why_in, gave_in, gave_head_in, heading_in, held_as, sofar_in, names_put, rest_put}
use Rattle.reader.proofs.SofarLaws.{note_sofar, note_same}
use Rattle.reader.proofs.RestLaws.{rest_case, rest_other}
use Rattle.reader.proofs.GrewLaws.{grew_row, grew_on, grew_same, grew_out, room_row, room_kept}
use Rattle.reader.proofs.PutLaws.{row_of, laid_ends, laid_long, laid_count, laid_below, put_laid}
use Rattle.reader.proofs.FlowLaws.{onward_stop, onward_on, headed_stop, headed_on, held_c, held_target, present_c, plain}

-- What comes behind each part of a form.
module _ (node : Nodes) (bs : List Bytes) (finish at k : ℕ) where
  unfoldable pub after_next : Heading → Held → Held → ℕ → List Token → Sofar → Got ℕ
  after_next h a c m ts so =
      ends at (record { kind = k; type = h.type; a = a.number; b = m; c = c.number; word = h.word; binds = h.binds; label = h.label; uses = c.name }) ts so

  unfoldable pub after_close : Heading → Held → Held → Held → Unit {0} → List Token → Sofar → Got ℕ
  after_close h a b c o ts so = R.behind node (fields_of k).b b.number ts so onward after_next h a c

  unfoldable pub after_c : Heading → Held → Held → Held → List Token → Sofar → Got ℕ
  after_c h a b c ts so = S.expect close₀ finish ts so onward after_close h a b c

  unfoldable pub after_b : Heading → Held → Held → List Token → Sofar → Got ℕ
  after_b h a b ts so = R.field node bs (fields_of k).c h.present finish ts so onward after_c h a b

  unfoldable pub after_a : Heading → Held → List Token → Sofar → Got ℕ
  after_a h a ts so = R.field node bs (fields_of k).b h.present finish ts so onward after_b h a

  unfoldable pub after_heading : Heading → List Token → Sofar → Got ℕ
  after_heading h ts so = R.field node bs (fields_of k).a h.present finish ts so onward after_a h

  form_is : (ts : List Token) (so : Sofar) → R.form node bs finish at k ts so ≡ (R.heading k finish ts so onward after_heading)
  unfolding R.form after_heading after_a after_b after_c after_close after_next
  form_is ts so = refl

-- The next thing that a scratch goes on with.
abbrev goes : {A : Type 0} → Bytes → List ℕ → List ℕ → (List Token → Sofar → Got A) → Got A
goes text xs names k = k (from text (get_or xs 2 0)) (sofar_in text xs names)

-- A note that is no position changes nothing of that.
goes_note : {A : Type 0} (text : Bytes) (xs names : List ℕ) (j v : ℕ) → 2 < j → j < 14 → (k : List Token → Sofar → Got A)
    → goes text (set xs j v) names k ≡ goes text xs names k
goes_note text xs names j v l m k =
    λ i. k (from text (get_or-set_other xs j 2 v 0 (λ e. absurd (omega (arith, e, l))) i)) (note_sofar xs j v (omega (arith, l)) m text names i)

-- A row behind the others, by a heading in a scratch, and the notes with it.
unfoldable rest_of : List ℕ → List ℕ → ℕ → ℕ → ℕ → ℕ → ℕ → ℕ → ℕ → List ℕ
rest_of xs x₁ k a b c u v place =
    set (set (write_at (write_at (write_at xs (13 * get_or xs 1 0 + 20) (get_or x₁ 9 0 ∷ get_or x₁ 10 0 ∷ get_or x₁ 7 0 ∷ get_or x₁ 8 0 ∷ [])) (13 * get_or xs 1 0 + 14) (k ∷ get_or x₁ 11 0 ∷ a ∷ b ∷ c ∷ get_or x₁ 13 0 ∷ [])) (13 * get_or xs 1 0 + 24) (u ∷ v ∷ place ∷ [])) 1 (get_or xs 1 0 + 1)) 3 (get_or xs 1 0)

held_number : (x : Held) (y : ℕ) → x ≡ plain y → x.number ≡ y
unfolding plain
held_number x y e = ap (λ (x : Held). x.number) e

held_name : (x : Held) (y : ℕ) → x ≡ plain y → x.name ≡ []
unfolding plain
held_name x y e = ap (λ (x : Held). x.name) e

-- A form, from a scratch and a table of names on.
module _ (text : Bytes) (node : Nodes) (bs : List Bytes) (at k : ℕ) (x₀ n₀ : List ℕ) where
  abbrev whole : Got ℕ
  whole = R.form node bs (length text) at k (from text (get_or x₀ 2 0)) (sofar_in text x₀ n₀)

  abbrev fa : Field
  fa = (fields_of k).a

  abbrev fb : Field
  fb = (fields_of k).b

  abbrev fc : Field
  fc = (fields_of k).c

  -- What a form leaves.
  abbrev pub Left : List ℕ → List ℕ → ℕ → Type 0
  Left x n r =
      (gave_in number text x n r ≡ whole) × Ready x n × (get_or x 1 0 + get_or x₀ 0 0 ≤ get_or x₀ 1 0 + get_or x 0 0 + 1) × (get_or x₀ 0 0 ≤ get_or x 0 0)

  -- It goes on so with a scratch.
  pub record Going (x n : List ℕ) (then₁ : List Token → Sofar → Got ℕ) : Type 0 where
    pub is : whole ≡ goes text x n then₁
    pub grew : Grew x₀ n₀ x n
    pub room : get_or x₀ 1 0 < get_or x₀ 0 0

  stops : (x n : List ℕ) → whole ≡ stopped (why_in x) → Grew x₀ n₀ x n → Left x n 0
  unfolding gave_in
  stops x n e g = (sym e, g.ready, (grew_out x₀ n₀ x n g).1, g.not_less)

  -- The heading.
  module _ (x₁ n₁ : List ℕ) (r : ℕ) (g : Grew x₀ n₀ x₁ n₁) (e : gave_head_in text x₁ n₁ r ≡ R.heading k (length text) (from text (get_or x₀ 2 0)) (sofar_in text x₀ n₀)) where
    pub heading_stop : r ≡ 0 → Left x₁ n₁ 0
    heading_stop z =
        stops x₁ n₁ (form_is node bs (length text) at k _ _ ∙ headed_stop text x₁ n₁ (after_heading node bs (length text) at k) r _ e z) g

    pub heading_on : (r ≡ 0 → ⊥) → get_or x₀ 1 0 < get_or x₀ 0 0 → Going x₁ n₁ (after_heading node bs (length text) at k (heading_in text x₁))
    heading_on z l =
        record { is = form_is node bs (length text) at k _ _ ∙ headed_on text x₁ n₁ (after_heading node bs (length text) at k) r _ e z; grew = g; room = l }

  module _ (x₁ : List ℕ) where
    abbrev h : Heading
    h = heading_in text x₁

    -- Field a.
    module _ (n₁ : List ℕ) (so_far : Going x₁ n₁ (after_heading node bs (length text) at k h)) (x₂ n₂ : List ℕ) (g : Grew x₁ n₁ x₂ n₂) (r : ℕ)
        (e : gave_in (held_as text fa) text x₂ n₂ r ≡ R.field node bs fa (get_or x₁ 12 0) (length text) (from text (get_or x₁ 2 0)) (sofar_in text x₁ n₁)) where
      pub a_stop : r ≡ 0 → Left x₂ n₂ 0
      unfolding after_heading heading_in
      a_stop z =
          stops x₂ n₂ (so_far.is ∙ onward_stop (held_as text fa) text x₂ n₂ (after_a node bs (length text) at k h) r _ e z) (grew_on x₀ n₀ x₁ n₁ x₂ n₂ so_far.grew g)

      pub a_on : (r ≡ 0 → ⊥) → Going x₂ n₂ (after_a node bs (length text) at k h (held_as text fa (get_or x₂ 3 0) (get_or x₂ 2 0)))
      unfolding after_heading heading_in
      a_on z =
          record {
            is = so_far.is ∙ onward_on (held_as text fa) text x₂ n₂ (after_a node bs (length text) at k h) r _ e z;
            grew = grew_on x₀ n₀ x₁ n₁ x₂ n₂ so_far.grew g;
            room = so_far.room;
          }

    module _ (a : Held) where
      -- Field b; the present byte was noted again.
      module _ (x₂ n₂ : List ℕ) (so_far : Going x₂ n₂ (after_a node bs (length text) at k h a)) (x₃ n₃ : List ℕ) (g : Grew (set x₂ 12 (get_or x₁ 12 0)) n₂ x₃ n₃) (r : ℕ)
          (e : gave_in (held_as text fb) text x₃ n₃ r
          ≡ R.field node bs fb (get_or (set x₂ 12 (get_or x₁ 12 0)) 12 0) (length text) (from text (get_or (set x₂ 12 (get_or x₁ 12 0)) 2 0)) (sofar_in text (set x₂ 12 (get_or x₁ 12 0)) n₂)) where
        noted : gave_in (held_as text fb) text x₃ n₃ r ≡ R.field node bs fb (get_or x₁ 12 0) (length text) (from text (get_or x₂ 2 0)) (sofar_in text x₂ n₂)
        noted =
            e ∙ ap (λ (p : ℕ). R.field node bs fb p (length text) (from text (get_or (set x₂ 12 (get_or x₁ 12 0)) 2 0)) (sofar_in text (set x₂ 12 (get_or x₁ 12 0)) n₂))
            (get_or-set_same x₂ 12 (get_or x₁ 12 0) 0 (omega (arith, so_far.grew.ready.long)))
            ∙ goes_note text x₂ n₂ 12 (get_or x₁ 12 0) (omega arith) (omega arith) (R.field node bs fb (get_or x₁ 12 0) (length text))

        grown : Grew x₀ n₀ x₃ n₃
        grown =
            grew_on x₀ n₀ x₂ n₂ x₃ n₃ so_far.grew
            (grew_on x₂ n₂ (set x₂ 12 (get_or x₁ 12 0)) n₂ x₃ n₃ (grew_same x₂ (set x₂ 12 (get_or x₁ 12 0)) n₂ so_far.grew.ready (note_same x₂ 12 (get_or x₁ 12 0) (omega arith) (omega arith))) g)

        pub b_stop : r ≡ 0 → Left x₃ n₃ 0
        unfolding after_a heading_in
        b_stop z = stops x₃ n₃ (so_far.is ∙ onward_stop (held_as text fb) text x₃ n₃ (after_b node bs (length text) at k h a) r _ noted z) grown

        pub b_on : (r ≡ 0 → ⊥) → Going x₃ n₃ (after_b node bs (length text) at k h a (held_as text fb (get_or x₃ 3 0) (get_or x₃ 2 0)))
        unfolding after_a heading_in
        b_on z =
            record {
              is = so_far.is ∙ onward_on (held_as text fb) text x₃ n₃ (after_b node bs (length text) at k h a) r _ noted z;
              grew = grown;
              room = so_far.room;
            }

      -- Field c.
      module _ (b : Held) (x₃ n₃ : List ℕ) (so_far : Going x₃ n₃ (after_b node bs (length text) at k h a b)) (x₄ n₄ : List ℕ) (g : Grew x₃ n₃ x₄ n₄) (r : ℕ)
          (e : gave_in (held_as text fc) text x₄ n₄ r ≡ R.field node bs fc (get_or x₃ 12 0) (length text) (from text (get_or x₃ 2 0)) (sofar_in text x₃ n₃)) where
        told : gave_in (held_as text fc) text x₄ n₄ r ≡ R.field node bs fc (get_or x₁ 12 0) (length text) (from text (get_or x₃ 2 0)) (sofar_in text x₃ n₃)
        told = e ∙ present_c node bs k (get_or x₃ 12 0) (get_or x₁ 12 0) (length text) (from text (get_or x₃ 2 0)) (sofar_in text x₃ n₃)

        pub c_stop : r ≡ 0 → Left x₄ n₄ 0
        unfolding after_b heading_in
        c_stop z =
            stops x₄ n₄ (so_far.is ∙ onward_stop (held_as text fc) text x₄ n₄ (after_c node bs (length text) at k h a b) r _ told z) (grew_on x₀ n₀ x₃ n₃ x₄ n₄ so_far.grew g)

        pub c_on : (r ≡ 0 → ⊥) → Going x₄ n₄ (after_c node bs (length text) at k h a b (held_as text fc (get_or x₄ 3 0) (get_or x₄ 2 0)))
        unfolding after_b heading_in
        c_on z =
            record {
              is = so_far.is ∙ onward_on (held_as text fc) text x₄ n₄ (after_c node bs (length text) at k h a b) r _ told z;
              grew = grew_on x₀ n₀ x₃ n₃ x₄ n₄ so_far.grew g;
              room = so_far.room;
            }

      module _ (b c : Held) where
        -- The closing parenthesis.
        module _ (x₄ n₄ : List ℕ) (so_far : Going x₄ n₄ (after_c node bs (length text) at k h a b c)) (x₅ : List ℕ) (s : Same x₄ x₅) (r : ℕ)
            (e : (ns : List ℕ) → gave_in nothing text x₅ ns r ≡ S.expect close₀ (length text) (from text (get_or x₄ 2 0)) (sofar_in text x₄ ns)) where
          closed : Grew x₀ n₀ x₅ n₄
          closed = grew_on x₀ n₀ x₄ n₄ x₅ n₄ so_far.grew (grew_same x₄ x₅ n₄ so_far.grew.ready s)

          pub close_stop : r ≡ 0 → Left x₅ n₄ 0
          unfolding after_c
          close_stop z = stops x₅ n₄ (so_far.is ∙ onward_stop nothing text x₅ n₄ (after_close node bs (length text) at k h a b c) r _ (e n₄) z) closed

          pub close_on : (r ≡ 0 → ⊥) → Going x₅ n₄ (after_close node bs (length text) at k h a b c tt)
          unfolding after_c
          close_on z =
              record {
                is = so_far.is ∙ onward_on nothing text x₅ n₄ (after_close node bs (length text) at k h a b c) r _ (e n₄) z;
                grew = closed;
                room = so_far.room;
              }

        -- The next of a list; what field b gave was noted again.
        module _ (x₅ n₄ : List ℕ) (so_far : Going x₅ n₄ (after_close node bs (length text) at k h a b c tt)) (y : ℕ) (is : b.number ≡ y)
            (x₆ n₆ : List ℕ) (g : Grew (set x₅ 3 y) n₄ x₆ n₆) (r : ℕ)
            (e : gave_in number text x₆ n₆ r ≡ R.behind node fb (get_or (set x₅ 3 y) 3 0) (from text (get_or (set x₅ 3 y) 2 0)) (sofar_in text (set x₅ 3 y) n₄)) where
          reached : gave_in number text x₆ n₆ r ≡ R.behind node fb b.number (from text (get_or x₅ 2 0)) (sofar_in text x₅ n₄)
          reached =
              e ∙ ap (λ (p : ℕ). R.behind node fb p (from text (get_or (set x₅ 3 y) 2 0)) (sofar_in text (set x₅ 3 y) n₄))
              (get_or-set_same x₅ 3 y 0 (omega (arith, so_far.grew.ready.long)) ∙ sym is)
              ∙ goes_note text x₅ n₄ 3 y (omega arith) (omega arith) (R.behind node fb b.number)

          followed : Grew x₀ n₀ x₆ n₆
          followed =
              grew_on x₀ n₀ x₅ n₄ x₆ n₆ so_far.grew
              (grew_on x₅ n₄ (set x₅ 3 y) n₄ x₆ n₆ (grew_same x₅ (set x₅ 3 y) n₄ so_far.grew.ready (note_same x₅ 3 y (omega arith) (omega arith))) g)

          pub next_stop : r ≡ 0 → Left x₆ n₆ 0
          unfolding after_close
          next_stop z = stops x₆ n₆ (so_far.is ∙ onward_stop number text x₆ n₆ (after_next node bs (length text) at k h a c) r _ reached z) followed

          pub next_on : (r ≡ 0 → ⊥) → Going x₆ n₆ (after_next node bs (length text) at k h a c (get_or x₆ 3 0))
          unfolding after_close
          next_on z =
              record {
                is = so_far.is ∙ onward_on number text x₆ n₆ (after_next node bs (length text) at k h a c) r _ reached z;
                grew = followed;
                room = so_far.room;
              }

      module _ (c : Held) where
        -- The row.
        module _ (x₆ n₆ : List ℕ) (y u v : ℕ) (going : Going x₆ n₆ (after_next node bs (length text) at k h a c (get_or x₆ 3 0)))
            (a_is : a.number ≡ y) (c_is : c ≡ held_as text fc u v) (kind_fits : k < 30)
            (type-fits : get_or x₁ 11 0 < 256) (word_fits : get_or x₁ 13 0 < 4294967296) where
          abbrev so_far : whole ≡ goes text x₆ n₆ (after_next node bs (length text) at k h a c (get_or x₆ 3 0))
          so_far = going.is

          abbrev long : length x₆ ≡ 13118
          long = going.grew.ready.long

          room : get_or x₆ 1 0 < 1008
          room = (room_row x₆ n₆ going.grew.ready (room_kept x₀ n₀ x₆ n₆ going.room going.grew)).1

          abbrev put : List ℕ
          put = rest_put (names_put x₆ (get_or x₁ 9 0) (get_or x₁ 10 0) (get_or x₁ 7 0) (get_or x₁ 8 0)) k (get_or x₁ 11 0) y (get_or x₆ 3 0) u v (get_or x₁ 13 0) at

          -- Of a case, whose target is a name,
          case_put : k ≡ 10 → put ≡ rest_of x₆ x₁ k y (get_or x₆ 3 0) 0 u v at
          unfolding rest_of
          case_put e = sym (rest_case (names_put x₆ (get_or x₁ 9 0) (get_or x₁ 10 0) (get_or x₁ 7 0) (get_or x₁ 8 0)) k (get_or x₁ 11 0) y (get_or x₆ 3 0) u v (get_or x₁ 13 0) at e) ∙ put_laid x₆ (get_or x₁ 9 0) (get_or x₁ 10 0) (get_or x₁ 7 0) (get_or x₁ 8 0) k (get_or x₁ 11 0) y (get_or x₆ 3 0) 0 (get_or x₁ 13 0) u v at

          other_put : (k ≡ 10 → ⊥) → put ≡ rest_of x₆ x₁ k y (get_or x₆ 3 0) u 0 0 at
          unfolding rest_of
          other_put e = sym (rest_other (names_put x₆ (get_or x₁ 9 0) (get_or x₁ 10 0) (get_or x₁ 7 0) (get_or x₁ 8 0)) k (get_or x₁ 11 0) y (get_or x₆ 3 0) u v (get_or x₁ 13 0) at e) ∙ put_laid x₆ (get_or x₁ 9 0) (get_or x₁ 10 0) (get_or x₁ 7 0) (get_or x₁ 8 0) k (get_or x₁ 11 0) y (get_or x₆ 3 0) u (get_or x₁ 13 0) 0 0 at

          row_ends : (w p q : ℕ) → w ≡ c.number → named_by text p q ≡ c.name → gave_in number text (rest_of x₆ x₁ k y (get_or x₆ 3 0) w p q at) n₆ 1 ≡ whole
          unfolding rest_of after_next heading_in row_of
          row_ends w p q f g =
              laid_ends text x₆ (get_or x₆ 1 0) (get_or x₁ 9 0) (get_or x₁ 10 0) (get_or x₁ 7 0) (get_or x₁ 8 0) k (get_or x₁ 11 0) y (get_or x₆ 3 0) w (get_or x₁ 13 0) p q at
              long room (omega (arith, kind_fits)) type-fits word_fits refl n₆
              ∙ (λ i. ends at (record {
                kind = k;
                type = get_or x₁ 11 0;
                a = sym a_is i;
                b = get_or x₆ 3 0;
                c = f i;
                word = get_or x₁ 13 0;
                binds = named_by text (get_or x₁ 9 0) (get_or x₁ 10 0);
                label = named_by text (get_or x₁ 7 0) (get_or x₁ 8 0);
                uses = g i;
              }) (from text (get_or x₆ 2 0)) (sofar_in text x₆ n₆))
              ∙ sym so_far

          by_kind : (t : Bool) → eqb k 10 ≡ t → gave_in number text put n₆ 1 ≡ whole
          by_kind true e =
              let is : k ≡ 10 = eqb-true k 10 e in
              let held = c_is ∙ held_target text k u v is in
              ap (λ (zs : List ℕ). gave_in number text zs n₆ 1) (case_put is)
              ∙ row_ends 0 u v (sym (ap (λ (x : Held). x.number) held)) (sym (ap (λ (x : Held). x.name) held))
          by_kind false e =
              let is : k ≡ 10 → ⊥ = eqb-false k 10 e in
              let held = c_is ∙ held_c text k u v is in
              ap (λ (zs : List ℕ). gave_in number text zs n₆ 1) (other_put is)
              ∙ row_ends u 0 0 (sym (held_number c u held)) (no_name text ∙ sym (held_name c u held))

          pub row_gives : gave_in number text put n₆ 1 ≡ whole
          row_gives = by_kind (eqb k 10) refl

          put_is : (P : List ℕ → Type 0) → ((w p q : ℕ) → P (rest_of x₆ x₁ k y (get_or x₆ 3 0) w p q at)) → P put
          put_is P f = go (eqb k 10) refl
            where
              go : (t : Bool) → eqb k 10 ≡ t → P put
              go true e = subst P (sym (case_put (eqb-true k 10 e))) (f 0 u v)
              go false e = subst P (sym (other_put (eqb-false k 10 e))) (f u 0 0)

          pub row_long : length put ≡ length x₆
          unfolding rest_of
          row_long =
              put_is (λ zs. length zs ≡ length x₆)
              (λ w p q. laid_long text x₆ (get_or x₆ 1 0) (get_or x₁ 9 0) (get_or x₁ 10 0) (get_or x₁ 7 0) (get_or x₁ 8 0) k (get_or x₁ 11 0) y (get_or x₆ 3 0) w (get_or x₁ 13 0) p q at long room ∙ sym long)

          pub row_begun : get_or put 0 0 ≡ get_or x₆ 0 0
          unfolding rest_of
          row_begun =
              put_is (λ zs. get_or zs 0 0 ≡ get_or x₆ 0 0)
              (λ w p q. laid_below text x₆ (get_or x₆ 1 0) (get_or x₁ 9 0) (get_or x₁ 10 0) (get_or x₁ 7 0) (get_or x₁ 8 0) k (get_or x₁ 11 0) y (get_or x₆ 3 0) w (get_or x₁ 13 0) p q at long room 0 (omega arith) (λ e. absurd (omega (arith, e))) (λ e. absurd (omega (arith, e))))

          pub row_count : get_or put 1 0 ≡ get_or x₆ 1 0 + 1
          unfolding rest_of
          row_count =
              put_is (λ zs. get_or zs 1 0 ≡ get_or x₆ 1 0 + 1)
              (λ w p q. laid_count text x₆ (get_or x₆ 1 0) (get_or x₁ 9 0) (get_or x₁ 10 0) (get_or x₁ 7 0) (get_or x₁ 8 0) k (get_or x₁ 11 0) y (get_or x₆ 3 0) w (get_or x₁ 13 0) p q at long room)

          -- As the code puts it: the names first.
          module _ (x₇ x₈ : List ℕ) (r : ℕ) (one : r ≡ 1) (named : x₇ ≡ names_put x₆ (get_or x₁ 9 0) (get_or x₁ 10 0) (get_or x₁ 7 0) (get_or x₁ 8 0))
              (rested : x₈ ≡ rest_put x₇ k (get_or x₁ 11 0) y (get_or x₆ 3 0) u v (get_or x₁ 13 0) at) where
            is_put : x₈ ≡ put
            is_put = rested ∙ ap (λ (zs : List ℕ). rest_put zs k (get_or x₁ 11 0) y (get_or x₆ 3 0) u v (get_or x₁ 13 0) at) named

            pub form_ends : Left x₈ n₆ r
            form_ends =
                let left = grew_row x₀ n₀ x₆ n₆ put going.grew going.room row_long row_begun row_count in
                let there = subst (λ zs. Ready zs n₆ × (get_or zs 1 0 + get_or x₀ 0 0 ≤ get_or x₀ 1 0 + get_or zs 0 0 + 1) × (get_or x₀ 0 0 ≤ get_or zs 0 0)) (sym is_put) left in
                ((λ i. gave_in number text (is_put i) n₆ (one i)) ∙ row_gives, there.0, there.1, there.2)
