-- Each row has its place: the position of the word or parenthesis with which its form begins.
-- Assumes nothing.
use Rattle.std.specs.Prelude.{Option, Some, None, ℕ}
use mathlib.Core.Path.{◌≡◌, refl, sym, ap, subst, ◌∙◌}
use mathlib.Core.List.{List, [], ◌∷◌, ◌++◌, append_assoc, append-nil}
use Prim.Native.Nat.{ℕ, zero, suc, ◌+◌, ◌-◌, ◌<◌}
use native.Mathlib.Decide.{dec_lt}
use native.Mathlib.Omega.{arith}
use lib.Dec.{ltb}
use lib.ListN.{length, length-append, get_or}
use Rattle.rules.specs.Bytes.{Bytes}
use Rattle.rules.specs.Layout.{most_nodes}
use Rattle.rules.specs.Kinds.{fields_of}
use Rattle.rules.specs.Shape.{may_be, may_stop}
use Rattle.rules.specs.declared.Field.{Field}
use Rattle.rules.specs.declared.Field.TheVariants.{Unused, Channel, PresentByte, Signal, Expression, FirstBranch, NextBranch, FirstCase, NextCase, Binder, Target}
use Rattle.texts.specs.Tokens.{Token, tokens}
use Rattle.texts.specs.Spelled.{same}
use Rattle.texts.specs.Spelling.{open₀, close₀, edition_named, kind_named}
use Rattle.texts.specs.Rows.{Row, Sofar, at_start, Got, got, stopped, ◌onward◌}
use Rattle.texts.specs.Steps.{next, given, is_plain_value, maybe_value}
use Rattle.texts.specs.Reader.{branch_names, begins, ends, Held, plainly, field, following, behind, form, constant_row, bare, wordly, node_f, title, ended, reading, read_text, places_in, node_place}
use Rattle.texts.specs.Comes.{reader, Within, in_a, in_b, in_c, behind_it, Comes, to_root, to_child, BeginsAt}
use Rattle.texts.specs.declared.Unread.TheVariants.{Word}
use Rattle.texts.proofs.Gives.{Claim}
use Rattle.texts.proofs.Decimals.{by_test}
use Rattle.texts.proofs.Whole.{plain_behind, next_behind}
use Rattle.texts.proofs.Yields.{Yields, yields, halts, then_yields, weaker, Quiet, next_yields, given_yields, expect_yields, target_yields, channel_yields, plain_shows, maybe_yields}
use Rattle.texts.proofs.HeadRead.{heading_yields}

-- What is given, and that it is.
pub itself : {A : Type 0} {P : Claim A} {r : Got A} → Yields P r → Yields (λ x ts so. P x ts so × (r ≡ got x ts so)) r
itself (yields p) = yields (p, refl)
itself halts = halts

-- An entry of two lists.
entry_left : (xs ys : List ℕ) (k d : ℕ) → k < length xs → get_or (xs ++ ys) k d ≡ get_or xs k d
entry_left [] ys k d l = absurd (omega arith)
entry_left (x ∷ xs) ys zero d l = refl
entry_left (x ∷ xs) ys (suc k) d l = entry_left xs ys k d (omega arith)

entry_right : (xs ys : List ℕ) (k d : ℕ) → get_or (xs ++ ys) (length xs + k) d ≡ get_or ys k d
entry_right [] ys k d = ap (λ (i : ℕ). get_or ys i d) (let e : 0 + k ≡ k = omega arith in e)
entry_right (x ∷ xs) ys k d = ap (λ (i : ℕ). get_or (x ∷ (xs ++ ys)) i d) (let e : suc (length xs) + k ≡ suc (length xs + k) = omega arith in e) ∙ entry_right xs ys k d

module _ (text : Bytes) where
  -- New rows have new places, each where the form of its number begins.
  record Placed (so so₁ : Sofar) : Type 0 where
    new : List ℕ
    places_are : so₁.places ≡ so.places ++ new
    rows_long : length so₁.rows ≡ length so.rows + length new
    each : (m : ℕ) → m < length new → BeginsAt text (length so.rows + m) (get_or new m 0)

  quiet_placed : {so so₁ : Sofar} → Quiet so so₁ → Placed so so₁
  quiet_placed {so} {so₁} q = record {
    new = [];
    places_are = q.places_same ∙ sym (append-nil so.places);
    rows_long = ap length q.rows_same ∙ omega arith;
    each = λ m l. absurd (omega arith);
  }

  same_placed : {so so₁ : Sofar} → so₁ ≡ so → Placed so so₁
  same_placed {so} {so₁} e = quiet_placed (subst (λ (z : Sofar). Quiet so z) (sym e) (record { rows_same = refl; begun_same = refl; places_same = refl }))

  placed_on : {so so₁ so₂ : Sofar} → Placed so so₁ → Placed so₁ so₂ → Placed so so₂
  placed_on {so} {so₁} {so₂} p q = record {
    new = p.new ++ q.new;
    places_are = q.places_are ∙ ap (λ (x : List ℕ). x ++ q.new) p.places_are ∙ append_assoc so.places p.new q.new;
    rows_long = (let a = p.rows_long in let b = q.rows_long in let c = length-append p.new q.new in omega arith);
    each = λ m l. by_side m l (dec_lt m (length p.new));
  }
    where
      by_side : (m : ℕ) → m < length (p.new ++ q.new) → Dec (m < length p.new) → BeginsAt text (length so.rows + m) (get_or (p.new ++ q.new) m 0)
      by_side m l (yes h) = subst (BeginsAt text (length so.rows + m)) (sym (entry_left p.new q.new m 0 h)) (p.each m h)
      by_side m l (no h) =
          let k = m - length p.new in
          let z : m ≡ length p.new + k = omega arith in
          let c = length-append p.new q.new in
          let e : get_or (p.new ++ q.new) m 0 ≡ get_or q.new k 0 = ap (λ (i : ℕ). get_or (p.new ++ q.new) i 0) z ∙ entry_right p.new q.new k 0 in
          let a = p.rows_long in
          let w : length so₁.rows + k ≡ length so.rows + m = omega arith in
          subst (BeginsAt text (length so.rows + m)) (sym e) (subst (λ (i : ℕ). BeginsAt text i (get_or q.new k 0)) w (q.each k (omega arith)))

  kept_placed : {so so₁ : Sofar} → so₁.rows ≡ so.rows → so₁.places ≡ so.places → Placed so so₁
  kept_placed {so} {so₁} e f = record {
    new = [];
    places_are = f ∙ sym (append-nil so.places);
    rows_long = ap length e ∙ omega arith;
    each = λ m l. absurd (omega arith);
  }

  -- A node ends.
  record Ended (so : Sofar) (x at : ℕ) (so₁ : Sofar) : Type 0 where
    so₀ : Sofar
    inner : Placed so so₀
    places_are : so₁.places ≡ so₀.places ++ at ∷ []
    rows_long : length so₁.rows ≡ suc (length so₀.rows)
    number : x ≡ length so₀.rows

  ends_placed : {so so₀ : Sofar} → Placed so so₀ → (at : ℕ) (r : Row) (ts : List Token) → Yields (λ x rest so₁. Ended so x at so₁) (ends at r ts so₀)
  unfolding ends
  ends_placed {so} {so₀} p at r ts = yields (record {
    so₀ = so₀;
    inner = p;
    places_are = refl;
    rows_long = length-append so₀.rows (r ∷ []) ∙ omega arith;
    number = refl;
  })

  -- A node that is read where the reader comes.
  abbrev PlacesRead : ℕ → Type 0
  PlacesRead g = (f : Field) (ts : List Token) (so : Sofar) → Comes text g f ts so → Yields (λ x rest so₁. Placed so so₁) (reader text g f ts so)

  module _ (g : ℕ) (reads : PlacesRead g) where
    child_places : (f : Field) (ts : List Token) (so : Sofar) → Comes text g f ts so → Yields (λ (h : Held) rest so₁. Placed so so₁) (plainly (reader text g f ts so))
    unfolding plainly
    child_places f ts so c = then_yields _ (reads f ts so c) (λ x ts₁ so₁ p. yields p)

    field_places : (f : Field) (present : ℕ) (ts : List Token) (so : Sofar) → Comes text g f ts so
        → Yields (λ (h : Held) rest so₁. Placed so so₁) (field (reader text g) (branch_names (tokens text)) f present (length text) ts so)
    unfolding field plainly
    field_places Unused present ts so c = yields (same_placed refl)
    field_places Channel present ts so c = then_yields _ (channel_yields (length text) ts so) (λ x ts₁ so₁ p. yields (same_placed p.1))
    field_places PresentByte present ts so c = yields (same_placed refl)
    field_places Signal present ts so c = child_places Signal ts so c
    field_places Expression present ts so c = child_places Expression ts so c
    field_places FirstBranch present ts so c = child_places FirstBranch ts so c
    field_places NextBranch present ts so c = yields (same_placed refl)
    field_places FirstCase present ts so c = child_places FirstCase ts so c
    field_places NextCase present ts so c = yields (same_placed refl)
    field_places Binder present ts so c = yields (same_placed refl)
    field_places Target present ts so c = then_yields _ (target_yields (branch_names (tokens text)) (length text) ts so) (λ w ts₁ so₁ e. yields (same_placed e))

    following_places : (f : Field) (ts : List Token) (so : Sofar) → Comes text g f ts so → Yields (λ x rest so₁. Placed so so₁) (following (reader text g) f ts so)
    unfolding following
    following_places f [] so c = reads f [] so c
    following_places f (t ∷ ts) so c =
        by_test (same t.word close₀) (λ u. rw (u, following) (yields (same_placed refl))) (λ u. rw (u, following) (reads f (t ∷ ts) so c))

    behind_places : (f : Field) (x : ℕ) (ts : List Token) (so : Sofar) → Comes text g f ts so → Yields (λ y rest so₁. Placed so so₁) (behind (reader text g) f x ts so)
    behind_places f x ts so c =
        by_test (may_stop f)
        (λ some. rw (next_behind f some (reader text g) x ts so) (following_places f ts so c))
        (λ none. rw (plain_behind f none (reader text g) x ts so) (yields (same_placed refl)))

    -- A form, behind its kind's word.
    form_places : (at k : ℕ) (ts : List Token) (so so₀ : Sofar) → Placed so so₀
        → ((f : Field) (ts₁ : List Token) (so₁ : Sofar) → Within text g k ts so₀ f ts₁ so₁ → Comes text g f ts₁ so₁)
        → Yields (λ x rest so₁. Ended so x at so₁) (form (reader text g) (branch_names (tokens text)) (length text) at k ts so₀)
    unfolding form
    form_places at k ts so so₀ p₀ within =
        then_yields _ (itself (heading_yields k (length text) ts so₀)) (λ h ts₁ so₁ p.
        then_yields _ (itself (field_places (fields_of k).a h.present ts₁ so₁ (within _ _ _ (in_a p.1)))) (λ a ts₂ so₂ A.
        then_yields _ (itself (field_places (fields_of k).b h.present ts₂ so₂ (within _ _ _ (in_b p.1 A.1)))) (λ b ts₃ so₃ B.
        then_yields _ (itself (field_places (fields_of k).c h.present ts₃ so₃ (within _ _ _ (in_c p.1 A.1 B.1)))) (λ c ts₄ so₄ C.
        then_yields _ (itself (expect_yields close₀ (length text) ts₄ so₄)) (λ u ts₅ so₅ e.
        then_yields _ (behind_places (fields_of k).b b.number ts₅ so₅ (within _ _ _ (behind_it p.1 A.1 B.1 C.1 e.1))) (λ x ts₆ so₆ D.
        ends_placed (placed_on p₀ (placed_on (quiet_placed p.0.1) (placed_on A.0 (placed_on B.0 (placed_on C.0 (placed_on (same_placed e.0) D)))))) at _ ts₆))))))

  -- The first word, and a node that begins.
  first_yields : (finish : ℕ) (ts : List Token) (so : Sofar) → Yields (λ (t : Token) rest so₁. (ts ≡ t ∷ rest) × (so₁ ≡ so)) (next finish ts so)
  unfolding next
  first_yields finish [] so = halts
  first_yields finish (t ∷ ts) so = yields (refl, refl)

  begins_places : (finish : ℕ) (ts : List Token) (so : Sofar) → Yields (λ u rest so₀. (rest ≡ ts) × Placed so so₀) (begins finish ts so)
  unfolding begins
  begins_places finish ts so =
      by_test (ltb so.begun most_nodes) (λ t. rw (t, begins) (yields (refl, kept_placed refl refl))) (λ t. rw (t, begins) halts)

  bare_places : (t : Token) (finish : ℕ) (ts : List Token) (so so₀ : Sofar) → Placed so so₀ → Yields (λ x rest so₁. Ended so x t.at so₁) (bare t finish ts so₀)
  unfolding bare
  bare_places t finish ts so so₀ p =
      by_test (is_plain_value t.word)
      (λ u. rw (u, bare) (then_yields _ (plain_shows t finish ts so₀) (λ v ts₁ so₁ s. ends_placed (placed_on p (same_placed s.1)) t.at _ ts₁)))
      (λ u. rw (u, bare) (then_yields _ (given_yields _ _ ts so₀) (λ x ts₁ so₁ a. then_yields _ (given_yields _ _ ts₁ so₁) (λ y ts₂ so₂ b.
      ends_placed (placed_on p (same_placed (b.1 ∙ a.1))) t.at _ ts₂))))

  by_word : (g : ℕ) (reads : PlacesRead g) (f : Field) (at : ℕ) (u : Token) (so so₀ : Sofar) → Placed so so₀ → (x : Option ℕ) → kind_named f u.word ≡ x → (ts : List Token)
      → ((k : ℕ) → x ≡ Some k → (f₁ : Field) (ts₁ : List Token) (so₁ : Sofar) → Within text g k ts so₀ f₁ ts₁ so₁ → Comes text g f₁ ts₁ so₁)
      → Yields (λ y rest so₁. Ended so y at so₁)
      (elim x [
        | Some k ↦ form (reader text g) (branch_names (tokens text)) (length text) at k ts so₀
        | None ↦
            given (may_be f 17) (Word u.at) ts so₀ onward λ _ ts so. maybe_value u (length text) ts so onward λ v ts so. ends at (constant_row v) ts so
      ])
  by_word g reads f at u so so₀ p (Some k) e ts within = form_places g reads at k ts so so₀ p (within k refl)
  by_word g reads f at u so so₀ p None e ts within =
      then_yields _ (given_yields _ _ ts so₀) (λ x ts₁ so₁ a.
      then_yields _ (maybe_yields u (length text) ts₁ so₁) (λ v ts₂ so₂ b. ends_placed (placed_on p (same_placed (b.1 ∙ a.1))) at _ ts₂))

  -- The node's own word.
  record OwnWord (ts : List Token) (so : Sofar) (x : ℕ) (so₁ : Sofar) : Type 0 where
    first : Token
    more : List Token
    is : ts ≡ first ∷ more
    ended : Ended so x first.at so₁

  module _ (g : ℕ) (f : Field) (ts : List Token) (so : Sofar) (c : Comes text g f ts so) (x : ℕ) (rest : List Token) (so₁ : Sofar)
      (own : OwnWord ts so x so₁) (got-so : reader text g f ts so ≡ got x rest so₁) where
    own_place : Placed own.ended.so₀ so₁
    own_place = record {
      new = own.first.at ∷ [];
      places_are = own.ended.places_are;
      rows_long = own.ended.rows_long ∙ omega arith;
      each = λ m l. one m l;
    }
      where
        one : (m : ℕ) → m < 1 → BeginsAt text (length own.ended.so₀.rows + m) (get_or (own.first.at ∷ []) m 0)
        one zero l = record {
          level = g;
          sort = f;
          first = own.first;
          more = own.more;
          so = so;
          comes = subst (λ (z : List Token). Comes text g f z so) own.is c;
          rest = rest;
          so₁ = so₁;
          reads =
              ap (λ (z : List Token). reader text g f z so) (sym own.is) ∙ got-so
              ∙ ap (λ (k : ℕ). got k rest so₁) (own.ended.number ∙ (let e : length own.ended.so₀.rows ≡ length own.ended.so₀.rows + 0 = omega arith in e));
          here = refl;
        }
        one (suc m) l = absurd (omega arith)

    all_placed : Placed so so₁
    all_placed = placed_on own.ended.inner own_place

  own_word : (g : ℕ) → PlacesRead g → (f : Field) (ts : List Token) (so : Sofar) → Comes text (suc g) f ts so → Yields (λ x rest so₁. OwnWord ts so x so₁) (reader text (suc g) f ts so)
  unfolding node_f wordly
  own_word g reads f ts so c =
      then_yields _ (itself (begins_places (length text) ts so)) (λ u ts₀ so₀ b.
      then_yields _ (itself (first_yields (length text) ts₀ so₀)) (λ t ts₂ so₂ n.
      let is : ts ≡ t ∷ ts₂ = sym b.0.0 ∙ n.0.0 in
      let p = placed_on b.0.1 (same_placed n.0.1) in
      by_test (same t.word open₀)
      (λ o. rw o (then_yields _ (itself (first_yields (length text) ts₂ so₂)) (λ w ts₃ so₃ m.
      weaker (by_word g reads f t.at w so so₃ (placed_on p (same_placed m.0.1)) (kind_named f w.word) refl ts₃
      (λ k e f₁ ts₄ so₄ inside. to_child c
      (record { ts₀ = ts₀; so₀ = so₀; begun = b.1; mark = t; ts₂ = ts₂; so₂ = so₂; marked = n.1; opens = o; word = w; worded = m.1; named = e }) inside))
      (λ x rest so₁ d. record { first = t; more = ts₂; is = is; ended = d }))))
      (λ o. rw o (then_yields _ (given_yields _ _ ts₂ so₂) (λ w ts₃ so₃ m.
      weaker (bare_places t (length text) ts₃ so so₃ (placed_on p (same_placed m.1))) (λ x rest so₁ d. record { first = t; more = ts₂; is = is; ended = d }))))))

  node_places : (g : ℕ) → PlacesRead g
  unfolding node_f
  node_places zero f ts so c = halts
  node_places (suc g) f ts so c =
      weaker (itself (own_word g (node_places g) f ts so c)) (λ x rest so₁ d. all_placed (suc g) f ts so c x rest so₁ d.0 d.1)

  -- A whole text.
  title_places : (finish : ℕ) (ts : List Token) (so : Sofar) → Yields (λ (e : ℕ) rest so₁. so₁ ≡ so) (title finish ts so)
  unfolding title
  title_places finish ts so = then_yields _ (next_yields finish ts so) (λ t ts₁ so₁ e. by_edition t.at (edition_named t.word) ts₁ so₁ e)
    where
      by_edition : (at : ℕ) (x : Option ℕ) (ts₁ : List Token) (so₁ : Sofar) → so₁ ≡ so
          → Yields (λ (e : ℕ) rest so₂. so₂ ≡ so) (elim x [ Some e ↦ got e ts₁ so₁ | None ↦ stopped (Word at) ])
      by_edition at (Some e) ts₁ so₁ z = yields z
      by_edition at None ts₁ so₁ z = halts

  record AllPlaced (so : Sofar) : Type 0 where
    long : length so.places ≡ length so.rows
    each : (n : ℕ) → n < length so.rows → BeginsAt text n (get_or so.places n 0)

  from_start : (so₀ so : Sofar) → so₀ ≡ at_start → Placed so₀ so → AllPlaced so
  unfolding at_start
  from_start so₀ so z p =
      let all : so.places ≡ p.new = p.places_are ∙ ap (λ (x : Sofar). x.places ++ p.new) z in
      let none : length so₀.rows ≡ 0 = ap (λ (x : Sofar). length x.rows) z in
      let many = p.rows_long in
      let l = ap length all in
      record {
        long = omega arith;
        each = λ n h.
            subst (λ (k : ℕ). BeginsAt text k (get_or so.places n 0)) (let e : length so₀.rows + n ≡ n = omega arith in e)
            (subst (BeginsAt text (length so₀.rows + n)) (ap (λ (x : List ℕ). get_or x n 0) (sym all)) (p.each n (omega arith)));
      }

  ended_places : (e : ℕ) (rest : List Token) (so : Sofar) → AllPlaced so → Yields (λ x ts so₁. AllPlaced so₁) (ended e rest so)
  unfolding ended
  ended_places e [] so p = yields p
  ended_places e (t ∷ ts) so p = halts

  text_places : Yields (λ x ts so. AllPlaced so) (read_text text)
  unfolding read_text reading
  text_places =
      then_yields _ (itself (title_places (length text) (tokens text) at_start)) (λ e ts₁ so₁ p.
      then_yields _ (node_places 1009 Signal ts₁ so₁ (to_root p.1)) (λ n ts₂ so₂ d. ended_places e ts₂ so₂ (from_start so₁ so₂ p.0 d)))

  of_got : {r : Got ℕ} → Yields (λ x ts so. AllPlaced so) r → (e : ℕ) (rest : List Token) (so : Sofar) → r ≡ got e rest so → AllPlaced so
  of_got {r} y e rest so z = at_got (subst (Yields (λ x ts so. AllPlaced so)) z y)
    where
      at_got : Yields (λ x ts so. AllPlaced so) (got e rest so) → AllPlaced so
      at_got (yields d) = d

  default : (xs : List ℕ) (n d₁ d₂ : ℕ) → n < length xs → get_or xs n d₁ ≡ get_or xs n d₂
  default [] n d₁ d₂ l = absurd (omega arith)
  default (x ∷ xs) zero d₁ d₂ l = refl
  default (x ∷ xs) (suc n) d₁ d₂ l = default xs n d₁ d₂ (omega arith)

  -- The position of a node's number is that of the word or parenthesis with which its form begins.
  pub begins_there : (e : ℕ) (rest : List Token) (so : Sofar) → read_text text ≡ got e rest so → (n : ℕ) → n < length so.rows → BeginsAt text n (node_place text n)
  unfolding node_place places_in
  begins_there e rest so z n l =
      let a = of_got text_places e rest so z in
      subst (BeginsAt text n) (default so.places n 0 (length text) (omega (arith, a.long)) ∙ ap (λ (r : Got ℕ). get_or (places_in r) n (length text)) (sym z)) (a.each n l)

  -- A place for each row.
  pub places_long : (e : ℕ) (rest : List Token) (so : Sofar) → read_text text ≡ got e rest so → length so.places ≡ length so.rows
  places_long e rest so z = (of_got text_places e rest so z).long
