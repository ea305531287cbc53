-- Every laid out node is read from the words that are printed of it: by its parts.
-- Assumes nothing.
use Rattle.std.specs.Prelude.{Some}
use mathlib.Core.Path.{◌≡◌, refl, sym, ap, subst, ◌∙◌}
use mathlib.Core.Bool.{Bool, true, false}
use mathlib.Core.List.{List, [], ◌∷◌, ◌++◌, nil≢cons, head-eq_of_cons-eq}
use Prim.Native.Nat.{ℕ, zero, suc, ◌+◌, ◌<◌, ◌≤◌}
use native.Mathlib.Omega.{arith}
use lib.Dec.{eqb}
use borrow.Author.Tests.{lt-ltb, eq-eqb, ne_eqb}
use Rattle.rules.specs.Bytes.{Bytes, ◌and◌}
use Rattle.rules.specs.Layout.{kind_at, no_next}
use Rattle.rules.specs.Shape.{may_stop}
use Rattle.rules.specs.declared.Field.{Field}
use Rattle.rules.specs.declared.Field.TheVariants.{Unused, Channel, PresentByte, Signal, Expression, FirstBranch, NextBranch, FirstCase, NextCase, Binder, Target}
use Rattle.texts.specs.Tokens.{Token}
use Rattle.texts.specs.Spelled.{same, is_among}
use Rattle.texts.specs.Spelling.{open₀, close₀, kind_word, kind_named}
use Rattle.texts.specs.Rows.{Sofar, Got, got}
use Rattle.texts.specs.Steps.{channel}
use Rattle.texts.specs.Numerals.{is_number, in_range, word_of, decimal}
use Rattle.texts.specs.Reader.{Held, plainly, field, following, behind, form, wordly, node_f}
use Rattle.texts.specs.Printer.{Piece, spaced, tight, branch_name, field_pieces, behind_pieces, Pieces, pieces_f}
use Rattle.texts.proofs.Gives.{false≢true, words, Claim, Gives, gives, then_gives, after_next, after_given, after_target}
use Rattle.texts.proofs.Decimals.{at_least}
use Rattle.texts.proofs.ValueLaws.{spellings}
use Rattle.texts.proofs.NameLaws.{branch_is_name}
use Rattle.texts.proofs.Laid.{Opens, is_list, inner_of, name_of, Laid, variable_laid, constant_laid, form_laid, Kid, unused_kid, channel_kid, present_kid, signal_kid, expression_kid, first_branch_kid, first_case_kid, next_branch_kid, next_case_kid, target_kid, After, none_after, last_after, next_after}
use Rattle.texts.proofs.NodeLaws.{is_taken, taken_same, State, Known, Above, Free, Frame, Closing, Aims, Done, NodeReads, KidReads, AfterReads, form_reads, after_begins, pieces_at, as_form, opening_word}
use Rattle.texts.proofs.Leaves.{variable_reads, constant_reads, begun_state}

-- Parts stand one behind the other.
mutual
  pub laid_le : {q : Bytes} {targets opens : Opens} {f : Field} {i n : ℕ} → Laid q targets opens f i n → i ≤ n
  laid_le (variable_laid is o l e₁ e₂ e₃ e₄) = omega arith
  laid_le (constant_laid is fits e₁ e₂) = omega arith
  laid_le (form_laid k is e₁ e₂ named w lists in_List head ka kb kc kd) = omega (arith, kid_le ka, kid_le kb, kid_le kc, after_le kd)

  pub kid_le : {q : Bytes} {targets opens : Opens} {f : Field} {n x p i j : ℕ} → Kid q targets opens f n x p i j → i ≤ j
  kid_le (unused_kid e) = omega arith
  kid_le (channel_kid l) = omega arith
  kid_le (present_kid e) = omega arith
  kid_le (signal_kid l t) = omega (arith, laid_le t)
  kid_le (expression_kid l t) = omega (arith, laid_le t)
  kid_le (first_branch_kid l t) = omega (arith, laid_le t)
  kid_le (first_case_kid l t) = omega (arith, laid_le t)
  kid_le next_branch_kid = omega arith
  kid_le next_case_kid = omega arith
  kid_le (target_kid e) = omega arith

  pub after_le : {q : Bytes} {targets opens : Opens} {f : Field} {n x i j : ℕ} → After q targets opens f n x i j → i ≤ j
  after_le (none_after e u) = omega arith
  after_le (last_after e u) = omega arith
  after_le (next_after e l t) = omega (arith, laid_le t)

-- A channel.
channel_reads : (finish x : ℕ) (W : List Bytes) (ts : List Token) (so : Sofar) → x < 8 → words ts ≡ decimal x ∷ W
    → Gives (λ v rest so₁. (v ≡ x) × (words rest ≡ W) × (so₁ ≡ so)) (channel finish ts so)
unfolding channel ◌and◌
channel_reads finish x W ts so l e =
    let m = at_least x (omega arith) in
    after_next _ (decimal x) W finish ts so e (λ t rest here left.
    after_given _ _ _ rest so (ap is_number here ∙ m.number)
    (after_given _ _ _ rest so (rw (ap word_of here ∙ m.word, lt-ltb x 8 l) (ap in_range here ∙ m.range))
    (gives (ap word_of here ∙ m.word, left, refl))))

-- A node with a word, from its opening parenthesis.
module _ (q : Bytes) (names : List Bytes) (finish : ℕ) (opens : Opens) (f : Field) (i n k : ℕ) (h : i ≤ n)
    (is : kind_at q n ≡ k) (e₁ : eqb k 16 ≡ false) (e₂ : eqb k 17 ≡ false) (named : kind_named f (kind_word k) ≡ Some k) where
  opened_reads : ((g G depth d at : ℕ) (ts : List Token) (so so₀ : Sofar) (W : List Bytes) → n ≤ g → g ≤ G
      → words ts ≡ spellings (Rattle.texts.specs.Printer.form_pieces (pieces_f g q (suc depth)) (pieces_f g q depth false) q k n) ++ W → Closing f W
      → State q i (suc d) so → Known opens so → Above opens (suc n) → Free i (suc n) so → n + d < 1008 → Frame (suc n) so₀ so
      → Gives (Done q n d so₀ W) (form (node_f G names finish) names finish at k ts so)) → NodeReads q names finish opens f i n
  unfolding node_f wordly tight same ◌and◌
  opened_reads body zero G depth d isFirst ts so W l l₁ e closing state known above free room = absurd (omega arith)
  opened_reads body (suc g) zero depth d isFirst ts so W l l₁ e closing state known above free room = absurd (omega arith)
  opened_reads body (suc g) (suc G) depth d isFirst ts so W l l₁ e closing state known above free room =
      let so₁ : Sofar = record { begun = suc so.begun; rows = so.rows; places = so.places; variables = so.variables; labels = so.labels } in
      let known₁ : Known opens so₁ = λ m o. known m o in
      let free₁ : Free i (suc n) so₁ = λ s m b c. taken_same s m so so₁ refl refl ∙ free s m b c in
      after_begins _ finish ts so (omega (arith, state.begun_is))
      (after_next _ open₀ _ finish ts so₁
      (e ∙ ap (λ (x : List Piece). spellings x ++ W) (pieces_at g q depth isFirst f n k is ∙ as_form _ _ q depth isFirst f n k e₁ e₂)
      ∙ ap {B = List Bytes} (λ (w : Bytes). w ∷ kind_word k ∷ (spellings (Rattle.texts.specs.Printer.form_pieces (pieces_f g q (suc depth)) (pieces_f g q depth false) q k n) ++ W)) (opening_word f isFirst k depth))
      (λ t rest here left. rw (ap (λ (v : Bytes). same v open₀) here) (after_next _ _ _ finish rest so₁ left (λ u rest₁ here₁ left₁.
      rw (ap (kind_named f) here₁ ∙ named, wordly)
      (body g G depth d t.at rest₁ so₁ so W (omega arith) (omega arith) left₁ closing (begun_state q i d so state) known₁ above free₁ room (λ s m b c. taken_same s m so so₁ refl refl))))))

-- A field, by what it is.
module _ (q : Bytes) (names : List Bytes) (finish : ℕ) (opens : Opens) (n x p i : ℕ) where
  unused_reads : x ≡ 0 → KidReads q names finish opens Unused n x p i i
  unfolding field field_pieces inner_of name_of
  unused_reads e₀ g G depth d isFirst ts so W l l₁ e closing state known above free room = gives (ap (λ (y : ℕ). record { number = y; name = [] }) (sym e₀), e, state, (λ s m b h. refl))

  present_reads : x ≡ p → KidReads q names finish opens PresentByte n x p i i
  unfolding field field_pieces inner_of name_of
  present_reads e₀ g G depth d isFirst ts so W l l₁ e closing state known above free room = gives (ap (λ (y : ℕ). record { number = y; name = [] }) (sym e₀), e, state, (λ s m b h. refl))

  channel_kid_reads : x < 8 → KidReads q names finish opens Channel n x p i i
  unfolding field field_pieces spaced inner_of name_of plainly
  channel_kid_reads l₀ g G depth d isFirst ts so W l l₁ e closing state known above free room =
      then_gives _ (channel_reads finish x W ts so l₀ e) (λ v rest so₁ c.
      gives (ap (λ (y : ℕ). record { number = y; name = [] }) c.0, c.1, subst (State q i d) (sym c.2) state, (λ s m b h. ap (λ (z : Sofar). is_taken s m z) c.2)))

  next_branch_reads : KidReads q names finish opens NextBranch n x p i i
  unfolding field field_pieces inner_of name_of
  next_branch_reads g G depth d isFirst ts so W l l₁ e closing state known above free room = gives (refl, e, state, (λ s m b h. refl))

  next_case_reads : KidReads q names finish opens NextCase n x p i i
  unfolding field field_pieces inner_of name_of
  next_case_reads g G depth d isFirst ts so W l l₁ e closing state known above free room = gives (refl, e, state, (λ s m b h. refl))

  target_reads : is_among (branch_name x) names ≡ true → KidReads q names finish opens Target n x p i i
  unfolding field field_pieces spaced inner_of name_of
  target_reads among g G depth d isFirst ts so W l l₁ e closing state known above free room =
      after_target _ names (branch_name x) W finish ts so e (branch_is_name x) among (λ rest left. gives (refl, left, state, (λ s m b h. refl)))

  -- A child.
  child_reads : (f : Field) → x < n → NodeReads q names finish opens f i x
      → (g G depth d : ℕ) (isFirst : Bool) (ts : List Token) (so : Sofar) (W : List Bytes) → n ≤ g → g ≤ G
      → words ts ≡ spellings (pieces_f g q depth isFirst f x) ++ W → Closing f W
      → State q i d so → Known opens so → Above opens n → Free i n so → n + d ≤ 1008
      → Gives (λ (v : Held) rest so₁. (v ≡ record { number = x; name = [] }) × (words rest ≡ W) × State q (suc x) d so₁ × Frame (suc x) so so₁) (plainly (node_f G names finish f ts so))
  unfolding plainly
  child_reads f l₀ node g G depth d isFirst ts so W l l₁ e closing state known above free room =
      then_gives _
      (node g G depth d isFirst ts so W (omega arith) l₁ e closing state known (λ m o. (omega (arith, (above m o).0), (above m o).1)) (λ s m c u. free s m c (omega arith)) (omega arith))
      (λ v rest so₁ z. gives (ap (λ (y : ℕ). record { number = y; name = [] }) z.0, z.1, z.2, z.3))

  signal_reads : x < n → NodeReads q names finish opens Signal i x → KidReads q names finish opens Signal n x p i (suc x)
  unfolding field field_pieces inner_of name_of may_stop
  signal_reads l₀ node g G depth d isFirst ts so W l l₁ e closing state known above free room = child_reads Signal l₀ node g G depth d isFirst ts so W l l₁ e (closing refl) state known above free room

  expression_reads : x < n → NodeReads q names finish opens Expression i x → KidReads q names finish opens Expression n x p i (suc x)
  unfolding field field_pieces inner_of name_of may_stop
  expression_reads l₀ node g G depth d isFirst ts so W l l₁ e closing state known above free room = child_reads Expression l₀ node g G depth d isFirst ts so W l l₁ e (closing refl) state known above free room

  first_branch_reads : x < n → NodeReads q names finish opens FirstBranch i x → KidReads q names finish opens FirstBranch n x p i (suc x)
  unfolding field field_pieces inner_of name_of may_stop
  first_branch_reads l₀ node g G depth d isFirst ts so W l l₁ e closing state known above free room = child_reads FirstBranch l₀ node g G depth d isFirst ts so W l l₁ e (closing refl) state known above free room

  first_case_reads : x < n → NodeReads q names finish opens FirstCase i x → KidReads q names finish opens FirstCase n x p i (suc x)
  unfolding field field_pieces inner_of name_of may_stop
  first_case_reads l₀ node g G depth d isFirst ts so W l l₁ e closing state known above free room = child_reads FirstCase l₀ node g G depth d isFirst ts so W l l₁ e (closing refl) state known above free room

-- Behind the parentheses.
pub plain_behind : (f : Field) → may_stop f ≡ false → (node : Field → List Token → Sofar → Got ℕ) (y : ℕ) (ts : List Token) (so : Sofar) → behind node f y ts so ≡ got y ts so
unfolding behind may_stop
plain_behind Unused e node y ts so = refl
plain_behind Channel e node y ts so = refl
plain_behind PresentByte e node y ts so = refl
plain_behind Signal e node y ts so = refl
plain_behind Expression e node y ts so = refl
plain_behind FirstBranch e node y ts so = refl
plain_behind NextBranch e node y ts so = absurd (false≢true (sym e))
plain_behind FirstCase e node y ts so = refl
plain_behind NextCase e node y ts so = absurd (false≢true (sym e))
plain_behind Binder e node y ts so = refl
plain_behind Target e node y ts so = refl

pub plain_pieces : (f : Field) → may_stop f ≡ false → (sibling : Pieces) (y : ℕ) → behind_pieces sibling f y ≡ []
unfolding behind_pieces may_stop
plain_pieces Unused e sibling y = refl
plain_pieces Channel e sibling y = refl
plain_pieces PresentByte e sibling y = refl
plain_pieces Signal e sibling y = refl
plain_pieces Expression e sibling y = refl
plain_pieces FirstBranch e sibling y = refl
plain_pieces NextBranch e sibling y = absurd (false≢true (sym e))
plain_pieces FirstCase e sibling y = refl
plain_pieces NextCase e sibling y = absurd (false≢true (sym e))
plain_pieces Binder e sibling y = refl
plain_pieces Target e sibling y = refl

-- A list's next is read by following.
pub next_behind : (f : Field) → may_stop f ≡ true → (node : Field → List Token → Sofar → Got ℕ) (y : ℕ) (ts : List Token) (so : Sofar) → behind node f y ts so ≡ following node f ts so
unfolding behind may_stop
next_behind Unused e node y ts so = absurd (false≢true e)
next_behind Channel e node y ts so = absurd (false≢true e)
next_behind PresentByte e node y ts so = absurd (false≢true e)
next_behind Signal e node y ts so = absurd (false≢true e)
next_behind Expression e node y ts so = absurd (false≢true e)
next_behind FirstBranch e node y ts so = absurd (false≢true e)
next_behind NextBranch e node y ts so = refl
next_behind FirstCase e node y ts so = absurd (false≢true e)
next_behind NextCase e node y ts so = refl
next_behind Binder e node y ts so = absurd (false≢true e)
next_behind Target e node y ts so = absurd (false≢true e)

next_pieces : (f : Field) → may_stop f ≡ true → (sibling : Pieces) (y : ℕ) → behind_pieces sibling f y ≡ elim (eqb y no_next) [ true ↦ [] | false ↦ sibling f y ]
unfolding behind_pieces may_stop
next_pieces Unused e sibling y = absurd (false≢true e)
next_pieces Channel e sibling y = absurd (false≢true e)
next_pieces PresentByte e sibling y = absurd (false≢true e)
next_pieces Signal e sibling y = absurd (false≢true e)
next_pieces Expression e sibling y = absurd (false≢true e)
next_pieces FirstBranch e sibling y = absurd (false≢true e)
next_pieces NextBranch e sibling y = refl
next_pieces FirstCase e sibling y = absurd (false≢true e)
next_pieces NextCase e sibling y = refl
next_pieces Binder e sibling y = absurd (false≢true e)
next_pieces Target e sibling y = absurd (false≢true e)

pub last_pieces : (f : Field) (x : ℕ) → may_stop f ≡ true → x ≡ no_next → (sibling : Pieces) → behind_pieces sibling f x ≡ []
last_pieces f x e u sibling = next_pieces f e sibling x ∙ rw (eq-eqb x no_next u) refl

pub some_pieces : (f : Field) (x : ℕ) → may_stop f ≡ true → x < 1008 → (sibling : Pieces) → behind_pieces sibling f x ≡ sibling f x
some_pieces f x e l sibling = next_pieces f e sibling x ∙ rw (ne_eqb x no_next (λ z. omega arith)) refl

next_list : (f : Field) → may_stop f ≡ true → is_list f ≡ true
unfolding may_stop is_list
next_list Unused e = e
next_list Channel e = e
next_list PresentByte e = e
next_list Signal e = e
next_list Expression e = e
next_list FirstBranch e = refl
next_list NextBranch e = refl
next_list FirstCase e = refl
next_list NextCase e = refl
next_list Binder e = e
next_list Target e = e

-- A list's item begins with an open parenthesis.
starts_open : {q : Bytes} {targets opens : Opens} {f : Field} {i x : ℕ} → Laid q targets opens f i x → is_list f ≡ true → (g depth : ℕ) (isFirst : Bool) (W : List Bytes) → x < g
    → (W₁ : List Bytes) × (spellings (pieces_f g q depth isFirst f x) ++ W ≡ open₀ ∷ W₁)
unfolding is_list tight
starts_open (variable_laid is o l e₁ e₂ e₃ e₄) u g depth isFirst W h = absurd (false≢true u)
starts_open (constant_laid is fits e₁ e₂) u g depth isFirst W h = absurd (false≢true u)
starts_open {q} {targets} {opens} {f} {i} {x} (form_laid k is e₁ e₂ named w lists in_List head ka kb kc kd) u zero depth isFirst W h = absurd (omega arith)
starts_open {q} {targets} {opens} {f} {i} {x} (form_laid k is e₁ e₂ named w lists in_List head ka kb kc kd) u (suc g) depth isFirst W h = (
  _,
  ap (λ (y : List Piece). spellings y ++ W) (pieces_at g q depth isFirst f x k is ∙ as_form _ _ q depth isFirst f x k e₁ e₂)
      ∙ ap {B = List Bytes} (λ (v : Bytes). v ∷ kind_word k ∷ (spellings (Rattle.texts.specs.Printer.form_pieces (pieces_f g q (suc depth)) (pieces_f g q depth false) q k x) ++ W)) (opening_word f isFirst k depth),
)

-- A closing parenthesis ends the list; an open one goes on with it.
list_ends : {Q : Claim ℕ} (node : Field → List Token → Sofar → Got ℕ) (f : Field) (W : List Bytes) (ts : List Token) (so : Sofar) → words ts ≡ close₀ ∷ W → Q no_next ts so → Gives Q (following node f ts so)
unfolding following same ◌and◌
list_ends node f W [] so e h = absurd (nil≢cons e)
list_ends node f W (t ∷ ts) so e h = rw (ap (λ (v : Bytes). same v close₀) (head-eq_of_cons-eq e), following) (gives h)

list_goes_on : {Q : Claim ℕ} (node : Field → List Token → Sofar → Got ℕ) (f : Field) (W : List Bytes) (ts : List Token) (so : Sofar) → words ts ≡ open₀ ∷ W → Gives Q (node f ts so) → Gives Q (following node f ts so)
unfolding following same ◌and◌
list_goes_on node f W [] so e h = absurd (nil≢cons e)
list_goes_on node f W (t ∷ ts) so e h = rw (ap (λ (v : Bytes). same v close₀) (head-eq_of_cons-eq e), following) h

module _ (q : Bytes) (names : List Bytes) (finish : ℕ) (opens : Opens) (f : Field) (n x i : ℕ) where
  none_after_reads : may_stop f ≡ false → inner_of f x ≡ x → AfterReads q names finish opens f n x i i
  none_after_reads e₀ u g G depth d ts so W l l₁ e closing state known above free room =
      rw (plain_behind f e₀ (node_f G names finish) (inner_of f x) ts so)
      (gives (u, e ∙ ap (λ (y : List Piece). spellings y ++ W) (plain_pieces f e₀ (pieces_f g q depth false) x), state, (λ s m b h. refl)))

  last_after_reads : may_stop f ≡ true → x ≡ no_next → AfterReads q names finish opens f n x i i
  last_after_reads e₀ u g G depth d ts so W l l₁ e closing state known above free room =
      let c = closing e₀ in
      let none : behind_pieces (pieces_f g q depth false) f x ≡ [] = last_pieces f x e₀ u (pieces_f g q depth false) in
      let left : words ts ≡ W = e ∙ ap (λ (y : List Piece). spellings y ++ W) none in
      rw (next_behind f e₀ (node_f G names finish) (inner_of f x) ts so)
      (list_ends (node_f G names finish) f c.0 ts so (left ∙ c.1) (sym u, left, state, (λ s m b h. refl)))

  next_after_reads : may_stop f ≡ true → x < n → ((g depth : ℕ) (isFirst : Bool) (W : List Bytes) → x < g → (W₁ : List Bytes) × (spellings (pieces_f g q depth isFirst f x) ++ W ≡ open₀ ∷ W₁))
      → NodeReads q names finish opens f i x → AfterReads q names finish opens f n x i (suc x)
  next_after_reads e₀ l₀ opened node g G depth d ts so W l l₁ e closing state known above free room =
      let some : behind_pieces (pieces_f g q depth false) f x ≡ pieces_f g q depth false f x = some_pieces f x e₀ (omega arith) (pieces_f g q depth false) in
      let left : words ts ≡ spellings (pieces_f g q depth false f x) ++ W = e ∙ ap (λ (y : List Piece). spellings y ++ W) some in
      let o = opened g depth false W (omega arith) in
      rw (next_behind f e₀ (node_f G names finish) (inner_of f x) ts so)
      (list_goes_on (node_f G names finish) f o.0 ts so (left ∙ o.1)
      (node g G depth d false ts so W (omega arith) l₁ left (λ _. closing e₀) state known (λ m a. (omega (arith, (above m a).0), (above m a).1)) (λ s m c u. free s m c (omega arith)) (omega arith)))

mutual
  pub node_reads : {q : Bytes} {targets opens : Opens} {f : Field} {i n : ℕ} → Laid q targets opens f i n → (names : List Bytes) (finish : ℕ) → Aims targets names → NodeReads q names finish opens f i n
  node_reads {q} {targets} {opens} {f} {i} {n} (variable_laid is o l e₁ e₂ e₃ e₄) names finish aims = variable_reads q names finish opens n is o e₁ e₂ e₃ e₄
  node_reads {q} {targets} {opens} {f} {i} {n} (constant_laid is fits e₁ e₂) names finish aims = constant_reads q names finish opens n is fits e₁ e₂
  node_reads {q} {targets} {opens} {f} {i} {n} (form_laid k is e₁ e₂ named w lists in_List head ka kb kc kd) names finish aims =
      opened_reads q names finish opens f i n k (omega (arith, kid_le ka, kid_le kb, kid_le kc, after_le kd)) is e₁ e₂ named
      (form_reads q names finish opens f i _ _ _ n k is e₁ e₂ lists in_List head (kid_le ka) (kid_le kb) (kid_le kc) (after_le kd)
      (kid_reads ka names finish aims) (kid_reads kb names finish aims) (kid_reads kc names finish aims) (after_reads kd names finish aims))

  kid_reads : {q : Bytes} {targets opens : Opens} {f : Field} {n x p i j : ℕ} → Kid q targets opens f n x p i j → (names : List Bytes) (finish : ℕ) → Aims targets names → KidReads q names finish opens f n x p i j
  kid_reads {q} {targets} {opens} {f} {n} {x} {p} {i} {j} (unused_kid e₀) names finish aims = unused_reads q names finish opens n x p i e₀
  kid_reads {q} {targets} {opens} {f} {n} {x} {p} {i} {j} (channel_kid l₀) names finish aims = channel_kid_reads q names finish opens n x p i l₀
  kid_reads {q} {targets} {opens} {f} {n} {x} {p} {i} {j} (present_kid e₀) names finish aims = present_reads q names finish opens n x p i e₀
  kid_reads {q} {targets} {opens} {f} {n} {x} {p} {i} {j} (signal_kid l₀ t) names finish aims = signal_reads q names finish opens n x p i l₀ (node_reads t names finish aims)
  kid_reads {q} {targets} {opens} {f} {n} {x} {p} {i} {j} (expression_kid l₀ t) names finish aims = expression_reads q names finish opens n x p i l₀ (node_reads t names finish aims)
  kid_reads {q} {targets} {opens} {f} {n} {x} {p} {i} {j} (first_branch_kid l₀ t) names finish aims = first_branch_reads q names finish opens n x p i l₀ (node_reads t names finish aims)
  kid_reads {q} {targets} {opens} {f} {n} {x} {p} {i} {j} (first_case_kid l₀ t) names finish aims = first_case_reads q names finish opens n x p i l₀ (node_reads t names finish aims)
  kid_reads {q} {targets} {opens} {f} {n} {x} {p} {i} {j} next_branch_kid names finish aims = next_branch_reads q names finish opens n x p i
  kid_reads {q} {targets} {opens} {f} {n} {x} {p} {i} {j} next_case_kid names finish aims = next_case_reads q names finish opens n x p i
  kid_reads {q} {targets} {opens} {f} {n} {x} {p} {i} {j} (target_kid e₀) names finish aims = target_reads q names finish opens n x p i (aims x e₀)

  after_reads : {q : Bytes} {targets opens : Opens} {f : Field} {n x i j : ℕ} → After q targets opens f n x i j → (names : List Bytes) (finish : ℕ) → Aims targets names → AfterReads q names finish opens f n x i j
  after_reads {q} {targets} {opens} {f} {n} {x} {i} {j} (none_after e₀ u) names finish aims = none_after_reads q names finish opens f n x i e₀ u
  after_reads {q} {targets} {opens} {f} {n} {x} {i} {j} (last_after e₀ u) names finish aims = last_after_reads q names finish opens f n x i e₀ u
  after_reads {q} {targets} {opens} {f} {n} {x} {i} {j} (next_after e₀ l₀ t) names finish aims =
      next_after_reads q names finish opens f n x i e₀ l₀ (starts_open t (next_list f e₀)) (node_reads t names finish aims)
