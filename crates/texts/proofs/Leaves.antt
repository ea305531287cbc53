-- Variables and constants are read from the words that are printed of them; and a kind with a word from its parenthesis on.
-- Assumes nothing.
use Rattle.std.specs.Prelude.{None}
use mathlib.Core.Path.{◌≡◌, refl, sym, ap, ◌∙◌}
use mathlib.Core.Bool.{Bool, true, false}
use mathlib.Core.List.{List, [], ◌∷◌, ◌++◌}
use Prim.Native.Nat.{ℕ, zero, suc, ◌+◌, ◌<◌}
use native.Mathlib.Omega.{arith}
use Rattle.rules.specs.Bytes.{Bytes, first, first_from, ◌or◌, ◌and◌}
use Rattle.rules.specs.Layout.{kind_at, type_at, a_at, b_at, c_at, word_at}
use Rattle.rules.specs.Kinds.{row, fields_of, is_expression}
use Rattle.rules.specs.Shape.{may_be}
use Rattle.rules.specs.declared.Field.TheVariants.{Expression}
use Rattle.texts.specs.Tokens.{Token}
use Rattle.texts.specs.Spelled.{spelled, same, is_among}
use Rattle.texts.specs.Spelling.{open₀, some_word, none_word, kind_word, kind_named, is_digit, is_name}
use Rattle.texts.specs.Numerals.{is_number, is_natural, are_digits, magnitude_of}
use Rattle.texts.specs.Rows.{Row, Sofar, ◌onward◌}
use Rattle.texts.specs.Steps.{Written, is_plain_value, maybe_value}
use Rattle.texts.specs.Reader.{ends, constant_row, variable_row, bare, wordly, node_f}
use Rattle.texts.specs.Printer.{Piece, spaced, variable_name, plain_word, value_pieces, pieces_as, pieces_f}
use Rattle.texts.proofs.Gives.{words, Gives, after_next, after_given}
use Rattle.texts.proofs.Decimals.{numeral}
use Rattle.texts.proofs.NameLaws.{variable_is_name}
use Rattle.texts.proofs.Laid.{Opens, inner_of, name_of, PlainFits, an_int, a_truth, a_falsehood, a_unit, Fits, plain_fits, some_fits, none_fits}
use Rattle.texts.proofs.ValueLaws.{spellings, plain_spelled, some_spelled, none_spelled, plain_type_lem, plain_not_open, after_plain, after_some, after_none}
use Rattle.texts.proofs.NodeLaws.{binds_of, row_as, row_of, taken_same, State, Done, NodeReads, node_ends, after_begins, pieces_at}

is_value : {x w : ℕ} → PlainFits x w → is_plain_value (plain_word x w) ≡ true
unfolding is_plain_value plain_word is_number is_natural are_digits magnitude_of is_digit spelled same ◌and◌ ◌or◌
is_value (an_int {w = w} l) = rw (numeral w l).number refl
is_value a_truth = refl
is_value a_falsehood = refl
is_value a_unit = refl

-- The state after a node has begun.
abbrev pub begun₁ : Sofar → Sofar
begun₁ so = record { begun = suc so.begun; rows = so.rows; places = so.places; variables = so.variables; labels = so.labels }

pub begun_state : (q : Bytes) (i d : ℕ) (so : Sofar) → State q i d so → State q i (suc d) (begun₁ so)
begun_state q i d so s = record { rows_are = s.rows_are; begun_is = ap suc s.begun_is ∙ omega arith; x_apart = s.x_apart; k_apart = s.k_apart }

-- A node that is one word.
module _ (q : Bytes) (names : List Bytes) (finish n d : ℕ) (so : Sofar) (W : List Bytes) (room : n + d < 1008) (state : State q n d so) where
  one_word : (G : ℕ) (ts : List Token) (w : Bytes) → words ts ≡ w ∷ W → same w open₀ ≡ false
      → ((t : Token) (rest : List Token) → t.word ≡ w → words rest ≡ W → Gives (Done q n d so W) (bare t finish rest (begun₁ so)))
      → Gives (Done q n d so W) (node_f (suc G) names finish Expression ts so)
  unfolding node_f may_be is_expression ◌and◌
  one_word G ts w e shut h =
      after_begins _ finish ts so (omega (arith, state.begun_is)) (after_next _ w W finish ts (begun₁ so) e (λ t rest here left.
      rw (ap (λ (v : Bytes). same v open₀) here ∙ shut) (after_given _ _ _ rest (begun₁ so) refl (h t rest here left))))

  ended : (rest : List Token) (at : ℕ) (r : Row) → r ≡ row_of q n → words rest ≡ W → Gives (Done q n d so W) (ends at r rest (begun₁ so))
  ended rest at r is left = node_ends q n d so (begun₁ so) W rest at r is left (begun_state q n d so state) (λ s m b h. taken_same s m so (begun₁ so) refl refl)

  -- A variable.
  variable_bare : kind_at q n ≡ 16 → is_among (variable_name (a_at q n)) so.variables ≡ true → type_at q n ≡ 0 → b_at q n ≡ 0 → c_at q n ≡ 0 → word_at q n ≡ 0
      → (t : Token) (rest : List Token) → t.word ≡ variable_name (a_at q n) → words rest ≡ W → Gives (Done q n d so W) (bare t finish rest (begun₁ so))
  unfolding bare is_plain_value is_number is_natural are_digits magnitude_of is_digit variable_name spelled same ◌and◌ ◌or◌ row_of row_as variable_row binds_of fields_of row inner_of name_of
  variable_bare is known e₁ e₂ e₃ e₄ t rest here left =
      rw (ap is_plain_value here, bare) (after_given _ _ _ rest (begun₁ so) (ap is_name here ∙ variable_is_name (a_at q n))
      (after_given _ _ _ rest (begun₁ so) (ap (λ (v : Bytes). is_among v so.variables) here ∙ known)
      (ended rest t.at _ (sym (ap (λ (x : ℕ). row_as x q n) is ∙ (λ j. record { kind = 16; type = e₁ j; a = 0; b = e₂ j; c = e₃ j; word = e₄ j; binds = []; label = []; uses = sym here j }))) left)))

  constant_row_lem : kind_at q n ≡ 17 → a_at q n ≡ 0 → c_at q n ≡ 0 → (v : Written) → v.type ≡ type_at q n → v.present ≡ b_at q n → v.word ≡ word_at q n → constant_row v ≡ row_of q n
  unfolding row_of row_as constant_row fields_of row inner_of name_of
  constant_row_lem is e₁ e₂ v t p w =
      sym (ap (λ (x : ℕ). row_as x q n) is ∙ (λ j. record { kind = 17; type = sym t j; a = e₁ j; b = sym p j; c = e₂ j; word = sym w j; binds = []; label = []; uses = [] }))

  -- A constant of one word.
  plain_bare : {x w : ℕ} → PlainFits x w → constant_row (record { type = x; present = 1; word = w }) ≡ row_of q n
      → (t : Token) (rest : List Token) → t.word ≡ plain_word x w → words rest ≡ W → Gives (Done q n d so W) (bare t finish rest (begun₁ so))
  unfolding bare
  plain_bare f is t rest here left =
      rw (ap is_plain_value here ∙ is_value f, bare) (after_plain _ f t finish rest (begun₁ so) here (ended rest t.at _ is left))

  -- A constant in parentheses.
  in_parentheses : (G : ℕ) (ts : List Token) (w : Bytes) (W₁ : List Bytes) → words ts ≡ open₀ ∷ w ∷ W₁ → kind_named Expression w ≡ None
      → ((at : ℕ) (u : Token) (rest : List Token) → u.word ≡ w → words rest ≡ W₁
      → Gives (Done q n d so W) (maybe_value u finish rest (begun₁ so) onward (λ v ts so. ends at (constant_row v) ts so)))
      → Gives (Done q n d so W) (node_f (suc G) names finish Expression ts so)
  unfolding node_f may_be is_expression ◌and◌ same wordly
  in_parentheses G ts w W₁ e no_kind h =
      after_begins _ finish ts so (omega (arith, state.begun_is)) (after_next _ _ _ finish ts (begun₁ so) e (λ t rest here left.
      rw (ap (λ (v : Bytes). same v open₀) here) (after_next _ _ _ finish rest (begun₁ so) left (λ u rest₁ here₁ left₁.
      rw (ap (kind_named Expression) here₁ ∙ no_kind, wordly) (after_given _ _ _ rest₁ (begun₁ so) refl (h t.at u rest₁ here₁ left₁))))))

-- The words that are printed of a variable and of a constant.
variable_pieces : (g : ℕ) (q : Bytes) (depth : ℕ) (isFirst : Bool) (n : ℕ) → kind_at q n ≡ 16 → pieces_f (suc g) q depth isFirst Expression n ≡ spaced (variable_name (a_at q n)) ∷ []
unfolding pieces_as
variable_pieces g q depth isFirst n is = pieces_at g q depth isFirst Expression n 16 is

constant_pieces : (g : ℕ) (q : Bytes) (depth : ℕ) (isFirst : Bool) (n : ℕ) → kind_at q n ≡ 17 → pieces_f (suc g) q depth isFirst Expression n ≡ value_pieces (type_at q n) (b_at q n) (word_at q n)
unfolding pieces_as
constant_pieces g q depth isFirst n is = pieces_at g q depth isFirst Expression n 17 is

-- A variable whose binder is open.
pub variable_reads : (q : Bytes) (names : List Bytes) (finish : ℕ) (opens : Opens) (n : ℕ) → kind_at q n ≡ 16 → opens (a_at q n) ≡ true
    → type_at q n ≡ 0 → b_at q n ≡ 0 → c_at q n ≡ 0 → word_at q n ≡ 0 → NodeReads q names finish opens Expression n n
unfolding spaced variable_name same ◌and◌
variable_reads q names finish opens n is o e₁ e₂ e₃ e₄ zero G depth d isFirst ts so W l l₁ e closing state known above free room = absurd (omega arith)
variable_reads q names finish opens n is o e₁ e₂ e₃ e₄ (suc g) zero depth d isFirst ts so W l l₁ e closing state known above free room = absurd (omega arith)
variable_reads q names finish opens n is o e₁ e₂ e₃ e₄ (suc g) (suc G) depth d isFirst ts so W l l₁ e closing state known above free room =
    one_word q names finish n d so W room state G ts (variable_name (a_at q n)) (e ∙ ap (λ (x : List Piece). spellings x ++ W) (variable_pieces g q depth isFirst n is)) refl
    (variable_bare q names finish n d so W room state is (known (a_at q n) o) e₁ e₂ e₃ e₄)

-- A constant.
constant_as : (q : Bytes) (names : List Bytes) (finish n d : ℕ) (so : Sofar) (W : List Bytes) → n + d < 1008 → State q n d so → (G : ℕ) (ts : List Token)
    → {t p w : ℕ} → Fits t p w → constant_row (record { type = t; present = p; word = w }) ≡ row_of q n
    → words ts ≡ spellings (value_pieces t p w) ++ W → Gives (Done q n d so W) (node_f (suc G) names finish Expression ts so)
unfolding kind_named first first_from may_be is_expression kind_word spelled same ◌and◌
constant_as q names finish n d so W room state G ts (plain_fits f) is e =
    one_word q names finish n d so W room state G ts _ (e ∙ ap (λ (x : List Bytes). x ++ W) (plain_spelled f)) (plain_not_open f)
    (plain_bare q names finish n d so W room state f is)
constant_as q names finish n d so W room state G ts (some_fits f) is e =
    in_parentheses q names finish n d so W room state G ts some_word _ (e ∙ ap (λ (x : List Bytes). x ++ W) (some_spelled f)) refl
    (λ at u rest here left. after_some _ f u W finish rest _ here left (λ rest₁ left₁. ended q names finish n d so W room state rest₁ at _ is left₁))
constant_as q names finish n d so W room state G ts (none_fits {t = t} f) is e =
    in_parentheses q names finish n d so W room state G ts none_word _ (e ∙ ap (λ (x : List Bytes). x ++ W) (none_spelled f)) refl
    (λ at u rest here left. after_none _ t _ u W finish rest _ (plain_type_lem f) here left (λ rest₁ left₁. ended q names finish n d so W room state rest₁ at _ is left₁))

pub constant_reads : (q : Bytes) (names : List Bytes) (finish : ℕ) (opens : Opens) (n : ℕ) → kind_at q n ≡ 17 → Fits (type_at q n) (b_at q n) (word_at q n)
    → a_at q n ≡ 0 → c_at q n ≡ 0 → NodeReads q names finish opens Expression n n
constant_reads q names finish opens n is fits e₁ e₂ zero G depth d isFirst ts so W l l₁ e closing state known above free room = absurd (omega arith)
constant_reads q names finish opens n is fits e₁ e₂ (suc g) zero depth d isFirst ts so W l l₁ e closing state known above free room = absurd (omega arith)
constant_reads q names finish opens n is fits e₁ e₂ (suc g) (suc G) depth d isFirst ts so W l l₁ e closing state known above free room =
    constant_as q names finish n d so W room state G ts fits (constant_row_lem q names finish n d so W room state is e₁ e₂ _ refl refl refl)
    (e ∙ ap (λ (x : List Piece). spellings x ++ W) (constant_pieces g q depth isFirst n is))
