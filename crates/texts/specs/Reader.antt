-- From words to rows. One function reads a node of any kind, by the table of kinds: the word, what it binds, its type or value, its fields in
-- order, the closing parenthesis; behind it, where the kind has a next, the next of the list. A node ends, and gets its number, when all of
-- its children have: children first, in field order.
-- Assumes nothing: these are definitions.
use Rattle.std.specs.Prelude.{ℕ, zero, suc, List, [], ◌∷◌, ◌++◌, Bool, true, false, length, get_or, eqb, ltb, Some, None}
use Rattle.rules.specs.Bytes.{Bytes}
use Rattle.rules.specs.Values.{is_plain, is_type}
use Rattle.rules.specs.Layout.{no_next, most_nodes}
use Rattle.rules.specs.Kinds.{fields_of}
use Rattle.rules.specs.Shape.{may_be}
use Rattle.rules.specs.declared.Field.{Field}
use Rattle.rules.specs.declared.Field.TheVariants.{Unused, Channel, PresentByte, Signal, Expression, FirstBranch, NextBranch, FirstCase, NextCase, Binder, Target}
use Rattle.rules.specs.declared.TypeField.{TypeField}
use Rattle.rules.specs.declared.TypeField.TheVariants.{NoType, AnyType, PlainType, ValueType}
use Rattle.texts.specs.Spelled.{same, is_among}
use Rattle.texts.specs.Tokens.{Token, tokens}
use Rattle.texts.specs.Spelling.{open₀, close₀, edition_named, kind_word, kind_named, is_name}
use Rattle.texts.specs.Rows.{Row, Sofar, at_start, Got, got, stopped, ◌onward◌}
use Rattle.texts.specs.Steps.{next, position, expect, given, variable, label, target, type, channel, Written, plain_value, is_plain_value, maybe_value, value}
use Rattle.texts.specs.declared.Unread.TheVariants.{Word, Name}

-- A case's target may stand later in the text: a branch name is known if (branch and that name stand somewhere.
unfoldable mutual
  pub branch_names : List Token → List Bytes
  branch_names [] = []
  branch_names (t ∷ ts) = elim (same t.word open₀) [ true ↦ opened ts | false ↦ branch_names ts ]

  pub opened : List Token → List Bytes
  opened [] = []
  opened (t ∷ ts) =
      elim (same t.word (kind_word 9)) [
        | true ↦ named ts
        | false ↦ elim (same t.word open₀) [ true ↦ opened ts | false ↦ branch_names ts ]
      ]

  pub named : List Token → List Bytes
  named [] = []
  named (t ∷ ts) = t.word ∷ elim (same t.word open₀) [ true ↦ opened ts | false ↦ branch_names ts ]

-- A node begins: a program has at most 1,008, so the word or parenthesis with which one more begins does not fit.
unfoldable pub begins : ℕ → List Token → Sofar → Got (Unit {0})
begins finish ts so =
    elim (ltb so.begun most_nodes) [
      | true ↦ got tt ts (record { begun = suc so.begun; rows = so.rows; places = so.places; variables = so.variables; labels = so.labels })
      | false ↦ stopped (Word (position finish ts))
    ]

-- A node ends that began at a position: its number is that of the rows before it.
unfoldable pub ends : ℕ → Row → List Token → Sofar → Got ℕ
ends at r ts so =
    got (length so.rows) ts
    (record { begun = so.begun; rows = so.rows ++ r ∷ []; places = so.places ++ at ∷ []; variables = so.variables; labels = so.labels })

-- What stands between a kind's word and its children.
pub record Heading : Type 0 where
  pub label : Bytes
  pub binds : Bytes
  pub type : ℕ
  pub present : ℕ
  pub word : ℕ

-- A branch's own name.
unfoldable pub labelled : ℕ → ℕ → List Token → Sofar → Got Bytes
labelled k finish ts so = elim (eqb k 9) [ true ↦ label finish ts so | false ↦ got [] ts so ]

-- A variable and its type, or a value.
unfoldable pub binding : (ℕ → Bool) → Bytes → ℕ → List Token → Sofar → Got Heading
binding allowed own finish ts so =
    variable finish ts so onward λ x ts so. type allowed finish ts so onward λ t ts so.
    got (record { label = own; binds = x; type = t; present = 0; word = 0 }) ts so

unfoldable pub typed : TypeField → Bytes → ℕ → List Token → Sofar → Got Heading
typed NoType own finish ts so = got (record { label = own; binds = []; type = 0; present = 0; word = 0 }) ts so
typed AnyType own finish ts so = binding is_type own finish ts so
typed PlainType own finish ts so = binding is_plain own finish ts so
typed ValueType own finish ts so =
    value finish ts so onward λ v ts so.
    got (record { label = own; binds = []; type = v.type; present = v.present; word = v.word }) ts so

unfoldable pub heading : ℕ → ℕ → List Token → Sofar → Got Heading
heading k finish ts so = labelled k finish ts so onward λ own ts so. typed (fields_of k).ty own finish ts so

-- A field inside the parentheses; a next field stands behind them.
abbrev pub Nodes : Type 0
Nodes = Field → List Token → Sofar → Got ℕ

-- What a field gives: a number, and a target's name.
pub record Held : Type 0 where
  pub number : ℕ
  pub name : Bytes

unfoldable pub plainly : Got ℕ → Got Held
plainly r = r onward λ x ts so. got (record { number = x; name = [] }) ts so

unfoldable pub field : Nodes → List Bytes → Field → ℕ → ℕ → List Token → Sofar → Got Held
field node names Unused present finish ts so = got (record { number = 0; name = [] }) ts so
field node names Channel present finish ts so = plainly (channel finish ts so)
field node names PresentByte present finish ts so = got (record { number = present; name = [] }) ts so
field node names Signal present finish ts so = plainly (node Signal ts so)
field node names Expression present finish ts so = plainly (node Expression ts so)
field node names FirstBranch present finish ts so = plainly (node FirstBranch ts so)
field node names NextBranch present finish ts so = got (record { number = no_next; name = [] }) ts so
field node names FirstCase present finish ts so = plainly (node FirstCase ts so)
field node names NextCase present finish ts so = got (record { number = no_next; name = [] }) ts so
field node names Binder present finish ts so = got (record { number = 0; name = [] }) ts so
field node names Target present finish ts so = target names finish ts so onward λ w ts so. got (record { number = 0; name = w }) ts so

-- A list ends before a closing parenthesis.
unfoldable pub following : Nodes → Field → List Token → Sofar → Got ℕ
following node f [] so = node f [] so
following node f (t ∷ ts) so = elim (same t.word close₀) [ true ↦ got no_next (t ∷ ts) so | false ↦ node f (t ∷ ts) so ]

unfoldable pub behind : Nodes → Field → ℕ → List Token → Sofar → Got ℕ
behind node Unused x ts so = got x ts so
behind node Channel x ts so = got x ts so
behind node PresentByte x ts so = got x ts so
behind node Signal x ts so = got x ts so
behind node Expression x ts so = got x ts so
behind node FirstBranch x ts so = got x ts so
behind node NextBranch x ts so = following node NextBranch ts so
behind node FirstCase x ts so = got x ts so
behind node NextCase x ts so = following node NextCase ts so
behind node Binder x ts so = got x ts so
behind node Target x ts so = got x ts so

-- The rest of a node of a kind, behind its word; the node began at a position.
unfoldable pub form : Nodes → List Bytes → ℕ → ℕ → ℕ → List Token → Sofar → Got ℕ
form node names finish at k ts so =
    heading k finish ts so onward λ h ts so.
    field node names (fields_of k).a h.present finish ts so onward λ a ts so.
    field node names (fields_of k).b h.present finish ts so onward λ b ts so.
    field node names (fields_of k).c h.present finish ts so onward λ c ts so.
    expect close₀ finish ts so onward λ _ ts so.
    behind node (fields_of k).b b.number ts so onward λ next₀ ts so.
    ends at
    (record { kind = k; type = h.type; a = a.number; b = next₀; c = c.number; word = h.word; binds = h.binds; label = h.label; uses = c.name }) ts so

-- A constant, and a variable, whose name must have been bound before.
unfoldable pub constant_row : Written → Row
constant_row v =
    record { kind = 17; type = v.type; a = 0; b = v.present; c = 0; word = v.word; binds = []; label = []; uses = [] }

unfoldable pub variable_row : Bytes → Row
variable_row w = record { kind = 16; type = 0; a = 0; b = 0; c = 0; word = 0; binds = []; label = []; uses = w }

unfoldable pub bare : Token → ℕ → List Token → Sofar → Got ℕ
bare t finish ts so =
    elim (is_plain_value t.word) [
      | true ↦ plain_value t finish ts so onward λ v ts so. ends t.at (constant_row v) ts so
      | false ↦
          given (is_name t.word) (Word t.at) ts so onward λ _ ts so.
          given (is_among t.word so.variables) (Name t.at) ts so onward λ _ ts so.
          ends t.at (variable_row t.word) ts so
    ]

-- Behind an open parenthesis: a kind's word, or, for an expression, some or none.
unfoldable pub wordly : Nodes → List Bytes → ℕ → Field → ℕ → Token → List Token → Sofar → Got ℕ
wordly node names finish f at u ts so =
    elim (kind_named f u.word) [
      | Some k ↦ form node names finish at k ts so
      | None ↦
          given (may_be f 17) (Word u.at) ts so onward λ _ ts so.
          maybe_value u finish ts so onward λ v ts so. ends at (constant_row v) ts so
    ]

-- A node, for a field that asks for a signal, an expression, a branch or a case. (As every level begins a node, 1,009 levels are all.)
unfoldable pub node_f : ℕ → List Bytes → ℕ → Nodes
node_f zero names finish f ts so = stopped (Word (position finish ts))
node_f (suc g) names finish f ts so =
    begins finish ts so onward λ _ ts so. next finish ts so onward λ t ts so.
    elim (same t.word open₀) [
      | true ↦ next finish ts so onward λ u ts so. wordly (node_f g names finish) names finish f t.at u ts so
      | false ↦ given (may_be f 17) (Word t.at) ts so onward λ _ ts so. bare t finish ts so
    ]

-- "The first word of a text is its edition."
unfoldable pub title : ℕ → List Token → Sofar → Got ℕ
title finish ts so =
    next finish ts so onward λ t ts so.
    elim (edition_named t.word) [ Some e ↦ got e ts so | None ↦ stopped (Word t.at) ]

-- Nothing stands behind the last parenthesis.
unfoldable pub ended : ℕ → List Token → Sofar → Got ℕ
ended e [] so = got e [] so
ended e (t ∷ ts) so = stopped (Word t.at)

-- A whole text, its edition and one signal: gives the edition.
unfoldable pub reading : List Token → ℕ → Got ℕ
reading ts finish =
    title finish ts at_start onward λ e rest so.
    node_f (suc most_nodes) (branch_names ts) finish Signal rest so onward λ n rest so.
    ended e rest so

unfoldable pub read_text : Bytes → Got ℕ
read_text text = reading (tokens text) (length text)

-- "What their editor can show as here": where in a text that is read the node of a number begins. (The text's end, if it has no such node.)
unfoldable pub places_in : Got ℕ → List ℕ
places_in (got e rest so) = so.places
places_in (stopped why) = []

unfoldable pub node_place : Bytes → ℕ → ℕ
node_place text n = get_or (places_in (read_text text)) n (length text)
