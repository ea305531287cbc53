-- What is so far, as the scratch holds it.
-- Entry 0 is how many nodes have begun, entry 1 how many rows there are; 2 the position behind what was read, 3 the number that it gave, 4 and 5
-- why the text is not read, 6 where a node begins; 7-13 a heading. Rows are from entry 14 on, 13 entries each.
-- Assumes nothing: these are definitions.
use Rattle.std.specs.Prelude.{ℕ, zero, suc, ◌+◌, ◌*◌, ◌%◌, ◌≤◌, ◌<◌, ◌≡◌, List, [], ◌∷◌, ◌++◌, Bool, true, false, length, get_or, set, eqb, ltb, if◌then◌else◌, Result, Ok, Err}
use Rattle.rules.specs.Bytes.{Bytes, write_at}
use Rattle.rules.specs.Shape.{may_be}
use Rattle.rules.specs.declared.Field.{Field}
use Rattle.rules.specs.declared.Field.TheVariants.{Unused, Channel, PresentByte, Signal, Expression, FirstBranch, NextBranch, FirstCase, NextCase, Binder, Target}
use Rattle.texts.specs.Tokens.{Token, token, from}
use Rattle.texts.specs.Rows.{Row, Sofar, Got, got, stopped, ◌onward◌}
use Rattle.texts.specs.Spelled.{same, is_among}
use Rattle.texts.specs.Spelling.{open₀, close₀, is_name}
use Rattle.texts.specs.Steps.{next, given, maybe_value}
use Rattle.texts.specs.Reader.{Held, Heading, Nodes, form, wordly, bare, ends, constant_row, variable_row}
use Rattle.texts.specs.declared.Unread.{Unread}
use Rattle.texts.specs.declared.Unread.TheVariants.{Word}
use Rattle.reader.specs.declared.Entered.{Entered}
use Rattle.labels.specs.Noted.{named_by}
use Rattle.phrases.specs.Gave.{Past, with_names, Tables}
use Rattle.phrases.specs.declared.Read.{Read}

-- Entry c of row j.
unfoldable pub entry : List ℕ → ℕ → ℕ → ℕ
entry xs j c = get_or xs (13 * j + 14 + c) 0

-- Row j.
unfoldable pub row_at : Bytes → List ℕ → ℕ → Row
row_at text xs j = record {
  kind = entry xs j 0 % 256;
  type = entry xs j 1 % 256;
  a = entry xs j 2;
  b = entry xs j 3;
  c = entry xs j 4;
  word = entry xs j 5 % 4294967296;
  binds = named_by text (entry xs j 6) (entry xs j 7);
  label = named_by text (entry xs j 8) (entry xs j 9);
  uses = named_by text (entry xs j 10) (entry xs j 11);
}

-- The first so many rows, and where their nodes begin.
unfoldable pub rows_in : Bytes → List ℕ → ℕ → List Row
rows_in text xs zero = []
rows_in text xs (suc n) = rows_in text xs n ++ row_at text xs n ∷ []

unfoldable pub places_in : List ℕ → ℕ → List ℕ
places_in xs zero = []
places_in xs (suc n) = places_in xs n ++ entry xs n 12 ∷ []

-- What is so far.
unfoldable pub past_in : Bytes → List ℕ → Past
past_in text xs = record { begun = get_or xs 0 0; rows = rows_in text xs (get_or xs 1 0); places = places_in xs (get_or xs 1 0) }

unfoldable pub sofar_in : Bytes → List ℕ → List ℕ → Sofar
sofar_in text xs names = with_names (past_in text xs) text names

-- There is room for the rows of all nodes that have begun, and for their names.
pub record Ready (xs names : List ℕ) : Type 0 where
  pub long : length xs ≡ 13118
  pub few : get_or xs 0 0 ≤ 1008
  pub rows : get_or xs 1 0 ≤ get_or xs 0 0
  pub tables : Tables names (get_or xs 0 0)

-- After a step: still so; and no more rows came than nodes began.
pub record Grew (xs names xs' names' : List ℕ) : Type 0 where
  pub ready : Ready xs' names'
  pub more : get_or xs' 1 0 + get_or xs 0 0 ≤ get_or xs 1 0 + get_or xs' 0 0
  pub not_less : get_or xs 0 0 ≤ get_or xs' 0 0

-- Why the text is not read.
unfoldable pub why_in : List ℕ → Unread
why_in xs = if eqb (get_or xs 4 0) 0 then Unread.Word (get_or xs 5 0) else if eqb (get_or xs 4 0) 1 then Unread.Name (get_or xs 5 0) else Unread.Range (get_or xs 5 0)

-- What a part of the reader gave: 1, and something made of the number and the position; or 0, and why not.
unfoldable pub gave_in : {A : Type 0} → (ℕ → ℕ → A) → Bytes → List ℕ → List ℕ → ℕ → Got A
gave_in f text xs names zero = stopped (why_in xs)
gave_in f text xs names (suc n) = got (f (get_or xs 3 0) (get_or xs 2 0)) (from text (get_or xs 2 0)) (sofar_in text xs names)

-- What a field gives: of a target its name, of any other a number.
unfoldable pub held_as : Bytes → Field → ℕ → ℕ → Held
held_as text Unused x at = record { number = x; name = [] }
held_as text Channel x at = record { number = x; name = [] }
held_as text PresentByte x at = record { number = x; name = [] }
held_as text Signal x at = record { number = x; name = [] }
held_as text Expression x at = record { number = x; name = [] }
held_as text FirstBranch x at = record { number = x; name = [] }
held_as text NextBranch x at = record { number = x; name = [] }
held_as text FirstCase x at = record { number = x; name = [] }
held_as text NextCase x at = record { number = x; name = [] }
held_as text Binder x at = record { number = x; name = [] }
held_as text Target x at = record { number = 0; name = named_by text x at }

-- A heading.
unfoldable pub heading_in : Bytes → List ℕ → Heading
heading_in text xs = record {
  label = named_by text (get_or xs 7 0) (get_or xs 8 0);
  binds = named_by text (get_or xs 9 0) (get_or xs 10 0);
  type = get_or xs 11 0;
  present = get_or xs 12 0;
  word = get_or xs 13 0;
}

-- A node begins.
unfoldable pub begun_in : List ℕ → List ℕ
begun_in xs = if ltb (get_or xs 0 0) 1008 then set xs 0 (get_or xs 0 0 + 1) else xs

-- The next row's numbers, names, and the rest, with which it is there.
unfoldable pub numbers_in : List ℕ → ℕ → ℕ → ℕ → ℕ → ℕ → ℕ → List ℕ
numbers_in xs kind ty a b c word = write_at xs (13 * get_or xs 1 0 + 14) (kind ∷ ty ∷ a ∷ b ∷ c ∷ word ∷ [])

unfoldable pub names_put : List ℕ → ℕ → ℕ → ℕ → ℕ → List ℕ
names_put xs binds bindsend label labelend = write_at xs (13 * get_or xs 1 0 + 20) (binds ∷ bindsend ∷ label ∷ labelend ∷ [])

unfoldable pub appended : List ℕ → ℕ → ℕ → ℕ → List ℕ
appended xs uses usesend place = set (write_at xs (13 * get_or xs 1 0 + 24) (uses ∷ usesend ∷ place ∷ [])) 1 (get_or xs 1 0 + 1)

-- A row of thirteen numbers, behind the others.
unfoldable pub row_put : List ℕ → ℕ → ℕ → ℕ → ℕ → ℕ → ℕ → ℕ → ℕ → ℕ → ℕ → ℕ → ℕ → ℕ → List ℕ
row_put xs kind ty a b c word binds bindsend label labelend uses usesend place =
    set (write_at xs (13 * get_or xs 1 0 + 14) (kind ∷ ty ∷ a ∷ b ∷ c ∷ word ∷ binds ∷ bindsend ∷ label ∷ labelend ∷ uses ∷ usesend ∷ place ∷ [])) 1 (get_or xs 1 0 + 1)

-- A step's result in the scratch.
unfoldable pub stop_put : List ℕ → Unread → List ℕ
stop_put xs (Unread.Word at) = set (set xs 4 0) 5 at
stop_put xs (Unread.Name at) = set (set xs 4 1) 5 at
stop_put xs (Unread.Range at) = set (set xs 4 2) 5 at

unfoldable pub step_put : List ℕ → Result (Read ℕ) Unread → List ℕ
step_put xs (Ok r) = set (set xs 2 r.behind) 3 r.value
step_put xs (Err why) = stop_put xs why

unfoldable pub flag : Result (Read ℕ) Unread → ℕ
flag (Ok r) = 1
flag (Err why) = 0

-- The counts and the length are as they were.
pub record Same (xs xs' : List ℕ) : Type 0 where
  pub long : length xs' ≡ length xs
  pub begun : get_or xs' 0 0 ≡ get_or xs 0 0
  pub rows : get_or xs' 1 0 ≡ get_or xs 1 0

-- At most one row came.
pub record Ended (xs xs' : List ℕ) : Type 0 where
  pub long : length xs' ≡ length xs
  pub begun : get_or xs' 0 0 ≡ get_or xs 0 0
  pub rows : get_or xs' 1 0 ≤ get_or xs 1 0 + 1

-- A heading, in the scratch.
unfoldable pub gave_head_in : Bytes → List ℕ → List ℕ → ℕ → Got Heading
gave_head_in text xs names zero = stopped (why_in xs)
gave_head_in text xs names (suc n) = got (heading_in text xs) (from text (get_or xs 2 0)) (sofar_in text xs names)

-- A name as a variable; a word as a node; some or none as a node. (Parts of node_f.)
unfoldable pub used_as : Bytes → ℕ → List Token → Sofar → Got ℕ
used_as w at ts so =
    given (is_name w) (Word at) ts so onward λ _ ts so.
    given (is_among w so.variables) (Unread.Name at) ts so onward λ _ ts so.
    ends at (variable_row w) ts so

unfoldable pub bare_as : Field → Bytes → ℕ → ℕ → List Token → Sofar → Got ℕ
bare_as f w at finish ts so = given (may_be f 17) (Word at) ts so onward λ _ ts so. bare (token at w) finish ts so

unfoldable pub other_as : Field → ℕ → Bytes → ℕ → ℕ → List Token → Sofar → Got ℕ
other_as f place w at finish ts so =
    given (may_be f 17) (Word at) ts so onward λ _ ts so.
    maybe_value (token at w) finish ts so onward λ v ts so. ends place (constant_row v) ts so

-- A field that is for no node.
unfoldable pub is_inside : Field → Bool
is_inside Unused = false
is_inside Channel = false
is_inside PresentByte = false
is_inside Signal = true
is_inside Expression = true
is_inside FirstBranch = true
is_inside NextBranch = false
is_inside FirstCase = true
is_inside NextCase = false
is_inside Binder = false
is_inside Target = false

unfoldable pub is_behind : Field → Bool
is_behind Unused = false
is_behind Channel = false
is_behind PresentByte = false
is_behind Signal = false
is_behind Expression = false
is_behind FirstBranch = false
is_behind NextBranch = true
is_behind FirstCase = false
is_behind NextCase = true
is_behind Binder = false
is_behind Target = false

unfoldable pub ends_list : List Token → Bool
ends_list [] = false
ends_list (t ∷ ts) = same t.word close₀

-- Where a node begins: a form of a kind, whose word has been read; or what entry 2 on say already.
unfoldable pub entered_as : Nodes → List Bytes → Bytes → List ℕ → List ℕ → Entered → Got ℕ
entered_as node names text xs table (Entered.Form k) = form node names (length text) (get_or xs 6 0) k (from text (get_or xs 2 0)) (sofar_in text xs table)
entered_as node names text xs table (Entered.Done n) = gave_in (λ x at. x) text xs table n

-- A node, once it has begun. (node_f behind its first line.)
unfoldable pub entry₀ : Nodes → List Bytes → ℕ → Field → List Token → Sofar → Got ℕ
entry₀ node names finish f ts so =
    next finish ts so onward λ t ts so.
    elim (same t.word open₀) [
      | true ↦ next finish ts so onward λ u ts so. wordly node names finish f t.at u ts so
      | false ↦ given (may_be f 17) (Word t.at) ts so onward λ _ ts so. bare t finish ts so
    ]

-- The rest of a form's row: a case's target is a name.
unfoldable pub rest_put : List ℕ → ℕ → ℕ → ℕ → ℕ → ℕ → ℕ → ℕ → ℕ → List ℕ
rest_put xs k ty a b c cend word place =
    if eqb k 10
    then set (appended (numbers_in xs k ty a b 0 word) c cend place) 3 (get_or xs 1 0)
    else set (appended (numbers_in xs k ty a b c word) 0 0 place) 3 (get_or xs 1 0)

-- Where a form begins, its kind is below 30, and no row came yet.
abbrev pub BelowKinds : List ℕ → List ℕ → Entered → Type 0
BelowKinds xs xs' (Entered.Form k) = (k < 30) × Same xs xs'
BelowKinds xs xs' (Entered.Done n) = Unit {0}
