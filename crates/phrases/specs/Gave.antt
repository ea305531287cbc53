-- What the code's steps say of the definitions': each as what it gives, the words left and what is so far.
-- Assumes nothing: these are definitions.
use Rattle.std.specs.Prelude.{ℕ, ◌≤◌, ◌<◌, ◌≡◌, List, length, get_or, Result, Ok, Err}
use Rattle.rules.specs.Bytes.{Bytes}
use Rattle.texts.specs.Tokens.{Token, from}
use Rattle.texts.specs.Rows.{Row, Sofar, Got, got, stopped, ◌onward◌}
use Rattle.rules.specs.Values.{maybe_of, is_plain}
use Rattle.texts.specs.Spelling.{close₀}
use Rattle.texts.specs.Steps.{Written, next, expect, type, plain_value}
use Rattle.texts.specs.Reader.{Heading}
use Rattle.labels.specs.Noted.{named_by, names_in}
use Rattle.texts.specs.declared.Unread.{Unread}
use Rattle.tokens.specs.declared.Span.{Span}
use Rattle.phrases.specs.declared.Read.{Read}
use Rattle.phrases.specs.declared.Constant.{Constant}
use Rattle.phrases.specs.declared.Head.{Head}

-- What steps that note names leave alone.
pub record Past : Type 0 where
  pub begun : ℕ
  pub rows : List Row
  pub places : List ℕ

-- What is so far, with the names that a table holds: variables' from 0 on, branches' from 2017 on.
unfoldable pub with_names : Past → Bytes → List ℕ → Sofar
with_names p text names =
    record { begun = p.begun; rows = p.rows; places = p.places; variables = names_in text names 0; labels = names_in text names 2017 }

-- A table with room for all names that a text of so many nodes can bind.
pub record Tables (names : List ℕ) (n : ℕ) : Type 0 where
  pub long : length names ≡ 4034
  pub variables : get_or names 0 0 ≤ n
  pub branches : get_or names 2017 0 ≤ n

-- A step: something made of what it read and of the position behind it, and the words from there on; or why the text is not read.
unfoldable pub gave : {A V : Type 0} → (V → ℕ → A) → Bytes → Sofar → Result (Read V) Unread → Got A
gave f text so (Ok r) = got (f r.value r.behind) (from text r.behind) so
gave f text so (Err why) = stopped why

-- A step that is one word: something made of where it begins and ends.
unfoldable pub gave_word : {A : Type 0} → (ℕ → ℕ → A) → Bytes → Sofar → Result Span Unread → Got A
gave_word f text so (Ok w) = got (f w.first w.end) (from text w.end) so
gave_word f text so (Err why) = stopped why

abbrev pub number : ℕ → ℕ → ℕ
number x at = x

abbrev pub nothing : ℕ → ℕ → Unit {0}
nothing x at = tt

-- A word that was read is a part of the text.
abbrev pub NamePart : Bytes → Result Span Unread → Type 0
NamePart text (Ok w) = (w.first < w.end) × (w.end ≤ length text)
NamePart text (Err why) = Unit {0}

-- A number that was read is below another.
abbrev pub Below : ℕ → Result (Read ℕ) Unread → Type 0
Below n (Ok r) = r.value < n
Below n (Err why) = Unit {0}

-- A value.
unfoldable pub written : Constant → Written
written v = record { type = v.ty; present = v.present; word = v.word }

abbrev pub gave_value : Bytes → Sofar → Result (Read Constant) Unread → Got Written
gave_value text so r = gave (λ v at. written v) text so r

abbrev pub PlainTyped : Result (Read Constant) Unread → Type 0
PlainTyped (Ok r) = r.value.ty < 4
PlainTyped (Err why) = Unit {0}

-- A heading.
unfoldable pub head_of : Bytes → Head → Heading
head_of text h = record {
  label = named_by text h.label.first h.label.end;
  binds = named_by text h.binds.first h.binds.end;
  type = h.ty;
  present = h.present;
  word = h.word;
}

abbrev pub gave_head : Bytes → Sofar → Result (Read Head) Unread → Got Heading
gave_head text so r = gave (λ h at. head_of text h) text so r

-- Behind some: a plain value; behind none: a plain type. (The two arms of maybe_value.)
unfoldable pub some_value : ℕ → List Token → Sofar → Got Written
some_value finish ts so =
    next finish ts so onward λ u ts so. plain_value u finish ts so onward λ v ts so. expect close₀ finish ts so onward λ _ ts so.
    got (record { type = maybe_of v.type; present = 1; word = v.word }) ts so

unfoldable pub none_value : ℕ → List Token → Sofar → Got Written
none_value finish ts so =
    type is_plain finish ts so onward λ k ts so. expect close₀ finish ts so onward λ _ ts so.
    got (record { type = maybe_of k; present = 0; word = 0 }) ts so
