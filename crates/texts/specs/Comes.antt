-- Where the reader comes to a node: with which words before it, and with what so far. So "the word or parenthesis with which the form of a number
-- begins" has a meaning: the first of the words that the reader had when it came to the node that got that number.
-- Assumes nothing: these are definitions.
use Rattle.std.specs.Prelude.{ℕ, suc, ◌≡◌, true, List, ◌∷◌, length, Some}
use Rattle.rules.specs.Bytes.{Bytes}
use Rattle.rules.specs.Layout.{most_nodes}
use Rattle.rules.specs.Kinds.{fields_of}
use Rattle.rules.specs.declared.Field.{Field}
use Rattle.rules.specs.declared.Field.TheVariants.{Signal}
use Rattle.texts.specs.Tokens.{Token, tokens}
use Rattle.texts.specs.Spelled.{same}
use Rattle.texts.specs.Spelling.{open₀, close₀, kind_named}
use Rattle.texts.specs.Rows.{Sofar, at_start, Got, got}
use Rattle.texts.specs.Steps.{next, expect}
use Rattle.texts.specs.Reader.{branch_names, begins, Heading, heading, Held, field, node_f, title}

-- The reader of a text, for nodes of so many levels.
abbrev pub reader : Bytes → ℕ → Field → List Token → Sofar → Got ℕ
reader text g = node_f g (branch_names (tokens text)) (length text)

-- A node is a form of kind k: it begins, and behind the parenthesis stands the kind's word.
pub record Formed (text : Bytes) (f : Field) (ts : List Token) (so : Sofar) (k : ℕ) (ts₁ : List Token) (so₁ : Sofar) : Type 0 where
  pub ts₀ : List Token
  pub so₀ : Sofar
  pub begun : begins (length text) ts so ≡ got tt ts₀ so₀
  pub mark : Token
  pub ts₂ : List Token
  pub so₂ : Sofar
  pub marked : next (length text) ts₀ so₀ ≡ got mark ts₂ so₂
  pub opens : same mark.word open₀ ≡ true
  pub word : Token
  pub worded : next (length text) ts₂ so₂ ≡ got word ts₁ so₁
  pub named : kind_named f word.word ≡ Some k

-- What a field gives in a form whose children are read by g levels.
abbrev pub field_read : Bytes → ℕ → Field → Heading → List Token → Sofar → Got Held
field_read text g f h ts so = field (reader text g) (branch_names (tokens text)) f h.present (length text) ts so

-- The places in a form of kind k where a child may begin: behind its heading, behind field a, behind field b, and behind its parentheses.
pub data Within (text : Bytes) (g k : ℕ) (ts : List Token) (so : Sofar) : Field → List Token → Sofar → Type 0 where
  in_a : {h : Heading} {ts₁ : List Token} {so₁ : Sofar} → heading k (length text) ts so ≡ got h ts₁ so₁ → Within text g k ts so (fields_of k).a ts₁ so₁
  in_b : {h : Heading} {a : Held} {ts₁ ts₂ : List Token} {so₁ so₂ : Sofar} → heading k (length text) ts so ≡ got h ts₁ so₁
      → field_read text g (fields_of k).a h ts₁ so₁ ≡ got a ts₂ so₂ → Within text g k ts so (fields_of k).b ts₂ so₂
  in_c : {h : Heading} {a b : Held} {ts₁ ts₂ ts₃ : List Token} {so₁ so₂ so₃ : Sofar} → heading k (length text) ts so ≡ got h ts₁ so₁
      → field_read text g (fields_of k).a h ts₁ so₁ ≡ got a ts₂ so₂ → field_read text g (fields_of k).b h ts₂ so₂ ≡ got b ts₃ so₃
      → Within text g k ts so (fields_of k).c ts₃ so₃
  behind_it : {h : Heading} {a b c : Held} {ts₁ ts₂ ts₃ ts₄ ts₅ : List Token} {so₁ so₂ so₃ so₄ so₅ : Sofar} → heading k (length text) ts so ≡ got h ts₁ so₁
      → field_read text g (fields_of k).a h ts₁ so₁ ≡ got a ts₂ so₂ → field_read text g (fields_of k).b h ts₂ so₂ ≡ got b ts₃ so₃
      → field_read text g (fields_of k).c h ts₃ so₃ ≡ got c ts₄ so₄ → expect close₀ (length text) ts₄ so₄ ≡ got tt ts₅ so₅
      → Within text g k ts so (fields_of k).b ts₅ so₅

-- The reader comes to a node: behind the edition, or in a form that it came to.
pub data Comes (text : Bytes) : ℕ → Field → List Token → Sofar → Type 0 where
  to_root : {e : ℕ} {ts : List Token} {so : Sofar} → title (length text) (tokens text) at_start ≡ got e ts so → Comes text (suc most_nodes) Signal ts so
  to_child : {g k : ℕ} {f f₁ : Field} {ts ts₁ ts₂ : List Token} {so so₁ so₂ : Sofar} → Comes text (suc g) f ts so → Formed text f ts so k ts₁ so₁
      → Within text g k ts₁ so₁ f₁ ts₂ so₂ → Comes text g f₁ ts₂ so₂

-- The form of number n begins with the word or parenthesis at a position: the reader came to a node with that word first, and the node got that number.
pub record BeginsAt (text : Bytes) (n at : ℕ) : Type 0 where
  pub level : ℕ
  pub sort : Field
  pub first : Token
  pub more : List Token
  pub so : Sofar
  pub comes : Comes text level sort (first ∷ more) so
  pub rest : List Token
  pub so₁ : Sofar
  pub reads : reader text level sort (first ∷ more) so ≡ got n rest so₁
  pub here : first.at ≡ at
