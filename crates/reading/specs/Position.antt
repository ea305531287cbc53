-- "What their editor can show as here": the call that says where in a text the node of a number begins.
-- Assumes nothing: these are definitions.
use Rattle.std.specs.Prelude.{ℕ, min, ◌≤◌, ◌<◌, ◌≡◌, true, false, List, length, ltb, Option, Some, None}
use Rattle.rules.specs.Bytes.{Bytes}
use Rattle.texts.specs.Tokens.{Token}
use Rattle.texts.specs.Rows.{Sofar, got, stopped}
use Rattle.texts.specs.Reader.{read_text, places_in, node_place}
use Rattle.texts.specs.Comes.{BeginsAt}
use Rattle.texts.specs.declared.Unread.{Unread}
use Rattle.texts.specs.Calls.{last_position}

-- A position, as a number of 32 bits, if the text is read and has a node of that number; else none.
unfoldable pub node_position : Bytes → ℕ → Option ℕ
node_position text n =
    elim (ltb n (length (places_in (read_text text)))) [ true ↦ Some (min (node_place text n) last_position) | false ↦ None ]

-- What it says: the position of the word or parenthesis with which the node's form begins, for each node of a text that is read, and for no other.
pub record Here (text : Bytes) (n : ℕ) : Type 0 where
  pub begins : (e : ℕ) (rest : List Token) (so : Sofar) → read_text text ≡ got e rest so → n < length so.rows
      → (node_position text n ≡ Some (min (node_place text n) last_position)) × BeginsAt text n (node_place text n)
  pub no_node : (e : ℕ) (rest : List Token) (so : Sofar) → read_text text ≡ got e rest so → length so.rows ≤ n → node_position text n ≡ None
  pub not_read : (why : Unread) → read_text text ≡ stopped why → node_position text n ≡ None

-- A call that keeps the promise.
pub record Placing (f : Bytes → ℕ → Option ℕ) : Type 0 where
  pub as_ruled : (text : Bytes) (n : ℕ) → f text n ≡ node_position text n
