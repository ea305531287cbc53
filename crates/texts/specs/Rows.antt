-- What the reader has made: a row for each node, in the order of their numbers, with the names that it binds and uses.
-- Assumes nothing: these are definitions.
use Rattle.std.specs.Prelude.{ℕ, List, []}
use Rattle.rules.specs.Bytes.{Bytes}
use Rattle.texts.specs.Tokens.{Token}
use Rattle.texts.specs.declared.Unread.{Unread}

-- A node's record, with the name of the variable that it binds, a branch's own name, and the name of a variable or of a case's target.
pub record Row : Type 0 where
  pub kind : ℕ
  pub type : ℕ
  pub a : ℕ
  pub b : ℕ
  pub c : ℕ
  pub word : ℕ
  pub binds : Bytes
  pub label : Bytes
  pub uses : Bytes

-- So far: how many nodes have begun, the rows of those that have ended and where in the text each of these begins, and the names bound, of
-- variables and of branches.
pub record Sofar : Type 0 where
  pub begun : ℕ
  pub rows : List Row
  pub places : List ℕ
  pub variables : List Bytes
  pub labels : List Bytes

unfoldable pub at_start : Sofar
at_start = record { begun = 0; rows = []; places = []; variables = []; labels = [] }

-- What a part of the reader gives: something, the words left and what is so far; or why the text is not read.
pub data Got (A : Type 0) : Type 0 where
  got : (x : A) (rest : List Token) (so : Sofar) → Got A
  stopped : (why : Unread) → Got A

infixl 10 ◌onward◌
unfoldable pub ◌onward◌ : {A B : Type 0} → Got A → (A → List Token → Sofar → Got B) → Got B
got x ts so onward k = k x ts so
stopped why onward k = stopped why
