-- A program renumbered (document 02, b: "nodes are numbered children first, in field order"), and a program tidied (m): its tree, or its tree
-- without unused lets, written again in its own edition.
-- Assumes nothing: these are definitions.
use Rattle.std.specs.Prelude.{ℕ, List}
use Rattle.rules.specs.Bytes.{Bytes}
use Rattle.rules.specs.Layout.{edition}
use Rattle.rules.specs.Tree.{root}
use Rattle.dropped.specs.Tidy.{tidy_s}
use Rattle.written.specs.Order.{order_s}
use Rattle.written.specs.Written.{written}

unfoldable pub renumbered : Bytes → Bytes
renumbered p = written (edition p) (root p)

-- "Replaces each let whose body does not name its variable by that body, again until none is left, and renumbers the nodes children first in
-- field order."
unfoldable pub tidied : Bytes → Bytes
tidied p = written (edition p) (tidy_s (root p))

-- For each new node, its old one.
unfoldable pub numbering : Bytes → List ℕ
numbering p = order_s (root p)

unfoldable pub tidying : Bytes → List ℕ
tidying p = order_s (tidy_s (root p))
