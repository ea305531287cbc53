-- "Nodes are numbered children first, in field order": the program numbered so.
-- Assumes nothing: these are definitions.
use Rattle.rules.specs.Bytes.{Bytes}
use Rattle.rules.specs.Layout.{edition}
use Rattle.rules.specs.Tree.{root}
use Rattle.written.specs.Written.{written}

-- Its tree written anew, in its edition: each node's number is its place in the tree.
unfoldable pub renumbered : Bytes → Bytes
renumbered p = written (edition p) (root p)
