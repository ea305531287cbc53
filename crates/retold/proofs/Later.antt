-- A text that is read gives blocks that pass codes 1-5; so only 6, 7 and 8 can follow.
-- Assumes nothing.
use Rattle.rules.specs.Verdicts.{Verdict}
use Rattle.std.specs.Prelude.{Result, Ok, Err, Option, Some, None}
use mathlib.Core.Path.{◌≡◌, sym, ap, subst, ◌∙◌}
use mathlib.Core.List.{List}
use Prim.Native.Nat.{ℕ, ◌≤◌}
use native.Mathlib.Omega.{arith}
use lib.Dec.{ltb}
use lib.ListN.{length}
use Rattle.rules.specs.Bytes.{Bytes, first}
use Rattle.rules.specs.Layout.{nodes}
use Rattle.rules.specs.Shape.{shape_wrong}
use Rattle.rules.specs.Scope.{scope_fault}
use Rattle.rules.specs.Typing.{type_fault}
use Rattle.rules.specs.Ready.{ready_fault}
use Rattle.rules.specs.Answers.{code_of}
use Rattle.rules.specs.Accepted.{Formed}
use Rattle.rules.specs.Calls.{◌otherwise◌, refuse_if, refuse_at, program_verdict}
use Rattle.rules.specs.declared.Refusal.TheVariants.{ScopeFault, TypeFault, NotReady}
use Rattle.written.specs.Parts.{size_p}
use Rattle.written.specs.Table.{blocks_for, table_of}
use Rattle.written.proofs.Tabled.{length_is, nodes_is, table_formed, table_shaped}
use Rattle.texts.specs.Tokens.{Token}
use Rattle.texts.specs.Rows.{Sofar, Got, got}
use Rattle.texts.specs.Resolved.{blocks_of}
use Rattle.texts.specs.Reader.{read_text}
use Rattle.texts.specs.Calls.{unread_answer, read_checked, read_fitted, read_outcome, read_call}
use Rattle.texts.specs.declared.Unread.{Unread}
use Rattle.texts.specs.declared.Unread.TheVariants.{Word, Name, Range}
use Rattle.written.specs.declared.TableSize.{TableSize}
use Rattle.texts.specs.declared.NoTable.{NoTable}
use Rattle.texts.specs.declared.NoTable.TheVariants.{BadWord, BadName, BadNumber}
use Rattle.texts.proofs.Decimals.{by_test}
use Rattle.texts.proofs.Yields.{Yields, yields, halts}
use Rattle.texts.proofs.TextRight.{Readable, text_yields}
use Rattle.retold.specs.OnlyLater.{WellMade, OnlyLater}

-- Right blocks and shape.
made : (text : Bytes) (e : ℕ) (rest : List Token) (so : Sofar) → Readable e rest so → WellMade text e so
unfolding blocks_for
made text e rest so r =
    let q = table_of e r.whole in
    let is = r.table in
    let all : nodes q ≡ size_p r.whole = nodes_is e r.whole r.right r.few in
    record {
      formed = subst Formed (sym is) (table_formed e r.whole r.right r.few r.edition_known);
      shaped = subst (λ (b : Bytes). first (shape_wrong b) (nodes b) ≡ None) (sym is) (table_shaped e r.whole r.right r.few r.signal);
      count = ap nodes is ∙ all ∙ sym r.rows;
      long = subst (λ (b : Bytes). length b ≤ 12288) (sym is) (let l = length_is e r.whole r.right r.few in let m = r.few in omega arith);
    }

pub yielded : {r : Got ℕ} → Yields Readable r → (e : ℕ) (rest : List Token) (so : Sofar) → r ≡ got e rest so → Readable e rest so
yielded {r} y e rest so z = of_got (subst (Yields Readable) z y)
  where
    of_got : Yields Readable (got e rest so) → Readable e rest so
    of_got (yields d) = d

pub well_made : (text : Bytes) (e : ℕ) (rest : List Token) (so : Sofar) → read_text text ≡ got e rest so → WellMade text e so
well_made text e rest so z = made text e rest so (yielded (text_yields text) e rest so z)

-- What the check says of it.
abbrev Later : Verdict → Type 0
Later (Ok _) = Unit {0}
Later (Err r) = (6 ≤ code_of r) × (code_of r ≤ 8)

later : (x y z : Option ℕ) → Later (refuse_at ScopeFault x otherwise refuse_at TypeFault y otherwise refuse_at NotReady z)
unfolding refuse_at ◌otherwise◌
later (Some n) y z = (omega arith, omega arith)
later None (Some n) z = (omega arith, omega arith)
later None None (Some n) = (omega arith, omega arith)
later None None None = tt

verdict_later : (q : Bytes) → Formed q → first (shape_wrong q) (nodes q) ≡ None → Later (program_verdict q)
unfolding program_verdict refuse_if refuse_at ◌otherwise◌
verdict_later q f s =
    rw (f.length_right, f.sums_right, f.numbers_right, f.records_right, s) (later (scope_fault q) (type_fault q) (ready_fault q))

-- At the call.
abbrev Rightly : Result TableSize NoTable → Type 0
Rightly (Ok size) = Unit {0}
Rightly (Err (BadWord at)) = Unit {0}
Rightly (Err (BadName at)) = Unit {0}
Rightly (Err (BadNumber at)) = Unit {0}
Rightly (Err NoTable.RoomShort) = Unit {0}
Rightly (Err (NoTable.Refused r)) = (6 ≤ code_of r) × (code_of r ≤ 8)

checked_rightly : (v : Verdict) (q room : Bytes) → Later v → Rightly (read_checked v q room).answer
unfolding read_checked
checked_rightly (Ok _) q room l = tt
checked_rightly (Err r) q room l = l

fitted_rightly : (q room : Bytes) → Later (program_verdict q) → Rightly (read_fitted q room).answer
unfolding read_fitted
fitted_rightly q room l =
    by_test (ltb (length room) (length q)) (λ t. rw (t, read_fitted) tt) (λ t. rw (t, read_fitted) (checked_rightly (program_verdict q) q room l))

unread_rightly : (why : Unread) → Rightly (unread_answer why)
unfolding unread_answer
unread_rightly (Word at) = tt
unread_rightly (Name at) = tt
unread_rightly (Range at) = tt

outcome_rightly : (text room : Bytes) {r : Got ℕ} → Yields Readable r → Rightly (read_outcome r room).answer
unfolding read_outcome
outcome_rightly text room (yields {x = e} {ts = rest} {so = so} d) =
    let m = made text e rest so d in fitted_rightly (blocks_of e so.rows) room (verdict_later _ m.formed m.shaped)
outcome_rightly text room (halts {why = why}) = unread_rightly why

pub only_later : (text room : Bytes) → OnlyLater text room
unfolding read_call
only_later text room r e = subst Rightly e (outcome_rightly text room (text_yields text))
