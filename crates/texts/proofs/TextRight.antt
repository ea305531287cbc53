-- A text that is read gives the table of a right tree of records, in one of the two editions.
-- Assumes nothing.
use Rattle.std.specs.Prelude.{Option, Some, None, ℕ}
use mathlib.Core.Path.{◌≡◌, refl, sym, ap, ◌∙◌}
use mathlib.Core.Bool.{true}
use mathlib.Core.List.{List, [], ◌∷◌, ◌++◌, map}
use Prim.Native.Nat.{ℕ, ◌≤◌}
use native.Mathlib.Omega.{arith}
use lib.ListN.{length}
use Rattle.rules.specs.Bytes.{Bytes}
use Rattle.rules.specs.Kinds.{is_signal}
use Rattle.rules.specs.Shape.{is_child, may_be}
use Rattle.rules.specs.declared.Field.{Field}
use Rattle.written.specs.Parts.{Part, size_p, rows_p}
use Rattle.written.specs.Table.{rows_bytes, blocks_from, blocks_for, table_of}
use Rattle.written.specs.Right.{kind_p, RightP}
use Rattle.written.proofs.Rows.{rows_p_length}
use Rattle.texts.specs.Tokens.{Token, tokens}
use Rattle.texts.specs.Spelled.{same}
use Rattle.texts.specs.Spelling.{edition_word, edition_named}
use Rattle.texts.specs.Rows.{Sofar, at_start, got, stopped}
use Rattle.texts.specs.Resolved.{record_of, table_from, blocks_of}
use Rattle.texts.specs.Reader.{branch_names, title, ended, reading, read_text}
use Rattle.texts.specs.declared.Unread.TheVariants.{Word}
use Rattle.texts.proofs.Yields.{Yields, yields, halts, then_yields, first_passes, next_yields}
use Rattle.texts.proofs.Grown.{Noded}
use Rattle.texts.proofs.NodeRead.{node_yields}

-- What a whole text gives.
pub record Readable (e : ℕ) (rest : List Token) (so : Sofar) : Type 0 where
  pub edition_known : e ≤ 1
  pub whole : Part
  pub right : RightP whole
  pub signal : is_signal (kind_p whole) ≡ true
  pub few : size_p whole ≤ 1008
  pub rows : length so.rows ≡ size_p whole
  pub table : blocks_of e so.rows ≡ table_of e whole

by_edition : (so : Sofar) (at : ℕ) (w : Bytes) (x : Option ℕ) → edition_named w ≡ x → (ts₁ : List Token) (so₁ : Sofar) → so₁ ≡ so
    → Yields (λ (e : ℕ) rest so₂. (e ≤ 1) × (so₂ ≡ so)) (elim x [ Some e ↦ got e ts₁ so₁ | None ↦ stopped (Word at) ])
unfolding edition_named
by_edition so at w (Some e) is ts₁ so₁ z = yields {x = e} (let l = (first_passes (λ e. same w (edition_word e)) 2 e is).1 in omega arith, z)
by_edition so at w None is ts₁ so₁ z = halts

title_yields : (finish : ℕ) (ts : List Token) (so : Sofar) → Yields (λ (e : ℕ) rest so₁. (e ≤ 1) × (so₁ ≡ so)) (title finish ts so)
unfolding title
title_yields finish ts so =
    then_yields _ (next_yields finish ts so) (λ t ts₁ so₁ e. by_edition so t.at t.word (edition_named t.word) refl ts₁ so₁ e)

readable : (e : ℕ) (so₀ so : Sofar) (n : ℕ) → e ≤ 1 → so₀ ≡ at_start → Noded Field.Signal so₀ n so → (rest : List Token) → Readable e rest so
unfolding at_start may_be blocks_of table_from table_of
readable e so₀ so n one z d rest =
    let R = so.rows in
    let all : so.rows ≡ d.new = d.rows_are ∙ ap (λ (x : Sofar). x.rows ++ d.new) z in
    let few : length R ≤ 1008 = (let a = d.begun_is in let b = ap (λ (x : Sofar). x.begun) z in let c = d.few in let l = ap length all in omega arith) in
    let same : map (record_of R) R ≡ rows_p (d.tree R) 0 = ap (map (record_of R)) all ∙ d.records R 0 (ap (λ (x : Sofar). length x.rows) (sym z)) in
    let size : length R ≡ size_p (d.tree R) = ap length all ∙ sym (d.size R) in
    record {
      edition_known = one;
      whole = d.tree R;
      right = d.right R few;
      signal = d.sorted R;
      few = (let a = size in let l = few in omega arith);
      rows = size;
      table = ap (table_from e) same ∙ ap (λ (x : ℕ). blocks_from (blocks_for x) e (blocks_for x) 0 (rows_bytes (rows_p (d.tree R) 0))) (rows_p_length (d.tree R) 0);
    }

ended_yields : (e : ℕ) (rest : List Token) (so : Sofar) → Readable e [] so → Yields Readable (ended e rest so)
unfolding ended
ended_yields e [] so r = yields r
ended_yields e (t ∷ ts) so r = halts

pub text_yields : (text : Bytes) → Yields Readable (read_text text)
unfolding read_text reading is_child
text_yields text =
    let ts = tokens text in
    let finish = length text in
    then_yields _ (title_yields finish ts at_start) (λ e ts₁ so₁ p.
    then_yields _ (node_yields 1009 (branch_names ts) finish Field.Signal ts₁ so₁ refl) (λ n ts₂ so₂ d.
    ended_yields e ts₂ so₂ (readable e so₁ so₂ n p.0 p.1 d [])))
