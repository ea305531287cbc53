-- Printed and read again: for a table that is laid out well (numbered children first), the reader stops nowhere in the printed text and gives the
-- table's rows, with the printed names. (That the printed text has each target's branch is taken as given here: Aims.)
-- Assumes nothing.
use Rattle.std.specs.Prelude.{Some}
use mathlib.Core.Path.{◌≡◌, refl, sym, ap, ◌∙◌}
use mathlib.Core.Bool.{Bool, true, false}
use mathlib.Core.List.{List, [], ◌∷◌, ◌++◌, append-nil, cons≢nil}
use Prim.Native.Nat.{ℕ, zero, suc, ◌-◌, ◌<◌, ◌≤◌}
use native.Mathlib.Omega.{arith}
use lib.ListN.{length}
use Rattle.rules.specs.Bytes.{Bytes, first, first_from, ◌and◌, ◌or◌}
use Rattle.rules.specs.Layout.{nodes, edition}
use Rattle.rules.specs.declared.Field.TheVariants.{Signal}
use Rattle.texts.specs.Tokens.{Token, tokens, is_white, ends_line, is_comment, is_mark, is_part, are_parts, is_plain_word}
use Rattle.texts.specs.Spelled.{spelled, same, is_among}
use Rattle.texts.specs.Spelling.{edition_word, edition_named}
use Rattle.texts.specs.Rows.{Sofar, at_start, Got, ◌onward◌}
use Rattle.texts.specs.Reader.{branch_names, title, ended, reading, read_text}
use Rattle.texts.specs.Printer.{Piece, tight, pieces_f, pieces, laid, printed}
use Rattle.texts.proofs.Gives.{words, Claim, Gives, gives, then_gives, regroup, after_got, after_next, false≢true}
use Rattle.texts.proofs.ValueLaws.{spellings}
use Rattle.texts.proofs.Laid.{Opens, Laid, is_list}
use Rattle.texts.proofs.NodeLaws.{first_rows, is_taken, Aims}
use Rattle.texts.proofs.Whole.{node_reads}
use Rattle.texts.proofs.Apart.{Apart, apart_end, says}
use Rattle.texts.proofs.Loose.{word_from, tight_word, node_loose}

-- What reading gives: the edition, all words read, the table's rows.
pub record ReadBack (q : Bytes) (n x : ℕ) (rest : List Token) (so : Sofar) : Type 0 where
  pub edition_is : x ≡ edition q
  pub all_read : rest ≡ []
  pub rows : so.rows ≡ first_rows q (suc n)

-- An edition's word is one word, and stands for it.
pub edition_word_lem : (e : ℕ) → e ≤ 1 → is_plain_word (edition_word e) ≡ true
unfolding edition_word is_plain_word are_parts is_part is_white ends_line is_comment is_mark spelled ◌and◌ ◌or◌
edition_word_lem zero l = refl
edition_word_lem (suc zero) l = refl
edition_word_lem (suc (suc e)) l = absurd (omega arith)

pub edition_named_lem : (e : ℕ) → e ≤ 1 → edition_named (edition_word e) ≡ Some e
unfolding edition_named edition_word first first_from spelled same ◌and◌
edition_named_lem zero l = refl
edition_named_lem (suc zero) l = refl
edition_named_lem (suc (suc e)) l = absurd (omega arith)

-- The words of the printed text.
pub printed_words : (q : Bytes) (targets : Opens) (n : ℕ) → nodes q ≡ suc n → n < 1008 → edition q ≤ 1 → Laid q targets (λ m. false) Signal 0 n
    → words (tokens (printed q)) ≡ edition_word (edition q) ∷ spellings (pieces_f (nodes q) q 0 false Signal n) ++ []
unfolding printed tokens pieces tight
printed_words q targets n e l one laid₀ =
    let w = edition_word (edition q) in
    let xs = pieces_f (nodes q) q 0 false Signal n in
    let apart : Apart false (tight w ∷ (xs ++ [])) = tight_word w (xs ++ []) (word_from w (edition_word_lem (edition q) one)) (node_loose laid₀ l (nodes q) 0 false [] (omega arith) (λ a. apart_end)) in
    ap (λ (k : ℕ). words (tokens (laid (tight w ∷ pieces_f (nodes q) q 0 false Signal k)))) (let z : nodes q - 1 ≡ n = omega arith in z)
    ∙ ap (λ (ys : List Piece). words (tokens (laid (tight w ∷ ys)))) (sym (append-nil xs))
    ∙ says apart 0
    ∙ ap {B = List Bytes} (λ (ys : List Piece). w ∷ spellings ys) (append-nil xs)
    ∙ sym (append-nil (w ∷ spellings xs))

-- The title.
after_title : {B : Type 0} {Q : Claim B} (k : ℕ → List Token → Sofar → Got B) (e : ℕ) (W : List Bytes) (finish : ℕ) (ts : List Token) (so : Sofar)
    → words ts ≡ edition_word e ∷ W → e ≤ 1 → ((rest : List Token) → words rest ≡ W → Gives Q (k e rest so)) → Gives Q (title finish ts so onward k)
unfolding title
after_title k e W finish ts so is one h =
    regroup _ _ k (after_next _ (edition_word e) W finish ts so is (λ t rest here left.
    rw (ap edition_named here ∙ edition_named_lem e one) (after_got k e rest so (h rest left))))

-- Nothing is left.
none_left : (q : Bytes) (n x : ℕ) (rest : List Token) (so : Sofar) → x ≡ edition q → words rest ≡ [] → so.rows ≡ first_rows q (suc n) → Gives (ReadBack q n) (ended x rest so)
unfolding ended
none_left q n x [] so e w r = gives (record { edition_is = e; all_read = refl; rows = r })
none_left q n x (t ∷ ts) so e w r = absurd (cons≢nil w)

none_taken : (s : Bool) (m : ℕ) → is_taken s m at_start ≡ false
unfolding at_start is_among
none_taken true m = refl
none_taken false m = refl

pub text_reads : (q : Bytes) (targets : Opens) (n : ℕ) → nodes q ≡ suc n → n < 1008 → edition q ≤ 1 → Aims targets (branch_names (tokens (printed q)))
    → Laid q targets (λ m. false) Signal 0 n → Gives (ReadBack q n) (read_text (printed q))
unfolding read_text reading at_start first_rows is_among is_list
text_reads q targets n e l one aims laid₀ =
    let text = printed q in
    let ts = tokens text in
    let names = branch_names ts in
    let finish = length text in
    after_title _ (edition q) _ finish ts at_start (printed_words q targets n e l one laid₀) one (λ rest left.
    then_gives _
    (node_reads laid₀ names finish aims (nodes q) 1009 0 0 false rest at_start [] (omega arith) (omega arith) left (λ u. absurd (false≢true u))
    (record { rows_are = refl; begun_is = refl; x_apart = λ m. refl; k_apart = λ m. refl }) (λ m o. absurd (false≢true o)) (λ m o. absurd (false≢true o)) (λ s m c u. none_taken s m) (omega arith))
    (λ x rest₁ so₁ d. none_left q n (edition q) rest₁ so₁ refl d.1 d.2.rows_are))
