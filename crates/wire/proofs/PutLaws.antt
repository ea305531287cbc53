-- Laws of putting text into a line: a copy is one, one after another is one, and a line put from the start. Assumes nothing.
use Prim.Native.Nat.{ℕ, ◌+◌, ◌≤◌, ◌<◌}
use mathlib.Core.Path.{◌≡◌, sym, ap, ◌∙◌}
use mathlib.Core.List.{List, [], ◌∷◌, ◌++◌, append_assoc}
use native.Mathlib.Nat.{add_assoc}
use native.Mathlib.Numerals.{add-one}
use native.Mathlib.Omega.{arith}
use lib.ListN.{length, take, set, length-append}
use lib.Seq.{take_at, take-length, length-take-le, take-suc-set}
use Rattle.io.specs.Counts.{IsPrefixLen}
use Rattle.wire.specs.Text.{Put}

-- text that is copied to the part of a line from `at` on is put there
pub copied : (text line part tail rest : List ℕ) (at n : ℕ) → at + length text ≤ length line → n ≡ length text
    → part ≡ take (length text) text ++ tail → Put at text line (take at line ++ (part ++ rest)) (at + n)
copied text line part tail rest at n fits e p = record {
  place = ap (λ (k : ℕ). at + k) e;
  holds = ap (λ (l : List ℕ). take (at + n) (take at line ++ (l ++ rest))) (p ∙ ap (λ (t : List ℕ). t ++ tail) (take-length text))
      ∙ ap (λ (l : List ℕ). take (at + n) (take at line ++ l)) (append_assoc text tail rest)
      ∙ ap (λ (l : List ℕ). take (at + n) l) (sym (append_assoc (take at line) text (tail ++ rest)))
      ∙ take_at (take at line ++ text) (tail ++ rest) (at + n)
      (length-append (take at line) text ∙ ap (λ (k : ℕ). k + length text) (length-take-le at line (omega arith)) ∙ ap (λ (k : ℕ). at + k) (sym e));
}

-- text put behind text
pub behind : {a b c : ℕ} {t u before mid after : List ℕ} → Put a t before mid b → Put b u mid after c → Put a (t ++ u) before after c
behind {a} {b} {c} {t} {u} {before} p q = record {
  place = q.place ∙ ap (λ (k : ℕ). k + length u) p.place ∙ add_assoc a (length t) (length u) ∙ ap (λ (k : ℕ). a + k) (sym (length-append t u));
  holds = q.holds ∙ ap (λ (l : List ℕ). l ++ u) p.holds ∙ append_assoc (take a before) t u;
}

-- one byte stored where the text ends
pub stored : {a b : ℕ} {t before mid : List ℕ} (x : ℕ) → Put a t before mid b → b < length mid → Put a (t ++ (x ∷ [])) before (set mid b x) (b + 1)
stored {a} {b} {t} {before} {mid} x p h = record {
  place = ap (λ (k : ℕ). k + 1) p.place ∙ add_assoc a (length t) 1 ∙ ap (λ (k : ℕ). a + k) (sym (length-append t (x ∷ [])));
  holds = ap (λ (k : ℕ). take k (set mid b x)) (add-one b) ∙ take-suc-set mid b x h
      ∙ ap (λ (l : List ℕ). l ++ (x ∷ [])) p.holds ∙ append_assoc (take a before) t (x ∷ []);
}

-- a count within a list, as `&line[..n]` asks it
pub counts : (n : ℕ) (l : List ℕ) → n ≤ length l → IsPrefixLen n l
counts n l h = (h, sym (length-take-le n l h))

-- what is put from the start is the line
pub line_is : {t before after : List ℕ} {r : ℕ} → Put 0 t before after r → r ≤ length after → IsPrefixLen r after × (take r after ≡ t)
line_is {t} {before} {after} {r} p h = (counts r after h, p.holds)
