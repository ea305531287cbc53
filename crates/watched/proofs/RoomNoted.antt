-- The walk over a room whose entries were cleared leaves what a step shows, and nothing else.
-- Assumes nothing.
use Rattle.std.specs.Prelude.{if◌then◌else◌}
use mathlib.Core.Path.{◌≡◌, refl, sym, ap, ◌∙◌}
use mathlib.Core.List.{List, [], ◌∷◌, ◌++◌}
use mathlib.Core.Bool.{Bool, true, false}
use Prim.Native.Nat.{ℕ, zero, suc, ◌+◌, ◌*◌, ◌/◌, ◌%◌, ◌<◌, ◌≤◌}
use native.Mathlib.Omega.{arith}
use lib.Dec.{eqb}
use lib.ListN.{length, set}
use lib.Seq.{set-set, set_comm}
use Rattle.rules.specs.Bytes.{Bytes, byte_at, u16_at, u32_at, u64_at, bytes_of, write_at}
use Rattle.rules.specs.Values.{packed, value_bytes}
use Rattle.rules.specs.Layout.{most_nodes, held, is_clear, branch_in}
use Rattle.rules.specs.Tree.{Signal, input, time, ext, delay, let_signal, switch, group, until, Branches, no_branch, branch, root}
use Rattle.rules.specs.Evaluate.{Env, unbound, bind, eval_s}
use Rattle.rules.specs.declared.Value.{Value}
use Rattle.rules.specs.Evaluated.{Evaluated, Done, Stuck}
use Rattle.watched.specs.Gave.{given, own, once, gave_s, gave_b}
use Rattle.watched.specs.Note.{put, keep, onceᵇ, note_s, note_b}
use Rattle.watched.specs.Watch.{shown}

-- Bytes written over bytes.
set_before : (bs s : Bytes) (i j v : ℕ) → i < j → set (write_at s j bs) i v ≡ write_at (set s i v) j bs
unfolding write_at
set_before [] s i j v h = refl
set_before (b ∷ bs) s i j v h =
    set_before bs (set s j b) i (suc j) v (omega arith) ∙ ap (λ (x : Bytes). write_at x (suc j) bs) (set_comm s j i b v (omega arith))

pub write_over : (a v r s : Bytes) (i : ℕ) → length a ≡ length v → write_at (write_at s i (a ++ r)) i v ≡ write_at s i (v ++ r)
unfolding write_at
write_over [] [] r s i e = refl
write_over [] (y ∷ v) r s i e = absurd (omega arith)
write_over (x ∷ a) [] r s i e = absurd (omega arith)
write_over (x ∷ a) (y ∷ v) r s i e =
    ap (λ (z : Bytes). write_at z (suc i) v) (set_before (a ++ r) (set s i x) i (suc i) y (omega arith) ∙ ap (λ (z : Bytes). write_at z (suc i) (a ++ r)) (set-set s i x y))
    ∙ write_over a v r (set s i y) (suc i) (omega arith)

write_join : (a b s : Bytes) (i : ℕ) → write_at s i (a ++ b) ≡ write_at (write_at s i a) (i + length a) b
unfolding write_at
write_join [] b s i = ap (λ (k : ℕ). write_at s k b) (let e : i ≡ i + 0 = omega arith in e)
write_join (x ∷ a) b s i =
    write_join a b (set s i x) (suc i)
    ∙ ap (λ (k : ℕ). write_at (write_at (set s i x) (suc i) a) k b) (let e : suc i + length a ≡ i + suc (length a) = omega arith in e)

-- Eight bytes, read as a number and written again.
digit : (k b y : ℕ) → b < 256 → bytes_of (suc k) (b + 256 * y) ≡ b ∷ bytes_of k y
unfolding bytes_of
digit k b y h =
    let e : (b + 256 * y) % 256 ≡ b = omega arith in
    let f : (b + 256 * y) / 256 ≡ y = omega arith in
    λ i. e i ∷ bytes_of k (f i)

small : (m : ℕ) → m % 256 < 256
small m = omega arith

again : (a b c d e f g h : ℕ) → a < 256 → b < 256 → c < 256 → d < 256 → e < 256 → f < 256 → g < 256 → h < 256
    → bytes_of 8 (a + 256 * (b + 256 * (c + 256 * (d + 256 * (e + 256 * (f + 256 * (g + 256 * (h + 256 * 0))))))))
    ≡ a ∷ b ∷ c ∷ d ∷ e ∷ f ∷ g ∷ h ∷ bytes_of 0 0
again a b c d e f g h ha hb hc hd he hf hg hh =
    digit 7 a _ ha
    ∙ ap (λ (l : Bytes). a ∷ l) (digit 6 b _ hb
    ∙ ap (λ (l : Bytes). b ∷ l) (digit 5 c _ hc
    ∙ ap (λ (l : Bytes). c ∷ l) (digit 4 d _ hd
    ∙ ap (λ (l : Bytes). d ∷ l) (digit 3 e _ he
    ∙ ap (λ (l : Bytes). e ∷ l) (digit 2 f _ hf
    ∙ ap (λ (l : Bytes). f ∷ l) (digit 1 g _ hg
    ∙ ap (λ (l : Bytes). g ∷ l) (digit 0 h 0 hh)))))))

sum : (a b c d e f g h : ℕ)
    → a + 256 * b + 65536 * (c + 256 * d) + 4294967296 * (e + 256 * f + 65536 * (g + 256 * h))
    ≡ a + 256 * (b + 256 * (c + 256 * (d + 256 * (e + 256 * (f + 256 * (g + 256 * (h + 256 * 0)))))))
sum a b c d e f g h = omega arith

bytes_again : (m : ℕ) → bytes_of 8 (u64_at (bytes_of 8 m) 0) ≡ bytes_of 8 m
unfolding u64_at u32_at u16_at byte_at bytes_of
bytes_again m =
    ap (bytes_of 8) (sum (m % 256) (m / 256 % 256) (m / 256 / 256 % 256) (m / 256 / 256 / 256 % 256) (m / 256 / 256 / 256 / 256 % 256)
    (m / 256 / 256 / 256 / 256 / 256 % 256) (m / 256 / 256 / 256 / 256 / 256 / 256 % 256) (m / 256 / 256 / 256 / 256 / 256 / 256 / 256 % 256))
    ∙ again (m % 256) (m / 256 % 256) (m / 256 / 256 % 256) (m / 256 / 256 / 256 % 256) (m / 256 / 256 / 256 / 256 % 256)
    (m / 256 / 256 / 256 / 256 / 256 % 256) (m / 256 / 256 / 256 / 256 / 256 / 256 % 256) (m / 256 / 256 / 256 / 256 / 256 / 256 / 256 % 256)
    (small _) (small _) (small _) (small _) (small _) (small _) (small _) (small _)

-- A number for each entry, 8 bytes each.
unfoldable pub rows : (ℕ → ℕ) → List ℕ → Bytes
rows f [] = []
rows f (x ∷ xs) = bytes_of 8 (f x) ++ rows f xs

eight : (m : ℕ) → length (bytes_of 8 m) ≡ 8
unfolding bytes_of
eight m = refl

write_row : (f : ℕ → ℕ) (x : ℕ) (xs : List ℕ) (room : Bytes) (at m : ℕ)
    → write_at room at (bytes_of 8 m ++ rows f xs) ≡ write_at (write_at room at (bytes_of 8 m)) (at + 8) (rows f xs)
write_row f x xs room at m = write_join (bytes_of 8 m) (rows f xs) room at ∙ ap (λ (k : ℕ). write_at (write_at room at (bytes_of 8 m)) (at + k) (rows f xs)) (eight m)

-- One entry.
put_row : (b : Bool) (r : Evaluated) (m : ℕ) (rest room : Bytes) (at : ℕ)
    → (if b then put r (write_at room at (bytes_of 8 m ++ rest)) at else write_at room at (bytes_of 8 m ++ rest))
    ≡ write_at room at (bytes_of 8 (if b then given r m else m) ++ rest)
unfolding put given value_bytes
put_row false r m rest room at = refl
put_row true Stuck m rest room at = refl
put_row true (Done v u) m rest room at =
    write_over (bytes_of 8 m) (bytes_of 8 (packed v)) rest room at (eight m ∙ sym (eight (packed v)))
    ∙ ap (λ (l : Bytes). write_at room at (l ++ rest)) (sym (bytes_again (packed v)))

keep_rows : (l : List ℕ) (at n : ℕ) (r : Evaluated) (room : Bytes) (f : ℕ → ℕ)
    → keep l at n r (write_at room at (rows f l)) ≡ write_at room at (rows (λ x. own n x r (f x)) l)
unfolding keep own rows
keep_rows [] at n r room f = refl
keep_rows (x ∷ xs) at n r room f =
    let m : ℕ = if eqb n x then given r (f x) else f x in
    ap (keep xs (at + 8) n r) (put_row (eqb n x) r (f x) (rows f xs) room at ∙ write_row f x xs room at m)
    ∙ keep_rows xs (at + 8) n r (write_at room at (bytes_of 8 m)) f ∙ sym (write_row (λ y. own n y r (f y)) x xs room at m)

module _ (l : List ℕ) (at : ℕ) (room : Bytes) where
  abbrev Room : (ℕ → ℕ) → Bytes
  Room f = write_at room at (rows f l)

  if_rows : (b : Bool) (x y : Bytes) (f g : ℕ → ℕ) → x ≡ Room f → y ≡ Room g → (if b then x else y) ≡ Room (λ k. if b then f k else g k)
  if_rows true x y f g e h = e
  if_rows false x y f g e h = h

  once_rows : (r : Evaluated) (step : Value → Bytes → Bytes) (g : Value → ℕ → ℕ → ℕ) (f : ℕ → ℕ)
      → ((v : Value) → step v (Room f) ≡ Room (λ x. g v x (f x))) → onceᵇ r step (Room f) ≡ Room (λ x. once r (λ v y. g v x y) (f x))
  unfolding onceᵇ once
  once_rows (Done v u) step g f h = h v
  once_rows Stuck step g f h = refl

  module _ (rec st : Bytes) where
    mutual
      unfolding note_s gave_s

      note_rows : (env : Env) (s : Signal) (f : ℕ → ℕ) → note_s l at rec st env s (Room f) ≡ Room (λ x. gave_s rec st env s x (f x))
      note_rows env (input n c) f = keep_rows l at n _ room f
      note_rows env (time n) f = keep_rows l at n _ room f
      note_rows env (ext n e) f = keep_rows l at n _ room f
      note_rows env (delay n k v s) f = keep_rows l at n _ room f
      note_rows env (let_signal n t d b) f =
          let f₁ : ℕ → ℕ = λ x. gave_s rec st env d x (f x) in
          let f₂ : ℕ → ℕ = λ x. once (eval_s rec st env d) (λ v y. gave_s rec st (bind env n v) b x y) (f₁ x) in
          ap (keep l at n (eval_s rec st env (let_signal n t d b)))
          (ap (λ (r : Bytes). onceᵇ (eval_s rec st env d) (λ v q. note_s l at rec st (bind env n v) b q) r) (note_rows env d f)
          ∙ once_rows (eval_s rec st env d) (λ v q. note_s l at rec st (bind env n v) b q) (λ v x y. gave_s rec st (bind env n v) b x y) f₁
          (λ v. note_rows (bind env n v) b f₁))
          ∙ keep_rows l at n _ room f₂
      note_rows env (switch n k t a e s) f =
          let f₁ : ℕ → ℕ = λ x. if is_clear st k then gave_s rec st env a x (f x) else gave_s rec st (bind env n (held st k)) s x (f x) in
          ap (keep l at n (eval_s rec st env (switch n k t a e s)))
          (if_rows (is_clear st k) _ _ (λ x. gave_s rec st env a x (f x)) (λ x. gave_s rec st (bind env n (held st k)) s x (f x))
          (note_rows env a f) (note_rows (bind env n (held st k)) s f))
          ∙ keep_rows l at n _ room f₁
      note_rows env (group n k body brs) f =
          let f₁ : ℕ → ℕ = λ x. if is_clear st k then gave_s rec st env body x (f x) else gave_b rec st env (branch_in st k) (held st k) brs x (f x) in
          ap (keep l at n (eval_s rec st env (group n k body brs)))
          (if_rows (is_clear st k) _ _ (λ x. gave_s rec st env body x (f x)) (λ x. gave_b rec st env (branch_in st k) (held st k) brs x (f x))
          (note_rows env body f) (branch_rows env (branch_in st k) (held st k) brs f))
          ∙ keep_rows l at n _ room f₁
      note_rows env (until n s cs) f =
          let f₁ : ℕ → ℕ = λ x. gave_s rec st env s x (f x) in
          ap (keep l at n (eval_s rec st env (until n s cs))) (note_rows env s f) ∙ keep_rows l at n _ room f₁

      branch_rows : (env : Env) (which : ℕ) (v : Value) (brs : Branches) (f : ℕ → ℕ)
          → note_b l at rec st env which v brs (Room f) ≡ Room (λ x. gave_b rec st env which v brs x (f x))
      branch_rows env which v no_branch f = refl
      branch_rows env which v (branch n t body next) f =
          if_rows (eqb n which) _ _ (λ x. gave_s rec st (bind env n v) body x (f x)) (λ x. gave_b rec st env which v next x (f x))
          (note_rows (bind env n v) body f) (branch_rows env which v next f)

-- Entries that are cleared.
cleared : (l : List ℕ) → bytes_of (8 * length l) 0 ≡ rows (λ x. 0) l
unfolding rows bytes_of
cleared [] = refl
cleared (x ∷ xs) =
    let e : 8 * suc (length xs) ≡ suc (suc (suc (suc (suc (suc (suc (suc (8 * length xs)))))))) = omega arith in
    ap (λ (k : ℕ). bytes_of k 0) e ∙ ap (λ (r : Bytes). bytes_of 8 0 ++ r) (cleared xs)

shows : (p rec st : Bytes) (l : List ℕ) → shown p rec st l ≡ rows (λ x. gave_s rec st (unbound most_nodes) (root p) x 0) l
unfolding shown rows
shows p rec st [] = refl
shows p rec st (x ∷ xs) = ap (λ (r : Bytes). bytes_of 8 (gave_s rec st (unbound most_nodes) (root p) x 0) ++ r) (shows p rec st xs)

-- A step's row of the second room: its entries cleared, and then the walk from the root.
pub room_noted : (p rec st : Bytes) (l : List ℕ) (at : ℕ) (room : Bytes)
    → note_s l at rec st (unbound most_nodes) (root p) (write_at room at (bytes_of (8 * length l) 0)) ≡ write_at room at (shown p rec st l)
room_noted p rec st l at room =
    ap (λ (r : Bytes). note_s l at rec st (unbound most_nodes) (root p) (write_at room at r)) (cleared l)
    ∙ note_rows l at room rec st (unbound most_nodes) (root p) (λ x. 0) ∙ ap (write_at room at) (sym (shows p rec st l))
