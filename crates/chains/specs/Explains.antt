-- The theorems' statements: "for each let such a chain exists exactly when it is not ready", and the call's chain is the first one.
-- Assumes nothing: these are definitions.
use Rattle.rules.specs.Verdicts.{accepted_with}
use Rattle.std.specs.Prelude.{◌≡◌, true, List, ◌∷◌, ◌++◌, ℕ, ◌-◌, ◌<◌, length, replicate, Ok, Err}
use Rattle.rules.specs.Bytes.{Bytes}
use Rattle.rules.specs.Layout.{nodes, kind_at, a_at, no_next, most_nodes}
use Rattle.rules.specs.Answers.{code_of}
use Rattle.rules.specs.Calls.{check_call}
use Rattle.rules.specs.declared.Refusal.{Refusal}
use Rattle.rules.specs.Tree.{signal_at}
use Rattle.rules.specs.Ready.{needs_s}
use Rattle.chains.specs.Chain.{Which, chain_of}
use Rattle.chains.specs.Leads.{Leads, FirstChain}
use Rattle.chains.specs.Explain.{ExplainOutcome, explain_call}
use Rattle.chains.specs.declared.NoChain.{NoChain}
use Rattle.chains.specs.declared.NoChain.TheVariants.{NoLet, RoomLength}

-- Node x is a let of the program.
pub record IsLet (p : Bytes) (x : ℕ) : Type 0 where
  pub inside : x < nodes p
  pub kind : kind_at p x ≡ 5

-- A let that is not ready (document 01): its definition needs its own variable at once.
abbrev pub NotReady : Bytes → ℕ → Type 0
NotReady p x = needs_s x (signal_at p (a_at p x)) ≡ true

-- The let's chain: the function's list begins with its definition and is the first by field order of all chains that do.
pub record HasChain (p : Bytes) (x : ℕ) : Type 0 where
  pub rest : List ℕ
  pub is : chain_of p x ≡ a_at p x ∷ rest
  pub first : FirstChain p x (a_at p x) rest

-- Such a chain exists exactly when the let is not ready, and there is one first.
pub record ExactlyNotReady (p : Bytes) (x : ℕ) : Type 0 where
  pub has : NotReady p x → HasChain p x
  pub only : (ns : List ℕ) (fs : List Which) → Leads p x (a_at p x) ns fs → NotReady p x
  pub one : (ns ms : List ℕ) → FirstChain p x (a_at p x) ns → FirstChain p x (a_at p x) ms → ns ≡ ms

-- What the call promises: for every program and every room, refusals too, the rules' answer and the rules' content of the room.
pub record Explaining (call : Bytes → List ℕ → ExplainOutcome) : Type 0 where
  pub as_ruled : (p : Bytes) (room : List ℕ) → call p room ≡ explain_call p room

-- Let x explained: it is a let and not ready; the answer is the let and how many entries its first chain has; the room holds that chain, and
-- "room entries after it are 65535".
pub record Told (p : Bytes) (x : ℕ) (o : ExplainOutcome) : Type 0 where
  pub is_let : IsLet p x
  pub not_ready : NotReady p x
  pub rest : List ℕ
  pub first : FirstChain p x (a_at p x) rest
  pub answered : o.answer ≡ Ok (record { of = x; entries = length (a_at p x ∷ rest) })
  pub written : o.room ≡ (a_at p x ∷ rest) ++ replicate (most_nodes - length (a_at p x ∷ rest)) no_next

-- The call beside the check of the same program: "codes 1-7 as in the check, then 25 if there is no let to explain, then 26 if the room for
-- node numbers is not exactly 1,008 entries"; "the let is the one that code 8 names".
pub record AsAsked (p : Bytes) (room : List ℕ) : Type 0 where
  pub early : (r : Refusal) → check_call p ≡ Err r → code_of r < 8 → explain_call p room ≡ record { answer = Err (NoChain.Refused r); room = room }
  pub no_let : (n cells bound type : ℕ) → check_call p ≡ accepted_with n cells bound type → explain_call p room ≡ record { answer = Err NoLet; room = room }
  pub wrong_room : (x : ℕ) → check_call p ≡ Err (Refusal.NotReady x) → (length room ≡ most_nodes → ⊥)
      → explain_call p room ≡ record { answer = Err RoomLength; room = room }
  pub explained : (x : ℕ) → check_call p ≡ Err (Refusal.NotReady x) → length room ≡ most_nodes → Told p x (explain_call p room)
