-- The lines of the answers, and the header lines of the requests. Assumes nothing.
use Rattle.rules.specs.Verdicts.{CheckAnswer, StartAnswer, RunAnswer}
use Rattle.std.specs.Prelude.{ℕ, ◌+◌, ◌*◌, List, [], ◌∷◌, ◌++◌, Result, Ok, Err}
use Rattle.rules.specs.declared.Refusal.{Refusal}
use Rattle.rules.specs.Answers.{code_of, place_of}
use Rattle.wire.specs.declared.Request.{Request}
use Rattle.chains.specs.declared.Chain.{Chain}
use Rattle.chains.specs.declared.NoChain.{NoChain}
use Rattle.chains.specs.declared.NoChain.TheVariants.{NoLet, RoomLength}
use Rattle.mends.specs.declared.Unmended.{Unmended}
use Rattle.mends.specs.declared.Unmended.TheVariants.{ListLength}
use Rattle.written.specs.declared.TableSize.{TableSize}
use Rattle.rewritten.specs.declared.Untidied.{Untidied}
use Rattle.rewritten.specs.declared.Untidied.TheVariants.{RoomShort}
use Rattle.dropped.specs.declared.Unpaired.{Unpaired}
use Rattle.dropped.specs.declared.Unpaired.TheVariants.{OldRefused, NewRefused, EditionsDiffer, PairingLength, EntryWrong}
use Rattle.watched.specs.declared.ListFault.{ListFault}
use Rattle.watched.specs.declared.ListFault.TheVariants.{ListEntry}
use Rattle.texts.specs.declared.NoTable.{NoTable}
use Rattle.texts.specs.declared.NoTable.TheVariants.{BadWord, BadName, BadNumber}
use Rattle.texts.specs.declared.NoText.{NoText}
use Rattle.wire.specs.declared.Request.TheVariants.{Check, Start, Run}
use Rattle.wire.specs.Text.{field}

-- "OK "
abbrev pub ok : List ℕ
ok = 79 ∷ 75 ∷ 32 ∷ []

-- "REFUSED "
abbrev pub refused : List ℕ
refused = 82 ∷ 69 ∷ 70 ∷ 85 ∷ 83 ∷ 69 ∷ 68 ∷ 32 ∷ []

-- REFUSED code place work
unfoldable pub coded_line : ℕ → ℕ → ℕ → List ℕ
coded_line code place work = refused ++ field code 32 ++ field place 32 ++ field work 10

-- the same of a refusal
unfoldable pub refused_line : Refusal → ℕ → List ℕ
refused_line r work = coded_line (code_of r) (place_of r) work

-- OK nodes cells bound type
unfoldable pub accepted_line : ℕ → ℕ → ℕ → ℕ → List ℕ
accepted_line n cells bound ty = ok ++ field n 32 ++ field cells 32 ++ field bound 32 ++ field ty 10

-- the answer of check: accepted, or the refusal with no work
unfoldable pub checked_line : CheckAnswer → List ℕ
checked_line (Ok found) = accepted_line found.nodes found.cells found.bound found.root
checked_line (Err r) = refused_line r 0

-- the answer of start: OK and no number, or the refusal with no work
unfoldable pub started_line : StartAnswer → List ℕ
started_line (Ok _) = 79 ∷ 75 ∷ 10 ∷ []
started_line (Err r) = refused_line r 0

-- OK and two numbers: the let and the entries of its chain, or the nodes and the length of a new table
unfoldable pub finished_line : ℕ → ℕ → List ℕ
finished_line one other = ok ++ field one 32 ++ field other 10

-- OK steps work wrapped
unfoldable pub steps_line : ℕ → ℕ → ℕ → List ℕ
steps_line steps work wrapped = ok ++ field steps 32 ++ field work 32 ++ field wrapped 10

-- REFUSED code place work wrapped
unfoldable pub stopped_line : Refusal → ℕ → ℕ → List ℕ
stopped_line r work wrapped = refused ++ field (code_of r) 32 ++ field (place_of r) 32 ++ field work 32 ++ field wrapped 10

-- the answer of run: steps, work and the first wrapped step, or the refusal with those of the steps done
unfoldable pub ran_line : RunAnswer → List ℕ
ran_line (Ok end) = steps_line end.steps end.work end.wrapped
ran_line (Err stop) = stopped_line stop.why stop.work stop.wrapped

-- REFUSED code place 0 65535: a list that is refused; no step is done
unfoldable pub unlisted_line : ℕ → ℕ → List ℕ
unlisted_line code place = refused ++ field code 32 ++ field place 32 ++ field 0 32 ++ field 65535 10

-- the answer of watched: as run, or the refusal of the list
unfoldable pub watched_line : Result RunAnswer ListFault → List ℕ
watched_line (Ok r) = ran_line r
watched_line (Err ListFault.ListLength) = unlisted_line 17 0
watched_line (Err (ListEntry j)) = unlisted_line 18 j

-- the answer of explain: OK let entries, or the refusal with no work
unfoldable pub explained_line : Result Chain NoChain → List ℕ
explained_line (Ok chain) = finished_line chain.of chain.entries
explained_line (Err (NoChain.Refused r)) = refused_line r 0
explained_line (Err NoLet) = coded_line 25 0 0
explained_line (Err RoomLength) = coded_line 26 0 0

-- OK and one number: how many entries mend listed, or the length of a printed text
unfoldable pub listed_line : ℕ → List ℕ
listed_line one = ok ++ field one 10

-- the answer of mend: OK entries, or the refusal with no work
unfoldable pub mended_line : Result ℕ Unmended → List ℕ
mended_line (Ok entries) = listed_line entries
mended_line (Err (Unmended.Refused r)) = refused_line r 0
mended_line (Err ListLength) = coded_line 16 0 0

-- the answer of tidy: OK nodes length, or the refusal with no work
unfoldable pub tidied_line : Result TableSize Untidied → List ℕ
tidied_line (Ok size) = finished_line size.nodes size.bytes
tidied_line (Err (Untidied.Refused r)) = refused_line r 0
tidied_line (Err RoomShort) = coded_line 19 0 0

-- the refusal of a new program: 32 is added to its code
unfoldable pub new_line : Refusal → List ℕ
new_line r = coded_line (32 + code_of r) (place_of r) 0

-- the answer of paired: OK and no number, or the refusal with no work
unfoldable pub paired_line : Result (Unit {0}) Unpaired → List ℕ
paired_line (Ok tt) = started_line (Ok tt)
paired_line (Err (OldRefused r)) = refused_line r 0
paired_line (Err (NewRefused r)) = new_line r
paired_line (Err EditionsDiffer) = coded_line 29 0 0
paired_line (Err PairingLength) = coded_line 27 0 0
paired_line (Err (EntryWrong i)) = coded_line 28 i 0

-- the answer of read: OK nodes length; a text code at its position in the text, 24, or the refusal, with no work
unfoldable pub read_line : Result TableSize NoTable → List ℕ
read_line (Ok size) = finished_line size.nodes size.bytes
read_line (Err (BadWord at)) = coded_line 21 at 0
read_line (Err (BadName at)) = coded_line 22 at 0
read_line (Err (BadNumber at)) = coded_line 23 at 0
read_line (Err NoTable.RoomShort) = coded_line 24 0 0
read_line (Err (NoTable.Refused r)) = refused_line r 0

-- the answer of print: OK length, or the refusal with no work
unfoldable pub printed_line : Result ℕ NoText → List ℕ
printed_line (Ok long) = listed_line long
printed_line (Err (NoText.Refused r)) = refused_line r 0
printed_line (Err NoText.RoomShort) = coded_line 24 0 0

-- "check "
abbrev pub check : List ℕ
check = 99 ∷ 104 ∷ 101 ∷ 99 ∷ 107 ∷ 32 ∷ []

-- "start "
abbrev pub start : List ℕ
start = 115 ∷ 116 ∷ 97 ∷ 114 ∷ 116 ∷ 32 ∷ []

-- "run "
abbrev pub run : List ℕ
run = 114 ∷ 117 ∷ 110 ∷ 32 ∷ []

-- "watch "
abbrev pub watch_word : List ℕ
watch_word = 119 ∷ 97 ∷ 116 ∷ 99 ∷ 104 ∷ 32 ∷ []

-- "chain "
abbrev pub chain_word : List ℕ
chain_word = 99 ∷ 104 ∷ 97 ∷ 105 ∷ 110 ∷ 32 ∷ []

-- "mend "
abbrev pub mend_word : List ℕ
mend_word = 109 ∷ 101 ∷ 110 ∷ 100 ∷ 32 ∷ []

-- "tidy "
abbrev pub tidy_word : List ℕ
tidy_word = 116 ∷ 105 ∷ 100 ∷ 121 ∷ 32 ∷ []

-- "pair "
abbrev pub pair_word : List ℕ
pair_word = 112 ∷ 97 ∷ 105 ∷ 114 ∷ 32 ∷ []

-- "read "
abbrev pub read_word : List ℕ
read_word = 114 ∷ 101 ∷ 97 ∷ 100 ∷ 32 ∷ []

-- "print "
abbrev pub print_word : List ℕ
print_word = 112 ∷ 114 ∷ 105 ∷ 110 ∷ 116 ∷ 32 ∷ []

-- check PLEN
unfoldable pub check_line : ℕ → List ℕ
check_line p = check ++ field p 10

-- start PLEN SLEN
unfoldable pub start_line : ℕ → ℕ → List ℕ
start_line p s = start ++ field p 32 ++ field s 10

-- run PLEN SLEN RLEN OLEN
unfoldable pub run_line : ℕ → ℕ → ℕ → ℕ → List ℕ
run_line p s r o = run ++ field p 32 ++ field s 32 ++ field r 32 ++ field o 10

-- watch PLEN SLEN LLEN RLEN OLEN WLEN
unfoldable pub watch_line : ℕ → ℕ → ℕ → ℕ → ℕ → ℕ → List ℕ
watch_line p s l r o w = watch_word ++ field p 32 ++ field s 32 ++ field l 32 ++ field r 32 ++ field o 32 ++ field w 10

-- chain PLEN CLEN
unfoldable pub chain_line : ℕ → ℕ → List ℕ
chain_line p c = chain_word ++ field p 32 ++ field c 10

-- mend PLEN SLEN CLEN
unfoldable pub mend_line : ℕ → ℕ → ℕ → List ℕ
mend_line p s c = mend_word ++ field p 32 ++ field s 32 ++ field c 10

-- tidy PLEN BLEN
unfoldable pub tidy_line : ℕ → ℕ → List ℕ
tidy_line p b = tidy_word ++ field p 32 ++ field b 10

-- pair OLDLEN NEWLEN LLEN
unfoldable pub pair_line : ℕ → ℕ → ℕ → List ℕ
pair_line p q l = pair_word ++ field p 32 ++ field q 32 ++ field l 10

-- read TLEN BLEN
unfoldable pub reading_line : ℕ → ℕ → List ℕ
reading_line t b = read_word ++ field t 32 ++ field b 10

-- print PLEN TLEN
unfoldable pub printing_line : ℕ → ℕ → List ℕ
printing_line p t = print_word ++ field p 32 ++ field t 10

-- the header line of a request; entries are two bytes each
unfoldable pub header_line : Request → List ℕ
header_line (Check p) = check_line p
header_line (Start p s) = start_line p s
header_line (Run p s r o) = run_line p s r o
header_line (Request.Watch p s l r o w) = watch_line p s l r o w
header_line (Request.Chain p n) = chain_line p (2 * n)
header_line (Request.Mend p s n) = mend_line p s (2 * n)
header_line (Request.Tidy p b) = tidy_line p b
header_line (Request.Pair p q n) = pair_line p q (2 * n)
header_line (Request.Read t b) = reading_line t b
header_line (Request.Print p t) = printing_line p t
