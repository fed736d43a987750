-- What acceptance of a text says: its length is within the limit, and it is the text of a file with no fault.
use Prim.Native.Nat.{ℕ, ◌≤◌}
use native.Mathlib.Omega.{arith}
use mathlib.Core.Path.{◌≡◌, refl, ap, subst}
use mathlib.Core.Bool.{Bool, true, false}
use mathlib.Core.List.{List}
use mathlib.Core.Option.{Option, none, some}
use lib.Dec.{leb}
use lib.ListN.{length}
use borrow.Author.Tests.{leb-true}
use Rattle.text.specs.definitions.Tokens.{Lexing, tokens, no_token_at, tokens_of}
use Rattle.text.specs.definitions.Syntax.{File}
use Rattle.text.specs.definitions.Parse.{ParseVerdict, grammatical, ungrammatical_at, parse}
use Rattle.checking.specs.definitions.Faults.{Fault, earliest}
use Rattle.checking.specs.definitions.PriorityFaults.{priority_faults}
use Rattle.checking.specs.definitions.CountFaults.{count_faults}
use Rattle.checking.specs.definitions.NameFaults.{name_faults}
use Rattle.checking.specs.definitions.KindFaults.{kind_faults}
use Rattle.checking.specs.definitions.Verdict.{
  Verdict,
  accepted,
  refused_at,
  refused_by,
  file_verdict,
  parsing_verdict,
  lexing_verdict,
  MOST_BYTES,
  verdict,
  file_of,
  accepted_file,
}

-- a file with no fault is the one that is accepted
accepted_is : (n o p q : Option Fault) (g : File) {f : File}
    → refused_by n (refused_by o (refused_by p (refused_by q (accepted g)))) ≡ accepted f → g ≡ f
unfolding refused_by
accepted_is none none none none g h = cc
accepted_is none none none (some x) g h = cc
accepted_is none none (some x) q g h = cc
accepted_is none (some x) p q g h = cc
accepted_is (some x) o p q g h = cc

file_accepted : (g : File) {f : File} → file_verdict g ≡ accepted f → file_verdict f ≡ accepted f
unfolding file_verdict
file_accepted g {f} h =
    let e : g ≡ f = accepted_is (earliest (priority_faults g)) (earliest (count_faults g)) (earliest (name_faults g)) (earliest (kind_faults g)) g h in
    subst (λ x. file_verdict x ≡ accepted f) e h

parsing_accepted : (p : ParseVerdict) {f : File} → parsing_verdict p ≡ accepted f → file_verdict f ≡ accepted f
unfolding parsing_verdict
parsing_accepted (grammatical g) h = file_accepted g h
parsing_accepted (ungrammatical_at p) h = let z : ◌≡◌ {A = ℕ} 0 1 = cc in absurd (omega arith)

lexing_accepted : (end : ℕ) (x : Lexing) {f : File} → lexing_verdict end x ≡ accepted f → file_verdict f ≡ accepted f
unfolding lexing_verdict
lexing_accepted end (tokens ts) h = parsing_accepted (parse end ts) h
lexing_accepted end (no_token_at p) h = let z : ◌≡◌ {A = ℕ} 0 1 = cc in absurd (omega arith)

-- an accepted text is no longer than the limit, and is read to a file that is accepted
within_limit : (text : List ℕ) {f : File} → verdict text ≡ accepted f
    → (leb (length text) MOST_BYTES ≡ true) × (lexing_verdict (length text) (tokens_of text) ≡ accepted f)
unfolding verdict
within_limit text {f} h = go (leb (length text) MOST_BYTES) refl
  where
    go : (b : Bool) → leb (length text) MOST_BYTES ≡ b → (leb (length text) MOST_BYTES ≡ true) × (lexing_verdict (length text) (tokens_of text) ≡ accepted f)
    go true e = (e, rw (e, verdict) at h)
    go false e = let g : refused_at 11 MOST_BYTES ≡ accepted f = rw (e, verdict) at h in let z : ◌≡◌ {A = ℕ} 0 1 = cc in absurd (omega arith)

pub accepted_length : (text : List ℕ) {f : File} → verdict text ≡ accepted f → length text ≤ MOST_BYTES
accepted_length text h = leb-true (length text) MOST_BYTES (within_limit text h).0

pub accepted_verdict : (text : List ℕ) {f : File} → verdict text ≡ accepted f → file_verdict f ≡ accepted f
accepted_verdict text h = lexing_accepted (length text) (tokens_of text) (within_limit text h).1

pub accepted_is_file : (text : List ℕ) {f : File} → verdict text ≡ accepted f → accepted_file text ≡ some f
unfolding accepted_file
accepted_is_file text h = ap file_of h

pub file_is_accepted : (text : List ℕ) {f : File} → accepted_file text ≡ some f → verdict text ≡ accepted f
unfolding accepted_file
file_is_accepted text {f} h = go (verdict text) h
  where
    go : (v : Verdict) → file_of v ≡ some f → v ≡ accepted f
    go (accepted g) e = cc
    go (refused_at code at) e = let z : ◌≡◌ {A = ℕ} 0 1 = cc in absurd (omega arith)
