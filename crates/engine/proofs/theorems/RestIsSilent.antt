-- Document 02, order 7, proved: a rule at rest, here quiescent, writes nothing, so that a machine that passes it over does what the machine does that
-- tries all rules. For every accepted bench, every memory that is a state of it, and every line that is new there: each call that starts a cycle, in any list
-- of calls, meets one of these. So "state, rows and refusals equal those of trying all rules": what the calls promise (Calls, Demands) is said by that machine.
use Prim.Native.Nat.{ℕ}
use mathlib.Core.Path.{◌≡◌}
use mathlib.Core.Bool.{false}
use mathlib.Core.List.{List, []}
use mathlib.Core.Option.{some}
use lib.Dec.{T}
use Rattle.text.specs.definitions.Syntax.{Rule, File}
use Rattle.checking.specs.definitions.Scope.{variables}
use Rattle.checking.specs.definitions.Verdict.{Verdict, verdict}
use Rattle.checking.proofs.laws.VerdictLaws.{accepted_verdict}
use Rattle.checking.proofs.laws.AcceptedLaws.{within_counts}
use Rattle.checking.proofs.laws.CheckedFile.{accepted_known}
use Rattle.cycles.specs.definitions.Outcome.{running}
use Rattle.cycles.specs.definitions.Store.{Store}
use Rattle.cycles.specs.definitions.Spots.{spots}
use Rattle.cycles.specs.definitions.Reference.{ref_holds}
use Rattle.cycles.specs.definitions.Bindings.{bindings, ref_rule_writes}
use Rattle.cycles.specs.definitions.Cycle.{seen, ref_cycle}
use Rattle.cycles.specs.definitions.ClosedSet.{Among}
use Rattle.cycles.specs.definitions.SoundStores.{SoundInputs, SoundStores}
use Rattle.cycles.specs.definitions.Quiescence.{is_quiescent, ref_skipping_cycle}
use Rattle.cycles.proofs.laws.SoundStores.{seen_sound}
use Rattle.cycles.proofs.laws.SilenceLaws.{ref_at_rest, ref_rule_silent, skipping_same}
use Rattle.senders.specs.definitions.Sender.{State, Line}
use Rattle.senders.specs.definitions.Answer.{accepted}
use Rattle.senders.specs.definitions.Line.{new, its_line, line}
use Rattle.senders.specs.definitions.StateImage.{state_of}
use Rattle.senders.proofs.laws.StateLaws.{state_decoded_sound}
use Rattle.senders.proofs.laws.SoundLine.{accepted_line_sound}

-- what the rules see in the cycle of a line
abbrev pub sees : File → State → Line → Store
sees f s l = seen f s.stores.now l.inputs

pub record RestIsSilent : Type 0 where
  -- "no clause can hold": at no binding does the condition of a rule at rest hold
  pub at_rest : (text : List ℕ) (f : File) → verdict text ≡ Verdict.accepted f
      → (print : ℕ) (memory : List ℕ) (s : State) → state_of print f memory ≡ some s
      → (names values : List ℕ) (l : Line) → line f s names values ≡ accepted (new l)
      → (r : Rule) → Among r f.rules → T (is_quiescent f (sees f s l) s.stores.previous r)
      → (b : List ℕ) → Among b (bindings f (sees f s l) (variables r))
      → ref_holds (spots f (variables r) b) (sees f s l) s.stores.previous r.condition ≡ running false
  -- and so it writes nothing
  pub silent : (text : List ℕ) (f : File) → verdict text ≡ Verdict.accepted f
      → (print : ℕ) (memory : List ℕ) (s : State) → state_of print f memory ≡ some s
      → (names values : List ℕ) (l : Line) → line f s names values ≡ accepted (new l)
      → (r : Rule) → Among r f.rules → T (is_quiescent f (sees f s l) s.stores.previous r)
      → ref_rule_writes f (sees f s l) s.stores.previous r ≡ running []
  -- "so the rule is passed over without a choice being tried": the cycle is the same
  pub same : (text : List ℕ) (f : File) → verdict text ≡ Verdict.accepted f
      → (print : ℕ) (memory : List ℕ) (s : State) → state_of print f memory ≡ some s
      → (names values : List ℕ) (l : Line) → line f s names values ≡ accepted (new l)
      → ref_skipping_cycle f s.stores l.inputs ≡ ref_cycle f s.stores l.inputs

module _ (text : List ℕ) (f : File) (h : verdict text ≡ Verdict.accepted f) (print : ℕ) (memory : List ℕ) (s : State)
    (g : state_of print f memory ≡ some s) where
  sound : SoundStores f s.stores
  sound = (state_decoded_sound f (within_counts f (accepted_verdict text h)) print memory s g).stores

  taken : (names values : List ℕ) (l : Line) → line f s names values ≡ accepted (new l) → SoundInputs f l.inputs
  unfolding its_line
  taken names values l e = (accepted_line_sound f s names values (new l) e).inputs

pub rest_is_silent : RestIsSilent
rest_is_silent = record {
  at_rest = λ text f h print memory s g names values l e.
      ref_at_rest f (accepted_known f (accepted_verdict text h)) (sees f s l) s.stores.previous
      (seen_sound f s.stores.now l.inputs (sound text f h print memory s g).now (taken text f h print memory s g names values l e))
      (sound text f h print memory s g).previous;
  silent = λ text f h print memory s g names values l e.
      ref_rule_silent f (accepted_known f (accepted_verdict text h)) (sees f s l) s.stores.previous
      (seen_sound f s.stores.now l.inputs (sound text f h print memory s g).now (taken text f h print memory s g names values l e))
      (sound text f h print memory s g).previous;
  same = λ text f h print memory s g names values l e.
      skipping_same f (accepted_known f (accepted_verdict text h)) s.stores (sound text f h print memory s g) l.inputs
      (taken text f h print memory s g names values l e);
}
