-- Memory that the caller has: what is kept of it stands for the same.
use Prim.Native.Nat.{ℕ, ◌≤◌, ◌<◌}
use native.Mathlib.Omega.{arith}
use mathlib.Core.Path.{◌≡◌, refl, sym, ◌∙◌}
use mathlib.Core.List.{List, []}
use mathlib.Core.Option.{some}
use lib.ListN.{length, get_or, take}
use Rattle.std.proofs.lemmas.List.{get_or-take}
use Rattle.text.specs.definitions.Syntax.{File}
use Rattle.checking.specs.definitions.Verdict.{accepted_file}
use Rattle.checking.proofs.laws.VerdictLaws.{accepted_verdict, file_is_accepted}
use Rattle.checking.proofs.laws.AcceptedLaws.{within_counts}
use Rattle.cycles.specs.inner_contracts.HeaderReads.{MOST_COLUMNS}
use Rattle.cycles.proofs.laws.ColumnLaws.{backwards_taken}
use Rattle.senders.specs.definitions.Sender.{State}
use Rattle.senders.specs.definitions.Fingerprint.{fingerprint}
use Rattle.senders.specs.definitions.StateImage.{STATE, state_of}
use Rattle.senders.proofs.laws.StandsLaws.{fingerprint_below}
use Rattle.days.proofs.laws.ImageFront.{state_front}
use Rattle.engine.specs.inner_contracts.LineMemory.{HeaderRead}
use Rattle.replay.specs.inner_contracts.Awaiting.{Awaits, Memory, memory_of, StandsAt, Stands, Stood}
use Rattle.replay.specs.inner_contracts.Awaiting.Awaits.{names, values, nothing}
use Rattle.replay.specs.inner_contracts.Feeding.{LINE, cut, Resumed, Kept}
use Rattle.replay.specs.declared.Stage.{Stage}
use Rattle.replay.specs.declared.Stage.TheVariants.{Names, Values, Closed}
use Rattle.replay.proofs.laws.AwaitingLaws.{print_cut, left_cut}

-- of the columns' numbers a header has the first
header_front : {text names columns : List ℕ} {count : ℕ} → HeaderRead text names columns count → HeaderRead text names (take MOST_COLUMNS columns) count
header_front {columns = columns} {count = count} h = record {
  few = h.few;
  known = λ k l. let i = h.few in rw (get_or-take MOST_COLUMNS columns k 0 (omega arith)) (h.known k l);
  is = λ f i.
      let c = h.is f i in
      record { columns_of = c.columns_of; header_is = c.header_is; numbers_are = c.numbers_are ∙ sym (backwards_taken count MOST_COLUMNS columns h.few) };
}

module _ (m : Memory) (room : STATE ≤ length m.state) (low : (i : ℕ) → get_or m.state i 0 < 256) where
  front : {f : File} {s : State} → accepted_file m.text ≡ some f → state_of (fingerprint m.text) f m.state ≡ some s
      → state_of (fingerprint m.text) f (take STATE m.state) ≡ some s
  front {f} {s} i e =
      state_front f (within_counts f (accepted_verdict m.text (file_is_accepted m.text i))) (fingerprint m.text) (fingerprint_below m.text) m.state room low s e

  cut_stands : (a : Awaits) → Stands m a → Stands (cut m) a
  cut_stands a s = go m.stage a s
    where
      go : (stage : Stage) (a : Awaits) → StandsAt m.text a stage m.columns m.state
          → StandsAt m.text a stage (take MOST_COLUMNS m.columns) (take STATE m.state)
      go Names (names f) q = record { accepted = q.accepted; state_is = front q.accepted q.state_is }
      go (Values count) (values f ns s) q =
          record { accepted = q.accepted; state_is = front q.accepted q.state_is; header_is = header_front q.header_is }
      go Closed nothing q = tt
      go Names (values _ _ _) q = elim q [ ]
      go Names nothing q = elim q [ ]
      go (Values count) (names _) q = elim q [ ]
      go (Values count) nothing q = elim q [ ]
      go Closed (names _) q = elim q [ ]
      go Closed (values _ _ _) q = elim q [ ]

  -- before the bytes of a line are kept, with the copies of the columns' numbers and of the state
  module _ {columns state : List ℕ} (numbers : columns ≡ take MOST_COLUMNS m.columns) (image : state ≡ take STATE m.state) where
    abbrev before : Memory
    before = memory_of m.text m.stage columns [] state

    pub before_stood : Stood m → Stood before
    before_stood s = rw (numbers, image) (record { awaits = s.awaits; stands = cut_stands s.awaits s.stands; part = tt })

    is_cut : {n : Memory} → Kept before m.waiting n → n ≡ cut m
    is_cut k = k.is ∙ rw (numbers, image) refl

    pub resumed : {n : Memory} → Stood m → Kept before m.waiting n → Resumed m n
    resumed {n} s k = rw (is_cut k) (record {
      is = refl;
      stands = cut_stands;
      prints = λ a rest. print_cut LINE (omega arith) a m.waiting rest s.part;
      left = λ a rest. left_cut LINE (omega arith) a m.waiting rest s.part;
    })
