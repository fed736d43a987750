-- Whatever chunks a text of readings comes in: a run writes what `replay` says.
use Prim.Native.Nat.{ℕ, ◌+◌}
use native.Mathlib.Omega.{arith}
use mathlib.Core.Bool.{true}
use mathlib.Core.Path.{◌≡◌, sym, ap, ◌∙◌}
use mathlib.Core.List.{List, [], ◌++◌, append-nil}
use lib.ListN.{take}
use Rattle.checking.specs.definitions.Verdict.{verdict, MOST_BYTES}
use Rattle.cycles.specs.definitions.Readings.{lines}
use Rattle.replay.specs.definitions.Replay.{replay_by, replay}
use Rattle.replay.specs.inner_contracts.Awaiting.{Awaits, to_print, awaited_first, Memory, StandsAt, Stands}
use Rattle.replay.specs.inner_contracts.Awaiting.Awaits.{names, values, nothing}
use Rattle.replay.specs.inner_contracts.Feeding.{is_closed}
use Rattle.replay.specs.definitions.InChunks.{joined, Writes, Replays, WritesOn, ReplaysOn}
use Rattle.replay.specs.definitions.InChunks.Writes.{feeds, reads, ends, closes}
use Rattle.replay.specs.definitions.InChunks.Replays.{begins, refuses}
use Rattle.replay.specs.declared.Stage.{Stage}
use Rattle.replay.specs.declared.Stage.TheVariants.{Names, Values, Closed}
use Rattle.replay.proofs.laws.AwaitingLaws.{nothing_printed, replay_printed, verdict_cut}

nothing_left : (m : Memory) (t : List ℕ) (a : Awaits) → is_closed m.stage ≡ true → Stands m a → [] ≡ to_print a t
unfolding is_closed
nothing_left m t a e q = go m.stage a e q
  where
    go : (stage : Stage) (a : Awaits) → is_closed stage ≡ true → StandsAt m.text a stage m.columns m.state → [] ≡ to_print a t
    go Names a e q = let z : ◌≡◌ {A = ℕ} 0 1 = cc in absurd (omega arith)
    go (Values count) a e q = let z : ◌≡◌ {A = ℕ} 0 1 = cc in absurd (omega arith)
    go Closed nothing e q = sym (nothing_printed t)
    go Closed (names _) e q = elim q [ ]
    go Closed (values _ _ _) e q = elim q [ ]

-- what is written is what is to be printed
writes : {m : Memory} {chunk all : List ℕ} {later : List (List ℕ)} → Writes m chunk later all → (a : Awaits) → Stands m a
    → all ≡ to_print a (m.waiting ++ (chunk ++ joined later))
unfolding joined
writes {later = later} (feeds {out = out} {r = r} f w) a q =
    let g = f.fed.goes a q in
    ap (λ (t : List ℕ). take r.used out ++ t) (writes w g.later g.stands) ∙ sym (g.is (joined later))
writes (reads w) a q = writes w a q
writes {m} (ends h) a q = h.is a q ∙ ap (to_print a) (sym (append-nil m.waiting))
writes {m} (closes e) a q = nothing_left m _ a e q

-- a run over a bench's text and any chunks writes what the replay of the text and of the chunks together is
pub replayed : {text : List ℕ} {chunks : List (List ℕ)} {all : List ℕ} → Replays text chunks all → all ≡ replay text (joined chunks)
replayed {text} {chunks} {all} (begins {m = m} s w) =
    writes w (awaited_first (verdict text)) s.stands
    ∙ ap (λ (t : List ℕ). to_print (awaited_first (verdict text)) (t ++ joined chunks)) s.none_waits
    ∙ ap (λ (t : List ℕ). t ++ to_print (awaited_first (verdict text)) (joined chunks)) (sym s.opened)
    ∙ replay_printed text (joined chunks)
replayed {text} {chunks} (refuses {out = out} {used = used} r) =
    sym (append-nil (take used out))
    ∙ ap (λ (t : List ℕ). take used out ++ t) (sym (ap (λ (a : Awaits). to_print a (joined chunks)) r.closes ∙ nothing_printed (joined chunks)))
    ∙ ap (λ (t : List ℕ). t ++ to_print (awaited_first (verdict text)) (joined chunks)) r.opened
    ∙ replay_printed text (joined chunks)

-- one byte more of a bench than is allowed is as good as all of it
pub replayed_cut : (bench : List ℕ) {chunks : List (List ℕ)} {all : List ℕ} → Replays (take (MOST_BYTES + 1) bench) chunks all → all ≡ replay bench (joined chunks)
unfolding replay
replayed_cut bench {chunks} w = replayed w ∙ ap (λ v. replay_by v (lines (joined chunks))) (verdict_cut bench)

-- ---- a run on one bench is a run

on_writes : {m : Memory} {chunk all : List ℕ} {later : List (List ℕ)} → WritesOn m chunk later all → Writes m chunk later all
on_writes (WritesOn.feeds f w) = feeds f.fed (on_writes w)
on_writes (WritesOn.reads w) = reads (on_writes w)
on_writes (WritesOn.ends h) = ends h
on_writes (WritesOn.closes e) = closes e

pub on_replays : {text : List ℕ} {chunks : List (List ℕ)} {all : List ℕ} → ReplaysOn text chunks all → Replays text chunks all
on_replays (ReplaysOn.begins s w) = begins s.started (on_writes w)
on_replays (ReplaysOn.refuses r) = refuses r
