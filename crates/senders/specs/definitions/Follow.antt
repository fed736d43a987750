-- The state after an accepted line, and the fresh state (document 01, "The bare machine"; document 02, order 5).
use Rattle.std.specs.Prelude.{ℕ, [], cond}
use Rattle.values.specs.declared.Value.{Value}
use Rattle.values.specs.declared.Value.TheVariants.{Unset}
use Rattle.text.specs.definitions.Syntax.{File}
use Rattle.checking.specs.definitions.Scope.{member_of, is_action}
use Rattle.cycles.specs.definitions.Outcome.{Outcome, running, proceed}
use Rattle.cycles.specs.definitions.Store.{Store, Stores}
use Rattle.cycles.specs.definitions.Cycle.{is_sort, ref_cycle, fresh_stores, ref_fresh_stores}
use Rattle.senders.specs.definitions.Sender.{Sender, State, Line, with_sender}
use Rattle.senders.specs.definitions.Line.{Accepted, new, resent}

-- "the actions then fired": the action cells of the store after the line
unfoldable pub fired_in : File → Store → ℕ → ℕ → Value
unfolding is_sort is_action member_of
fired_in f s e m = cond (is_sort is_action (member_of f e m)) (s.cell e m) Unset

-- "its last number, last readings and the actions then fired"
unfoldable pub entry : File → Line → Store → Sender
unfolding fired_in
entry f l s = record { name = l.sender; last = l.number; inputs = l.inputs; fired = fired_in f s }

-- the machine's new stores, and the entry of the line's sender
unfoldable pub next_state : File → State → Line → Stores → State
unfolding with_sender entry
next_state f s l t = record { stores = t; senders = with_sender (entry f l t.now) s.senders }

-- an accepted line: "a resent one starts no cycle", and "the state stays"
unfoldable pub ref_follow : File → State → Accepted → Outcome State
unfolding ref_cycle proceed next_state
ref_follow f s (resent l) = running s
ref_follow f s (new l) = proceed (ref_cycle f s.stores l.inputs) λ t. running (next_state f s l t)

-- a fresh state knows no sender
unfoldable pub fresh : File → State
unfolding fresh_stores
fresh f = record { stores = fresh_stores f; senders = [] }

unfoldable pub ref_fresh : File → Outcome State
unfolding ref_fresh_stores proceed
ref_fresh f = proceed (ref_fresh_stores f) λ t. running (record { stores = t; senders = [] })
