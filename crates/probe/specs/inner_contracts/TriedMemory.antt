-- What code promises that finds the rules which a line tries, of a bench in columns and two state images.
use Rattle.std.specs.Prelude.{ℕ, ◌≡◌, List}
use Rattle.checking.specs.definitions.Verdict.{accepted_file}
use Rattle.senders.specs.definitions.Fingerprint.{fingerprint}
use Rattle.senders.specs.definitions.StateImage.{decode}
use Rattle.senders.specs.inner_contracts.Advancing.{ResolvedBench}
use Rattle.probe.specs.definitions.Tried.{seen_before, tried_set, AfterTried, tried_on_bench}

-- the set of the rules that are tried, of a bench whose rules' names are resolved
pub record TriedBetween (d scopes before after : List ℕ) (r : ℕ) : Type 0 where
  pub is : (text classes offsets lengths literals refs : List ℕ) (b : ResolvedBench text classes offsets lengths literals d refs scopes)
      → r ≡ tried_set b.checked.bench.file (seen_before (decode b.checked.bench.file after)) (seen_before (decode b.checked.bench.file before))

-- what is answered for a text
abbrev pub tried_in_text : (text before after tried : List ℕ) → AfterTried
tried_in_text text before after tried = tried_on_bench (fingerprint text) (accepted_file text) before after tried
