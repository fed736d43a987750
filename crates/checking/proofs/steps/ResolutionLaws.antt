-- 8 bits hold every reference of a rule within the counts, so the column of references says all.
use Prim.Native.Nat.{ℕ, ◌≤◌, ◌<◌}
use native.Mathlib.Omega.{arith}
use mathlib.Core.Path.{◌≡◌, refl}
use mathlib.Core.List.{List}
use mathlib.Core.Option.{Option, none, some}
use lib.ListN.{length}
use Rattle.text.specs.definitions.Syntax.{Entity}
use Rattle.checking.specs.definitions.Scope.{Indexed, entity_named, Variable, variables, variable_named, scope_of}
use Rattle.checking.specs.inner_contracts.Directory.{name_in}
use Rattle.checking.specs.inner_contracts.RuleParts.{RuleWorld, world_scope}
use Rattle.checking.specs.inner_contracts.Resolution.{reference_by, reference, Resolves}
use Rattle.checking.specs.inner_contracts.Resolving.{NamesResolved, ScopesResolved}
use Rattle.checking.proofs.laws.LookUpLaws.{found_at, entity_found}
use Rattle.checking.proofs.laws.DirectoryLaws.{number_below}

module _ {text classes offsets lengths d : List ℕ} {start : ℕ} (c : RuleWorld text classes offsets lengths d start) where
  pub reference_fits : length (variables c.rule) ≤ 3 → (n : List ℕ) → reference (world_scope c) n < 256
  unfolding reference reference_by scope_of variable_named
  reference_fits few n = go (entity_named c.bench.file n) refl (variable_named (variables c.rule) n) refl
    where
      go : (o : Option (Indexed Entity)) → entity_named c.bench.file n ≡ o → (v : Option (Indexed Variable)) → variable_named (variables c.rule) n ≡ v
          → reference_by (entity_named c.bench.file n) (variable_named (variables c.rule) n) < 256
      go (some e) p v q =
          let b = number_below c.bench.file.entities e.number (entity_found c.bench.file n p) in
          rw p (omega (arith, b, c.few.entities))
      go none p (some x) q =
          let b = number_below (variables c.rule) x.number (found_at (λ (y : Variable). y.name) n (variables c.rule) q) in
          rw (p, q) (omega arith)
      go none p none q = rw (p, q) (omega arith)

-- both columns
pub resolves : {text classes offsets lengths d refs scopes new_refs new_scopes : List ℕ} → NamesResolved text classes offsets lengths d refs new_refs
    → ScopesResolved text classes offsets lengths d scopes new_scopes → Resolves text classes offsets lengths d refs scopes new_refs new_scopes
resolves {text} {offsets = offsets} {lengths = lengths} h g = record {
  references = record {
    owner = λ start c few i w. h.owner start c i w (reference_fits c few (name_in text offsets lengths i));
    member = h.member;
  };
  scopes_are = g.scopes_are;
  refs_kept = h.kept;
  scopes_kept = g.kept;
}
