-- A cycle in the memory of the stores: the store that rules see, their writes, and the next stores.
use Prim.Native.Nat.{ℕ, ◌+◌, ◌*◌, ◌/◌, ◌%◌, ◌≤◌, ◌<◌}
use native.Mathlib.Omega.{arith}
use mathlib.Core.Path.{◌≡◌, refl, sym, ap, ap₂, ◌∙◌, subst}
use mathlib.Core.Bool.{true, false, cond, false≢true}
use mathlib.Core.List.{List, ◌++◌}
use mathlib.Core.Option.{Option, none, some}
use lib.ListN.{length, get_or, take, drop, replicate, length-drop, length-replicate}
use lib.Seq.{drop-drop}
use borrow.Author.Tests.{not-false}
use Rattle.values.specs.declared.Value.{Value}
use Rattle.values.specs.declared.Value.TheVariants.{Unset}
use Rattle.values.specs.declared.Kind.TheVariants.{Wholes}
use Rattle.values.specs.definitions.Cells.{cell_bytes, cell_at}
use Rattle.values.proofs.laws.StorableLaws.{unset_storable}
use Rattle.text.specs.definitions.Syntax.{Member, File}
use Rattle.text.proofs.laws.ListLaws.{All}
use Rattle.checking.specs.definitions.Scope.{member_of, is_action}
use Rattle.checking.specs.inner_contracts.CheckedBench.{CheckedBench}
use Rattle.checking.specs.inner_contracts.Resolution.{References, Scopes}
use Rattle.checking.proofs.laws.VerdictLaws.{accepted_verdict}
use Rattle.checking.proofs.laws.CheckedFile.{accepted_known}
use Rattle.checking.proofs.laws.WithinCounts.{WithinCounts}
use Rattle.writes.specs.definitions.Writes.{Write, standing, written_value}
use Rattle.writes.proofs.laws.StandingLaws.{strongest}
use Rattle.writes.proofs.laws.PendingLaws.{Has}
use Rattle.cycles.specs.definitions.Store.{Store, Inputs, Stores}
use Rattle.cycles.specs.inner_contracts.TotalMachine.{all_writes}
use Rattle.cycles.specs.definitions.Cycle.{is_sort, seen, stored, next_stores}
use Rattle.cycles.specs.inner_contracts.TotalMachine.{cycle}
use Rattle.cycles.specs.definitions.SoundStores.{SoundStore, SoundInputs, SoundStores}
use Rattle.cycles.specs.definitions.Planes.{MOST_STORES_BYTES, table, entity_count, stores_size, decode_stores, are_stores, with_stores}
use Rattle.cycles.specs.inner_contracts.LineReads.{presence_table, input_table}
use Rattle.cycles.specs.inner_contracts.PlaneMemory.{gathered, StoresGathered}
use Rattle.cycles.specs.inner_contracts.Evaluation.{Stored, puts}
use Rattle.cycles.specs.inner_contracts.ReadSets.{ReadsAre}
use Rattle.cycles.specs.inner_contracts.AllRules.{RulesPut}
use Rattle.cycles.specs.inner_contracts.CycleMemory.{
  seen_flag,
  seen_value,
  next_value,
  any_sort,
  no_action,
  OthersStand,
  MembersPut,
  Cycled,
}
use Rattle.cycles.proofs.laws.TableLaws.{table_same}
use Rattle.cycles.proofs.laws.CellTokenLaws.{few_within}
use Rattle.cycles.proofs.laws.PlaneParts.{flag_piece, cell_piece, flag_sized, cell_sized}
use Rattle.cycles.proofs.laws.PlaneLaws.{stores_sound}
use Rattle.cycles.proofs.laws.PlaneTestLaws.{behind, behind_all}
use Rattle.cycles.proofs.laws.GatheredLaws.{AreasOf, gathered_stores, area_taken}
use Rattle.cycles.proofs.laws.StoredLaws.{decoded_stored}
use Rattle.cycles.proofs.laws.SoundEvaluation.{SoundWrite}
use Rattle.cycles.proofs.laws.SoundBindings.{rules_run}
use Rattle.cycles.proofs.laws.SoundStores.{seen_sound, stored_sound}
use Rattle.cycles.proofs.laws.SilenceLaws.{tried_write_all}
use Rattle.cycles.proofs.steps.RulePuts.{tried_put}
use Rattle.cycles.proofs.steps.AreaLaws.{zeros_have, after_puts, none_stands, zeros_cell, Neat, neat_bytes, neat_puts}
use Rattle.cycles.proofs.steps.SeenLaws.{flags_seen, value_is, cells_seen, tables_stored}

-- memory of unset cells
abbrev pub UnsetCells : List ℕ → Type 0
UnsetCells l = (i : ℕ) → i < 384 → take 9 (drop (i * 9) l) ≡ cell_bytes Unset

pub zeros_unset_cells : (n : ℕ) → 3456 ≤ n → UnsetCells (replicate n 0)
zeros_unset_cells n h i l = zeros_cell n i (omega arith)

-- memory that takes writes, with nothing written to it
pub record Blank (area : List ℕ) : Type 0 where
  pub room : 3840 ≤ length area
  pub nothing : (i : ℕ) → i < 384 → Has 3456 area i none
  pub unset : UnsetCells area

pub zeros_blank : (n : ℕ) → 3840 ≤ n → Blank (replicate n 0)
zeros_blank n h = record {
  room = rw (length-replicate {A = ℕ} n 0) h;
  nothing = λ i l. zeros_have 3456 n i (omega arith) (omega arith);
  unset = zeros_unset_cells n (omega arith);
}

-- what the steps of a cycle of n entities leave in memory: flags and cells that the rules see, the area of writes, the next cells, the stores
pub record StepsDone (f : File) (classes values d refs scopes : List ℕ) (n : ℕ)
    (input_flags input_cells stores blank flags rest_flags no_cells cells area next after : List ℕ) : Type 0 where
  pub flags_put : flags ≡ table (seen_flag stores input_flags) 0 n ++ rest_flags
  pub cells_put : OthersStand f any_sort (seen_value stores flags (behind n stores) input_cells f) (12 * n) no_cells
      → cells ≡ table (λ k. cell_bytes (seen_value stores flags (behind n stores) input_cells f k)) 0 (12 * n) ++ drop (12 * n * 9) no_cells
  pub tried : ℕ
  pub rules_put : RulesPut classes values d refs scopes flags cells (behind (109 * n) stores) (behind (109 * n + n) stores) blank area tried
  pub next_put : OthersStand f no_action (next_value cells area f) (12 * n) area
      → next ≡ table (λ k. cell_bytes (next_value cells area f k)) 0 (12 * n) ++ drop (12 * n * 9) area
  pub stores_put : after ≡ gathered n flags next ++ gathered n flags cells ++ drop (stores_size n) stores

-- ---- the next cells

action_next : (cells area : List ℕ) (f : File) (k : ℕ) {x : Member} → member_of f (k / 12) (k % 12) ≡ some x
    → is_sort no_action (some x) ≡ false → cell_at area k ≡ next_value cells area f k
unfolding next_value is_sort
action_next cells area f k {x} p q = rw (p, not-false (is_action x.sort) q)

module _ (f : File) (h : WithinCounts f) (s : Store) (ws : List Write) (sound : All (SoundWrite f) ws)
    {flags cells area blank : List ℕ} (stand : Stored (entity_count f) flags cells s) (b : Blank blank) (e : area ≡ puts blank ws) where
  written_is : (k : ℕ) → k < 12 * entity_count f → cell_at area k ≡ written_value (standing (k / 12) (k % 12) ws)
  unfolding strongest
  written_is k l =
      let few = h.entities in
      let z : k / 12 * 12 + k % 12 ≡ k = omega arith in
      let m : k % 12 < 12 = omega arith in
      let j : k / 12 < 32 = omega arith in
      let i : k / 12 * 12 + k % 12 < 384 = omega arith in
      ap (λ (x : List ℕ). cell_at x k) e ∙ ap (cell_at (puts blank ws)) (sym z)
      ∙ (after_puts f h (k / 12) (k % 12) j m ws sound blank b.room none (b.nothing (k / 12 * 12 + k % 12) i)).value

  seen_is : (k : ℕ) → k < 12 * entity_count f → cell_at cells k ≡ s.cell (k / 12) (k % 12)
  seen_is k l =
      let z : k / 12 * 12 + k % 12 ≡ k = omega arith in
      let c : k / 12 < entity_count f = omega arith in
      let m : k % 12 < 12 = omega arith in
      sym (stand.cell (k / 12) (k % 12) c m ∙ ap (cell_at cells) z)

  next_is : (k : ℕ) → k < 12 * entity_count f → next_value cells area f k ≡ (stored f s ws).cell (k / 12) (k % 12)
  unfolding next_value stored
  next_is k l = ap₂ (cond (is_sort is_action (member_of f (k / 12) (k % 12)))) (written_is k l) (seen_is k l)

  -- the area has the bytes of actions' cells, and of those of no member
  pub next_others : SoundStore f s → OthersStand f no_action (next_value cells area f) (12 * entity_count f) area
  unfolding written_value
  next_others sees k l q =
      let few = h.entities in
      let i : k < 384 = omega arith in
      let neat : Neat blank k = record { kind = Wholes; value = Unset; can = unset_storable Wholes; bytes = b.unset k i } in
      subst (λ (x : List ℕ). take 9 (drop (k * 9) x) ≡ cell_bytes (cell_at x k)) (sym e)
      (neat_bytes (neat_puts f h k i ws sound blank b.room neat))
      ∙ ap cell_bytes (go (member_of f (k / 12) (k % 12)) refl q)
    where
      go : (o : Option Member) → member_of f (k / 12) (k % 12) ≡ o → is_sort no_action o ≡ false → cell_at area k ≡ next_value cells area f k
      go none p q =
          written_is k l ∙ ap written_value (none_stands f (k / 12) (k % 12) p ws sound)
          ∙ sym (next_is k l ∙ (stored_sound f s ws sees sound).no_cell (k / 12) (k % 12) p)
      go (some x) p q = action_next cells area f k p q

  pub next_cells : table (λ k. cell_bytes (next_value cells area f k)) 0 (12 * entity_count f)
      ≡ table (cell_piece (stored f s ws).cell) 0 (12 * entity_count f)
  next_cells =
      table_same (λ k. cell_bytes (next_value cells area f k)) (cell_piece (stored f s ws).cell) 0 (12 * entity_count f)
      (λ k p q. ap cell_bytes (next_is k (omega arith)))

-- ---- a whole cycle

no_sort : (o : Option Member) → is_sort any_sort o ≡ false → o ≡ none
unfolding is_sort
no_sort none q = refl
no_sort (some x) q = absurd (false≢true (sym q))

module _ {text classes offsets lengths values d refs scopes : List ℕ} (c : CheckedBench text classes offsets lengths values d)
    (references : References text classes offsets lengths d refs) (scopes_are : Scopes text classes offsets lengths d scopes)
    (reads_are : ReadsAre text classes offsets lengths d scopes)
    {input_flags input_cells stores blank flags rest_flags no_cells cells area next after : List ℕ}
    (is : are_stores c.bench.file stores ≡ true) (big : MOST_STORES_BYTES ≤ length stores) (b : Blank blank) (unset : UnsetCells no_cells)
    (i : Inputs) (taken : SoundInputs c.bench.file i)
    (given_flags : take (entity_count c.bench.file) input_flags ≡ presence_table i (entity_count c.bench.file))
    (given_cells : take (108 * entity_count c.bench.file) input_cells ≡ input_table i (entity_count c.bench.file))
    (done : StepsDone c.bench.file classes values d refs scopes (entity_count c.bench.file) input_flags input_cells stores blank flags
    rest_flags no_cells cells area next after) where
  abbrev f : File
  f = c.bench.file

  abbrev n : ℕ
  n = entity_count f

  abbrev was : Stores
  was = decode_stores n stores

  abbrev sees : Store
  sees = seen f was.now i

  abbrev writes : List Write
  writes = all_writes f sees was.previous

  within : WithinCounts f
  within = few_within f c.few

  sound : SoundStores f was
  sound = stores_sound f within stores is

  sees_sound : SoundStore f sees
  sees_sound = seen_sound f was.now i sound.now taken

  writes_sound : All (SoundWrite f) writes
  writes_sound = (rules_run f sees was.previous sees_sound sound.previous (accepted_known f (accepted_verdict text c.accepts))).1

  flags_stand : flags ≡ table (flag_piece sees.present) 0 n ++ rest_flags
  unfolding decode_stores
  flags_stand = done.flags_put ∙ ap (λ (l : List ℕ). l ++ rest_flags) (flags_seen f i stores input_flags input_cells given_flags)

  abbrev rest_cells : List ℕ
  rest_cells = drop (12 * n * 9) no_cells

  -- nothing is seen in a cell of no member
  seen_others : OthersStand f any_sort (seen_value stores flags (behind n stores) input_cells f) (12 * n) no_cells
  unfolding decode_stores
  seen_others k l q =
      let few = within.entities in
      let is_seen : seen_value stores flags (behind n stores) input_cells f k ≡ sees.cell (k / 12) (k % 12) =
      rw (behind_all n stores) (value_is f i stores input_flags input_cells taken given_cells rest_flags flags_stand k l) in
      unset k (omega arith)
      ∙ ap cell_bytes (sym (is_seen ∙ sees_sound.no_cell (k / 12) (k % 12) (no_sort (member_of f (k / 12) (k % 12)) q)))

  cells_stand : cells ≡ table (cell_piece sees.cell) 0 (12 * n) ++ rest_cells
  unfolding decode_stores
  cells_stand =
      done.cells_put seen_others
      ∙ rw (behind_all n stores)
      (ap (λ (l : List ℕ). l ++ rest_cells) (cells_seen f i stores input_flags input_cells taken given_cells rest_flags flags_stand))

  sees_stored : Stored n flags cells sees
  sees_stored = tables_stored f sees sees_sound rest_flags rest_cells flags_stand cells_stand

  previous_stored : Stored n (behind (109 * n) stores) (behind (109 * n + n) stores) was.previous
  unfolding decode_stores
  previous_stored =
      let few = within.entities in
      let k = length-drop (109 * n) stores in
      rw (behind_all (109 * n) stores, behind_all (109 * n + n) stores, ← drop-drop n (109 * n) stores)
      (decoded_stored n (drop (109 * n) stores) (omega arith))

  area_is : area ≡ puts blank writes
  area_is =
      tried_put done.rules_put text offsets lengths (record {
        checked = c;
        references = references;
        scopes_are = scopes_are;
        reads_are = reads_are;
        now = sees;
        previous = was.previous;
        now_stored = sees_stored;
        previous_stored = previous_stored;
      })
      ∙ ap (puts blank) (tried_write_all f sees was.previous sees_sound sound.previous)

  -- the first cells of an area that begins with so many
  first_cells : (value : ℕ → ℕ → Value) {l : List ℕ} (rest : List ℕ) → l ≡ table (cell_piece value) 0 (12 * n) ++ rest
      → take (108 * n) l ≡ table (cell_piece value) 0 (12 * n)
  first_cells value rest e = area_taken (cell_piece value) 9 (cell_sized value) (12 * n) (108 * n) (omega arith) rest e

  areas : AreasOf n (cycle f was i) flags next cells
  unfolding cycle next_stores stored
  areas =
      let present = area_taken (flag_piece sees.present) 1 (flag_sized sees.present) n n (omega arith) rest_flags flags_stand in
      record {
        present = present;
        now = first_cells (stored f sees writes).cell (drop (12 * n * 9) area)
            (done.next_put (next_others f within sees writes writes_sound sees_stored b area_is sees_sound)
            ∙ ap (λ (l : List ℕ). l ++ drop (12 * n * 9) area) (next_cells f within sees writes writes_sound sees_stored b area_is));
        previous_present = present;
        previous = first_cells sees.cell rest_cells cells_stand;
      }

  pub cycle_put : after ≡ with_stores n (cycle f was i) stores
  cycle_put = done.stores_put ∙ gathered_stores n (cycle f was i) areas stores

-- ---- as code does it

module _ {classes values d refs scopes : List ℕ} {n : ℕ} {input_flags input_cells stores : List ℕ} (e : n ≡ get_or d 1 0) where
  pub cycle_impossible : 32 < n → {after : List ℕ} → Cycled classes values d refs scopes input_flags input_cells stores after
  cycle_impossible h = record {
    is = λ text offsets lengths c r s x m i t g k. let q = c.bench.directory.entities in absurd (omega (arith, c.few.entities));
  }

  pub cycled : n ≤ 32 → MOST_STORES_BYTES ≤ length stores → (no_flags : List ℕ) {blank no_cells flags cells area next after : List ℕ} → Blank blank
      → UnsetCells no_cells
      → flags ≡ table (seen_flag stores input_flags) 0 n ++ drop n no_flags
      → MembersPut classes d any_sort (seen_value stores flags (behind n stores) input_cells) (12 * n) no_cells cells
      → {tried : ℕ} → RulesPut classes values d refs scopes flags cells (behind (109 * n) stores) (behind (109 * n + n) stores) blank area tried
      → MembersPut classes d no_action (next_value cells area) (12 * n) area next
      → StoresGathered (get_or d 1 0) flags next cells stores after
      → Cycled classes values d refs scopes input_flags input_cells stores after
  cycled few big no_flags {blank} {no_cells} {flags} {cells} {area} {next} {after} b unset a v {tried} w u p = record {
    is = λ text offsets lengths c r s x m i t g k.
        let f = c.bench.file in
        let z : n ≡ entity_count f = e ∙ c.bench.directory.entities in
        let done : StepsDone f classes values d refs scopes n input_flags input_cells stores blank flags (drop n no_flags) no_cells
        cells area next after = record {
          flags_put = a;
          cells_put = v.is text offsets lengths c.bench c.few;
          tried = tried;
          rules_put = w;
          next_put = u.is text offsets lengths c.bench c.few;
          stores_put = subst (λ (j : ℕ). after ≡ gathered j flags next ++ gathered j flags cells ++ drop (stores_size j) stores) (sym e) (p.is (omega arith));
        } in
        cycle_put c r s x m big b unset i t g k
        (subst (λ (j : ℕ). StepsDone f classes values d refs scopes j input_flags input_cells stores blank flags (drop n no_flags) no_cells
        cells area next after) z done);
  }
