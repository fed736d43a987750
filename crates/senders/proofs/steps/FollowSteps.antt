-- A new line in the memory of a state: the cycle in the stores, and the entry of its sender.
use Prim.Native.Nat.{ℕ, ◌+◌, ◌-◌, ◌*◌, ◌/◌, ◌%◌, ◌≤◌, ◌<◌}
use native.Mathlib.Omega.{arith}
use mathlib.Core.Path.{◌≡◌, refl, sym, ap, ap₂, ◌∙◌, subst}
use mathlib.Core.Bool.{Bool, true, false, cond}
use mathlib.Core.List.{List, ◌++◌}
use mathlib.Core.Option.{some}
use lib.ListN.{length, get_or, set, take, drop}
use lib.Seq.{take_at, drop_at, drop-drop, length-take-le}
use Rattle.values.specs.declared.Value.TheVariants.{Unset}
use Rattle.values.specs.definitions.Cells.{cell_bytes, cell_at}
use Rattle.text.specs.definitions.Syntax.{File}
use Rattle.checking.specs.definitions.Scope.{member_of, is_action}
use Rattle.checking.proofs.laws.VerdictLaws.{accepted_verdict}
use Rattle.cycles.specs.definitions.Store.{Stores}
use Rattle.cycles.specs.definitions.Cycle.{is_sort}
use Rattle.cycles.specs.definitions.SoundStores.{SoundStores}
use Rattle.cycles.specs.definitions.Planes.{
  entity_count,
  table,
  input_bytes,
  cells_of,
  encode_store,
  encode_stores,
  decode_stores,
  are_stores,
  with_stores,
  stores_size,
}
use Rattle.cycles.specs.inner_contracts.TotalMachine.{cycle}
use Rattle.cycles.specs.inner_contracts.LineReads.{input_table}
use Rattle.cycles.specs.inner_contracts.CycleMemory.{Cycled}
use Rattle.cycles.specs.inner_contracts.PlaneMemory.{gathered}
use Rattle.cycles.proofs.laws.TableLaws.{begins_with, table_same, table_from}
use Rattle.cycles.proofs.laws.CellTokenLaws.{few_within}
use Rattle.cycles.proofs.laws.PlaneParts.{
  flag_piece,
  cell_piece,
  input_piece,
  flag_sized,
  cell_sized,
  input_sized,
  plane_cells,
  store_encoded,
  stores_begin,
  cell_back,
}
use Rattle.cycles.proofs.laws.PlaneTestLaws.{behind, behind_all}
use Rattle.cycles.proofs.laws.GatheredLaws.{area_taken}
use Rattle.cycles.proofs.laws.SoundCycle.{cycle_sound}
use Rattle.senders.specs.definitions.Sender.{Sender, State, Line}
use Rattle.senders.specs.definitions.Line.{new}
use Rattle.senders.specs.definitions.Follow.{fired_in, entry, next_state}
use Rattle.senders.specs.definitions.StateImage.{STATE, image_size, sender_size, next_sender, kept_piece, encode_sender, state_of, with_state}
use Rattle.senders.specs.inner_contracts.TotalFollow.{follow}
use Rattle.senders.specs.inner_contracts.SenderMemory.{place, kept_at, KeptPut, part_of}
use Rattle.senders.specs.inner_contracts.Judging.{InputsStand}
use Rattle.senders.specs.inner_contracts.Advancing.{ResolvedBench, Followed}
use Rattle.senders.proofs.laws.SenderImage.{kept_sized, sender_encoded}
use Rattle.senders.proofs.laws.LentLaws.{with_behind, given_back}
use Rattle.senders.proofs.laws.SenderLaws.{place_within}
use Rattle.senders.proofs.laws.StateLaws.{state_decoded_sound}
use Rattle.senders.proofs.laws.StateCanonical.{stores_there, stores_tested, known_is}
use Rattle.senders.proofs.laws.FollowMemory.{put_sender, known_followed, new_followed}

-- ---- what is kept of the line

table_piece : (piece : ℕ → List ℕ) (size : ℕ) (sized : (i : ℕ) → length (piece i) ≡ size) (k i : ℕ) (rest : List ℕ) → i < k
    → take size (drop (i * size) (table piece 0 k ++ rest)) ≡ piece i
table_piece piece size sized k i rest h =
    ap (take size) (table_from piece size sized k i rest h) ∙ take_at (piece i) (table piece (i + 1) (k - i - 1) ++ rest) size (sized i)

-- the cells of the store now, in memory that begins with the stores
now_cells : (f : File) (t : Stores) → SoundStores f t → (rest : List ℕ) (i : ℕ) → i < 12 * entity_count f
    → cell_at (cells_of (entity_count f) (encode_stores (entity_count f) t ++ rest)) i ≡ t.now.cell (i / 12) (i % 12)
now_cells f t sound rest i l =
    let n = entity_count f in
    let more = encode_store n t.previous ++ rest in
    let e : i / 12 < n = omega arith in
    let k : i % 12 < 12 = omega arith in
    let z : i / 12 * 12 + i % 12 ≡ i = omega arith in
    ap (λ (m : List ℕ). cell_at (cells_of n m) i) (stores_begin n t rest ∙ ap (λ (m : List ℕ). m ++ more) (store_encoded n t.now))
    ∙ ap (λ (m : List ℕ). cell_at m i)
    (plane_cells (flag_piece t.now.present) (cell_piece t.now.cell) (flag_sized t.now.present) (cell_sized t.now.cell) n more)
    ∙ ap (cell_at (table (cell_piece t.now.cell) 0 (12 * n) ++ more)) (sym z)
    ∙ cell_back f t.now sound.now (i / 12) e more (i % 12) k

module _ (f : File) (t : Stores) (sound : SoundStores f t) (l : Line) {flags cells fired : List ℕ} (stand : InputsStand f flags cells l.inputs)
    (rest : List ℕ) (there : fired ≡ cells_of (entity_count f) (encode_stores (entity_count f) t ++ rest)) where
  abbrev n : ℕ
  n = entity_count f

  piece_kept : (i : ℕ) → i < 12 * n → kept_at cells fired f i ≡ kept_piece f (entry f l t.now) i
  unfolding kept_at kept_piece entry fired_in
  piece_kept i h = go (is_sort is_action (member_of f (i / 12) (i % 12))) refl
    where
      given : take 9 (drop (i * 9) cells) ≡ input_bytes (l.inputs.given (i / 12) (i % 12))
      given =
          ap (λ (m : List ℕ). take 9 (drop (i * 9) m)) (begins_with cells (input_table l.inputs n) (108 * n) stand.given)
          ∙ table_piece (input_piece l.inputs.given) 9 (input_sized l.inputs.given) (12 * n) i (drop (108 * n) cells) h

      go : (b : Bool) → is_sort is_action (member_of f (i / 12) (i % 12)) ≡ b
          → cond b (cell_bytes (cell_at fired i)) (take 9 (drop (i * 9) cells))
          ≡ cond b (cell_bytes (cond b (t.now.cell (i / 12) (i % 12)) Unset)) (input_bytes (l.inputs.given (i / 12) (i % 12)))
      go true e = ap cell_bytes (ap (λ (m : List ℕ). cell_at m i) there ∙ now_cells f t sound rest i h)
      go false e = given

  pub part_kept : {kept : List ℕ} (none : List ℕ) → kept ≡ table (kept_at cells fired f) 0 (12 * n) ++ drop (12 * n * 9) none
      → part_of n l.sender l.number flags kept ≡ encode_sender f (entry f l t.now)
  unfolding part_of gathered entry
  part_kept {kept} none e =
      let x = entry f l t.now in
      let same = table_same (kept_at cells fired f) (kept_piece f x) 0 (12 * n) (λ i p q. piece_kept i (omega arith)) in
      let taken = area_taken (kept_piece f x) 9 (kept_sized f x) (12 * n) (108 * n) (omega arith) (drop (12 * n * 9) none)
      (e ∙ ap (λ (m : List ℕ). m ++ drop (12 * n * 9) none) same) in
      rw (stand.presence, taken) (sym (sender_encoded f x))

-- ---- the memory

module _ {text classes offsets lengths literals d refs scopes : List ℕ} (b : ResolvedBench text classes offsets lengths literals d refs scopes)
    (print : ℕ) (m : List ℕ) {s : State} (h : state_of print b.checked.bench.file m ≡ some s) (big : STATE ≤ length m)
    (low : (i : ℕ) → get_or m i 0 < 256) (l : Line) {flags cells : List ℕ} (stand : InputsStand b.checked.bench.file flags cells l.inputs) where
  abbrev f : File
  f = b.checked.bench.file

  abbrev next : Stores
  next = cycle f s.stores l.inputs

  abbrev x : Sender
  x = entry f l next.now

  next_sound : SoundStores f next
  next_sound =
      (cycle_sound f (accepted_verdict text b.checked.accepts) s.stores (state_decoded_sound f (few_within f b.checked.few) print m s h).stores
      l.inputs stand.sound).1

  pub cycle_left : {u : List ℕ} → Cycled classes literals d refs scopes flags cells (behind 5 m) u → u ≡ with_stores (entity_count f) next (drop 5 m)
  cycle_left cycles =
      let tested : are_stores f (behind 5 m) ≡ true = ap (are_stores f) (behind_all 5 m) ∙ stores_tested print f m h in
      cycles.is text offsets lengths b.checked b.references b.scopes_are b.reads_are tested l.inputs stand.sound stand.presence stand.given
      ∙ ap₂ (λ (t : Stores) (k : List ℕ). with_stores (entity_count f) (cycle f t l.inputs) k)
      (ap (decode_stores (entity_count f)) (behind_all 5 m) ∙ stores_there print f m h) (behind_all 5 m)

  -- after the cycle, the part of the sender at a place is put
  module _ {m₁ : List ℕ} (cycled : m₁ ≡ take 5 m ++ with_stores (entity_count f) next (drop 5 m))
      {part at : ℕ} (begins : part ≡ image_size (entity_count f) at) (at_is : at ≡ place l.sender s.senders)
      (kept : List ℕ) {v : List ℕ} (put : part_of (entity_count f) l.sender l.number flags kept ≡ encode_sender f x)
      (written : v ≡ part_of (entity_count f) l.sender l.number flags kept ++ drop (sender_size (entity_count f)) (behind part m₁)) where
    sender_left : take part m₁ ++ v ≡ put_sender f (place l.sender s.senders) x (take 5 m ++ with_stores (entity_count f) next (drop 5 m))
    sender_left =
        let a : part ≡ image_size (entity_count f) (place l.sender s.senders) = begins ∙ ap (image_size (entity_count f)) at_is in
        ap (λ (k : List ℕ). take part m₁ ++ k)
        (written ∙ ap₂ (λ (p k : List ℕ). p ++ drop (sender_size (entity_count f)) k) put (behind_all part m₁))
        ∙ ap₂ (λ (k : ℕ) (q : List ℕ). take k q ++ (encode_sender f x ++ next_sender (entity_count f) (drop k q))) a cycled

    pub known_left : at < get_or m 4 0 → take part m₁ ++ v ≡ with_state print f (follow f s (new l)) m
    unfolding follow next_state
    known_left q =
        sender_left ∙ known_followed print f m h b.checked.few.entities big low next x (subst (λ (k : ℕ). k < get_or m 4 0) at_is q)

    pub new_left : get_or m 4 0 ≤ at → set (take part m₁ ++ v) 4 (at + 1) ≡ with_state print f (follow f s (new l)) m
    unfolding follow next_state
    new_left q =
        ap₂ (λ (k : List ℕ) (i : ℕ). set k 4 (i + 1)) sender_left at_is
        ∙ new_followed print f m h b.checked.few.entities big low next x (subst (λ (k : ℕ). get_or m 4 0 ≤ k) at_is q)

-- ---- as code does it

module _ (classes literals d refs scopes name : List ℕ) (at last : ℕ) (flags cells m : List ℕ) {n : ℕ} (e : n ≡ get_or d 1 0)
    (big : STATE ≤ length m) (low : (i : ℕ) → get_or m i 0 < 256) {u : List ℕ} (cycles : Cycled classes literals d refs scopes flags cells (behind 5 m) u)
    (none : List ℕ) {kept : List ℕ} (keeps : KeptPut classes d cells (behind (5 + n) (with_behind 5 m u)) (12 * n) none kept)
    {part : ℕ} (begins : part ≡ image_size n at) {v : List ℕ}
    (written : v ≡ part_of n name last flags kept ++ drop (sender_size n) (behind part (with_behind 5 m u))) where
  abbrev m₁ : List ℕ
  m₁ = with_behind 5 m u

  -- what holds of every line that code may have had
  record Left {text offsets lengths : List ℕ} (b : ResolvedBench text classes offsets lengths literals d refs scopes) (print : ℕ) (s : State) (l : Line) : Type 0 where
    pub known : at < get_or m 4 0 → take part m₁ ++ v ≡ with_state print b.checked.bench.file (follow b.checked.bench.file s (new l)) m
    pub first : get_or m 4 0 ≤ at → set (take part m₁ ++ v) 4 (at + 1) ≡ with_state print b.checked.bench.file (follow b.checked.bench.file s (new l)) m

  left : {text offsets lengths : List ℕ} (b : ResolvedBench text classes offsets lengths literals d refs scopes) (print : ℕ) (s : State)
      → (h : state_of print b.checked.bench.file m ≡ some s) → (l : Line) → l.sender ≡ name → l.number ≡ last → at ≡ place name s.senders
      → InputsStand b.checked.bench.file flags cells l.inputs → Left b print s l
  unfolding with_stores
  left {text} {offsets} {lengths} b print s h l name_is last_is at_is stand =
      let f = b.checked.bench.file in
      let k = entity_count f in
      let z : n ≡ k = e ∙ b.checked.bench.directory.entities in
      let t = cycle f s.stores l.inputs in
      let cycled : m₁ ≡ take 5 m ++ with_stores k t (drop 5 m) =
      given_back 5 m u ∙ ap (λ (i : List ℕ). take 5 m ++ i) (cycle_left b print m h big low l stand cycles) in
      let rest = drop (stores_size k) (drop 5 m) in
      let behind_five : drop 5 m₁ ≡ encode_stores k t ++ rest =
      ap (drop 5) cycled ∙ drop_at (take 5 m) (with_stores k t (drop 5 m)) 5 (length-take-le 5 m (omega arith)) in
      let there : behind (5 + n) m₁ ≡ cells_of k (encode_stores k t ++ rest) =
      behind_all (5 + n) m₁ ∙ sym (drop-drop n 5 m₁) ∙ ap₂ (λ (i : ℕ) (j : List ℕ). drop i j) z behind_five in
      let filled = subst (λ (i : ℕ). kept ≡ table (kept_at cells (behind (5 + n) m₁) f) 0 (12 * i) ++ drop (12 * i * 9) none) z
      (keeps.is text offsets lengths b.checked.bench b.checked.few) in
      let put = part_kept f t (next_sound b print m h big low l stand) l stand rest there none filled in
      let part_is : v ≡ part_of k l.sender l.number flags kept ++ drop (sender_size k) (behind part m₁) = rw (← z, name_is, last_is) written in
      let from : part ≡ image_size k at = begins ∙ ap (λ (i : ℕ). image_size i at) z in
      let place_is : at ≡ place l.sender s.senders = at_is ∙ ap (λ (i : List ℕ). place i s.senders) (sym name_is) in
      record {
        known = known_left b print m h big low l stand cycled from place_is kept put part_is;
        first = new_left b print m h big low l stand cycled from place_is kept put part_is;
      }

  -- the place is that of a sender, or one after the last
  at_most : {text offsets lengths : List ℕ} (b : ResolvedBench text classes offsets lengths literals d refs scopes) (print : ℕ) (s : State)
      → state_of print b.checked.bench.file m ≡ some s → at ≡ place name s.senders → at ≤ get_or m 4 0
  at_most b print s h at_is =
      let k = known_is print b.checked.bench.file m h in
      let w = place_within name s.senders in
      omega arith

  module _ {known : ℕ} (count : known ≡ get_or m 4 0) where
    pub followed_known : (known ≡ at → ⊥) → Followed classes literals d refs scopes name at last flags cells m (with_behind part m₁ v)
    followed_known other = record {
      is = λ text offsets lengths b print s h l name_is last_is at_is stand.
          let k = at_most b print s h at_is in
          given_back part m₁ v ∙ (left b print s h l name_is last_is at_is stand).known (omega arith);
    }

    pub followed_new : known ≡ at → Followed classes literals d refs scopes name at last flags cells m (set (with_behind part m₁ v) 4 (at + 1))
    followed_new same = record {
      is = λ text offsets lengths b print s h l name_is last_is at_is stand.
          ap (λ (i : List ℕ). set i 4 (at + 1)) (given_back part m₁ v) ∙ (left b print s h l name_is last_is at_is stand).first (omega arith);
    }
