-- Planes: what memory holds of the entities of a bench. For n entities a plane has n flags, and then 12 n cells of 9 bytes each. The two stores are
-- two planes, now and previous; what is kept of a sender's line is a third one (document 02, order 5).
use Rattle.std.specs.Prelude.{ℕ, zero, suc, ◌+◌, ◌*◌, ◌/◌, ◌%◌, List, [], ◌∷◌, ◌++◌, Bool, true, false, ◌&&◌, ◌||◌, cond, ltb, eqb, length, get_or, drop}
use Rattle.std.proofs.Math.Option.{Option, none, some}
use Rattle.values.specs.declared.Value.{Value}
use Rattle.values.specs.declared.Value.TheVariants.{Unset}
use Rattle.values.specs.declared.Kind.{Kind}
use Rattle.values.specs.declared.Kind.TheVariants.{Wholes, Bools, Reals}
use Rattle.values.specs.definitions.Bytes.{word_at, low_first}
use Rattle.values.specs.definitions.Cells.{cell_bytes, cell_at, unpacked, finite_bits}
use Rattle.text.specs.definitions.Syntax.{attribute, event, action, Member, File}
use Rattle.checking.specs.definitions.Scope.{member_of, is_attribute}
use Rattle.checking.specs.definitions.CountFaults.{MOST_MEMBERS, MOST_ENTITIES}
use Rattle.cycles.specs.definitions.Store.{Store, Stores}

-- a cell's bytes: its tag and its payload
abbrev pub CELL_BYTES : ℕ
CELL_BYTES = 9

-- an entity has a cell for each member that it may have
abbrev pub ENTITY_CELLS : ℕ
ENTITY_CELLS = MOST_MEMBERS

abbrev pub ENTITY_CELL_BYTES : ℕ
ENTITY_CELL_BYTES = ENTITY_CELLS * CELL_BYTES

-- those of as many entities as a file may have
abbrev pub MOST_CELL_BYTES : ℕ
MOST_CELL_BYTES = MOST_ENTITIES * ENTITY_CELL_BYTES

-- a number's bytes
abbrev pub NUMBER_BYTES : ℕ
NUMBER_BYTES = 4

-- an entity's bytes in a plane: its flag and its cells
abbrev pub ENTITY_BYTES : ℕ
ENTITY_BYTES = 1 + ENTITY_CELL_BYTES

abbrev pub plane_size : ℕ → ℕ
plane_size n = ENTITY_BYTES * n

abbrev pub stores_size : ℕ → ℕ
stores_size n = 2 * plane_size n

-- the stores of as many entities as a file may have
abbrev pub MOST_STORES_BYTES : ℕ
MOST_STORES_BYTES = stores_size MOST_ENTITIES

abbrev pub entity_count : File → ℕ
entity_count f = length f.entities

-- k pieces of memory, from number i on
unfoldable pub table : (ℕ → List ℕ) → ℕ → ℕ → List ℕ
table piece i zero = []
table piece i (suc k) = piece i ++ table piece (i + 1) k

abbrev pub flag : Bool → List ℕ
flag b = cond b 1 0 ∷ []

-- 0 for no reading, 1 for false, 2 for true
abbrev pub presence_flag : Option Bool → List ℕ
presence_flag none = 0 ∷ []
presence_flag (some b) = cond b 2 1 ∷ []

-- the tag of a cell with no reading
abbrev pub NO_READING : ℕ
NO_READING = 4

-- as a value's cell, or no reading
abbrev pub input_bytes : Option Value → List ℕ
input_bytes none = NO_READING ∷ low_first 8 0
input_bytes (some v) = cell_bytes v

unfoldable pub encode_store : ℕ → Store → List ℕ
unfolding table
encode_store n s =
    table (λ e. flag (s.present e)) 0 n
    ++ table (λ i. cell_bytes (s.cell (i / ENTITY_CELLS) (i % ENTITY_CELLS))) 0 (ENTITY_CELLS * n)

unfoldable pub encode_stores : ℕ → Stores → List ℕ
unfolding encode_store
encode_stores n s = encode_store n s.now ++ encode_store n s.previous

abbrev pub presence_of : ℕ → Option Bool
presence_of b = cond (eqb b 1) (some false) (cond (eqb b 2) (some true) none)

abbrev pub input_of : ℕ → ℕ → Option Value
input_of t w = cond (eqb t NO_READING) none (some (unpacked t w))

abbrev pub input_at : List ℕ → ℕ → Option Value
input_at l i = input_of (get_or l (i * CELL_BYTES) 0) (word_at 8 l (i * CELL_BYTES + 1))

-- a plane begins with its flags; where its cells begin, and where the plane after it does
abbrev pub cells_of : ℕ → List ℕ → List ℕ
cells_of n m = drop n m

abbrev pub next_plane : ℕ → List ℕ → List ℕ
next_plane n m = drop (plane_size n) m

unfoldable pub decode_store : ℕ → List ℕ → Store
unfolding unpacked
decode_store n m = record {
  present = λ e. ltb e n && eqb (get_or m e 0) 1;
  cell = λ e k. cond (ltb e n && ltb k ENTITY_CELLS) (cell_at (cells_of n m) (e * ENTITY_CELLS + k)) Unset;
}

unfoldable pub decode_stores : ℕ → List ℕ → Stores
unfolding decode_store
decode_stores n m = record { now = decode_store n m; previous = decode_store n (next_plane n m) }

-- do all numbers from i on, k of them, pass the test?
unfoldable pub each : (ℕ → Bool) → ℕ → ℕ → Bool
each test i zero = true
each test i (suc k) = test i && each test (i + 1) k

unfoldable pub is_unset_cell : ℕ → ℕ → Bool
is_unset_cell t w = eqb t 0 && eqb w 0

-- a tag and a payload as a set value of the kind has them
unfoldable pub is_set_cell : Kind → ℕ → ℕ → Bool
is_set_cell Wholes t w = eqb t 1 && ltb w 4294967296
is_set_cell Bools t w = eqb t 2 && ltb w 2
is_set_cell Reals t w = eqb t 3 && (ltb w 18446744073709551616 && finite_bits w)

unfoldable pub is_value_cell : Kind → ℕ → ℕ → Bool
unfolding is_unset_cell is_set_cell
is_value_cell k t w = is_unset_cell t w || is_set_cell k t w

-- "a state of it with all attributes set, every value of its cell's kind and every real finite": a store's cell, where an attribute must be
-- set or may be unset
unfoldable pub store_fits : Bool → Option Member → ℕ → ℕ → Bool
unfolding is_unset_cell is_set_cell is_value_cell is_attribute
store_fits must_be_set none t w = is_unset_cell t w
store_fits must_be_set (some m) t w = cond (must_be_set && is_attribute m.sort) (is_set_cell m.kind t w) (is_value_cell m.kind t w)

unfoldable pub is_blank_cell : ℕ → ℕ → Bool
is_blank_cell t w = eqb t NO_READING && eqb w 0

-- of what is kept of a line: readings at events, fired actions at actions
unfoldable pub kept_fits : Option Member → ℕ → ℕ → Bool
unfolding is_blank_cell is_value_cell
kept_fits none t w = is_blank_cell t w
kept_fits (some m) t w = elim m.sort [
  | attribute ↦ is_blank_cell t w
  | event ↦ is_blank_cell t w || is_value_cell m.kind t w
  | action ↦ is_value_cell m.kind t w
]

unfoldable pub flags_below : ℕ → ℕ → List ℕ → Bool
unfolding each
flags_below bound n m = each (λ e. ltb (get_or m e 0) bound) 0 n

-- every cell of a plane fits its member, by whether the plane has its entity present
unfoldable pub cells_fit : (Bool → Option Member → ℕ → ℕ → Bool) → File → List ℕ → List ℕ → Bool
unfolding each member_of
cells_fit fit f fs cs =
    each (λ i. fit (eqb (get_or fs (i / ENTITY_CELLS) 0) 1) (member_of f (i / ENTITY_CELLS) (i % ENTITY_CELLS)) (get_or cs (i * CELL_BYTES) 0)
    (word_at 8 cs (i * CELL_BYTES + 1))) 0 (ENTITY_CELLS * entity_count f)

-- a store's flags say absent or present; those of a line's readings may also say nothing
abbrev pub STORE_FLAGS : ℕ
STORE_FLAGS = 2

abbrev pub KEPT_FLAGS : ℕ
KEPT_FLAGS = 3

-- flags below a bound, and cells that fit
unfoldable pub plane_fits : ℕ → (Bool → Option Member → ℕ → ℕ → Bool) → File → List ℕ → Bool
unfolding flags_below cells_fit
plane_fits bound fit f m = flags_below bound (entity_count f) m && cells_fit fit f m (cells_of (entity_count f) m)

-- 33: "memory is no state of that bench", as far as the stores go. Attributes are set now, and as the rules saw them one cycle before where their
-- entity was present
unfoldable pub are_stores : File → List ℕ → Bool
unfolding plane_fits store_fits
are_stores f m =
    plane_fits STORE_FLAGS (λ present. store_fits true) f m && plane_fits STORE_FLAGS (λ present. store_fits present) f (next_plane (entity_count f) m)

-- memory with the stores written to it
unfoldable pub with_stores : ℕ → Stores → List ℕ → List ℕ
unfolding encode_stores
with_stores n s m = encode_stores n s ++ drop (stores_size n) m
