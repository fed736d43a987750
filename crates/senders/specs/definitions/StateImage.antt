-- The state image: a state in memory, for a bench of n entities, of which k senders are known. 4 bytes of the bench text's fingerprint; 1 byte, k; the two
-- stores, a plane each; then for each sender 1 byte of its name's length, 24 of the name with zeros after it, 4 of its last number, and a plane: flags of
-- the presence it read, readings at events and fired actions at actions. What lies after that is not the image's.
use Rattle.std.specs.Prelude.{ℕ, zero, suc, ◌+◌, ◌-◌, ◌*◌, ◌/◌, ◌%◌, List, [], ◌∷◌, ◌++◌, Bool, true, false, not, ◌&&◌, cond, ltb, leb, eqb, length, get_or, take, drop, replicate}
use Rattle.std.proofs.Math.Option.{Option, none, some}
use Rattle.values.specs.declared.Value.{Value}
use Rattle.values.specs.declared.Value.TheVariants.{Unset}
use Rattle.values.specs.definitions.Bytes.{word_at, low_first}
use Rattle.values.specs.definitions.Cells.{cell_bytes, cell_at, unpacked}
use Rattle.text.specs.definitions.Syntax.{Sort, attribute, event, action, File}
use Rattle.checking.specs.definitions.Scope.{member_of, is_action}
use Rattle.checking.specs.definitions.CountFaults.{MOST_ENTITIES}
use Rattle.cycles.specs.definitions.Store.{Inputs}
use Rattle.cycles.specs.definitions.Cycle.{is_sort}
use Rattle.cycles.specs.definitions.Planes.{
  ENTITY_CELLS,
  NUMBER_BYTES,
  KEPT_FLAGS,
  plane_size,
  stores_size,
  entity_count,
  table,
  presence_flag,
  input_bytes,
  encode_stores,
  presence_of,
  input_at,
  cells_of,
  decode_stores,
  each,
  kept_fits,
  plane_fits,
  are_stores,
}
use Rattle.senders.specs.definitions.Sender.{Sender, State, MOST_NAME_BYTES, is_sender, is_known_sender, MOST_SENDERS}

-- ---- sizes

-- the fingerprint, and how many senders are known
abbrev pub HEAD_BYTES : ℕ
HEAD_BYTES = NUMBER_BYTES + 1

-- a name's length, its bytes, and the sender's last number
abbrev pub NAME_PLACE : ℕ
NAME_PLACE = 1 + MOST_NAME_BYTES

abbrev pub SENDER_HEAD_BYTES : ℕ
SENDER_HEAD_BYTES = NAME_PLACE + NUMBER_BYTES

abbrev pub sender_size : ℕ → ℕ
sender_size n = SENDER_HEAD_BYTES + plane_size n

abbrev pub image_size : ℕ → ℕ → ℕ
image_size n k = HEAD_BYTES + stores_size n + k * sender_size n

-- the stated size: for as many entities as a file may have, and as many senders as may be known
abbrev pub STATE : ℕ
STATE = image_size MOST_ENTITIES MOST_SENDERS

-- ---- writing

unfoldable pub name_bytes : List ℕ → List ℕ
name_bytes x = length x ∷ x ++ replicate (MOST_NAME_BYTES - length x) 0

-- one cell of a sender's plane: at an action the value fired, anywhere else the reading
unfoldable pub kept_piece : File → Sender → ℕ → List ℕ
unfolding is_sort is_action member_of
kept_piece f x i =
    cond (is_sort is_action (member_of f (i / ENTITY_CELLS) (i % ENTITY_CELLS))) (cell_bytes (x.fired (i / ENTITY_CELLS) (i % ENTITY_CELLS)))
    (input_bytes (x.inputs.given (i / ENTITY_CELLS) (i % ENTITY_CELLS)))

unfoldable pub encode_sender : File → Sender → List ℕ
unfolding name_bytes table kept_piece
encode_sender f x =
    name_bytes x.name
    ++ low_first NUMBER_BYTES x.last
    ++ table (λ e. presence_flag (x.inputs.presence e)) 0 (entity_count f)
    ++ table (kept_piece f x) 0 (ENTITY_CELLS * entity_count f)

unfoldable pub encode_senders : File → List Sender → List ℕ
unfolding encode_sender
encode_senders f [] = []
encode_senders f (x ∷ xs) = encode_sender f x ++ encode_senders f xs

unfoldable pub encode : ℕ → File → State → List ℕ
unfolding encode_stores encode_senders
encode print f s =
    low_first NUMBER_BYTES print ++ length s.senders ∷ encode_stores (entity_count f) s.stores ++ encode_senders f s.senders

-- ---- reading: total, and the state of every image that passes the tests below

abbrev pub stores_part : List ℕ → List ℕ
stores_part m = drop HEAD_BYTES m

abbrev pub senders_part : ℕ → List ℕ → List ℕ
senders_part n m = drop (HEAD_BYTES + stores_size n) m

abbrev pub known_count : List ℕ → ℕ
known_count m = get_or m NUMBER_BYTES 0

-- of a sender's part: its name, its number, its plane, and the part after it
abbrev pub part_name : List ℕ → List ℕ
part_name m = take (get_or m 0 0) (drop 1 m)

abbrev pub part_number : List ℕ → ℕ
part_number m = word_at NUMBER_BYTES m NAME_PLACE

abbrev pub kept_plane : List ℕ → List ℕ
kept_plane m = drop SENDER_HEAD_BYTES m

abbrev pub next_sender : ℕ → List ℕ → List ℕ
next_sender n m = drop (sender_size n) m

-- a line reads events alone, though an action too is readable as an event of the cycle before
abbrev pub takes_readings : Sort → Bool
takes_readings attribute = false
takes_readings event = true
takes_readings action = false

unfoldable pub decode_inputs : File → List ℕ → Inputs
unfolding is_sort member_of unpacked
decode_inputs f m = record {
  presence = λ e. cond (ltb e (entity_count f)) (presence_of (get_or m e 0)) none;
  given = λ e k. cond (is_sort takes_readings (member_of f e k)) (input_at (cells_of (entity_count f) m) (e * ENTITY_CELLS + k)) none;
}

unfoldable pub decode_fired : File → List ℕ → ℕ → ℕ → Value
unfolding is_sort is_action member_of unpacked
decode_fired f m e k = cond (is_sort is_action (member_of f e k)) (cell_at (cells_of (entity_count f) m) (e * ENTITY_CELLS + k)) Unset

unfoldable pub decode_sender : File → List ℕ → Sender
unfolding decode_inputs decode_fired
decode_sender f m = record { name = part_name m; last = part_number m; inputs = decode_inputs f (kept_plane m); fired = decode_fired f (kept_plane m) }

unfoldable pub decode_senders : File → ℕ → List ℕ → List Sender
unfolding decode_sender
decode_senders f zero m = []
decode_senders f (suc k) m = decode_sender f m ∷ decode_senders f k (next_sender (entity_count f) m)

unfoldable pub decode : File → List ℕ → State
unfolding decode_stores decode_senders
decode f m = record {
  stores = decode_stores (entity_count f) (stores_part m);
  senders = decode_senders f (known_count m) (senders_part (entity_count f) m);
}

-- ---- 33: "memory is no state of that bench", of memory of the stated size at least

-- zeros after the name, as far as its place goes
unfoldable pub is_padded : List ℕ → Bool
unfolding each
is_padded m = each (λ i. eqb (get_or m (i + 1) 0) 0) (get_or m 0 0) (MOST_NAME_BYTES - get_or m 0 0)

-- what 4 bytes say is below it
abbrev pub NUMBERS_BELOW : ℕ
NUMBERS_BELOW = 4294967296

-- a name and a number of at least 1 (the test that it is below is for lists of other numbers than bytes)
unfoldable pub is_sender_head : List ℕ → Bool
unfolding is_sender is_padded
is_sender_head m =
    leb (get_or m 0 0) MOST_NAME_BYTES
    && (is_sender (part_name m) && (is_padded m && (not (eqb (part_number m) 0) && ltb (part_number m) NUMBERS_BELOW)))

unfoldable pub is_sender_part : File → List ℕ → Bool
unfolding is_sender_head plane_fits kept_fits
is_sender_part f m = is_sender_head m && plane_fits KEPT_FLAGS (λ present. kept_fits) f (kept_plane m)

-- k senders, no two of one name
unfoldable pub are_senders : File → ℕ → List ℕ → Bool
unfolding is_sender_part is_known_sender decode_senders
are_senders f zero m = true
are_senders f (suc k) m =
    is_sender_part f m
    && (not (is_known_sender (part_name m) (decode_senders f k (next_sender (entity_count f) m))) && are_senders f k (next_sender (entity_count f) m))

-- `print` is the fingerprint of the bench text: another text's state is none of this bench
unfoldable pub is_state : ℕ → File → List ℕ → Bool
unfolding are_stores are_senders
is_state print f m =
    eqb (word_at NUMBER_BYTES m 0) print
    && (leb (known_count m) MOST_SENDERS
    && (are_stores f (stores_part m)
    && are_senders f (known_count m) (senders_part (entity_count f) m)))

-- the state that memory stands for, or none
unfoldable pub state_of : ℕ → File → List ℕ → Option State
unfolding is_state decode
state_of print f m = elim (is_state print f m) [ true ↦ some (decode f m) | false ↦ none ]

-- memory with a state's image written to it
unfoldable pub with_state : ℕ → File → State → List ℕ → List ℕ
unfolding encode
with_state print f s m = encode print f s ++ drop (image_size (entity_count f) (length s.senders)) m
