-- A row split into its fields: the sender, the number, and the text of each action's fired value, none of which has a space; and how they read back.
use Prim.Native.Nat.{ℕ, zero, suc, ◌+◌, ◌/◌, ◌%◌, ◌≤◌, ◌<◌}
use native.Mathlib.Omega.{arith}
use mathlib.Core.Path.{◌≡◌, refl, sym, ap, ◌∙◌, subst}
use mathlib.Core.Bool.{Bool, true, false, cond, ◌&&◌}
use mathlib.Core.List.{List, [], ◌∷◌, ◌++◌, map, flat_map, append_assoc, append-nil, Memᴰ}
use mathlib.Core.Option.{some}
use lib.Dec.{T, ltb, leb, eqb}
use lib.IntN.{pos, negsuc}
use lib.ListN.{length, length-map, get_elem?}
use lib.Ieee.{to_bits, is_nan, binary64}
use lib.Ieee.Fits.{and_l, and_r}
use borrow.Author.Tests.{ne_eqb, eqb-true}
use Rattle.values.specs.declared.Value.{Value}
use Rattle.values.specs.declared.Value.TheVariants.{Whole, Truth, Real, Unset}
use Rattle.std.specs.Prelude.{Some}
use Rattle.values.specs.definitions.Storable.{storable}
use Rattle.values.specs.definitions.Forms.{digit_byte, decimal_digits, hexadecimal, decimal, dash, printed, magnitude, event_field, read_back}
use Rattle.values.proofs.laws.StorableLaws.{unset_storable}
use Rattle.values.proofs.theorems.PrintedReadsBack.{printed_reads_back, number_reads_back}
use Rattle.text.specs.definitions.Bytes.{is_name_byte}
use Rattle.text.specs.definitions.Syntax.{Member, File}
use Rattle.text.proofs.laws.ListLaws.{none_some, some_injective}
use Rattle.checking.specs.definitions.Scope.{member_of, is_action}
use Rattle.cycles.specs.definitions.Spots.{Spot, every, cells}
use Rattle.cycles.specs.definitions.Fields.{lengthened, split, fields, has_byte}
use Rattle.cycles.specs.definitions.Row.{action_cells, action_fields}
use Rattle.cycles.proofs.laws.SpotLaws.{Stands, cell_stands}
use Rattle.senders.specs.definitions.Sender.{Sender, starts_with_letter, MOST_NAME_BYTES, is_sender, is_known_sender, unknown, kept}
use Rattle.senders.specs.definitions.Line.{GREATEST_NUMBER}
use Rattle.senders.specs.definitions.Row.{row}
use Rattle.senders.specs.definitions.SoundState.{SoundSender, SoundSenders}
use Rattle.senders.proofs.laws.SenderLaws.{kept_unknown}
use Rattle.senders.proofs.laws.StateLaws.{sound_kept}

-- ---- no space

abbrev Clear : List ℕ → Type 0
Clear l = has_byte 32 l ≡ false

clear_append : (a b : List ℕ) → Clear a → Clear b → Clear (a ++ b)
unfolding has_byte
clear_append [] b h g = g
clear_append (x ∷ xs) b h g = go (eqb x 32) h (λ k. clear_append xs b k g)
  where
    go : (t : Bool) → cond t true (has_byte 32 xs) ≡ false → (Clear xs → Clear (xs ++ b)) → cond t true (has_byte 32 (xs ++ b)) ≡ false
    go true k later = k
    go false k later = later k

clear_digit : (d : ℕ) → Clear (digit_byte d ∷ [])
unfolding has_byte digit_byte
clear_digit d = go (ltb d 10)
  where
    go : (b : Bool) → cond (eqb (cond b (48 + d) (87 + d)) 32) true false ≡ false
    go true = rw (ne_eqb (48 + d) 32 (λ e. omega arith))
    go false = rw (ne_eqb (87 + d) 32 (λ e. omega arith))

clear_decimal : (k n : ℕ) → Clear (decimal_digits k n)
unfolding decimal_digits has_byte
clear_decimal zero n = refl
clear_decimal (suc k) n = go (ltb n 10) (clear_decimal k (n / 10))
  where
    go : (t : Bool) → Clear (decimal_digits k (n / 10))
        → Clear (cond t (digit_byte n ∷ []) (decimal_digits k (n / 10) ++ (digit_byte (n % 10) ∷ [])))
    go true h = clear_digit n
    go false h = clear_append (decimal_digits k (n / 10)) (digit_byte (n % 10) ∷ []) h (clear_digit (n % 10))

clear_hexadecimal : (k n : ℕ) → Clear (hexadecimal k n)
unfolding hexadecimal has_byte
clear_hexadecimal zero n = refl
clear_hexadecimal (suc k) n =
    clear_append (hexadecimal k (n / 16)) (digit_byte (n % 16) ∷ []) (clear_hexadecimal k (n / 16)) (clear_digit (n % 16))

clear_printed : (v : Value) → Clear (printed v)
unfolding has_byte
clear_printed (Whole (pos n)) = clear_decimal 10 n
clear_printed (Whole (negsuc n)) = clear_decimal 10 (suc n)
clear_printed (Truth true) = refl
clear_printed (Truth false) = refl
clear_printed (Real x) = go (is_nan x)
  where
    go : (b : Bool) → Clear (cond b dash (hexadecimal 16 (to_bits binary64 x)))
    go true = refl
    go false = clear_hexadecimal 16 (to_bits binary64 x)
clear_printed Unset = refl

-- ---- names

no_space : T (is_name_byte 32) → ⊥
unfolding is_name_byte
no_space h = h

clear_name : (x : List ℕ) → T (every is_name_byte x) → Clear x
unfolding every has_byte
clear_name [] h = refl
clear_name (b ∷ bs) h = go (eqb b 32) refl (and_l (is_name_byte b) (every is_name_byte bs) h) (clear_name bs (and_r (is_name_byte b) (every is_name_byte bs) h))
  where
    go : (t : Bool) → eqb b 32 ≡ t → T (is_name_byte b) → Clear bs → cond t true (has_byte 32 bs) ≡ false
    go true e n later = absurd (no_space (subst (λ (c : ℕ). T (is_name_byte c)) (eqb-true b 32 e) n))
    go false e n later = later

clear_sender : (x : List ℕ) → T (is_sender x) → Clear x
unfolding is_sender
clear_sender x h =
    clear_name x (and_l (every is_name_byte x) (leb (length x) MOST_NAME_BYTES)
    (and_r (starts_with_letter x) (every is_name_byte x && leb (length x) MOST_NAME_BYTES) h))

-- ---- fields

split_end : (a : List ℕ) → Clear a → split 32 a ≡ a ∷ []
unfolding split has_byte lengthened
split_end [] h = refl
split_end (x ∷ xs) h = go (eqb x 32) h (λ k. split_end xs k)
  where
    go : (t : Bool) → cond t true (has_byte 32 xs) ≡ false → (Clear xs → split 32 xs ≡ xs ∷ [])
        → cond t ([] ∷ split 32 xs) (lengthened x (split 32 xs)) ≡ (x ∷ xs) ∷ []
    go true k later = let w : ◌≡◌ {A = ℕ} 0 1 = cc in absurd (omega arith)
    go false k later = rw (later k)

split_space : (a b : List ℕ) → Clear a → split 32 (a ++ (32 ∷ b)) ≡ a ∷ split 32 b
unfolding split has_byte lengthened
split_space [] b h = refl
split_space (x ∷ xs) b h = go (eqb x 32) h (λ k. split_space xs b k)
  where
    go : (t : Bool) → cond t true (has_byte 32 xs) ≡ false → (Clear xs → split 32 (xs ++ (32 ∷ b)) ≡ xs ∷ split 32 b)
        → cond t ([] ∷ split 32 (xs ++ (32 ∷ b))) (lengthened x (split 32 (xs ++ (32 ∷ b)))) ≡ (x ∷ xs) ∷ split 32 b
    go true k later = let w : ◌≡◌ {A = ℕ} 0 1 = cc in absurd (omega arith)
    go false k later = rw (later k)

split_fields : (field : Spot → List ℕ) → ((p : Spot) → Clear (field p)) → (ps : List Spot) (a : List ℕ) → Clear a
    → split 32 (a ++ flat_map (λ p. 32 ∷ field p) ps) ≡ a ∷ map field ps
unfolding flat_map
split_fields field clear [] a h = ap (split 32) (append-nil a) ∙ split_end a h
split_fields field clear (p ∷ ps) a h =
    split_space a (field p ++ flat_map (λ p. 32 ∷ field p) ps) h
    ∙ ap (λ (l : List (List ℕ)). a ∷ l) (split_fields field clear ps (field p) (clear p))

-- the text of a fired value
abbrev pub fired_text : Sender → Spot → List ℕ
fired_text x p = printed (x.fired p.entity p.member)

pub row_fields : (f : File) (x : Sender) → T (is_sender x.name)
    → fields (row f x) ≡ x.name ∷ decimal x.last ∷ map (fired_text x) (action_cells f)
unfolding fields row action_fields
row_fields f x h =
    ap (split 32) (append_assoc x.name (32 ∷ decimal x.last) (flat_map (λ p. 32 ∷ fired_text x p) (action_cells f)))
    ∙ split_space x.name (decimal x.last ++ flat_map (λ p. 32 ∷ fired_text x p) (action_cells f)) (clear_sender x.name h)
    ∙ ap (λ (l : List (List ℕ)). x.name ∷ l)
    (split_fields (fired_text x) (λ p. clear_printed (x.fired p.entity p.member)) (action_cells f) (decimal x.last) (clear_decimal 10 x.last))

pub row_sender : (f : File) (x : Sender) → T (is_sender x.name) → get_elem? (fields (row f x)) 0 ≡ some x.name
row_sender f x h = ap (λ (l : List (List ℕ)). get_elem? l 0) (row_fields f x h)

pub row_number : (f : File) (x : Sender) → T (is_sender x.name) → get_elem? (fields (row f x)) 1 ≡ some (decimal x.last)
row_number f x h = ap (λ (l : List (List ℕ)). get_elem? l 1) (row_fields f x h)

pub row_count : (f : File) (x : Sender) → T (is_sender x.name) → length (fields (row f x)) ≡ suc (suc (length (action_cells f)))
row_count f x h = ap length (row_fields f x h) ∙ ap (λ (n : ℕ). suc (suc n)) (length-map (action_cells f) (fired_text x))

-- ---- the action cells

map_at : {A : Type 0} (g : A → List ℕ) (xs : List A) (i : ℕ) {x : A} → get_elem? xs i ≡ some x → get_elem? (map g xs) i ≡ some (g x)
map_at g [] i h = absurd (none_some h)
map_at g (y ∷ xs) zero h = ap (λ x. some (g x)) (some_injective h)
map_at g (y ∷ xs) (suc i) h = map_at g xs i h

pub row_field : (f : File) (x : Sender) → T (is_sender x.name) → (i : ℕ) (p : Spot) → get_elem? (action_cells f) i ≡ some p
    → get_elem? (fields (row f x)) (suc (suc i)) ≡ some (fired_text x p)
row_field f x h i p e = ap (λ (l : List (List ℕ)). get_elem? l (suc (suc i))) (row_fields f x h) ∙ map_at (fired_text x) (action_cells f) i e

abbrev cell_if_action : Spot → List Spot
cell_if_action p = elim (is_action p.what.sort) [ true ↦ p ∷ [] | false ↦ [] ]

action_among : (p : Spot) (qs : List Spot) (i : ℕ) → get_elem? (flat_map cell_if_action qs) i ≡ some p → Memᴰ p qs
unfolding flat_map
action_among p [] i h = absurd (none_some h)
action_among p (q ∷ qs) i h = go (is_action q.what.sort) i (λ j k. action_among p qs j k) h
  where
    go : (b : Bool) (i : ℕ) → ((j : ℕ) → get_elem? (flat_map cell_if_action qs) j ≡ some p → Memᴰ p qs)
        → get_elem? ((elim b as (λ (x : Bool). List Spot) [ true ↦ q ∷ [] | false ↦ [] ]) ++ flat_map cell_if_action qs) i ≡ some p
        → Memᴰ p (q ∷ qs)
    go true zero later k = Memᴰ.head (sym (some_injective k))
    go true (suc j) later k = Memᴰ.tail (later j k)
    go false j later k = Memᴰ.tail (later j k)

pub action_stands : (f : File) (i : ℕ) (p : Spot) → get_elem? (action_cells f) i ≡ some p → Stands f p
unfolding action_cells
action_stands f i p h = cell_stands f p (action_among p (cells f) i h)

-- ---- reading back

-- what a row may be printed of: of a sender that is known and sound, or of one that is not known
pub record SoundRow (f : File) (x : Sender) : Type 0 where
  pub name : T (is_sender x.name)
  pub most : x.last ≤ GREATEST_NUMBER
  pub fired : (e m : ℕ) (y : Member) → member_of f e m ≡ some y → T (storable y.kind (x.fired e m))

pub sender_sound_row : (f : File) (x : Sender) → SoundSender f x → SoundRow f x
sender_sound_row f x h = record { name = h.name; most = h.most; fired = h.fired }

pub kept_sound_row : (f : File) (n : List ℕ) → T (is_sender n) → (xs : List Sender) → SoundSenders f xs → SoundRow f (kept n xs)
unfolding unknown
kept_sound_row f n h xs g = go (is_known_sender n xs) refl
  where
    nothing : SoundRow f (unknown n)
    nothing = record { name = h; most = omega arith; fired = λ e m y p. unset_storable y.kind }

    go : (b : Bool) → is_known_sender n xs ≡ b → SoundRow f (kept n xs)
    go true e = sender_sound_row f (kept n xs) (sound_kept f n xs g e)
    go false e = subst (SoundRow f) (sym (kept_unknown n xs e)) nothing

-- "every printed value reads back as itself": a row has a field for the sender, one for the number and one for each action cell; reading them as fields
-- of a record gives the sender, its number and the values fired, and no reading where nothing was
pub record RowReadsBack (f : File) (x : Sender) (r : List ℕ) : Type 0 where
  pub count : length (fields r) ≡ suc (suc (length (action_cells f)))
  pub sender : get_elem? (fields r) 0 ≡ some x.name
  pub number : (t : List ℕ) → get_elem? (fields r) 1 ≡ some t → magnitude t ≡ Some x.last
  pub fired : (i : ℕ) (p : Spot) (t : List ℕ) → get_elem? (action_cells f) i ≡ some p → get_elem? (fields r) (suc (suc i)) ≡ some t
      → event_field p.what.kind t ≡ read_back (x.fired p.entity p.member)

pub row_reads_back : (f : File) (x : Sender) → SoundRow f x → RowReadsBack f x (row f x)
row_reads_back f x h =
    let below : x.last < 4294967296 = let m = h.most in omega arith in
    record {
      count = row_count f x h.name;
      sender = row_sender f x h.name;
      number = λ t g. ap magnitude (some_injective (sym g ∙ row_number f x h.name)) ∙ number_reads_back x.last below;
      fired = λ i p t g k.
          ap (event_field p.what.kind) (some_injective (sym k ∙ row_field f x h.name i p g))
          ∙ printed_reads_back p.what.kind (x.fired p.entity p.member) (h.fired p.entity p.member p.what (action_stands f i p g));
    }
