-- A record whose sender and number are read, on a state in memory; and a record under a header.
use Prim.Native.Nat.{ℕ, ◌+◌, ◌-◌, ◌*◌, ◌≤◌, ◌<◌}
use native.Mathlib.Omega.{arith}
use mathlib.Core.Path.{◌≡◌, refl, sym, ap, ◌∙◌, subst}
use mathlib.Core.Bool.{Bool, true, false, true≢false}
use mathlib.Core.List.{List, [], ◌∷◌, ◌++◌, map}
use mathlib.Core.Option.{Option, none, some}
use lib.Dec.{ltb}
use lib.ListN.{length, get_or, take, drop, length-map}
use borrow.Author.Tests.{lt-ltb, le-ltb}
use Rattle.text.specs.definitions.Syntax.{File}
use Rattle.checking.specs.inner_contracts.DirectoryReads.{Few}
use Rattle.checking.specs.inner_contracts.Directory.{Bench}
use Rattle.cycles.specs.declared.record.Sent.{Sent as Reads}
use Rattle.std.specs.Prelude.{Option as Read, None}
use Rattle.std.proofs.lemmas.Option.{none-some, same_Some}
use Rattle.cycles.specs.definitions.Header.{Column, header}
use Rattle.cycles.specs.definitions.Record.{Sent, record_of, Input, inputs_in, inputs_of, presence_in, given_in}
use Rattle.cycles.specs.definitions.Planes.{entity_count, table, input_bytes}
use Rattle.cycles.specs.inner_contracts.HeaderReads.{column_number, backwards}
use Rattle.cycles.specs.inner_contracts.LineReads.{got, sent_answer, SentRead, ColumnStands, InputsAre, ValuesRead}
use Rattle.cycles.proofs.laws.PlaneParts.{presence_piece, presence_sized, input_piece, input_sized}
use Rattle.cycles.proofs.laws.PlaneTestLaws.{behind, behind_all}
use Rattle.cycles.proofs.laws.GatheredLaws.{area_taken}
use Rattle.cycles.proofs.laws.SoundLine.{SoundColumn, header_sound, inputs_sound, all_inputs_sound}
use Rattle.cycles.proofs.laws.ColumnLaws.{backwards_length}
use Rattle.cycles.proofs.laws.CellTokenLaws.{few_within}
use Rattle.cycles.proofs.laws.RecordLaws.{record_fields}
use Rattle.senders.specs.inner_contracts.Judging.{Judged}
use Rattle.senders.specs.inner_contracts.Judging.{Refused}
use Rattle.senders.specs.definitions.Sender.{State, is_sender, has_place}
use Rattle.senders.specs.definitions.Answer.{Answer}
use Rattle.senders.specs.definitions.Line.{Accepted, line}
use Rattle.senders.specs.definitions.StateImage.{image_size, state_of, decode_senders}
use Rattle.senders.specs.inner_contracts.SenderMemory.{place, PlaceRead}
use Rattle.senders.specs.inner_contracts.Judging.{InputsStand}
use Rattle.senders.specs.inner_contracts.Advancing.{ResolvedBench, Moves, Settled, SentTaken, Advanced}
use Rattle.senders.proofs.laws.SenderLaws.{room_below}
use Rattle.senders.proofs.laws.StateLaws.{state_decoded_sound}
use Rattle.senders.proofs.laws.StateCanonical.{known_is, senders_from}
use Rattle.senders.proofs.laws.ReadingLaws.{line_no_record, line_ill_formed, line_no_room, line_bad_value, line_said}
use Rattle.senders.proofs.laws.RecordLaws.{moves_refused}

sound_stands : (f : File) (c : Column) → SoundColumn f c → ColumnStands f c
sound_stands f c s = record { of_entity = s.of_entity; of_member = λ p h. (s.of_event p h).0 }

-- a header has as many columns as it has numbers
counted : (columns : List ℕ) (count : ℕ) (cs : List Column) → map column_number cs ≡ backwards count columns → length cs ≡ count
counted columns count cs b = sym (length-map cs column_number) ∙ ap length b ∙ backwards_length count columns

-- a record under as many columns
recorded : (values columns : List ℕ) (count : ℕ) (cs : List Column) → map column_number cs ≡ backwards count columns → {o : Option Sent}
    → record_of count values ≡ o → record_of (length cs) values ≡ o
recorded values columns count cs b r = ap (λ (k : ℕ). record_of k values) (counted columns count cs b) ∙ r

module _ (classes literals d refs scopes columns : List ℕ) (count : ℕ) (values : List ℕ) where
  -- ---- under a header

  module _ {reads : Read Reads} (sends : SentRead count values reads) (state : List ℕ) where
    pub advanced_refused : reads ≡ None → Advanced classes literals d refs scopes columns count values state state (Refused 21)
    unfolding sent_answer
    advanced_refused q = record {
      is = λ text offsets lengths b print s h names cs p c.
          moves_refused print b.checked.bench.file s state
          (line_no_record b.checked.bench.file names values cs p s (recorded values columns count cs c (no_record (record_of count values) (sym sends.is ∙ q))));
    }
      where
        no_record : (o : Option Sent) → sent_answer o ≡ None → o ≡ none
        no_record none e = refl
        no_record (some x) e = absurd (none-some _ (sym e))

    -- what the sender's bytes and the number are
    got_record : {size number : ℕ} → reads ≡ got size number
        → (x : Sent) × (record_of count values ≡ some x) × (x.sender ≡ take size values) × (x.number ≡ number)
    unfolding sent_answer
    got_record {size} {number} q = go (record_of count values) refl
      where
        go : (o : Option Sent) → record_of count values ≡ o
            → (x : Sent) × (record_of count values ≡ some x) × (x.sender ≡ take size values) × (x.number ≡ number)
        go none r = let e : sent_answer none ≡ got size number = sym (ap sent_answer r) ∙ sym sends.is ∙ q in absurd (none-some _ e)
        go (some x) r =
            let e : sent_answer (some x) ≡ got size number = sym (ap sent_answer r) ∙ sym sends.is ∙ q in
            let s = same_Some _ _ e in
            (x, r, (sends.front x r).0 ∙ ap (λ (i : ℕ). take i values) (ap (λ (y : Reads). y.size) s), ap (λ (y : Reads). y.number) s)

    pub got_size : {size number : ℕ} → reads ≡ got size number → size ≤ length values
    unfolding sent_answer
    got_size {size} {number} q =
        let (x, r, m, k) = got_record q in
        let e : sent_answer (some x) ≡ got size number = sym (ap sent_answer r) ∙ sym sends.is ∙ q in
        let z : length x.sender ≡ size = ap (λ (y : Reads). y.size) (same_Some _ _ e) in
        subst (λ (i : ℕ). i ≤ length values) z (sends.front x r).1

    pub advanced_sent : {size number : ℕ} → reads ≡ got size number → {new_state : List ℕ} {r : Judged}
        → SentTaken classes literals d refs scopes columns count values (take (size - 0) values) number state new_state r
        → Advanced classes literals d refs scopes columns count values state new_state r
    advanced_sent {size} q takes = record {
      is = λ text offsets lengths b print s h names cs p c.
          let (x, r, m, k) = got_record q in
          let z : size ≡ size - 0 = omega arith in
          takes.is text offsets lengths b print s h names cs p c x r (m ∙ ap (λ (i : ℕ). take i values) z) k;
    }

  -- ---- a sender and a number

  module _ (name : List ℕ) (number : ℕ) (state : List ℕ) {n : ℕ} (e : n ≡ get_or d 1 0) where
    -- no file within the counts has so many entities
    pub sent_impossible : 32 < n → {new_state : List ℕ} {r : Judged}
        → SentTaken classes literals d refs scopes columns count values name number state new_state r
    sent_impossible more = record {
      is = λ text offsets lengths b. let q = b.checked.bench.directory.entities in absurd (omega (arith, b.checked.few.entities));
    }

    -- no state has so many senders
    pub sent_too_many : 8 < get_or state 4 0 → {new_state : List ℕ} {r : Judged}
        → SentTaken classes literals d refs scopes columns count values name number state new_state r
    sent_too_many more = record {
      is = λ text offsets lengths b print s h.
          let f = b.checked.bench.file in
          let sound = state_decoded_sound f (few_within f b.checked.few) print state s h in
          let k = known_is print f state h in
          absurd (omega (arith, sound.few));
    }

    pub sent_ill_formed : is_sender name ≡ false → SentTaken classes literals d refs scopes columns count values name number state state (Refused 43)
    sent_ill_formed t = record {
      is = λ text offsets lengths b print s h names cs p c x r m k.
          moves_refused print b.checked.bench.file s state
          (line_ill_formed b.checked.bench.file names values cs p x (recorded values columns count cs c r) s (ap is_sender m ∙ t));
    }

    module _ (well : is_sender name ≡ true) {from at : ℕ} (begins : from ≡ image_size n 0)
        (places : PlaceRead (behind from state) (29 + 109 * n) (get_or state 4 0) name at) where
      -- the place that code found is the sender's in the state
      told_place : {text offsets lengths : List ℕ} (b : ResolvedBench text classes offsets lengths literals d refs scopes)
          → (print : ℕ) (s : State) → state_of print b.checked.bench.file state ≡ some s → at ≡ place name s.senders
      told_place b print s h =
          let f = b.checked.bench.file in
          let z : n ≡ entity_count f = e ∙ b.checked.bench.directory.entities in
          places.is f (ap (λ (k : ℕ). 29 + 109 * k) (sym z))
          ∙ ap (place name)
          (ap (decode_senders f (get_or state 4 0)) (behind_all from state ∙ ap (λ (k : ℕ). drop k state) (begins ∙ ap (λ (k : ℕ). image_size k 0) z))
          ∙ senders_from print f state h)

      told_room : {text offsets lengths : List ℕ} (b : ResolvedBench text classes offsets lengths literals d refs scopes)
          → (print : ℕ) (s : State) → state_of print b.checked.bench.file state ≡ some s
          → (x : Sent) → x.sender ≡ name → has_place x.sender s.senders ≡ ltb at 8
      told_room b print s h x m =
          let f = b.checked.bench.file in
          let sound = state_decoded_sound f (few_within f b.checked.few) print state s h in
          ap (λ (k : List ℕ). has_place k s.senders) m ∙ room_below name s.senders sound.few ∙ ap (λ (k : ℕ). ltb k 8) (sym (told_place b print s h))

      pub sent_no_room : 8 ≤ at → SentTaken classes literals d refs scopes columns count values name number state state (Refused 42)
      sent_no_room full = record {
        is = λ text offsets lengths b print s h names cs p c x r m k.
            moves_refused print b.checked.bench.file s state
            (line_no_room b.checked.bench.file names values cs p x (recorded values columns count cs c r) (ap is_sender m ∙ well) s
            (told_room b print s h x m ∙ le-ltb at 8 full));
      }

      module _ (room : at < 8) (zeros no_cells : List ℕ) {flags cells new_flags new_cells : List ℕ} {ok : Bool}
          (a : flags ≡ table (λ e. 0 ∷ []) 0 n ++ drop n zeros)
          (b : cells ≡ table (λ k. input_bytes none) 0 (12 * n) ++ drop (12 * n * 9) no_cells)
          (v : ValuesRead classes d values columns count flags cells new_flags new_cells ok) where
        -- what the values that are read say
        told_values : {text offsets lengths : List ℕ} (w : Bench text classes offsets lengths d) → Few w.file
            → (names : List ℕ) (cs : List Column) → header w.file names ≡ some cs → map column_number cs ≡ backwards count columns
            → (x : Sent) → record_of count values ≡ some x
            → InputsAre (inputs_in cs x.texts) (entity_count w.file) (drop n zeros) (drop (12 * n * 9) no_cells) ok new_flags new_cells
        unfolding inputs_of presence_in given_in
        told_values {text} {offsets} {lengths} w few names cs h numbers x r =
            let t : entity_count w.file ≡ n = sym (e ∙ w.directory.entities) in
            let (number_text, p, c) = record_fields count values r in
            v.is (record {
              text = text;
              offsets = offsets;
              lengths = lengths;
              bench = w;
              few = few;
              header = cs;
              stand = λ c t. sound_stands w.file c (header_sound w.file names h c t);
              numbers = numbers;
              sender = x.sender;
              number = number_text;
              texts = x.texts;
              parts = p;
              counted = c;
              flags_after = drop n zeros;
              cells_after = drop (12 * n * 9) no_cells;
              blank_flags = rw t a;
              blank_cells = rw t b;
            })

        pub sent_bad_value : ok ≡ false → SentTaken classes literals d refs scopes columns count values name number state state (Refused 23)
        sent_bad_value t = record {
          is = λ text offsets lengths b print s h names cs p c x r m k.
              let f = b.checked.bench.file in
              moves_refused print f s state
              (line_bad_value f names values cs p x (recorded values columns count cs c r) (ap is_sender m ∙ well) s (told_room b print s h x m ∙ lt-ltb at 8 room)
              (no_inputs (inputs_in cs x.texts) (entity_count f) (told_values b.checked.bench b.checked.few names cs p c x r)));
        }
          where
            no_inputs : (o : Option (List Input)) (k : ℕ) → InputsAre o k (drop n zeros) (drop (12 * n * 9) no_cells) ok new_flags new_cells → o ≡ none
            no_inputs none k z = refl
            no_inputs (some is) k (z, p, q) = absurd (true≢false (sym z ∙ t))

        pub sent_settled : ok ≡ true → {new_state : List ℕ} {j : Judged}
            → Settled classes literals d refs scopes name at number new_flags new_cells state new_state j
            → SentTaken classes literals d refs scopes columns count values name number state new_state j
        sent_settled t {new_state} {j} settles = record {
          is = λ text offsets lengths b print s h names cs p c x r m k.
              go b print s h names cs p c x r m k (inputs_in cs x.texts) refl (told_values b.checked.bench b.checked.few names cs p c x r);
        }
          where
            go : {text offsets lengths : List ℕ} (b : ResolvedBench text classes offsets lengths literals d refs scopes)
                → (print : ℕ) (s : State) → state_of print b.checked.bench.file state ≡ some s
                → (names : List ℕ) (cs : List Column) → header b.checked.bench.file names ≡ some cs → map column_number cs ≡ backwards count columns
                → (x : Sent) → record_of count values ≡ some x → x.sender ≡ name → x.number ≡ number
                → (o : Option (List Input)) → inputs_in cs x.texts ≡ o
                → InputsAre o (entity_count b.checked.bench.file) (drop n zeros) (drop (12 * n * 9) no_cells) ok new_flags new_cells
                → Moves print b.checked.bench.file s (line b.checked.bench.file s names values) state new_state j
            go b print s h names cs p c x r m k none i z = absurd (true≢false (sym t ∙ z))
            go {text} {offsets} {lengths} b print s h names cs p c x r m k (some is) i (z, y, w) =
                let f = b.checked.bench.file in
                let size = entity_count f in
                let its = inputs_of is in
                let all = recorded values columns count cs c r in
                let stand : InputsStand f new_flags new_cells its = record {
                  sound = all_inputs_sound f is (inputs_sound f cs x.texts (header_sound f names p) i);
                  presence = area_taken (presence_piece its.presence) 1 (presence_sized its.presence) size size (omega arith) (drop n zeros) y;
                  given = area_taken (input_piece its.given) 9 (input_sized its.given) (12 * size) (108 * size) (omega arith)
                      (drop (12 * n * 9) no_cells) w;
                } in
                subst (λ (q : Answer Accepted). Moves print f s q state new_state j)
                (sym (line_said f names values cs p x all (ap is_sender m ∙ well) s (told_room b print s h x m ∙ lt-ltb at 8 room) i))
                (settles.is text offsets lengths b print s h names values cs p x all is i m k (told_place b print s h) stand)

-- a record that is refused before its place is sought
pub ruleset sent_refused = (sent_impossible, sent_too_many, sent_ill_formed)

-- of a header's columns, those that stand among more
pub advanced_taken : {classes literals d refs scopes taken columns values state new_state : List ℕ} {count : ℕ} {r : Judged}
    → length taken ≡ count → backwards count taken ≡ backwards count columns
    → Advanced classes literals d refs scopes taken (length taken) values state new_state r
    → Advanced classes literals d refs scopes columns count values state new_state r
advanced_taken {taken = taken} size same a = record {
  is = λ text offsets lengths b print s e names cs h m.
      a.is text offsets lengths b print s e names cs h (m ∙ sym same ∙ ap (λ (k : ℕ). backwards k taken) (sym size));
}
