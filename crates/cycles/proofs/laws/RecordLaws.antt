-- Records in memory: their sender and number.
use Prim.Native.Nat.{ℕ, ◌+◌, ◌-◌, ◌≤◌, ◌<◌}
use native.Mathlib.Omega.{arith}
use mathlib.Core.Path.{◌≡◌, refl, sym, ap, ◌∙◌, subst}
use mathlib.Core.Bool.{Bool, true, false, not, cond, ◌&&◌}
use mathlib.Core.List.{List, [], ◌∷◌}
use mathlib.Core.Option.{Option, none, some}
use lib.Dec.{leb, eqb}
use lib.ListN.{length, take, drop, length-take}
use lib.Seq.{length-take-le}
use borrow.Author.Tests.{le-leb, lt-leb, eqb-true}
use Rattle.std.specs.Prelude.{Option as Read, Some, None}
use Rattle.values.specs.definitions.Forms.{magnitude}
use Rattle.text.proofs.laws.ListLaws.{some_injective, none_some}
use Rattle.std.proofs.lemmas.Option.{none-some, same_Some}
use Rattle.cycles.specs.definitions.Fields.{split, fields, is_empty, has_byte}
use Rattle.cycles.specs.definitions.Record.{Sent, sent_as, sent_fields, record_of}
use Rattle.cycles.specs.inner_contracts.FieldReads.{FieldEnd, none_empty, first_length, first_size}
use Rattle.cycles.specs.inner_contracts.LineReads.{got, sent_answer, SentRead}
use Rattle.cycles.proofs.laws.FieldLaws.{part_to_end, split_first}

-- ---- the sender and the number of a record

-- the fields of a record, none of which may be empty
abbrev if_full : ℕ → Bool → List (List ℕ) → Option Sent
if_full count b xs = elim b [ true ↦ sent_fields count xs | false ↦ none ]

by_full : (count : ℕ) (l : List ℕ) → length l ≤ 8192 → has_byte 10 l ≡ false → record_of count l ≡ if_full count (none_empty (fields l)) (fields l)
unfolding record_of none_empty
by_full count l short one = rw (le-leb (length l) 8192 short, one, record_of)

-- the fields of a record: the sender, the number, and a text for each column
pub record_fields : (count : ℕ) (l : List ℕ) {r : Sent} → record_of count l ≡ some r
    → (n : List ℕ) × (fields l ≡ r.sender ∷ n ∷ r.texts) × (length r.texts ≡ count)
unfolding record_of sent_fields sent_as none_empty
record_fields count l {r} h = by_tests (leb (length l) 8192 && (not (has_byte 10 l) && none_empty (fields l))) h
  where
    Parts : Sent → Type 0
    Parts r = (n : List ℕ) × (fields l ≡ r.sender ∷ n ∷ r.texts) × (length r.texts ≡ count)

    by_number : (x n : List ℕ) (xs : List (List ℕ)) → fields l ≡ x ∷ n ∷ xs → length xs ≡ count → (m : Read ℕ) → sent_as x m xs ≡ some r → Parts r
    by_number x n xs q c None h = absurd (none_some h)
    by_number x n xs q c (Some k) h = subst Parts (some_injective h) (n, q, c)

    by_count : (x n : List ℕ) (xs : List (List ℕ)) → fields l ≡ x ∷ n ∷ xs → (b : Bool) → eqb (length xs) count ≡ b
        → cond b (sent_as x (magnitude n) xs) none ≡ some r → Parts r
    by_count x n xs q false c h = absurd (none_some h)
    by_count x n xs q true c h = by_number x n xs q (eqb-true (length xs) count c) (magnitude n) h

    by_fields : (xs : List (List ℕ)) → fields l ≡ xs → sent_fields count xs ≡ some r → Parts r
    by_fields [] q h = absurd (none_some h)
    by_fields (x ∷ []) q h = absurd (none_some h)
    by_fields (x ∷ n ∷ xs) q h = by_count x n xs q (eqb (length xs) count) refl h

    by_tests : (b : Bool) → ◌≡◌ {A = Option Sent} (elim b [ true ↦ sent_fields count (fields l) | false ↦ none ]) (some r) → Parts r
    by_tests true h = by_fields (fields l) refl h
    by_tests false h = absurd (none_some h)

-- the sender stands at the record's front
pub sender_first : (count : ℕ) (l : List ℕ) {r : Sent} → record_of count l ≡ some r
    → (r.sender ≡ take (length r.sender) l) × (length r.sender ≤ length l)
unfolding fields
sender_first count l {r} h =
    let (n, q, c) = record_fields count l h in
    let e = split_first 32 l q in
    let k = ap length e in
    let m = length-take (length r.sender) l in
    (sym e, omega arith)

module _ (count : ℕ) (l : List ℕ) where
  sent_none : record_of count l ≡ none → SentRead count l None
  unfolding sent_answer
  sent_none h = record { is = ap sent_answer (sym h); front = λ x e. sender_first count l e }

  pub record_too_long : 8192 < length l → SentRead count l None
  unfolding record_of
  record_too_long h = sent_none (rw (lt-leb (length l) 8192 h, record_of))

  module _ (short : length l ≤ 8192) where
    pub record_feeds : has_byte 10 l ≡ true → SentRead count l None
    unfolding record_of
    record_feeds h = sent_none (rw (le-leb (length l) 8192 short, h, record_of))

    module _ (one : has_byte 10 l ≡ false) where
      pub sender_alone : split 32 l ≡ l ∷ [] → SentRead count l None
      unfolding sent_fields fields
      sender_alone z =
          sent_none (by_full count l short one ∙ ap (λ (xs : List (List ℕ)). if_full count (none_empty xs) xs) z ∙ go (none_empty (l ∷ [])))
        where
          go : (b : Bool) → if_full count b (l ∷ []) ≡ none
          go true = refl
          go false = refl

      module _ {size : ℕ} (e : FieldEnd 32 l size) where
        -- the line's first field
        pub no_sender : size ≡ 0 → SentRead count l None
        unfolding none_empty fields
        no_sender z = sent_none (by_full count l short one ∙ ap (λ (b : Bool). if_full count b (fields l)) empty_first)
          where
            empty_first : none_empty (fields l) ≡ false
            empty_first = rw (e.marked, z)

        module _ (some_bytes : size ≡ 0 → ⊥) where
          abbrev sender : List ℕ
          sender = take size l

          abbrev part : List ℕ
          part = take (length l - (size + 1)) (drop (size + 1) l)

          abbrev left : List ℕ
          left = drop (size + 1) l

          its_fields : fields l ≡ sender ∷ fields left
          unfolding fields
          its_fields = e.marked

          sender_length : length sender ≡ size
          sender_length = let w = e.within in length-take-le size l (omega arith)

          full_sender : is_empty sender ≡ false
          unfolding is_empty
          full_sender = go sender sender_length
            where
              go : (x : List ℕ) → length x ≡ size → is_empty x ≡ false
              go [] q = absurd (some_bytes (sym q))
              go (b ∷ x) q = refl

          -- by the fields after it
          sent_by : record_of count l ≡ if_full count (none_empty (fields left)) (sender ∷ fields left)
          unfolding none_empty
          sent_by =
              by_full count l short one
              ∙ ap (λ (xs : List (List ℕ)). if_full count (none_empty xs) xs) its_fields
              ∙ ap (λ (b : Bool). if_full count (not b && none_empty (fields left)) (sender ∷ fields left)) full_sender

          module _ {o : Read ℕ} (read : o ≡ first_size count (fields part)) where
            d : o ≡ first_size count (fields left)
            d = rw (part_to_end l (size + 1)) at read

            pub no_number : o ≡ None → SentRead count l None
            unfolding none_empty first_size first_length sent_fields
            no_number z = sent_none (sent_by ∙ by_fields (fields left) (sym d ∙ z))
              where
                by_count : (x : List ℕ) (xs : List (List ℕ)) (b : Bool) → cond b (Some (length x)) None ≡ None
                    → cond b (sent_as sender (magnitude x) xs) none ≡ none
                by_count x xs true h = absurd (none-some (length x) (sym h))
                by_count x xs false h = refl

                by_test : (x : List ℕ) (xs : List (List ℕ)) (b : Bool)
                    → cond (not (is_empty x) && b) (cond (eqb (length xs) count) (Some (length x)) None) None ≡ None
                    → if_full count (not (is_empty x) && b) (sender ∷ x ∷ xs) ≡ none
                by_test [] xs b h = refl
                by_test (y ∷ x) xs true h = by_count (y ∷ x) xs (eqb (length xs) count) h
                by_test (y ∷ x) xs false h = refl

                by_fields : (xs : List (List ℕ)) → first_size count xs ≡ None
                    → if_full count (none_empty xs) (sender ∷ xs) ≡ none
                by_fields [] h = refl
                by_fields (x ∷ xs) h = by_test x xs (none_empty xs) h

            module _ {digits : ℕ} (z : o ≡ Some digits) {m : Read ℕ} (h : m ≡ magnitude (take digits part)) where
              -- sender and number are read, and the texts of values follow
              sent_is : (xs : List (List ℕ)) × (record_of count l ≡ sent_as sender m xs)
              unfolding none_empty first_size first_length sent_fields fields
              sent_is = let (xs, q) = by_fields (fields left) refl (sym z ∙ d) in (xs, sent_by ∙ q)
                where
                  by_count : (x : List ℕ) (xs : List (List ℕ)) → fields left ≡ x ∷ xs → (b : Bool) → Some digits ≡ cond b (Some (length x)) None
                      → cond b (sent_as sender (magnitude x) xs) none ≡ sent_as sender m xs
                  by_count x xs q false k = absurd (none-some digits (sym k))
                  by_count x xs q true k =
                      ap (λ (n : Read ℕ). sent_as sender n xs)
                      (sym (h ∙ ap magnitude (ap (λ (i : ℕ). take i part) (same_Some digits (length x) k)
                      ∙ ap (take (length x)) (part_to_end l (size + 1)) ∙ split_first 32 left q)))

                  by_test : (x : List ℕ) (xs : List (List ℕ)) → fields left ≡ x ∷ xs → (b : Bool)
                      → Some digits ≡ cond b (cond (eqb (length xs) count) (Some (length x)) None) None
                      → if_full count b (sender ∷ x ∷ xs) ≡ sent_as sender m xs
                  by_test x xs q false k = absurd (none-some digits (sym k))
                  by_test x xs q true k = by_count x xs q (eqb (length xs) count) k

                  by_fields : (xs : List (List ℕ)) → fields left ≡ xs → Some digits ≡ first_size count xs
                      → (ys : List (List ℕ)) × (if_full count (none_empty xs) (sender ∷ xs) ≡ sent_as sender m ys)
                  by_fields [] q k = absurd (none-some digits (sym k))
                  by_fields (x ∷ xs) q k = (xs, by_test x xs q (none_empty (x ∷ xs)) k)

              pub sent_no_number : m ≡ None → SentRead count l None
              unfolding sent_as
              sent_no_number q = let (xs, r) = sent_is in sent_none (r ∙ ap (λ (n : Read ℕ). sent_as sender n xs) q)

              pub sent_number : {n : ℕ} → m ≡ Some n → SentRead count l (got size n)
              unfolding sent_as sent_answer
              sent_number {n} q =
                  let (xs, r) = sent_is in
                  record {
                    is = ap (λ (k : ℕ). got k n) (sym sender_length) ∙ sym (ap sent_answer (r ∙ ap (λ (k : Read ℕ). sent_as sender k xs) q));
                    front = λ x e. sender_first count l e;
                  }
