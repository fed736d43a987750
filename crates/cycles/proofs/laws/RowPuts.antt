-- Fields put into a row or into its header one by one, and all of them.
use Prim.Native.Nat.{ℕ, zero, suc, ◌+◌, ◌-◌, ◌*◌, ◌/◌, ◌%◌, ◌≤◌, ◌<◌}
use native.Mathlib.Omega.{arith}
use mathlib.Core.Path.{◌≡◌, refl, sym, ap, ap₂, ◌∙◌, subst}
use mathlib.Core.Bool.{Bool, true, false, true≢false, cond}
use mathlib.Core.List.{List, [], ◌∷◌, ◌++◌}
use mathlib.Core.Option.{Option, none, some}
use lib.Dec.{ltb}
use lib.ListN.{length, get_or, get_elem?, set, drop, length-take, get_or-eq_default}
use borrow.Author.Tests.{ltb-true, ltb-false}
use lib.Seq.{append_snoc}
use Rattle.values.specs.declared.Value.{Value}
use Rattle.values.specs.declared.Kind.{Kind}
use Rattle.values.specs.declared.Kind.TheVariants.{Wholes, Bools, Reals}
use Rattle.values.specs.definitions.Cells.{cell_at}
use Rattle.values.specs.definitions.Forms.{printed}
use Rattle.values.proofs.laws.FormLaws.{printed_most}
use Rattle.text.specs.definitions.Tokens.{Token, tokens, tokens_of}
use Rattle.text.specs.definitions.Syntax.{Member, Entity, File}
use Rattle.text.proofs.laws.SpotLaws.{stands_drop}
use Rattle.text.proofs.laws.TokenFacts.{token_in_text}
use Rattle.checking.specs.inner_contracts.DirectoryReads.{Few}
use Rattle.checking.specs.definitions.Scope.{member_of, is_action}
use Rattle.checking.specs.definitions.Verdict.{name_if_found}
use Rattle.checking.specs.inner_contracts.Directory.{name_in, ColumnsOf, kind_class, Bench}
use Rattle.checking.proofs.laws.DirectoryLaws.{number_below, number_inside, named_bytes}
use Rattle.cycles.specs.definitions.Spots.{Spot}
use Rattle.cycles.specs.definitions.Cycle.{is_sort}
use Rattle.cycles.specs.definitions.Row.{row_header}
use Rattle.cycles.specs.definitions.Planes.{table, entity_count}
use Rattle.cycles.specs.inner_contracts.CellTokens.{NO_TOKEN, MemberAt, TokenOf, CellToken, SortTest}
use Rattle.values.specs.inner_contracts.Puts.{Put}
use Rattle.cycles.specs.inner_contracts.RowMemory.{
  field_of,
  field_at,
  fired_field,
  name_field,
  FiredPut,
  ShortNames,
  NamePut,
  FieldsPut,
  HeaderPut,
}
use Rattle.cycles.proofs.laws.CellTokenLaws.{few_within, action_class, none_behind, member_told, entity_told}
use Rattle.values.proofs.laws.PutLaws.{put_none, put_byte, put_length, put_next, put_same}
use Rattle.cycles.proofs.laws.PutLaws.{put_piece, put_no_piece, put_in_front}
use Rattle.cycles.proofs.laws.RowFields.{fields_table}

-- ---- a field by its member

module _ (field : Spot → List ℕ) (e m : ℕ) where
  no_field : (o : Option Member) → false ≡ is_sort is_action o → [] ≡ field_of field e m o
  unfolding field_of is_sort
  no_field none h = refl
  no_field (some x) h = rw (← h, field_of)

  a_field : (o : Option Member) → true ≡ is_sort is_action o
      → (x : Member) × (o ≡ some x) × (32 ∷ field (record { entity = e; member = m; what = x }) ≡ field_of field e m o)
  unfolding field_of is_sort
  a_field none h = absurd (true≢false h)
  a_field (some x) h = (x, refl, rw (← h, field_of))

-- is the member of cell number i an action?
action_told : {text classes offsets lengths d : List ℕ} {i token : ℕ} → CellToken d i token → {b : Bool} → SortTest classes token 6 b
    → (w : Bench text classes offsets lengths d) → Few w.file → b ≡ is_sort is_action (member_of w.file (i / 12) (i % 12))
action_told {text} {classes} {offsets} {lengths} {i = i} t a w c =
    a.is text offsets lengths (member_of w.file (i / 12) (i % 12)) (t.is text classes offsets lengths w c) is_action action_class

-- ---- a row

module _ {classes cells : List ℕ} {i token : ℕ} {b : Bool} (a : SortTest classes token 6 b) where
  pub fired_none : b ≡ false → (l : List ℕ) (at : ℕ) → FiredPut classes token cells i l at l at
  fired_none e l at = record {
    short = omega arith;
    action = b;
    tested = a;
    is = put_same (put_none l at) (ap (λ (t : Bool). cond t (32 ∷ printed (cell_at cells i)) []) (sym e));
  }

  pub fired_put : b ≡ true → {v : Value} → v ≡ cell_at cells i → (l : List ℕ) (at : ℕ) {m : List ℕ} {r : ℕ}
      → Put (printed v) (set l at 32) (at + 1) m r
      → FiredPut classes token cells i l at m r
  fired_put e {v} q l at p = record {
    short = let n = p.end in let h = printed_most v in omega arith;
    action = b;
    tested = a;
    is =
        put_same (put_next (put_byte l at 32) p)
        (ap (λ (u : Value). 32 ∷ printed u) q ∙ ap (λ (t : Bool). cond t (32 ∷ printed (cell_at cells i)) []) (sym e));
  }

field_told : (f : File) (cells : List ℕ) (i : ℕ) (b : Bool) → b ≡ is_sort is_action (member_of f (i / 12) (i % 12))
    → cond b (32 ∷ printed (cell_at cells i)) [] ≡ field_at f (fired_field cells) i
unfolding field_at
field_told f cells i true h =
    let n : i ≡ i / 12 * 12 + i % 12 = omega arith in
    ap (λ (k : ℕ). 32 ∷ printed (cell_at cells k)) n ∙ (a_field (fired_field cells) (i / 12) (i % 12) (member_of f (i / 12) (i % 12)) h).2
field_told f cells i false h = no_field (fired_field cells) (i / 12) (i % 12) (member_of f (i / 12) (i % 12)) h

-- the fields of the first i cells
pub record FiredSoFar (classes d cells before : List ℕ) (from i : ℕ) (after : List ℕ) (at : ℕ) : Type 0 where
  pub same : length after ≡ length before
  pub short : at ≤ from + 17 * i
  pub is : (text offsets lengths : List ℕ) (w : Bench text classes offsets lengths d) → Few w.file
      → Put (table (field_at w.file (fired_field cells)) 0 i) before from after at

module _ {classes d cells : List ℕ} where
  pub fired_begin : (l : List ℕ) (at : ℕ) → FiredSoFar classes d cells l at 0 l at
  fired_begin l at = record {
    same = refl;
    short = omega arith;
    is = λ text offsets lengths w c. put_no_piece (field_at w.file (fired_field cells)) l at;
  }

  pub fired_at : {l m : List ℕ} {from i j at : ℕ} → FiredSoFar classes d cells l from i m at → i ≡ j → FiredSoFar classes d cells l from j m at
  fired_at {l} {m} {from} {i} {j} {at} p e = subst (λ (k : ℕ). FiredSoFar classes d cells l from k m at) e p

  module _ {l m : List ℕ} {from i at token : ℕ} (p : FiredSoFar classes d cells l from i m at) (t : CellToken d i token) where
    pub fired_next : {k : List ℕ} {r : ℕ} → length k ≡ length m → FiredPut classes token cells i m at k r → FiredSoFar classes d cells l from (i + 1) k r
    fired_next e q = record {
      same = e ∙ p.same;
      short = let h = p.short in let g = q.short in omega arith;
      is = λ text offsets lengths w c.
          put_piece (field_at w.file (fired_field cells)) i (p.is text offsets lengths w c)
          (put_same q.is (field_told w.file cells i q.action (action_told t q.tested w c)));
    }

    -- a cell without a member has no field, and those of its entity behind it have none
    pub fired_rest : NO_TOKEN ≤ token → {r : ℕ} → r ≡ i - i % 12 + 12 → FiredSoFar classes d cells l from r m at
    unfolding is_sort
    fired_rest h {r} e = record {
      same = p.same;
      short = let g = p.short in omega arith;
      is = λ text offsets lengths w c.
          let n : r ≡ i + (12 - i % 12) = omega arith in
          rw n (rest w.file (none_behind t h w c) (p.is text offsets lengths w c) (12 - i % 12) (omega arith));
    }
      where
        rest : (f : File) → ((k : ℕ) → i % 12 + k < 12 → member_of f ((i + k) / 12) ((i + k) % 12) ≡ none)
            → Put (table (field_at f (fired_field cells)) 0 i) l from m at → (k : ℕ) → i % 12 + k ≤ 12
            → Put (table (field_at f (fired_field cells)) 0 (i + k)) l from m at
        rest f none_there q zero b = let z : i + 0 ≡ i = omega arith in rw z q
        rest f none_there q (suc k) b =
            let z : i + suc k ≡ i + k + 1 = omega arith in
            rw z
            (put_piece (field_at f (fired_field cells)) (i + k) (rest f none_there q k (omega arith))
            (put_same (put_none m at) (field_told f cells (i + k) false (sym (ap (is_sort is_action) (none_there k (omega arith)))))))

  module _ {n : ℕ} (e : n ≡ get_or d 1 0) where
    pub fields_impossible : 32 < n → {l m : List ℕ} {at : ℕ} → FieldsPut classes d cells l at m at
    fields_impossible h = record {
      short = omega arith;
      is = λ text offsets lengths w c. let q = w.directory.entities in absurd (omega (arith, c.entities));
    }

    -- the fields of all cells
    pub fields_end : {at next i : ℕ} {l m : List ℕ} → FiredSoFar classes d cells l at i m next → i ≤ 12 * n → 12 * n ≤ i → n ≤ 32
        → FieldsPut classes d cells l at m next
    fields_end {i = i} q g h few = record {
      short = let high = q.short in omega arith;
      is = λ text offsets lengths w c.
          let f = w.file in
          let z = w.directory.entities in
          let all : i ≡ 12 * entity_count f = omega arith in
          put_same (q.is text offsets lengths w c)
          (ap (table (field_at f (fired_field cells)) 0) all ∙ sym (fields_table f (few_within f c) (fired_field cells)));
    }

-- ---- the header

-- a name is no longer than its column says
pub name_below : (text offsets lengths : List ℕ) {xs : List ℕ} (p : ℕ) → xs ≡ name_in text offsets lengths p → get_or lengths p 0 < 256 → length xs < 256
name_below text offsets lengths p e h =
    let n = length-take (get_or lengths p 0) (drop (get_or offsets p 0) text) in
    rw (e, n) (omega arith)

-- the tokens of a text have short names
pub short_names : {text classes offsets lengths : List ℕ} {ts : List Token} → tokens_of text ≡ tokens ts → ColumnsOf text classes offsets lengths ts
    → ShortNames text classes offsets lengths
short_names {text} {offsets = offsets} {lengths = lengths} {ts = ts} lexed columns i h = go (number_inside ts i (omega (arith, columns.count)))
  where
    go : (t : Token) × (get_elem? ts i ≡ some t) → length (name_in text offsets lengths i) ≤ 24
    go (t, s) = rw (← columns.bytes i t s) (token_in_text text ts lexed i t (drop (suc i) ts) (stands_drop ts i s)).at_most_24

-- a token of a class that is not 0 is in the table
token_inside : (l : List ℕ) (i : ℕ) {c : ℕ} → get_or l i 0 ≡ c → 0 < c → i < length l
token_inside l i e h = go (ltb i (length l)) refl
  where
    go : (b : Bool) → ltb i (length l) ≡ b → i < length l
    go true q = ltb-true i (length l) q
    go false q = let z = get_or-eq_default l 0 (ltb-false i (length l) q) in absurd (omega arith)

kind_positive : (k : Kind) → 0 < kind_class k
unfolding kind_class
kind_positive Wholes = omega arith
kind_positive Bools = omega arith
kind_positive Reals = omega arith

module _ {text classes offsets lengths d : List ℕ} {i token : ℕ} (t : CellToken d i token) {b : Bool} (a : SortTest classes token 6 b) where
  pub name_none : b ≡ false → (l : List ℕ) (at : ℕ) → at ≤ length l → NamePut text classes offsets lengths d i l at l at
  unfolding field_at
  name_none e l at h = record {
    within = h;
    is = λ w c s g.
        let o = member_of w.file (i / 12) (i % 12) in (
          omega arith,
          put_same (put_none l at)
              (no_field (name_field w.file) (i / 12) (i % 12) o
              (sym e ∙ action_told t a w c)),
        );
  }

  module _ (e : b ≡ true) {entity : ℕ} (q : entity ≡ get_or d (227 + i / 12) 0) {xs ys : List ℕ}
      (first : xs ≡ name_in text offsets lengths (entity + 1)) (second : ys ≡ name_in text offsets lengths (token + 1)) where
    -- the two names, and that they are short
    names : (w : Bench text classes offsets lengths d) → Few w.file → ShortNames text classes offsets lengths
        → (32 ∷ (xs ++ 46 ∷ ys) ≡ field_at w.file (name_field w.file) i) × (length xs ≤ 24) × (length ys ≤ 24)
    unfolding field_at name_if_found
    names w c s = with_member (a_field (name_field w.file) (i / 12) (i % 12) o (sym e ∙ action_told t a w c))
      where
        o : Option Member
        o = member_of w.file (i / 12) (i % 12)

        token_is : TokenOf text classes offsets lengths token o
        token_is = t.is text classes offsets lengths w c

        Names : Type 0
        Names = (32 ∷ (xs ++ 46 ∷ ys) ≡ field_at w.file (name_field w.file) i) × (length xs ≤ 24) × (length ys ≤ 24)

        with_both : (x : Member) → MemberAt text classes offsets lengths token x
            → 32 ∷ name_field w.file (record { entity = i / 12; member = i % 12; what = x }) ≡ field_of (name_field w.file) (i / 12) (i % 12) o
            → (y : Entity) × (get_elem? w.file.entities (i / 12) ≡ some y) → Names
        with_both x m g (y, found) =
            let named = w.directory.entity_name (i / 12) y found in
            let all = w.columns.count in
            let low = number_below w.tokens (get_or d (227 + i / 12) 0 + 1) named.stands in
            let high = token_inside classes (token + 3) m.kind (kind_positive x.kind) in (
              ap₂ (λ (u v : List ℕ). 32 ∷ (u ++ 46 ∷ v))
                  (first ∙ ap (λ (n : ℕ). name_in text offsets lengths (n + 1)) q ∙ named_bytes w named ∙ ap name_if_found (sym found))
                  (second ∙ m.name)
                  ∙ g,
              rw first (s (entity + 1) (omega arith)),
              rw second (s (token + 1) (omega arith)),
            )

        with_member : (x : Member) × (o ≡ some x)
            × (32 ∷ name_field w.file (record { entity = i / 12; member = i % 12; what = x }) ≡ field_of (name_field w.file) (i / 12) (i % 12) o) → Names
        with_member (x, k, g) = with_both x (member_told token_is k) g (entity_told w.file (i / 12) (i % 12) k)

    pub name_no_room : (l : List ℕ) (at : ℕ) → at ≤ length l → length l - at < length xs + length ys + 2 → NamePut text classes offsets lengths d i l at l at
    name_no_room l at h g = record { within = h; is = λ w c s k. let n = names w c s in absurd (omega (arith, n.1, n.2)) }

    pub name_put : (l : List ℕ) (at : ℕ) → at ≤ length l → length xs + length ys + 2 ≤ length l - at → {m k : List ℕ} {dot r : ℕ}
        → Put xs (set l at 32) (at + 1) m dot → Put ys (set m dot 46) (dot + 1) k r
        → NamePut text classes offsets lengths d i l at k r
    name_put l at h g {m} {k} {dot} {r} u v = record {
      within = omega (arith, u.end, v.end);
      is = λ w c s z.
          let n = names w c s in (
            omega (arith, u.end, v.end, n.1, n.2),
            put_same (put_next (put_next (put_next (put_byte l at 32) u) (put_byte m dot 46)) v)
                (ap (◌∷◌ 32) (append_snoc xs 46 ys) ∙ n.0),
          );
    }

-- the names of the first i cells
pub record NamesSoFar (text classes offsets lengths d before : List ℕ) (from i : ℕ) (after : List ℕ) (at : ℕ) : Type 0 where
  pub same : length after ≡ length before
  pub within : at ≤ length after
  pub is : (w : Bench text classes offsets lengths d) → Few w.file → ShortNames text classes offsets lengths
      → (at ≤ from + 50 * i) × Put (table (field_at w.file (name_field w.file)) 0 i) before from after at

module _ {text classes offsets lengths d : List ℕ} where
  pub names_begin : (l : List ℕ) (at : ℕ) → at ≤ length l → NamesSoFar text classes offsets lengths d l at 0 l at
  names_begin l at h = record {
    same = refl;
    within = h;
    is = λ w c s. (omega arith, put_no_piece (field_at w.file (name_field w.file)) l at);
  }

  pub names_next : {l m k : List ℕ} {from i at r : ℕ} → NamesSoFar text classes offsets lengths d l from i m at → length k ≡ length m
      → from + 50 * (i + 1) ≤ length l → NamePut text classes offsets lengths d i m at k r
      → NamesSoFar text classes offsets lengths d l from (i + 1) k r
  names_next {i = i} p e g q = record {
    same = e ∙ p.same;
    within = let h = q.within in omega arith;
    is = λ w c s.
        let (h, x) = p.is w c s in
        let z = p.same in
        let (k, y) = q.is w c s (omega arith) in
        (omega arith, put_piece (field_at w.file (name_field w.file)) i x y);
  }

  module _ {n : ℕ} (e : n ≡ get_or d 1 0) where
    pub header_impossible : 32 < n → {l m : List ℕ} {r : ℕ} → HeaderPut text classes offsets lengths d l m r
    header_impossible h = record {
      short = λ w c s. let q = w.directory.entities in absurd (omega (arith, c.entities));
      is = λ w c. let q = w.directory.entities in absurd (omega (arith, c.entities));
    }

    pub header_end : {at i from : ℕ} {a l m : List ℕ} → Put (98 ∷ 121 ∷ 32 ∷ 110 ∷ []) a 0 l from
        → NamesSoFar text classes offsets lengths d l from i m at → i ≤ 12 * n → 12 * n ≤ i → HeaderPut text classes offsets lengths d a m at
    unfolding row_header
    header_end {i = i} {from} {a} {l} by q g h =
        let end = by.end in
        record {
          short = λ w c s. let z = w.directory.entities in let high = (q.is w c s).0 in omega (arith, c.entities);
          is = λ w c s.
              let f = w.file in
              let z = w.directory.entities in
              let all : i ≡ 12 * entity_count f = omega arith in
              let long = q.same ∙ put_length by in
              let high = q.within in
              put_in_front
              (put_same (put_next by (q.is w c s).1)
              (ap (λ (x : List ℕ). 98 ∷ 121 ∷ 32 ∷ 110 ∷ x)
              (ap (table (field_at f (name_field f)) 0) all ∙ sym (fields_table f (few_within f c) (name_field f)))))
              (omega arith);
        }
