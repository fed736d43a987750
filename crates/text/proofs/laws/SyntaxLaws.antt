-- Laws of reading a text into columns: the rows that lexing leaves, each answer of `settled`, and what an answer says.
use mathlib.Core.Path.{◌≡◌, refl, sym, ap, ◌∙◌, subst}
use mathlib.Core.List.{List}
use mathlib.Core.Bool.{Bool, true, false, true≢false}
use Prim.Native.Nat.{ℕ, ◌<◌, ◌≤◌}
use native.Mathlib.Omega.{arith}
use lib.Dec.{ltb}
use lib.ListN.{length, get_or, take, drop}
use borrow.Author.Tests.{ltb-true, ltb-false}
use Rattle.std.specs.Prelude.{Result, Ok, Err}
use Rattle.text.specs.declared.SyntaxError.{SyntaxError}
use Rattle.text.specs.declared.SyntaxError.TheVariants.{TooLong, NoTokenAt, UnfitAt, NoRoom}
use Rattle.text.specs.declared.grammar.Unfit.{Unfit}
use Rattle.text.specs.definitions.Tokens.{Lexing}
use Rattle.text.specs.inner_contracts.EnumAnswers.{syntax_answer}
use Rattle.text.specs.inner_contracts.TokenTable.{
  TokenColumns,
  columns_of,
  row_token,
  rows,
  lacks_rows,
  lexing,
  into_columns,
  columns_answer,
  told,
  Lexes,
}
use Rattle.text.specs.definitions.Readers.{read}
use Rattle.text.specs.definitions.Parse.{ungrammatical_at, offset_of, parse}
use Rattle.text.specs.inner_contracts.ParseAnswers.{classes_of, outcome_answer, ParsesAs}
use Rattle.text.specs.inner_contracts.Syntaxes.{text_answer, Says, ReadsText, Settles}
use Rattle.text.proofs.laws.RowLaws.{length_rows, drop_rows, drop_rows_past, rows_class}
use Rattle.text.proofs.laws.IntoColumnsLaws.{
  lacks_classes,
  lacks_offsets,
  lacks_lengths,
  lacks_values,
  into_columns_short,
  count_says,
  bad_says,
  too_long_says,
  no_room_says,
}
use Rattle.text.proofs.laws.TokenFacts.{refused_within}
use Rattle.text.proofs.laws.CodeGrammarLaws.{file_made, token_unfit}

-- ---- the rows that lexing leaves

-- each column has m rows
pub record HasRoom (m : ℕ) (t : TokenColumns) : Type 0 where
  pub classes : m ≤ length t.classes
  pub offsets : m ≤ length t.offsets
  pub lengths : m ≤ length t.lengths
  pub values : m ≤ length t.values

at_least : (a m : ℕ) (b : Bool) → (a < m → b ≡ true) → b ≡ false → m ≤ a
at_least a m b h e = go (ltb a m) refl
  where
    go : (x : Bool) → ltb a m ≡ x → m ≤ a
    go true f = absurd (true≢false (sym (h (ltb-true a m f)) ∙ e))
    go false f = ltb-false a m f

pub has_room : (m : ℕ) (t : TokenColumns) → lacks_rows m t ≡ false → HasRoom m t
has_room m t e =
    let c = at_least (length t.classes) m (lacks_rows m t) (lacks_classes m t) e in
    let o = at_least (length t.offsets) m (lacks_rows m t) (lacks_offsets m t c) e in
    let l = at_least (length t.lengths) m (lacks_rows m t) (lacks_lengths m t c o) e in
    let v = at_least (length t.values) m (lacks_rows m t) (lacks_values m t c o l) e in
    record { classes = c; offsets = o; lengths = l; values = v }

room_kept : {m : ℕ} {t u : TokenColumns} → HasRoom m t → length u.classes ≡ length t.classes → length u.offsets ≡ length t.offsets
    → length u.lengths ≡ length t.lengths → length u.values ≡ length t.values → HasRoom m u
room_kept r c o l v = record {
  classes = omega (arith, r.classes);
  offsets = omega (arith, r.offsets);
  lengths = omega (arith, r.lengths);
  values = omega (arith, r.values);
}

lexing_room : (text : List ℕ) (t : TokenColumns) (y : Lexing) → length text ≤ 32768 → into_columns text t ≡ lexing y → lacks_rows (length text) t ≡ false
lexing_room text t y h e = go (lacks_rows (length text) t) refl
  where
    go : (b : Bool) → lacks_rows (length text) t ≡ b → lacks_rows (length text) t ≡ false
    go true f = let g = into_columns_short text t h f in let z : ◌≡◌ {A = ℕ} 0 1 = cc in absurd (omega arith)
    go false f = f

pub count_room : {text : List ℕ} {t u : TokenColumns} (n : ℕ) → Lexes text t u (Ok n) → HasRoom (length text) u
unfolding told
count_room {text} {t} {u} n l =
    let r = has_room (length text) t (lexing_room text t _ (count_says text t u n l).0 (sym l.says)) in
    room_kept r l.classes_kept l.offsets_kept l.lengths_kept l.values_kept

-- ---- the answers

-- what the answer of lexing leads to, and what it says
module _ {text : List ℕ} {t u : TokenColumns} {x : Result ℕ SyntaxError} (l : Lexes text t u x) where
  reads : (s : Result ℕ SyntaxError) → columns_answer (λ ts. outcome_answer (parse (length text) ts)) (told x u text) ≡ syntax_answer s → Says text t u s
      → ReadsText text t u s
  unfolding text_answer
  reads s e h = record {
    answer = sym e ∙ ap (columns_answer (λ ts. outcome_answer (parse (length text) ts))) l.says;
    says = h;
    classes_kept = l.classes_kept;
    offsets_kept = l.offsets_kept;
    lengths_kept = l.lengths_kept;
    values_kept = l.values_kept;
  }

-- a text that the lexer refuses is refused so
pub lexed_refused : {text : List ℕ} {t u : TokenColumns} (e : SyntaxError) → Lexes text t u (Err e) → ReadsText text t u (Err e)
unfolding told columns_answer syntax_answer
lexed_refused {text} {t} {u} TooLong l = reads l (Err TooLong) refl (too_long_says text t u l)
lexed_refused {text} {t} {u} (NoTokenAt p) l =
    let h = bad_says text t u p l in
    reads l (Err (NoTokenAt p)) refl (record { allowed = h.0; lexed = h.1; within = refused_within text p h.1 })
lexed_refused (UnfitAt p) l = absurd l.inside
lexed_refused {text} {t} {u} NoRoom l = reads l (Err NoRoom) refl (no_room_says text t u l)

rows_of : (text : List ℕ) (u : TokenColumns) (n : ℕ) (cs : List ℕ) → n ≤ length cs → u.classes ≡ cs → classes_of (rows n u text) ≡ take n cs
rows_of text u n cs h c = rw (← c) (rows_class n u text (rw c h))

module _ {n end : ℕ} {cs os : List ℕ} (h : n ≤ length cs) {a : Result (Unit {0}) Unfit} (parsed : ParsesAs (take n cs) a) where
  pub settles_file : a ≡ Ok tt → Settles n end cs os (Ok n)
  unfolding told columns_answer outcome_answer syntax_answer
  settles_file g = record {
    told = λ text ls vs t f l.
        let u = columns_of cs os ls vs in
        let s = count_says text t u n l in
        let m = file_made parsed (rows n u text) (rows_of text u n cs h refl) g in
        let k = length_rows n u text in
        reads l (Ok n) (rw (m.parses (length text))) (record {
          allowed = s.0;
          lexed = s.1;
          count = k;
          tree = m.file;
          reads = m.reads ∙ ap (read m.file) k;
          parses = m.parses (length text);
          within = l.inside.0;
          inside = l.inside.1;
        });
  }

  -- an offset that is refused is that of the first unfit token, or the text's length
  unfit : {i : Unfit} {p : ℕ} → a ≡ Err i
      → ((text ls vs : List ℕ) (t : TokenColumns) → length text ≡ end → Lexes text t (columns_of cs os ls vs) (Ok n)
      → (offset_of (length text) (drop i.at (rows n (columns_of cs os ls vs) text)) ≡ p) × (p ≤ length text))
      → Settles n end cs os (Err (UnfitAt p))
  unfolding told columns_answer outcome_answer syntax_answer
  unfit {i} {p} g k = record {
    told = λ text ls vs t f l.
        let u = columns_of cs os ls vs in
        let s = count_says text t u n l in
        let q = k text ls vs t f l in
        let m = (token_unfit parsed (rows n u text) (rows_of text u n cs h refl) g).parses (length text) ∙ ap ungrammatical_at q.0 in
        reads l (Err (UnfitAt p)) (rw m) (record { allowed = s.0; all = rows n u text; lexed = s.1; parses = m; within = q.1 });
  }

  pub settles_unfit : {i : Unfit} {p : ℕ} → a ≡ Err i → i.at < n → p ≡ get_or os i.at 0 → Settles n end cs os (Err (UnfitAt p))
  unfolding offset_of row_token
  settles_unfit {i} g b q = unfit g λ text ls vs t f l. rw (drop_rows n (columns_of cs os ls vs) text i.at b, q) (refl, omega (arith, l.inside.1 i.at b))

  pub settles_ended : {i : Unfit} → a ≡ Err i → n ≤ i.at → Settles n end cs os (Err (UnfitAt end))
  unfolding offset_of
  settles_ended {i} g b = unfit g λ text ls vs t f l. rw (drop_rows_past n (columns_of cs os ls vs) text i.at b) (f, omega arith)

-- ---- for callers

module _ {text : List ℕ} {t u : TokenColumns} {r : Result ℕ SyntaxError} (l : ReadsText text t u r) where
  -- by the answer
  pub said : {s : Result ℕ SyntaxError} → r ≡ s → Says text t u s
  said e = subst (Says text t u) e l.says

  -- the columns are only too short for a text that is refused for it
  pub room_refused : length text ≤ 32768 → lacks_rows (length text) t ≡ true → r ≡ Err NoRoom
  unfolding text_answer columns_answer syntax_answer
  room_refused h e = of_answer r (l.answer ∙ rw (into_columns_short text t h e))
    where
      of_answer : (s : Result ℕ SyntaxError) → syntax_answer s ≡ 31 → s ≡ Err NoRoom
      of_answer (Ok n) z = absurd (omega arith)
      of_answer (Err TooLong) z = absurd (omega arith)
      of_answer (Err (NoTokenAt p)) z = absurd (omega arith)
      of_answer (Err (UnfitAt p)) z = absurd (omega arith)
      of_answer (Err NoRoom) z = refl

  -- a row for each byte of a text that is a file
  pub file_room : {n : ℕ} → r ≡ Ok n → HasRoom (length text) u
  file_room {n} e = go (lacks_rows (length text) t) refl
    where
      go : (b : Bool) → lacks_rows (length text) t ≡ b → HasRoom (length text) u
      go true f =
          let i : r ≡ Err NoRoom = room_refused (said e).allowed f in
          let z : ◌≡◌ {A = ℕ} 0 1 = cc in
          absurd (omega arith)
      go false f = room_kept (has_room (length text) t f) l.classes_kept l.offsets_kept l.lengths_kept l.values_kept

-- ---- no other answer meets the contract

module _ (text : List ℕ) (t u v : TokenColumns) where
  same_answer : (r s : Result ℕ SyntaxError) → syntax_answer r ≡ syntax_answer s → Says text t u r → Says text t v s → r ≡ s
  unfolding syntax_answer
  same_answer (Ok n) (Ok m) e h k = let z : rows n u text ≡ rows m v text = cc (h.lexed, k.lexed) in ap Ok (sym h.count ∙ ap length z ∙ k.count)
  same_answer (Ok n) (Err TooLong) e h k = absurd (omega arith)
  same_answer (Ok n) (Err (NoTokenAt q)) e h k = absurd (omega arith)
  same_answer (Ok n) (Err (UnfitAt q)) e h k = absurd (omega arith)
  same_answer (Ok n) (Err NoRoom) e h k = absurd (omega arith)
  same_answer (Err TooLong) (Ok m) e h k = absurd (omega arith)
  same_answer (Err TooLong) (Err TooLong) e h k = refl
  same_answer (Err TooLong) (Err (NoTokenAt q)) e h k = absurd (omega arith)
  same_answer (Err TooLong) (Err (UnfitAt q)) e h k = absurd (omega arith)
  same_answer (Err TooLong) (Err NoRoom) e h k = absurd (omega arith)
  same_answer (Err (NoTokenAt p)) (Ok m) e h k = absurd (omega arith)
  same_answer (Err (NoTokenAt p)) (Err TooLong) e h k = absurd (omega arith)
  same_answer (Err (NoTokenAt p)) (Err (NoTokenAt q)) e h k = let z : p ≡ q = omega arith in ap (λ p. Err (NoTokenAt p)) z
  same_answer (Err (NoTokenAt p)) (Err (UnfitAt q)) e h k = absurd (omega arith)
  same_answer (Err (NoTokenAt p)) (Err NoRoom) e h k = absurd (omega arith)
  same_answer (Err (UnfitAt p)) (Ok m) e h k = absurd (omega arith)
  same_answer (Err (UnfitAt p)) (Err TooLong) e h k = absurd (omega arith)
  same_answer (Err (UnfitAt p)) (Err (NoTokenAt q)) e h k = absurd (omega arith)
  same_answer (Err (UnfitAt p)) (Err (UnfitAt q)) e h k = let z : p ≡ q = omega arith in ap (λ p. Err (UnfitAt p)) z
  same_answer (Err (UnfitAt p)) (Err NoRoom) e h k = absurd (omega arith)
  same_answer (Err NoRoom) (Ok m) e h k = absurd (omega arith)
  same_answer (Err NoRoom) (Err TooLong) e h k = absurd (omega arith)
  same_answer (Err NoRoom) (Err (NoTokenAt q)) e h k = absurd (omega arith)
  same_answer (Err NoRoom) (Err (UnfitAt q)) e h k = absurd (omega arith)
  same_answer (Err NoRoom) (Err NoRoom) e h k = refl

  pub one_answer : {r s : Result ℕ SyntaxError} → ReadsText text t u r → ReadsText text t v s → r ≡ s
  one_answer {r} {s} l k = same_answer r s (l.answer ∙ sym k.answer) l.says k.says
