-- The check's answer from that of `read` and the judgement of the file.
use Prim.Native.Nat.{ℕ, ◌≤◌, ◌<◌}
use native.Mathlib.Omega.{arith}
use mathlib.Core.Path.{◌≡◌, refl, sym, ap, ◌∙◌}
use mathlib.Core.Bool.{Bool, true, false, true≢false}
use mathlib.Core.List.{List}
use mathlib.Core.Option.{none, some}
use lib.Dec.{ltb}
use lib.ListN.{length, get_elem?, take}
use lib.Seq.{length-take-le, get_or-take}
use borrow.Author.Tests.{le-leb, lt-leb, le-ltb, ltb-false}
use Rattle.std.specs.Prelude.{Result, Ok, Err, IsErrAnd}
use Rattle.text.specs.declared.SyntaxError.{SyntaxError}
use Rattle.text.specs.declared.SyntaxError.TheVariants.{TooLong, NoTokenAt, UnfitAt, NoRoom as Short}
use Rattle.text.specs.inner_contracts.EnumAnswers.{offset_of}
use Rattle.text.specs.definitions.Tokens.{Token}
use Rattle.text.specs.definitions.Readers.{read}
use Rattle.text.specs.inner_contracts.TokenTable.{TokenColumns, columns_of, row_token, rows, lacks_rows}
use Rattle.text.specs.inner_contracts.Syntaxes.{FileText, ReadsText}
use Rattle.text.proofs.laws.ListLaws.{some_injective}
use Rattle.text.proofs.laws.SpotLaws.{stands_below, drop_stands}
use Rattle.text.proofs.laws.RowLaws.{length_rows, drop_rows}
use Rattle.text.proofs.laws.SyntaxLaws.{HasRoom, said, room_refused, file_room}
use Rattle.std.specs.Prelude.{Some, None}
use Rattle.checking.specs.declared.check.CheckError.TheVariants.{Refused, NoRoom}
use Rattle.checking.specs.declared.faults.Fault.{Fault}
use Rattle.checking.specs.inner_contracts.FoundFaults.{Found, found_as}
use Rattle.checking.specs.definitions.Verdict.{accepted, refused_by, MOST_BYTES, verdict, verdict_answer}
use Rattle.checking.specs.inner_contracts.Directory.{DIRECTORY, ColumnsOf}
use Rattle.checking.specs.inner_contracts.FileWalk.{Columned, Judged}
use Rattle.checking.specs.inner_contracts.CheckedBench.{ValuesOf, Checked, checked_answer, Accepts, Says, has_room, check_answer, Checks}
use Rattle.checking.specs.inner_contracts.CheckSteps.{error_as}
use Rattle.checking.proofs.laws.ReadingVerdict.{long_verdict, bad_verdict, unfit_verdict, file_verdicts}

-- ---- the rows of a table by their numbers

module _ (n : ℕ) (u : TokenColumns) (text : List ℕ) where
  row_stands : (i : ℕ) {t : Token} → get_elem? (rows n u text) i ≡ some t → (i < n) × (t ≡ row_token u text i)
  row_stands i e =
      let l : i < n = rw (length_rows n u text) at (stands_below (rows n u text) i e) in
      (l, some_injective (sym e ∙ (drop_stands (rows n u text) i (drop_rows n u text i l)).0))

  pub rows_columns : n ≤ length u.classes → ColumnsOf text (take n u.classes) u.offsets u.lengths (rows n u text)
  unfolding row_token
  rows_columns h = record {
    count = length_rows n u text ∙ sym (length-take-le n u.classes h);
    class = λ i t e. let (l, s) = row_stands i e in ap (λ (x : Token). x.class) s ∙ sym (get_or-take n u.classes i 0 l);
    offset = λ i t e. ap (λ (x : Token). x.at) (row_stands i e).1;
    bytes = λ i t e. ap (λ (x : Token). x.bytes) (row_stands i e).1;
  }

  pub rows_values : ValuesOf u.values (rows n u text)
  unfolding row_token
  rows_values i t e = ap (λ (x : Token). x.value) (row_stands i e).1

-- ---- room

module _ (text : List ℕ) (t : TokenColumns) (d : List ℕ) where
  -- the directory has too few rows
  directory_short : length d < DIRECTORY → has_room text t d ≡ false
  unfolding has_room
  directory_short h = rw (lt-leb DIRECTORY (length d) h)

  -- the columns do
  columns_short : DIRECTORY ≤ length d → length text ≤ MOST_BYTES → lacks_rows (length text) t ≡ true → has_room text t d ≡ false
  unfolding has_room
  columns_short h m l = rw (le-leb DIRECTORY (length d) h, le-ltb MOST_BYTES (length text) m, l)

  -- any other answer of `read` says that there is room
  room_enough : {u : TokenColumns} {s : Result ℕ SyntaxError} → DIRECTORY ≤ length d → ReadsText text t u s → (s ≡ Err Short → ⊥) → has_room text t d ≡ true
  unfolding has_room
  room_enough h l n = go (ltb MOST_BYTES (length text)) refl (lacks_rows (length text) t) refl
    where
      go : (a : Bool) → ltb MOST_BYTES (length text) ≡ a → (b : Bool) → lacks_rows (length text) t ≡ b → has_room text t d ≡ true
      go true e b f = rw (le-leb DIRECTORY (length d) h, e)
      go false e false f = rw (le-leb DIRECTORY (length d) h, e, f)
      go false e true f = absurd (n (room_refused l (ltb-false MOST_BYTES (length text) e) f))

  -- any text that is not too long fits
  pub room_for_all : 32768 ≤ length t.classes → 32768 ≤ length t.offsets → 32768 ≤ length t.lengths → 32768 ≤ length t.values
      → DIRECTORY ≤ length d → has_room text t d ≡ true
  unfolding has_room lacks_rows
  room_for_all c o l v h = go (ltb MOST_BYTES (length text)) refl
    where
      go : (a : Bool) → ltb MOST_BYTES (length text) ≡ a → has_room text t d ≡ true
      go true e = rw (le-leb DIRECTORY (length d) h, e)
      go false e =
          let m : length text ≤ 32768 = ltb-false MOST_BYTES (length text) e in
          rw (
            le-leb DIRECTORY (length d) h,
            e,
            le-ltb (length t.classes) (length text) (omega arith),
            le-ltb (length t.offsets) (length text) (omega arith),
            le-ltb (length t.lengths) (length text) (omega arith),
            le-ltb (length t.values) (length text) (omega arith),
          )

-- ---- answers

refused_room : {f : Fault} → ◌≡◌ {A = Checked} (Err (Refused f)) (Err NoRoom) → ⊥
refused_room h = let z : ◌≡◌ {A = ℕ} 0 1 = cc in omega arith

accepted_room : {n : ℕ} → ◌≡◌ {A = Checked} (Ok n) (Err NoRoom) → ⊥
accepted_room h = let z : ◌≡◌ {A = ℕ} 0 1 = cc in omega arith

error_short : {x : SyntaxError} → (x ≡ Short → ⊥) → ◌≡◌ {A = Result ℕ SyntaxError} (Err x) (Err Short) → ⊥
error_short f h = f cc

file_short : {n : ℕ} → ◌≡◌ {A = Result ℕ SyntaxError} (Ok n) (Err Short) → ⊥
file_short h = let z : ◌≡◌ {A = ℕ} 0 1 = cc in omega arith

-- document 01's number, without room and with it

module _ (text : List ℕ) (t u : TokenColumns) (d e : List ℕ) where
  short_answer : has_room text t d ≡ false → checked_answer (Err NoRoom) ≡ check_answer text t d
  unfolding checked_answer check_answer
  short_answer h = rw h

  said_answer : (r : Checked) → has_room text t d ≡ true → (r ≡ Err NoRoom → ⊥) → Says text u e r → checked_answer r ≡ check_answer text t d
  unfolding checked_answer check_answer verdict_answer
  said_answer (Ok n) h z s = rw (h, s.stands.accepts)
  said_answer (Err (Refused f)) h z s = rw (h, s)
  said_answer (Err NoRoom) h z s = absurd (z refl)

pub checks_short : {text : List ℕ} {t : TokenColumns} {d : List ℕ} → length d < DIRECTORY → Checks text t t d d (Err NoRoom)
checks_short {text} {t} {d} h = record {
  answer = short_answer text t t d d (directory_short text t d h);
  short = λ e. refl;
  enough = λ e f. true≢false (sym e ∙ directory_short text t d h);
  says = tt;
  classes_kept = refl;
  offsets_kept = refl;
  lengths_kept = refl;
  values_kept = refl;
  directory_kept = refl;
}

-- ---- from the answer of `read`

-- an offset that a bench file can have
offset_within : {text : List ℕ} {t u : TokenColumns} {s : Result ℕ SyntaxError} → ReadsText text t u s → (x : SyntaxError) → s ≡ Err x
    → offset_of x ≤ MOST_BYTES
unfolding offset_of
offset_within l TooLong x = omega arith
offset_within l (NoTokenAt q) x = let h = said l x in omega (arith, h.within, h.allowed)
offset_within l (UnfitAt q) x = let h = said l x in omega (arith, h.within, h.allowed)
offset_within l Short x = omega arith

-- the rows of a file's tokens are there
pub class_rows : {text : List ℕ} {t u : TokenColumns} {s : Result ℕ SyntaxError} {n : ℕ} → ReadsText text t u s → s ≡ Ok n → n ≤ length u.classes
class_rows {text} {t} {u} {n = n} l x =
    let file : FileText text u n = said l x in
    let room : HasRoom (length text) u = file_room l x in
    omega (arith, file.within, room.classes)

module _ {text : List ℕ} {t u : TokenColumns} {s : Result ℕ SyntaxError} {n : ℕ} (l : ReadsText text t u s) (x : s ≡ Ok n) where
  abbrev file_read : FileText text u n
  file_read = said l x

  abbrev room_read : HasRoom (length text) u
  room_read = file_room l x

module _ {text cs os ls vs d e : List ℕ} {s : Result ℕ SyntaxError} (t : TokenColumns) (l : ReadsText text t (columns_of cs os ls vs) s)
    (k : DIRECTORY ≤ length d) (size : length e ≡ length d) where
  -- an answer that is not NoRoom
  room_told : {r : Checked} → (s ≡ Err Short → ⊥) → (r ≡ Err NoRoom → ⊥) → Says text (columns_of cs os ls vs) e r → Checks text t (columns_of cs os ls vs) d e r
  room_told {r} a b h = record {
    answer = said_answer text t (columns_of cs os ls vs) d e r (room_enough text t d k l a) b h;
    short = λ x. absurd (true≢false (sym (room_enough text t d k l a) ∙ x));
    enough = λ x. b;
    says = h;
    classes_kept = l.classes_kept;
    offsets_kept = l.offsets_kept;
    lengths_kept = l.lengths_kept;
    values_kept = l.values_kept;
    directory_kept = size;
  }

  settles_short : s ≡ Err Short → Checks text t (columns_of cs os ls vs) d e (Err NoRoom)
  settles_short x = record {
    answer = short_answer text t t d d (columns_short text t d k (said l x).0 (said l x).1);
    short = λ y. refl;
    enough = λ y z. true≢false (sym y ∙ columns_short text t d k (said l x).0 (said l x).1);
    says = tt;
    classes_kept = l.classes_kept;
    offsets_kept = l.offsets_kept;
    lengths_kept = l.lengths_kept;
    values_kept = l.values_kept;
    directory_kept = size;
  }

  -- what `read` refuses is refused so
  settles_error : (x : SyntaxError) → s ≡ Err x → Checks text t (columns_of cs os ls vs) d e (Err (error_as x))
  settles_error TooLong x = room_told (λ y. error_short (λ e. let z : ◌≡◌ {A = ℕ} 0 1 = cc in omega arith) (sym x ∙ y)) refused_room (long_verdict l x)
  settles_error (NoTokenAt q) x =
      room_told (λ y. error_short (λ e. let z : ◌≡◌ {A = ℕ} 0 1 = cc in omega arith) (sym x ∙ y)) refused_room (bad_verdict l x)
  settles_error (UnfitAt q) x =
      room_told (λ y. error_short (λ e. let z : ◌≡◌ {A = ℕ} 0 1 = cc in omega arith) (sym x ∙ y)) refused_room (unfit_verdict l x)
  settles_error Short x = settles_short x

  -- as `?` hands it on
  pub settles_handed : (x : SyntaxError) → s ≡ Err x → (r : Checked) → IsErrAnd r (λ e. offset_of x ≤ MOST_BYTES → e ≡ error_as x)
      → Checks text t (columns_of cs os ls vs) d e r
  settles_handed x q (Ok n) h = elim h [ ]
  settles_handed x q (Err y) h = rw (h (offset_within l x q)) (settles_error x q)

  -- a file of n tokens, judged by its first n rows
  module _ {n : ℕ} (x : s ≡ Ok n) where
    module _ {found : Found} (j : Judged text (take n cs) os ls vs d e found) where
      abbrev held : Columned text (take n cs) os ls vs d
      held = record {
        file = (file_read l x).tree;
        tokens = rows n (columns_of cs os ls vs) text;
        columns = rows_columns n (columns_of cs os ls vs) text (class_rows l x);
        valued = rows_values n (columns_of cs os ls vs) text;
        reads = (file_read l x).reads ∙ ap (read (file_read l x).tree) (sym (file_read l x).count);
        numbers = omega (arith, length-take-le n cs (class_rows l x), (file_read l x).within, (file_read l x).allowed);
        room = k;
      }

      found_verdict : verdict text ≡ refused_by (found_as found) (accepted (file_read l x).tree)
      found_verdict = file_verdicts l x ∙ sym (j.verdict held)

      accepts : found_as found ≡ none → Accepts text (columns_of cs os ls vs) e n
      unfolding refused_by
      accepts q = record {
        within = (file_read l x).within;
        rows = (
          class_rows l x,
          omega (arith, (file_read l x).within, (room_read l x).offsets),
          omega (arith, (file_read l x).within, (room_read l x).lengths),
          omega (arith, (file_read l x).within, (room_read l x).values),
        );
        stands = record {
          bench = record {
            file = (file_read l x).tree;
            tokens = rows n (columns_of cs os ls vs) text;
            columns = held.columns;
            directory = j.directory held q;
          };
          accepts = found_verdict ∙ ap (λ o. refused_by o (accepted (file_read l x).tree)) q;
          lexed = (file_read l x).lexed;
          reads = held.reads;
          few = j.few held q;
          few_rules = j.few_rules held q;
          valued = held.valued;
        };
      }

      pub settles_accepted : found ≡ None → Checks text t (columns_of cs os ls vs) d e (Ok n)
      unfolding found_as
      settles_accepted q = room_told (λ z. file_short (sym x ∙ z)) accepted_room (accepts (ap found_as q))

      pub settles_fault : {f : Fault} → found ≡ Some f → Checks text t (columns_of cs os ls vs) d e (Err (Refused f))
      unfolding found_as refused_by
      settles_fault q =
          room_told (λ z. file_short (sym x ∙ z)) refused_room (found_verdict ∙ ap (λ y. refused_by (found_as y) (accepted (file_read l x).tree)) q)
