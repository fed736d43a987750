-- Where an entity's name stands, by its number, from the answer of the check, the columns and the directory.
use Prim.Native.Nat.{ℕ, ◌+◌, ◌≤◌, ◌<◌}
use native.Mathlib.Omega.{arith}
use mathlib.Core.Path.{◌≡◌, sym, ap, ap₂, ◌∙◌, subst}
use mathlib.Core.List.{List}
use mathlib.Core.Option.{Option, some}
use lib.ListN.{length, get_or, get_elem?}
use Rattle.text.specs.inner_contracts.TokenTable.{TokenColumns, columns_of}
use Rattle.text.specs.definitions.Syntax.{Entity, File}
use Rattle.std.specs.Prelude.{Ok, Err}
use Rattle.checking.specs.declared.check.CheckError.{CheckError}
use Rattle.checking.specs.declared.check.CheckError.TheVariants.{Refused, NoRoom}
use Rattle.checking.specs.declared.names.Span.{Span}
use Rattle.checking.specs.definitions.Verdict.{accepted_file, file_of, nth_entity, entity_of}
use Rattle.checking.specs.definitions.EntitySpan.{no_span, span_if_found, entity_span}
use Rattle.checking.specs.inner_contracts.Directory.{name_in}
use Rattle.checking.specs.inner_contracts.CheckedBench.{Checked, Accepts, Says}
use Rattle.checking.specs.inner_contracts.CheckSteps.{SpansEntity}
use Rattle.checking.proofs.laws.VerdictLaws.{accepted_is_file}
use Rattle.checking.proofs.laws.DirectoryLaws.{number_beyond, number_inside, column_bytes, column_offset}

-- the span of row i's token
abbrev row_span : List ℕ → List ℕ → List ℕ → ℕ → Span
row_span text os ls i = record { at = get_or os i 0; length = length (name_in text os ls i) }

module _ {text : List ℕ} {u : TokenColumns} {d : List ℕ} {n : ℕ} (h : Accepts text u d n) (number : ℕ) where
  abbrev file : File
  file = h.stands.bench.file

  span_is : entity_span text number ≡ span_if_found (get_elem? file.entities number)
  unfolding entity_span entity_of nth_entity
  span_is = ap (λ (o : Option File). span_if_found (nth_entity o number)) (accepted_is_file text h.stands.accepts)

  pub no_entity : get_or d 1 0 ≤ number → no_span ≡ entity_span text number
  unfolding span_if_found
  no_entity l =
      let z = h.stands.bench.directory.entities in
      sym (span_is ∙ ap span_if_found (number_beyond file.entities number (omega arith)))

  pub entity_there : number < get_or d 1 0 → row_span text u.offsets u.lengths (get_or d (227 + number) 0 + 1) ≡ entity_span text number
  unfolding span_if_found
  entity_there l = let z = h.stands.bench.directory.entities in go (number_inside file.entities number (omega arith))
    where
      go : (x : Entity) × (get_elem? file.entities number ≡ some x)
          → row_span text u.offsets u.lengths (get_or d (227 + number) 0 + 1) ≡ entity_span text number
      go (x, s) =
          let named = h.stands.bench.directory.entity_name number x s in
          let columns = h.stands.bench.columns in
          ap₂ (λ (o : ℕ) (b : List ℕ). record { at = o; length = length b }) (column_offset columns named) (column_bytes columns named)
          ∙ sym (span_is ∙ ap span_if_found s)

module _ {text os ls e : List ℕ} {x : Checked} {number : ℕ} where
  pub spans_none : {n count : ℕ} → x ≡ Ok n → count ≡ get_or e 1 0 → count ≤ number → SpansEntity text os ls e x number no_span
  spans_none q c l = record {
    told = λ cs vs d t h room. no_entity (subst (Says text (columns_of cs os ls vs) e) q h.says) number (omega arith);
  }

  pub spans_one : {n count row at : ℕ} {name : List ℕ} → x ≡ Ok n → count ≡ get_or e 1 0 → number < count → row ≡ get_or e (227 + number) 0
      → at ≡ get_or os (row + 1) 0 → name ≡ name_in text os ls (row + 1)
      → SpansEntity text os ls e x number (record { at = at; length = length name })
  spans_one q c l p o f = record {
    told = λ cs vs d t h room.
        ap₂ (λ (o : ℕ) (b : List ℕ). record { at = o; length = length b }) o f
        ∙ ap (λ i. row_span text os ls (i + 1)) p
        ∙ entity_there (subst (Says text (columns_of cs os ls vs) e) q h.says) number (omega arith);
  }

  pub spans_refused : (error : CheckError) → x ≡ Err error → SpansEntity text os ls e x number no_span
  unfolding entity_span span_if_found entity_of nth_entity accepted_file file_of
  spans_refused (Refused f) q = record { told = λ cs vs d t h room. let v = subst (Says text (columns_of cs os ls vs) e) q h.says in rw v }
  spans_refused NoRoom q = record { told = λ cs vs d t h room. absurd (h.enough room q) }
