-- The walk over the assignments of one entity: what is found before a token, and what is left.
use Prim.Native.Nat.{ℕ, ◌+◌, ◌≤◌, ◌<◌}
use native.Mathlib.Omega.{arith}
use mathlib.Core.Path.{◌≡◌, refl, sym, ap, ◌∙◌}
use mathlib.Core.Bool.{Bool, true, false, not}
use mathlib.Core.List.{List, [], ◌∷◌, ◌++◌, map, flat_map, map-append}
use mathlib.Core.Option.{Option, none, some}
use Rattle.std.specs.Prelude as code
use Rattle.std.specs.Prelude.{unwrap_or}
use lib.Dec.{ltb}
use lib.ListN.{length, get_or, get_elem?}
use borrow.Author.Tests.{ltb-true, ltb-false}
use Rattle.values.specs.definitions.Bytes.{same_bytes}
use Rattle.text.specs.definitions.Tokens.{NAME, BRACE_CLOSE}
use Rattle.text.specs.definitions.Syntax.{Name, Assignment}
use Rattle.text.specs.definitions.Grammar.{assignment_after}
use Rattle.checking.specs.definitions.Faults.{Fault, fault_unless, earliest}
use Rattle.checking.specs.inner_contracts.FoundFaults.{Found, found_as, merged}
use Rattle.checking.specs.definitions.Scope.{Indexed as Numbered, here_or_later, look_up, is_found, is_attribute}
use Rattle.checking.specs.definitions.NameFaults.{repeated_faults, again_faults, member_faults}
use Rattle.checking.specs.definitions.KindFaults.{assignment_kind_faults}
use Rattle.checking.specs.inner_contracts.Directory.{name_in, member_number}
use Rattle.checking.specs.inner_contracts.DirectoryReads.{Numbered as NumberedOf, FewMembers}
use Rattle.checking.specs.inner_contracts.Sequences.{Sequence, over}
use Rattle.checking.specs.inner_contracts.DeclarationWalk.{AssignmentEnd, Sets, AttributeFound, KindFound, Body, AssignmentsFound}
use Rattle.checking.proofs.laws.DirectoryLaws.{number_below, column_bytes, column_offset}
use Rattle.checking.proofs.laws.WalkedFaults.{unless_same, Left, left_all, left_next, left_none}
use Rattle.checking.proofs.laws.SequenceLaws.{sequence_snoc, sequence_first, First, sequence_ends}
use Rattle.checking.proofs.laws.EntityTokens.{AssignmentAt, assignment_stands}
use Rattle.checking.proofs.laws.AssignmentLaws.{next_assignment}

-- a name among the names of a list
mapped_found : {A : Type 0} (name : A → Name) (n : List ℕ) (xs : List A) → is_found (look_up (λ m. m) n (map name xs)) ≡ is_found (look_up name n xs)
unfolding look_up is_found
mapped_found name n [] = refl
mapped_found {A} name n (x ∷ xs) =
    go (same_bytes n (name x).bytes) (look_up (λ m. m) n (map name xs)) (look_up name n xs) (mapped_found name n xs)
  where
    go : (b : Bool) (o : Option (Numbered Name)) (p : Option (Numbered A)) → is_found o ≡ is_found p
        → is_found (here_or_later b (name x) o) ≡ is_found (here_or_later b x p)
    go true o p e = refl
    go false none none e = refl
    go false none (some q) e = e
    go false (some r) none e = e
    go false (some r) (some q) e = refl

-- the faults of one assignment's name and kind
abbrev pub name_fault : {text classes offsets lengths d : List ℕ} {from : ℕ} → Body text classes offsets lengths d from → ℕ → Assignment → List Fault
name_fault b face a = member_faults is_attribute (get_elem? b.bench.file.interfaces face) a.name

abbrev pub kind_fault : {text classes offsets lengths d : List ℕ} {from : ℕ} → Body text classes offsets lengths d from → ℕ → Assignment → List Fault
kind_fault b face a = assignment_kind_faults (get_elem? b.bench.file.interfaces face) a

-- what is found before token number q, in one world
pub record AssigningIn {text classes offsets lengths d : List ℕ} {from : ℕ} (b : Body text classes offsets lengths d from) (face : ℕ)
    (again members kinds : Found) (q : ℕ) : Type 0 where
  pub before : List Assignment
  pub rest : List Assignment
  pub passed : Sequence b.bench.tokens NAME assignment_after from q before
  pub ahead : Sequence b.bench.tokens NAME assignment_after q b.body.close rest
  pub again_left : Left (found_as again) (repeated_faults (map (λ a. a.name) before) (map (λ a. a.name) rest))
      (again_faults (map (λ a. a.name) b.entity.assignments))
  pub members_left : Left (found_as members) (flat_map (name_fault b face) rest) (flat_map (name_fault b face) b.entity.assignments)
  pub kinds_left : Left (found_as kinds) (flat_map (kind_fault b face) rest) (flat_map (kind_fault b face) b.entity.assignments)

-- in every world
pub record Assigning (text classes offsets lengths d : List ℕ) (face from : ℕ) (again members kinds : Found) (q : ℕ) : Type 0 where
  pub left : (b : Body text classes offsets lengths d from) → AssigningIn b face again members kinds q

pub close_inside : {text classes offsets lengths d : List ℕ} {from : ℕ} (b : Body text classes offsets lengths d from) → b.body.close < length classes
close_inside b = let h = number_below b.bench.tokens b.body.close b.body.stands in let c = b.bench.columns.count in omega arith

module _ {text classes offsets lengths d : List ℕ} {face from : ℕ} where
  pub assigning_begins : {again members kinds : Found} → found_as again ≡ none → found_as members ≡ none → found_as kinds ≡ none
      → Assigning text classes offsets lengths d face from again members kinds from
  unfolding again_faults
  assigning_begins e f g = record {
    left = λ b.
        record {
          before = [];
          rest = b.entity.assignments;
          passed = over;
          ahead = b.body.set;
          again_left = left_all (again_faults (map (λ a. a.name) b.entity.assignments)) e;
          members_left = left_all (flat_map (name_fault b face) b.entity.assignments) f;
          kinds_left = left_all (flat_map (kind_fault b face) b.entity.assignments) g;
        };
  }

  module _ {again members kinds : Found} {q : ℕ} (p : Assigning text classes offsets lengths d face from again members kinds q) where
    assigned : ((b : Body text classes offsets lengths d from) → b.body.close ≤ q)
        → AssignmentsFound text classes offsets lengths d face from (record { again = again; members = members; kinds = kinds; end = q })
    unfolding repeated_faults flat_map
    assigned h = record {
      end = λ b. (sequence_ends (p.left b).ahead (h b)).1;
      again = λ b.
          left_none (p.left b).again_left
          (ap (λ ys. repeated_faults (map (λ a. a.name) (p.left b).before) (map (λ a. a.name) ys)) (sequence_ends (p.left b).ahead (h b)).0);
      members = λ b. left_none (p.left b).members_left (ap (flat_map (name_fault b face)) (sequence_ends (p.left b).ahead (h b)).0);
      kinds = λ b. left_none (p.left b).kinds_left (ap (flat_map (kind_fault b face)) (sequence_ends (p.left b).ahead (h b)).0);
    }

    -- the next token is no name, so it is the `}`
    pub assigning_stops : {c : ℕ} → c ≡ get_or classes q 0 → (c ≡ NAME → ⊥)
        → AssignmentsFound text classes offsets lengths d face from (record { again = again; members = members; kinds = kinds; end = q })
    assigning_stops {c} e n = assigned (λ b. go b (ltb q b.body.close) refl)
      where
        go : (b : Body text classes offsets lengths d from) (t : Bool) → ltb q b.body.close ≡ t → b.body.close ≤ q
        go b true t =
            let f = sequence_first (p.left b).ahead (ltb-true q b.body.close t) in
            absurd (n (e ∙ sym (b.bench.columns.class q f.begins.token f.begins.stands) ∙ f.begins.class))
        go b false t = ltb-false q b.body.close t

    -- beyond the table there is no `}`
    pub assigning_outside : length classes ≤ q
        → AssignmentsFound text classes offsets lengths d face from (record { again = again; members = members; kinds = kinds; end = q })
    assigning_outside h = assigned (λ b. let c = close_inside b in omega arith)

  -- one assignment more
  module _ {again members kinds : Found} {q : ℕ} (b : Body text classes offsets lengths d from) (x : AssigningIn b face again members kinds q)
      (y : First b.bench.tokens NAME assignment_after q b.body.close x.rest)
      (a : AssignmentAt classes offsets b.bench.tokens q y.head y.begins.used) where
    is_new : {t : Bool} → q < length classes → Sets text classes offsets lengths from q q t
        → not t ≡ not (is_found (look_up (λ n. n) y.head.name.bytes (map (λ c. c.name) x.before)))
    is_new l s =
        ap not
        (s.is b.bench.tokens b.bench.columns x.before x.passed l
        ∙ ap (λ n. is_found (look_up (λ c. c.name) n x.before)) (column_bytes b.bench.columns a.named)
        ∙ sym (mapped_found (λ c. c.name) y.head.name.bytes x.before))

    numbered : {m : code.Option ℕ} {called : List ℕ} → called ≡ name_in text offsets lengths q
        → NumberedOf text offsets lengths d 12 (FewMembers face) (λ f. member_number (get_elem? f.interfaces face) called) m
        → unwrap_or m 12 ≡ member_number (get_elem? b.bench.file.interfaces face) y.head.name.bytes
    numbered e i =
        i.is classes b.bench (b.few.members face)
        ∙ ap (member_number (get_elem? b.bench.file.interfaces face)) (e ∙ column_bytes b.bench.columns a.named)

  module _ {again members kinds again' members' kinds' : Found} {q offset last : ℕ} {m : code.Option ℕ} {called : List ℕ} {t : Bool} {one : Option Fault} {name kind : Found}
      (l : q < length classes) (o : offset ≡ get_or offsets q 0) (s : Sets text classes offsets lengths from q q t)
      (u : one ≡ earliest (fault_unless (not t) 15 offset)) (f : found_as again' ≡ merged (found_as again) one)
      (e' : called ≡ name_in text offsets lengths q)
      (i : NumberedOf text offsets lengths d 12 (FewMembers face) (λ f. member_number (get_elem? f.interfaces face) called) m)
      (v : AttributeFound classes offsets d face (unwrap_or m 12) q name) (g : found_as members' ≡ merged (found_as members) (found_as name))
      (z : AssignmentEnd classes q last)
      (k : KindFound classes offsets d face (unwrap_or m 12) (q + 1) last kind) (h : found_as kinds' ≡ merged (found_as kinds) (found_as kind)) where
    module _ (b : Body text classes offsets lengths d from) (x : AssigningIn b face again members kinds q)
        (y : First b.bench.tokens NAME assignment_after q b.body.close x.rest)
        (a : AssignmentAt classes offsets b.bench.tokens q y.head y.begins.used) where
      turned : AssigningIn b face again' members' kinds' (last + 1)
      unfolding repeated_faults flat_map
      turned =
          let (e, n) = next_assignment a y.within (close_inside b) z in
          record {
            before = x.before ++ y.head ∷ [];
            rest = y.tail;
            passed = rw n (sequence_snoc x.passed y.begins);
            ahead = rw n y.rest;
            again_left =
                rw map-append
                (left_next (fault_unless (not (is_found (look_up (λ n. n) y.head.name.bytes (map (λ c. c.name) x.before)))) 15 y.head.name.at)
                (rw (← y.joins) at x.again_left)
                (u ∙ unless_same 15 (is_new b x y a l s) (o ∙ column_offset b.bench.columns a.named))
                f);
            members_left =
                left_next (name_fault b face y.head) (rw (← y.joins) at x.members_left)
                (v.is text lengths b.bench b.few y.head.name a.named (numbered b x y a e' i)) g;
            kinds_left =
                left_next (kind_fault b face y.head) (rw (← y.joins) at x.kinds_left)
                (k.is text lengths b.bench b.few y.head (numbered b x y a e' i) a.equals (rw e a.kind)) h;
          }

    pub assigning_on : Assigning text classes offsets lengths d face from again members kinds q → {c : ℕ} → c ≡ get_or classes q 0 → c ≡ NAME
        → Assigning text classes offsets lengths d face from again' members' kinds' (last + 1)
    assigning_on p {c} e n = record { left = λ b. go b (ltb q b.body.close) refl }
      where
        go : (b : Body text classes offsets lengths d from) (t : Bool) → ltb q b.body.close ≡ t → AssigningIn b face again' members' kinds' (last + 1)
        go b true w =
            let y = sequence_first (p.left b).ahead (ltb-true q b.body.close w) in
            turned b (p.left b) y (assignment_stands b.bench.columns y.begins)
        go b false w =
            let here = (sequence_ends (p.left b).ahead (ltb-false q b.body.close w)).1 in
            let j : get_or classes b.body.close 0 ≡ BRACE_CLOSE =
            sym (b.bench.columns.class b.body.close b.body.closing b.body.stands) ∙ b.body.class in
            let r : get_or classes q 0 ≡ BRACE_CLOSE = rw here j in
            absurd (omega arith)

-- the turns over the assignments
pub ruleset assigning_turns = (assigning_begins, assigning_stops, assigning_outside, assigning_on)
